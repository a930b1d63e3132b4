-- What a word spells, it spells as the thing's text.
use Rattle.act_rules.proofs.Common.{◌≡◌, ◌==◌, Bool, true, false, cond, nat_lt, List, [], ◌∷◌, slice_index, Result, Ok, Err, refl, ap, ◌∙◌, Some, find}
use Rattle.act_rules.proofs.Common.{bytes_eq, codes, bytes_decides, Value, Arg, Plain, Fut, is_good_text, caller_text, actor_text, method_text, value_text}
use Rattle.act_rules.proofs.Common.{Wrong, BadLine, Word, ◌>>=◌, or_bad_line, named_by, kind_text, all_kinds, all_methods, number_at, int_at, marked_at}
use Rattle.act_rules.proofs.Common.{closed_at, HasOneSpelling, arg_text}
use Rattle.act_types.specs.declared.call.Value.TheVariants as value
use Rattle.act_rules.specs.Words.{method_at, caller_at, actor_at, text_at, value_at, arg_at}
use Rattle.act_rules.proofs.Numbers.{chosen, number_is_printed, int_is_printed}
use Rattle.act_rules.proofs.Marks.{marked_is, closed_is}

-- what the first gave, and what came of it
pub parts : {A B F : Type 0} (r : Result A F) (f : A → Result B F) (y : B) → (r >>= f) ≡ Ok y → (x : A) × (r ≡ Ok x) × (f x ≡ Ok y)
parts (Ok x) f y h = (x, refl, h)
parts (Err e) f y h = cc

-- a test that had to fail
refused : {A : Type 0} (b : Bool) (r : Result A Wrong) (y : A) → cond b (Err BadLine) r ≡ Ok y → r ≡ Ok y
refused true r y h = cc
refused false r y h = h

-- ---- names

by_name : {A : Type 0} (text : A → Word) (y : A) (ys : List A) (word : Word) (x : A) (b : Bool) → bytes_eq word (text y) ≡ b →
    (named_by text ys word ≡ Ok x → word ≡ text x) → or_bad_line (cond b (Some y) (find (λ z. bytes_eq word (text z)) ys)) ≡ Ok x → word ≡ text x
by_name text y ys word x true e later h = let same : y ≡ x = cc in (bytes_decides word (text y)).0 e ∙ ap text same
by_name text y ys word x false e later h = later h

named_is : {A : Type 0} (text : A → Word) (all : List A) → HasOneSpelling (named_by text all) text
named_is text [] word x h = cc
named_is text (y ∷ ys) word x h = by_name text y ys word x (bytes_eq word (text y)) refl (named_is text ys word x) h

pub kind_is_text : HasOneSpelling (named_by kind_text all_kinds) kind_text
kind_is_text = named_is kind_text all_kinds

pub method_is_text : HasOneSpelling method_at method_text
unfolding method_at
method_is_text = named_is method_text all_methods

-- ---- callers and actors

pub caller_is_text : HasOneSpelling caller_at caller_text
unfolding caller_at
caller_is_text word c h =
    let marked = parts (marked_at word 99) _ c h in let number = parts (number_at marked.0) _ c marked.2 in
    let some = refused (nat_lt number.0 1) _ c number.2 in let few = refused (nat_lt 16 number.0) _ c some in let same : number.0 ≡ c = cc in
    marked_is word 99 marked.1 ∙ ap (λ ds. 99 ∷ ds) (number_is_printed marked.0 number.1) ∙ ap caller_text same

pub actor_is_text : HasOneSpelling actor_at actor_text
unfolding actor_at
actor_is_text word a h =
    let marked = parts (marked_at word 97) _ a h in let number = parts (number_at marked.0) _ a marked.2 in
    let some = refused (nat_lt number.0 1) _ a number.2 in let few = refused (nat_lt 8 number.0) _ a some in let same : number.0 ≡ a = cc in
    marked_is word 97 marked.1 ∙ ap (λ ds. 97 ∷ ds) (number_is_printed marked.0 number.1) ∙ ap actor_text same

-- ---- values

text_is_quoted : (word text : Word) → text_at word ≡ Ok text → word ≡ value_text (value.Text text)
unfolding text_at
text_is_quoted word text h =
    let opened = parts (marked_at word 34) _ text h in let closed = parts (closed_at opened.0 34) _ text opened.2 in
    let good = chosen (is_good_text closed.0) closed.0 text closed.2 in
    marked_is word 34 opened.1
    ∙ ap (λ bs. 34 ∷ bs) (closed_is opened.0 closed.0 34 closed.1)
    ∙ ap (λ bs. value_text (value.Text bs)) good.1

of_text : (word : Word) (v : Value) → (text_at word >>= λ t. Ok (value.Text t)) ≡ Ok v → word ≡ value_text v
of_text word v h =
    let text = parts (text_at word) (λ t. Ok (value.Text t)) v h in let same : value.Text text.0 ≡ v = cc in
    text_is_quoted word text.0 text.1 ∙ ap value_text same

of_int : (word : Word) (v : Value) → (int_at word >>= λ n. Ok (value.Int n)) ≡ Ok v → word ≡ value_text v
of_int word v h =
    let int = parts (int_at word) (λ n. Ok (value.Int n)) v h in let same : value.Int int.0 ≡ v = cc in int_is_printed word int.0 int.1 ∙ ap value_text same

by_quote : (b : Bool) (word : Word) (v : Value) → cond b (text_at word >>= λ t. Ok (value.Text t)) (int_at word >>= λ n. Ok (value.Int n)) ≡ Ok v →
    word ≡ value_text v
by_quote true word v h = of_text word v h
by_quote false word v h = of_int word v h

by_unit : (b : Bool) (word : Word) (v : Value) → bytes_eq word (codes "unit") ≡ b → cond b (Ok value.Unit)
    (cond (slice_index word 0 == 34) (text_at word >>= λ t. Ok (value.Text t)) (int_at word >>= λ n. Ok (value.Int n))) ≡ Ok v → word ≡ value_text v
by_unit true word v e h = let same : value.Unit ≡ v = cc in (bytes_decides word (codes "unit")).0 e ∙ ap value_text same
by_unit false word v e h = by_quote (slice_index word 0 == 34) word v h

pub value_is_text : HasOneSpelling value_at value_text
unfolding value_at
value_is_text word v h = by_unit (bytes_eq word (codes "unit")) word v refl h

-- ---- arguments

by_mark : (b : Bool) (word : Word) (x : Arg) →
    cond b (marked_at word 64 >>= λ digits. number_at digits >>= λ k. Ok (Fut k)) (value_at word >>= λ v. Ok (Plain v)) ≡ Ok x → word ≡ arg_text x
by_mark true word x h =
    let marked = parts (marked_at word 64) (λ digits. number_at digits >>= λ k. Ok (Fut k)) x h in
    let number = parts (number_at marked.0) (λ k. Ok (Fut k)) x marked.2 in let same : Fut number.0 ≡ x = cc in
    marked_is word 64 marked.1 ∙ ap (λ ds. 64 ∷ ds) (number_is_printed marked.0 number.1) ∙ ap arg_text same
by_mark false word x h =
    let value = parts (value_at word) (λ v. Ok (Plain v)) x h in let same : Plain value.0 ≡ x = cc in value_is_text word value.0 value.1 ∙ ap arg_text same

pub arg_is_text : HasOneSpelling arg_at arg_text
unfolding arg_at
arg_is_text word x h = by_mark (slice_index word 0 == 64) word x h
