-- What a script spells is sayable.
use Rattle.act_summaries.proofs.Common.{◌≡◌, ℕ, zero, suc, ◌+◌, ◌≤◌, ◌==◌, ◌&&◌, ◌^◌, Bool, true, false, cond, List, [], ◌∷◌, ◌++◌, codes, refl, sym, ap, ◌∙◌}
use Rattle.act_summaries.proofs.Common.{subst, arith, find, slice_index, drop, Option, Some, None, Result, Ok, Err, bytes_eq, nat_lt, nat_le, ℤ, pos, neg_ℤ}
use Rattle.act_summaries.proofs.Common.{length, AllByRecursion, list_all, and_parts, and_from, ltb-true, leb-true, nat_tests, is_good_text, method_text, Arg}
use Rattle.act_summaries.proofs.Common.{Plain, Fut, Method, Value, Role, Wrong, is_in_range, is_number, is_caller_number, is_actor_number, is_sayable}
use Rattle.act_summaries.proofs.Common.{is_sayable_arg, is_sayable_method, Word, ◌>>=◌, or_bad_line, named_by, kind_text, all_kinds, all_methods, is_numeral}
use Rattle.act_summaries.proofs.Common.{limit_at, is_integer, fits_int, int_value, marked_at, closed_at, each_at, args_at, one_at, two_at, some_callers_at}
use Rattle.act_summaries.proofs.Common.{limited_at, Form, forms_of, plain_at, is_skipped, words_in, Script, no_lines, role_fault, unless, add_line}
use Rattle.act_summaries.proofs.Common.{added_unless_skipped, line_added, in_line, spelled_from, lines_in, spelled, is_sayable_role, is_sayable_event}
use Rattle.std.specs.Str.Parse.{digits_value}
use Rattle.std.proofs.lemmas.List.Folds.{list_all-append}
use Rattle.act_types.specs.declared.call.Value.TheVariants as value
use Rattle.act_rules.specs.declared.event.Event.TheVariants as event
use Rattle.act_rules.specs.declared.script.Line.{Line}
use Rattle.act_rules.specs.declared.script.Line.TheVariants.{Role as RoleLine, Event as EventLine, Step as StepLine}
use Rattle.act_rules.specs.declared.script.Mode.{Mode}
use Rattle.act_rules.specs.declared.script.Mode.TheVariants.{Play, Threads}
use Rattle.act_rules.specs.declared.script.Step.TheVariants as step
use Rattle.act_rules.specs.declared.script.Wrong.TheVariants.{BadLine}
use Rattle.act_rules.specs.Words.{method_at, number_at, int_at, caller_at, actor_at, text_at, value_at, arg_at}
use Rattle.act_rules.specs.Grammar.{naming_at, role_at, submit_at, play_forms, thread_forms, form_at, line_at, spelled_by}
use Rattle.act_rules.proofs.Numbers.{chosen}
use Rattle.act_summaries.proofs.Replies.{low_in_range}
use Rattle.act_summaries.proofs.Facts.{found}
use Rattle.act_rules.proofs.Spelling.{parts}

-- a test that had to fail
refused : {A : Type 0} (b : Bool) (r : Result A Wrong) (y : A) → cond b (Err BadLine) r ≡ Ok y → (b ≡ false) × (r ≡ Ok y)
refused true r y h = cc
refused false r y h = (refl, h)

-- two ways, of which one was taken
either_way : {A F : Type 0} (P : A → Type 0) (b : Bool) (r s : Result A F) {y : A} → cond b r s ≡ Ok y → (r ≡ Ok y → P y) → (s ≡ Ok y → P y) → P y
either_way P true r s h p q = p h
either_way P false r s h p q = q h

-- what is given is this
given : {A F : Type 0} (P : A → Type 0) (x y : A) (r : Result A F) → r ≡ Ok x → r ≡ Ok y → P x → P y
given P x y r p q holds = let both = sym p ∙ q in let same : x ≡ y = cc in subst P same holds

-- ---- numbers

number_good : (word : Word) (n : ℕ) → number_at word ≡ Ok n → is_number n ≡ true
unfolding number_at
number_good word n h =
    let p = chosen (is_numeral word && nat_lt (digits_value 10 word) (2 ^ 32)) (digits_value 10 word) n h in
    let q = and_parts (is_numeral word) (nat_lt (digits_value 10 word) (2 ^ 32)) p.0 in subst (λ m. is_number m ≡ true) p.1 q.1

ranged : (n most : ℕ) → nat_lt n 1 ≡ false → nat_lt most n ≡ false → (nat_le 1 n && nat_le n most) ≡ true
ranged n most some few = grind (arith, nat_tests)

caller_good : (word : Word) (c : ℕ) → caller_at word ≡ Ok c → is_caller_number c ≡ true
unfolding caller_at
caller_good word c h =
    let marked = parts (marked_at word 99) _ c h in let number = parts (number_at marked.0) _ c marked.2 in
    let some = refused (nat_lt number.0 1) _ c number.2 in let few = refused (nat_lt 16 number.0) _ c some.1 in
    given (λ n. is_caller_number n ≡ true) number.0 c _ refl few.1 (ranged number.0 16 some.0 few.0)

actor_good : (word : Word) (a : ℕ) → actor_at word ≡ Ok a → is_actor_number a ≡ true
unfolding actor_at
actor_good word a h =
    let marked = parts (marked_at word 97) _ a h in let number = parts (number_at marked.0) _ a marked.2 in
    let some = refused (nat_lt number.0 1) _ a number.2 in let few = refused (nat_lt 8 number.0) _ a some.1 in
    given (λ n. is_actor_number n ≡ true) number.0 a _ refl few.1 (ranged number.0 8 some.0 few.0)

below_in_range : (n : ℕ) → n ≤ 2 ^ 63 → is_in_range (neg_ℤ (pos n)) ≡ true
below_in_range zero few = refl
below_in_range (suc n) few = grind (arith, nat_tests)

signed_in_range : (b : Bool) (m n : ℕ) → cond b (nat_le m (2 ^ 63)) (nat_lt n (2 ^ 63)) ≡ true → is_in_range (cond b (neg_ℤ (pos m)) (pos n)) ≡ true
signed_in_range true m n e = below_in_range m (leb-true m (2 ^ 63) e)
signed_in_range false m n e = low_in_range n (ltb-true n (2 ^ 63) e)

int_good : (word : Word) (n : ℤ) → int_at word ≡ Ok n → is_in_range n ≡ true
unfolding int_at
int_good word n h =
    let p = chosen (is_integer word && fits_int word) (int_value word) n h in
    let q = and_parts (is_integer word) (fits_int word) p.0 in
    subst (λ m. is_in_range m ≡ true) p.1 (signed_in_range (slice_index word 0 == 45) (digits_value 10 (drop 1 word)) (digits_value 10 word) q.1)

-- ---- values and methods

text_good : (word text : Word) → text_at word ≡ Ok text → is_good_text text ≡ true
unfolding text_at
text_good word text h =
    let marked = parts (marked_at word 34) _ text h in let closed = parts (closed_at marked.0 34) _ text marked.2 in
    let p = chosen (is_good_text closed.0) closed.0 text closed.2 in subst (λ t. is_good_text t ≡ true) p.1 p.0

value_good : (word : Word) (v : Value) → value_at word ≡ Ok v → is_sayable v ≡ true
unfolding value_at
value_good word v h =
    either_way (λ w. is_sayable w ≡ true) (bytes_eq word (codes "unit")) _ _ h
    (λ e. given (λ w. is_sayable w ≡ true) value.Unit v _ refl e refl)
    (λ more. either_way (λ w. is_sayable w ≡ true) (slice_index word 0 == 34) _ _ more
    (λ e. let text = parts (text_at word) _ v e in given (λ w. is_sayable w ≡ true) (value.Text text.0) v _ refl text.2 (text_good word text.0 text.1))
    (λ e. let int = parts (int_at word) _ v e in given (λ w. is_sayable w ≡ true) (value.Int int.0) v _ refl int.2 (int_good word int.0 int.1)))

arg_good : (word : Word) (x : Arg) → arg_at word ≡ Ok x → is_sayable_arg x ≡ true
unfolding arg_at
arg_good word x h =
    either_way (λ y. is_sayable_arg y ≡ true) (slice_index word 0 == 64) _ _ h
    (λ e. let marked = parts (marked_at word 64) _ x e in let number = parts (number_at marked.0) _ x marked.2 in
    given (λ y. is_sayable_arg y ≡ true) (Fut number.0) x _ refl number.2 (number_good marked.0 number.0 number.1))
    (λ e. let v = parts (value_at word) _ x e in given (λ y. is_sayable_arg y ≡ true) (Plain v.0) x _ refl v.2 (value_good word v.0 v.1))

some_of : {A : Type 0} (o : Option A) (x : A) → or_bad_line o ≡ Ok x → o ≡ Some x
some_of None x e = cc
some_of (Some y) x e = let same : y ≡ x = cc in ap (λ z. Some z) same

each_of : {A : Type 0} (p : A → Bool) (xs : List A) → list_all p xs ≡ true → AllByRecursion (λ x. p x ≡ true) xs
each_of p [] e = tt
each_of p (x ∷ xs) e = let both = and_parts (p x) (list_all p xs) e in (both.0, each_of p xs both.1)

method_good : (word : Word) (m : Method) → method_at word ≡ Ok m → is_sayable_method m ≡ true
unfolding method_at
method_good word m h =
    (found (λ n. is_sayable_method n ≡ true) (λ n. bytes_eq word (method_text n)) all_methods m (each_of is_sayable_method all_methods refl)
    (some_of (find (λ n. bytes_eq word (method_text n)) all_methods) m h)).0

each_good : {A : Type 0} (word_at : Word → Result A Wrong) (p : A → Bool) → ((word : Word) (x : A) → word_at word ≡ Ok x → p x ≡ true) →
    (words : List Word) (xs : List A) → each_at word_at words ≡ Ok xs → list_all p xs ≡ true
each_good word_at p one [] xs h = given (λ l. list_all p l ≡ true) [] xs _ refl h refl
each_good word_at p one (word ∷ words) xs h =
    let first = parts (word_at word) _ xs h in let rest = parts (each_at word_at words) _ xs first.2 in
    given (λ l. list_all p l ≡ true) (first.0 ∷ rest.0) xs _ refl rest.2
    (and_from (p first.0) (list_all p rest.0) (one word first.0 first.1) (each_good word_at p one words rest.0 rest.1))

-- ---- lines

abbrev IsGoodLine : Line → Type 0
IsGoodLine (RoleLine role) = is_sayable_role role ≡ true
IsGoodLine (EventLine said) = is_sayable_event said ≡ true
IsGoodLine (StepLine c said) = Unit {0}

one_good : {A : Type 0} (f : A → Line) (first : Word → Result A Wrong) → ((x : A) → IsGoodLine (f x)) → (words : List Word) (line : Line) →
    one_at f first words ≡ Ok line → IsGoodLine line
one_good f first good (u ∷ []) line h = let x = parts (first u) _ line h in given IsGoodLine (f x.0) line _ refl x.2 (good x.0)
one_good f first good more line h = absurd (cc)

two_good : {A B : Type 0} (f : A → B → Line) (first : Word → Result A Wrong) (second : Word → Result B Wrong) → ((x : A) (y : B) → IsGoodLine (f x y)) →
    (words : List Word) (line : Line) → two_at f first second words ≡ Ok line → IsGoodLine line
two_good f first second good (u ∷ v ∷ []) line h =
    let x = parts (first u) _ line h in let y = parts (second v) _ line x.2 in given IsGoodLine (f x.0 y.0) line _ refl y.2 (good x.0 y.0)
two_good f first second good more line h = absurd (cc)

submit_good : (words : List Word) (line : Line) → submit_at (λ c a m args. EventLine (event.Submit c a m args)) words ≡ Ok line → IsGoodLine line
unfolding submit_at
submit_good (u ∷ v ∷ w ∷ words) line h =
    let c = parts (caller_at u) _ line h in let a = parts (actor_at v) _ line c.2 in let m = parts (method_at w) _ line a.2 in
    let xs = parts (args_at words) _ line m.2 in
    given IsGoodLine (EventLine (event.Submit c.0 a.0 m.0 xs.0)) line _ refl xs.2
    (and_from (is_sayable_method m.0) (list_all is_sayable_arg xs.0) (method_good w m.0 m.1) (each_good arg_at is_sayable_arg arg_good words xs.0 xs.1))
submit_good more line h = absurd (cc)

-- a step says nothing that could be unsayable here
step_good : (words : List Word) (line : Line) → submit_at (λ c a m args. StepLine c (step.Submit a m args)) words ≡ Ok line → IsGoodLine line
unfolding submit_at
step_good (u ∷ v ∷ w ∷ words) line h =
    let c = parts (caller_at u) _ line h in let a = parts (actor_at v) _ line c.2 in let m = parts (method_at w) _ line a.2 in
    let xs = parts (args_at words) _ line m.2 in given IsGoodLine (StepLine c.0 (step.Submit a.0 m.0 xs.0)) line _ refl xs.2 tt
step_good more line h = absurd (cc)

abbrev AreCallers : List ℕ → Type 0
AreCallers callers = list_all is_caller_number callers ≡ true

callers_good : (words : List Word) {callers : List ℕ} → some_callers_at words ≡ Ok callers → AreCallers callers
callers_good [] h = absurd (cc)
callers_good (word ∷ words) {callers} h = each_good caller_at is_caller_number caller_good (word ∷ words) callers h

limited_good : (words : List Word) (named : Option ℕ × List ℕ) → limited_at words ≡ Ok named → AreCallers named.1
limited_good [] named h = absurd (cc)
limited_good (number ∷ words) named h =
    let limit = parts (limit_at number) _ named h in let callers = parts (some_callers_at words) _ named limit.2 in
    given (λ (n : Option ℕ × List ℕ). AreCallers n.1) (Some limit.0, callers.0) named _ refl callers.2 (callers_good words callers.1)

naming_good : (words : List Word) {named : Option ℕ × List ℕ} → naming_at words ≡ Ok named → AreCallers named.1
unfolding naming_at
naming_good [] h = absurd (cc)
naming_good (word ∷ words) {named} h =
    either_way (λ (n : Option ℕ × List ℕ). AreCallers n.1) (bytes_eq word (codes "max")) _ _ h (limited_good words named)
    (λ e. let callers = parts (some_callers_at (word ∷ words)) _ named e in
    given (λ (n : Option ℕ × List ℕ). AreCallers n.1) (None, callers.0) named _ refl callers.2 (callers_good (word ∷ words) callers.1))

role_good : (words : List Word) (role : Role) → role_at all_kinds words ≡ Ok role → is_sayable_role role ≡ true
unfolding role_at
role_good (u ∷ v ∷ words) role h =
    let a = parts (actor_at u) _ role h in let k = parts (named_by kind_text all_kinds v) _ role a.2 in let named = parts (naming_at words) _ role k.2 in
    given (λ r. is_sayable_role r ≡ true) (record { actor = a.0; callers = named.0.1; kind = k.0; pending = named.0.0 }) role _ refl named.2
    (and_from (is_actor_number a.0) (list_all is_caller_number named.0.1) (actor_good u a.0 a.1) (naming_good words named.1))
role_good more role h = absurd (cc)

abbrev IsGoodForm : Form → Type 0
IsGoodForm form = (words : List Word) (line : Line) → form.1 words ≡ Ok line → IsGoodLine line

role_form_good : (words : List Word) (line : Line) → (role_at all_kinds words >>= λ role. Ok (RoleLine role)) ≡ Ok line → IsGoodLine line
role_form_good words line h = let role = parts (role_at all_kinds words) _ line h in
    given IsGoodLine (RoleLine role.0) line _ refl role.2 (role_good words role.0 role.1)

forms_good : AllByRecursion IsGoodForm play_forms
unfolding play_forms
forms_good = (
  role_form_good,
  (
    submit_good,
    (
      two_good (λ c a. EventLine (event.Copy c a)) caller_at actor_at (λ c a. refl),
      (
        two_good (λ c a. EventLine (event.Release c a)) caller_at actor_at (λ c a. refl),
        (
          two_good (λ c a. EventLine (event.AskKill c a)) caller_at actor_at (λ c a. refl),
          (
            two_good (λ c k. EventLine (event.Send c k)) caller_at number_at (λ c k. refl),
            (
              one_good (λ i. EventLine (event.Deliver i)) number_at (λ i. refl),
              (
                two_good (λ a c. EventLine (event.Run a c)) actor_at caller_at (λ a c. refl),
                (
                  one_good (λ j. EventLine (event.Collect j)) number_at (λ j. refl),
                  (
                    one_good (λ a. EventLine (event.TakeKill a)) actor_at (λ a. refl),
                    (
                      two_good (λ a c. EventLine (event.Tell a c)) actor_at caller_at (λ a c. refl),
                      (
                        one_good (λ a. EventLine (event.Retire a)) actor_at (λ a. refl),
                        tt,
                      ),
                    ),
                  ),
                ),
              ),
            ),
          ),
        ),
      ),
    ),
  ),
)

steps_good : AllByRecursion IsGoodForm thread_forms
unfolding thread_forms
steps_good = (
  role_form_good,
  (
    step_good,
    (
      two_good (λ c a. StepLine c (step.Copy a)) caller_at actor_at (λ c a. tt),
      (
        two_good (λ c a. StepLine c (step.Release a)) caller_at actor_at (λ c a. tt),
        (
          two_good (λ c a. StepLine c (step.Kill a)) caller_at actor_at (λ c a. tt),
          (
            two_good (λ c k. StepLine c (step.Await k)) caller_at number_at (λ c k. tt),
            tt,
          ),
        ),
      ),
    ),
  ),
)

all_good : (mode : Mode) → AllByRecursion IsGoodForm (forms_of mode)
all_good Play = forms_good
all_good Threads = steps_good

form_good : (mode : Mode) (words : List Word) (line : Line) → form_at (forms_of mode) words ≡ Ok line → IsGoodLine line
unfolding form_at
form_good mode [] line h = absurd (cc)
form_good mode (head ∷ words) line h =
    let form = parts (or_bad_line (find (λ (f : Form). bytes_eq head f.0) (forms_of mode))) _ line h in
    (found IsGoodForm (λ (f : Form). bytes_eq head f.0) (forms_of mode) form.0 (all_good mode)
    (some_of (find (λ (f : Form). bytes_eq head f.0) (forms_of mode)) form.0 form.1)).0 words line form.2

abbrev IsGoodSaid : Option Line → Type 0
IsGoodSaid None = Unit {0}
IsGoodSaid (Some line) = IsGoodLine line

line_good : (mode : Mode) (text : List ℕ) (said : Option Line) → line_at (forms_of mode) text ≡ Ok said → IsGoodSaid said
unfolding line_at
line_good mode text said h =
    let plain = parts (plain_at text) _ said h in
    either_way IsGoodSaid (is_skipped plain.0) _ _ plain.2
    (λ e. given IsGoodSaid None said _ refl e tt)
    (λ e. let line = parts (form_at (forms_of mode) (words_in plain.0)) _ said e in
    given IsGoodSaid (Some line.0) said _ refl line.2 (form_good mode (words_in plain.0) line.0 line.1))

-- ---- scripts

pub record IsGoodScript (script : Script) : Type 0 where
  pub roles : list_all is_sayable_role script.roles ≡ true
  pub events : list_all is_sayable_event script.events ≡ true

pushed : {A : Type 0} (p : A → Bool) (xs : List A) (x : A) → list_all p xs ≡ true → p x ≡ true → list_all p (xs ++ x ∷ []) ≡ true
pushed p xs x all one = list_all-append p xs (x ∷ []) ∙ and_from (list_all p xs) (p x && true) all (and_from (p x) true one refl)

unless_is : {A : Type 0} (o : Option Wrong) (x y : A) → unless o x ≡ Ok y → x ≡ y
unless_is None x y e = cc
unless_is (Some wrong) x y e = cc

added_good : (script : Script) (n : ℕ) (line : Line) (next : Script) → IsGoodScript script → IsGoodLine line → add_line script n line ≡ Ok next →
    IsGoodScript next
added_good script n (RoleLine role) next s good h =
    let same = unless_is (role_fault script role) (record script { roles = script.roles ++ role ∷ [] }) next h in
    subst IsGoodScript same (record { roles = pushed is_sayable_role script.roles role s.roles good; events = s.events })
added_good script n (EventLine said) next s good h =
    given IsGoodScript (record script { events = script.events ++ said ∷ [] }) next _ refl h
    (record { roles = s.roles; events = pushed is_sayable_event script.events said s.events good })
added_good script n (StepLine c said) next s good h =
    given IsGoodScript (record script { steps = script.steps ++ (c, said, n) ∷ [] }) next _ refl h (record { roles = s.roles; events = s.events })

said_good : (script : Script) (n : ℕ) (said : Option Line) (next : Script) → IsGoodScript script → IsGoodSaid said →
    added_unless_skipped script n said ≡ Ok next → IsGoodScript next
said_good script n None next s good h = given IsGoodScript script next _ refl h s
said_good script n (Some line) next s good h = added_good script n line next s good h

in_line_is : {A : Type 0} (n : ℕ) (r : Result A Wrong) (x : A) → in_line n r ≡ Ok x → r ≡ Ok x
in_line_is n (Ok y) x e = let same : y ≡ x = cc in ap (λ z. Ok z) same
in_line_is n (Err wrong) x e = cc

lines_good : (mode : Mode) (lines : List (List ℕ)) (n : ℕ) (script last : Script) → IsGoodScript script →
    spelled_from (forms_of mode) n script lines ≡ Ok last → IsGoodScript last
lines_good mode [] n script last s h = given IsGoodScript script last _ refl h s
lines_good mode (text ∷ lines) n script last s h =
    let next = parts (in_line n (line_added (forms_of mode) script n text)) _ last h in
    let added = in_line_is n (line_added (forms_of mode) script n text) next.0 next.1 in
    let said = parts (line_at (forms_of mode) text) _ next.0 added in
    lines_good mode lines (n + 1) next.0 last (said_good script n said.0 next.0 s (line_good mode text said.0 said.1) said.2) next.2

-- what bytes spell is sayable
pub spelled_good : (mode : Mode) (bytes : List ℕ) {script : Script} → spelled mode bytes ≡ Ok script → IsGoodScript script
unfolding spelled_by
spelled_good mode bytes {script} h =
    either_way IsGoodScript (nat_lt 1048576 (length bytes)) _ _ h
    (λ e. absurd (cc))
    (λ e. lines_good mode (lines_in bytes) 1 no_lines script (record { roles = refl; events = refl }) e)
