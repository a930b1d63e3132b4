-- What values, methods and answers of scripts are written with: words, and none that is a mark's.
use Rattle.act_summaries.proofs.Common.{◌≡◌, ◌≢◌, ℕ, suc, ◌<◌, ◌≤◌, ◌||◌, ◌&&◌, ◌^◌, Bool, true, false, List, [], ◌∷◌, ◌++◌, codes, length, decimal, refl, sym}
use Rattle.act_summaries.proofs.Common.{ap, ◌∙◌, subst, arith, append_assoc, map, Ok, Err, bytes_eq, nat_lt, nat_le, ℤ, pos, negsuc, AllByRecursion, list_all}
use Rattle.act_summaries.proofs.Common.{signed_decimal, and_parts, ltb-true, leb-true, is_good_text, is_good_byte, method_text, value_text, fault_text}
use Rattle.act_summaries.proofs.Common.{answer_text, settled_text, state_text, pair_text, with_spaces, space, KindState, CounterAt, TableOf, AccountAt, ItemsOf}
use Rattle.act_summaries.proofs.Common.{OwnAt, Value, Fault, Method, Settled, Good, Bad, Answer, is_sayable, is_sayable_method}
use Rattle.act_types.specs.declared.call.Value.TheVariants as value
use Rattle.act_types.specs.declared.call.Fault.TheVariants as fault
use Rattle.act_types.specs.declared.call.Method.TheVariants as method
use Rattle.act_summaries.proofs.Bytes.{differ, heads, apart, texts_apart, spaced, spaced_is, IsWord, IsPlain, AreWords, AreDigits, word_plain, Each-append}
use Rattle.act_summaries.proofs.Bytes.{decimal_word, decimal_digits, signed_word}
use Rattle.act_summaries.proofs.Marks.{Equals, Live, Retired, word_of, IsNoMark}

-- ---- words that are written out

word_from : (text : List ℕ) → list_all (nat_lt 32) text ≡ true → IsWord text
word_from [] e = tt
word_from (b ∷ text) e = let parts = and_parts (nat_lt 32 b) (list_all (nat_lt 32) text) e in (ltb-true 32 b parts.0, word_from text parts.1)

pub plain_from : (text : List ℕ) → list_all (nat_le 32) text ≡ true → IsPlain text
plain_from [] e = tt
plain_from (b ∷ text) e = let parts = and_parts (nat_le 32 b) (list_all (nat_le 32) text) e in (leb-true 32 b parts.0, plain_from text parts.1)

abbrev is_mark : List ℕ → Bool
is_mark text = bytes_eq text (codes "=") || (bytes_eq text (codes "live") || bytes_eq text (codes "retired"))

no_mark : (text : List ℕ) → is_mark text ≡ false → IsNoMark text
no_mark text e Equals is = let bad : true ≡ false = ap is_mark (sym is) ∙ e in cc
no_mark text e other is = let bad : true ≡ false = ap is_mark (sym is) ∙ e in cc

-- a word that begins otherwise than each mark's
begins : (b : ℕ) (text : List ℕ) → b ≢ 61 → b ≢ 108 → b ≢ 114 → IsNoMark (b ∷ text)
begins b text e l r Equals is = e (heads is)
begins b text e l r Live is = l (heads is)
begins b text e l r Retired is = r (heads is)

-- ---- methods

-- a sayable method is written as a word
pub method_word : (m : Method) → is_sayable_method m ≡ true → IsWord (method_text m)
method_word (method.Own name) h = cc
method_word m h = word_from (method_text m) refl

-- a sayable method isn't written as a mark's word
pub method_no_mark : (m : Method) → is_sayable_method m ≡ true → IsNoMark (method_text m)
method_no_mark (method.Own name) h = absurd (let bad : false ≡ true = h in cc)
method_no_mark m h = no_mark (method_text m) refl

-- ---- values

good_word : (text : List ℕ) → list_all is_good_byte text ≡ true → IsWord text
good_word [] e = tt
good_word (b ∷ text) e =
    let parts = and_parts (is_good_byte b) (list_all is_good_byte text) e in let low = (and_parts (nat_le 33 b) (nat_le b 126) parts.0).0 in
    (omega (arith, leb-true 33 b low), good_word text parts.1)

pub text_word : (text : List ℕ) → is_good_text text ≡ true → IsWord text
text_word text e = good_word text (and_parts (nat_le 1 (length text) && nat_le (length text) 64) (list_all is_good_byte text) e).1

quoted_word : (text : List ℕ) → is_good_text text ≡ true → IsWord (34 ∷ (text ++ 34 ∷ []))
quoted_word text e = (omega arith, Each-append (λ x. 32 < x) text (34 ∷ []) (text_word text e) (omega arith, tt))

pub value_word : (v : Value) → is_sayable v ≡ true → IsWord (value_text v)
value_word value.Unit h = word_from (codes "unit") refl
value_word (value.Int n) h = signed_word n
value_word (value.Text text) h = quoted_word text h

digits_no_mark : (text : List ℕ) → AreDigits text → IsNoMark text
digits_no_mark text digits Equals is = let bad : AreDigits (word_of Equals) = subst AreDigits is digits in omega (arith, bad.0.1)
digits_no_mark text digits other is = let bad : AreDigits (word_of other) = subst AreDigits is digits in omega (arith, bad.0.1)

signed_no_mark : (n : ℤ) → IsNoMark (signed_decimal n)
signed_no_mark (pos n) = digits_no_mark (decimal n) (decimal_digits n)
signed_no_mark (negsuc n) = begins 45 (decimal (suc n)) (differ 45 61 refl) (differ 45 108 refl) (differ 45 114 refl)

pub value_no_mark : (v : Value) → IsNoMark (value_text v)
value_no_mark value.Unit = no_mark (codes "unit") refl
value_no_mark (value.Int n) = signed_no_mark n
value_no_mark (value.Text text) = begins 34 (text ++ 34 ∷ []) (differ 34 61 refl) (differ 34 108 refl) (differ 34 114 refl)

-- ---- arguments

-- an argument that is sayable, or the number of a future that failed
abbrev pub IsGoodArg : Settled → Type 0
IsGoodArg (Good v) = is_sayable v ≡ true
IsGoodArg (Bad k) = k < 2 ^ 32

pub arg_word : (arg : Settled) → IsGoodArg arg → IsWord (settled_text arg)
arg_word (Good v) h = value_word v h
arg_word (Bad k) h = (omega arith, decimal_word k)

pub arg_no_mark : (arg : Settled) → IsNoMark (settled_text arg)
arg_no_mark (Good v) = value_no_mark v
arg_no_mark (Bad k) = begins 33 (decimal k) (differ 33 61 refl) (differ 33 108 refl) (differ 33 114 refl)

-- good arguments are written as words
pub args_words : (args : List Settled) → AllByRecursion IsGoodArg args → AreWords (map settled_text args)
args_words [] h = tt
args_words (arg ∷ args) h = (arg_word arg h.0, args_words args h.1)

-- no argument is written as a mark's word
pub args_no_marks : (args : List Settled) → AllByRecursion IsNoMark (map settled_text args)
args_no_marks [] = tt
args_no_marks (arg ∷ args) = (arg_no_mark arg, args_no_marks args)

-- ---- answers

-- a fault that is no kind's own
abbrev pub is_known_fault : Fault → Bool
is_known_fault (fault.Own name) = false
is_known_fault other = true

-- an answer that is a sayable value, or a fault that is no kind's own
abbrev pub IsGoodAnswer : Answer → Type 0
IsGoodAnswer (Ok v) = is_sayable v ≡ true
IsGoodAnswer (Err f) = is_known_fault f ≡ true

fault_word : (f : Fault) → is_known_fault f ≡ true → IsWord (fault_text f)
fault_word (fault.Dependency k) h =
    Each-append (λ x. 32 < x) (codes "Dependency(") (decimal k ++ codes ")") (word_from (codes "Dependency(") refl)
    (Each-append (λ x. 32 < x) (decimal k) (codes ")") (decimal_word k) (omega arith, tt))
fault_word (fault.Own name) h = cc
fault_word f h = word_from (fault_text f) refl

-- a good answer is written as a word
pub answer_word : (answer : Answer) → IsGoodAnswer answer → IsWord (answer_text answer)
answer_word (Ok v) h = value_word v h
answer_word (Err f) h = fault_word f h

fault_no_mark : (f : Fault) → is_known_fault f ≡ true → IsNoMark (fault_text f)
fault_no_mark (fault.Dependency k) h = begins 68 (codes "ependency(" ++ decimal k ++ codes ")") (differ 68 61 refl) (differ 68 108 refl) (differ 68 114 refl)
fault_no_mark (fault.Own name) h = absurd (let bad : false ≡ true = h in cc)
fault_no_mark f h = no_mark (fault_text f) refl

pub answer_no_mark : (answer : Answer) → IsGoodAnswer answer → IsNoMark (answer_text answer)
answer_no_mark (Ok v) h = value_no_mark v
answer_no_mark (Err f) h = fault_no_mark f h

-- ---- that the actor died is written as no other answer

value_alive : (v : Value) → value_text v ≢ codes "ActorDied"
value_alive value.Unit e = texts_apart (codes "unit") (codes "ActorDied") refl e
value_alive (value.Text text) e = apart 34 65 (text ++ 34 ∷ []) (codes "ctorDied") refl e
value_alive (value.Int (pos n)) e = let bad : AreDigits (codes "ActorDied") = subst AreDigits e (decimal_digits n) in omega (arith, bad.0.1)
value_alive (value.Int (negsuc n)) e = apart 45 65 (decimal (suc n)) (codes "ctorDied") refl e

-- a good answer that is written as `ActorDied` is that the actor died
pub dead_alike : (answer : Answer) → IsGoodAnswer answer → answer_text answer ≡ codes "ActorDied" → answer ≡ Err fault.ActorDied
dead_alike (Ok v) h e = absurd (value_alive v e)
dead_alike (Err (fault.Dependency k)) h e = absurd (apart 68 65 (codes "ependency(" ++ decimal k ++ codes ")") (codes "ctorDied") refl e)
dead_alike (Err fault.ActorDied) h e = refl
dead_alike (Err (fault.Own name)) h e = absurd (let bad : false ≡ true = h in cc)
dead_alike (Err f) h e = absurd (texts_apart (fault_text f) (codes "ActorDied") refl e)

-- ---- states

abbrev pub IsGoodPair : List ℕ × Value → Type 0
IsGoodPair pair = (is_good_text pair.0 ≡ true) × (is_sayable pair.1 ≡ true)

pair_is : (pair : List ℕ × Value) → pair_text pair ≡ value_text (value.Text pair.0) ++ 32 ∷ value_text pair.1
pair_is pair = append_assoc (value_text (value.Text pair.0)) space (value_text pair.1)

pair_plain : (pair : List ℕ × Value) → IsGoodPair pair → IsPlain (pair_text pair)
pair_plain pair h =
    subst IsPlain (sym (pair_is pair))
    (Each-append (λ x. 32 ≤ x) (value_text (value.Text pair.0)) (32 ∷ value_text pair.1) (word_plain (value_text (value.Text pair.0)) (quoted_word pair.0 h.0))
    (omega arith, word_plain (value_text pair.1) (value_word pair.1 h.1)))

pub spaced_plain : (parts : List (List ℕ)) → AllByRecursion IsPlain parts → IsPlain (spaced parts)
spaced_plain [] h = tt
spaced_plain (part ∷ parts) h = (omega arith, Each-append (λ x. 32 ≤ x) part (spaced parts) h.0 (spaced_plain parts h.1))

pub with_spaces_plain : (parts : List (List ℕ)) → AllByRecursion IsPlain parts → IsPlain (with_spaces parts)
with_spaces_plain parts h = subst IsPlain (sym (spaced_is parts)) (spaced_plain parts h)

pairs_plain : (pairs : List (List ℕ × Value)) → AllByRecursion IsGoodPair pairs → AllByRecursion IsPlain (map pair_text pairs)
pairs_plain [] h = tt
pairs_plain (pair ∷ pairs) h = (pair_plain pair h.0, pairs_plain pairs h.1)

values_plain : (values : List Value) → AllByRecursion (λ v. is_sayable v ≡ true) values → AllByRecursion IsPlain (map value_text values)
values_plain [] h = tt
values_plain (v ∷ values) h = (word_plain (value_text v) (value_word v h.0), values_plain values h.1)

-- what a state holds is sayable, and not too much
abbrev pub IsGoodState : KindState → Type 0
IsGoodState (CounterAt n) = is_sayable (value.Int n) ≡ true
IsGoodState (TableOf pairs) = AllByRecursion IsGoodPair pairs × (length pairs ≤ 1024)
IsGoodState (AccountAt n) = is_sayable (value.Int n) ≡ true
IsGoodState (ItemsOf items) = AllByRecursion (λ v. is_sayable v ≡ true) items × (length items ≤ 4096)
IsGoodState (OwnAt behaviour) = ⊥

pub state_plain : (state : KindState) → IsGoodState state → IsPlain (state_text state)
state_plain (CounterAt n) h =
    Each-append (λ x. 32 ≤ x) (codes "counter ") (signed_decimal n) (plain_from (codes "counter ") refl) (word_plain (signed_decimal n) (signed_word n))
state_plain (TableOf pairs) h = Each-append (λ x. 32 ≤ x) (codes "table") (with_spaces (map pair_text pairs)) (plain_from (codes "table") refl)
    (with_spaces_plain (map pair_text pairs) (pairs_plain pairs h.0))
state_plain (AccountAt n) h =
    Each-append (λ x. 32 ≤ x) (codes "account ") (signed_decimal n) (plain_from (codes "account ") refl) (word_plain (signed_decimal n) (signed_word n))
state_plain (ItemsOf items) h = Each-append (λ x. 32 ≤ x) (codes "list") (with_spaces (map value_text items)) (plain_from (codes "list") refl)
    (with_spaces_plain (map value_text items) (values_plain items h.0))
state_plain (OwnAt behaviour) h = absurd h
