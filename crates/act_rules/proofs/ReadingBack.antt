-- What a script can write is read back from its text.
use Rattle.act_rules.proofs.Common.{◌≡◌, ◌≢◌, ℕ, suc, ◌^◌, ◌<◌, ◌≤◌, ◌==◌, true, false, cond, nat_lt, [], ◌∷◌, length, slice_index, Ok, Err, ℤ, pos, negsuc}
use Rattle.act_rules.proofs.Common.{neg_ℤ, decimal, arith, refl, bytes_eq, codes, signed_decimal, list_all, is_ascii_digit, digits_value, first_decimal}
use Rattle.act_rules.proofs.Common.{decimal_nonempty, nat_tests, Value, Plain, Fut, is_good_text, caller_text, actor_text, method_text, value_text, BadLine}
use Rattle.act_rules.proofs.Common.{is_in_range, Word, named_by, kind_text, all_kinds, is_numeral, number_at, ReadsBack, arg_text, is_number, is_caller_number}
use Rattle.act_rules.proofs.Common.{is_actor_number, is_sayable, is_sayable_arg, is_sayable_method, always}
use Rattle.act_types.specs.declared.call.Value.TheVariants as value
use Rattle.act_types.specs.declared.call.Method.TheVariants as method
use Rattle.act_rules.specs.declared.script.KindName.TheVariants as kind
use Rattle.act_rules.specs.Words.{method_at, int_at, caller_at, actor_at, text_at, value_at, arg_at}
use Rattle.act_rules.proofs.Numbers.{printed_is_number, decimal_is_numeral, value_printed, digits_printed}
use Rattle.act_rules.proofs.Marks.{closed_some}

-- ---- names

pub kind_reads_back : ReadsBack always kind_text (named_by kind_text all_kinds)
kind_reads_back kind.Counter h = refl
kind_reads_back other h = refl

-- a method that a script can write is read back from its text
pub method_reads_back : ReadsBack is_sayable_method method_text method_at
unfolding method_at
method_reads_back (method.Own n) h = absurd (cc h)
method_reads_back other h = refl

-- ---- numbers

pub number_reads_back : ReadsBack is_number decimal number_at
number_reads_back n h = let small : n < 2 ^ 32 = grind (arith, nat_tests) in printed_is_number n small

-- the first digit
first_is_digit : (ds : Word) → list_all is_ascii_digit ds ≡ true → 0 < length ds → (48 ≤ slice_index ds 0) × (slice_index ds 0 ≤ 57)
first_is_digit [] h some = absurd (omega arith)
first_is_digit (d ∷ ds) h some = (grind (arith, nat_tests), grind (arith, nat_tests))

first_printed : (n : ℕ) → n < 2 ^ 64 → (48 ≤ slice_index (decimal n) 0) × (slice_index (decimal n) 0 ≤ 57)
first_printed n small = first_is_digit (decimal n) (digits_printed n small) (decimal_nonempty n small)

plain_int : (word : Word) (n : ℕ) → is_numeral word ≡ true → slice_index word 0 ≢ 45 → digits_value 10 word ≡ n → n < 2 ^ 63 → int_at word ≡ Ok (pos n)
unfolding int_at
plain_int word n h ne e small = rw (← e) (let less : digits_value 10 word < 2 ^ 63 = omega (arith, e, small) in grind (arith, nat_tests))

minus_int : (ds : Word) (n : ℕ) → is_numeral ds ≡ true → slice_index ds 0 ≢ 48 → digits_value 10 ds ≡ n → n ≤ 2 ^ 63 → int_at (45 ∷ ds) ≡ Ok (neg_ℤ (pos n))
unfolding int_at
minus_int ds n h ne e small = rw (← e) (let less : digits_value 10 ds ≤ 2 ^ 63 = omega (arith, e, small) in grind (arith, nat_tests))

small_enough : (n : ℕ) → is_in_range (pos n) ≡ true → n < 2 ^ 63
small_enough n h = grind (arith, nat_tests)

-- neither a quote nor `u` nor `@`
begins_plainly : (n : ℕ) → n < 2 ^ 63 → (slice_index (decimal n) 0 ≢ 34) × (slice_index (decimal n) 0 ≢ 117) × (slice_index (decimal n) 0 ≢ 64)
begins_plainly n small =
    let first = first_printed n (omega arith) in (λ e. omega (arith, e, first.0), λ e. omega (arith, e, first.1), λ e. omega (arith, e, first.1))

minus_begins_plainly : (ds : Word) → (slice_index (45 ∷ ds) 0 ≢ 34) × (slice_index (45 ∷ ds) 0 ≢ 64)
minus_begins_plainly ds = (λ e. cc, λ e. cc)

pub int_reads_back : ReadsBack is_in_range signed_decimal int_at
int_reads_back (pos n) h =
    let small = small_enough n h in let first = first_printed n (omega arith) in
    plain_int (decimal n) n (decimal_is_numeral n (omega arith)) (λ e. omega (arith, e, first.0)) (value_printed n (omega arith)) small
int_reads_back (negsuc n) h =
    let small : suc n ≤ 2 ^ 63 = grind (arith, nat_tests) in let first = first_decimal (suc n) (omega arith) (omega arith) in
    minus_int (decimal (suc n)) (suc n) (decimal_is_numeral (suc n) (omega arith)) (λ e. omega (arith, e, first)) (value_printed (suc n) (omega arith)) small

-- ---- callers and actors

ranged : (n most : ℕ) → 1 ≤ n → n ≤ most → cond (nat_lt n 1) (Err BadLine) (cond (nat_lt most n) (Err BadLine) (Ok n)) ≡ Ok n
ranged n most one few = grind (arith, nat_tests)

pub caller_reads_back : ReadsBack is_caller_number caller_text caller_at
unfolding caller_at
caller_reads_back c h =
    let one : 1 ≤ c = grind (arith, nat_tests) in let few : c ≤ 16 = grind (arith, nat_tests) in rw (printed_is_number c (omega arith)) (ranged c 16 one few)

pub actor_reads_back : ReadsBack is_actor_number actor_text actor_at
unfolding actor_at
actor_reads_back a h =
    let one : 1 ≤ a = grind (arith, nat_tests) in let few : a ≤ 8 = grind (arith, nat_tests) in rw (printed_is_number a (omega arith)) (ranged a 8 one few)

-- ---- values

text_reads_back : (text : Word) → is_good_text text ≡ true → text_at (value_text (value.Text text)) ≡ Ok text
unfolding text_at
text_reads_back text good = rw (closed_some text 34) (rw good refl)

-- a word whose first byte is no quote, and no `u`, is a number
spelled_int : (word : Word) {n : ℤ} → bytes_eq word (codes "unit") ≡ false → slice_index word 0 ≢ 34 → int_at word ≡ Ok n → value_at word ≡ Ok (value.Int n)
unfolding value_at
spelled_int word unit quote h = rw unit (rw h (grind (arith, nat_tests)))

not_unit : (word : Word) → slice_index word 0 ≢ 117 → bytes_eq word (codes "unit") ≡ false
not_unit [] ne = refl
not_unit (b ∷ bs) ne = let no : (b == 117) ≡ false = grind (arith, nat_tests) in rw no refl

int_value_back : (n : ℤ) → is_in_range n ≡ true → value_at (signed_decimal n) ≡ Ok (value.Int n)
int_value_back (pos n) h =
    let first = begins_plainly n (small_enough n h) in spelled_int (decimal n) (not_unit (decimal n) first.1) first.0 (int_reads_back (pos n) h)
int_value_back (negsuc n) h = spelled_int (45 ∷ decimal (suc n)) refl (minus_begins_plainly (decimal (suc n))).0 (int_reads_back (negsuc n) h)

text_value_back : (text : Word) → is_good_text text ≡ true → value_at (value_text (value.Text text)) ≡ Ok (value.Text text)
unfolding value_at
text_value_back text h = rw (text_reads_back text h) refl

unit_reads_back : value_at (codes "unit") ≡ Ok value.Unit
unfolding value_at
unit_reads_back = refl

-- a value that a script can write is read back from its text
pub value_reads_back : ReadsBack is_sayable value_text value_at
value_reads_back value.Unit h = unit_reads_back
value_reads_back (value.Text text) h = text_value_back text h
value_reads_back (value.Int n) h = int_value_back n h

-- ---- arguments

int_not_marked : (n : ℤ) → is_in_range n ≡ true → slice_index (signed_decimal n) 0 ≢ 64
int_not_marked (pos n) h = (begins_plainly n (small_enough n h)).2
int_not_marked (negsuc n) h = (minus_begins_plainly (decimal (suc n))).1

unit_not_marked : slice_index (codes "unit") 0 ≢ 64
unit_not_marked e = cc

text_not_marked : (text : Word) → slice_index (value_text (value.Text text)) 0 ≢ 64
text_not_marked text e = cc

not_marked : (v : Value) → is_sayable v ≡ true → slice_index (value_text v) 0 ≢ 64
not_marked value.Unit h = unit_not_marked
not_marked (value.Text text) h = text_not_marked text
not_marked (value.Int n) h = int_not_marked n h

pub arg_reads_back : ReadsBack is_sayable_arg arg_text arg_at
unfolding arg_at
arg_reads_back (Plain v) h =
    let ne = not_marked v h in
    let no : (slice_index (value_text v) 0 == 64) ≡ false = grind (arith, nat_tests) in rw (no, value_reads_back v h) refl
arg_reads_back (Fut k) h = rw (number_reads_back k h) refl
