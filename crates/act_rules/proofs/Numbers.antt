-- Each number has one spelling: the one that is printed of it.
use Rattle.act_rules.proofs.Common.{◌≡◌, ◌≢◌, ℕ, zero, suc, ◌^◌, ◌<◌, ◌&&◌, Bool, true, false, cond, nat_lt, List, [], ◌∷◌, length, slice_index, Ok, Err, ℤ}
use Rattle.act_rules.proofs.Common.{pos, neg_ℤ, decimal, inl, inr, arith, rules, refl, sym, ap, ◌∙◌, signed_decimal, list_all, is_ascii_digit, digits_value}
use Rattle.act_rules.proofs.Common.{IsNumeralModel, IsDigitsTest, numerals_by_value, decimal-digits_value, digits_decimal, digits_value-decimal, first_decimal}
use Rattle.act_rules.proofs.Common.{decimal_digit, decimal_nonempty, nat_tests, eqb_tells, and_parts, BadLine, is_numeral, is_integer, fits_int, int_value}
use Rattle.act_rules.specs.Words.{number_at, int_at}

digits_test : IsDigitsTest (λ ds. list_all is_ascii_digit ds ≡ true)
digits_test = search rules

-- these words for digits and their value fit the general laws of decimal texts
pub digits_have_values : IsNumeralModel (λ ds. list_all is_ascii_digit ds ≡ true) (digits_value 10)
digits_have_values = numerals_by_value _ digits_test

-- a digit 0 alone, or digits after another one
numeral_cases : (d : ℕ) (ds : List ℕ) → is_numeral (d ∷ ds) ≡ true → list_all is_ascii_digit (d ∷ ds) ≡ true
numeral_cases d [] h = grind (arith, nat_tests)
numeral_cases d (e ∷ ds) h = grind (arith, nat_tests)

-- a numeral has nothing but digits, and at least one
pub numeral_is_digits : (word : List ℕ) → is_numeral word ≡ true → (list_all is_ascii_digit word ≡ true) × (0 < length word)
numeral_is_digits [] h = cc
numeral_is_digits (d ∷ ds) h = (numeral_cases d ds h, omega arith)

-- a test that was passed
pub chosen : {A : Type 0} (b : Bool) (x y : A) → cond b (Ok x) (Err BadLine) ≡ Ok y → (b ≡ true) × (x ≡ y)
chosen true x y h = (refl, cc)
chosen false x y h = cc

leading : (ds : List ℕ) → is_numeral ds ≡ true → slice_index ds 0 ≡ 48 → length ds ≡ 1
leading ds h e = grind (arith, nat_tests)

-- a numeral is what is printed of its value
printed : (ds : List ℕ) → is_numeral ds ≡ true → digits_value 10 ds < 2 ^ 64 → ds ≡ decimal (digits_value 10 ds)
printed ds h lt = let d = numeral_is_digits ds h in sym (decimal-digits_value digits_have_values ds d.0 d.1 (leading ds h) lt)

-- a word that is read as a number is what is printed of that number
pub number_is_printed : (word : List ℕ) {n : ℕ} → number_at word ≡ Ok n → word ≡ decimal n
unfolding number_at
number_is_printed word {n} h =
    let p = chosen (is_numeral word && nat_lt (digits_value 10 word) (2 ^ 32)) (digits_value 10 word) n h in
    let q = and_parts (is_numeral word) (nat_lt (digits_value 10 word) (2 ^ 32)) p.0 in
    let small : digits_value 10 word < 2 ^ 64 = grind (arith, nat_tests) in printed word q.0 small ∙ ap decimal p.1

zero_numeral : {ds : List ℕ} → ds ≡ 48 ∷ [] → is_numeral ds ≡ true
zero_numeral e = rw e (grind (arith, nat_tests))

more_numeral : (ds : List ℕ) → 0 < length ds → slice_index ds 0 ≢ 48 → list_all is_ascii_digit ds ≡ true → is_numeral ds ≡ true
more_numeral ds h ne d = grind (arith, nat_tests)

pub decimal_is_numeral : (n : ℕ) → n < 2 ^ 64 → is_numeral (decimal n) ≡ true
decimal_is_numeral n lt = elim (eqb_tells n 0) [
  | inl e ↦ zero_numeral (ap decimal e.1 ∙ decimal_digit 0 (omega arith))
  | inr e ↦
      let first = first_decimal n (omega (arith, e.1)) lt in
      more_numeral (decimal n) (decimal_nonempty n lt) (λ z. omega (arith, z, first)) (digits_decimal digits_have_values n lt)
]

accepted : (word : List ℕ) (n : ℕ) → is_numeral word ≡ true → digits_value 10 word ≡ n → n < 2 ^ 32 → number_at word ≡ Ok n
unfolding number_at
accepted word n h e lt = rw (← e) (let small : digits_value 10 word < 2 ^ 32 = omega (arith, e, lt) in grind (arith, nat_tests))

pub printed_is_number : (n : ℕ) → n < 2 ^ 32 → number_at (decimal n) ≡ Ok n
printed_is_number n lt = accepted (decimal n) n (decimal_is_numeral n (omega arith)) (digits_value-decimal digits_have_values n (omega arith)) lt

negative_text : (v : ℕ) → v ≢ 0 → signed_decimal (neg_ℤ (pos v)) ≡ 45 ∷ decimal v
negative_text zero ne = absurd (ne refl)
negative_text (suc v) ne = refl

-- what stands after a minus is not 0
not_zero : (ds : List ℕ) → is_numeral ds ≡ true → slice_index ds 0 ≢ 48 → digits_value 10 ds ≢ 0
not_zero ds h ne e = let text = printed ds h (omega (arith, e)) ∙ ap decimal e ∙ decimal_digit 0 (omega arith) in ne (ap (λ xs. slice_index xs 0) text)

tested : (b : ℕ) (ds : List ℕ) → is_integer (b ∷ ds) ≡ true → fits_int (b ∷ ds) ≡ true → b ≡ 45 →
    (is_numeral ds ≡ true) × (slice_index ds 0 ≢ 48) × (digits_value 10 ds < 2 ^ 64)
tested b ds h f e = (grind (arith, nat_tests), (λ z. grind (arith, nat_tests)), grind (arith, nat_tests))

plainly : (word : List ℕ) → is_integer word ≡ true → fits_int word ≡ true → slice_index word 0 ≢ 45 →
    (is_numeral word ≡ true) × (digits_value 10 word < 2 ^ 64) × (int_value word ≡ pos (digits_value 10 word))
plainly word h f e = (grind (arith, nat_tests), grind (arith, nat_tests), grind (arith, nat_tests))

value_at_minus : (b : ℕ) (ds : List ℕ) → b ≡ 45 → int_value (b ∷ ds) ≡ neg_ℤ (pos (digits_value 10 ds))
value_at_minus b ds e = rw e refl

spelled_int : (word : List ℕ) → is_integer word ≡ true → fits_int word ≡ true → word ≡ signed_decimal (int_value word)
spelled_int [] h f = cc
spelled_int (b ∷ ds) h f = elim (eqb_tells b 45) [
  | inl e ↦
      let t = tested b ds h f e.1 in
      ap (λ x. x ∷ ds) e.1 ∙ ap (λ xs. 45 ∷ xs) (printed ds t.0 t.2) ∙ sym (negative_text (digits_value 10 ds) (not_zero ds t.0 t.1)) ∙
      ap signed_decimal (sym (value_at_minus b ds e.1))
  | inr e ↦
      let t = plainly (b ∷ ds) h f e.1 in printed (b ∷ ds) t.0 t.1 ∙ ap signed_decimal (sym t.2)
]

-- a word that is read as a number with a sign is what is printed of it
pub int_is_printed : (word : List ℕ) (n : ℤ) → int_at word ≡ Ok n → word ≡ signed_decimal n
unfolding int_at
int_is_printed word n h =
    let p = chosen (is_integer word && fits_int word) (int_value word) n h in
    let q = and_parts (is_integer word) (fits_int word) p.0 in spelled_int word q.0 q.1 ∙ ap signed_decimal p.1

-- ---- and back

pub digits_printed : (n : ℕ) → n < 2 ^ 64 → list_all is_ascii_digit (decimal n) ≡ true
digits_printed n lt = digits_decimal digits_have_values n lt

pub value_printed : (n : ℕ) → n < 2 ^ 64 → digits_value 10 (decimal n) ≡ n
value_printed n lt = digits_value-decimal digits_have_values n lt
