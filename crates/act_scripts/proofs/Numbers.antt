-- What `parse` says of a word that is a numeral.
use Rattle.act_scripts.proofs.Common.{◌≡◌, ℕ, ◌^◌, ◌<◌, Bool, true, false, List, [], ◌∷◌, length, get_or, list_all, refl, Result, Ok, Err, MatchResult, arith}
use Rattle.act_scripts.proofs.Common.{sym, ap, ◌∙◌, digits_value, ParsesUnsigned, nat_tests, parse_plain, BadLine, is_numeral, digits_have_values}
use Rattle.act_scripts.proofs.Common.{numeral_is_digits, ◌≢◌}
use Rattle.act_rules.specs.Words.{number_at}
use Rattle.act_scripts.specs.Numerals.{begins_numeral}
use Rattle.std.specs.Char.{is_ascii_digit}

number_from_test : (word : List ℕ) → is_numeral word ≡ true →
    (digits_value 10 word < 2 ^ 32 → number_at word ≡ Ok (digits_value 10 word)) × (¬ (digits_value 10 word < 2 ^ 32) → number_at word ≡ Err BadLine)
unfolding number_at
number_from_test word h = (λ l. grind (arith, nat_tests), λ l. grind (arith, nat_tests))

-- it is a numeral if anything refuses it otherwise
by_numeral : (word : List ℕ) (b : Bool) → is_numeral word ≡ b → (is_numeral word ≡ true → number_at word ≡ Err BadLine) → number_at word ≡ Err BadLine
unfolding number_at
by_numeral word true e told = told e
by_numeral word false e told = rw e refl

-- a digit that is not 0, and then more
no_plus : (word : List ℕ) → begins_numeral word ≡ true → get_or word 0 0 ≢ 43
no_plus [] h = λ e. absurd (grind (arith, nat_tests))
no_plus (d ∷ ds) h = λ e. absurd (grind (arith, nat_tests))

numeral_of : (word : List ℕ) → begins_numeral word ≡ true → list_all is_ascii_digit word ≡ true → is_numeral word ≡ true
numeral_of [] h digits = cc
numeral_of (d ∷ ds) h digits = grind (arith, nat_tests)

pub number_from_parse : {E : Type 0} (word : List ℕ) (r : Result ℕ E) → ParsesUnsigned 32 10 word r → begins_numeral word ≡ true →
    MatchResult r (λ n. number_at word ≡ Ok n) (λ _. number_at word ≡ Err BadLine)
number_from_parse {E} word (Ok n) p h =
    let read = parse_plain digits_have_values {E = E} 32 word (Ok n) p (no_plus word h) in
    (number_from_test word (numeral_of word h read.0.0)).0 read.0.2 ∙ ap Ok (sym read.1)
number_from_parse {E} word (Err e) p h =
    let read = parse_plain digits_have_values {E = E} 32 word (Err e) p (no_plus word h) in
    by_numeral word (is_numeral word) refl
    (λ is. let digits = numeral_is_digits word is in (number_from_test word is).1 (λ below. read (digits.0, digits.1, below)))

-- no numeral of more than one digit begins otherwise
no_numeral : (word : List ℕ) → length word ≢ 1 → begins_numeral word ≡ false → is_numeral word ≡ true → number_at word ≡ Err BadLine
no_numeral [] many h is = absurd (grind (arith, nat_tests))
no_numeral (d ∷ []) many h is = absurd (many refl)
no_numeral (d ∷ e ∷ ds) many h is = absurd (grind (arith, nat_tests))

pub number_from_none : (word : List ℕ) → length word ≢ 1 → begins_numeral word ≡ false → number_at word ≡ Err BadLine
number_from_none word many h = by_numeral word (is_numeral word) refl (no_numeral word many h)
