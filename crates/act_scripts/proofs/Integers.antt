-- What `parse` says of a word that is an integer.
use Rattle.act_scripts.proofs.Common.{◌≡◌, ◌≢◌, ℕ, ◌^◌, ◌<◌, ◌≤◌, true, List, slice_index, drop, Result, Ok, Err, MatchResult, ℤ, pos, neg_ℤ, inl, inr, arith}
use Rattle.act_scripts.proofs.Common.{sym, ap, ◌∙◌, w64, digits_value, ParsesSigned, parse_signed_minus, parse_signed_digits, nat_tests, eqb_tells, BadLine}
use Rattle.act_scripts.proofs.Common.{is_numeral, is_integer, digits_have_values, numeral_is_digits}
use Rattle.act_rules.specs.Words.{int_at}

-- with a minus in front
minus_at : (word : List ℕ) → slice_index word 0 ≡ 45 → is_integer word ≡ true → (is_numeral (drop 1 word) ≡ true) × (digits_value 10 (drop 1 word) ≤ 2 ^ 63 →
    int_at word ≡ Ok (neg_ℤ (pos (digits_value 10 (drop 1 word))))) × (¬ (digits_value 10 (drop 1 word) ≤ 2 ^ 63) → int_at word ≡ Err BadLine)
unfolding int_at
minus_at word e h = (grind (arith, nat_tests), (λ l. grind (arith, nat_tests)), λ l. grind (arith, nat_tests))

-- with none
plain_at : (word : List ℕ) → slice_index word 0 ≢ 45 → is_integer word ≡ true → (is_numeral word ≡ true) ×
    (digits_value 10 word < 2 ^ 63 → int_at word ≡ Ok (pos (digits_value 10 word))) × (¬ (digits_value 10 word < 2 ^ 63) → int_at word ≡ Err BadLine)
unfolding int_at
plain_at word e h = (grind (arith, nat_tests), (λ l. grind (arith, nat_tests)), λ l. grind (arith, nat_tests))

from_minus : {E : Type 0} (word : List ℕ) (r : Result ℤ E) → slice_index word 0 ≡ 45 → ParsesSigned w64 10 word r → is_integer word ≡ true →
    MatchResult r (λ n. int_at word ≡ Ok n) (λ _. int_at word ≡ Err BadLine)
from_minus {E} word (Ok n) e p h =
    let at = minus_at word e h in
    let read = parse_signed_minus digits_have_values {E = E} w64 word (Ok n) p e in at.1 read.0.2 ∙ ap Ok (sym read.1)
from_minus {E} word (Err d) e p h =
    let at = minus_at word e h in
    let read = parse_signed_minus digits_have_values {E = E} w64 word (Err d) p e in
    let digits = numeral_is_digits (drop 1 word) at.0 in at.2 (λ below. read (digits.0, digits.1, below))

from_plain : {E : Type 0} (word : List ℕ) (r : Result ℤ E) → slice_index word 0 ≢ 45 → ParsesSigned w64 10 word r → is_integer word ≡ true →
    MatchResult r (λ n. int_at word ≡ Ok n) (λ _. int_at word ≡ Err BadLine)
from_plain {E} word (Ok n) e p h =
    let at = plain_at word e h in
    let read = parse_signed_digits digits_have_values {E = E} w64 word (Ok n) p (numeral_is_digits word at.0).0 in at.1 read.0.1 ∙ ap Ok (sym read.1)
from_plain {E} word (Err d) e p h =
    let at = plain_at word e h in let digits = numeral_is_digits word at.0 in
    let read = parse_signed_digits digits_have_values {E = E} w64 word (Err d) p digits.0 in at.2 (λ below. read (digits.1, below))

pub int_from_parse : {E : Type 0} (word : List ℕ) (r : Result ℤ E) → ParsesSigned w64 10 word r → is_integer word ≡ true →
    MatchResult r (λ n. int_at word ≡ Ok n) (λ _. int_at word ≡ Err BadLine)
int_from_parse {E} word r p h = elim (eqb_tells (slice_index word 0) 45) [
  | inl e ↦ from_minus {E = E} word r e.1 p h
  | inr e ↦ from_plain {E = E} word r e.1 p h
]
