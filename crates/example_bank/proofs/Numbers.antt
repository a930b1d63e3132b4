-- What `parse` says of a word of digits.
use Rattle.std.proofs.Common.{◌≡◌, ℕ, ◌^◌, ◌<◌, ◌≤◌, true, List, length, Result, Ok, Err, Some, None, MatchResult, arith, sym, ap, ◌∙◌}
use Rattle.std.specs.List.{list_all}
use Rattle.std.specs.Char.{is_ascii_digit}
use Rattle.std.specs.Str.Parse.{digits_value, ParsesUnsigned}
use Rattle.std.proofs.lemmas.Str.Parse.{parse_digits}
use Rattle.std.proofs.lemmas.Bool.Decides.{nat_tests}
use Rattle.actors.proofs.Lemmas.{digits_have_values}
use Rattle.example_bank.specs.Requests.{number_at}

-- the number of a word of digits, by their value
from_value : (word : List ℕ) → list_all is_ascii_digit word ≡ true → 0 < length word
    → (digits_value 10 word < 2 ^ 63 → number_at word ≡ Some (digits_value 10 word)) × (¬ (digits_value 10 word < 2 ^ 63) → number_at word ≡ None)
unfolding number_at
from_value word digits some = (λ l. grind (arith, nat_tests), λ l. grind (arith, nat_tests))

-- what was parsed is the number where it is small, and there is none where it is not, or nothing was parsed
pub number_from_parse : {E : Type 0} (word : List ℕ) (r : Result ℕ E) → ParsesUnsigned 64 10 word r → list_all is_ascii_digit word ≡ true → 0 < length word
    → MatchResult r (λ n. (n < 2 ^ 63 → number_at word ≡ Some n) × (2 ^ 63 ≤ n → number_at word ≡ None)) (λ _. number_at word ≡ None)
number_from_parse {E} word (Ok n) p digits some =
    let value : n ≡ digits_value 10 word = (parse_digits digits_have_values {E = E} 64 word (Ok n) p digits).1 in (
      (λ small. (from_value word digits some).0 (omega (arith, small, value)) ∙ ap Some (sym value)),
      λ large. (from_value word digits some).1 (λ small. omega (arith, large, small, value)),
    )
number_from_parse {E} word (Err e) p digits some =
    (from_value word digits some).1 (λ small. parse_digits digits_have_values {E = E} 64 word (Err e) p digits (some, omega (arith, small)))
