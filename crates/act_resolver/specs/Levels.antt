-- Numbers as the bits of words of 64, and levels of such words, of which one tells where the next has bits.
use Rattle.std.specs.Prelude.{◌≡◌, ℕ, ◌*◌, ◌/◌, ◌%◌, ◌<◌, ◌≤◌, ◌==◌, not, Bool, true, false, Option, List, map, length, slice_index, MatchOption}
use Rattle.std.specs.Int.{bit_at}
use Rattle.std.specs.List.{range_with_len}

-- whether number k is in: bit k % 64 of word k / 64
abbrev pub has_bit : List ℕ → ℕ → Bool
has_bit words k = bit_at (slice_index words (k / 64)) (k % 64) == 1

-- whether a word has any bit
abbrev pub has_any : List ℕ → ℕ → Bool
has_any words w = not (slice_index words w == 0)

-- for each place of the words, whether its number is in
abbrev pub bits_of : List ℕ → List Bool
bits_of words = map (has_bit words) (range_with_len 0 (64 * length words))

-- the number passes, and no lesser one does
abbrev pub IsFirst : (ℕ → Bool) → ℕ → Type 0
IsFirst passes first = (passes first ≡ true) × ((k : ℕ) → k < first → passes k ≡ false)

-- the first number that passes; where there is none, no number passes
abbrev pub IsFirstIfAny : (ℕ → Bool) → Option ℕ → Type 0
IsFirstIfAny passes first = MatchOption first ((k : ℕ) → passes k ≡ false) (IsFirst passes)

-- a level has the number of each word of the level below that has a bit, and room for all its words
pub record IsAbove (above below : List ℕ) : Type 0 where
  pub room : length below ≤ 64 * length above
  pub tells : (w : ℕ) → has_bit above w ≡ has_any below w
