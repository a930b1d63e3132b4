-- Words as bits: the look-up of a bit, a bit that changes, and the first bit below the first word.
use Rattle.act_resolver.proofs.Common.{◌≡◌, ◌≢◌, ℕ, ◌+◌, ◌*◌, ◌/◌, ◌%◌, ◌^◌, ◌<◌, ◌≤◌, ◌==◌, inl, inr, Bool, true, false, not, Some, None, List, length, get_or}
use Rattle.act_resolver.proofs.Common.{refl, sym, ◌∙◌, arith, slice_set, bit_at, trailing_zeros, w64, get_or-set_other, get_or-set_same, get_or_past}
use Rattle.act_resolver.proofs.Common.{length-set, length-map-range_with_len, get_or-map-range_with_len, fill_by_all, cases_lt, cases_eq, false≢true, eqb_tells}
use Rattle.act_resolver.proofs.Common.{bit_at-zero, bit_at-trailing_zeros, IsLeast, IsAbove, IsFirst, bits_of, has_any, has_bit}

-- the bits as a list
pub length-bits_of : (words : List ℕ) → length (bits_of words) ≡ 64 * length words
length-bits_of words = length-map-range_with_len (has_bit words) 0 (64 * length words)

no_bit_in_zero : (words : List ℕ) (k : ℕ) → get_or words (k / 64) 0 ≡ 0 → has_bit words k ≡ false
no_bit_in_zero words k empty = rw (empty, bit_at-zero (k % 64)) refl

pub get_or-bits_of : (words : List ℕ) (k : ℕ) → get_or (bits_of words) k false ≡ has_bit words k
get_or-bits_of words k =
    elim (cases_lt k (64 * length words)) [
      | inl lt ↦ get_or-map-range_with_len (has_bit words) 0 (64 * length words) k k false lt (omega arith)
      | inr le ↦
          let past : length (bits_of words) ≤ k = omega (arith, length-bits_of words) in
          get_or_past (bits_of words) k false past ∙ sym (no_bit_in_zero words k (get_or_past words (k / 64) 0 (omega arith)))
    ]

-- a bit that changes
pub bits_of-set : (words after : List ℕ) (k : ℕ) {b : Bool} → length after ≡ length words → k < 64 * length words → has_bit after k ≡ b →
    ((i : ℕ) → i ≢ k → has_bit after i ≡ has_bit words i) → bits_of after ≡ slice_set (bits_of words) k b
bits_of-set words after k {b} same_size within same others =
    rw same_size (sym
    (fill_by_all (has_bit after) (slice_set (bits_of words) k b) (64 * length words) false (length-set (bits_of words) k b ∙ length-bits_of words) at_each))
  where
    at_each : (i : ℕ) → i < 64 * length words → get_or (slice_set (bits_of words) k b) i false ≡ has_bit after i
    at_each i lt =
        elim (cases_eq i k) [
          | inl is ↦ rw is (get_or-set_same (bits_of words) k b false (omega (arith, length-bits_of words)) ∙ sym same)
          | inr other ↦ get_or-set_other (bits_of words) k i b false other ∙ get_or-bits_of words i ∙ sym (others i other)
        ]

-- words that are added are empty
pub has_bit-same : (words after : List ℕ) → ((w : ℕ) → get_or after w 0 ≡ get_or words w 0) → (k : ℕ) → has_bit after k ≡ has_bit words k
has_bit-same words after same k = rw (same (k / 64)) refl

-- words that are added below and above
pub above_grown : {above : List ℕ} (above_after : List ℕ) {below : List ℕ} (below_after : List ℕ) → IsAbove above below → ((w : ℕ) → get_or above_after w 0 ≡
    get_or above w 0) → ((w : ℕ) → get_or below_after w 0 ≡ get_or below w 0) → length below_after ≤ 64 * length above_after → IsAbove above_after below_after
above_grown {above} above_after below_after is same_above same_below room = record {
  room = room;
  tells = λ w. has_bit-same above above_after same_above w ∙ is.tells w ∙ rw (same_below w) refl;
}

-- a level above, after a bit of the one below changed
pub tells_after : (above above_after below below_after : List ℕ) (w : ℕ) {any : Bool} → ((v : ℕ) → has_bit above v ≡ has_any below v) →
    any ≡ has_any below_after w → has_bit above_after w ≡ any → ((v : ℕ) → v ≢ w → has_bit above_after v ≡ has_bit above v) →
    ((v : ℕ) → v ≢ w → get_or below_after v 0 ≡ get_or below v 0) → (v : ℕ) → has_bit above_after v ≡ has_any below_after v
tells_after above above_after below below_after w tells is same others words v =
    elim (cases_eq v w) [
      | inl at_w ↦ rw at_w (same ∙ is)
      | inr other ↦ others v other ∙ tells v ∙ rw (words v other) refl
    ]

-- a word that has no bit is 0, and one that has a bit isn't
word_is_zero : (n : ℕ) → not (n == 0) ≡ false → n ≡ 0
word_is_zero n none = elim (eqb_tells n 0) [ inl told ↦ told.1 | inr told ↦ absurd (cc (told.0, none)) ]

word_is_positive : (n : ℕ) → not (n == 0) ≡ true → 0 < n
word_is_positive n any = elim (cases_lt 0 n) [ inl lt ↦ lt | inr le ↦ let zero_is : n ≡ 0 = omega arith in absurd (false≢true (rw zero_is at any)) ]

pub word_within : (words : List ℕ) (w : ℕ) → has_any words w ≡ true → w < length words
word_within words w any = elim (cases_lt w (length words)) [ inl lt ↦ lt | inr le ↦ absurd (false≢true (rw (get_or_past words w 0 le) at any)) ]

-- the lowest bit of a word that has one
pub lowest_bit : {n : ℕ} → not (n == 0) ≡ true → n < 2 ^ 64 →
    (trailing_zeros w64 n < 64) × (bit_at n (trailing_zeros w64 n) ≡ 1) × ((i : ℕ) → i < trailing_zeros w64 n → bit_at n i ≡ 0)
lowest_bit {n} any fits = bit_at-trailing_zeros w64 n (word_is_positive n any) fits

-- the first bit of all is the lowest of the first word that has a bit
pub first_bit : (words : List ℕ) (w : ℕ) {t : ℕ} → IsFirst (has_any words) w → get_or words w 0 < 2 ^ 64 → t ≡ trailing_zeros w64 (get_or words w 0) →
    IsFirst (has_bit words) (w * 64 + t)
first_bit words w {t} first fits is = (here, before)
  where
    lowest : (trailing_zeros w64 (get_or words w 0) < 64) × (bit_at (get_or words w 0) (trailing_zeros w64 (get_or words w 0)) ≡ 1) ×
        ((i : ℕ) → i < trailing_zeros w64 (get_or words w 0) → bit_at (get_or words w 0) i ≡ 0)
    lowest = lowest_bit first.0 fits

    here : has_bit words (w * 64 + t) ≡ true
    here =
        let below : t < 64 = rw is lowest.0 in let word : (w * 64 + t) / 64 ≡ w = omega arith in let bit : (w * 64 + t) % 64 ≡ t = omega arith in
        rw (word, bit, is, lowest.1) refl

    before : (k : ℕ) → k < w * 64 + t → has_bit words k ≡ false
    before k lt =
        let below : t < 64 = rw is lowest.0 in
        elim (cases_lt (k / 64) w) [
          | inl earlier ↦ no_bit_in_zero words k (word_is_zero (get_or words (k / 64) 0) (first.1 (k / 64) earlier))
          | inr late ↦
              let word : k / 64 ≡ w = omega arith in
              let bit : k % 64 < trailing_zeros w64 (get_or words w 0) = rw (sym is) (omega arith) in rw (word, lowest.2 (k % 64) bit) refl
        ]

-- what passes two tests that tell the same
pub first_same : (p q : ℕ → Bool) (r : ℕ) → ((k : ℕ) → p k ≡ q k) → IsFirst p r → IsFirst q r
first_same p q r same first = (sym (same r) ∙ first.0, λ k lt. sym (same k) ∙ first.1 k lt)

-- where the words above have no bit, those below have none
pub none_below : {above below : List ℕ} → IsAbove above below → ((w : ℕ) → has_any above w ≡ false) → (w : ℕ) → has_any below w ≡ false
none_below {above} is none w = sym (is.tells w) ∙ no_bit_in_zero above w (word_is_zero (get_or above (w / 64) 0) (none (w / 64)))

-- the least number is the first bit of the leaves
pub least_is : (leaves : List ℕ) (r : ℕ) → IsFirst (has_bit leaves) r → IsLeast (bits_of leaves) (Some r)
least_is leaves r first = first_same (has_bit leaves) (λ k. get_or (bits_of leaves) k false) r (λ k. sym (get_or-bits_of leaves k)) first

pub none_is_least : (leaves : List ℕ) → ((w : ℕ) → has_any leaves w ≡ false) → IsLeast (bits_of leaves) None
none_is_least leaves none k = get_or-bits_of leaves k ∙ no_bit_in_zero leaves k (word_is_zero (get_or leaves (k / 64) 0) (none (k / 64)))
