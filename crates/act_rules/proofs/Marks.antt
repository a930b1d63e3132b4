-- A word without its first or its last byte.
use Rattle.act_rules.proofs.Common.{◌≡◌, ℕ, ◌+◌, ◌-◌, ◌<◌, ◌==◌, ◌&&◌, ◌++◌, nat_lt, List, [], ◌∷◌, length, slice_index, take, Ok, arith, sym, ap, ◌∙◌}
use Rattle.act_rules.proofs.Common.{nat_tests, length_push, take_more, get_or-append_seam, take-append_seam, take-length, and_parts, marked_at}
use Rattle.act_rules.specs.Words.{closed_at}
use Rattle.act_rules.proofs.Numbers.{chosen}

-- what was marked begins with the mark
pub marked_is : (bs : List ℕ) {rest : List ℕ} (mark : ℕ) → marked_at bs mark ≡ Ok rest → bs ≡ mark ∷ rest
marked_is [] mark h = cc
marked_is (b ∷ bs) {rest} mark h =
    let p = chosen (b == mark) bs rest h in let same : b ≡ mark = grind (arith, nat_tests) in ap (λ x. x ∷ bs) same ∙ ap (λ xs. mark ∷ xs) p.1

pub last_is : (bs : List ℕ) → 0 < length bs → bs ≡ take (length bs - 1) bs ++ slice_index bs (length bs - 1) ∷ []
last_is bs h =
    let whole : length bs - 1 + 1 ≡ length bs = omega arith in let e = take_more bs (length bs - 1) 0 (omega arith) in
    sym (take-length bs) ∙ sym (ap (λ n. take n bs) whole) ∙ e

-- what was closed ends with the mark
pub closed_is : (bs front : List ℕ) (mark : ℕ) → closed_at bs mark ≡ Ok front → bs ≡ front ++ mark ∷ []
unfolding closed_at
closed_is bs front mark h =
    let p = chosen (nat_lt 0 (length bs) && (slice_index bs (length bs - 1) == mark)) (take (length bs - 1) bs) front h in
    let q = and_parts (nat_lt 0 (length bs)) (slice_index bs (length bs - 1) == mark) p.0 in
    let some : 0 < length bs = grind (arith, nat_tests) in
    let last : slice_index bs (length bs - 1) ≡ mark = grind (arith, nat_tests) in
    last_is bs some ∙ ap (λ x. take (length bs - 1) bs ++ x ∷ []) last ∙ ap (λ xs. xs ++ mark ∷ []) p.1

closed_last : (bs : List ℕ) (mark n : ℕ) → length bs ≡ n + 1 → slice_index bs n ≡ mark → closed_at bs mark ≡ Ok (take n bs)
unfolding closed_at
closed_last bs mark n len last = let less : length bs - 1 ≡ n = omega arith in rw less (grind (arith, nat_tests))

-- a word with the mark put behind it is read as that word
pub closed_some : (front : List ℕ) (mark : ℕ) → closed_at (front ++ mark ∷ []) mark ≡ Ok front
closed_some front mark =
    closed_last (front ++ mark ∷ []) mark (length front) (length_push front mark) (get_or-append_seam front mark [] 0) ∙
    ap Ok (take-append_seam front (mark ∷ []))
