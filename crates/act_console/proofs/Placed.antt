-- Writing the members of a list one after the other, as a loop does.
use Rattle.act_console.proofs.Common.{◌≡◌, ℕ, [], ◌∷◌, ◌+◌, ◌<◌, ◌≤◌, List, ◌++◌, length, drop, get_or, sym, ap, ◌∙◌, append_assoc, add-one, drop-cons, arith}
use Rattle.act_console.proofs.Common.{slice_get, option_map_or, append-nil, slice_get-get_or, drop_of_length-le, numbered_lines}

turn : {X : Type 0} (line : ℕ → X → List ℕ) (xs : List X) (i : ℕ) (d : X) → i < length xs →
    numbered_lines line i (drop i xs) ≡ line i (get_or xs i d) ++ numbered_lines line (i + 1) (drop (i + 1) xs)
turn line xs i d lt =
    ap (numbered_lines line i) (drop-cons xs i d lt) ∙ ap (λ j. line i (get_or xs i d) ++ numbered_lines line (i + 1) (drop j xs)) (sym (add-one i))

pub goes_on : {X : Type 0} (line : ℕ → X → List ℕ) (old new whole : List ℕ) (xs : List X) (i : ℕ) (d : X) → i < length xs → new ≡ old ++ line i (get_or xs i d)
    → old ++ numbered_lines line i (drop i xs) ≡ whole → new ++ numbered_lines line (i + 1) (drop (i + 1) xs) ≡ whole
goes_on line old new whole xs i d lt h so_far =
    ap (λ t. t ++ numbered_lines line (i + 1) (drop (i + 1) xs)) h ∙
    append_assoc old (line i (get_or xs i d)) (numbered_lines line (i + 1) (drop (i + 1) xs)) ∙ sym (ap (λ t. old ++ t) (turn line xs i d lt)) ∙ so_far

-- the same, where the member is known by its equation
pub goes_on_at : {X : Type 0} (line : ℕ → X → List ℕ) (old : List ℕ) {new : List ℕ} (whole : List ℕ) (xs : List X) {i : ℕ} {x : X} → i < length xs →
    x ≡ get_or xs i x → new ≡ old ++ line i x → old ++ numbered_lines line i (drop i xs) ≡ whole → new ++ numbered_lines line (i + 1) (drop (i + 1) xs) ≡ whole
goes_on_at line old {new} whole xs {i} {x} lt is h so_far = goes_on line old new whole xs i x lt (h ∙ ap (λ y. old ++ line i y) is) so_far

-- where no member is left to be written, what was written is the whole
pub is_done : {X : Type 0} (line : ℕ → X → List ℕ) (old whole : List ℕ) (xs : List X) (i : ℕ) → length xs ≤ i →
    old ++ numbered_lines line i (drop i xs) ≡ whole → old ≡ whole
is_done line old whole xs i le so_far = sym (append-nil old) ∙ sym (ap (λ left. old ++ numbered_lines line i left) (drop_of_length-le xs le)) ∙ so_far

-- writing goes on by one more member, which is found by its place
pub goes_on_found : {X : Type 0} (line : ℕ → X → List ℕ) (old : List ℕ) {new : List ℕ} (whole : List ℕ) (xs : List X) {i : ℕ} → i < length xs → new ≡ old ++
    option_map_or (line i) (slice_get xs i) [] → old ++ numbered_lines line i (drop i xs) ≡ whole → new ++ numbered_lines line (i + 1) (drop (i + 1) xs) ≡ whole
goes_on_found line old whole [] lt h so_far = absurd (omega arith)
goes_on_found line old {new} whole (x ∷ xs) {i} lt h so_far =
    goes_on line old new whole (x ∷ xs) i x lt (h ∙ ap (λ found. old ++ option_map_or (line i) found []) (slice_get-get_or (x ∷ xs) i x lt)) so_far
