-- Texts of places, one after another.
use Rattle.act_written.proofs.Common.{◌≡◌, ◌≢◌, inl, inr, ℕ, zero, suc, ◌+◌, ◌<◌, ◌≤◌, ◌-◌, List, [], ◌++◌, length, get_or, append_assoc, add-one, refl, ap}
use Rattle.act_written.proofs.Common.{sym, ◌∙◌, arith, All, Contains, All-contains_itself, eq-eqb, ne_eqb, append-nil, Told, run_of, of_each, run_line}
use Rattle.act_written.proofs.Common.{run_line_of, IsPast, same_or_not}

-- the text of one place more was written
pub each_next : (text_of : ℕ → List ℕ) (n : ℕ) (old : List ℕ) {now new : List ℕ} → now ≡ old ++ of_each text_of n →
    new ≡ now ++ text_of n → new ≡ old ++ of_each text_of (n + 1)
each_next text_of n old so_far h =
    h ∙ ap (λ t. t ++ text_of n) so_far ∙ append_assoc old (of_each text_of n) (text_of n)
    ∙ ap (λ m. old ++ of_each text_of m) (sym (add-one n))

-- places without a text
pub none_below : (text_of : ℕ → List ℕ) (n : ℕ) → ((i : ℕ) → i < n → text_of i ≡ []) → of_each text_of n ≡ []
none_below text_of zero none = refl
none_below text_of (suc n) none = ap (λ t. t ++ text_of n) (none_below text_of n (λ i lt. none i (omega arith))) ∙ none n (omega arith)

pub none_after : (text_of : ℕ → List ℕ) (m k : ℕ) → ((i : ℕ) → m ≤ i → i < m + k → text_of i ≡ []) → of_each text_of (m + k) ≡ of_each text_of m
none_after text_of m zero none = let e : m + 0 ≡ m = omega arith in ap (of_each text_of) e
none_after text_of m (suc k) none =
    let e : m + suc k ≡ suc (m + k) = omega arith in
    ap (of_each text_of) e
    ∙ ap (λ t. of_each text_of (m + k) ++ t) (none (m + k) (omega arith) (omega arith))
    ∙ append-nil (of_each text_of (m + k))
    ∙ none_after text_of m k (λ i le lt. none i le (omega arith))

-- a run of another actor has no line here
not_mine : (told : Told) (names : List ℕ) (a i : ℕ) → ((run_of told i).actor ≡ a → ⊥) → run_line_of told names a i ≡ []
not_mine told names a i other = rw (ne_eqb (run_of told i).actor a other) refl

-- one of this actor has its line
pub mine : (told : Told) (names : List ℕ) (a i : ℕ) → (run_of told i).actor ≡ a → run_line_of told names a i ≡ run_line told names i
mine told names a i e = rw (eq-eqb (run_of told i).actor a e) refl

-- no run that was passed has a line of this actor
pub none_passed : (told : Told) (names : List ℕ) (a : ℕ) {i : ℕ} → IsPast told a i → of_each (run_line_of told names a) i ≡ []
none_passed told names a {i} past =
    none_below (run_line_of told names a) i (λ j lt. not_mine told names a j (λ e. let h = past.before j lt in omega (arith, h, e)))

-- nor has one from the next actor's on
pub none_left : (told : Told) (names : List ℕ) (a i : ℕ) → i ≤ length told.runs → IsPast told (a + 1) i →
    of_each (run_line_of told names a) (length told.runs) ≡ of_each (run_line_of told names a) i
none_left told names a i le past =
    let k : ℕ = length told.runs - i in let e : length told.runs ≡ i + k = omega arith in
    ap (of_each (run_line_of told names a)) e
    ∙ none_after (run_line_of told names a) i k (λ j from to. not_mine told names a j
    (λ same. let h = past.after j from (omega arith) in omega (arith, h, same)))

-- what holds of each number that a list names holds of all
pub all_named : (places : List ℕ) (count : ℕ) → ((k : ℕ) → Contains places k → k < count) → All (λ k. k < count) places
all_named places count named k d lt = named (get_or places k d) (All-contains_itself places k d lt)

-- one run more of the actor was passed
pub passed_one : (told : Told) {a : ℕ} (i : ℕ) → ((j : ℕ) → j < i → (run_of told j).actor < a + 1) → (run_of told i).actor ≡ a →
    (j : ℕ) → j < i + 1 → (run_of told j).actor < a + 1
passed_one told i before here j lt =
    elim (same_or_not j i) [
      | inl e ↦ let h : (run_of told j).actor ≡ (run_of told i).actor = ap (λ k. (run_of told k).actor) e in omega (arith, h, here)
      | inr other ↦ before j (omega arith)
    ]

-- at a run of a later actor, or past the last one, all of the actor's are passed
pub is_past : (told : Told) (a i : ℕ) → ((j k : ℕ) → j ≤ k → k < length told.runs → (run_of told j).actor ≤ (run_of told k).actor) →
    (i < length told.runs → (run_of told i).actor ≢ a) → ((j : ℕ) → j < i → (run_of told j).actor < a + 1) →
    ((j : ℕ) → i ≤ j → j < length told.runs → a ≤ (run_of told j).actor) → IsPast told (a + 1) i
is_past told a i rise other before after = record {
  before = before;
  after = λ j le lt. let h = rise i j le lt in let d = other (omega arith) in let g = after i (omega arith) (omega arith) in omega (arith, h, d, g);
}
