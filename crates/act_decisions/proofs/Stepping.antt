-- A caller's steps among those of a script, one after the other.
use Rattle.act_decisions.proofs.Common.{◌≡◌, ℕ, ◌+◌, ◌<◌, ◌==◌, Bool, true, false, List, [], ◌∷◌, ◌++◌, length, take, map, filter, get_or, refl, sym, ap, ◌∙◌}
use Rattle.act_decisions.proofs.Common.{if◌then◌else◌, take_more, map-append, filter-append, Step, steps_of_caller, own_step, StartsWith}

-- one step of a script
pub of_one : (c : ℕ) (s : ℕ × Step × ℕ) → steps_of_caller c (s ∷ []) ≡ own_step c s
of_one c s = go (s.0 == c)
  where
    go : (b : Bool) → map (λ (t : ℕ × Step × ℕ). t.1) (if b then s ∷ [] else []) ≡ (if b then s.1 ∷ [] else [])
    go true = refl
    go false = refl

steps_more : (c : ℕ) (steps : List (ℕ × Step × ℕ)) (i : ℕ) (s : ℕ × Step × ℕ) → i < length steps → s ≡ get_or steps i s
    → steps_of_caller c (take (i + 1) steps) ≡ steps_of_caller c (take i steps) ++ own_step c s
steps_more c steps i s within is =
    ap (steps_of_caller c) (take_more steps i s within ∙ ap (λ x. take i steps ++ x ∷ []) (sym is))
    ∙ ap (map (λ (t : ℕ × Step × ℕ). t.1)) (filter-append (λ (t : ℕ × Step × ℕ). t.0 == c) (take i steps) (s ∷ []))
    ∙ map-append (λ (t : ℕ × Step × ℕ). t.1) (filter (λ (t : ℕ × Step × ℕ). t.0 == c) (take i steps)) (filter (λ (t : ℕ × Step × ℕ). t.0 == c) (s ∷ []))
    ∙ ap (λ back. steps_of_caller c (take i steps) ++ back) (of_one c s)

-- the first of the caller's own are those of the steps so far
pub steps_go_on : (c : ℕ) (steps : List (ℕ × Step × ℕ)) {i at next : ℕ} {s : ℕ × Step × ℕ} {own : List Step} → i < length steps → s ≡ get_or steps i s
    → StartsWith next (take at own ++ own_step c s) own → StartsWith at (steps_of_caller c (take i steps)) own
    → StartsWith next (steps_of_caller c (take (i + 1) steps)) own
steps_go_on c steps {i} {s} within is one so_far = record {
  within = one.within;
  same = one.same ∙ ap (λ front. front ++ own_step c s) so_far.same ∙ sym (steps_more c steps i s within is);
}
