-- What stands before one step of a thread: of each thread a front, with all its earlier steps.
use Rattle.act_executor.proofs.Common.{◌≡◌, ℕ, ◌≤◌, ◌<◌, List, ◌∷◌, ◌++◌, Option, ap, sym, ◌∙◌, subst, Contains, option_map, cons_option, recursion_from_All}
use Rattle.act_executor.proofs.Common.{All-from_recursion, contains_map, steps_in, found_in, Site, Action, action_at, actions_of, Threads, IsFrontBelow}
use Rattle.act_executor.proofs.Common.{IsMergeOf, found_more, found_from, action_here, deed_of}
use Rattle.act_causes.proofs.Found.{found_is}
use Rattle.act_executor.proofs.Lists.Cuts.{step_seen}

-- what is found in a trace and in a front of it
pub found_below : {S X : Type 0} (part : S → Option X) (m : ℕ) {trace : List (ℕ × S)} (front : List (ℕ × S)) → IsFrontBelow m trace front
    → IsFrontBelow m (found_in part trace) (found_in part front)
found_below {S} {X} part m front seen = record {
  later = found_in part seen.later;
  cut = ap (found_in part) seen.cut ∙ found_more part front seen.later;
  from = All-from_recursion (λ (x : ℕ × X). m ≤ x.0) (found_in part seen.later)
      (found_from part m seen.later (recursion_from_All (λ (x : ℕ × S). m ≤ x.0) seen.later seen.from));
}

-- ---- where the merged steps are cut before one

module _ {threads : Threads} {merged : List (ℕ × (Site × Action))} (merge : IsMergeOf threads merged) where
  -- of each caller and each actor the merged deeds have what its thread did
  pub actions_are : (site : Site) → actions_of site (steps_in merged) ≡ steps_in (threads site)
  actions_are site = sym (found_is (action_at site) merged) ∙ ap steps_in (merge.of site)

  -- an action there is the next of its thread
  pub next : (before later : List (ℕ × (Site × Action))) (m : ℕ) (site : Site) (action : Action) → merged ≡ before ++ (m, (site, action)) ∷ later
      → threads site ≡ found_in (action_at site) before ++ (m, action) ∷ found_in (action_at site) later
  next before later m site action e =
      sym (merge.of site) ∙ ap (found_in (action_at site)) e ∙ found_more (action_at site) before ((m, (site, action)) ∷ later)
      ∙ ap (λ o. found_in (action_at site) before ++ cons_option (option_map (λ x. (m, x)) o) (found_in (action_at site) later)) (action_here site action)

-- before a deed with stamp m stands of each thread a front, with all its earlier steps
abbrev pub IsSeen : Threads → List (ℕ × (Site × Action)) → ℕ → Type 0
IsSeen threads before m = (site : Site) → IsFrontBelow m (threads site) (found_in (action_at site) before)

-- what was done earlier is among the deeds before
pub seen_before : {threads : Threads} (before : List (ℕ × (Site × Action))) (m : ℕ) → IsSeen threads before m
    → (site : Site) {n : ℕ} (action : Action) → Contains (threads site) (n, action) → n < m → Contains (steps_in before) (site, action)
seen_before {threads} before m seen site {n} action has lt =
    let front : List (ℕ × Action) = found_in (action_at site) before in
    deed_of site (steps_in before) action
    (subst (λ l. Contains l action) (found_is (action_at site) before)
    (contains_map (λ (x : ℕ × Action). x.1) front (n, action) (step_seen m (threads site) front (seen site) action has lt)))
