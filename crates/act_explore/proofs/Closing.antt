-- When nothing waits any more, the search was whole.
use Rattle.act_explore.proofs.Common.{◌≡◌, ◌⊎◌, ℕ, true, false, List, [], ◌∷◌, ◌++◌, sym, subst, arith, inl, inr, Contains, All-contains}
use Rattle.act_explore.proofs.Common.{All-nil, All-weaker, Event, Step, ActorSpec, runs_of, At, HasRunMore, IsWholeSearch, Choice, Run, Take, HasChosen, IsDone}
use Rattle.act_explore.proofs.Common.{HasPassed, HasMade, HasNumber, key_of, Left, IsKnown, Waits, IsLookedAt, IsSeen, HasSearched, HasSearchedAll, ◌∙◌}
use Rattle.act_explore.proofs.Keys.{same_key}
use Rattle.act_explore.proofs.Paths.{made_same, chosen_more, none_ran, none_killed}
use Rattle.std.proofs.Math.Bool.{or-false}

module _ (casts : List ActorSpec) (plans : ℕ → List Step) (Passed : List Event → Type 0) (left : Left) (seen : List At)
    (searched : HasSearched casts plans Passed left seen) (nothing : left.waiting ≡ []) where
  looked : (at : At) → Contains seen at → IsLookedAt casts plans Passed left at
  looked at here = All-contains (IsLookedAt casts plans Passed left) seen at searched.looked here

  -- a key that is known is that of a play that was looked at
  seen_key : (key : List ℕ) → left.known key ≡ true → IsSeen seen key
  seen_key key known = go (searched.all key known)
    where
      none : (paths : List (List Choice)) (path : List Choice) → paths ≡ [] → Contains paths path → ⊥
      none [] path e at = omega (arith, at.1)
      none (p ∷ ps) path e at = cc

      go : IsSeen seen key ⊎ Waits left key → IsSeen seen key
      go (inl found) = found
      go (inr waits) = absurd (none left.waiting waits.path nothing waits.waits)

  -- a path that is known was made by a play that was looked at
  record IsMadeBy (path : List Choice) (at : At) : Type 0 where
    seen_at : Contains seen at
    made : HasMade path at.history

  maker : (path : List Choice) → IsKnown left path → (at : At) × IsMadeBy path at
  maker path known =
      let found = seen_key (key_of path) known.known in (
        found.at,
        record { seen_at = found.seen_at; made = made_same path (same_key found.path path found.numbers known.numbers found.keyed) found.made },
      )

  next_of : (at : At) (choice : Choice) → (here : Contains seen at) → IsKnown left ((looked at here).path ++ choice ∷ []) → (next : At) × Contains seen next
      × HasChosen choice at.history next.history
  next_of at choice here known =
      let is = looked at here in let next = maker (is.path ++ choice ∷ []) known in
      (next.0, next.1.seen_at, chosen_more is.path choice is.stands.made next.1.made)

  start : (at : At) × Contains seen at × ((a : ℕ) → runs_of a at.history ≡ []) × (at.history.killed ≡ [])
  start =
      let first = maker [] (record { numbers = All-nil HasNumber; known = searched.first }) in
      (first.0, first.1.seen_at, λ a. none_ran first.0.history a first.1.made, none_killed first.1.made)

  pub whole : IsWholeSearch casts plans (λ a. false) (Contains seen)
  whole = record {
    plays = λ at here. (looked at here).stands.play;
    quiescent = λ at here. (looked at here).stands.quiescent;
    start = start;
    runs = λ at a c heard here may some is.
        let next = next_of at (Run a c) here ((looked at here).next.runs a c may some) in
        (next.0, next.1, subst (λ t. HasRunMore a c t at.history next.0.history) (sym is ∙ or-false heard) next.2);
    takes = λ at a here may. next_of at (Take a) here ((looked at here).next.takes a may);
  }

  pub searched_all : HasSearchedAll casts plans Passed seen
  searched_all = record {
    whole = whole;
    passed = All-weaker (IsLookedAt casts plans Passed left) (λ at. IsDone plans at → HasPassed casts Passed at.history)
        (λ at is. is.passed) seen searched.looked;
  }
