-- Each play is left by events that the rules accept.
use Rattle.act_early.proofs.Common.{◌≡◌, ℕ, List, [], ◌∷◌, ◌++◌, refl, ap, sym, ◌∙◌, subst, All, IsOk, All-append, All-cons, All-nil, Event, Step, ActorSpec}
use Rattle.act_early.proofs.Common.{History, opening, outcome_by, after_by, outcome_of, outcomes, after_all, IsKept, after_all-append, outcomes-append, At}
use Rattle.act_early.proofs.Common.{IsPlay}
use Rattle.act_early.proofs.Worlds.{play_keeps}

-- accepted events left it
pub record IsLeft (specs : List ActorSpec) (h : History) : Type 0 where
  pub events : List Event
  pub accepted : All IsOk (outcomes (opening specs) events)
  pub left : h ≡ after_all (opening specs) events

-- one more accepted event leaves what it adds
pub one_more : (specs : List ActorSpec) → IsKept (IsLeft specs)
one_more specs h other before may =
    let ok : IsOk (outcome_of h other) = subst (λ o. IsOk (outcome_by h other o)) (sym may) refl in
    record {
      events = before.events ++ other ∷ [];
      accepted = subst (λ l. All IsOk l) (sym (outcomes-append (opening specs) before.events (other ∷ []) ∙
          ap (λ g. outcomes (opening specs) before.events ++ outcome_of g other ∷ []) (sym before.left))) (All-append IsOk
          (outcomes (opening specs) before.events) (outcome_of h other ∷ []) before.accepted (All-cons IsOk (outcome_of h other) [] ok (All-nil IsOk)));
      left = sym (after_all-append (opening specs) before.events (other ∷ []) ∙ ap (λ g. after_all g (other ∷ [])) (sym before.left)
          ∙ ap (after_by h other) may);
    }

pub accepted_play : (casts : List ActorSpec) (plans : ℕ → List Step) (at : At) → IsPlay casts plans at
    → (events : List Event) × All IsOk (outcomes (opening casts) events) × (at.history ≡ after_all (opening casts) events)
accepted_play casts plans at play =
    let left = play_keeps (IsLeft casts) (one_more casts) at (record { events = []; accepted = All-nil IsOk; left = refl }) play in
    (left.events, left.accepted, left.left)
