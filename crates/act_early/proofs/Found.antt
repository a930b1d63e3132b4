-- The end of a list that keeps to plans is found.
use Rattle.act_early.proofs.Common.{◌≡◌, ℕ, Bool, List, sym, ◌∙◌, subst, All, Contains, IsOk, Event, Step, ActorSpec, opening, history, outcomes, At, IsPlay}
use Rattle.act_early.proofs.Common.{IsWholeSearch, IsOver, IsEnded, LosesOnly, EndsAlike, IsEarly, IsSameEnd, KeepsToPlans}
use Rattle.act_early.proofs.Ending.{enough}
use Rattle.act_early.proofs.Early.{early_play, early_ends}
use Rattle.act_early.proofs.Retires.{retired_play}
use Rattle.act_early.proofs.Listing.{list_play}

-- the play of the list, which is ended
record IsListed (specs : List ActorSpec) (plans : ℕ → List Step) (events : List Event) (at : At) : Type 0 where
  play : IsPlay specs plans at
  is : at.history ≡ history specs events
  ended : IsEnded plans at

listed : (casts : List ActorSpec) (plans : ℕ → List Step) (events : List Event) → All IsOk (outcomes (opening casts) events)
    → KeepsToPlans casts plans events → IsOver (history casts events) → (at : At) × IsListed casts plans events at
listed casts plans events ok keeps over =
    let at = list_play casts plans events ok keeps in
    (at.0, record { play = at.1; is = at.2; ended = record { done = at.3; over = subst IsOver (sym at.2) over } })

-- a whole search has seen an end like that of accepted events that keep to plans, are over and lose only what may be
pub found : (casts : List ActorSpec) (plans : ℕ → List Step) (may_lose : ℕ → Bool) (seen : List At) (events : List Event) → IsWholeSearch casts plans may_lose
    (Contains seen) → All IsOk (outcomes (opening casts) events) → KeepsToPlans casts plans events → IsOver (history casts events) →
    LosesOnly may_lose (history casts events) → (early : At) × Contains seen early × EndsAlike plans early (history casts events)
found casts plans may_lose seen events search ok keeps over losing =
    let late = listed casts plans events ok keeps over in let is = late.1.is in
    let early =
    enough casts plans may_lose (Contains seen) late.0 search late.1.play late.1.ended (subst (LosesOnly may_lose) (sym is) losing) in
    (early.0, early.1, subst (EndsAlike plans early.0) is early.2)

pub made_early : (casts : List ActorSpec) (plans : ℕ → List Step) (events : List Event) → All IsOk (outcomes (opening casts) events) →
    KeepsToPlans casts plans events → IsOver (history casts events) → (early : At) × (end : At) × IsEarly casts plans early ×
    EndsAlike plans early end.history × IsPlay casts plans end × IsSameEnd end.history (history casts events)
made_early casts plans events ok keeps over =
    -- as the late one ended, so does the end
    let ends : (early end late : At) → EndsAlike plans early late.history → IsSameEnd end.history late.history → EndsAlike plans early end.history =
    λ early end late alike same. record {
      done = alike.done;
      calls = λ c. alike.calls c ∙ sym (same.calls c);
      kept = λ c. alike.kept c ∙ sym (same.kept c);
      runs = λ a. alike.runs a ∙ sym (same.runs a);
      dead = λ a. alike.dead a ∙ sym (same.dead a);
      retires = λ a retired. alike.retires a (sym (same.retired a) ∙ retired);
    } in
    let late = listed casts plans events ok keeps over in let early = early_ends casts plans late.0 late.1.play late.1.ended in let is = early_play early.1 in
    let end = retired_play casts plans late.0 is.0 is.1 late.1.play late.1.ended early.2 in
    (early.0, end.0, early.1, ends early.0 end.0 late.0 early.2 end.3, end.1, subst (IsSameEnd end.0.history) late.1.is end.3)
