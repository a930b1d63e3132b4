-- When a list of events keeps to plans: each caller did its plan in it, step by step, and then let some handles go.
use Rattle.std.specs.Prelude.{◌≡◌, ℕ, ◌==◌, ◌⊎◌, Bool, true, false, List, [], ◌∷◌, ◌++◌, map, None, is_some, IsOk, All, Contains}
use Rattle.act_rules.specs.declared.event.Event.{Event}
use Rattle.act_rules.specs.declared.event.Event.TheVariants as event
use Rattle.act_rules.specs.declared.history.Post.TheVariants.{Death as DeathPost}
use Rattle.act_rules.specs.declared.script.Step.{Step}
use Rattle.act_rules.specs.declared.script.Step.TheVariants.{Submit, Copy, Release, Kill, Await}
use Rattle.act_rules.specs.History.{ActorSpec, opening, kept_of}
use Rattle.act_rules.specs.Laws.{history}
use Rattle.act_rules.specs.Rules.{outcomes}
use Rattle.act_rules.specs.Submissions.{kept_at}
use Rattle.act_early.specs.Plays.{At, next_step, IsPlay}
use Rattle.act_early.specs.Early.{IsWholeSearch, IsOver, LosesOnly, EndsAlike}
use Rattle.act_early.specs.Quiescence.{IsEarly, IsSameEnd}

-- whether the event is a step of the caller's
abbrev pub is_step_by : ℕ → Event → Bool
is_step_by c (event.Submit d a method args) = d == c
is_step_by c (event.Copy d a) = d == c
is_step_by c (event.Release d a) = d == c
is_step_by c (event.AskKill d a) = d == c
is_step_by c other = false

-- none of the events is a step of the caller's
abbrev pub AreOthers : ℕ → List Event → Type 0
AreOthers c events = All (λ other. is_step_by c other ≡ false) events

-- after the events `before` the caller does the step by the events `done`: what it awaits is kept by then, and a kill
-- goes unasked only where it collected the actor's death
abbrev pub DoesStepBy : List ActorSpec → ℕ → Step → List Event → List Event → Type 0
DoesStepBy casts c (Submit a method args) before done = done ≡ event.Submit c a method args ∷ []
DoesStepBy casts c (Copy a) before done = done ≡ event.Copy c a ∷ []
DoesStepBy casts c (Release a) before done = done ≡ event.Release c a ∷ []
DoesStepBy casts c (Kill a) before done = (done ≡ event.AskKill c a ∷ [])
    ⊎ ((done ≡ []) × Contains (history casts before).collected (DeathPost c a))
DoesStepBy casts c (Await k) before done = (done ≡ [])
    × (is_some (kept_at (kept_of c (history casts before)) k) ≡ true)

-- after the events `before` the caller does these steps in their order, and no other step
abbrev pub DoesStepsBy : List ActorSpec → ℕ → List Step → List Event → List Event → Type 0
DoesStepsBy casts c [] before events = AreOthers c events
DoesStepsBy casts c (step ∷ steps) before events = (first : List Event) × (done : List Event) × (later : List Event)
    × (events ≡ first ++ done ++ later) × AreOthers c first × DoesStepBy casts c step (before ++ first) done
    × DoesStepsBy casts c steps (before ++ first ++ done) later

-- each caller does its plan, and then lets some handles go
abbrev pub KeepsToPlans : List ActorSpec → (ℕ → List Step) → List Event → Type 0
KeepsToPlans casts plans events =
    (c : ℕ) → (closing : List ℕ) × DoesStepsBy casts c (plans c ++ map (λ a. Release a) closing) [] events

-- such a list, if the rules accept each of its events, is a play of the plans, and each plan is done
abbrev pub ListsArePlays : Type 0
ListsArePlays = (casts : List ActorSpec) (plans : ℕ → List Step) (events : List Event) →
    All IsOk (outcomes (opening casts) events) → KeepsToPlans casts plans events →
    (at : At) × IsPlay casts plans at × (at.history ≡ history casts events)
    × ((c : ℕ) → next_step plans c at ≡ None)

-- so a search that looks at each choice finds the end of each such list that is over
abbrev pub EachListIsFound : Type 0
EachListIsFound = (casts : List ActorSpec) (plans : ℕ → List Step) (may_lose : ℕ → Bool) (seen : List At)
    (events : List Event) →
    IsWholeSearch casts plans may_lose (Contains seen) →
    All IsOk (outcomes (opening casts) events) → KeepsToPlans casts plans events → IsOver (history casts events) →
    LosesOnly may_lose (history casts events) →
    (early : At) × Contains seen early × EndsAlike plans early (history casts events)

-- and there is a play made of choices alone that comes to the same end
abbrev pub EachListIsMadeEarly : Type 0
EachListIsMadeEarly = (casts : List ActorSpec) (plans : ℕ → List Step) (events : List Event) →
    All IsOk (outcomes (opening casts) events) → KeepsToPlans casts plans events → IsOver (history casts events) →
    (early : At) × (end : At) × IsEarly casts plans early × EndsAlike plans early end.history
    × IsPlay casts plans end × IsSameEnd end.history (history casts events)
