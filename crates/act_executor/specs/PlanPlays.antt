-- When a list of events is a play of plans: each caller did its plan in it, step by step.
use Rattle.std.specs.Prelude.{◌≡◌, ◌≢◌, ℕ, ◌==◌, ◌&&◌, ◌⊎◌, Bool, true, List, [], ◌∷◌, ◌++◌, map, filter, Option, Some, None, is_some, if◌then◌else◌, All}
use Rattle.std.specs.Prelude.{AllPairs, Contains}
use Rattle.act_rules.specs.declared.event.Event.{Event}
use Rattle.act_rules.specs.declared.event.Event.TheVariants.{Submit, Copy, Release, AskKill}
use Rattle.act_rules.specs.declared.history.Post.{Post}
use Rattle.act_rules.specs.declared.history.Post.TheVariants.{Reply as ReplyPost, Death as DeathPost}
use Rattle.act_rules.specs.declared.script.Step.{Step}
use Rattle.act_rules.specs.declared.script.Step.TheVariants.{Submit as SubmitStep, Copy as CopyStep, Release as ReleaseStep, Kill as KillStep}
use Rattle.act_rules.specs.declared.script.Step.TheVariants.{Await as AwaitStep}
use Rattle.act_rules.specs.Consistent.{IsPrefix}
use Rattle.act_rules.specs.History.{ActorSpec, History, kept_of, runs_of}
use Rattle.act_rules.specs.Laws.{history}
use Rattle.act_rules.specs.Submissions.{kept_at}
use Rattle.act_owner.specs.Owner.{OwnerView}
use Rattle.act_plans.specs.Runs.{plan_of}
use Rattle.act_serve.specs.Served.{EndView, places_of}
use Rattle.act_executor.specs.Plays.{IsPlayOf}

-- ---- a caller does its plan

-- which step of the caller's plan the event is
abbrev pub step_of : ℕ → Event → Option Step
step_of c (Submit d a method args) = if d == c then Some (SubmitStep a method args) else None
step_of c (Copy d a) = if d == c then Some (CopyStep a) else None
step_of c (Release d a) = if d == c then Some (ReleaseStep a) else None
step_of c (AskKill d a) = if d == c then Some (KillStep a) else None
step_of c event = None

-- none of the events is a step of the caller's
abbrev pub IsMeanwhile : ℕ → List Event → Type 0
IsMeanwhile c events = All (λ event. step_of c event ≡ None) events

-- after the events `before` the caller does the step in the events `done`: what it awaits is answered by then, and a
-- kill goes unasked only where it collected the actor's death
abbrev pub DoesStepIn : List ActorSpec → ℕ → Step → List Event → List Event → Type 0
DoesStepIn casts c (SubmitStep a method args) before done = done ≡ Submit c a method args ∷ []
DoesStepIn casts c (CopyStep a) before done = done ≡ Copy c a ∷ []
DoesStepIn casts c (ReleaseStep a) before done = done ≡ Release c a ∷ []
DoesStepIn casts c (KillStep a) before done = (done ≡ AskKill c a ∷ [])
    ⊎ ((done ≡ []) × Contains (history casts before).collected (DeathPost c a))
DoesStepIn casts c (AwaitStep k) before done = (done ≡ [])
    × (is_some (kept_at (kept_of c (history casts before)) k) ≡ true)

-- after the events `before` the caller does these steps in their order, and no other step
abbrev pub DoesPlanIn : List ActorSpec → ℕ → List Step → List Event → List Event → Type 0
DoesPlanIn casts c [] before events = IsMeanwhile c events
DoesPlanIn casts c (step ∷ plan) before events = (first : List Event) × (done : List Event) × (later : List Event)
    × (events ≡ first ++ done ++ later) × IsMeanwhile c first × DoesStepIn casts c step (before ++ first) done
    × DoesPlanIn casts c plan (before ++ first ++ done) later

-- ---- what a caller collects

-- whether the actor gave the post to the caller
abbrev pub is_between : ℕ → ℕ → Post → Bool
is_between c a (ReplyPost d b place) = (d == c) && (b == a)
is_between c a (DeathPost d b) = (d == c) && (b == a)

-- what the caller collected of the actor begins its line: the replies to its calls that the actor ran, then the death
abbrev pub CollectsInLine : History → ℕ → ℕ → Type 0
CollectsInLine h c a = IsPrefix (filter (is_between c a) h.collected)
    (map (λ place. ReplyPost c a place) (places_of c (runs_of a h)) ++ DeathPost c a ∷ [])

-- ---- all callers

-- a play of these callers and actors in which each caller does its plan, and then lets some handles go, and collects of
-- each actor in line; no letter is delivered twice, and no notice is collected twice
pub record IsPlayOfPlans (casts : List ActorSpec) (plans : List (ℕ × List Step)) (events : List Event)
    (owners : List OwnerView) (ends : List EndView) : Type 0 where
  pub play : IsPlayOf casts events owners ends
  pub does : All (λ owner. (closing : List ℕ)
      × DoesPlanIn casts owner.id (plan_of owner.id plans ++ map (λ a. ReleaseStep a) closing) [] events) owners
  pub in_line : (c a : ℕ) → CollectsInLine (history casts events) c a
  pub delivered_once : AllPairs (λ one other. one ≢ other) (history casts events).arrived
  pub collected_once : AllPairs (λ one other. one ≢ other) (history casts events).collected

-- some list of events is a play of the plans
abbrev pub IsPlayedAsPlanned : List ActorSpec → List (ℕ × List Step) → List OwnerView → List EndView → Type 0
IsPlayedAsPlanned casts plans owners ends = (events : List Event) × IsPlayOfPlans casts plans events owners ends
