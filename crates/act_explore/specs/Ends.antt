-- The ends of plans.
use Rattle.std.specs.Prelude.{◌≡◌, ℕ, true, false, List, slice_get, Some, None, is_some, IsOk, All}
use Rattle.act_rules.specs.declared.event.Event.{Event}
use Rattle.act_rules.specs.declared.history.Submission.{Submission}
use Rattle.act_rules.specs.declared.script.Step.{Step}
use Rattle.act_rules.specs.History.{ActorSpec, History, opening, calls_of, kept_of}
use Rattle.act_rules.specs.Laws.{history}
use Rattle.act_rules.specs.Rules.{outcomes}
use Rattle.act_rules.specs.Submissions.{kept_at}
use Rattle.act_early.specs.Plays.{At, next_step, IsPlay}
use Rattle.act_early.specs.Early.{IsEnded, LosesOnly, EndsAlike}
use Rattle.act_owner.specs.Owner.{OwnerView}
use Rattle.act_serve.specs.Served.{EndView}
use Rattle.act_plans.specs.Runs.{plan_of}
use Rattle.act_executor.specs.Joined.{IsJoined}
use Rattle.act_executor.specs.PlanPlays.{IsPlayedAsPlanned}
use Rattle.act_thread_ends.specs.ThreadEnds.{EndsAsThreads}

-- each plan is done, and each call of each caller has an answer
pub record IsDone (plans : ℕ → List Step) (at : At) : Type 0 where
  pub done : (c : ℕ) → next_step plans c at ≡ None
  pub answered : (c k : ℕ) (call : Submission) → slice_get (calls_of c at.history) k ≡ Some call →
      is_some (kept_at (kept_of c at.history) k) ≡ true

-- the rules accept each of the events, and a play of the plans stands there that is done
pub record LeadsToEnd (casts : List ActorSpec) (plans : ℕ → List Step) (events : List Event) : Type 0 where
  pub accepted : All IsOk (outcomes (opening casts) events)
  pub at : At
  pub history_is : at.history ≡ history casts events
  pub play : IsPlay casts plans at
  pub done : IsDone plans at

-- events lead to this history of which a visit told
pub record HasPassed (casts : List ActorSpec) (Passed : List Event → Type 0) (h : History) : Type 0 where
  pub events : List Event
  pub history_is : h ≡ history casts events
  pub passed : Passed events

-- ---- for each end

-- an early play of the plans, of whose history this holds, ends as the history does
pub record EndsSo (casts : List ActorSpec) (plans : List (ℕ × List Step)) (Holds : History → Type 0)
    (late : History) : Type 0 where
  pub early : At
  pub play : IsPlay casts (λ c. plan_of c plans) early
  pub holds : Holds early.history
  pub ends : EndsAlike (λ c. plan_of c plans) early late

-- so does an early play for each play of the plans that is ended and loses no reply
abbrev pub EachEndHas : List ActorSpec → List (ℕ × List Step) → (History → Type 0) → Type 0
EachEndHas casts plans Holds = (late : At) → IsPlay casts (λ c. plan_of c plans) late →
    IsEnded (λ c. plan_of c plans) late → LosesOnly (λ a. false) late.history → EndsSo casts plans Holds late.history

-- an early play of the plans, of whose history this holds, ends with what these callers and actors are left with
pub record EndsInThreads (casts : List ActorSpec) (plans : List (ℕ × List Step)) (Holds : History → Type 0)
    (owners : List OwnerView) (ends : List EndView) : Type 0 where
  pub early : At
  pub play : IsPlay casts (λ c. plan_of c plans) early
  pub holds : Holds early.history
  pub ends_so : EndsAsThreads plans early owners ends

-- so does an early play for whatever a run of the plans in threads leaves
abbrev pub EachRunHas : List ActorSpec → List (ℕ × List Step) → (History → Type 0) → Type 0
EachRunHas casts plans Holds = (owners : List OwnerView) (ends : List EndView) →
    IsJoined casts plans owners ends → IsPlayedAsPlanned casts plans owners ends →
    EndsInThreads casts plans Holds owners ends
