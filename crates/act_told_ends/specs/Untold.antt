-- Where the arguments of a caller's calls aren't told, those with which they ran may stand for them.
use Rattle.std.specs.Prelude.{◌≡◌, ◌⊎◌, ℕ, List, [], map, slice_get, Option, Some, None}
use Rattle.act_types.specs.declared.call.Arg.{Arg}
use Rattle.act_types.specs.declared.call.Arg.TheVariants.{Plain, Fut}
use Rattle.act_types.specs.declared.call.Settled.{Settled}
use Rattle.act_types.specs.declared.call.Settled.TheVariants.{Good, Bad}
use Rattle.act_rules.specs.declared.event.Event.{Event}
use Rattle.act_rules.specs.declared.history.RunItem.{RunItem}
use Rattle.act_rules.specs.declared.history.Submission.{Submission}
use Rattle.act_rules.specs.declared.script.Step.{Step}
use Rattle.act_rules.specs.History.{ActorSpec, History}
use Rattle.act_told_ends.specs.Told.{Told, EndsAsTold}
use Rattle.act_told_ends.specs.Walks.{MayGoOn, IsThrough}
use Rattle.act_told_ends.specs.Walked.{IsWalked}

-- an argument as it ran: a value, or the future that failed
abbrev pub arg_as_run : Settled → Arg
arg_as_run (Good value) = Plain value
arg_as_run (Bad j) = Fut j

-- the call has the method and the arguments with which it ran
pub record IsAsRun (call : Submission) (item : RunItem) : Type 0 where
  pub method : call.method ≡ item.method
  pub args : call.args ≡ map arg_as_run item.args

-- the caller's call k ran, and it is as it ran
pub record Ran (told : Told) (c k : ℕ) (call : Submission) : Type 0 where
  pub actor : ℕ
  pub place : ℕ
  pub item : RunItem
  pub at : slice_get (told.runs actor) place ≡ Some item
  pub caller : item.caller ≡ c
  pub future : item.future ≡ k
  pub is : IsAsRun call item

-- calls that may stand for the caller's: they go to the same actors; one that ran is as it ran, and another has no
-- arguments
pub record StandFor (told : Told) (c : ℕ) (calls : List Submission) : Type 0 where
  pub actors : map (λ call. call.actor) calls ≡ map (λ call. call.actor) (told.calls c)
  pub each : (k : ℕ) (call : Submission) → slice_get calls k ≡ Some call → Ran told c k call ⊎ (call.args ≡ [])
  pub ran : (a place : ℕ) (item : RunItem) (call : Submission) → slice_get (told.runs a) place ≡ Some item →
      item.caller ≡ c → slice_get calls item.future ≡ Some call → IsAsRun call item

-- each caller's calls are those told, or it isn't bound, and they may stand for these
abbrev pub MayStandFor : (ℕ → Option (List Step)) → Told → (ℕ → List Submission) → Type 0
MayStandFor bound told calls =
    (c : ℕ) → (calls c ≡ told.calls c) ⊎ ((bound c ≡ None) × StandFor told c (calls c))

-- the same told with these calls
abbrev pub with_calls : (ℕ → List Submission) → Told → Told
with_calls calls told = record told { calls = calls }

-- where some events end as is told, some end with calls that may stand for those
abbrev pub UntoldMayBeAsRun : Type 0
UntoldMayBeAsRun = (casts : List ActorSpec) (bound : ℕ → Option (List Step)) (told : Told)
    (calls : ℕ → List Submission) (events : List Event) →
    EndsAsTold casts bound told events → MayStandFor bound told calls →
    (others : List Event) × EndsAsTold casts bound (with_calls calls told) others

-- so where a walk to the end with such calls is stuck before it is through, no events end as is told
abbrev pub StuckRefutesAllAsRun : Type 0
StuckRefutesAllAsRun = (casts : List ActorSpec) (bound : ℕ → Option (List Step)) (told : Told)
    (calls : ℕ → List Submission) (done : ℕ → ℕ) (h : History) →
    IsWalked casts bound (with_calls calls told) done h → (IsThrough bound (with_calls calls told) done h → ⊥) →
    (MayGoOn bound (with_calls calls told) done h → ⊥) →
    (events : List Event) → EndsAsTold casts bound told events → MayStandFor bound told calls → ⊥
