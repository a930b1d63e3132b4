-- What is traced of a caller's thread at work.
use Rattle.std.specs.Prelude.{◌≡◌, ℕ, List, [], ◌∷◌, ◌++◌, map, Some}
use Rattle.act_rules.specs.declared.script.Step.{Step}
use Rattle.act_rules.specs.declared.script.Step.TheVariants.{Release}
use Rattle.act_owner.specs.Owner.{OwnerView}
use Rattle.act_mailbox.specs.Traces.{steps_in}
use Rattle.act_mailbox.specs.declared.mail.Letter.{Letter}
use Rattle.act_drive.specs.declared.driver.CallerLines.{CallerLines}
use Rattle.act_drive.specs.declared.driver.Driver.{Driver}
use Rattle.act_drive.specs.Driven.{IsCalling, Waits}
use Rattle.act_rules.specs.Actions.{Action}
use Rattle.act_drive.specs.CallerTraces.{caller_clock, IsPostedAfter, IsCallerTrace}
use Rattle.act_drive.specs.PlanTraces.{DoesPlan}

-- a caller at work that began as `start` left a trace, in which it did the steps `done` of a plan, and in which the
-- letter in its outbox has its cause
pub record IsTracing (start : OwnerView) (lines : CallerLines) (done : List Step) (driver : Driver) : Type 0 where
  pub trace : List (ℕ × Action)
  pub trace_is : IsCallerTrace lines.controls.now start driver.owner driver.passes trace
  pub held : (letter : Letter) → driver.outbox ≡ Some letter →
      IsPostedAfter start trace letter (caller_clock driver.passes)
  pub does : DoesPlan start done (steps_in trace)

-- the same, where some handles were let go after those steps
abbrev pub IsTracingClosed : OwnerView → CallerLines → List Step → Driver → Type 0
IsTracingClosed start lines done driver = (closing : List ℕ)
    × IsTracing start lines (done ++ map (λ a. Release a) closing) driver

-- where there was a trace before, there is one after, and no step of a plan was done
abbrev pub Traces : CallerLines → Driver → Driver → Type 0
Traces lines old new = (start : OwnerView) (done : List Step) →
    IsTracing start lines done old → IsTracing start lines done new

-- the caller is at work still: meanwhile it only sent and collected
pub record OnlyWaits (lines : CallerLines) (old new : Driver) : Type 0 where
  pub calling : IsCalling lines new
  pub waits : Waits old new
  pub traced : Traces lines old new

-- where there was a trace before, there is one after in which one step of a plan was done
abbrev pub TracesStep : CallerLines → Step → Driver → Driver → Type 0
TracesStep lines step old new = (start : OwnerView) (done : List Step) →
    IsTracing start lines done old → IsTracing start lines (done ++ step ∷ []) new

-- the same, where some handles were let go
abbrev pub TracesClosing : CallerLines → Driver → Driver → Type 0
TracesClosing lines old new = (start : OwnerView) (done : List Step) →
    IsTracing start lines done old → IsTracingClosed start lines done new

-- where there was a trace of no step before, there is one of the plan after
abbrev pub TracesPlan : CallerLines → List Step → Driver → Driver → Type 0
TracesPlan lines plan old new = (start : OwnerView) →
    IsTracing start lines [] old → IsTracing start lines plan new

-- the same, where some handles were let go then
abbrev pub TracesWhole : CallerLines → List Step → Driver → Driver → Type 0
TracesWhole lines plan old new = (start : OwnerView) →
    IsTracing start lines [] old → IsTracingClosed start lines plan new
