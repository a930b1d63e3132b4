-- What the parts of a session leave.
use Rattle.std.specs.Prelude.{◌≡◌, true, false, ℕ, List, ◌∷◌, ◌++◌, [], slice_index_or}
use Rattle.act_rules.specs.declared.script.Step.{Step}
use Rattle.act_rules.specs.Plans.{kills_to}
use Rattle.act_drive.specs.declared.driver.CallerLines.{CallerLines}
use Rattle.act_drive.specs.declared.driver.Driver.{Driver}
use Rattle.act_drive.specs.declared.caller.Driven.{Driven}
use Rattle.act_drive.specs.Driven.{IsCalling, Stays, FollowsSteps, HasDone, HaveEnded}
use Rattle.act_drive.specs.Sessions.{SessionView}
use Rattle.act_drive.specs.Coded.{HasConcluded}
use Rattle.act_drive.specs.Tracing.{TracesPlan, TracesWhole}

-- this step more is done, and it was not refused
abbrev pub Does : CallerLines → Step → Driver → Driver → Type 0
Does lines step old new = (actors : List ℕ) (steps : List Step) → FollowsSteps lines actors steps old →
    FollowsSteps lines actors (steps ++ step ∷ []) new

-- a driver at work: it is that of the caller that began, it did these steps, and so many kills were asked
pub record IsAtWork (actors : List ℕ) (began : Driver → Type 0) (lines : CallerLines) (driver : Driver)
    (kills : List ℕ) (steps : List Step) : Type 0 where
  pub calling : IsCalling lines driver
  pub opened : Driver
  pub began_so : began opened
  pub stays : Stays opened driver
  pub traced : TracesPlan lines steps opened driver
  pub follows : FollowsSteps lines actors steps driver
  pub asked : (a : ℕ) → slice_index_or kills a 0 ≡ kills_to a steps

-- what a caller by code of its own leaves of a driver
pub record HasDrivenCode (lines : CallerLines) (actors : List ℕ) (start : Driver)
    (tells : SessionView → SessionView → Type 0) (driven : Driven) : Type 0 where
  pub new : Driver
  pub is : driven ≡ record { owner = new.owner; starved = driven.starved; passes = new.passes }
  pub calling : IsCalling lines new
  pub stays : Stays start new
  pub steps : List Step
  pub traced : driven.starved ≡ false → TracesWhole lines steps start new
  pub done : driven.starved ≡ false → HasDone lines actors steps new.owner new.passes
  pub ended : driven.starved ≡ true → HaveEnded lines new.owner new.passes
  pub told : driven.starved ≡ false → HasConcluded tells steps start.owner new.owner
