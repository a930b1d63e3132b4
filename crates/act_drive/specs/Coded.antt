-- What a caller by code of its own leaves.
use Rattle.std.specs.Prelude.{◌≡◌, ℕ, false, List}
use Rattle.act_rules.specs.declared.script.Step.{Step}
use Rattle.act_rules.specs.Plans.{kills_to}
use Rattle.act_owner.specs.Owner.{OwnerView}
use Rattle.act_drive.specs.declared.driver.CallerLines.{CallerLines}
use Rattle.act_drive.specs.declared.driver.CallerPasses.{CallerPasses}
use Rattle.act_drive.specs.declared.caller.Driven.{Driven}
use Rattle.act_drive.specs.Driven.{HasDriven}
use Rattle.act_drive.specs.Sessions.{SessionView, session_view, kills_of, IsLater}

-- the code's own conclusion holds of what it saw at its end, after which nothing was submitted and no answer was
-- forgotten; these are the steps that it did, and it asked the kills that they ask
pub record HasConcluded (tells : SessionView → SessionView → Type 0) (steps : List Step)
    (owner later : OwnerView) : Type 0 where
  pub last : SessionView
  pub told : tells (session_view owner) last
  pub calls : later.calls ≡ last.calls
  pub did : last.did ≡ steps
  pub kills : (a : ℕ) → kills_of last a ≡ kills_to a steps
  pub on : IsLater last (session_view later)

-- for some steps all that is said of a plan's caller, and what the code tells
pub record HasRunCode (lines : CallerLines) (owner : OwnerView) (before : CallerPasses)
    (tells : SessionView → SessionView → Type 0) (driven : Driven) : Type 0 where
  pub steps : List Step
  pub driven_is : HasDriven lines owner before steps driven
  pub told : driven.starved ≡ false → HasConcluded tells steps owner driven.owner
