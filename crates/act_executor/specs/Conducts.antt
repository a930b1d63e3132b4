-- What a caller's thread does: its plan, or what its code decides.
use Rattle.std.specs.Prelude.{◌≡◌, ◌≢◌, ℕ, ◌==◌, true, false, List, Option, Some, None, All, AllPairs}
use Rattle.std.specs.List.{list_any}
use Rattle.std.specs.Global.{Vec}
use Rattle.act_rules.specs.declared.script.Step.{Step}
use Rattle.act_rules.specs.History.{contains}
use Rattle.act_owner.specs.Owner.{OwnerView}
use Rattle.act_actor.specs.declared.cast.Cast.{Cast}
use Rattle.act_drive.specs.declared.driver.CallerLines.{CallerLines}
use Rattle.act_drive.specs.declared.driver.CallerPasses.{CallerPasses}
use Rattle.act_drive.specs.declared.caller.Driven.{Driven}
use Rattle.act_drive.specs.Driven.{HasDriven}
use Rattle.act_drive.specs.Sessions.{SessionView}
use Rattle.act_drive.specs.Coded.{HasConcluded}

-- each code's caller is another one, is named by a cast, and has no plan
pub record CodesFit {K C : Type 0} (casts : List (Cast K)) (plans : List (ℕ × Vec Step))
    (codes : List (ℕ × C)) : Type 0 where
  pub differ : AllPairs (λ one other. one.0 ≢ other.0) codes
  pub named : All (λ code. list_any (λ cast. contains code.0 cast.callers) casts ≡ true) codes
  pub apart : All (λ code. list_any (λ plan. plan.0 == code.0) plans ≡ false) codes

-- what is said of a caller's plan, of the steps that it did, and of its owner as it was opened and as it is left
abbrev pub Doing : Type 1
Doing = List Step → List Step → OwnerView → OwnerView → Type 0

-- it did its plan
abbrev pub does_plan : Doing
does_plan plan steps before later = steps ≡ plan

-- what its code tells holds, or it did its plan where it has none
abbrev pub does_code : {C : Type 0} → (C → SessionView → SessionView → Type 0) → Option C → Doing
does_code tells None plan steps before later = steps ≡ plan
does_code tells (Some code) plan steps before later = HasConcluded (tells code) steps before later

-- for some steps all that is said of a plan, and that they are what was to be done
pub record HasConducted (lines : CallerLines) (owner : OwnerView) (before : CallerPasses)
    (does : List Step → OwnerView → OwnerView → Type 0) (driven : Driven) : Type 0 where
  pub steps : List Step
  pub driven_is : HasDriven lines owner before steps driven
  pub does_so : driven.starved ≡ false → does steps owner driven.owner
