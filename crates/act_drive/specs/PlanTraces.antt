-- That a caller's thread did the steps of its plan, in their order.
use Rattle.std.specs.Prelude.{◌≡◌, ℕ, ◌⊎◌, List, [], ◌∷◌, ◌++◌, map, is_some, true, All}
use Rattle.act_rules.specs.declared.script.Step.{Step}
use Rattle.act_rules.specs.declared.script.Step.TheVariants.{Submit, Copy, Release, Kill, Await}
use Rattle.act_rules.specs.Submissions.{kept_at}
use Rattle.act_owner.specs.Owner.{OwnerView, is_known_dead}
use Rattle.act_rules.specs.Actions.{Copied, Released, Submitted, Sent, Noticed, Action, KillAsked}
use Rattle.act_owner.specs.Life.{after_actions}
use Rattle.act_mailbox.specs.Controls.{ControlView}
use Rattle.act_mailbox.specs.Traces.{steps_in}
use Rattle.act_drive.specs.declared.driver.CallerPasses.{CallerPasses}
use Rattle.act_drive.specs.CallerTraces.{IsCallerTrace}

-- the caller sends and collects meanwhile
abbrev pub IsMeanwhile : Action → Type 0
IsMeanwhile (Sent k) = Unit {0}
IsMeanwhile (Noticed notice) = Unit {0}
IsMeanwhile action = ⊥

-- a caller that began as `owner` and did the steps `before` does a plan's step, and its steps are then `steps`; a kill
-- may go unasked once the actor is known to be dead, and what is awaited is answered by then
abbrev pub DoesStep : OwnerView → Step → List Action → List Action → Type 0
DoesStep owner (Submit a method args) before steps = steps ≡ before ++ Submitted a method args ∷ []
DoesStep owner (Copy a) before steps = steps ≡ before ++ Copied a ∷ []
DoesStep owner (Release a) before steps = steps ≡ before ++ Released a ∷ []
DoesStep owner (Kill a) before steps = ((steps ≡ before) × (is_known_dead (after_actions owner before) a ≡ true))
    ⊎ (steps ≡ before ++ KillAsked a ∷ [])
DoesStep owner (Await k) before steps = (steps ≡ before)
    × (is_some (kept_at (after_actions owner before).kept k) ≡ true)

-- the steps do the plan's steps in their order; before each, and after the last, the caller only sends and collects
abbrev pub DoesPlan : OwnerView → List Step → List Action → Type 0
DoesPlan owner [] steps = All IsMeanwhile steps
DoesPlan owner (step ∷ plan) steps = (before : List Action) × (done : List Action) × (later : List Action)
    × All IsMeanwhile before × DoesStep owner step before done × (steps ≡ done ++ later)
    × DoesPlan (after_actions owner done) plan later

-- the caller did its plan in such steps, and then let some handles go
abbrev pub HasDonePlan : List ControlView → OwnerView → OwnerView → List Step → CallerPasses → Type 0
HasDonePlan controls start owner plan passes = (trace : List (ℕ × Action))
    × IsCallerTrace controls start owner passes trace
    × ((closing : List ℕ) × DoesPlan start (plan ++ map (λ a. Release a) closing) (steps_in trace))
