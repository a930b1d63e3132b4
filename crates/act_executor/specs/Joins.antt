-- What the threads gave back, and what the comparison of their lines tells.
use Rattle.std.specs.Prelude.{◌≡◌, ℕ, false, List, length, map, slice_get, Some, All}
use Rattle.std.specs.List.{range_with_len}
use Rattle.act_types.specs.KindState.{KindState}
use Rattle.act_owner.specs.Owner.{opened_under}
use Rattle.act_actor.specs.declared.cast.Cast.{Cast}
use Rattle.act_mailbox.specs.declared.control.Asked.{Asked}
use Rattle.act_mailbox.specs.Passes.{PutterView}
use Rattle.act_mailbox.specs.Controls.{ControlView}
use Rattle.act_mailbox.specs.declared.thread.Endpoint.{Endpoint}
use Rattle.act_serve.specs.declared.turn.ExecPasses.{ExecPasses}
use Rattle.act_serve.specs.declared.turn.Finished.{Finished}
use Rattle.act_serve.specs.Served.{HasServed, end_view}
use Rattle.act_drive.specs.declared.driver.CallerLines.{CallerLines}
use Rattle.act_drive.specs.declared.driver.CallerPasses.{CallerPasses}
use Rattle.act_drive.specs.declared.caller.Driven.{Driven}
use Rattle.act_executor.specs.Conducts.{Doing, HasConducted}
use Rattle.act_plans.specs.declared.rising.CallerSetup.{CallerSetup}
use Rattle.act_executor.specs.declared.open.Lines.{Lines}
use Rattle.act_executor.specs.declared.joined.Ends.{Ends}
use Rattle.act_executor.specs.declared.joined.Joined.{Joined}
use Rattle.act_executor.specs.Joined.{is_starved}
use Rattle.act_executor.specs.Audits.{NoticeTold, KillTold, CallerTold, left_of}
use Rattle.act_executor.specs.Work.{IsUnusedStarter}

-- each cast's actor was served to its end, with its passes
pub record AreServed {K L : Type 0} (state : K → KindState) (lines : Lines) (casts : List (Cast K))
    (execs : List (Endpoint ExecPasses)) (actors : List (Finished K L)) : Type 0 where
  pub long : length actors ≡ length casts
  pub each : (j : ℕ) (cast : Cast K) (exec : Endpoint ExecPasses) (actor : Finished K L) →
      slice_get casts j ≡ Some cast → slice_get execs j ≡ Some exec → slice_get actors j ≡ Some actor →
      HasServed (state cast.kind) cast.actor lines.replies.items exec.pass (end_view state actor.ended) actor.passes

-- the caller of a part was driven, at these lines
pub record IsDrivenAt (lines : Lines) (does : Doing) (setup : CallerSetup) (caller : Endpoint CallerPasses)
    (driven : Driven) : Type 0 where
  pub at : CallerLines
  pub mails : at.mails.now ≡ lines.mails.items
  pub controls : at.controls.now ≡ lines.controls.items
  pub driven_is : HasConducted at (opened_under setup.limits.items setup.caller setup.actors.items) caller.pass
      (does setup.plan.items) driven

-- each part's caller was driven, with its passes
pub record AreDriven (lines : Lines) (does : ℕ → Doing) (setups : List CallerSetup)
    (callers : List (Endpoint CallerPasses)) (driven : List Driven) : Type 0 where
  pub long : length driven ≡ length setups
  pub each : (i : ℕ) (setup : CallerSetup) (caller : Endpoint CallerPasses) (d : Driven) →
      slice_get setups i ≡ Some setup → slice_get callers i ≡ Some caller → slice_get driven i ≡ Some d →
      IsDrivenAt lines (does setup.caller) setup caller d

-- the starter has a pass on each control line, and asked nothing
pub record AreStarters (controls : List ControlView) (endpoints : List (Endpoint (PutterView Asked ℕ))) : Type 0 where
  pub unused : All (IsUnusedStarter controls) endpoints
  pub places : map (λ endpoint. endpoint.place) endpoints ≡ range_with_len 0 (length controls)

-- nobody was refused memory, and what each side of a line took is a prefix of what the other put
pub record AreCompared {K L : Type 0} (state : K → KindState) (ends : Ends K L) (joined : Joined K L) : Type 0 where
  pub fed : All (λ actor. is_starved (end_view state actor.ended) ≡ false) ends.actors.items
  pub fed_callers : All (λ caller. caller.starved ≡ false) ends.callers.items
  pub same : map left_of joined.actors.items ≡ map left_of ends.actors.items
  pub owners : joined.owners.items ≡ map (λ caller. caller.owner) ends.callers.items
  pub notices : All (λ actor. All (NoticeTold ends.callers.items) actor.passes.notices.items) ends.actors.items
  pub callers : All (CallerTold joined.actors.items) ends.callers.items
  pub starters : All (KillTold joined.actors.items) ends.starters.items
