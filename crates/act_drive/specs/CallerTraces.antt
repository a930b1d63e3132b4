-- What a caller's thread did, in order and in time.
use Rattle.std.specs.Prelude.{◌≡◌, ℕ, ◌≤◌, List, ◌++◌, map, flat_map, slice_index_or, Some, All, Contains}
use Rattle.std.specs.List.{AllZip}
use Rattle.act_handles.specs.Handles.{copies_in}
use Rattle.act_owner.specs.Owner.{OwnerView}
use Rattle.act_rules.specs.Actions.{Sent, Action, KillAsked}
use Rattle.act_owner.specs.Life.{notice_of, after_actions, CallerMayDoAll}
use Rattle.act_mailbox.specs.Controls.{ControlView}
use Rattle.act_mailbox.specs.declared.control.Asked.{Asked}
use Rattle.act_mailbox.specs.declared.mail.Letter.{Letter}
use Rattle.act_mailbox.specs.declared.mail.Letter.TheVariants.{Call, Note}
use Rattle.act_mailbox.specs.Traces.{clock, steps_in, found_in, IsTimed, AreTakenLater}
use Rattle.act_drive.specs.declared.driver.CallerPasses.{CallerPasses}

-- what the clock of a caller's thread shows, by its passes
abbrev pub caller_clock : CallerPasses → ℕ
caller_clock passes = clock (flat_map (λ endpoint. endpoint.pass.stamps) passes.letters.items
    ++ flat_map (λ endpoint. endpoint.pass.stamps) passes.kills.items) passes.collects.stamps

-- a letter was posted no earlier than its cause: the step that sent the call, or those after which the caller, which
-- began as `start`, held no handle of the actor any more
abbrev pub IsPostedAfter : OwnerView → List (ℕ × Action) → Letter → ℕ → Type 0
IsPostedAfter start trace (Call packet) stamp = (n : ℕ) × Contains trace (n, Sent packet.future)
    × (n ≤ stamp)
IsPostedAfter start trace (Note note) stamp = (before : List (ℕ × Action)) × (later : List (ℕ × Action))
    × (trace ≡ before ++ later) × All (λ x. x.0 ≤ stamp) before
    × (copies_in note.actor (after_actions start (steps_in before)).handles ≡ Some 0)

-- a kill of the actor was put into its line no earlier than it was asked
abbrev pub IsAskedAfter : List (ℕ × Action) → ℕ → Asked → ℕ → Type 0
IsAskedAfter trace a kill stamp = (n : ℕ) × Contains trace (n, KillAsked a) × (n ≤ stamp)

-- these are the steps of a caller that began as `start`, with these passes, each with the clock's number at its time
pub record IsCallerTrace (controls : List ControlView) (start owner : OwnerView) (passes : CallerPasses)
    (trace : List (ℕ × Action)) : Type 0 where
  pub timed : IsTimed (caller_clock passes) trace
  pub allowed : CallerMayDoAll start (steps_in trace)
  pub owner_is : owner ≡ after_actions start (steps_in trace)
  pub notices : map (λ x. x.1) (found_in notice_of trace) ≡ passes.collects.taken
  pub notices_later : AreTakenLater (found_in notice_of trace) passes.collects.stamps
  pub posted : All (λ endpoint. AllZip (IsPostedAfter start trace) endpoint.pass.put endpoint.pass.stamps)
      passes.letters.items
  pub asked : All (λ endpoint. (d : ControlView) →
      AllZip (IsAskedAfter trace (slice_index_or controls endpoint.place d).actor)
      endpoint.pass.put endpoint.pass.stamps) passes.kills.items
