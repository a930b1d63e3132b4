-- What contracts see of the callers, and of what is on its way.
use Rattle.std.specs.Prelude.{ℕ, ◌==◌, Bool, List, find, Option, Some, None, is_some, option_and_then, Ok, Err}
use Rattle.act_types.specs.declared.call.Notice.{Notice}
use Rattle.act_types.specs.declared.call.Notice.TheVariants.{Answered, Death}
use Rattle.act_types.specs.declared.call.Packet.{Packet}
use Rattle.act_rules.specs.declared.outcome.Did.TheVariants.{Kept, Late as DidLate, Died as DidDie}
use Rattle.act_rules.specs.declared.outcome.HandleRefusal.TheVariants.{NoActor}
use Rattle.act_rules.specs.declared.outcome.WorldRefusal.{WorldRefusal}
use Rattle.act_rules.specs.declared.outcome.WorldRefusal.TheVariants.{NoReply, NoCaller, Handle}
use Rattle.act_rules.specs.Submissions.{needs}
use Rattle.act_rules.specs.Rules.{Outcome}
use Rattle.act_handles.specs.Handles.{copies_in}
use Rattle.act_owner.specs.declared.owner.Collected.{Collected}
use Rattle.act_owner.specs.declared.owner.Collected.TheVariants.{First, Late, Stray, Died}
use Rattle.act_owner.specs.Owner.{OwnerView, packet_at}
use Rattle.act_world.specs.declared.network.CallKey.{CallKey}
use Rattle.act_world.specs.declared.network.MailEntry.{MailEntry}
use Rattle.act_world.specs.declared.network.MailEntry.TheVariants.{Call as CallEntry, Note as NoteEntry}
use Rattle.act_world.specs.declared.network.MailedNotice.{MailedNotice}

-- the callers, all letters and all notices in order, and whether a kill of each actor was asked
pub record NetworkView : Type 0 where
  pub owners : List OwnerView
  pub mail : List MailEntry
  pub replies : List MailedNotice
  pub asked : List Bool

-- the caller is this one
abbrev pub is_owner : ℕ → OwnerView → Bool
is_owner c owner = owner.id == c

-- why the caller cannot name the actor: it is no caller, or the actor is none of its own
abbrev pub naming_refusal : Option OwnerView → ℕ → Option WorldRefusal
naming_refusal None a = Some NoCaller
naming_refusal (Some owner) a = needs (is_some (copies_in a owner.handles)) (Handle NoActor) None

-- what is told of a notice that a caller took
abbrev pub told_collected : ℕ → Collected → Outcome
told_collected c (First k) = Ok (Kept c k)
told_collected c (Late k) = Ok (DidLate c k)
told_collected c (Died count) = Ok (DidDie count)
told_collected c Stray = Err NoReply

-- the notice is a reply
abbrev pub IsReplyNotice : Notice → Type 0
IsReplyNotice (Answered reply) = Unit {0}
IsReplyNotice (Death a) = ⊥

-- the actor that a letter is for
abbrev pub entry_actor : MailEntry → ℕ
entry_actor (CallEntry call) = call.actor
entry_actor (NoteEntry note) = note.actor

-- the packet that the caller of a call makes of it
abbrev pub packet_in : List OwnerView → CallKey → Option Packet
packet_in owners call = option_and_then (λ owner. packet_at owner call.future) (find (is_owner call.caller) owners)

-- a packet under the names of a call
abbrev pub named_as : CallKey → Packet → Packet
named_as call packet = record packet { caller = call.caller; actor = call.actor; number = call.number; future = call.future }
