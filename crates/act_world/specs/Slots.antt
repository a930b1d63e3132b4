-- What happens to an actor in its slot.
use Rattle.std.specs.Prelude.{◌≡◌, ℕ, List, [], ◌∷◌, ◌++◌, length, Bool, true, false, if◌then◌else◌, Option, Some, None, option_map, is_some, IfNone, IfSome}
use Rattle.std.specs.Prelude.{Ok, Err}
use Rattle.act_types.specs.declared.call.Packet.{Packet}
use Rattle.act_types.specs.declared.call.ReleaseNote.{ReleaseNote}
use Rattle.act_owner.specs.Owner.{OwnerView}
use Rattle.act_world.specs.declared.network.CallKey.{CallKey}
use Rattle.act_world.specs.declared.network.MailEntry.{MailEntry}
use Rattle.act_world.specs.declared.network.MailEntry.TheVariants.{Call as CallEntry, Note as NoteEntry}
use Rattle.act_types.specs.declared.call.Notice.TheVariants.{Answered}
use Rattle.act_types.specs.declared.call.Reply.{Reply}
use Rattle.act_world.specs.declared.network.MailedNotice.{MailedNotice}
use Rattle.act_rules.specs.declared.outcome.Arrival.{Arrival}
use Rattle.act_rules.specs.declared.outcome.Arrival.TheVariants.{New}
use Rattle.act_rules.specs.declared.outcome.Did.TheVariants.{Arrived, Dead, Retired, Ran, Gap}
use Rattle.act_rules.specs.declared.outcome.HandleRefusal.TheVariants.{NoActor}
use Rattle.act_rules.specs.declared.outcome.WorldRefusal.TheVariants.{Handle, ActorEnded, NoKill, NotDrained}
use Rattle.act_rules.specs.RunList.{has_terminated}
use Rattle.act_rules.specs.Rules.{Outcome}
use Rattle.act_inbox.specs.Inbox.{IsTakenIn, IsNotedIn}
use Rattle.act_actor.specs.View.{ActorView}
use Rattle.act_actor.specs.Actor.{call_arrival_at, arrival_at, note_arrival_at, reply_of_run, next_call, MayRetire, HasRunCall}
use Rattle.act_world.specs.Network.{packet_in, named_as}
use Rattle.act_world.specs.View.{SlotView, Runs, Died, Ended, Vacant}

abbrev pub is_live_slot : SlotView → Bool
is_live_slot (Runs live) = true
is_live_slot slot = false

abbrev pub is_dead_slot : SlotView → Bool
is_dead_slot (Died dead) = true
is_dead_slot slot = false

-- whether the actor runs, and the caller's next call has come to it
abbrev pub has_next_in_slot : ℕ → SlotView → Bool
has_next_in_slot c (Runs live) = is_some (next_call live.log live.inbox c)
has_next_in_slot c slot = false

-- the running actor took a packet in
pub record HasTakenPacket (packet : Packet) (arrival : Arrival) (old new : ActorView) : Type 0 where
  pub arrival_is : arrival ≡ arrival_at old.id old.inbox packet
  pub same : new ≡ record old { inbox = new.inbox }
  pub taken : IsTakenIn packet arrival old.inbox new.inbox

-- the running actor took a call in, of which its caller made the packet
abbrev pub HasTakenCall : List OwnerView → CallKey → Arrival → ActorView → ActorView → Type 0
HasTakenCall owners call arrival old new = (packet : Packet) → packet_in owners call ≡ Some packet →
    HasTakenPacket (named_as call packet) arrival old new

-- the running actor took a release note in
pub record HasNoted (note : ReleaseNote) (arrival : Arrival) (old new : ActorView) : Type 0 where
  pub arrival_is : arrival ≡ note_arrival_at old.id old.inbox note
  pub same : new ≡ record old { inbox = new.inbox }
  pub noted : IsNotedIn note arrival old.inbox new.inbox

-- the running actor took a letter in
abbrev pub HasArrived : List OwnerView → MailEntry → Arrival → ActorView → ActorView → Type 0
HasArrived owners (CallEntry call) arrival old new = HasTakenCall owners call arrival old new
HasArrived owners (NoteEntry note) arrival old new = HasNoted note arrival old new

-- what a call is to the running actor
abbrev pub arrival_of_call : ActorView → CallKey → Arrival
arrival_of_call live call = call_arrival_at live.id live.inbox call.actor call.caller call.number

-- the letter is a call that the running actor takes in
abbrev pub IsNewCall : MailEntry → SlotView → Type 0
IsNewCall (CallEntry call) (Runs live) = arrival_of_call live call ≡ New
IsNewCall letter slot = ⊥

-- the letter came to a running actor, or its actor has ended
abbrev pub IsBrought : List OwnerView → MailEntry → SlotView → SlotView → Outcome → Type 0
IsBrought owners letter (Runs old) (Runs new) (Ok (Arrived arrival)) = HasArrived owners letter arrival old new
IsBrought owners letter (Runs old) new told = ⊥
IsBrought owners letter old new told = (new ≡ old) × (told ≡ Err ActorEnded)

-- the running actor ran the caller's next call, or it has not arrived
pub record HasRunNext (c : ℕ) (reply : Option Reply) (old new : ActorView) : Type 0 where
  pub reply_is : reply ≡ option_map (reply_of_run old) (next_call old.log old.inbox c)
  pub gap : IfNone reply (new ≡ old)
  pub ran : IfSome (next_call old.log old.inbox c) (λ packet. HasRunCall c packet old new)

-- a dead actor keeps its name and what it ran
abbrev pub dead_slot : ActorView → SlotView
dead_slot live = Died (record { id = live.id; log = live.log })

-- an actor whose last call ended it is dead
abbrev pub bury_ended : SlotView → SlotView
bury_ended (Runs live) = if has_terminated live.log then dead_slot live else Runs live
bury_ended slot = slot

-- the running actor ran the caller's next call at this place, this is its slot then, and the reply is the last notice
pub record HasRunIn (c : ℕ) (old : ActorView) (slot : SlotView) (replies posted : List MailedNotice) (place j : ℕ) : Type 0 where
  pub reply : Reply
  pub new : ActorView
  pub next : HasRunNext c (Some reply) old new
  pub slot_is : slot ≡ bury_ended (Runs new)
  pub place_is : place ≡ reply.place
  pub last : j ≡ length replies
  pub posted_is : posted ≡ replies ++ (record { caller = c; notice = Answered reply }) ∷ []

-- a running actor ran the caller's next call, or that has not arrived; or the actor has ended
abbrev pub IsRun : ℕ → SlotView → SlotView → List MailedNotice → List MailedNotice → Outcome → Type 0
IsRun c (Runs old) new replies posted (Ok (Ran place j)) = HasRunIn c old new replies posted place j
IsRun c (Runs old) new replies posted told = (next_call old.log old.inbox c ≡ None) × (new ≡ Runs old) × (posted ≡ replies) × (told ≡ Ok Gap)
IsRun c old new replies posted told = (new ≡ old) × (posted ≡ replies) × (told ≡ Err ActorEnded)

-- the actor's slot after it took a kill, if one was asked, and what is told
abbrev pub take_kill : Bool → SlotView → SlotView × Outcome
take_kill true (Runs live) = (dead_slot live, Ok Dead)
take_kill false (Runs live) = (Runs live, Err NoKill)
take_kill asked Vacant = (Vacant, Err (Handle NoActor))
take_kill asked (Died dead) = (Died dead, Err ActorEnded)
take_kill asked (Ended retired) = (Ended retired, Err ActorEnded)

-- the actor retired where it may, and else it is as it was
abbrev pub IsRetiredIn : SlotView → SlotView → Outcome → Type 0
IsRetiredIn (Runs live) (Ended retired) (Ok Retired) = MayRetire live.log live.inbox
    × (retired ≡ record { id = live.id; log = live.log; state = live.state })
IsRetiredIn (Runs live) new told = (MayRetire live.log live.inbox → ⊥) × (new ≡ Runs live) × (told ≡ Err NotDrained)
IsRetiredIn Vacant new told = (new ≡ Vacant) × (told ≡ Err (Handle NoActor))
IsRetiredIn old new told = (new ≡ old) × (told ≡ Err ActorEnded)
