-- What the calls of an actor do.
use Rattle.std.specs.Prelude.{◌≡◌, ℕ, ◌==◌, false, List, [], ◌∷◌, ◌++◌, length, Option, None, if◌then◌else◌}
use Rattle.act_types.specs.KindState.{KindState}
use Rattle.act_types.specs.declared.call.Packet.{Packet}
use Rattle.act_types.specs.declared.call.ReleaseNote.{ReleaseNote}
use Rattle.act_types.specs.declared.call.Reply.{Reply}
use Rattle.act_rules.specs.RunList.{after_item, state_after, has_terminated}
use Rattle.act_rules.specs.declared.history.RunItem.{RunItem}
use Rattle.act_rules.specs.declared.outcome.Arrival.{Arrival}
use Rattle.act_rules.specs.declared.outcome.Arrival.TheVariants.{New, Stranger}
use Rattle.act_inbox.specs.Inbox.{InboxView, call_arrival, note_arrival, handed_of, with_held, next_of, HoldsNone, IsNextTaken, IsDrained}
use Rattle.act_actor.specs.View.{LiveView, ActorView}

-- what the caller's call of this number to an actor is to the one of this name
abbrev pub call_arrival_at : ℕ → InboxView → ℕ → ℕ → ℕ → Arrival
call_arrival_at id inbox actor caller number = if actor == id then call_arrival inbox caller number else Stranger

-- what a packet is to an actor
abbrev pub arrival_at : ℕ → InboxView → Packet → Arrival
arrival_at id inbox packet = call_arrival_at id inbox packet.actor packet.caller packet.number

-- what a release note is to an actor
abbrev pub note_arrival_at : ℕ → InboxView → ReleaseNote → Arrival
note_arrival_at id inbox note = if note.actor == id then note_arrival inbox note else Stranger

-- the caller's next call, if it came: an actor that terminated runs none
abbrev pub next_call : List RunItem → InboxView → ℕ → Option Packet
next_call log inbox caller = if has_terminated log then None else next_of inbox caller

-- the actor did not terminate, each caller's note came, and all calls of which it tells were run
pub record MayRetire (log : List RunItem) (inbox : InboxView) : Type 0 where
  pub lives : has_terminated log ≡ false
  pub drained : IsDrained inbox

-- the item that a packet becomes in the log
abbrev pub item_of : Packet → RunItem
item_of packet = record {
  caller = packet.caller;
  number = packet.number;
  future = packet.future;
  method = packet.method;
  args = packet.args;
}

-- the packet that an item of an actor's log was
abbrev pub packet_of_item : ℕ → RunItem → Packet
packet_of_item a item = record {
  caller = item.caller;
  actor = a;
  number = item.number;
  future = item.future;
  method = item.method;
  args = item.args;
}

-- the note that a caller let its last handle of the actor go, after so many calls
abbrev pub note_after_calls : ℕ → ℕ → ℕ → ReleaseNote
note_after_calls c a count = record { caller = c; actor = a; after = count }

-- what the actor replies when it runs a packet
abbrev pub reply_of_run : ActorView → Packet → Reply
reply_of_run actor packet = record {
  actor = actor.id;
  caller = packet.caller;
  future = packet.future;
  place = length actor.log;
  answer = (after_item actor.state (item_of packet)).1;
}

-- the actor did not terminate, it holds no call, and the packet is new to it and its caller's next call
pub record RunsAtOnce (packet : Packet) (id : ℕ) (log : List RunItem) (inbox : InboxView) : Type 0 where
  pub lives : has_terminated log ≡ false
  pub alone : HoldsNone inbox
  pub is_new : arrival_at id inbox packet ≡ New
  pub numbered : packet.number ≡ handed_of inbox packet.caller

-- the actor after a new packet arrived
abbrev pub with_packet : {S : Type 0} → Packet → LiveView S → LiveView S
with_packet packet actor = record actor { inbox = with_held packet actor.inbox }

-- the actor took the caller's packet, and it ran
pub record HasRunCall (caller : ℕ) (packet : Packet) (old new : ActorView) : Type 0 where
  pub id : new.id ≡ old.id
  pub taken : IsNextTaken caller packet old.inbox new.inbox
  pub log : new.log ≡ old.log ++ item_of packet ∷ []
  pub state : new.state ≡ (after_item old.state (item_of packet)).0

-- the state is what the log leaves of this opening state
abbrev pub HasRunFrom : KindState → ActorView → Type 0
HasRunFrom opening actor = actor.state ≡ state_after opening actor.log
