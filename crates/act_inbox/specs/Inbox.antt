-- What an inbox holds, and what its calls do.
use Rattle.std.specs.Prelude.{◌≡◌, ℕ, ◌+◌, ◌*◌, ◌≤◌, ◌==◌, ◌&&◌, ◌||◌, nat_lt, List, [], ◌∷◌, find, sum_by, Option, None, Some, is_some, Bool, true}
use Rattle.std.specs.Prelude.{if◌then◌else◌, slice_index_or}
use Rattle.std.specs.Option.{option_map_or}
use Rattle.act_types.specs.declared.limits.TheConstants.{MAX_CALLERS, MAX_CALLS}
use Rattle.act_types.specs.declared.call.Packet.{Packet}
use Rattle.act_types.specs.declared.call.ReleaseNote.{ReleaseNote}
use Rattle.act_rules.specs.declared.outcome.Arrival.{Arrival}
use Rattle.act_rules.specs.declared.outcome.Arrival.TheVariants.{New, Repeat, Stranger}
use Rattle.act_rules.specs.History.{contains}
use Rattle.act_inbox.specs.declared.inbox.Lane.{Lane}
pub use Rattle.act_inbox.specs.View.{InboxView}

-- the lane of a caller of whom no call was handed out
abbrev pub lane_at_first : ℕ → Lane
lane_at_first caller = record { caller = caller; handed = 0 }

-- the lane is the caller's
abbrev pub is_lane_of : ℕ → Lane → Bool
is_lane_of caller lane = lane.caller == caller

-- the packet is the caller's call of this number
abbrev pub is_packet_of : ℕ → ℕ → Packet → Bool
is_packet_of caller number packet = (packet.caller == caller) && (packet.number == number)

-- the caller's lane, if the caller is listed
abbrev pub lane_of : InboxView → ℕ → Option Lane
lane_of inbox caller = find (is_lane_of caller) inbox.lanes

-- whether the caller is listed
abbrev pub is_listed : InboxView → ℕ → Bool
is_listed inbox caller = is_some (lane_of inbox caller)

-- how many calls of the caller were handed out
abbrev pub handed_of : InboxView → ℕ → ℕ
handed_of inbox caller = option_map_or (λ lane. lane.handed) (lane_of inbox caller) 0

-- how many calls were handed out, of all callers
abbrev pub handed_in_all : InboxView → ℕ
handed_in_all inbox = sum_by (λ lane. lane.handed) inbox.lanes

-- whether the call was handed out
abbrev pub was_handed : InboxView → ℕ → ℕ → Bool
was_handed inbox caller number = nat_lt number (handed_of inbox caller)

-- how many calls the caller's release note tells, if it came
abbrev pub note_of : InboxView → ℕ → Option ℕ
note_of inbox caller = slice_index_or inbox.notes caller None

-- the packet of a call, if it came and was not handed out
abbrev pub waiting_packet : InboxView → ℕ → ℕ → Option Packet
waiting_packet inbox caller number = if was_handed inbox caller number then None
    else find (is_packet_of caller number) inbox.held

-- the packet of a call, if it is held, whether or not the call was handed out
abbrev pub held_at : InboxView → ℕ → ℕ → Option Packet
held_at inbox caller number = find (is_packet_of caller number) inbox.held

-- the caller's next call, if it came
abbrev pub next_of : InboxView → ℕ → Option Packet
next_of inbox caller = if is_listed inbox caller then waiting_packet inbox caller (handed_of inbox caller) else None

-- whether the call came before
abbrev pub has_come : InboxView → ℕ → ℕ → Bool
has_come inbox caller number = was_handed inbox caller number || is_some (waiting_packet inbox caller number)

-- what the caller's call of this number is to the inbox
abbrev pub call_arrival : InboxView → ℕ → ℕ → Arrival
call_arrival inbox caller number =
    if is_listed inbox caller && nat_lt number MAX_CALLS
    then (if has_come inbox caller number then Repeat else New)
    else Stranger

-- what a packet is to the inbox
abbrev pub arrival_of : InboxView → Packet → Arrival
arrival_of inbox packet = call_arrival inbox packet.caller packet.number

-- what a release note is to the inbox: the first of a listed caller is new, whatever it tells
abbrev pub note_arrival : InboxView → ReleaseNote → Arrival
note_arrival inbox note =
    if is_listed inbox note.caller
    then (if is_some (note_of inbox note.caller) then Repeat else New)
    else Stranger

-- the packet of a call after another packet came
abbrev pub waiting_after : Arrival → Packet → InboxView → ℕ → ℕ → Option Packet
waiting_after New packet inbox caller number = if is_packet_of caller number packet then Some packet
    else waiting_packet inbox caller number
waiting_after arrival packet inbox caller number = waiting_packet inbox caller number

-- what is held of a call after another packet came
abbrev pub held_after : Arrival → Packet → InboxView → ℕ → ℕ → Option Packet
held_after New packet inbox caller number = if is_packet_of caller number packet then Some packet
    else held_at inbox caller number
held_after arrival packet inbox caller number = held_at inbox caller number

-- what is held of a call after a packet was handed out
abbrev pub held_without : Packet → InboxView → ℕ → ℕ → Option Packet
held_without packet inbox caller number = if is_packet_of caller number packet then None
    else held_at inbox caller number

-- the packet came, which was this to the inbox, and nothing else changed
pub record IsTakenIn (packet : Packet) (arrival : Arrival) (old new : InboxView) : Type 0 where
  pub lanes : new.lanes ≡ old.lanes
  pub notes : new.notes ≡ old.notes
  pub waits : (caller number : ℕ) → waiting_packet new caller number ≡ waiting_after arrival packet old caller number

-- the inbox that holds one more call
abbrev pub with_held : Packet → InboxView → InboxView
with_held packet inbox = record inbox { held = packet ∷ inbox.held }

-- no call is held
abbrev pub HoldsNone : InboxView → Type 0
HoldsNone inbox = inbox.held ≡ []

-- the packet is new to the inbox, and its caller's next call
pub record IsNextToCome (packet : Packet) (inbox : InboxView) : Type 0 where
  pub is_new : arrival_of inbox packet ≡ New
  pub numbered : packet.number ≡ handed_of inbox packet.caller

-- what a caller's release note tells after a note came
abbrev pub note_after : Arrival → ReleaseNote → InboxView → ℕ → Option ℕ
note_after New note inbox caller = if caller == note.caller then Some note.after else note_of inbox caller
note_after arrival note inbox caller = note_of inbox caller

-- the release note came, which was this to the inbox, and nothing else changed
pub record IsNotedIn (note : ReleaseNote) (arrival : Arrival) (old new : InboxView) : Type 0 where
  pub lanes : new.lanes ≡ old.lanes
  pub held : new.held ≡ old.held
  pub notes : (caller : ℕ) → note_of new caller ≡ note_after arrival note old caller

-- each caller's release note came, and as many of its calls were handed out as the note tells
abbrev pub IsDrained : InboxView → Type 0
IsDrained inbox = (caller : ℕ) → is_listed inbox caller ≡ true → note_of inbox caller ≡ Some (handed_of inbox caller)

-- exactly these callers are listed, no call was handed out, none waits, and no release note came
pub record IsOpened (callers : List ℕ) (inbox : InboxView) : Type 0 where
  pub listed : (caller : ℕ) → is_listed inbox caller ≡ contains caller callers
  pub handed : (caller : ℕ) → handed_of inbox caller ≡ 0
  pub in_all : handed_in_all inbox ≡ 0
  pub waits : (caller number : ℕ) → waiting_packet inbox caller number ≡ None
  pub notes : (caller : ℕ) → note_of inbox caller ≡ None

-- the caller's next call was handed out, and nothing else changed
pub record IsNextTaken (caller : ℕ) (packet : Packet) (old new : InboxView) : Type 0 where
  pub of_caller : packet.caller ≡ caller
  pub numbered : packet.number ≡ handed_of old caller
  pub listed : (other : ℕ) → is_listed new other ≡ is_listed old other
  pub handed : (other : ℕ) →
      handed_of new other ≡ (if other == caller then handed_of old other + 1 else handed_of old other)
  pub in_all : handed_in_all new ≡ handed_in_all old + 1
  pub bound : handed_in_all new ≤ MAX_CALLERS * MAX_CALLS
  pub waits : (other number : ℕ) →
      waiting_packet new other number ≡ (if was_handed new other number then None else waiting_packet old other number)
  pub notes : (other : ℕ) → note_of new other ≡ note_of old other
