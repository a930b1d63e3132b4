use Rattle.std.specs.Prelude.{◌≡◌, ◌≢◌, ℕ, ◌+◌, ◌-◌, ◌<◌, ◌≤◌, ◌==◌, if◌then◌else◌, List, Option, Some, None, All, AllPairs, length, map, slice_get, IsSomeAnd}
use Rattle.std.specs.Option.{option_and_then}
use Rattle.slab.specs.Slab.{Slab, get}
use Rattle.act_types.specs.declared.limits.TheConstants.{MAX_CALLERS, MAX_CALLS}
use Rattle.act_types.specs.declared.call.Packet.{Packet}
use Rattle.act_inbox.specs.declared.inbox.Lane.{Lane}

-- for each caller how many calls were handed out, the packets that came and were not, and at each
-- caller's number what its release note tells, if it came
pub record InboxView : Type 0 where
  pub lanes : List Lane
  pub held : List Packet
  pub notes : List (Option ℕ)

-- what is true of each inbox, however it came to be
pub record IsInbox (lanes : List Lane) (held : List Packet) : Type 0 where
  pub distinct : AllPairs (λ one other. one ≢ other) (map (λ lane. lane.caller) lanes)
  pub few : length lanes ≤ MAX_CALLERS
  pub counted : All (λ lane. lane.handed ≤ MAX_CALLS) lanes
  pub numbered : All (λ packet. packet.number < MAX_CALLS) held

-- the key that a place tells: one less, and 0 tells of none
abbrev pub told_key : ℕ → Option ℕ
told_key place = if place == 0 then None else Some (place - 1)

-- the key of the call of this number, by a caller's index
abbrev pub key_in : List ℕ → ℕ → Option ℕ
key_in index number = option_and_then told_key (slice_get index number)

-- the key of the caller's call of this number, by the caller's index
abbrev pub key_of : List (List ℕ) → ℕ → ℕ → Option ℕ
key_of keys caller number = option_and_then (λ index. key_in index number) (slice_get keys caller)

-- each key in a caller's index names a held packet of that caller and number, and no other is held
pub record IsHeld (packets : Slab Packet) (keys : List (List ℕ)) : Type 0 where
  pub one_each : length keys ≡ MAX_CALLERS + 1
  pub named : (caller number key : ℕ) → key_of keys caller number ≡ Some key →
      IsSomeAnd (get packets key) (λ packet. (packet.caller ≡ caller) × (packet.number ≡ number))
  pub indexed : (key : ℕ) (packet : Packet) → get packets key ≡ Some packet →
      key_of keys packet.caller packet.number ≡ Some key
