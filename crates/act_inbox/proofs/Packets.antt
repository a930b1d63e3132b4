-- What the packets that an inbox holds tell.
use Rattle.act_inbox.proofs.Common.{◌≡◌, ℕ, ◌<◌, ◌≤◌, Option, Some, None, Bool, true, false, ◌==◌, ◌&&◌, ◌||◌, is_some, nat_lt, if◌then◌else◌, [], refl, sym}
use Rattle.act_inbox.proofs.Common.{◌∙◌, arith, eq-eqb, find, IsTrue, ◌↔◌, lt-ltb, le-ltb, ltb-true, ltb-false, eqb-true, nat_tests, Packet, New, Repeat}
use Rattle.act_inbox.proofs.Common.{Stranger, Lane, InboxView, is_packet_of, lane_of, is_listed, handed_of, was_handed, waiting_packet, next_of, has_come}
use Rattle.act_inbox.proofs.Common.{call_arrival, arrival_of, waiting_after, with_held, IsNextToCome}
use Rattle.act_inbox.proofs.Lanes.{listed_handed}

pub both_equal : (a b c d : ℕ) → ((a == b) && (c == d)) ≡ true → (a ≡ b) × (c ≡ d)
both_equal a b c d e = grind (arith, nat_tests)

-- a call is known by its caller and number
pub is_call_tells : (caller number : ℕ) (packet : Packet) → is_packet_of caller number packet ≡ true → (packet.caller ≡ caller) × (packet.number ≡ number)
is_call_tells caller number packet e = both_equal packet.caller caller packet.number number e

module _ (inbox : InboxView) (caller : ℕ) where
  -- a caller that has no lane has no next call
  pub unlisted_next : lane_of inbox caller ≡ None → next_of inbox caller ≡ None
  unlisted_next none = rw none refl

  -- a listed caller's next call is the held one whose number is how many were handed out
  pub listed_next : {lane : Lane} → lane_of inbox caller ≡ Some lane → next_of inbox caller ≡ find (is_packet_of caller lane.handed) inbox.held
  listed_next {lane} listed = rw (listed, le-ltb lane.handed lane.handed (omega arith)) refl

module _ (inbox : InboxView) (caller number : ℕ) where
  pub unlisted : lane_of inbox caller ≡ None → Stranger ≡ call_arrival inbox caller number
  unlisted none = rw none refl

  module _ (lane : Lane) (listed : lane_of inbox caller ≡ Some lane) (small : number < 65536) where
    pub handed_out : number < lane.handed → Repeat ≡ call_arrival inbox caller number
    handed_out early = rw (listed, lt-ltb number 65536 small, lt-ltb number lane.handed early) refl

    pub held_already : lane.handed ≤ number → {first : Packet} → find (is_packet_of caller number) inbox.held ≡ Some first →
        Repeat ≡ call_arrival inbox caller number
    held_already late found = rw (listed, lt-ltb number 65536 small, le-ltb number lane.handed late, found) refl

    pub comes_first : lane.handed ≤ number → find (is_packet_of caller number) inbox.held ≡ None → New ≡ call_arrival inbox caller number
    comes_first late none = rw (listed, lt-ltb number 65536 small, le-ltb number lane.handed late, none) refl

arrival_tells : (listed small early : Bool) (found : Option Packet) → (if listed && small then
    (if early || is_some (if early then None else found) then Repeat else New) else Stranger) ≡ New → (small ≡ true) × (early ≡ false) × (found ≡ None)
arrival_tells false small early found e = absurd (cc)
arrival_tells true false early found e = absurd (cc)
arrival_tells true true true found e = absurd (cc)
arrival_tells true true false (Some packet) e = absurd (cc)
arrival_tells true true false None e = (refl, refl, refl)

-- what is known of a packet that comes for the first time
pub new_tells : (inbox : InboxView) (packet : Packet) → arrival_of inbox packet ≡ New →
    (packet.number < 65536) × (handed_of inbox packet.caller ≤ packet.number) × (find (is_packet_of packet.caller packet.number) inbox.held ≡ None)
new_tells inbox packet e =
    let told = arrival_tells (is_listed inbox packet.caller) (nat_lt packet.number 65536) (was_handed inbox packet.caller packet.number)
    (find (is_packet_of packet.caller packet.number) inbox.held) e in
    (ltb-true _ _ told.0, ltb-false _ _ told.1, told.2)

listed_told : (listed small was : Bool) → (if listed && small then (if was then Repeat else New) else Stranger) ≡ New → listed ≡ true
listed_told false small was e = absurd (cc)
listed_told true small was e = refl

-- its caller is listed
pub new_listed : (inbox : InboxView) (packet : Packet) → arrival_of inbox packet ≡ New → is_listed inbox packet.caller ≡ true
new_listed inbox packet e = listed_told (is_listed inbox packet.caller) (nat_lt packet.number 65536) (has_come inbox packet.caller packet.number) e

-- a caller that isn't listed has no next call
pub none_next : (inbox : InboxView) (packet : Packet) → lane_of inbox packet.caller ≡ None → IsTrue false ↔ IsNextToCome packet inbox
none_next inbox packet none = (λ is. absurd (cc), λ next. rw none at (new_listed inbox packet next.is_new))

-- where no call is held, the number alone tells whether a call is its caller's next and new
module _ (inbox : InboxView) (packet : Packet) (lane : Lane) (listed : lane_of inbox packet.caller ≡ Some lane)
    (small : packet.number < 65536) (empty : inbox.held ≡ []) where
  next_here : (lane.handed == packet.number) ≡ true → IsNextToCome packet inbox
  next_here same =
      let is : lane.handed ≡ packet.number = eqb-true _ _ same in
      record {
        is_new = sym (comes_first inbox packet.caller packet.number lane listed small (omega arith) (rw empty refl));
        numbered = sym is ∙ listed_handed inbox packet.caller listed;
      }

  pub next_decides : IsTrue (lane.handed == packet.number) ↔ IsNextToCome packet inbox
  next_decides = (next_here, λ next. eq-eqb lane.handed packet.number (listed_handed inbox packet.caller listed ∙ sym next.numbered))

-- a packet that comes for the first time
module _ (old new : InboxView) (packet : Packet) (is_new : arrival_of old packet ≡ New) (lanes : new.lanes ≡ old.lanes)
    (held : (caller number : ℕ) →
    find (is_packet_of caller number) new.held ≡ (if is_packet_of caller number packet then Some packet else find (is_packet_of caller number) old.held)) where
  waits_by : (caller number : ℕ) (b : Bool) → is_packet_of caller number packet ≡ b →
      waiting_packet new caller number ≡ (if b then Some packet else waiting_packet old caller number)
  waits_by caller number true is =
      let told = is_call_tells caller number packet is in let before = new_tells old packet is_new in
      let past : handed_of old caller ≤ number = rw (← told.0, ← told.1) before.1 in
      rw (lanes, le-ltb number (handed_of old caller) past) (rw is at (held caller number))
  waits_by caller number false is = rw (lanes, rw is at (held caller number)) refl

  pub waits_then : (caller number : ℕ) → waiting_packet new caller number ≡ waiting_after New packet old caller number
  waits_then caller number = waits_by caller number (is_packet_of caller number packet) refl

-- an inbox that holds a new packet more is the one that it comes to
pub waits_holding : (inbox : InboxView) (packet : Packet) → arrival_of inbox packet ≡ New → (caller number : ℕ) →
    waiting_packet (with_held packet inbox) caller number ≡ waiting_after New packet inbox caller number
waits_holding inbox packet is_new caller number = waits_then inbox (with_held packet inbox) packet is_new refl (λ _ _. refl) caller number
