-- What handing out a caller's next call does.
use Rattle.act_inbox.proofs.Common.{◌≡◌, ℕ, List, ◌∷◌, ◌+◌, ◌<◌, ◌≤◌, Option, Some, None, Bool, true, false, ◌==◌, if◌then◌else◌, refl, sym, ◌∙◌, ap, subst}
use Rattle.act_inbox.proofs.Common.{arith, get_or, inl, inr, find, position, All, eq-eqb, slice_set, is_some, IsSome, map-set_same, lt-ltb, ltb-true, ltb-false}
use Rattle.act_inbox.proofs.Common.{eqb_tells, length-set, All-set, All-cons, Packet, Lane, IsInbox, InboxView, is_lane_of, is_packet_of, lane_of, is_listed}
use Rattle.act_inbox.proofs.Common.{handed_of, was_handed, next_of, with_held, IsNextToCome, IsNextTaken, find-tells}
use Rattle.act_inbox.proofs.Lanes.{one_more, lane_is, caller_at, same_lane, listed_handed, lane_written, lane_left, in_all_written, in_all_bound}
use Rattle.act_inbox.proofs.Packets.{is_call_tells, listed_next, new_tells}

-- what is some is there
pub is_there : {X : Type 0} (o : Option X) → is_some o ≡ true → IsSome o
is_there None e = absurd (cc)
is_there (Some x) e = refl

if_masked : (b b' : Bool) (x y : Option Packet) → (b' ≡ true → b ≡ true) → (b ≡ false → x ≡ y) →
    (if b then None else x) ≡ (if b then None else (if b' then None else y))
if_masked true b' x y low same = refl
if_masked false true x y low same = let bad : false ≡ true = low refl in absurd (cc)
if_masked false false x y low same = same refl

module _ (old : InboxView) (caller place : ℕ) (lane : Lane) (packet : Packet)
    (at : position (is_lane_of caller) old.lanes ≡ Some place) (lane_stands : lane ≡ get_or old.lanes place lane)
    (found : find (is_packet_of caller lane.handed) old.held ≡ Some packet) (sound : IsInbox old.lanes old.held) where
  listed : lane_of old caller ≡ Some lane
  listed = lane_is old caller place at lane_stands

  handed_is : handed_of old caller ≡ lane.handed
  handed_is = rw listed refl

  mine : (packet.number < 65536) × (packet.caller ≡ caller) × (packet.number ≡ lane.handed)
  mine =
      let told = find-tells (λ (each : Packet). each.number < 65536) (is_packet_of caller lane.handed) old.held sound.numbered found in
      let is = is_call_tells caller lane.handed packet told.1 in (told.0, is.0, is.1)

  pub next_found : Some packet ≡ next_of old caller
  next_found = sym (listed_next old caller listed ∙ found)

  -- what is held of a call after this one went out
  pub held_out : (new : List Packet) → find (is_packet_of caller lane.handed) new ≡ None → ((other number : ℕ) → is_packet_of other number packet ≡ false →
      find (is_packet_of other number) new ≡ find (is_packet_of other number) old.held) → (other number : ℕ) (b : Bool) → is_packet_of other number packet ≡ b →
      find (is_packet_of other number) new ≡ (if b then None else find (is_packet_of other number) old.held)
  held_out new gone others other number false is = others other number is
  held_out new gone others other number true is =
      let is_mine = mine in let theirs = is_call_tells other number packet is in rw (sym theirs.0 ∙ is_mine.1, sym theirs.1 ∙ is_mine.2) gone

  module _ (new : InboxView) (written : Lane) (written_stands : written ≡ get_or old.lanes place written)
      (lanes : new.lanes ≡ slice_set old.lanes place (one_more written))
      (held : (other number : ℕ) → is_packet_of other number packet ≡ false →
      find (is_packet_of other number) new.held ≡ find (is_packet_of other number) old.held)
      (numbered : All (λ each. each.number < 65536) new.held) (notes : new.notes ≡ old.notes) where
    same : written.caller ≡ caller
    same = ap (λ (l : Lane). l.caller) written_stands ∙ caller_at old caller place at written

    more : written.handed + 1 ≡ lane.handed + 1
    more = ap (λ (l : Lane). l.handed + 1) (same_lane old caller place at written lane written_stands lane_stands)

    -- what is true of each inbox is true of the one after the call went out
    pub sound_then : IsInbox new.lanes new.held
    sound_then =
        let is_mine = mine in let same_count = more in let little : written.handed + 1 ≤ 65536 = omega arith in
        record {
          distinct =
              rw (lanes, map-set_same (λ (lane : Lane). lane.caller) old.lanes place (one_more written) written (ap (λ (l : Lane). l.caller) written_stands))
              sound.distinct;
          few = rw (lanes, length-set) sound.few;
          counted = rw lanes (All-set (λ lane. lane.handed ≤ 65536) old.lanes place (one_more written) little sound.counted);
          numbered = numbered;
        }

    handed_here : handed_of new caller ≡ handed_of old caller + 1
    handed_here = rw (lanes, lane_written old caller place at (one_more written) same) more ∙ ap (λ n. n + 1) (sym handed_is)

    handed_then : (other : ℕ) → handed_of new other ≡ (if other == caller then handed_of old other + 1 else handed_of old other)
    handed_then other = elim (eqb_tells other caller) [
      | inl t ↦ rw t.0 (subst (λ c. handed_of new c ≡ handed_of old c + 1) (sym t.1) handed_here)
      | inr f ↦ rw (f.0, lanes, lane_left old caller place at (one_more written) same other f.1) refl
    ]

    listed_then : (other : ℕ) → is_listed new other ≡ is_listed old other
    listed_then other = elim (eqb_tells other caller) [
      | inl t ↦ subst (λ c. is_listed new c ≡ is_listed old c) (sym t.1) (rw (lanes, lane_written old caller place at (one_more written) same, listed) refl)
      | inr f ↦ rw (lanes, lane_left old caller place at (one_more written) same other f.1) refl
    ]

    grows : (other : ℕ) → handed_of old other ≤ handed_of new other
    grows other = elim (eqb_tells other caller) [
      | inl t ↦ let e : handed_of new other ≡ handed_of old other + 1 = rw t.0 at (handed_then other) in omega arith
      | inr f ↦ let e : handed_of new other ≡ handed_of old other = rw f.0 at (handed_then other) in omega arith
    ]

    held_same : (other number : ℕ) (b : Bool) → is_packet_of other number packet ≡ b → handed_of new other ≤ number →
        find (is_packet_of other number) new.held ≡ find (is_packet_of other number) old.held
    held_same other number false is past = held other number is
    held_same other number true is past =
        let is_mine = mine in let theirs = is_call_tells other number packet is in
        let here : handed_of new other ≡ handed_of old caller + 1 =
        subst (λ c. handed_of new c ≡ handed_of old caller + 1) (sym is_mine.1 ∙ theirs.0) handed_here in
        let count = handed_is in absurd (omega arith)

    -- the caller's next call was handed out, and nothing else changed
    pub next_taken : IsNextTaken caller packet old new
    next_taken = record {
      of_caller = mine.1;
      numbered = mine.2 ∙ sym handed_is;
      listed = listed_then;
      handed = handed_then;
      in_all = rw lanes (in_all_written old caller place at (one_more written) same lane lane_stands more);
      bound = in_all_bound new sound_then.few sound_then.counted;
      waits = λ other number. if_masked (was_handed new other number) (was_handed old other number) (find (is_packet_of other number) new.held)
          (find (is_packet_of other number) old.held) (λ below. let less : number < handed_of old other = ltb-true _ _ below in let up = grows other in
          lt-ltb _ _ (omega arith)) (λ past. held_same other number (is_packet_of other number packet) refl (ltb-false _ _ past));
      notes = λ other. rw notes refl;
    }

-- a packet that comes and goes out at once
module _ (inbox : InboxView) (packet : Packet) (place : ℕ) (lane : Lane)
    (at : position (is_lane_of packet.caller) inbox.lanes ≡ Some place) (lane_stands : lane ≡ get_or inbox.lanes place lane)
    (next : IsNextToCome packet inbox) (sound : IsInbox inbox.lanes inbox.held) where
  held_sound : IsInbox inbox.lanes (packet ∷ inbox.held)
  held_sound = record {
    distinct = sound.distinct;
    few = sound.few;
    counted = sound.counted;
    numbered = All-cons (λ (each : Packet). each.number < 65536) packet inbox.held (new_tells inbox packet next.is_new).0 sound.numbered;
  }

  held_first : find (is_packet_of packet.caller lane.handed) (packet ∷ inbox.held) ≡ Some packet
  held_first =
      let here : packet.number ≡ lane.handed = next.numbered ∙ sym (listed_handed inbox packet.caller (lane_is inbox packet.caller place at lane_stands)) in
      rw (eq-eqb packet.caller packet.caller refl, eq-eqb packet.number lane.handed here) refl

  abbrev passed : InboxView
  passed = record inbox { lanes = slice_set inbox.lanes place (one_more lane) }

  pub sound_passed : IsInbox passed.lanes passed.held
  sound_passed =
      sound_then (with_held packet inbox) packet.caller place lane packet at lane_stands held_first held_sound
      passed lane lane_stands refl (λ other number is. rw is refl) sound.numbered refl

  pub next_passed : IsNextTaken packet.caller packet (with_held packet inbox) passed
  next_passed =
      next_taken (with_held packet inbox) packet.caller place lane packet at lane_stands held_first held_sound
      passed lane lane_stands refl (λ other number is. rw is refl) sound.numbered refl
