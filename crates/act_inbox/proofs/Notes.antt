-- What the release notes of an inbox tell.
use Rattle.act_inbox.proofs.Common.{◌≡◌, ◌≢◌, ℕ, ◌<◌, List, length, Option, Some, None, Bool, true, false, refl, sym, ◌∙◌, ap, subst, arith, get_or, slice_get}
use Rattle.act_inbox.proofs.Common.{inl, inr, is_some, All, AllPairs, map, find, position, Decides, eqb_tells, get_or-map, length-map, find_at}
use Rattle.act_inbox.proofs.Common.{position_or_len_is, slice_get-get_or, Lane, IsInbox, InboxView, is_lane_of, lane_at_first, lane_of, is_listed, handed_of}
use Rattle.act_inbox.proofs.Common.{note_of, IsDrained, find-Some, find-None}
use Rattle.act_inbox.proofs.Lanes.{caller_at, listed_handed, within}

-- who has a lane is listed
listed_by : (inbox : InboxView) (caller : ℕ) (place : Option ℕ) → position (is_lane_of caller) inbox.lanes ≡ place → is_some place ≡ is_listed inbox caller
listed_by inbox caller None at = rw (find-None (is_lane_of caller) inbox.lanes at) refl
listed_by inbox caller (Some place) at = rw (find-Some (is_lane_of caller) inbox.lanes (lane_at_first 0) at) refl

-- a caller is listed exactly where a place of its lane is found
pub listed_is : (inbox : InboxView) (caller : ℕ) → is_some (position (is_lane_of caller) inbox.lanes) ≡ is_listed inbox caller
listed_is inbox caller = listed_by inbox caller (position (is_lane_of caller) inbox.lanes) refl

-- each lane left a note of as many calls as were handed out
abbrev pub AreDone : InboxView → Type 0
AreDone inbox = All (λ (lane : Lane). note_of inbox lane.caller ≡ Some lane.handed) inbox.lanes

done_by : (inbox : InboxView) → AreDone inbox → (caller : ℕ) (place : Option ℕ) → position (is_lane_of caller) inbox.lanes ≡ place → is_some place ≡ true →
    note_of inbox caller ≡ Some (handed_of inbox caller)
done_by inbox done caller None at listed = absurd (cc)
done_by inbox done caller (Some place) at listed =
    let lane : Lane = get_or inbox.lanes place (lane_at_first 0) in
    let found : lane_of inbox caller ≡ Some lane = find-Some (is_lane_of caller) inbox.lanes (lane_at_first 0) at in
    let here : note_of inbox lane.caller ≡ Some lane.handed = done place (lane_at_first 0) (within inbox caller place at) in
    subst (λ c. note_of inbox c ≡ Some lane.handed) (caller_at inbox caller place at (lane_at_first 0)) here ∙ ap Some (listed_handed inbox caller found)

drained_from_done : (inbox : InboxView) → AreDone inbox → IsDrained inbox
drained_from_done inbox done caller listed = done_by inbox done caller (position (is_lane_of caller) inbox.lanes) refl (listed_is inbox caller ∙ listed)

-- where no caller has two lanes, each lane is found
module _ (lanes : List Lane) (distinct : AllPairs (λ one other. one ≢ other) (map (λ lane. lane.caller) lanes)) (place : ℕ) (d : Lane)
    (within : place < length lanes) where
  not_earlier : (earlier : ℕ) → earlier < place → is_lane_of (get_or lanes place d).caller (get_or lanes earlier d) ≡ false
  not_earlier earlier before =
      let here = get_or-map (λ (lane : Lane). lane.caller) lanes place d 0 within in
      let there = get_or-map (λ (lane : Lane). lane.caller) lanes earlier d 0 (omega arith) in
      let differ = distinct earlier place 0 before (rw length-map within) in
      elim (eqb_tells (get_or lanes earlier d).caller (get_or lanes place d).caller) [ inl t ↦ absurd (differ (there ∙ t.1 ∙ sym here)) | inr f ↦ f.0 ]

  found_at : find (is_lane_of (get_or lanes place d).caller) lanes ≡ Some (get_or lanes place d)
  found_at =
      let caller = (get_or lanes place d).caller in
      let first = position_or_len_is (is_lane_of caller) lanes place d (omega arith) not_earlier
      (λ _. elim (eqb_tells caller caller) [ inl t ↦ t.0 | inr f ↦ absurd (f.1 refl) ]) in
      find_at (is_lane_of caller) lanes ∙ ap (slice_get lanes) first ∙ slice_get-get_or lanes place d within

done_from_drained : (inbox : InboxView) → IsInbox inbox.lanes inbox.held → IsDrained inbox → AreDone inbox
done_from_drained inbox sound drained place d within =
    let lane : Lane = get_or inbox.lanes place d in
    let found : lane_of inbox lane.caller ≡ Some lane = found_at inbox.lanes sound.distinct place d within in
    drained lane.caller (rw found refl) ∙ ap Some (sym (listed_handed inbox lane.caller found))

pub drained_decides : (inbox : InboxView) → IsInbox inbox.lanes inbox.held → (done : Bool) → Decides done (AreDone inbox) → Decides done (IsDrained inbox)
drained_decides inbox sound done decides = (λ yes. drained_from_done inbox (decides.0 yes), λ drained. decides.1 (done_from_drained inbox sound drained))
