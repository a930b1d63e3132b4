-- What the lanes of an inbox tell.
use Rattle.act_inbox.proofs.Common.{◌≡◌, ◌≢◌, ℕ, ◌+◌, ◌*◌, ◌<◌, ◌≤◌, length, Some, None, false, refl, sym, ◌∙◌, ap, arith, eq-eqb, get_or, inl, inr, All, find}
use Rattle.act_inbox.proofs.Common.{position, sum_by, slice_set, eqb-true, eqb_tells, find-set, find_past, sum_by-set, sum_by-le, position-Some, Lane}
use Rattle.act_inbox.proofs.Common.{InboxView, is_lane_of, lane_at_first, lane_of, handed_of, handed_in_all, find-Some, find-None, position_or_len-Some}

-- the counts of few lanes add up to little
pub in_all_bound : (inbox : InboxView) → length inbox.lanes ≤ 16 → All (λ lane. lane.handed ≤ 65536) inbox.lanes → handed_in_all inbox ≤ 16 * 65536
in_all_bound inbox few counted = let most = sum_by-le (λ (lane : Lane). lane.handed) 65536 inbox.lanes counted in omega arith

-- where no place of a caller's lane is found, the caller has no lane
pub no_lane : (inbox : InboxView) (caller : ℕ) → position (is_lane_of caller) inbox.lanes ≡ None → lane_of inbox caller ≡ None
no_lane inbox caller nowhere = find-None (is_lane_of caller) inbox.lanes nowhere

pub unlisted_handed : (inbox : InboxView) (caller : ℕ) → lane_of inbox caller ≡ None → 0 ≡ handed_of inbox caller
unlisted_handed inbox caller none = rw none refl

-- a caller's lane tells how many of the caller's calls were handed out
pub listed_handed : (inbox : InboxView) (caller : ℕ) {lane : Lane} → lane_of inbox caller ≡ Some lane → lane.handed ≡ handed_of inbox caller
listed_handed inbox caller listed = rw listed refl

-- the lane after one more call was handed out
abbrev pub one_more : Lane → Lane
one_more lane = record { caller = lane.caller; handed = lane.handed + 1 }

module _ (inbox : InboxView) (caller place : ℕ) (at : position (is_lane_of caller) inbox.lanes ≡ Some place) where
  -- the lane at the place that was found is the caller's
  pub lane_is : {lane : Lane} → lane ≡ get_or inbox.lanes place lane → lane_of inbox caller ≡ Some lane
  lane_is {lane} reached = find-Some (is_lane_of caller) inbox.lanes lane at ∙ ap Some (sym reached)

  pub within : place < length inbox.lanes
  within = (position-Some (is_lane_of caller) inbox.lanes place (lane_at_first 0) at).0

  -- the lane at that place names the caller
  pub caller_at : (d : Lane) → (get_or inbox.lanes place d).caller ≡ caller
  caller_at d = eqb-true _ _ (position-Some (is_lane_of caller) inbox.lanes place d at).1

  pub same_lane : (one other : Lane) → one ≡ get_or inbox.lanes place one → other ≡ get_or inbox.lanes place other → one ≡ other
  same_lane one other one_stands other_stands = let e : Some one ≡ Some other = sym (lane_is one_stands) ∙ lane_is other_stands in cc

  -- the caller's lane is written
  module _ (next : Lane) (same : next.caller ≡ caller) where
    pub lane_written : find (is_lane_of caller) (slice_set inbox.lanes place next) ≡ Some next
    lane_written = find-set (is_lane_of caller) inbox.lanes place next (sym (position_or_len-Some (is_lane_of caller) inbox.lanes at)) within
        (eq-eqb next.caller caller same)

    not_lane_of : (other : ℕ) → other ≢ caller → (lane : Lane) → lane.caller ≡ caller → is_lane_of other lane ≡ false
    not_lane_of other differs lane is = elim (eqb_tells lane.caller other) [ inl t ↦ absurd (differs (sym t.1 ∙ is)) | inr f ↦ f.0 ]

    pub lane_left : (other : ℕ) → other ≢ caller → find (is_lane_of other) (slice_set inbox.lanes place next) ≡ find (is_lane_of other) inbox.lanes
    lane_left other differs = find_past (is_lane_of other) inbox.lanes place next next
        (not_lane_of other differs (get_or inbox.lanes place next) (caller_at next)) (not_lane_of other differs next same)

    pub in_all_written : (lane : Lane) → lane ≡ get_or inbox.lanes place lane → next.handed ≡ lane.handed + 1 →
        sum_by (λ lane. lane.handed) (slice_set inbox.lanes place next) ≡ handed_in_all inbox + 1
    in_all_written lane reached more =
        let total = sum_by-set (λ (lane : Lane). lane.handed) inbox.lanes place next lane within in
        let here : lane.handed ≡ (get_or inbox.lanes place lane).handed = ap (λ (l : Lane). l.handed) reached in omega arith
