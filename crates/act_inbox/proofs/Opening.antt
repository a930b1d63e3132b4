-- What an inbox is when it is opened.
use Rattle.act_inbox.proofs.Common.{◌≡◌, ◌≢◌, ℕ, suc, Option, None, replicate, ap, ◌<◌, ◌≤◌, List, [], ◌∷◌, length, false, refl, arith, get_or, inl, inr}
use Rattle.act_inbox.proofs.Common.{is_some, All, AllPairs, find, sum_by, map, IsDistinct, option_map_or, eqb, eqb-true, le-ltb, leb_tells, eqb_tells}
use Rattle.act_inbox.proofs.Common.{Decides-eqb, length-map, length-replicate, get_or-replicate, get_or_past, All-nil, All-cons, All-map, recursion_from_All}
use Rattle.act_inbox.proofs.Common.{Any-from_list_any, sum_by-le, IsDistinct-cons, IsDistinct-from_AllPairs, length-le_from_distinct_below, Packet, contains}
use Rattle.act_inbox.proofs.Common.{Lane, IsInbox, InboxView, is_lane_of, lane_at_first, IsOpened}

-- numbers from 1 to 16 with no two equal are at most 16
few_callers : (callers : List ℕ) → AllPairs (λ one other. one ≢ other) callers → All (λ caller. (1 ≤ caller) × (caller ≤ 16)) callers → length callers ≤ 16
few_callers callers pairs valid =
    let apart : All (λ caller. eqb 0 caller ≡ false) callers = λ k d within. let ok = valid k d within in
    elim (eqb_tells 0 (get_or callers k d)) [ inl t ↦ absurd (omega arith) | inr f ↦ f.0 ] in
    let distinct : IsDistinct eqb (0 ∷ callers) = IsDistinct-cons eqb 0 callers (recursion_from_All (λ caller. eqb 0 caller ≡ false) callers apart)
    (IsDistinct-from_AllPairs Decides-eqb callers pairs) in
    let below : All (λ caller. caller < 17) (0 ∷ callers) =
    All-cons (λ caller. caller < 17) 0 callers (omega arith) (λ k d within. let ok = valid k d within in omega arith) in
    let most : length (0 ∷ callers) ≤ 17 = length-le_from_distinct_below (0 ∷ callers) 17 distinct
    (λ q is. let any = Any-from_list_any (eqb q) (0 ∷ callers) is in let same : q ≡ any.1 = eqb-true q any.1 any.4 in let there : get_or
    (0 ∷ callers) any.0 any.1 ≡ any.1 = any.3 in let small : get_or (0 ∷ callers) any.0 any.1 < 17 = below any.0 any.1 any.2 in omega arith) in
    omega arith

-- lanes at first
listed_at_first : (callers : List ℕ) (caller : ℕ) → is_some (find (is_lane_of caller) (map lane_at_first callers)) ≡ contains caller callers
listed_at_first [] caller = refl
listed_at_first (one ∷ callers) caller = elim (eqb_tells one caller) [ inl t ↦ rw t.0 refl | inr f ↦ rw f.0 (listed_at_first callers caller) ]

handed_at_first : (callers : List ℕ) (caller : ℕ) → option_map_or (λ (lane : Lane). lane.handed) (find (is_lane_of caller) (map lane_at_first callers)) 0 ≡ 0
handed_at_first [] caller = refl
handed_at_first (one ∷ callers) caller = elim (eqb_tells one caller) [ inl t ↦ rw t.0 refl | inr f ↦ rw f.0 (handed_at_first callers caller) ]

in_all_at_first : (callers : List ℕ) → sum_by (λ lane. lane.handed) (map lane_at_first callers) ≡ 0
in_all_at_first callers =
    let most = sum_by-le (λ (lane : Lane). lane.handed) 0 (map lane_at_first callers)
    (All-map (λ lane. lane.handed ≤ 0) lane_at_first callers (λ k d within. omega arith)) in
    omega arith

callers_at_first : (callers : List ℕ) → map (λ lane. lane.caller) (map lane_at_first callers) ≡ callers
callers_at_first [] = refl
callers_at_first (one ∷ callers) = ap (λ rest. one ∷ rest) (callers_at_first callers)

-- notes of which none came
abbrev pub no_notes : ℕ → List (Option ℕ)
no_notes count = replicate count None

no_note : (count caller : ℕ) → get_or (no_notes count) caller None ≡ None
no_note count caller = elim (leb_tells (suc caller) count) [
  | inl t ↦ get_or-replicate count caller None None t.1
  | inr f ↦ let long : length (no_notes count) ≡ count = length-replicate count None in get_or_past (no_notes count) caller None (omega (arith, f.1))
]

module _ (callers : List ℕ) (inbox : InboxView) (lanes : inbox.lanes ≡ map lane_at_first callers) (held : inbox.held ≡ [])
    (notes : inbox.notes ≡ no_notes 17) where
  -- an inbox with these lanes, with no packets and no notes, is as just opened for the callers
  pub opened : IsOpened callers inbox
  opened = record {
    listed = λ caller. rw lanes (listed_at_first callers caller);
    handed = λ caller. rw lanes (handed_at_first callers caller);
    in_all = rw lanes (in_all_at_first callers);
    waits = λ caller number. rw (lanes, held, handed_at_first callers caller, le-ltb number 0 (omega arith)) refl;
    notes = λ caller. rw notes (no_note 17 caller);
  }

  -- where these callers differ, and are from 1 to 16, what is true of each inbox is true of it
  pub opened_is_inbox : AllPairs (λ one other. one ≢ other) callers → All (λ caller. (1 ≤ caller) × (caller ≤ 16)) callers → IsInbox inbox.lanes inbox.held
  opened_is_inbox pairs valid = record {
    distinct = rw (lanes, callers_at_first callers) pairs;
    few = rw (lanes, length-map) (few_callers callers pairs valid);
    counted = rw lanes (All-map (λ lane. lane.handed ≤ 65536) lane_at_first callers (λ k d within. omega arith));
    numbered = rw held (All-nil (λ (packet : Packet). packet.number < 65536));
  }
