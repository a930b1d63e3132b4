-- What a world that stands after events says of their history.
use Rattle.act_replay.proofs.Common.{◌≡◌, ◌↔◌, ℕ, Bool, true, false, List, Some, None, ap, sym, ◌∙◌, subst, true≢false, All, IsOk, IsTrue, is_some, or_parts}
use Rattle.act_replay.proofs.Common.{Event, ActorSpec, History, opening, cast_of, is_caller, calls_of, kept_of, is_dead, is_retired, history, outcomes, kept_at}
use Rattle.act_replay.proofs.Common.{OwnerView, EndView, Killed, Retired, Starved, end_id, SlotView, Runs, Died, Ended, Vacant, IsOwnerAt, IsStage, IsOwnerIn}
use Rattle.act_replay.proofs.Common.{IsEndIn, IsPlayOf, AreSame, IsSameEnd}

-- ---- one caller

-- a caller that the world doesn't have
pub no_owner_in : (h : History) (c : ℕ) (owner : OwnerView) → c ≡ owner.id → IsOwnerAt h c None → IsTrue false ↔ IsOwnerIn h owner
no_owner_in h c owner is none = (
  λ holds. absurd (true≢false (sym holds)),
  λ known. absurd (true≢false (sym known.known ∙ ap (λ c. is_caller c h) (sym is) ∙ none)),
)

-- a caller that the world has
pub owner_in : (h : History) (c : ℕ) (owner other : OwnerView) (r : Bool) → c ≡ owner.id → IsOwnerAt h c (Some other) → (IsTrue r ↔ AreSame owner other)
    → IsTrue r ↔ IsOwnerIn h owner
owner_in h c owner other r is at tells = (
  λ holds. let same = tells.0 holds in record {
    known = ap (λ c. is_caller c h) (sym is) ∙ at.0;
    calls = same.calls ∙ at.1.calls ∙ ap (λ c. calls_of c h) is;
    answers = λ k below. same.answers k below ∙ ap (λ kept. kept_at kept k) (at.1.kept ∙ ap (λ c. kept_of c h) is);
  },
  λ known. tells.1 (record {
    calls = known.calls ∙ ap (λ c. calls_of c h) (sym is) ∙ sym at.1.calls;
    answers = λ k below. known.answers k below ∙ ap (λ kept. kept_at kept k) (ap (λ c. kept_of c h) (sym is) ∙ sym at.1.kept);
  }),
)

-- ---- one actor

-- an actor that the world doesn't have
pub no_end_in : (h : History) (a : ℕ) (end : EndView) → a ≡ end_id end → cast_of a h ≡ None → IsTrue false ↔ IsEndIn h end
no_end_in h a end is none = (
  λ holds. absurd (true≢false (sym holds)),
  λ known. absurd (true≢false (sym known.known ∙ ap (λ a. is_some (cast_of a h)) (sym is) ∙ ap (λ cast. is_some cast) none)),
)

-- an actor in the world's slot, beside one that ended
module _ (h : History) where
  same_to : (slot : SlotView) (end : EndView) → IsStage h (end_id end) (Some slot) → IsSameEnd slot end → IsEndIn h end
  same_to (Died dead) (Killed other) at same = record { known = ap (λ cast. is_some cast) at.cast_is; runs = sym same ∙ at.log; ended = at.died }
  same_to (Died dead) (Retired other) at same = absurd same
  same_to (Died dead) (Starved other) at same = absurd same
  same_to (Ended retired) (Retired other) at same =
      record { known = ap (λ cast. is_some cast) at.cast_is; runs = sym same ∙ at.log; ended = (at.lived, at.ended) }
  same_to (Ended retired) (Killed other) at same = absurd same
  same_to (Ended retired) (Starved other) at same = absurd same
  same_to (Runs live) (Killed other) at same = absurd same
  same_to (Runs live) (Retired other) at same = absurd same
  same_to (Runs live) (Starved other) at same = absurd same
  same_to Vacant (Killed other) at same = absurd same
  same_to Vacant (Retired other) at same = absurd same
  same_to Vacant (Starved other) at same = absurd same

  same_from : (slot : SlotView) (end : EndView) → IsStage h (end_id end) (Some slot) → IsEndIn h end → IsSameEnd slot end
  same_from slot (Starved other) at known = absurd known.ended
  same_from (Died dead) (Killed other) at known = at.log ∙ sym known.runs
  same_from (Died dead) (Retired other) at known = absurd (true≢false (sym at.died ∙ known.ended.0))
  same_from (Ended retired) (Retired other) at known = at.log ∙ sym known.runs
  same_from (Ended retired) (Killed other) at known = absurd (true≢false (sym known.ended ∙ at.lived))
  same_from (Runs live) (Killed other) at known = absurd (true≢false (sym known.ended ∙ (or_parts (is_dead other.id h) (is_retired other.id h) at.runs).0))
  same_from (Runs live) (Retired other) at known = absurd (true≢false (sym known.ended.1 ∙ (or_parts (is_dead other.id h) (is_retired other.id h) at.runs).1))
  same_from Vacant (Killed other) at known = absurd (true≢false (sym known.known ∙ ap (λ cast. is_some cast) at))
  same_from Vacant (Retired other) at known = absurd (true≢false (sym known.known ∙ ap (λ cast. is_some cast) at))

-- an actor that the world has
pub end_in : (h : History) (a : ℕ) (slot : SlotView) (end : EndView) (r : Bool) → a ≡ end_id end → IsStage h a (Some slot) → (IsTrue r ↔ IsSameEnd slot end)
    → IsTrue r ↔ IsEndIn h end
end_in h a slot end r is at tells =
    let here : IsStage h (end_id end) (Some slot) = subst (λ a. IsStage h a (Some slot)) is at in
    (λ holds. same_to h slot end here (tells.0 holds), λ known. tells.1 (same_from h slot end here known))

-- ---- all of it

module _ (casts : List ActorSpec) (events : List Event) (owners : List OwnerView) (ends : List EndView) where
  -- an event was refused
  pub not_accepted : {r : Bool} → (IsTrue r ↔ All IsOk (outcomes (opening casts) events)) → r ≡ false → IsTrue false ↔ IsPlayOf casts events owners ends
  not_accepted tells fails = (λ wrong. absurd (true≢false (sym wrong)), λ is. absurd (true≢false (sym (tells.1 is.accepted) ∙ fails)))

  -- a caller is another
  pub not_callers : {r : Bool} → (IsTrue r ↔ All (IsOwnerIn (history casts events)) owners) → r ≡ false → IsTrue false ↔ IsPlayOf casts events owners ends
  not_callers tells fails = (λ wrong. absurd (true≢false (sym wrong)), λ is. absurd (true≢false (sym (tells.1 is.callers) ∙ fails)))

  -- so the actors decide
  pub play_is : {accepted callers : Bool} (actors : Bool) → (IsTrue accepted ↔ All IsOk (outcomes (opening casts) events)) →
      (IsTrue callers ↔ All (IsOwnerIn (history casts events)) owners) → (IsTrue actors ↔ All (IsEndIn (history casts events)) ends) → accepted ≡ true →
      callers ≡ true → IsTrue actors ↔ IsPlayOf casts events owners ends
  play_is {accepted} {callers} actors one two three first second = (
    λ third. record { accepted = one.0 first; callers = two.0 second; actors = three.0 third },
    λ is. three.1 is.actors,
  )

-- what is a play of the same is one
pub play_same : (casts : List ActorSpec) {events same_events : List Event} {owners same_owners : List OwnerView} {ends same_ends : List EndView}
    → events ≡ same_events → owners ≡ same_owners → ends ≡ same_ends → IsPlayOf casts events owners ends → IsPlayOf casts same_events same_owners same_ends
play_same casts {same_events} {owners} {same_owners} {ends} one two three is =
    subst (λ l. IsPlayOf casts same_events same_owners l) three
    (subst (λ l. IsPlayOf casts same_events l ends) two (subst (λ l. IsPlayOf casts l owners ends) one is))
