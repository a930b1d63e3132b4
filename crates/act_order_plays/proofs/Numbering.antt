-- An actor ran as many of a caller's calls as come before its next call to it.
use Rattle.act_order_plays.proofs.Common.{◌≡◌, ℕ, ◌<◌, ◌==◌, List, length, map, take, Some, slice_get, refl, sym, ap, subst, ◌∙◌, arith, option_map, eqb-true}
use Rattle.act_order_plays.proofs.Common.{eq-eqb, length-map, slice_get-map, IsPrefix, RunItem, Submission, items_of, calls_to, number_of, History, calls_of}
use Rattle.act_order_plays.proofs.Common.{runs_of, ran_count, element, slice_get_front, IsPrefix-map, calls_to_grow, calls_to-number, InOrder, numbered}
use Rattle.act_order_plays.proofs.Common.{numbers, calls_to-at, map-slice_get, Happening, Submitted, Ran, Run, Told, call_of, SameWay, RunsInTurn, IsCause}
use Rattle.act_order_plays.proofs.Common.{calls_by, future_of, get_taken, map-enumerate_from, map-numbered, calls_to-length, places_differ, IsIn, in_filter}
use Rattle.act_order_plays.proofs.Premises.{Premises}
use Rattle.act_order_plays.proofs.Lists.{filter_has, Once, front_ends}
use Rattle.act_order_plays.proofs.Fronts.{subs_of, rans_of, rans_of_has, has_rans_of, call_at, call_before, calls_differ, IsRunAt, run_at, ran_earlier}
use Rattle.act_order_plays.proofs.Fronts.{take_front}
use Rattle.act_order_plays.proofs.Causes.{IsNext, Good, earlier_ran}
use Rattle.act_order_plays.proofs.Answering.{call_of_item, item_of_call}
use Rattle.act_order_plays.proofs.Stands.{sub_of, Shape, runs_are, calls_are}
use Rattle.act_order_plays.proofs.Keeping.{call_stands, same_call, ran_submitted}

-- ---- the futures of a caller's calls to an actor

-- the futures of those of a caller's calls that are to an actor, in order
abbrev pub futures_to : ℕ → List Submission → List ℕ
futures_to a calls = map (λ call. call.0) (calls_to a calls)

-- no future stands twice among those of calls to an actor
pub futures_differ : (a : ℕ) (calls : List Submission) → Once (futures_to a calls)
futures_differ a calls = places_differ (λ (call : ℕ × Submission). call.1.actor == a) 0 calls

-- one call to the actor before the caller's call k
record IsLower (a k q : ℕ) (calls : List Submission) : Type 0 where
  call : Submission
  at : slice_get calls q ≡ Some call
  actor : call.actor ≡ a
  less : q < k

lower : (a k j y : ℕ) (calls : List Submission) → j < number_of a k calls → slice_get (futures_to a calls) j ≡ Some y → IsLower a k y calls
lower a k j y calls less at =
    let short : j < length (calls_to a (take k calls)) = (let e = calls_to-length a 0 (take k calls) in omega arith) in
    let one = element (calls_to a (take k calls)) j short in let is = calls_to-at a (take k calls) j one.1 in let early = get_taken k calls one.0.0 is.at in
    let there : slice_get (calls_to a calls) j ≡ Some one.0 =
    slice_get_front (calls_to a (take k calls)) (calls_to a calls) j (calls_to_grow a (take k calls) calls (take_front k calls)) one.1 in
    let future : slice_get (futures_to a calls) j ≡ Some one.0.0 =
    slice_get-map (λ (call : ℕ × Submission). call.0) (calls_to a calls) j ∙ ap (option_map (λ (call : ℕ × Submission). call.0)) there in
    let same : one.0.0 ≡ y = cc in subst (λ q. IsLower a k q calls) same (record { call = one.0.1; at = early.1; actor = is.actor; less = early.0 })

-- ---- those that ran

-- the futures of a caller's calls that an actor ran, in the order of its run list
abbrev pub futures_ran : ℕ → ℕ → History → List ℕ
futures_ran c a h = map (λ item. item.future) (items_of c (runs_of a h))

pub front_ran : (h : History) (c a : ℕ) → InOrder h → IsPrefix (futures_ran c a h) (futures_to a (calls_of c h))
front_ran h c a order =
    let both = IsPrefix-map (λ (p : ℕ × ℕ). p.1) (map numbered (items_of c (runs_of a h))) (numbers a (calls_of c h)) (order a c) in
    subst (λ l. IsPrefix l (futures_to a (calls_of c h))) (map-numbered (items_of c (runs_of a h)))
    (subst (λ l. IsPrefix (map (λ (p : ℕ × ℕ). p.1) (map numbered (items_of c (runs_of a h)))) l) (map-enumerate_from 0 (futures_to a (calls_of c h))) both)

pub ran_front : {told : Told} {before : List Happening} (h : History) (c a : ℕ) → Shape told before h →
    IsPrefix (futures_ran c a h) (futures_to a (calls_of c h))
ran_front h c a shape = front_ran h c a shape.sound.order

-- a call that ran is among the futures that ran
pub ran_has : (told : Told) (before : List Happening) (h : History) (n : ℕ) → Shape told before h → IsIn before (Ran n) →
    IsIn (futures_ran (call_of told n).caller (call_of told n).actor h) (future_of told n)
ran_has told before h n shape has =
    let c = (call_of told n).caller in let a = (call_of told n).actor in let there = rans_of_has told before n a has refl in
    let item = item_of_call told (runs_of a h) (rans_of told before a) there.place n (runs_are a shape) there.at in
    let mine = in_filter (λ (i : RunItem). i.caller == c) (record { place = there.place; at = item.1 }) (eq-eqb item.0.caller c item.2.caller) in
    record {
      place = mine.place;
      at = slice_get-map (λ (i : RunItem). i.future) (items_of c (runs_of a h)) mine.place ∙ ap (option_map (λ (i : RunItem). i.future)) mine.at
          ∙ ap (λ k. Some k) item.2.future;
    }

-- and such a future is that of a call that ran
pub has_ran : (told : Told) (before : List Happening) (h : History) (n : ℕ) → Good told before → Shape told before h → n < length told.calls →
    IsIn (futures_ran (call_of told n).caller (call_of told n).actor h) (future_of told n) → IsIn before (Ran n)
has_ran told before h n good shape lt has =
    let c = (call_of told n).caller in let a = (call_of told n).actor in
    let one = map-slice_get (λ (i : RunItem). i.future) (items_of c (runs_of a h)) has.place has.at in
    let item = filter_has (λ (i : RunItem). i.caller == c) (runs_of a h) (record { place = has.place; at = one.1 }) in
    let call = call_of_item told (runs_of a h) (rans_of told before a) item.0.place one.0 (runs_are a shape) item.0.at in
    let ran = has_rans_of told before call.0 a (record { place = item.0.place; at = call.1 }) in
    let caller : (call_of told call.0).caller ≡ c = sym call.2.caller ∙ eqb-true one.0.caller c item.1 in
    let future : future_of told call.0 ≡ future_of told n = sym call.2.future ∙ one.2 in
    let same : call.0 ≡ n = same_call told call.0 n (good.happened (Submitted call.0) (ran_submitted call.0 good ran.0)) lt caller future in
    subst (λ k. IsIn before (Ran k)) same ran.0

-- the submission at a place is that of a call
pub sub_call : (told : Told) (before : List Happening) (h : History) (c q : ℕ) {call : Submission} → Good told before → Shape told before h →
    slice_get (calls_of c h) q ≡ Some call → (m : ℕ) × (slice_get (calls_by told c) q ≡ Some m) × (sub_of told m ≡ call)
sub_call told before h c q {call} good shape at =
    let one = map-slice_get (sub_of told) (subs_of told before c) q
    (subst (λ calls. slice_get calls q ≡ Some call) (calls_are told before h c shape) at) in
    (one.0, slice_get_front (subs_of told before c) (calls_by told c) q (good.calls c) one.1, one.2)

module _ (told : Told) (fits : Premises told) (turn : RunsInTurn told) (before : List Happening) (n : ℕ) (good : Good told before)
    (next : IsNext told before (Ran n)) where
  abbrev c : ℕ
  c = (call_of told n).caller

  abbrev a : ℕ
  a = (call_of told n).actor

  place : (p : ℕ) × (run : Run) × IsRunAt told n p run
  place = run_at told n next.happened

  -- an earlier call of the caller to the actor ran
  earlier_call_ran : (m : ℕ) → m < n → SameWay told m n → IsIn before (Ran m)
  earlier_call_ran m less way =
      let p = place.0 in let run = place.1 in let is = place.2 in
      let there = (turn p run is.at).in_turn m (subst (λ k. m < k) (sym is.call) less) (subst (λ k. SameWay told m k) (sym is.call) way) in
      let early = ran_earlier told p m there in
      let one : (call_of told m).actor ≡ early.1.actor = ap (λ k. (call_of told k).actor) (sym early.3.call) ∙ (turn early.0 early.1 early.3.at).here in
      let two : (call_of told n).actor ≡ run.actor = ap (λ k. (call_of told k).actor) (sym is.call) ∙ (turn p run is.at).here in
      let has = earlier_ran before p fits good.closed early.3.at is.at early.2 (sym one ∙ way.1 ∙ two)
      (λ cause e. next.causes cause (subst (λ k. IsCause told cause (Ran k)) is.call e)) in
      subst (λ k. IsIn before (Ran k)) early.3.call has

  pub number_is : (h : History) → Shape told before h → IsIn before (Submitted n) → ran_count c a h ≡ number_of a (future_of told n) (calls_of c h)
  number_is h shape has =
      let k = future_of told n in let calls = calls_of c h in let number = number_of a k calls in let lt = good.happened (Submitted n) has in
      let stands = call_stands h n good shape has in
      let at : slice_get (futures_to a calls) number ≡ Some k =
      slice_get-map (λ (call : ℕ × Submission). call.0) (calls_to a calls) number
      ∙ ap (option_map (λ (call : ℕ × Submission). call.0)) (calls_to-number a calls k stands (eq-eqb a a refl)) in
      sym (length-map (items_of c (runs_of a h)) (λ (i : RunItem). i.future))
      ∙ front_ends (futures_ran c a h) (futures_to a calls) number k (futures_differ a calls) (ran_front h c a shape) at
      (λ h_ran. next.fresh (has_ran told before h n good shape lt h_ran)) (λ j y less at_y. let low = lower a k j y calls less at_y in let m =
      sub_call told before h c y good shape low.at in let earlier = call_before told n y m.0 lt low.less m.1 in let actor : (call_of told m.0).actor ≡ a =
      ap (λ (s : Submission). s.actor) m.2 ∙ low.actor in let ran = earlier_call_ran m.0 earlier.0 (earlier.1, actor) in let m_lt =
      good.happened (Submitted m.0) (ran_submitted m.0 good ran) in let future : future_of told m.0 ≡ y = calls_differ told c (future_of told m.0) y m.0
      (subst (λ d. slice_get (calls_by told d) (future_of told m.0) ≡ Some m.0) earlier.1 (call_at told m.0 m_lt)) m.1 in
      subst (λ q. IsIn (futures_ran c a h) q) future (subst (λ b. IsIn (futures_ran c b h) (future_of told m.0)) actor
      (subst (λ d. IsIn (futures_ran d (call_of told m.0).actor h) (future_of told m.0)) earlier.1 (ran_has told before h m.0 shape ran))))
