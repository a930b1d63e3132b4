-- Run lists that are left are in turn, and how a call stands goes with its actor.
use Rattle.act_order_plays.proofs.Common.{◌≡◌, ℕ, zero, suc, ◌<◌, ◌==◌, Bool, true, false, cond, List, [], ◌∷◌, length, filter, take, Some, slice_get, refl}
use Rattle.act_order_plays.proofs.Common.{sym, ap, subst, ◌∙◌, arith, option_map, Contains, eqb-true, eq-eqb, slice_get-map, slice_get_within, Arg, RunItem}
use Rattle.act_order_plays.proofs.Common.{Submission, items_of, calls_to, number_of, History, calls_of, runs_of, cast_of, names, is_dead, is_retired, element}
use Rattle.act_order_plays.proofs.Common.{slice_get_front, IsPrefix-filter, calls_to-number, filter-slice_get, IsSound, deaths_are, Retires, ran_all, End, Dead}
use Rattle.act_order_plays.proofs.Common.{Retired, Run, Told, call_of, actor_of, calls_run, SameCaller, SameWay, RunsInTurn, EndsRight, IsWhole, casts_of}
use Rattle.act_order_plays.proofs.Common.{IsKeptFor, EndsAs, LeavesTold, kept_for, runs_by, future_of, get_taken, map-slice_get, rank_in, same_place, held_call}
use Rattle.act_order_plays.proofs.Common.{one_place, named_call, contains_from_in, contains_is}
use Rattle.act_orders.specs.declared.told.Outcome.TheVariants as out
use Rattle.act_order_plays.proofs.Lists.{below, below_at}
use Rattle.act_order_plays.proofs.Fronts.{is_by, is_run_of, IsRunAt, take_front, rank, run_ranks, run_before, ran_earlier, runs_earlier}
use Rattle.act_order_plays.proofs.Casts.{cast_of_is}
use Rattle.act_order_plays.proofs.Numbering.{futures_to, futures_ran, futures_differ, front_ran}
use Rattle.act_order_plays.proofs.Left.{ran_by, run_happened, run_call, stands, call_there, item_at, run_told, item_here}
use Rattle.act_order_plays.proofs.Along.{grows_not}
use Rattle.act_order_plays.proofs.Fitting.{takes_answered}

-- behind an item that passes stands one more that passes
pub rank_less : {A : Type 0} (t : A → Bool) (xs : List A) (q p : ℕ) (x : A) → slice_get xs q ≡ Some x → t x ≡ true → q < p →
    length (filter t (take q xs)) < length (filter t (take p xs))
rank_less t [] q p x at passes less = absurd (cc)
rank_less t (y ∷ xs) q zero x at passes less = absurd (omega arith)
rank_less t (y ∷ xs) zero (suc p) x at passes less = let same : y ≡ x = cc in let there : t y ≡ true = ap t same ∙ passes in rw there (omega arith)
rank_less {A = A} t (y ∷ xs) (suc q) (suc p) x at passes less = go (t y) (rank_less t xs q p x at passes (omega arith))
  where
    go : (b : Bool) → length (filter t (take q xs)) < length (filter t (take p xs)) →
        length (cond b (y ∷ filter t (take q xs)) (filter t (take q xs))) < length (cond b (y ∷ filter t (take p xs)) (filter t (take p xs)))
    go true rest = omega arith
    go false rest = rest

-- a run before a place is among those before it
earlier_run : (told : Told) (i q m : ℕ) (run : Run) → q < i → IsRunAt told m q run → Contains (take i (calls_run told)) m
earlier_run told i q m run lt is = subst (λ k. Contains (take i (calls_run told)) k) is.call (runs_earlier told i q run lt is.at)

-- an earlier call of the caller has a lower future
pub future_less : (told : Told) (m n : ℕ) → m < n → SameCaller told m n → future_of told m < future_of told n
future_less told m n less same =
    let p = is_by told (call_of told n).caller in
    let at = below_at p n m less (eq-eqb (call_of told m).caller (call_of told n).caller same) in
    let short : length (below p m) < length (below p n) = slice_get_within (below p n) (length (below p m)) m at in
    subst (λ c. length (below (is_by told c) m) < length (below p n)) (sym same) short

module _ (told : Told) (last : History) (whole : IsWhole told) (sound : IsSound last) (leaves : LeavesTold told last) where
  -- a run is at the actor of its call
  pub here : (i : ℕ) (run : Run) → slice_get told.runs i ≡ Some run → (call_of told run.call).actor ≡ run.actor
  here i run at =
      let lt = run_call told run.call i run whole (record { at = at; call = refl }) in
      let item = item_at told last whole sound leaves run.actor (rank told run.actor i) run.call (run_ranks told i at) in
      item_here told last whole sound leaves last run.actor (rank told run.actor i) run.call (grows_not last) sound lt item.1 item.2

  -- no call ran twice
  once : (i : ℕ) (run : Run) → slice_get told.runs i ≡ Some run → Contains (take i (calls_run told)) run.call → ⊥
  once i run at has =
      let n = run.call in let a = run.actor in let early = ran_earlier told i n has in
      let actor : early.1.actor ≡ a = sym (here early.0 early.1 early.3.at) ∙ ap (λ k. (call_of told k).actor) early.3.call ∙ here i run at in
      let there : slice_get (runs_by told a) (rank told a early.0) ≡ Some n =
      subst (λ b. slice_get (runs_by told b) (rank told b early.0) ≡ Some n) actor
      (run_ranks told early.0 early.3.at ∙ ap (λ k. Some k) early.3.call) in
      let first = item_at told last whole sound leaves a (rank told a early.0) n there in
      let second = item_at told last whole sound leaves a (rank told a i) n (run_ranks told i at) in
      let ranks = (one_place last a (rank told a i) a (rank told a early.0) sound.order
      second.1 second.2.caller second.2.future first.1 first.2.caller first.2.future).1 in
      let same : early.0 ≡ i = same_place (is_run_of a) told.runs early.0 i early.3.at (eq-eqb early.1.actor a actor) at
      (eq-eqb run.actor a refl) ranks in
      let less = early.2 in omega arith

  -- the future of a call stands by its number among those to its actor
  pub to_at : (n a : ℕ) → n < length told.calls → (call_of told n).actor ≡ a → slice_get (futures_to a (calls_of (call_of told n).caller last))
      (number_of a (future_of told n) (calls_of (call_of told n).caller last)) ≡ Some (future_of told n)
  to_at n a lt actor =
      let calls = calls_of (call_of told n).caller last in let k = future_of told n in let one = stands told last whole sound leaves n lt in
      let to : one.0.actor ≡ a = ap (λ (p : ℕ × List Arg). p.0) one.2 ∙ actor in
      slice_get-map (λ (call : ℕ × Submission). call.0) (calls_to a calls) (number_of a k calls)
      ∙ ap (option_map (λ (call : ℕ × Submission). call.0)) (calls_to-number a calls k one.1 (eq-eqb one.0.actor a to))

  -- an earlier call of the caller to the actor ran before
  in_turn : (i : ℕ) (run : Run) → slice_get told.runs i ≡ Some run → (m : ℕ) → m < run.call → SameWay told m run.call → Contains (take i (calls_run told)) m
  in_turn i run at m less way =
      let n = run.call in let a = run.actor in let c = (call_of told n).caller in let calls = calls_of c last in let items = runs_of a last in
      let lt = run_call told n i run whole (record { at = at; call = refl }) in
      let m_lt : m < length told.calls = omega arith in let p = rank told a i in
      let item = item_at told last whole sound leaves a p n (run_ranks told i at) in
      let held = held_call last a p sound.order item.1 item.2.caller item.2.future in
      let actor = here i run at in
      let place : rank_in c p items ≡ number_of a (future_of told n) calls =
      futures_differ a calls (rank_in c p items) (number_of a (future_of told n) calls) (future_of told n) held (to_at n a lt actor) in
      let number = number_of a (future_of told m) calls in
      let m_at : slice_get (futures_to a calls) number ≡ Some (future_of told m) =
      subst (λ d. slice_get (futures_to a (calls_of d last)) (number_of a (future_of told m) (calls_of d last)) ≡ Some (future_of told m)) way.0
      (to_at m a m_lt (way.1 ∙ actor)) in
      let one = stands told last whole sound leaves m m_lt in
      let stands_m : slice_get calls (future_of told m) ≡ Some one.0 =
      subst (λ d. slice_get (calls_of d last) (future_of told m) ≡ Some one.0) way.0 one.1 in
      let to : one.0.actor ≡ a = ap (λ (q : ℕ × List Arg). q.0) one.2 ∙ way.1 ∙ actor in
      let lower : number < number_of a (future_of told n) calls =
      rank_less (λ (call : Submission). call.actor == a) calls (future_of told m) (future_of told n) one.0 stands_m (eq-eqb one.0.actor a to)
      (future_less told m n less way.0) in
      let short : number < rank_in c p items = omega arith in let t : RunItem → Bool = λ i. i.caller == c in
      let two = element (filter t (take p items)) number short in let found = filter-slice_get t (take p items) number two.1 in
      let early = get_taken p items found.place found.at in
      let there : slice_get (items_of c items) number ≡ Some two.0 =
      slice_get_front (filter t (take p items)) (filter t items) number (IsPrefix-filter t (take p items) items (take_front p items)) two.1 in
      let ran : slice_get (futures_ran c a last) number ≡ Some two.0.future =
      slice_get-map (λ (i : RunItem). i.future) (items_of c items) number ∙ ap (option_map (λ (i : RunItem). i.future)) there in
      let among = slice_get_front (futures_ran c a last) (futures_to a calls) number (front_ran last c a sound.order) ran in
      let both : Some two.0.future ≡ Some (future_of told m) = sym among ∙ m_at in
      let future : two.0.future ≡ future_of told m = cc in
      let run_m = run_told told last whole sound leaves a found.place m two.0 m_lt early.1
      (record { caller = eqb-true two.0.caller c found.passes ∙ sym way.0; future = future }) in
      let before = run_before told a i found.place m early.0 run_m in earlier_run told i before.0 m before.1 before.2 before.4

  pub runs_in_turn : RunsInTurn told
  runs_in_turn i run at = record { here = here i run at; once = once i run at; in_turn = in_turn i run at }

  -- ---- ends

  module _ (casts : last.casts ≡ casts_of told) (retires : Retires last) where
    role : (n : ℕ) → n < length told.calls → Contains (actor_of told (call_of told n).actor).callers (call_of told n).caller
    role n lt =
        let c = (call_of told n).caller in let a = (call_of told n).actor in let one = stands told last whole sound leaves n lt in
        let named : names c (cast_of a last) ≡ true =
        subst (λ x. names c (cast_of x last) ≡ true) (ap (λ (q : ℕ × List Arg). q.0) one.2)
        (named_call last c (future_of told n) retires.named one.1) in
        let told_so = subst (λ o. names c o ≡ true) (cast_of_is told last casts (whole.actors n lt)) named in
        contains_from_in (contains_is c (actor_of told a).callers told_so)

    is_dead_end : (end : End) {dead : Bool} (retired : Bool) → EndsAs end dead retired → dead ≡ true → end ≡ Dead
    is_dead_end Dead retired ends is = refl
    is_dead_end end retired ends is = let bad : true ≡ false = sym is ∙ ends.0 in absurd (cc)

    -- the call of a death went to a dead actor
    died : (n : ℕ) → n < length told.calls → (call_of told n).outcome ≡ out.Died → (actor_of told (call_of told n).actor).end ≡ Dead
    died n lt outcome =
        let a = (call_of told n).actor in
        let kept = subst (λ o. IsKeptFor o (kept_for told n last)) outcome (leaves.answers n lt) in
        let death = deaths_are (call_of told n).caller (future_of told n) sound kept in
        let key = call_there told last whole sound leaves n (grows_not last) lt death.at in
        let dead : is_dead a last ≡ true = subst (λ b. is_dead b last ≡ true) (ap (λ (q : ℕ × List Arg). q.0) key) death.dead in
        is_dead_end (actor_of told a).end (is_retired a last) (leaves.ends a (whole.actors n lt)) dead

    retired_ran : (n : ℕ) → n < length told.calls → (actor_of told (call_of told n).actor).end ≡ Retired → Contains (calls_run told) n
    retired_ran n lt end =
        let a = (call_of told n).actor in let c = (call_of told n).caller in
        let ended = subst (λ e. EndsAs e (is_dead a last) (is_retired a last)) end (leaves.ends a (whole.actors n lt)) in
        let all : futures_ran c a last ≡ futures_to a (calls_of c last) = ran_all a c sound retires ended.1 in
        let number = number_of a (future_of told n) (calls_of c last) in
        let at : slice_get (futures_ran c a last) number ≡ Some (future_of told n) =
        ap (λ l. slice_get l number) all ∙ to_at n a lt refl in
        let one = map-slice_get (λ (i : RunItem). i.future) (items_of c (runs_of a last)) number at in
        let place = filter-slice_get (λ (i : RunItem). i.caller == c) (runs_of a last) number one.1 in
        let there = run_told told last whole sound leaves a place.place n one.0 lt place.at
        (record { caller = eqb-true one.0.caller c place.passes; future = one.2 }) in
        let run = ran_by told a place.place n there in run_happened told n run.0 run.3

    pub ends_right : (n : ℕ) → n < length told.calls → EndsRight told n
    ends_right n lt = record {
      role = role n lt;
      died = died n lt;
      retired = retired_ran n lt;
      taken = λ answered m takes. takes_answered told last whole sound leaves n m lt answered takes;
    }
