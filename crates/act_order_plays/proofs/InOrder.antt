-- What a play leaves is in order.
use Rattle.act_order_plays.proofs.Common.{◌≡◌, ℕ, ◌<◌, ◌≤◌, inl, inr, true, false, List, [], ◌∷◌, ◌++◌, length, take, nat_lt, Some, slice_get, refl, sym, subst}
use Rattle.act_order_plays.proofs.Common.{◌∙◌, arith, append_assoc, Contains, ltb-true, Event, ActorSpec, History, opening, calls_of, after, history, IsSound}
use Rattle.act_order_plays.proofs.Common.{world_sound, world_retires, Happening, Submitted, Ran, Answered, Told, call_of, Happened, IsCause, IsOrder, IsInOrder}
use Rattle.act_order_plays.proofs.Common.{IsWhole, casts_of, future_of, IsPlayOf, history_more, le-ltb, stands_in, contains_from_in, in_from_contains}
use Rattle.act_order_plays.proofs.Fronts.{run_at}
use Rattle.act_order_plays.proofs.Left.{run_happened, run_call}
use Rattle.act_order_plays.proofs.Turns.{runs_in_turn, ends_right}
use Rattle.act_order_plays.proofs.Along.{Within, within_at, within_all, parted, calls_along}
use Rattle.act_order_plays.proofs.Orders.{Lasts, order_from, order_has, order_only, order_fresh, order_after, last_of, not_both}
use Rattle.act_order_plays.proofs.Happenings.{Seen, has_call, has_answer, has_in, states, every, every_once, every_has, every_happened, answer_lasts, all_lasts}
use Rattle.act_order_plays.proofs.Happenings.{last_is, IsCausedAt, all_before}
use Rattle.act_order_plays.proofs.Leading.{at_the_end, ran_before, submitted_caused, ran_caused, answered_caused}

module _ (told : Told) (events : List Event) (whole : IsWhole told) (play : IsPlayOf told events) where
  abbrev casts : List ActorSpec
  casts = casts_of told

  abbrev last : History
  last = history (casts_of told) events

  sound : IsSound last
  sound = world_sound casts events

  -- ---- causes happen

  cause_happened : (y x : Happening) → IsCause told y x → Happened told x → Happened told y
  cause_happened (Submitted m) (Submitted n) cause lt = let next = cause.0 in omega arith
  cause_happened (Answered m) (Submitted n) cause lt = let less = ((whole.waits n lt).each m cause).before in (omega arith, (play.waits n m lt cause).is_told)
  cause_happened (Submitted m) (Ran n) cause ran =
      let run = run_at told n ran in subst (λ k. k < length told.calls) (sym cause) (run_call told n run.0 run.1 whole run.2)
  cause_happened (Ran m) (Ran n) cause ran = run_happened told m cause.0 (record { at = cause.2; call = refl })
  cause_happened (Answered m) (Ran n) cause ran =
      let run = run_at told n ran in let lt = run_call told n run.0 run.1 whole run.2 in let less = ((whole.takes n lt).each m cause).before in
      (omega arith, play.taken n m ran cause)
  cause_happened (Submitted m) (Answered n) cause answered = subst (λ k. k < length told.calls) (sym cause) answered.0
  cause_happened (Ran m) (Answered n) cause answered = ran_before told last whole sound play.leaves n m (within_all [] sound) answered.0 answered.1 cause
  cause_happened more other cause lt = absurd cause

  -- ---- and they come before

  -- the answers for which a caller waited are kept before it submits the call
  waited_caused : (m n : ℕ) → n < length told.calls → Contains (call_of told n).waits m → IsCausedAt told (Answered m) (Submitted n) casts events
  waited_caused m n lt waits first event later joined =
      let h = history casts first in let g = after (history casts first) event in
      let acts : has_call told h n ≡ false → has_call told g n ≡ true → has_answer told h m ≡ true =
      λ f t. let w = play.waits n m lt waits in
      elim (parted first event later w.first w.later (joined ∙ sym w.joined)) [
        | inl p ↦ answer_lasts told h m (within_at casts w.first p.0 p.1) w.kept
        | inr p ↦
            let c = (call_of told n).caller in
            let way : Within (history casts (first ++ event ∷ [])) (history casts w.first) = within_at casts (first ++ event ∷ []) p.0 p.1 in
            let long : length (calls_of c g) ≤ length (calls_of c (history casts w.first)) =
            subst (λ k. length (calls_of c k) ≤ length (calls_of c (history casts w.first))) (history_more casts first event)
            (calls_along c way.grows) in
            let short = w.not_yet in let there = ltb-true (future_of told n) (length (calls_of c g)) t in absurd (omega arith)
      ] in
      record { acts = acts; answers = λ f t. not_both f t }

  caused : (y x : Happening) → IsCause told y x → Happened told x → IsCausedAt told y x casts events
  caused (Submitted m) (Submitted n) cause lt first event later joined =
      submitted_caused told last whole sound play.leaves (history casts first) event m n cause
  caused (Ran m) (Submitted n) cause lt first event later joined = absurd cause
  caused (Answered m) (Submitted n) cause lt first event later joined = waited_caused m n lt cause first event later joined
  caused y (Ran n) cause ran first event later joined =
      let run = run_at told n ran in let lt = run_call told n run.0 run.1 whole run.2 in
      let then : Within (after (history casts first) event) last =
      subst (λ g. Within g last) (history_more casts first event)
      (within_at casts (first ++ event ∷ []) later (append_assoc first (event ∷ []) later ∙ joined)) in
      ran_caused told last whole sound play.leaves (history casts first) event y n (within_at casts first (event ∷ later) joined) then lt
      (λ m takes. ((whole.takes n lt).each m takes).caller) cause
  caused y (Answered n) cause answered first event later joined =
      let then : Within (after (history casts first) event) last =
      subst (λ g. Within g last) (history_more casts first event)
      (within_at casts (first ++ event ∷ []) later (append_assoc first (event ∷ []) later ∙ joined)) in
      answered_caused told last whole sound play.leaves (history casts first) (after (history casts first) event) y n then answered.0 answered.1 cause

  -- ---- the order

  abbrev start : Seen
  start = (opening casts, opening casts)

  abbrev all : List Seen
  all = states (opening casts) events

  abbrev order : List Happening
  order = order_from (has_in told) (every told) start all

  none_less : (k : ℕ) → nat_lt k 0 ≡ false
  none_less k = le-ltb k 0 (omega arith)

  nothing_yet : (x : Happening) → has_in told start x ≡ false
  nothing_yet (Submitted n) = none_less (future_of told n)
  nothing_yet x = refl

  lasts : Lasts (has_in told) (every told) start all
  lasts = all_lasts told (opening casts) events (world_sound casts [])

  in_the_end : (x : Happening) → Happened told x → has_in told (last_of (has_in told) (every told) start all) x ≡ true
  in_the_end x happened =
      subst (λ s. has_in told s x ≡ true) (sym (last_is told (opening casts) events)) (at_the_end told last whole sound play.leaves x happened)

  has_happened : (x : Happening) → Contains order x → Happened told x
  has_happened x has = every_happened told x (order_only (has_in told) (every told) start all x lasts (in_from_contains order x has)).0

  causes_first : (i : ℕ) (x : Happening) → slice_get order i ≡ Some x → (y : Happening) → IsCause told y x → Contains (take i order) y
  causes_first i x at y cause =
      let happened = has_happened x (stands_in order i at) in
      contains_from_in
      (order_after (has_in told) (every told) start all i x y lasts at (all_before told y x casts [] events (caused y x cause happened))
      (every_has told y whole (cause_happened y x cause happened)) (nothing_yet y))

  is_order : IsOrder told order
  is_order = record {
    all = λ x happened. contains_from_in
        (order_has (has_in told) (every told) start all x (every_has told x whole happened) (nothing_yet x) (in_the_end x happened));
    only = has_happened;
    after = λ i x at. record {
      once = λ has. order_fresh (has_in told) (every told) start all i x (every_once told) lasts at (in_from_contains (take i order) x has);
      causes = causes_first i x at;
    };
  }

  -- a whole history is in order where some events are a play of it
  pub in_order : IsInOrder told
  in_order = (
    order,
    record {
      runs = runs_in_turn told last whole sound play.leaves;
      ends = ends_right told last whole sound play.leaves (within_at casts [] events {events = events} refl).grows.casts (world_retires casts events);
      waits = λ k waits. (whole.last_waits k waits, play.last_waits k waits);
      causes = is_order;
    },
  )
