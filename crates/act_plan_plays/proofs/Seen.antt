-- What a caller and the world show, and what the history says of it.
use Rattle.act_plan_plays.proofs.Common.{◌≡◌, ℕ, Bool, true, false, [], Option, Some, None, refl, ap, sym, ◌∙◌, ◌==◌, ◌&&◌, not, nat_lt, slice_get, is_some}
use Rattle.act_plan_plays.proofs.Common.{is_none, option_map, option_map_or, list_any, and_parts, and_from, Step, Submit, Copy, Release, Kill, Await, NoActor}
use Rattle.act_plan_plays.proofs.Common.{NoHandle, TooManyCopies, SubmitRefusal, needs, copies_held, handle_refusal, copy_refusal, kept_at, History, names}
use Rattle.act_plan_plays.proofs.Common.{cast_of, is_caller, copies_of, is_dead, option_map-none, needs-none, copies_named, not_so, copies_in, OwnerView}
use Rattle.act_plan_plays.proofs.Common.{refusal_to_submit, SlotView, Runs, Died, Ended, Vacant, WorldView, stage_of_slot, is_dead_slot, Refines, IsOwnerOf}
use Rattle.act_plan_plays.proofs.Common.{IsStage, IsHere, submission_refused, MayTake, not_dead, held, may_take, shows_dead, is_left_out, NoCaller, Handle}
use Rattle.act_plan_plays.proofs.Common.{SubmitRefused}

-- ---- whether an actor is dead

dead_slot : (h : History) (a : ℕ) (o : Option SlotView) → IsStage h a o → option_map_or is_dead_slot (stage_of_slot o) false ≡ true → is_dead a h ≡ true
dead_slot h a None is e = cc
dead_slot h a (Some (Died dead)) is e = is.died
dead_slot h a (Some view) is e = cc

pub dead_shown : (h : History) (world : WorldView) (a : ℕ) → Refines h world → shows_dead world a ≡ true → is_dead a h ≡ true
dead_shown h world a refines e = dead_slot h a (slice_get world.slots a) (refines.actors a) e

no_cast : (h : History) (a : ℕ) → cast_of a h ≡ None → is_some (cast_of a h) ≡ true → is_dead a h ≡ false
no_cast h a none some = let bad : true ≡ false = sym some ∙ ap (λ o. is_some o) none in cc

live_slot : (h : History) (a : ℕ) (o : Option SlotView) → IsStage h a o → h.retired ≡ [] → is_some (cast_of a h) ≡ true →
    option_map_or is_dead_slot (stage_of_slot o) false ≡ false → is_dead a h ≡ false
live_slot h a None is none some e = no_cast h a is some
live_slot h a (Some Vacant) is none some e = no_cast h a is some
live_slot h a (Some (Runs live)) is none some e = not_dead a h is.runs
live_slot h a (Some (Died dead)) is none some e = cc
live_slot h a (Some (Ended retired)) is none some e = let bad : true ≡ false = sym is.ended ∙ ap (λ l. list_any (λ m. m == a) l) none in cc

pub live_shown : (h : History) {world : WorldView} (a : ℕ) → Refines h world → h.retired ≡ [] → is_some (cast_of a h) ≡ true → shows_dead world a ≡ false
    → is_dead a h ≡ false
live_shown h {world} a refines none some e = live_slot h a (slice_get world.slots a) (refines.actors a) none some e

-- ---- a step that is left out

pub left_out : (h : History) {world : WorldView} (c : ℕ) {owner : OwnerView} (step : Step) → Refines h world → IsOwnerOf h c owner →
    is_left_out world owner step ≡ true → (a : ℕ) × (step ≡ Kill a) × (names c (cast_of a h) ≡ true) × (is_dead a h ≡ true)
left_out h {world} c {owner} (Kill a) refines is e =
    let parts = and_parts (shows_dead world a) (is_some (copies_in a owner.handles)) e in
    (a, refl, copies_named c a h (ap (λ o. is_some o) (sym (is.copies a)) ∙ parts.1), dead_shown h world a refines parts.0)
left_out h c step refines is e = cc

-- ---- a step that is refused

submit_refuses : (o : Option SubmitRefusal) → is_none o ≡ false → option_map SubmitRefused o ≡ None → ⊥
submit_refuses None e f = cc
submit_refuses (Some refusal) e f = cc

-- what the handles need
copy_needs : (copies : Option ℕ) → copy_refusal copies ≡ None → (nat_lt 0 (copies_held copies) && nat_lt (copies_held copies) 65535) ≡ true
copy_needs copies e =
    let first = needs-none (is_some copies) NoActor
    (needs (nat_lt 0 (copies_held copies)) NoHandle (needs (nat_lt (copies_held copies) 65535) TooManyCopies None)) e in
    let second = needs-none (nat_lt 0 (copies_held copies)) NoHandle (needs (nat_lt (copies_held copies) 65535) TooManyCopies None) first.1 in
    and_from (nat_lt 0 (copies_held copies)) (nat_lt (copies_held copies) 65535) second.0
    (needs-none (nat_lt (copies_held copies) 65535) TooManyCopies None second.1).0

handle_needs : (copies : Option ℕ) → handle_refusal copies ≡ None → nat_lt 0 (copies_held copies) ≡ true
handle_needs copies e =
    let first = needs-none (is_some copies) NoActor (needs (nat_lt 0 (copies_held copies)) NoHandle None) e in
    (needs-none (nat_lt 0 (copies_held copies)) NoHandle None first.1).0

let_go : (h : History) (c a : ℕ) (owner : OwnerView) → IsHere h c owner →
    needs (is_caller c h) NoCaller (option_map Handle (handle_refusal (copies_of c a h))) ≡ None → nat_lt 0 (held owner a) ≡ true
let_go h c a owner here may =
    let free = option_map-none Handle (handle_refusal (copies_of c a h))
    (needs-none (is_caller c h) NoCaller (option_map Handle (handle_refusal (copies_of c a h))) may).1 in
    ap (λ o. nat_lt 0 (copies_held o)) (here.is.copies a) ∙ handle_needs (copies_of c a h) free

pub refuses : (h : History) (c : ℕ) (owner : OwnerView) (step : Step) → IsHere h c owner → may_take owner step ≡ false → MayTake c step h → ⊥
refuses h c owner (Submit a method args) here refused may =
    submit_refuses (refusal_to_submit owner a args) refused
    (sym (submission_refused h c a method args {refusal = refusal_to_submit owner a args} here refl) ∙ may)
refuses h c owner (Copy a) here refused may =
    let free = option_map-none Handle (copy_refusal (copies_of c a h))
    (needs-none (is_caller c h) NoCaller (option_map Handle (copy_refusal (copies_of c a h))) may).1 in
    not_so
    (ap (λ o. nat_lt 0 (copies_held o) && nat_lt (copies_held o) 65535) (here.is.copies a) ∙ copy_needs (copies_of c a h) free) refused
refuses h c owner (Release a) here refused may = not_so (let_go h c a owner here may) refused
refuses h c owner (Kill a) here refused may = not_so (let_go h c a owner here may) refused
refuses h c owner (Await k) here refused may = not_so (ap (λ kept. is_some (kept_at kept k)) here.is.kept ∙ may) refused

pub none_not : {X : Type 0} (o : Option X) (b : Bool) → is_some o ≡ not b → b ≡ is_none o
none_not None true e = refl
none_not None false e = cc
none_not (Some x) true e = cc
none_not (Some x) false e = refl
