-- Each choice that may be made stands among those that are found.
use Rattle.act_plan_plays.proofs.Common.{◌≡◌, ℕ, Bool, true, false, cond, List, [], ◌∷◌, Option, Some, None, All, refl, ap, sym, ◌∙◌, Contains, ◌==◌, ◌||◌}
use Rattle.act_plan_plays.proofs.Common.{find, filter, slice_get, is_some, option_map, map, option_map_or, list_any, Packet, Step, ActorSpec, History, contains}
use Rattle.act_plan_plays.proofs.Common.{names, cast_of, actors_naming, is_ended, is_dead, is_retired, next_item, refusal_of, run_needs, item_of, CallerSetup}
use Rattle.act_plan_plays.proofs.Common.{SlotView, Runs, Died, Ended, Vacant, WorldView, stage_of_slot, is_live_slot, has_next_in_slot, Refines, IsStage}
use Rattle.act_plan_plays.proofs.Common.{next_is, item_is, At, world, take_needs, or_right, Choice, Run, Parts, Stands, HoldPlans, shows_live, shows_next}
use Rattle.act_plan_plays.proofs.Common.{AllRuns, or_left, some_cast}
use Rattle.act_rules.specs.declared.event.Event.TheVariants as event
use Rattle.act_plan_plays.proofs.Done.{named_listed}
use Rattle.act_plan_plays.proofs.Quiet.{part_of}

-- ---- what the world shows

same_some : (o : Option Packet) → is_some (option_map item_of o) ≡ is_some o
same_some None = refl
same_some (Some packet) = refl

no_cast : (h : History) (a : ℕ) (P : Type 0) → cast_of a h ≡ None → is_some (cast_of a h) ≡ true → P
no_cast h a P none some = let bad : true ≡ false = sym some ∙ ap (λ o. is_some o) none in cc

ended_by : (h : History) (a : ℕ) (P : Type 0) → is_ended a h ≡ true → is_ended a h ≡ false → P
ended_by h a P ended live = let bad : true ≡ false = sym ended ∙ live in cc

live_slot : (h : History) (a : ℕ) (o : Option SlotView) → IsStage h a o → is_some (cast_of a h) ≡ true → is_ended a h ≡ false
    → option_map_or is_live_slot (stage_of_slot o) false ≡ true
live_slot h a None is some live = no_cast h a _ is some
live_slot h a (Some Vacant) is some live = no_cast h a _ is some
live_slot h a (Some (Runs one)) is some live = refl
live_slot h a (Some (Died dead)) is some live = ended_by h a _ (or_left (is_dead a h) (is_retired a h) is.died) live
live_slot h a (Some (Ended retired)) is some live = ended_by h a _ (or_right (is_dead a h) _ is.ended) live

-- an actor that has not ended shows its next call
pub next_slot : (h : History) (a c : ℕ) (o : Option SlotView) → IsStage h a o → names c (cast_of a h) ≡ true → is_ended a h ≡ false →
    is_some (next_item a c h) ≡ true → option_map_or (has_next_in_slot c) (stage_of_slot o) false ≡ true
next_slot h a c None is named live next = no_cast h a _ is (some_cast c (cast_of a h) named)
next_slot h a c (Some Vacant) is named live next = no_cast h a _ is (some_cast c (cast_of a h) named)
next_slot h a c (Some (Runs one)) is named live next =
    ap (λ o. is_some o) (next_is h a c is named) ∙ sym (same_some _) ∙ sym (ap (λ o. is_some o) (item_is h a c)) ∙ next
next_slot h a c (Some (Died dead)) is named live next = ended_by h a _ (or_left (is_dead a h) (is_retired a h) is.died) live
next_slot h a c (Some (Ended retired)) is named live next = ended_by h a _ (or_right (is_dead a h) _ is.ended) live

-- ---- the choices

-- the runs
pub runs_found : (casts : List ActorSpec) (plans : ℕ → List Step) (at : At) {parts : Parts} (choices : List Choice) → Stands casts plans at parts →
    Refines at.history parts.world → AllRuns casts parts.world choices → (a c : ℕ) → refusal_of at.history (event.Run a c) ≡ None →
    is_some (next_item a c at.history) ≡ true → Contains choices (Run a c)
runs_found casts plans at {parts} choices stands refines all a c may next =
    let h = at.history in let needed = run_needs h a c may in let same : h.casts ≡ casts = (world casts plans at stands.play).casts in
    all a c (named_listed c a casts (ap (λ l. names c (find (λ (cast : ActorSpec). cast.actor == a) l)) (sym same) ∙ needed.1))
    (next_slot h a c (slice_get parts.world.slots a) (refines.actors a) needed.1 needed.2 next)

pub kill_shown : {casts : List ActorSpec} {plans : ℕ → List Step} (at : At) {parts : Parts} (a : ℕ) → Stands casts plans at parts →
    Refines at.history parts.world → refusal_of at.history (event.TakeKill a) ≡ None → (contains a parts.asked ≡ true) × (shows_live parts.world a ≡ true)
kill_shown at {parts} a stands refines may =
    let h = at.history in let needed = take_needs h a may in
    (stands.asked a ∙ needed.2, live_slot h a (slice_get parts.world.slots a) (refines.actors a) needed.0 needed.1)

-- who is named by an actor's cast is a caller
caller_named : (a c : ℕ) (casts : List ActorSpec) → contains a (actors_naming c casts) ≡ true
    → list_any (λ (cast : ActorSpec). contains c cast.callers) casts ≡ true
caller_named a c [] e = cc
caller_named a c (cast ∷ casts) e = go (contains c cast.callers) (caller_named a c casts) e
  where
    go : (b : Bool) → (contains a (actors_naming c casts) ≡ true → list_any (λ (cast : ActorSpec). contains c cast.callers) casts ≡ true) →
        contains a (map (λ (one : ActorSpec). one.actor) (cond b (cast ∷ filter (λ (one : ActorSpec). contains c one.callers) casts)
        (filter (λ (one : ActorSpec). contains c one.callers) casts))) ≡ true → (b || list_any (λ (cast : ActorSpec). contains c cast.callers) casts) ≡ true
    go true rest e = refl
    go false rest e = rest e

-- the runs of all parts
pub all_runs : (casts : List ActorSpec) {plans : ℕ → List Step} (seen : WorldView) {setups : List CallerSetup} (choices : List Choice) →
    HoldPlans casts plans setups → All (λ (setup : CallerSetup). (a : ℕ) → contains a setup.actors.items ≡ true → shows_next seen a setup.caller ≡ true →
    Contains choices (Run a setup.caller)) setups → AllRuns casts seen choices
all_runs casts seen {setups} choices hold all a c named next =
    part_of (λ c. contains a (actors_naming c casts) ≡ true → shows_next seen a c ≡ true → Contains choices (Run a c)) setups c
    (λ k d below named next. all k d below a (ap (contains a) (hold.parts k d below).actors ∙ named) next)
    (hold.named c (caller_named a c casts named)) named next
