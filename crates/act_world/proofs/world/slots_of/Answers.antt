use Rattle.act_world.proofs.Common.{rules, ◌≡◌, [], map, ap, sym, subst, ◌∙◌, refl, AllByRecursion, into_iter_items, nil_from_length, opening, CallersDiffer}
use Rattle.act_world.proofs.Common.{live_view, IsOpened, slot_view, actor_spec}
use Rattle.act_world.proofs.OpenedSlots.{IsToOpen, AreOpened, to_open, none_opened, one_more}
use Rattle.act_world.proofs.world.slots_of.Goals as goal

pub open_keeping-requires : goal.open_keeping-requires
open_keeping-requires g c =
    let state = g.K.Actor.state in
    let rest =
    subst (AllByRecursion (IsToOpen state (opening (map (actor_spec state) c.args.casts.items)))) c.in-Some.ensures.steps.0 c.loop-cast.invariant.1 in
    record { distinct = subst (λ callers. CallersDiffer callers) (sym c.as_slice.ensures) rest.0.1 }

pub loop-cast-init : goal.loop-cast-init
loop-cast-init g c =
    let state = g.K.Actor.state in let casts = c.args.casts.items in
    let items : into_iter_items c.into_iter-cast-iterator.result ≡ casts = c.into_iter-cast-iterator.ensures.into_iter_gives.0 in (
      search rules,
      subst (AllByRecursion (IsToOpen state (opening (map (actor_spec state) casts)))) (sym items)
          (to_open state casts c.requires.fit.actors c.requires.fit.callers),
      subst (λ rest. AreOpened state (opening (map (actor_spec state) casts)) rest (map (slot_view state) c.vacant_slots-slots.result)) (sym items)
          (none_opened state casts c.vacant_slots-slots.ensures),
    )

pub loop-cast-preserved : goal.loop-cast-preserved
loop-cast-preserved g c =
    let state = g.K.Actor.state in let casts = c.args.casts.items in let step = c.in-Some.ensures.steps in
    let rest = subst (AllByRecursion (IsToOpen state (opening (map (actor_spec state) casts)))) step.0 c.loop-cast.invariant.1 in
    let live = c.in_ok-live.ensures in (
      search rules,
      rest.1,
      one_more state (map (actor_spec state) casts) c.in-Some.cast (into_iter_items c.next.new.self) (live_view state c.in_ok-live.live) (map (slot_view state)
          c.loop-cast.slots) (map (slot_view state) c.fill_slot.new.slots) (subst (λ rest. AreOpened state (opening (map (actor_spec state) casts)) rest
          (map (slot_view state) c.loop-cast.slots)) step.0 c.loop-cast.invariant.2) rest.0.0 live.id (subst (λ callers. IsOpened callers
          (live_view state c.in_ok-live.live).inbox) c.as_slice.ensures live.inbox) live.log (ap state live.kind) c.fill_slot.ensures,
    )

pub returns : goal.returns
returns g c =
    let none : into_iter_items c.loop-cast.cast-iterator ≡ [] =
    nil_from_length (into_iter_items c.loop-cast.cast-iterator) (sym c.loop-cast.invariant.0 ∙ c.in-None.ensures.steps.0) in
    λ a. c.loop-cast.invariant.2 a (rw none refl)
