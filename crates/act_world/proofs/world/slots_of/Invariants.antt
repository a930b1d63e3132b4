use Rattle.act_world.proofs.Common.{◌≡◌, length, map, AllByRecursion, into_iter_items, into_iter_len, opening, slot_view, actor_spec}
use Rattle.act_world.proofs.OpenedSlots.{IsToOpen, AreOpened}
use Rattle.act_world.proofs.world.slots_of.Given as goal

-- each actor of the casts so far is in its slot, and the other casts are still to be opened
abbrev pub invariant-loop-cast : goal.invariant-loop-cast
invariant-loop-cast g l =
    let state = g.K.Actor.state in let h = opening (map (actor_spec state) l.fn.casts.items) in
    (into_iter_len l.cast-iterator ≡ length (into_iter_items l.cast-iterator))
    × AllByRecursion (IsToOpen state h) (into_iter_items l.cast-iterator)
    × AreOpened state h (into_iter_items l.cast-iterator) (map (slot_view state) l.slots)
