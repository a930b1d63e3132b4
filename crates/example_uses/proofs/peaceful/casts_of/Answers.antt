use Rattle.example_uses.proofs.Common.{[], ◌∷◌, map, ap, cast_for}
use Rattle.example_uses.proofs.Casts.{one_more}
use Rattle.example_uses.proofs.peaceful.casts_of.Goals as goal

pub returns : goal.returns
returns g c =
    let state = g.K.Actor.state in
    let kinds = c.args.kinds in
    let one = cast_for c.args.c 1 (state kinds.counter) in
    let two = cast_for c.args.c 2 (state kinds.table) in
    let three = cast_for c.args.c 3 (state kinds.account) in
    one_more _ _ _ _ (one ∷ two ∷ three ∷ []) (cast_for c.args.c 4 (state kinds.list))
    (one_more _ _ _ _ (one ∷ two ∷ []) three
    (one_more _ _ _ _ (one ∷ []) two
    (one_more _ _ _ _ [] one (ap (map _) c.new-casts.ensures.items) c.in_ok-push.ensures.items c.in_ok-cast_of.ensures)
    c.in_ok-push-2.ensures.items c.in_ok-cast_of-2.ensures)
    c.in_ok-push-3.ensures.items c.in_ok-cast_of-3.ensures)
    c.in_ok-push-4.ensures.items c.in_ok-cast_of-4.ensures
