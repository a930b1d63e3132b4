use Rattle.act_console.proofs.Common.{◌≡◌, ◌++◌, length, map, into_iter_items, into_iter_len, actor_spec_of, actor_spec, HasEach}
use Rattle.act_console.proofs.console.casts_of.Given as goal

-- the casts so far with those of the roles that are left, for each of which the stock has a kind
abbrev pub invariant-loop-role : goal.invariant-loop-role
invariant-loop-role g l =
    let state = g.K.Actor.state in let left = into_iter_items l.role-iterator in
    (into_iter_len l.role-iterator ≡ length left)
    × (map (actor_spec state) l.casts.items ++ map actor_spec_of left ≡ map actor_spec_of l.fn.roles)
    × HasEach state (length left) l.stock
