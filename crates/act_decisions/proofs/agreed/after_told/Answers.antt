use Rattle.act_decisions.proofs.Common.{[], ◌∷◌, ◌<◌, length, map, subst, rules, tests, IfSome, End, OfEnd, OfRun, placed, stems_of_actor, end_told, ran_told}
use Rattle.act_decisions.proofs.Common.{AgreeUpTo}
use Rattle.act_decisions.proofs.Agreeing.{actor_more, some_left}
use Rattle.act_decisions.proofs.agreed.after_told.Goals as goal

pub returns : goal.returns
returns c =
    let actor = c.args.actor.now in let rest = c.args.rest.now in let mid = c.in-Some.left.now in
    let some : 0 < length actor.callers.items = search (rules, tests) in
    let first = subst (λ o. IfSome o (λ left. AgreeUpTo (OfEnd c.args.a actor.is_dead actor.is_retired ∷ []) rest left.now))
    c.in-Some.is c.in_ok-left.ensures in
    let ended : End = record { dead = actor.is_dead; retired = actor.is_retired; runs = map ran_told actor.runs.items } in
    some_left c.in_ok-below.below
    (AgreeUpTo (placed (OfRun c.args.a) 0 (map ran_told c.deref.result.now)) mid)
    (AgreeUpTo (stems_of_actor c.args.a (end_told actor)) rest)
    (λ left more. actor_more c.args.a actor.callers.items ended rest mid left some first
    (subst (λ runs. AgreeUpTo (placed (OfRun c.args.a) 0 (map ran_told runs)) mid left) c.deref.ensures.value more))
    c.in_ok-below.ensures
