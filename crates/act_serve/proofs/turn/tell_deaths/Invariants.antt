use Rattle.act_serve.proofs.Common.{◌≡◌, ◌++◌, map, take, drop, with_death_given}
use Rattle.act_serve.proofs.turn.tell_deaths.Given as goal

abbrev pub invariant-loop-endpoint : goal.invariant-loop-endpoint
invariant-loop-endpoint g l = l.endpoint-items ≡ map (with_death_given l.dead.id l.dead.log g.S.Stamped.stamp)
    (take l.endpoint-index l.initial.endpoint-items) ++ drop l.endpoint-index l.initial.endpoint-items
