use Rattle.act_walks.proofs.Common.{◌≡◌, false, GoesOn, parts_of}
use Rattle.act_walks.proofs.acting.act_far.Given as goal

-- the walk went on, or is as it was
abbrev pub invariant-loop : goal.invariant-loop
invariant-loop g l = record {
  goes : GoesOn l.end (parts_of g.K.Actor.state l.fn.walk) (parts_of g.K.Actor.state l.walk);
  same : l.moved ≡ false → parts_of g.K.Actor.state l.walk ≡ parts_of g.K.Actor.state l.fn.walk;
}
