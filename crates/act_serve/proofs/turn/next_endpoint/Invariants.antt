use Rattle.act_serve.specs.Turns.{has_next}
use Rattle.act_serve.proofs.Nexts.{NoneOf}
use Rattle.act_serve.proofs.turn.next_endpoint.Given as goal

-- no endpoint so far has a next call
abbrev pub invariant-loop-at : goal.invariant-loop-at
invariant-loop-at g l = NoneOf (has_next l.replies l.live) l.notices l.at
