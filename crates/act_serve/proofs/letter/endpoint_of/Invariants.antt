use Rattle.act_serve.specs.Turns.{is_endpoint_of}
use Rattle.act_serve.proofs.Nexts.{NoneOf}
use Rattle.act_serve.proofs.letter.endpoint_of.Given as goal

-- no endpoint so far is the caller's
abbrev pub invariant-loop-at : goal.invariant-loop-at
invariant-loop-at l = NoneOf (is_endpoint_of l.replies l.caller) l.notices l.at
