use Rattle.std.proofs.Common.{◌≡◌}
use Rattle.act_serve.proofs.turn.give.Given as goal

abbrev pub invariant-loop : goal.invariant-loop
invariant-loop g l = (l.pass ≡ l.initial.pass) × (l.notice ≡ l.initial.notice)
