use Rattle.act_decisions.proofs.Agreeing.{agree_one}
use Rattle.act_decisions.proofs.agreed.after_end.Goals as goal

pub returns-then-branch : goal.returns-then-branch
returns-then-branch c = agree_one c.args.rest.now c.in-Some.left.now c.in-Some.ensures (c.in_ok-agrees_end.ensures c.if-branch.true)
