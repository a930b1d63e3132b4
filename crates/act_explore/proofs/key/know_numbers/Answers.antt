use Rattle.act_explore.proofs.Common.{subst, take_all, All-more, HasNumber}
use Rattle.act_explore.proofs.key.know_numbers.Goals as goal

pub loop-choice-preserved : goal.loop-choice-preserved
loop-choice-preserved c =
    All-more HasNumber c.args.path.now c.loop-choice.choice-index c.choice-item.result c.loop-choice-test.true c.loop-choice.invariant
    (subst HasNumber c.choice-item.is c.know_number.ensures)

pub returns : goal.returns
returns c = rw (take_all c.loop-choice.choice-index c.args.path.now c.loop-choice-test.false) at c.loop-choice.invariant
