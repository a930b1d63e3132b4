use Rattle.act_told.proofs.Going.{takes_more}
use Rattle.act_told.proofs.calls.takes_of.Goals as goal

pub loop-arg-preserved : goal.loop-arg-preserved
loop-arg-preserved c =
    takes_more c.args.start c.args.args.now
    c.loop-arg-test.true c.arg-item.is c.loop-arg.invariant c.in_ok-push_take.ensures
