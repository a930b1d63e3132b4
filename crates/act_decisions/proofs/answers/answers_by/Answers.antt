use Rattle.act_decisions.proofs.Answering.{one_answer}
use Rattle.act_decisions.proofs.answers.answers_by.Goals as goal

pub loop-run-preserved : goal.loop-run-preserved
loop-run-preserved g c =
    one_answer c.loop-run-test.true c.run-item.is c.loop-run.invariant
    c.in_ok-answer_to.ensures.answer c.in_ok-answer_to.ensures.moved c.in_ok-push.ensures.items
