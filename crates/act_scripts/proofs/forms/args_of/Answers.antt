use Rattle.act_scripts.proofs.Common.{err_from_is_err_and, arg_at}
use Rattle.act_scripts.proofs.Each.{goes_on, ends, is_done}
use Rattle.act_scripts.proofs.forms.args_of.Goals as goal

pub loop-word-preserved : goal.loop-word-preserved
loop-word-preserved c =
    rw c.in_ok-push.ensures.ok (goes_on arg_at c.loop-word.args c.args.words.now c.loop-word.word-index _ c.in_ok-arg_of.field-0 _ c.loop-word-test.true
    c.in_ok-arg_of.ensures c.loop-word.invariant)

pub returns-in_err-arg_of : goal.returns-in_err-arg_of
returns-in_err-arg_of c =
    let p = err_from_is_err_and c.from_residual-in_err-arg_of.result c.from_residual-in_err-arg_of.ensures.1 in
    rw (p.1, p.2) (ends arg_at c.in_err-arg_of.field-0.0 c.loop-word.args c.args.words.now c.loop-word.word-index _ _ c.loop-word-test.true
    c.in_err-arg_of.ensures c.loop-word.invariant)

pub returns : goal.returns
returns c = is_done arg_at c.loop-word.args c.args.words.now c.loop-word.word-index _ c.loop-word-test.false c.loop-word.invariant
