use Rattle.act_explore.proofs.Common.{subst, left_of, HasPut}
use Rattle.act_explore.proofs.Putting.{added_none, added_more}
use Rattle.act_explore.proofs.search.Search.add_all.Goals as goal

pub loop-choice-init : goal.loop-choice-init
loop-choice-init c = added_none c.args.path.now (left_of c.args.self.now)

pub loop-choice-preserved : goal.loop-choice-preserved
loop-choice-preserved c =
    let mid = left_of c.loop-choice.self in let new = left_of c.put.new.self in
    added_more c.args.choices.now mid new c.loop-choice-test.true c.choice-item.is
    c.loop-choice.invariant (subst (λ l. HasPut l mid new) c.in_ok-after.ensures c.in_ok-put.ensures)
