use Rattle.act_executor.proofs.Common.{[], get_or, get_or_default, items_of_vec, group_of}
use Rattle.act_executor.proofs.OpenLines.Endpoints.{one_more, next_taken}
use Rattle.act_executor.proofs.open.empty_hands.Goals as goal

pub loop-preserved : goal.loop-preserved
loop-preserved g c =
    let numbers = c.args.numbers.now in let number = get_or numbers c.loop.index 0 in
    one_more items_of_vec c.loop.hands.items c.push.new.self.items c.new.result _ _ [] c.loop.invariant c.in_ok-push.ensures.items
    (next_taken (λ c. group_of g.P.Numbered.number c []) numbers c.loop.index number c.loop-test.true
    (get_or_default numbers c.loop.index 0 number c.loop-test.true)) c.new.ensures.items
