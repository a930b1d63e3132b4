use Rattle.act_executor.proofs.Common.{[], take, AreHands}
use Rattle.act_executor.proofs.open.empty_hands.Given as goal

abbrev pub invariant-loop : goal.invariant-loop
invariant-loop g l = AreHands g.P.Numbered.number (take l.index l.numbers) [] l.hands.items
