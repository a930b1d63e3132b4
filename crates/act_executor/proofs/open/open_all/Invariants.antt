use Rattle.act_executor.proofs.Common.{take, AreMade}
use Rattle.act_executor.proofs.open.open_all.Given as goal

abbrev pub invariant-loop-place : goal.invariant-loop-place
invariant-loop-place g l =
    let line = g.L.Opens in AreMade line.id line.line line.end line.pass g.L.Pass.Numbered.number line.names (take l.place l.given) l.numbers l.opened
