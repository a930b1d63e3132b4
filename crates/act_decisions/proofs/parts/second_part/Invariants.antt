use Rattle.act_decisions.proofs.Common.{map, Make}
use Rattle.act_decisions.proofs.Exact.{Follows}
use Rattle.act_decisions.proofs.parts.second_part.Given as goal

-- the lines so far are told, and where what is shown begins with what they tell, the rest of it is left
abbrev pub invariant-loop-line : goal.invariant-loop-line
invariant-loop-line l = record {
  made : Make (map (λ line. line.now) l.yielded) l.text.items;
  exact : Follows (map (λ line. line.now) l.yielded) l.shown l.text.items l.left;
}
