use Rattle.act_code_ends.proofs.Common.{take, All, world_view, Played, SaysAt}
use Rattle.act_code_ends.proofs.ends.first_bad.Given as goal

-- the ends so far are good
abbrev pub invariant-loop-end : goal.invariant-loop-end
invariant-loop-end g l = All (λ (end : Played _). SaysAt (g.H.Check.holds l.check) (world_view g.K.Actor.state end.world)) (take l.end-index l.ends)
