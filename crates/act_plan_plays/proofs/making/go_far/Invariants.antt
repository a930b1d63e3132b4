use Rattle.act_plan_plays.proofs.Common.{parts_of, Moves}
use Rattle.act_plan_plays.proofs.making.go_far.Given as goal

-- the play went on without a choice
abbrev pub invariant-loop : goal.invariant-loop
invariant-loop g l = Moves l.setup (parts_of g.K.Actor.state l.fn.played) (parts_of g.K.Actor.state l.played)
