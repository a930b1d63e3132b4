use Rattle.act_decisions.proofs.Common.{flat_map, one_to, stems_of_actor, ends_told, AgreeUpTo}
use Rattle.act_decisions.proofs.agreed.after_actors.Given as goal

-- the lines so far are those of the actors so far
abbrev pub invariant-loop-before : goal.invariant-loop-before
invariant-loop-before l = AgreeUpTo (flat_map (λ a. stems_of_actor a (ends_told l.end a)) (one_to l.before)) l.rest l.left
