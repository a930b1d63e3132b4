use Rattle.act_owner.proofs.Common.{◌≡◌, map, take, settle, answers_of}
use Rattle.act_owner.proofs.owner.settle_all.Given as goal

-- the arguments so far are settled
abbrev pub invariant-loop-arg : goal.invariant-loop-arg
invariant-loop-arg l = l.sent ≡ map (settle (answers_of l.table.rows)) (take l.arg-index l.arg-items)
