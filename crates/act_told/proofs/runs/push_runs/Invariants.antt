use Rattle.act_told.proofs.Common.{◌≡◌, ◌++◌, map, take, run_by}
use Rattle.act_told.proofs.runs.push_runs.Given as goal

-- those so far are told
abbrev pub invariant-loop-item : goal.invariant-loop-item
invariant-loop-item l = l.runs ≡ l.fn.runs ++ map (run_by l.starts l.all l.actor) (take l.item-index l.log)
