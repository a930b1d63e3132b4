use Rattle.act_told.proofs.Common.{◌≡◌, drop, start_in}
use Rattle.act_told.proofs.runs.start_in.Given as goal

-- none of those so far is the caller
abbrev pub invariant-loop-start : goal.invariant-loop-start
invariant-loop-start l = start_in (drop l.start-index l.starts) l.all l.caller ≡ start_in l.starts l.all l.caller
