use Rattle.std.proofs.Common.{◌≡◌, take}
use Rattle.act_compare.proofs.script.same_events.Given as goal

-- the lists are the same so far
abbrev pub invariant-loop-place : goal.invariant-loop-place
invariant-loop-place l = take l.place l.one ≡ take l.place l.other
