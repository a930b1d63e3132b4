use Rattle.act_written.proofs.Common.{◌≡◌, ◌++◌, string_bytes, of_each, outcome_line}
use Rattle.act_written.proofs.text.push_outcomes.Given as goal

-- the lines so far are written
abbrev pub invariant-loop-place : goal.invariant-loop-place
invariant-loop-place l = string_bytes l.text ≡ string_bytes l.fn.text ++ of_each (outcome_line l.told) l.place
