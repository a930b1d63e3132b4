use Rattle.act_console.proofs.Common.{◌≡◌, ◌++◌, drop, string_bytes, numbered_lines, outcome_line}
use Rattle.act_console.proofs.report.push_outcomes.Given as goal

-- what is written so far, and what is still to be written
abbrev pub invariant-loop-place : goal.invariant-loop-place
invariant-loop-place l =
    string_bytes l.text ++ numbered_lines outcome_line l.place (drop l.place l.outcomes) ≡ string_bytes l.fn.text ++ numbered_lines outcome_line 0 l.outcomes
