use Rattle.act_written.proofs.Common.{◌≡◌, ◌++◌, string_bytes, of_each, call_lines}
use Rattle.act_written.proofs.text.push_calls.Given as goal

-- the lines so far are written
abbrev pub invariant-loop-place : goal.invariant-loop-place
invariant-loop-place l = string_bytes l.text ≡ string_bytes l.fn.text ++ of_each (call_lines l.told l.names) l.place
