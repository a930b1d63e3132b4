use Rattle.act_written.proofs.Common.{◌≡◌, ◌++◌, take, string_bytes, flat_map, role_word}
use Rattle.act_written.proofs.lines.push_callers.Given as goal

-- the callers so far are written
abbrev pub invariant-loop-caller : goal.invariant-loop-caller
invariant-loop-caller l = string_bytes l.text ≡ string_bytes l.fn.text ++ flat_map role_word (take l.caller-index l.callers)
