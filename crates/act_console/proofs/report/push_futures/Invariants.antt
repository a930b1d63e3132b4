use Rattle.act_console.proofs.Common.{◌≡◌, ◌++◌, drop, string_bytes, numbered_lines, future_line, owner_lines}
use Rattle.act_console.proofs.report.push_futures.Given as goal

-- what is written so far, and what is still to be written
abbrev pub invariant-loop-number : goal.invariant-loop-number
invariant-loop-number l =
    string_bytes l.text ++ numbered_lines (future_line l.owner.id l.owner.kept) l.number
    (drop l.number l.owner.calls) ≡ string_bytes l.fn.text ++ owner_lines l.owner
