use Rattle.act_console.proofs.Common.{◌≡◌, ◌++◌, drop, string_bytes, numbered_lines, item_line}
use Rattle.act_console.proofs.report.push_items.Given as goal

-- what is written so far, and what is still to be written
abbrev pub invariant-loop-place : goal.invariant-loop-place
invariant-loop-place l = string_bytes l.text ++ numbered_lines (item_line l.actor) l.place (drop l.place l.items) ≡ string_bytes l.fn.text ++ numbered_lines
    (item_line l.actor) 0 l.items
