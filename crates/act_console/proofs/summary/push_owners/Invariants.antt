use Rattle.act_console.proofs.Common.{◌≡◌, ◌++◌, string_bytes, flat_map, one_to, owner_lines_in}
use Rattle.act_console.proofs.summary.push_owners.Given as goal

-- the lines so far are written
abbrev pub invariant-loop-before : goal.invariant-loop-before
invariant-loop-before l = string_bytes l.text ≡ string_bytes l.fn.text ++ flat_map (owner_lines_in l.owners) (one_to l.before)
