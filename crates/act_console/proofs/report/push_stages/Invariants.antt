use Rattle.act_console.proofs.Common.{◌≡◌, ◌++◌, string_bytes, flat_map, one_to, world_view, stage_lines}
use Rattle.act_console.proofs.report.push_stages.Given as goal

-- the lines so far are written
abbrev pub invariant-loop-before : goal.invariant-loop-before
invariant-loop-before g l = string_bytes l.text ≡ string_bytes l.fn.text ++ flat_map (stage_lines (world_view g.K.Actor.state l.world)) (one_to l.before)
