use Rattle.act_console.proofs.Common.{◌≡◌, ◌++◌, map, string_bytes, flat_map, end_view, Finished, one_to, end_lines_in}
use Rattle.act_console.proofs.summary.push_ends.Given as goal

-- the lines so far are written
abbrev pub invariant-loop-before : goal.invariant-loop-before
invariant-loop-before g l = string_bytes l.text ≡ string_bytes l.fn.text ++ flat_map
    (end_lines_in (map (λ (actor : Finished _ _). end_view g.K.Actor.state actor.ended) l.actors)) (one_to l.before)
