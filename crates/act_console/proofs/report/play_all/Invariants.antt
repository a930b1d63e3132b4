use Rattle.act_console.proofs.Common.{reverse, string_bytes, vec_len, world_view}
use Rattle.act_console.proofs.Playing.{Playing}
use Rattle.act_console.proofs.report.play_all.Given as goal

-- the events so far were played and told; of the others the next one stands last
abbrev pub invariant-loop-event : goal.invariant-loop-event
invariant-loop-event g l =
    Playing l.fn.events (reverse l.left.items) (world_view g.K.Actor.state l.fn.world) (world_view g.K.Actor.state l.world) (string_bytes l.fn.text)
    (string_bytes l.text) l.place

abbrev pub decreases-loop-event : goal.decreases-loop-event
decreases-loop-event g l = vec_len l.left
