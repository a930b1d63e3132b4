use Rattle.act_told.proofs.Common.{map, ◌++◌, ◌∙◌, ap, end_view, Finished, run_by}
use Rattle.act_told.proofs.Going.{log_more, mapped_here}
use Rattle.act_told.proofs.runs.runs_of.Goals as goal

pub loop-place-preserved : goal.loop-place-preserved
loop-place-preserved g c =
    let view = λ (actor : Finished _ _). end_view g.K.Actor.state actor.ended in
    let starts = c.args.starts.now in
    log_more starts c.args.all (map view c.args.actors.now) c.loop-place.place c.loop-place.runs _
    (mapped_here view c.args.actors.now c.loop-place-test.true c.index-actors-place.is)
    (c.in_ok-push_runs.ensures ∙ ap (λ log. c.loop-place.runs ++ map (run_by starts c.args.all c.loop-place.place) log) c.log.ensures)
    c.loop-place.invariant
