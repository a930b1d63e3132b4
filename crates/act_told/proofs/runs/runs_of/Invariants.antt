use Rattle.act_told.proofs.Common.{◌≡◌, ◌++◌, map, drop, end_view, Finished, runs_by}
use Rattle.act_told.proofs.runs.runs_of.Given as goal

-- what is told so far, and what is still to be told
abbrev pub invariant-loop-place : goal.invariant-loop-place
invariant-loop-place g l =
    let ends = map (λ (actor : Finished _ _). end_view g.K.Actor.state actor.ended) l.actors in
    l.runs ++ runs_by l.starts l.all l.place (drop l.place ends) ≡ runs_by l.starts l.all 0 ends
