use Rattle.act_told.proofs.Common.{◌≡◌, ◌++◌, map, drop, end_view, Finished, calls_from}
use Rattle.act_told.proofs.calls.push_calls.Given as goal

-- what is told so far, and what is still to be told
abbrev pub invariant-loop-number : goal.invariant-loop-number
invariant-loop-number g l =
    let ends = map (λ (actor : Finished _ _). end_view g.K.Actor.state actor.ended) l.actors in
    l.calls ++ calls_from ends l.owner l.start l.number (drop l.number l.owner.calls) ≡ l.fn.calls ++ calls_from ends l.owner l.start 0 l.owner.calls
