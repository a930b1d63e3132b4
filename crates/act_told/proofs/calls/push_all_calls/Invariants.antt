use Rattle.act_told.proofs.Common.{◌≡◌, ◌++◌, map, drop, length, end_view, Finished, calls_told, starts_from, AreSmall}
use Rattle.act_told.proofs.calls.push_all_calls.Given as goal

-- what is told so far, and what is still to be told
abbrev pub invariant-loop-owner : goal.invariant-loop-owner
invariant-loop-owner g l =
    let ends = map (λ (actor : Finished _ _). end_view g.K.Actor.state actor.ended) l.actors in
    record {
      calls : l.calls ++ calls_told ends (length l.calls) (drop l.owner-index l.owners) ≡ l.fn.calls ++ calls_told ends (length l.fn.calls) l.owners;
      starts : l.starts.items ++ starts_from (length l.calls) (drop l.owner-index l.owners) ≡ starts_from (length l.fn.calls) l.owners;
      small : AreSmall l.starts.items;
    }
