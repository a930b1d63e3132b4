use Rattle.act_replay.proofs.Common.{map, ap, Finished, end_view}
use Rattle.act_replay.proofs.Playing.{play_same}
use Rattle.act_replay.proofs.run.check_play.Goals as goal

pub returns-clause-played : goal.returns-clause-played
returns-clause-played g c =
    play_same _
    c.deref.ensures.value c.deref-2.ensures.value
    (ap (λ actors. map (λ (actor : Finished _ _). end_view g.K.Actor.state actor.ended) actors) c.deref-3.ensures.value)
    (c.in_ok-is_play_of.ensures.0 c.if-not-branch.false)
