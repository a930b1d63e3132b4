use Rattle.act_replay.proofs.Common.{history, end_view, stage_view}
use Rattle.act_replay.proofs.Playing.{no_end_in, end_in}
use Rattle.act_replay.proofs.compared.has_end.Goals as goal

pub returns-in-None : goal.returns-in-None
returns-in-None g c = λ casts events reached.
    no_end_in (history casts events) c.id.result (end_view g.K.Actor.state c.args.ended.now) c.id.ensures (c.in-None.ensures.reached casts events reached)

pub returns-in-Some : goal.returns-in-Some
returns-in-Some g c = λ casts events reached. end_in (history casts events) c.id.result (stage_view g.J.Actor.state c.in-Some.stage)
    (end_view g.K.Actor.state c.args.ended.now) c.same_end.result c.id.ensures (c.in-Some.ensures.reached casts events reached) c.same_end.ensures
