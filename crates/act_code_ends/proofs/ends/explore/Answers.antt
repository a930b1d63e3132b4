use Rattle.act_code_ends.proofs.Common.{world_view, Played, IsEnd}
use Rattle.act_code_ends.proofs.Each.{one_more}
use Rattle.act_code_ends.proofs.ends.explore.Goals as goal

pub loop-preserved : goal.loop-preserved
loop-preserved g c = (
  c.loop.invariant.0,
  one_more (λ (found : Played _). IsEnd (g.M.Codes.makes c.args.codes.now) g.C.Code.tells (g.O.Opening.casts c.args.opening.now) found.events.items
      (world_view g.K.Actor.state found.world)) c.loop.ends.found.items c.add_some.new.items.items c.in_ok-end.end
      c.in_ok-add_some.ensures c.in_ok-end.ensures c.loop.invariant.1,
)
