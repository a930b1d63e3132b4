use Rattle.act_service.proofs.Common.{map, IsFitting, actor_spec, HaveLed}
use Rattle.act_service.proofs.epochs.run_epochs.Given as goal

-- the epochs so far led to the casts, which fit
abbrev pub invariant-loop : goal.invariant-loop
invariant-loop g l = record {
  led : HaveLed g.S.One.Code.tells (g.S.Service.knows l.service) (map (actor_spec g.K.Actor.state) l.fn.casts.items)
      (map (actor_spec g.K.Actor.state) l.casts.items);
  fit : IsFitting l.casts.items;
}
