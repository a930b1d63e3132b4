use Rattle.act_histories.proofs.Common.{◌≡◌, [], map, ap, ◌∙◌, arith, subst, IfOk-weaker}
use Rattle.act_actor.specs.Casts.{actor_spec}
use Rattle.act_console.proofs.Roles.{casts_fit}
use Rattle.act_rules.specs.Scripts.{actor_spec_of}
use Rattle.act_world.specs.IsReachedBy.{IsReachedBy}
use Rattle.act_world.specs.View.{world_view}
use Rattle.act_histories.proofs.Verdicts.{all_four}
use Rattle.act_histories.proofs.check.walk_after.Goals as goal

pub open-requires : goal.open-requires
open-requires g c = (
  omega arith,
  casts_fit (λ b. (goal.Actor-dyn g (b.vtable, b.value)).state b.value) c.in_ok-casts.casts.items c.args.roles.now
      (c.in_ok-casts.ensures ∙ ap (map actor_spec_of) c.in_ok-copies.ensures) c.requires.roles,
)

pub returns : goal.returns
returns g c =
    let casts = map actor_spec_of c.args.roles.now in
    let same : map (actor_spec (λ b. (goal.Actor-dyn g (b.vtable, b.value)).state b.value)) c.in_ok-casts.casts.items ≡ casts =
    c.in_ok-casts.ensures ∙ ap (map actor_spec_of) c.in_ok-copies.ensures in
    let opened = subst (λ casts. IsReachedBy casts []
    (world_view (λ b. (goal.Actor-dyn g (b.vtable, b.value)).state b.value) c.in_ok-world.world)) same c.in_ok-world.ensures.reached in
    IfOk-weaker c.walk.result _ _
    (λ walked all. record { accepted = all.0 casts opened; reached = all.1 casts opened; does = λ done. all.2 done casts opened; decides = all.3 casts opened })
    (all_four c.walk.result _ _ _ _ c.walk.ensures.accepted c.walk.ensures.reached c.walk.ensures.does c.walk.ensures.decides)
