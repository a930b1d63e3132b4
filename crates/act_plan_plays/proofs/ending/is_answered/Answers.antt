use Rattle.act_plan_plays.proofs.Common.{refl, ap, sym, subst, ◌∙◌, is_caller, world_view, IsHere}
use Rattle.act_plan_plays.proofs.Ends.{answers_tell, stranger}
use Rattle.act_plan_plays.proofs.ending.is_answered.Goals as goal

pub returns-in-None : goal.returns-in-None
returns-in-None g c = λ casts h before behind. (
  (λ _. stranger casts h c.args.c (world_view g.K.Actor.state c.args.world.now) before behind (ap (is_caller c.args.c) behind.is
      ∙ c.in-None.ensures.reached casts before behind.reached)),
  λ _. refl,
)

pub returns-in-Some : goal.returns-in-Some
returns-in-Some g c = λ casts h before behind.
    let owned = c.in-Some.ensures.reached casts before behind.reached in
    let here : IsHere h c.args.c c.in-Some.owner.now =
    subst (λ h. IsHere h c.args.c c.in-Some.owner.now) (sym behind.is) (record { caller = owned.0; is = owned.1 }) in
    let tell = answers_tell h c.args.c here in ((λ e. tell.0 (sym c.all_answered.ensures ∙ e)), λ all. c.all_answered.ensures ∙ tell.1 all)
