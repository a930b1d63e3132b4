use Rattle.act_world.proofs.Common.{◌++◌, ◌∷◌, ◌≢◌, [], Some, All, AllPairs, is_some, ap, sym, subst, ◌∙◌, position, is_owner, HasOwners, opened_with}
use Rattle.act_world.proofs.OpenedOwners.{owner_known, owner_new, actors_differ, limits_fit}
use Rattle.act_world.proofs.world.add_owner.Goals as goal

pub returns-then-is_some : goal.returns-then-is_some
returns-then-is_some g c = λ callers has. owner_known c.args.casts.now callers c.args.owners.now.items c.args.c (ap (λ owners. is_some
    (position (is_owner c.args.c) owners)) (sym c.as_slice.ensures.value) ∙ ap is_some (sym c.place_of.ensures) ∙ sym c.is_some.ensures ∙ c.if-is_some.true) has

pub open_with-requires : goal.open_with-requires
open_with-requires g c =
    let is = sym (c.as_slice-2.ensures.value ∙ c.in_ok-limits.ensures) in
    record {
      distinct = subst (λ limits. AllPairs (λ one other. one.0 ≢ other.0) limits) is (actors_differ c.args.c c.args.casts.now c.requires.fit.actors);
      limits = subst (λ limits. All (λ limit. limit.1 ≢ Some 0) limits) is (limits_fit c.args.c c.args.casts.now c.requires.fit.limits);
    }

pub returns : goal.returns
returns g c = λ callers has.
    let is = c.in_ok-owner.ensures ∙ ap (opened_with c.args.c) (c.as_slice-2.ensures.value ∙ c.in_ok-limits.ensures) in
    subst (HasOwners c.args.casts.now (callers ++ c.args.c ∷ []))
    (ap (λ owner. c.args.owners.now.items ++ owner ∷ []) (sym is) ∙ sym c.in_ok-push.ensures.items)
    (owner_new c.args.casts.now callers c.args.owners.now.items c.args.c (ap (λ owners. is_some (position (is_owner c.args.c) owners))
    (sym c.as_slice.ensures.value) ∙ ap is_some (sym c.place_of.ensures) ∙ sym c.is_some.ensures ∙ c.if-is_some.false) has)
