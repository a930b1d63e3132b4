use Rattle.act_code_ends.proofs.Common.{◌≢◌, Some, All, AllPairs, sym, subst, ◌∙◌, actors_differ, limits_fit}
use Rattle.act_code_ends.proofs.rehearsed.new_owner.Goals as goal

pub open_with-requires : goal.open_with-requires
open_with-requires g c =
    let is = sym (c.as_slice.ensures.value ∙ c.in_ok-limits.ensures) in
    record {
      distinct = subst (λ limits. AllPairs (λ one other. one.0 ≢ other.0) limits) is (actors_differ c.args.c c.args.casts.now c.requires.fit.actors);
      limits = subst (λ limits. All (λ limit. limit.1 ≢ Some 0) limits) is (limits_fit c.args.c c.args.casts.now c.requires.fit.limits);
    }
