use Rattle.std.proofs.Common.{refl}
use Rattle.act_owner.proofs.Told.{given_is}
use Rattle.act_owner.proofs.Calls.{released_fine}
use Rattle.act_owner.proofs.owner.Owner.release.Goals as goal

pub invariant_of-self-in_default : goal.invariant_of-self-in_default
invariant_of-self-in_default c =
    let inside = c.self.inside in released_fine c.args.a c.release.result c.release.new.self c.release.ensures.ok c.release.ensures.err c.self.invariant

pub invariant_of-self-2 : goal.invariant_of-self-2
invariant_of-self-2 c =
    let inside = c.self.inside in released_fine c.args.a c.release.result c.release.new.self c.release.ensures.ok c.release.ensures.err c.self.invariant

pub returns-in_err-after-clause-given : goal.returns-in_err-after-clause-given
returns-in_err-after-clause-given c = given_is c.args.a c.self.inside.calls.items _ _ c.self.view_is refl (c.self.invariant.given c.args.a)

pub returns-in_default-clause-given : goal.returns-in_default-clause-given
returns-in_default-clause-given c = given_is c.args.a c.self.inside.calls.items _ _ c.self.view_is refl (c.self.invariant.given c.args.a)

pub returns-clause-given : goal.returns-clause-given
returns-clause-given c = given_is c.args.a c.self.inside.calls.items _ _ c.self.view_is refl (c.self.invariant.given c.args.a)
