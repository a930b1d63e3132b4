use Rattle.act_owner.proofs.Common.{◌∙◌, ap, first_ready}
use Rattle.act_owner.proofs.Waiting.{first_ready_same}
use Rattle.act_owner.proofs.owner.Owner.ready.Goals as goal

pub returns : goal.returns
returns c =
    let inside = c.self.inside in
    c.ready.ensures
    ∙ first_ready_same inside.id inside.dead inside.limits.items c.self.invariant
    ∙ ap (λ owner. first_ready owner) c.self.view_is
