use Rattle.act_owner.proofs.Common.{◌∙◌, ap, sym, slice_index_or, false, unwrap_or-slice_get, is_known_dead}
use Rattle.act_owner.proofs.owner.Owner.is_dead.Goals as goal

pub returns : goal.returns
returns c =
    ap (λ i. slice_index_or c.self.inside.dead i false) c.number-number.ensures.value
    ∙ sym (unwrap_or-slice_get c.self.inside.dead c.args.a false)
    ∙ ap (λ owner. is_known_dead owner c.args.a) c.self.view_is
