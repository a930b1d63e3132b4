use Rattle.act_owner.proofs.Common.{◌∙◌, ap, count_by, zip, OwnerView, call_waits_for}
use Rattle.act_owner.proofs.Answers.{pending_count}
use Rattle.act_owner.proofs.owner.Owner.pending.Goals as goal

pub returns : goal.returns
returns c =
    let inside = c.self.inside in
    c.pending.ensures
    ∙ pending_count c.args.a inside.table.rows inside.calls.items c.self.invariant.actors
    ∙ ap (λ (owner : OwnerView). count_by (call_waits_for c.args.a) (zip owner.calls owner.kept)) c.self.view_is
