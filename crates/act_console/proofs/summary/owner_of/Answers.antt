use Rattle.act_console.proofs.Common.{◌==◌, Some, ap, sym, ◌∙◌, OwnerView, find_some, find-None}
use Rattle.act_console.proofs.summary.owner_of.Goals as goal

pub returns-in_err-place : goal.returns-in_err-place
returns-in_err-place c =
    rw c.from_residual.ensures (sym (find-None (λ (owner : OwnerView). owner.id == c.args.caller) c.args.owners.now (sym c.in_err-place.ensures)))

pub returns : goal.returns
returns c =
    let found = find_some (λ (owner : OwnerView). owner.id == c.args.caller) c.args.owners.now c.index-owners-place.result (sym c.in_ok-place.ensures) in
    ap Some c.index-owners-place.is ∙ sym found.1
