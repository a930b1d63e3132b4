use Rattle.act_handles.proofs.Places.{opened_fine}
use Rattle.act_handles.proofs.handles.Handles.open.Goals as goal

pub invariant_of-result : goal.invariant_of-result
invariant_of-result c = rw c.in_ok-handles.ensures (opened_fine c.args.actors.now c.requires.distinct)
