use Rattle.act_handles.proofs.Common.{arith, refl, ◌+◌, Handle}
use Rattle.act_handles.proofs.Places.{change_fine, change_is}
use Rattle.act_handles.proofs.handles.Handles.copy.Goals as goal

pub invariant_of-self-2 : goal.invariant_of-self-2
invariant_of-self-2 c =
    let handle = c.index_mut-handle.result.now in
    change_fine _ c.self.view_is c.self.invariant c.in_ok-place.ensures.place c.index_mut-handle.ensures.value refl (omega (arith, c.self.invariant.1))

pub returns-clause-ok : goal.returns-clause-ok
returns-clause-ok c =
    change_is (λ (handle : Handle). record handle { copies = handle.copies + 1 }) c.self.view_is c.in_ok-place.ensures.place c.index_mut-handle.ensures.value
