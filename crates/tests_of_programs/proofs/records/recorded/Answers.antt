use Rattle.std.proofs.Common.{refl, ap, ◌∙◌}
use denote.Param.Object.{read_made}
use Rattle.act_types.specs.KindState.{KindState, CounterAt, AccountAt}
use Rattle.tests_of_programs.proofs.records.recorded.OwnLists.{own-1, at-1-1, at-1-3}
use Rattle.tests_of_programs.proofs.records.recorded.Goals as goal

pub add-requires-clause-counter : goal.add-requires-clause-counter
add-requires-clause-counter g c =
    read_made own-1 (own-1.entry at-1-1) at-1-1 refl KindState
    (λ kind value. kind.1.state value) c.into_dyn_box.result.vtable c.into_dyn_box.result.value c.in_ok-new.field-0.value c.into_dyn_box.ensures.1
    ∙ ap CounterAt (c.in_ok-new.ensures.ok ∙ c.open.ensures)

pub add-requires-clause-account : goal.add-requires-clause-account
add-requires-clause-account g c =
    read_made own-1 (own-1.entry at-1-3) at-1-3 refl KindState (λ kind value. kind.1.state value) c.into_dyn_box-in_ok-new-3.result.vtable
    c.into_dyn_box-in_ok-new-3.result.value c.in_ok-new-3.field-0.value c.into_dyn_box-in_ok-new-3.ensures.1
    ∙ ap AccountAt (c.in_ok-new-3.ensures.ok ∙ c.open-in-loop-2.ensures)

pub loop-preserved : goal.loop-preserved
loop-preserved g c = c.in_ok-add.ensures.each c.loop.counter c.loop.invariant

pub add-requires-in-loop-2-clause-counter : goal.add-requires-in-loop-2-clause-counter
add-requires-in-loop-2-clause-counter g c =
    read_made own-1 (own-1.entry at-1-1) at-1-1 refl KindState (λ kind value. kind.1.state value) c.into_dyn_box-in_ok-new-5.result.vtable
    c.into_dyn_box-in_ok-new-5.result.value c.in_ok-new-5.field-0.value c.into_dyn_box-in_ok-new-5.ensures.1
    ∙ ap CounterAt (c.in_ok-new-5.ensures.ok ∙ c.open-in-loop-2-2.ensures)

pub add-requires-in-loop-2-clause-account : goal.add-requires-in-loop-2-clause-account
add-requires-in-loop-2-clause-account g c =
    read_made own-1 (own-1.entry at-1-3) at-1-3 refl KindState (λ kind value. kind.1.state value) c.into_dyn_box-in_ok-new-7.result.vtable
    c.into_dyn_box-in_ok-new-7.result.value c.in_ok-new-7.field-0.value c.into_dyn_box-in_ok-new-7.ensures.1
    ∙ ap AccountAt (c.in_ok-new-7.ensures.ok ∙ c.open-in-loop-2-4.ensures)

pub loop-2-preserved : goal.loop-2-preserved
loop-2-preserved g c = c.in_ok-add-2.ensures.each c.loop-2.counter c.loop-2.invariant
