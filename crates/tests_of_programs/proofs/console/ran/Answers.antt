use Rattle.std.proofs.Common.{refl, ap, ◌∙◌}
use denote.Param.Object.{read_made}
use Rattle.act_types.specs.KindState.{KindState, CounterAt, AccountAt}
use Rattle.tests_of_programs.proofs.console.ran.OwnLists.{own-1, at-1-1, at-1-3}
use Rattle.tests_of_programs.proofs.console.ran.Goals as goal

pub add-requires-clause-counter : goal.add-requires-clause-counter
add-requires-clause-counter g c =
    read_made own-1 (own-1.entry at-1-1) at-1-1 refl KindState
    (λ kind value. kind.1.state value) c.into_dyn_box.result.vtable c.into_dyn_box.result.value c.in_ok-new.field-0.value c.into_dyn_box.ensures.1
    ∙ ap CounterAt (c.in_ok-new.ensures.ok ∙ c.open.ensures)

pub add-requires-clause-account : goal.add-requires-clause-account
add-requires-clause-account g c =
    read_made own-1 (own-1.entry at-1-3) at-1-3 refl KindState (λ kind value. kind.1.state value) c.into_dyn_box-in_ok-new-3.result.vtable
    c.into_dyn_box-in_ok-new-3.result.value c.in_ok-new-3.field-0.value c.into_dyn_box-in_ok-new-3.ensures.1
    ∙ ap AccountAt (c.in_ok-new-3.ensures.ok ∙ c.open-in-loop-2.ensures)

pub loop-preserved : goal.loop-preserved
loop-preserved g c = c.in_ok-add.ensures.each c.loop.counter c.loop.invariant
