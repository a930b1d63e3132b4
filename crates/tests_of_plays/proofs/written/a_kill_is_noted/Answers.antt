use Rattle.tests_of_plays.proofs.Common.{refl, ap, sym, ◌∙◌, read_made, KindState, CounterAt}
use Rattle.tests_of_plays.proofs.written.a_kill_is_noted.OwnLists.{own-1, at-1-1}
use Rattle.tests_of_plays.proofs.written.a_kill_is_noted.Goals as goal

pub killed-requires-clause-one : goal.killed-requires-clause-one
killed-requires-clause-one g c κs =
    read_made own-1 (own-1.entry at-1-1) at-1-1 refl KindState
    (λ kind value. kind.1.state value) c.into_dyn_box.result.vtable c.into_dyn_box.result.value c.in_ok-new.field-0.value c.into_dyn_box.ensures.1
    ∙ ap CounterAt (c.in_ok-new.ensures.ok ∙ c.open.ensures ∙ sym c.open-3.ensures)

pub killed-requires-clause-two : goal.killed-requires-clause-two
killed-requires-clause-two g c κs =
    read_made own-1 (own-1.entry at-1-1) at-1-1 refl KindState (λ kind value. kind.1.state value) c.into_dyn_box-in_ok-new-2.result.vtable
    c.into_dyn_box-in_ok-new-2.result.value c.in_ok-new-2.field-0.value c.into_dyn_box-in_ok-new-2.ensures.1
    ∙ ap CounterAt (c.in_ok-new-2.ensures.ok ∙ c.open-2.ensures ∙ sym c.open-4.ensures)
