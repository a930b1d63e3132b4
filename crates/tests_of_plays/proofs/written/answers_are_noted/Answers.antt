use Rattle.tests_of_plays.proofs.Common.{refl, ap, sym, ◌∙◌, read_made, KindState, CounterAt}
use Rattle.tests_of_plays.proofs.written.answers_are_noted.OwnLists.{own-1, at-1-1}
use Rattle.tests_of_plays.proofs.written.answers_are_noted.Goals as goal

pub answers_passed_on-requires-clause-one : goal.answers_passed_on-requires-clause-one
answers_passed_on-requires-clause-one g c κs =
    read_made own-1 (own-1.entry at-1-1) at-1-1 refl KindState
    (λ kind value. kind.1.state value) c.into_dyn_box.result.vtable c.into_dyn_box.result.value c.in_ok-new.field-0.value c.into_dyn_box.ensures.1
    ∙ ap CounterAt (c.in_ok-new.ensures.ok ∙ c.open.ensures ∙ sym c.open-3.ensures)

pub answers_passed_on-requires-clause-two : goal.answers_passed_on-requires-clause-two
answers_passed_on-requires-clause-two g c κs =
    read_made own-1 (own-1.entry at-1-1) at-1-1 refl KindState (λ kind value. kind.1.state value) c.into_dyn_box-in_ok-new-2.result.vtable
    c.into_dyn_box-in_ok-new-2.result.value c.in_ok-new-2.field-0.value c.into_dyn_box-in_ok-new-2.ensures.1
    ∙ ap CounterAt (c.in_ok-new-2.ensures.ok ∙ c.open-2.ensures ∙ sym c.open-4.ensures)
