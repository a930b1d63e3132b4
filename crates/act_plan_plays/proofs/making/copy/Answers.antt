use Rattle.act_plan_plays.proofs.making.copy.Goals as goal

pub returns-clause-does : goal.returns-clause-does
returns-clause-does g c = λ casts h behind asked.
    let done = c.in_ok-do_event.ensures.behind casts h behind in record { may = done.0; behind = done.2; asked = asked }
