use Rattle.act_plan_plays.proofs.making.go_on.Goals as goal

pub returns-clause-does : goal.returns-clause-does
returns-clause-does g c = λ casts h behind asked.
    record { may = c.has_answer.ensures c.if-not-has_answer.false casts h c.args.played.now.events.items behind; behind = behind; asked = asked }
