use Rattle.act_plan_plays.proofs.played.bring.Goals as goal

pub returns : goal.returns
returns g c = λ casts h behind. (c.in_ok-_outcome.ensures.behind casts h behind).1
