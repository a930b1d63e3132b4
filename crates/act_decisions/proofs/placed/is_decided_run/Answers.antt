use Rattle.act_decisions.proofs.placed.is_decided_run.Goals as goal

pub returns-else-caller-clause-as_ran : goal.returns-else-caller-clause-as_ran
returns-else-caller-clause-as_ran c = λ holds lines run at. c.is_as_it_ran.ensures holds run at
