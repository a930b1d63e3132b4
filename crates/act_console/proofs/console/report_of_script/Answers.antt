use Rattle.act_console.proofs.console.report_of_script.Goals as goal

pub returns : goal.returns
returns g c = rw c.in-Events.is c.report_on.ensures
