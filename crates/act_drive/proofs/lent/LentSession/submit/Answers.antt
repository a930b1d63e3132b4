use Rattle.act_drive.proofs.CodeSteps.{submits_hears, later_trans, on_err}
use Rattle.act_drive.proofs.lent.LentSession.submit.Goals as goal

pub returns-in_err-k-clause-hears : goal.returns-in_err-k-clause-hears
returns-in_err-k-clause-hears g c = on_err c.from_residual.result c.in_err-k.ensures.hears

pub returns-in_err-k-clause-on : goal.returns-in_err-k-clause-on
returns-in_err-k-clause-on g c = c.in_err-k.ensures.on

pub returns-clause-submits : goal.returns-clause-submits
returns-clause-submits g c = submits_hears _ _ _ _ c.in_ok-k.ensures.submits c.turn_after.ensures.hears

pub returns-clause-on : goal.returns-clause-on
returns-clause-on g c = later_trans c.in_ok-k.ensures.on c.turn_after.ensures.on
