use Rattle.act_summaries.proofs.Fitting.{agreed_lines_fit}
use Rattle.act_summaries.proofs.laws.agreed_lines_fit.Goals as goal

pub returns : goal.returns
returns _ = agreed_lines_fit
