use Rattle.act_thread_ends.proofs.Fitting.{of_a_run}
use Rattle.act_thread_ends.proofs.laws.what_fits_is_of_a_run.Goals as goal

pub returns : goal.returns
returns g _ state casts plans numbers fit = of_a_run state numbers fit
