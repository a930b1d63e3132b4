use Rattle.act_own.proofs.Kept.{run_keeps}
use Rattle.act_own.proofs.laws.kept_in_each_run.Goals as goal

pub returns : goal.returns
returns g _ = λ kept casts plans owners ends joined a start opens at_first.
    run_keeps g.M.Meaning.step g.M.Meaning.written g.M.Meaning.holds kept start at_first casts plans owners ends joined a opens
