use Rattle.example_kinds.proofs.Rates.{never_above_its_rate}
use Rattle.example_kinds.proofs.limiter.never_above_its_rate.Goals as goal

pub returns : goal.returns
returns _ = never_above_its_rate
