use Rattle.act_epochs.proofs.Growing.{goes_on}
use Rattle.act_epochs.proofs.laws.epochs_go_on.Goals as goal

pub returns : goal.returns
returns g _ = λ casts epochs epoch are opens is. goes_on g.C.Code.tells casts epochs epoch are opens is
