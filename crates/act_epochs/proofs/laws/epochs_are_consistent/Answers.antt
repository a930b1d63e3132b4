use Rattle.act_epochs.proofs.AllEpochs.{are_consistent}
use Rattle.act_epochs.proofs.laws.epochs_are_consistent.Goals as goal

pub returns : goal.returns
returns g _ = λ casts epochs are. are_consistent g.C.Code.tells casts epochs are
