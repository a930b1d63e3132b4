use Rattle.act_epochs.proofs.AllEpochs.{over_epochs_keeps}
use Rattle.act_epochs.proofs.laws.kept_over_epochs.Goals as goal

pub returns : goal.returns
returns g _ = λ kept casts epochs are a start opens at_first.
    over_epochs_keeps g.C.Code.tells g.M.Meaning.step g.M.Meaning.written g.M.Meaning.holds kept casts epochs are a start opens at_first
