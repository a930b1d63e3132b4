use Rattle.act_causes.proofs.Merging.{merge_of}
use Rattle.act_causes.proofs.merge.merges_keep_causes.Goals as goal

pub returns : goal.returns
returns _ n threads below rise = merge_of n threads below rise
