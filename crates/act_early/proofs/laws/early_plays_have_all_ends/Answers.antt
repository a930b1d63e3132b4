use Rattle.act_early.proofs.Early.{quiescent_play, early_ends}
use Rattle.act_early.proofs.Retires.{retired_play}
use Rattle.act_early.proofs.laws.early_plays_have_all_ends.Goals as goal

pub returns-clause-quiescence : goal.returns-clause-quiescence
returns-clause-quiescence _ casts plans at play live = quiescent_play casts plans at play live

pub returns-clause-ends : goal.returns-clause-ends
returns-clause-ends _ casts plans late play ended = early_ends casts plans late play ended

pub returns-clause-retiring : goal.returns-clause-retiring
returns-clause-retiring _ casts plans early late play quiescent goes ended ends = retired_play casts plans late play quiescent goes ended ends
