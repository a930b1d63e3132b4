use Rattle.act_early.proofs.Keys.{alike, same_end}
use Rattle.act_early.proofs.laws.choices_tell_all.Goals as goal

pub returns-clause-state : goal.returns-clause-state
returns-clause-state _ casts plans one other is goes quiescent rests same = alike casts plans one other is goes quiescent rests same

pub returns-clause-end : goal.returns-clause-end
returns-clause-end _ casts plans early late is quiescent goes ended same = same_end casts plans early late is quiescent goes ended same
