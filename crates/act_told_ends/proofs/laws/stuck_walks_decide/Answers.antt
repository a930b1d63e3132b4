use Rattle.act_told_ends.proofs.Deciding.{stuck_through, stuck_ends}
use Rattle.act_told_ends.proofs.laws.stuck_walks_decide.Goals as goal

pub returns-clause-through : goal.returns-clause-through
returns-clause-through _ casts bound told done h walked stuck events ends = stuck_through casts bound told done h walked stuck events ends

pub returns-clause-ends : goal.returns-clause-ends
returns-clause-ends _ casts told walk accepted rests stuck events ends = stuck_ends casts told walk accepted rests stuck events ends
