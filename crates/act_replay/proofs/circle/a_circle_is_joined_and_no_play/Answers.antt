use Rattle.act_replay.proofs.Circular.{circle_joined, circle_unplayed, circle_no_play}
use Rattle.act_replay.proofs.circle.a_circle_is_joined_and_no_play.Goals as goal

pub returns-clause-joined : goal.returns-clause-joined
returns-clause-joined _ = circle_joined

pub returns-clause-unplayed : goal.returns-clause-unplayed
returns-clause-unplayed _ = circle_unplayed

pub returns-clause-no_play : goal.returns-clause-no_play
returns-clause-no_play _ = circle_no_play
