use Rattle.act_causes.proofs.Replaying.{play_of}
use Rattle.act_causes.proofs.plays.caused_deeds_are_plays.Goals as goal

pub returns : goal.returns
returns _ casts deeds fitting caused = let some = play_of casts deeds fitting caused in (some.0, some.1.play)
