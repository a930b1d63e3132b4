use Rattle.act_world.proofs.Headline.{stands_consistent}
use Rattle.act_world.proofs.world.World.consistent.Goals as goal

pub returns : goal.returns
returns g c = λ casts events reached. stands_consistent casts events reached
