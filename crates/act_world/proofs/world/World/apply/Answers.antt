use Rattle.act_world.proofs.Applying.{applied}
use Rattle.act_world.proofs.world.World.apply.Goals as goal

pub returns : goal.returns
returns g c =
    let done = applied _ _ _ _ c.step.ensures in
    record {
      outcome = rw c.unwrap_or.ensures done.outcome;
      reached = rw c.unwrap_or.ensures done.reached;
      shown = rw c.unwrap_or.ensures done.shown;
      grown = c.step.ensures.grown;
      memory_last = rw c.unwrap_or.ensures done.memory_last;
      memory = rw c.unwrap_or.ensures done.memory;
      err = rw c.unwrap_or.ensures done.err;
    }
