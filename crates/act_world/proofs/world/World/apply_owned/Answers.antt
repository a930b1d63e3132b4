use Rattle.act_world.proofs.Applying.{applied}
use Rattle.act_world.proofs.Stepping.{of_network}
use Rattle.act_world.proofs.world.World.apply_owned.Goals as goal

pub returns-in-Submit : goal.returns-in-Submit
returns-in-Submit g c =
    let step = of_network g.K.Actor.state c.self.inside.slots c.self.inside.network c.submit.new.self c.submit.result c.in-Submit.is c.submit.ensures in
    let done = applied _ _ _ _ step in
    record {
      outcome = rw (c.unwrap_or.ensures, ← c.self.view_is) done.outcome;
      reached = rw (c.unwrap_or.ensures, ← c.self.view_is) done.reached;
      shown = rw (c.unwrap_or.ensures, ← c.self.view_is) done.shown;
      grown = rw (← c.self.view_is) step.grown;
      memory_last = rw (c.unwrap_or.ensures, ← c.self.view_is) done.memory_last;
      memory = rw (c.unwrap_or.ensures, ← c.self.view_is) done.memory;
      err = rw (c.unwrap_or.ensures, ← c.self.view_is) done.err;
    }
