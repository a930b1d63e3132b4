-- What contracts see of a play of plans.
use Rattle.std.specs.Prelude.{ℕ, List}
use Rattle.act_rules.specs.declared.event.Event.{Event}
use Rattle.act_plans.specs.declared.rising.CallerSetup.{CallerSetup}
use Rattle.act_world.specs.View.{WorldOf}

-- its world, the parts of its callers, the events that the world stands after, how many steps each caller did, and the
-- actors whose kill was asked
pub record PlanPlayOf (S : Type 0) : Type 0 where
  pub world : WorldOf S
  pub setups : List CallerSetup
  pub events : List Event
  pub done : List ℕ
  pub asked : List ℕ
