-- Ends that were found.
use Rattle.std.specs.Prelude.{◌≡◌, List, Contains}
use Rattle.act_rules.specs.declared.event.Event.{Event}
use Rattle.act_rules.specs.History.{ActorSpec, History}
use Rattle.act_rules.specs.Laws.{history}
use Rattle.act_explore.specs.declared.exploring.Found.{Found}

-- these events lead to one of them
pub record IsFoundBy (all : List Found) (events : List Event) : Type 0 where
  pub found : Found
  pub listed : Contains all found
  pub events_are : found.events.items ≡ events

-- one of them has this history
pub record IsFound (casts : List ActorSpec) (all : List Found) (h : History) : Type 0 where
  pub found : Found
  pub listed : Contains all found
  pub history_is : h ≡ history casts found.events.items
