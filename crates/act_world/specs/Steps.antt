-- What one event makes of a world.
use Rattle.std.specs.Prelude.{◌≡◌, false, List, Result, IfOk, OnErr}
use Rattle.act_types.specs.declared.memory.NoMemory.{NoMemory}
use Rattle.act_rules.specs.declared.event.Event.{Event}
use Rattle.act_rules.specs.Rules.{Outcome}
use Rattle.act_world.specs.Network.{NetworkView}
use Rattle.act_world.specs.View.{SlotView, WorldView, with_slots}
use Rattle.act_world.specs.IsReachedBy.{is_memory, IsGrown, FollowsRules, IsUnrefused}
use Rattle.act_world.specs.Memory.{TakesMemory}

-- what is seen of the world follows the rules, and a refusal leaves it as it was; want of memory does so, too, and comes
-- last, and only for an event that takes memory
pub record Steps {W : Type 0} (seen : W → WorldView) (event : Event) (old new : W) (result : Result Outcome NoMemory) : Type 0 where
  pub ok : IfOk result (FollowsRules event (seen old) (seen new))
  pub told : IfOk result (λ told. is_memory told ≡ false)
  pub refused : IfOk result (λ told. OnErr told (new ≡ old))
  pub grown : IsGrown (seen old).network (seen new).network
  pub memory_last : OnErr result (IsUnrefused event (seen old))
  pub memory : OnErr result (TakesMemory event (seen old))
  pub err : OnErr result (new ≡ old)

-- the same of an event that changes no actor, whatever the actors are
abbrev pub StepsThere : Event → NetworkView → NetworkView → Result Outcome NoMemory → Type 0
StepsThere event old new result = (slots : List SlotView) → Steps (with_slots slots) event old new result
