-- Awaits in a circle: no list of events that does the plans leaves what the callers and actors have here.
--
-- Each of two callers pushes to the other caller's list, awaits the answer, and then pushes to its own list. Each list
-- ran the push of its own caller first. So each awaited answer came after the push behind the other await.
use Rattle.std.specs.Prelude.{ℕ, true, List, [], ◌∷◌, replicate, false, Some, None, Ok, pos}
use Rattle.act_types.specs.KindState.{ItemsOf}
use Rattle.act_types.specs.declared.call.Value.TheVariants.{Int}
use Rattle.act_types.specs.declared.call.Method.TheVariants.{Push}
use Rattle.act_rules.specs.declared.history.RunItem.{RunItem}
use Rattle.act_rules.specs.declared.history.Submission.{Submission}
use Rattle.act_rules.specs.declared.script.Step.{Step}
use Rattle.act_rules.specs.declared.script.Step.TheVariants.{Submit, Await}
use Rattle.act_rules.specs.History.{ActorSpec}
use Rattle.act_owner.specs.Owner.{OwnerView}
use Rattle.act_executor.specs.PlanPlays.{IsPlayedAsPlanned}
use Rattle.act_serve.specs.Served.{EndView, Retired}
use Rattle.act_replay.specs.Circle.{five_arg, circle_push, circle_ran}

-- no list of events is a play of the plans that ends with them
abbrev pub IsUnplanned : List ActorSpec → List (ℕ × List Step) → List OwnerView → List EndView → Type 0
IsUnplanned casts plans owners ends = IsPlayedAsPlanned casts plans owners ends → ⊥

-- ---- the circle, with the casts of the other one: a caller and its own list have one number, and o is the other one

abbrev pub await_plan : ℕ → ℕ → List Step
await_plan c o = Submit o Push (five_arg ∷ []) ∷ Await 0 ∷ Submit c Push (five_arg ∷ []) ∷ []

abbrev pub await_plans : List (ℕ × List Step)
await_plans = (1, await_plan 1 2) ∷ (2, await_plan 2 1) ∷ []

-- what the caller submitted, and what the list ran
abbrev pub await_calls : ℕ → ℕ → List Submission
await_calls c o = circle_push o five_arg ∷ circle_push c five_arg ∷ []

abbrev pub await_log : ℕ → ℕ → List RunItem
await_log a o = circle_ran a 1 5 ∷ circle_ran o 0 5 ∷ []

-- the caller and the list at their ends
abbrev pub await_owner : ℕ → ℕ → OwnerView
await_owner c o = record {
  id = c;
  handles = record { actor = 1; copies = 0; given = 1 } ∷ record { actor = 2; copies = 0; given = 1 } ∷ [];
  calls = await_calls c o;
  sent = true ∷ true ∷ [];
  kept = Some (Ok (Int (pos 2))) ∷ Some (Ok (Int (pos 1))) ∷ [];
  dead = replicate 9 false;
  limits = (1, None) ∷ (2, None) ∷ [];
}

abbrev pub await_owners : List OwnerView
await_owners = await_owner 1 2 ∷ await_owner 2 1 ∷ []

abbrev pub await_end : ℕ → ℕ → EndView
await_end a o = Retired (record { id = a; log = await_log a o; state = ItemsOf (Int (pos 5) ∷ Int (pos 5) ∷ []) })

abbrev pub await_ends : List EndView
await_ends = await_end 1 2 ∷ await_end 2 1 ∷ []
