-- A play of plans as contracts see it: where it stands, and what a choice makes of it.
use Rattle.std.specs.Prelude.{◌≡◌, ℕ, ◌<◌, true, false, List, [], map, slice_get, Some, None, is_some, All, IsOk, Contains}
use Rattle.std.specs.List.{list_any}
use Rattle.act_types.specs.KindState.{KindState}
use Rattle.act_types.specs.declared.limits.TheConstants.{CALLER_NUMBERS}
use Rattle.act_rules.specs.declared.script.Step.{Step}
use Rattle.act_rules.specs.declared.history.Submission.{Submission}
use Rattle.act_rules.specs.Submissions.{kept_at}
use Rattle.act_rules.specs.History.{ActorSpec, History, opening, contains, actors_naming, calls_of, kept_of}
use Rattle.act_rules.specs.Laws.{history}
use Rattle.act_rules.specs.Rules.{outcomes}
use Rattle.act_plans.specs.declared.rising.CallerSetup.{CallerSetup}
use Rattle.act_world.specs.declared.slot.Slot.{Slot}
use Rattle.act_world.specs.View.{SlotView, world_view}
use Rattle.act_world.specs.IsReachedBy.{IsReachedBy}
use Rattle.act_early.specs.Plays.{At, steps_of, next_step, IsPlay}
use Rattle.act_early.specs.Early.{HasRunMore, HasTakenMore}
use Rattle.act_plan_plays.specs.declared.choice.Choice.{Choice}
use Rattle.act_plan_plays.specs.declared.choice.Choice.TheVariants.{Run, Take}
use Rattle.act_plan_plays.specs.Parts.{IsBrought}
pub use Rattle.act_plan_plays.specs.View.{PlanPlayOf}

abbrev pub PlanPlayView : Type 0
PlanPlayView = PlanPlayOf SlotView

abbrev pub play_view : {K : Type 0} → (K → KindState) → PlanPlayOf (Slot K) → PlanPlayView
play_view state play = record {
  world = world_view state play.world;
  setups = play.setups;
  events = play.events;
  done = play.done;
  asked = play.asked;
}

-- ---- the plans

-- the part of a caller holds its plan, and the actors whose casts name it
pub record IsPart (casts : List ActorSpec) (plans : ℕ → List Step) (setup : CallerSetup) : Type 0 where
  pub plan : plans setup.caller ≡ setup.plan.items
  pub actors : setup.actors.items ≡ actors_naming setup.caller casts

-- each caller that a cast names has its part, and nobody else has a plan
pub record HoldPlans (casts : List ActorSpec) (plans : ℕ → List Step) (setups : List CallerSetup) : Type 0 where
  pub parts : All (IsPart casts plans) setups
  pub named : (c : ℕ) → list_any (λ cast. contains c cast.callers) casts ≡ true →
      Contains (map (λ setup. setup.caller) setups) c
  pub others : (c : ℕ) → list_any (λ cast. contains c cast.callers) casts ≡ false → plans c ≡ []

-- ---- the play

-- the play stands there
pub record StandsAt (casts : List ActorSpec) (plans : ℕ → List Step) (at : At) (seen : PlanPlayView) : Type 0 where
  -- a play of the plans leads there, and no actor retired
  pub play : IsPlay casts plans at
  pub live : at.history.retired ≡ []
  -- its events were accepted, each of them, and its world stands after them
  pub history : at.history ≡ history casts seen.events
  pub world : IsReachedBy casts seen.events seen.world
  pub accepted : All IsOk (outcomes (opening casts) seen.events)
  -- each caller did so many steps, and the kills of these actors were asked
  pub steps : (c : ℕ) → c < CALLER_NUMBERS → slice_get seen.done c ≡ Some (steps_of c at)
  pub asked : (a : ℕ) → contains a seen.asked ≡ contains a at.history.asked
  -- each letter that was sent has arrived, if its actor lives
  pub brought : IsBrought at.history
  pub setups : HoldPlans casts plans seen.setups

-- ---- its end

-- each call of the caller has an answer
abbrev pub HasAnswers : ℕ → History → Type 0
HasAnswers c h = (k : ℕ) (call : Submission) → slice_get (calls_of c h) k ≡ Some call →
    is_some (kept_at (kept_of c h) k) ≡ true

-- the caller did its plan, and each of its calls has an answer
abbrev pub IsThrough : (ℕ → List Step) → ℕ → At → Type 0
IsThrough plans c at = (next_step plans c at ≡ None) × HasAnswers c at.history

-- each caller did its plan, and each call has an answer
abbrev pub AllThrough : (ℕ → List Step) → At → Type 0
AllThrough plans at = (c : ℕ) → IsThrough plans c at

-- ---- a choice

-- the choice was made
abbrev pub HasChosen : Choice → History → History → Type 0
HasChosen (Run a c) h g = HasRunMore a c true h g
HasChosen (Take a) h g = HasTakenMore a h g
