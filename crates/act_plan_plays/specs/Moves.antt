-- What is done without a choice, and when nothing of it is left.
use Rattle.std.specs.Prelude.{◌≡◌, ℕ, ◌&&◌, Bool, true, false, nat_lt, List, slice_get, find, Option, Some, None, is_some, is_none, Contains}
use Rattle.std.specs.Option.{option_map_or}
use Rattle.std.specs.List.{list_all}
use Rattle.act_types.specs.declared.limits.TheConstants.{MAX_COPIES}
use Rattle.act_rules.specs.declared.history.Post.TheVariants.{Death as DeathPost}
use Rattle.act_rules.specs.declared.history.Submission.{Submission}
use Rattle.act_rules.specs.declared.script.Step.{Step}
use Rattle.act_rules.specs.declared.script.Step.TheVariants.{Submit, Copy, Release, Kill, Await}
use Rattle.act_rules.specs.History.{ActorSpec, History, contains, actors_naming, names, cast_of, calls_of, copies_of, kept_of, is_dead, is_ended, has_letter}
use Rattle.act_rules.specs.Rules.{call_letter}
use Rattle.act_rules.specs.Submissions.{copies_held, kept_at, is_known}
use Rattle.act_handles.specs.Handles.{copies_in}
use Rattle.act_owner.specs.Owner.{OwnerView, refusal_to_submit}
use Rattle.act_plans.specs.declared.rising.CallerSetup.{CallerSetup}
use Rattle.act_world.specs.View.{WorldView, stage_in}
use Rattle.act_world.specs.Slots.{is_live_slot, is_dead_slot, has_next_in_slot}
use Rattle.act_early.specs.Plays.{At, next_step, MayTake}
use Rattle.act_early.specs.Fronts.{HaveSameChoices}
use Rattle.act_plan_plays.specs.declared.choice.Choice.{Choice}
use Rattle.act_plan_plays.specs.declared.choice.Choice.TheVariants.{Run}
use Rattle.act_plan_plays.specs.Parts.{Parts, IsBehind, HasAsked, after_move, Stands}
use Rattle.act_plan_plays.specs.Play.{IsPart}

-- ---- what a caller may do

-- how many copies of the handle the caller holds
abbrev pub held : OwnerView → ℕ → ℕ
held owner a = copies_held (copies_in a owner.handles)

-- whether the caller may take the step
abbrev pub may_take : OwnerView → Step → Bool
may_take owner (Submit a method args) = is_none (refusal_to_submit owner a args)
may_take owner (Copy a) = nat_lt 0 (held owner a) && nat_lt (held owner a) MAX_COPIES
may_take owner (Release a) = nat_lt 0 (held owner a)
may_take owner (Kill a) = nat_lt 0 (held owner a)
may_take owner (Await k) = is_some (kept_at owner.kept k)

-- whether the world shows a dead actor
abbrev pub shows_dead : WorldView → ℕ → Bool
shows_dead world a = option_map_or is_dead_slot (stage_in world a) false

-- whether the world shows a running actor
abbrev pub shows_live : WorldView → ℕ → Bool
shows_live world a = option_map_or is_live_slot (stage_in world a) false

-- whether the world shows a running actor to which the caller's next call has come
abbrev pub shows_next : WorldView → ℕ → ℕ → Bool
shows_next world a c = option_map_or (has_next_in_slot c) (stage_in world a) false

-- whether the caller leaves the step out: the kill of a dead actor of its own
abbrev pub is_left_out : WorldView → OwnerView → Step → Bool
is_left_out world owner (Kill a) = shows_dead world a && is_some (copies_in a owner.handles)
is_left_out world owner step = false

-- ---- when a caller does nothing more

-- neither may take its next step, nor lets a handle go
abbrev pub HasNoStep : WorldView → OwnerView → List ℕ → Option Step → Type 0
HasNoStep world owner actors None = find (λ a. nat_lt 0 (held owner a)) actors ≡ None
HasNoStep world owner actors (Some step) = (may_take owner step ≡ false) × (is_left_out world owner step ≡ false)

-- nothing is left of the caller's that is no choice
pub record IsDone (plans : ℕ → List Step) (c : ℕ) (at : At) : Type 0 where
  pub waits : (step : Step) → next_step plans c at ≡ Some step → MayTake c step at.history → ⊥
  pub needs : (a : ℕ) → next_step plans c at ≡ Some (Kill a) → names c (cast_of a at.history) ≡ true →
      is_dead a at.history ≡ false
  pub closed : (a : ℕ) → next_step plans c at ≡ None → names c (cast_of a at.history) ≡ true →
      copies_of c a at.history ≡ Some 0
  pub sent : (k : ℕ) (call : Submission) → slice_get (calls_of c at.history) k ≡ Some call →
      kept_at (kept_of c at.history) k ≡ None → list_all (is_known (kept_of c at.history)) call.args ≡ true →
      is_ended call.actor at.history ≡ false →
      has_letter (call_letter c k call at.history) at.history.arrived ≡ true
  pub told : (a : ℕ) → is_dead a at.history ≡ true → names c (cast_of a at.history) ≡ true →
      Contains at.history.collected (DeathPost c a)

-- ---- the choices

-- each run of a call that has come stands among the choices
abbrev pub AllRuns : List ActorSpec → WorldView → List Choice → Type 0
AllRuns casts world choices = (a c : ℕ) → contains a (actors_naming c casts) ≡ true → shows_next world a c ≡ true →
    Contains choices (Run a c)

-- ---- a move

-- the caller took the step, though it isn't counted yet
pub record HasDone (casts : List ActorSpec) (h : History) (c : ℕ) (step : Step) (new : Parts) : Type 0 where
  pub may : MayTake c step h
  pub behind : IsBehind casts (after_move c step h) new.world new.events
  pub asked : HasAsked (after_move c step h) new.asked

abbrev pub Does : ℕ → Step → Parts → Parts → Type 0
Does c step old new = (casts : List ActorSpec) (h : History) → IsBehind casts h old.world old.events →
    HasAsked h old.asked → HasDone casts h c step new

-- the parts went on without a choice, by what the caller of this part does
abbrev pub Moves : CallerSetup → Parts → Parts → Type 0
Moves setup old new = (casts : List ActorSpec) (plans : ℕ → List Step) (at : At) → Stands casts plans at old →
    IsPart casts plans setup → (next : At) × Stands casts plans next new × HaveSameChoices at.history next.history
