-- What a run leaves, and why one has no end to show.
use Rattle.std.specs.Prelude.{◌≡◌, ℕ, List, map, Some, None, All}
use Rattle.act_types.specs.KindState.{KindState}
use Rattle.std.specs.Global.{Vec}
use Rattle.act_rules.specs.declared.script.Step.{Step}
use Rattle.act_rules.specs.History.{ActorSpec}
use Rattle.act_rules.specs.Plans.{first_bad}
use Rattle.act_actor.specs.declared.cast.Cast.{Cast}
use Rattle.act_actor.specs.Casts.{actor_spec}
use Rattle.act_plans.specs.Runs.{first_bad_plan}
use Rattle.act_plans.specs.Setups.{AreMatched, HasLimits}
use Rattle.act_plans.specs.Prepared.{by_rising_actor, callers_named_by, setup_view, setup_of, HasNumbers}
use Rattle.act_tasks.specs.declared.Refusal.{Refusal}
use Rattle.act_tasks.specs.declared.Refusal.TheVariants as refusal
use Rattle.act_plans.specs.declared.rising.Prepared.{Prepared}
use Rattle.act_executor.specs.declared.open.Opened.{Opened}
use Rattle.act_executor.specs.Opened.{AreOpened}
use Rattle.act_executor.specs.declared.joined.Ends.{Ends}
use Rattle.act_executor.specs.declared.joined.Joined.{Joined}
use Rattle.act_executor.specs.declared.run.RunFault.{RunFault}
use Rattle.act_executor.specs.Conducts.{Doing}
use Rattle.act_executor.specs.Joins.{AreServed, AreDriven, AreStarters, AreCompared}
use Rattle.act_executor.specs.declared.run.RunFault.TheVariants.{TooMany, BadPlan, NoThread, NoMemory}

-- a caller's plan as a list of steps
abbrev pub plan_view : ℕ × Vec Step → ℕ × List Step
plan_view plan = (plan.0, plan.1.items)

-- a fault that the threads and the memory of the machine give
abbrev pub IsThreadFault : RunFault → Type 0
IsThreadFault NoThread = Unit {0}
IsThreadFault NoMemory = Unit {0}
IsThreadFault fault = ⊥

-- why a thread's refusal ends a run
abbrev pub fault_of : {S X : Type 0} → Refusal S X → RunFault
fault_of (refusal.NoThread stopped) = NoThread
fault_of (refusal.NoMemory starter) = NoMemory

-- which fault comes: a bad plan's first step that would be refused; a thread is missed only where all plans are good
abbrev pub IsFault : List ActorSpec → List (ℕ × List Step) → RunFault → Type 0
IsFault casts plans TooMany = ⊥
IsFault casts plans (BadPlan caller place) = first_bad_plan casts plans ≡ Some (caller, place)
IsFault casts plans NoThread = first_bad_plan casts plans ≡ None
IsFault casts plans NoMemory = Unit {0}

-- lines were opened for what was prepared, all threads ended at them, and their lines were compared
pub record HasRunPlans {K L : Type 0} (state : K → KindState) (does : ℕ → Doing) (prepared : Prepared K)
    (joined : Joined K L) : Type 0 where
  pub opened : Opened
  pub ends : Ends K L
  pub matched : AreMatched prepared.casts.items prepared.setups.items
  pub opening : AreOpened prepared.casts.items prepared.setups.items opened
  pub served : AreServed state opened.lines prepared.casts.items opened.execs.items ends.actors.items
  pub driven : AreDriven opened.lines does prepared.setups.items opened.callers.items ends.callers.items
  pub starters : AreStarters opened.lines.controls.items ends.starters.items
  pub compared : AreCompared state ends joined

-- the casts and the parts of these casts and plans, where no step of a plan would be refused
pub record IsPrepared {K : Type 0} (state : K → KindState) (casts : List (Cast K)) (plans : List (ℕ × Vec Step))
    (prepared : Prepared K) : Type 0 where
  pub rising : prepared.casts.items ≡ by_rising_actor casts
  pub setups_are : map setup_view prepared.setups.items ≡ map (setup_of casts plans) (callers_named_by casts)
  pub matched : AreMatched prepared.casts.items prepared.setups.items
  pub limits : All HasLimits prepared.setups.items
  pub numbers : All HasNumbers casts
  pub fits : All (λ setup. first_bad setup.actors.items setup.plan.items ≡ None) prepared.setups.items
  pub good : first_bad_plan (map (actor_spec state) casts) (map plan_view plans) ≡ None

-- the casts and the plans were prepared, and run
pub record HasRun {K L : Type 0} (state : K → KindState) (does : ℕ → Doing) (casts : List (Cast K))
    (plans : List (ℕ × Vec Step)) (joined : Joined K L) : Type 0 where
  pub prepared : Prepared K
  pub is : IsPrepared state casts plans prepared
  pub run : HasRunPlans state does prepared joined
