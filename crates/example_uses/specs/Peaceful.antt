-- Plans that end no actor, and what a run of them leaves.
use Rattle.std.specs.Prelude.{◌≡◌, ℕ, ◌<◌, ◌≤◌, Bool, true, false, List, [], ◌∷◌, length, map, Some, None}
use Rattle.std.specs.Global.{Vec}
use Rattle.std.specs.List.{list_all}
use Rattle.actors.specs.Kinds.{KindState, Answer}
use Rattle.actors.specs.Method.{Method}
use Rattle.actors.specs.Method.TheVariants.{Terminate}
use Rattle.actors.specs.Step.{Step}
use Rattle.actors.specs.Step.TheVariants.{Submit, Kill}
use Rattle.actors.specs.Callers.{kept_at, OwnerView}
use Rattle.actors.specs.Rules.{IsAnswerOfRun, ActorSpec, opening, opening_of}
use Rattle.actors.specs.Cast.{Cast}
use Rattle.actors.specs.Actors.{IsFitting, actor_spec}
use Rattle.actors.specs.Threads.{PlansFit, EndView, calls_in, kept_in, log_in, plan_view, IsFault}
use Rattle.actors.specs.Limits.{most_steps}
use Rattle.example_uses.specs.declared.peaceful.Kinds.{Kinds}
use Rattle.example_uses.specs.declared.peaceful.PeaceFault.{PeaceFault}
use Rattle.example_uses.specs.declared.peaceful.PeaceFault.TheVariants.{EndsAnActor, Unfit, Run}

-- whether a method lets its actor live
abbrev pub is_mild : Method → Bool
is_mild Terminate = false
is_mild method = true

-- whether a step ends no actor: it asks for no kill, and calls no `terminate`
abbrev pub is_peaceful : Step → Bool
is_peaceful (Submit actor method args) = is_mild method
is_peaceful (Kill actor) = false
is_peaceful step = true

-- whether no step of any plan ends an actor
abbrev pub are_peaceful : List (ℕ × Vec Step) → Bool
are_peaceful plans = list_all (λ plan. list_all is_peaceful plan.1.items) plans

-- each call of each caller has an answer, which its actor gave at the one place where it ran the call
pub record AllRan (casts : List ActorSpec) (owners : List OwnerView) (ends : List EndView) : Type 0 where
  pub answered : (c k : ℕ) → k < length (calls_in owners c) →
      (answer : Answer) × (kept_at (kept_in owners c) k ≡ Some answer)
      × IsAnswerOfRun (λ a. opening_of a (opening casts)) (log_in ends) c k answer

-- the cast of an actor of this state, for one caller
abbrev pub cast_for : ℕ → ℕ → KindState → ActorSpec
cast_for c a state = record { actor = a; callers = c ∷ []; opening = state; pending = None }

-- the casts of a counter, a table, an account and a list, for one caller
abbrev pub casts_for : {K : Type 0} → (K → KindState) → ℕ → Kinds K → List ActorSpec
casts_for state c kinds = cast_for c 1 (state kinds.counter) ∷ cast_for c 2 (state kinds.table) ∷
    cast_for c 3 (state kinds.account) ∷ cast_for c 4 (state kinds.list) ∷ []

-- which fault comes in peace: that a step ends an actor comes first, then that casts or plans don't fit, and then a
-- fault of the run
abbrev pub IsPeaceFault : {K : Type 0} → (K → KindState) → List (Cast K) → List (ℕ × Vec Step) → PeaceFault → Type 0
IsPeaceFault state casts plans EndsAnActor = are_peaceful plans ≡ false
IsPeaceFault state casts plans Unfit = (are_peaceful plans ≡ true) × (IsFitting casts → PlansFit casts plans → ⊥)
IsPeaceFault state casts plans (Run fault) =
    (are_peaceful plans ≡ true) × IsFitting casts × PlansFit casts plans
    × IsFault (map (actor_spec state) casts) (map plan_view plans) fault

-- which fault comes where one caller does a plan with these actors, which fit: the plan is unfit where it has too many
-- steps
abbrev pub IsServeFault : List ActorSpec → ℕ → List Step → PeaceFault → Type 0
IsServeFault casts c plan EndsAnActor = list_all is_peaceful plan ≡ false
IsServeFault casts c plan Unfit = (list_all is_peaceful plan ≡ true) × (most_steps ≤ length plan)
IsServeFault casts c plan (Run fault) = (list_all is_peaceful plan ≡ true) × (length plan < most_steps)
    × IsFault casts ((c, plan) ∷ []) fault
