-- What a run in threads leaves, and the plays that a whole search saw.
use Rattle.std.specs.Prelude.{◌≡◌, ℕ, Bool, true, false, List, map, None, is_some, All, Contains}
use Rattle.std.specs.Global.{Vec}
use Rattle.std.specs.List.{list_any}
use Rattle.act_types.specs.KindState.{KindState}
use Rattle.act_types.specs.declared.limits.TheConstants.{MAX_ACTORS, MAX_CALLERS}
use Rattle.act_rules.specs.declared.event.Event.TheVariants.{Retire}
use Rattle.act_rules.specs.declared.script.Step.{Step}
use Rattle.act_rules.specs.History.{ActorSpec, History, contains, cast_of, runs_of, is_dead}
use Rattle.act_rules.specs.Report.{one_to}
use Rattle.act_rules.specs.Rules.{refusal_of}
use Rattle.act_early.specs.Plays.{At, next_step}
use Rattle.act_early.specs.Early.{IsWholeSearch}
use Rattle.act_owner.specs.Owner.{OwnerView}
use Rattle.act_actor.specs.declared.cast.Cast.{Cast}
use Rattle.act_actor.specs.Casts.{actor_spec}
use Rattle.act_serve.specs.Served.{EndView, Killed, Retired, Starved, end_id, end_log}
use Rattle.act_plans.specs.Prepared.{HasNumbers}
use Rattle.act_plans.specs.Runs.{plan_of}
use Rattle.act_plans.specs.Setups.{PlansFit}
use Rattle.act_executor.specs.Joined.{IsJoined}
use Rattle.act_executor.specs.Plays.{IsOwnerIn}
use Rattle.act_executor.specs.PlanPlays.{IsPlayedAsPlanned}
use Rattle.act_executor.specs.Runs.{plan_view}

-- the casts and plans of a run: its numbers are those of actors and callers, and each plan is of a caller that some
-- cast names
pub record AreOfARun (casts : List ActorSpec) (plans : List (ℕ × List Step)) : Type 0 where
  pub actors : All (λ cast. Contains (one_to MAX_ACTORS) cast.actor) casts
  pub callers : All (λ cast. All (λ c. Contains (one_to MAX_CALLERS) c) cast.callers) casts
  pub named : All (λ plan. list_any (λ cast. contains plan.0 cast.callers) casts ≡ true) plans

-- casts and plans that fit are, where all numbers are those that ids have, whatever state the kinds are in
abbrev pub WhatFitsIsOfARun : Type 0 → Type 0
WhatFitsIsOfARun K = (state : K → KindState) (casts : List (Cast K)) (plans : List (ℕ × Vec Step)) →
    All HasNumbers casts → PlansFit casts plans → AreOfARun (map (actor_spec state) casts) (map plan_view plans)

-- where the actor was killed, it is dead there; where it retired, it is alive, and can retire
abbrev pub CanEnd : History → EndView → Type 0
CanEnd h (Killed dead) = is_dead dead.id h ≡ true
CanEnd h (Retired retired) = (is_dead retired.id h ≡ false) × (refusal_of h (Retire retired.id) ≡ None)
CanEnd h (Starved dead) = ⊥

-- the actor ran what the history has of it, and can end as it did
pub record CanBeEndIn (h : History) (end : EndView) : Type 0 where
  pub known : is_some (cast_of (end_id end) h) ≡ true
  pub runs : end_log end ≡ runs_of (end_id end) h
  pub ends : CanEnd h end

-- the play is done with the plans, and has the calls, the kept answers and the logs of these callers and actors, which
-- are dead there, or can retire
pub record EndsAsThreads (plans : List (ℕ × List Step)) (early : At) (owners : List OwnerView)
    (ends : List EndView) : Type 0 where
  pub done : (c : ℕ) → next_step (λ d. plan_of d plans) c early ≡ None
  pub callers : All (IsOwnerIn early.history) owners
  pub actors : All (CanBeEndIn early.history) ends

-- whatever a run of the plans in threads leaves, a search that looks at each choice saw a play that ends so; it need
-- try to lose no reply
abbrev pub EachThreadEndIsSeen : Type 0
EachThreadEndIsSeen = (casts : List ActorSpec) (plans : List (ℕ × List Step)) (may_lose : ℕ → Bool) (seen : List At)
    (owners : List OwnerView) (ends : List EndView) → AreOfARun casts plans →
    IsWholeSearch casts (λ c. plan_of c plans) may_lose (Contains seen) →
    IsJoined casts plans owners ends → IsPlayedAsPlanned casts plans owners ends →
    (early : At) × Contains seen early × EndsAsThreads plans early owners ends
