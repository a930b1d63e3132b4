-- What a walk decides that doesn't end as steps and lines tell.
use Rattle.act_decisions.proofs.Common.{◌≡◌, ℕ, ◌≤◌, ◌==◌, Bool, true, cond, List, length, map, filter, Some, None, inl, inr, sym, ap, ◌∙◌, arith, Event, Step}
use Rattle.act_decisions.proofs.Common.{ActorSpec, All, IsOk, IsTrue, list_all, length-map, Role, actors_naming, opening, outcomes, first_bad, actor_spec_of}
use Rattle.act_decisions.proofs.Common.{length-filter_least, AreFitting, is_sayable_role, steps_of_caller, ToldEnd, bound_of, bound_is, EndsNowhere, IsBadStep}
use Rattle.act_decisions.proofs.Common.{IsBadIn, Refutes, AllFitSteps, RunsArePlaced, AllDecided, NoValueIsLost, EndsSo, awaits, FollowsTold, HasGoodPlans}
use Rattle.act_decisions.proofs.Common.{IsLined, IsRead, Matches}
use Rattle.act_walks.specs.Whole.{Decides, DoesAllSteps}
use Rattle.act_decisions.proofs.Refuted.{none_misplaced, some_told, walks_decide}
use Rattle.act_decisions.proofs.RolesFit.{fits_casts}
use Rattle.act_decisions.proofs.SaidEnds.{binds}

-- ---- the steps that a caller is bound to

-- they are no more than all steps
pub few_own : (c : ℕ) (steps : List (ℕ × Step × ℕ)) → length (steps_of_caller c steps) ≤ length steps
few_own c steps =
    let one = length-map (filter (λ (s : ℕ × Step × ℕ). s.0 == c) steps) (λ (s : ℕ × Step × ℕ). s.1) in
    let two = length-filter_least (λ (s : ℕ × Step × ℕ). s.0 == c) steps in omega (arith, one, two)

module _ (end : ToldEnd) (steps : List (ℕ × Step × ℕ)) (lines : AllFitSteps end steps) where
  -- a caller that is bound to steps awaits an answer, and they are its own
  pub own_steps : (c : ℕ) (plan : List Step) → 1 ≤ c → c ≤ 16 → bound_of end c ≡ Some plan → (awaits c steps ≡ true) × (plan ≡ steps_of_caller c steps)
  own_steps c plan some few bound = let line = lines c some few in binds c steps plan (sym line.2.bound ∙ sym (bound_is end c line.1) ∙ bound)

  pub bad_step_of : (casts : List ActorSpec) (c place : ℕ) → 1 ≤ c → c ≤ 16 → IsBadIn end casts c place → IsBadStep casts steps c place
  bad_step_of casts c place some few is =
      let own = own_steps c is.plan some few is.bound in
      record { awaits = own.0; bad = ap (λ plan. first_bad (actors_naming c casts) plan) (sym own.1) ∙ is.bad }

  -- ---- where a walk ends so

  -- a caller that awaits is bound to its steps
  bound_own : (c : ℕ) → 1 ≤ c → c ≤ 16 → awaits c steps ≡ true → bound_of end c ≡ Some (steps_of_caller c steps)
  bound_own c some few awaited =
      let line = lines c some few in bound_is end c line.1 ∙ line.2.bound ∙ ap (λ b. cond b (Some (steps_of_caller c steps)) None) awaited

  pub ends_so : (casts : List ActorSpec) (rest : List ℕ) (walk : List Event) → All IsOk (outcomes (opening casts) walk) →
      ((c : ℕ) (plan : List Step) → bound_of end c ≡ Some plan → DoesAllSteps casts c plan walk) → Matches casts steps rest walk → EndsSo casts steps walk rest
  ends_so casts rest walk accepted does matches = record {
    accepted = accepted;
    shown = matches.shown;
    calls = matches.calls;
    does = λ c some few awaited. does c (steps_of_caller c steps) (bound_own c some few awaited);
  }

  -- ---- where it doesn't

  module _ (roles : List Role) (rest : List ℕ) (walk : List Event) (is_done : Bool) (fitting : AreFitting (map actor_spec_of roles))
      (said : IsTrue (list_all is_sayable_role roles)) (plans : HasGoodPlans end roles)
      (decides : Decides end (map actor_spec_of roles) walk is_done)
      (unlike : is_done ≡ true → Matches (map actor_spec_of roles) steps rest walk → ⊥) where
    abbrev casts_of : List ActorSpec
    casts_of = map actor_spec_of roles

    follows : IsLined end roles rest → FollowsTold end casts_of walk
    follows lined told some fits =
        let is = decides told some fits (fits_casts end roles lined.callers said plans fitting lined.within) in (is.1.leaves, is.1.retired)

    read : IsLined end roles rest → RunsArePlaced end → AllDecided casts_of end → NoValueIsLost casts_of end → IsRead end roles steps rest
    read lined placed decided lost = record { lined = lined; plans = plans; lines = lines; placed = placed; decided = decided; lost = lost }

    pub nowhere : Refutes end roles rest walk → EndsNowhere casts_of steps rest
    nowhere (lined, inl wrong) events sayable so = none_misplaced roles steps rest end events said sayable lined so wrong
    nowhere (lined, inr (placed, decided, lost, walk_sayable)) events sayable so =
        let is_read = read lined placed decided lost in
        let some = some_told roles steps rest end events walk said sayable walk_sayable is_read so in
        let done = decides some.0 some.1 some.2 (fits_casts end roles lined.callers said plans fitting lined.within) in
        unlike done.0 (walks_decide roles steps rest end events walk said sayable walk_sayable is_read so (follows lined))
