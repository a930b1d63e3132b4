-- What a fault tells.
use Rattle.act_service.proofs.Common.{◌≡◌, ℕ, List, [], ◌∷◌, Some, None, slice_get, map, refl, sym, ap, subst, filter_map, KindState, Step, ActorSpec}
use Rattle.act_service.proofs.Common.{first_bad, Cast, actor_spec, SessionView, bad_step_of, callers_of_casts, first_bad_plan, RunFault, IsFault, IsThreadFault}
use Rattle.act_service.proofs.Common.{EpochFault, Run, Service, BadCodes, Known, Given, HaveLed, LeadsOn, IsUnderWay, IsEpochFault, IsFaultAt, IsFaultOfCodes}
use Rattle.act_service.proofs.Common.{IsOfService}
use Rattle.act_executor.specs.declared.run.RunFault.TheVariants as run
use Rattle.act_service.proofs.Leading.{carried}

-- ---- without plans none is bad

no_steps : (actors : List ℕ) → first_bad actors [] ≡ None
no_steps actors = refl

none_bad : (casts : List ActorSpec) (cs : List ℕ) → filter_map (bad_step_of casts []) cs ≡ []
none_bad casts [] = refl
none_bad casts (c ∷ cs) = none_bad casts cs

pub without_plans : (casts : List ActorSpec) {plans : List (ℕ × List Step)} (f : RunFault) → plans ≡ [] → IsFault casts plans f → IsThreadFault f
without_plans casts (run.TooMany) none is = is
without_plans casts (run.BadPlan caller place) none is =
    let good : first_bad_plan casts [] ≡ None = ap (λ l. slice_get l 0) (none_bad casts (callers_of_casts casts)) in
    let bad : first_bad_plan casts [] ≡ Some (caller, place) = subst (λ l. first_bad_plan casts l ≡ Some (caller, place)) none is in absurd (cc)
without_plans casts (run.NoThread) none is = tt
without_plans casts (run.NoMemory) none is = tt

-- ---- faults of an epoch, and of all

module _ {C E : Type 0} (tells : C → SessionView → SessionView → Type 0) (before later : Known C) (here : List ActorSpec) where
  -- memory was refused
  pub want_of_memory : (left : List ActorSpec) → LeadsOn tells before later here left → (f : EpochFault E) → f ≡ Run (run.NoMemory)
      → IsFaultAt tells before later here f
  want_of_memory left leads f is = subst (λ g. IsFaultAt tells before later here g) (sym is) (tt, (left, leads))

  -- a run failed
  pub of_run : (left : List ActorSpec) → LeadsOn tells before later here left → (e : RunFault) → IsThreadFault e → (f : EpochFault E) → f ≡ Run e
      → IsFaultAt tells before later here f
  of_run left leads e thread f is = subst (λ g. IsFaultAt tells before later here g) (sym is) (thread, (left, leads))

  -- the service failed
  pub of_service : (f : EpochFault E) → IsOfService f → IsFaultAt tells before later here f
  of_service (Service fault) is = tt
  of_service f is = absurd is

module _ {K C E : Type 0} (state : K → KindState) (tells : C → SessionView → SessionView → Type 0) (gave : Given C) (knows : Known C)
    (casts : List ActorSpec) where
  -- a fault of an epoch
  pub of_epoch : {before : Known C} {here : List ActorSpec} → HaveLed tells before casts here → (f : EpochFault E) →
      IsFaultAt tells before (IsUnderWay knows gave) here f → IsEpochFault state tells gave knows casts f
  of_epoch led (Run fault) is = (is.0, (is.1.0, is.1.1 casts led))
  of_epoch led (Service fault) is = tt
  of_epoch led (BadCodes) is = absurd is

  -- codes that don't fit
  pub of_codes : {before : Known C} (here : List (Cast K)) → HaveLed tells before casts (map (actor_spec state) here) → (f : EpochFault E) →
      IsFaultOfCodes state before gave here f → IsEpochFault state tells gave knows casts f
  of_codes here led (Run fault) is = absurd is
  of_codes here led (Service fault) is = tt
  of_codes {before} here led (BadCodes) is = record
      { left = here; codes = is.0; led = carried tells before (gave (Some is.0)) (map (actor_spec state) here) is.1 casts led; unfit = is.2 }
