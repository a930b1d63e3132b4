-- Which fault a run answers.
use Rattle.act_executor.proofs.Common.{◌≡◌, ℕ, List, [], ◌∷◌, Option, Some, None, Ok, Err, slice_get, sym, subst, refl, arith, All, filter_map, option_map}
use Rattle.act_executor.proofs.Common.{Result, IfErr, IsErrAnd, cons_option, Step, ActorSpec, first_bad, CallerSetup, bad_of_setup, first_bad_plan, RunFault}
use Rattle.act_executor.proofs.Common.{Refusal, IsFault, IsThreadFault, fault_of, All-cons}
use Rattle.act_executor.specs.declared.run.RunFault.TheVariants as fault
use Rattle.act_tasks.specs.declared.Refusal.TheVariants as refusal

-- what is known of an error
pub err_only : {X E : Type 0} (r : Result X E) (P Q : E → Type 0) → IsErrAnd r P → ((e : E) → P e → Q e) → IfErr r Q
err_only (Ok x) P Q is gives = tt
err_only (Err e) P Q is gives = gives e is

pub want_of_memory : (casts : List ActorSpec) (plans : List (ℕ × List Step)) (f : RunFault) → f ≡ fault.NoMemory → IsFault casts plans f
want_of_memory casts plans f is = subst (IsFault casts plans) (sym is) tt

-- a thread's refusal is such a fault
pub refused : {S X : Type 0} (r : Refusal S X) → IsThreadFault (fault_of r)
refused (refusal.NoThread stopped) = tt
refused (refusal.NoMemory starter) = tt

-- a fault of the threads comes where all plans are good
pub of_threads : (casts : List ActorSpec) (plans : List (ℕ × List Step)) (f : RunFault) → first_bad_plan casts plans ≡ None → IsThreadFault f →
    IsFault casts plans f
of_threads casts plans (fault.TooMany) good is = is
of_threads casts plans (fault.BadPlan caller place) good is = absurd is
of_threads casts plans (fault.NoThread) good is = good
of_threads casts plans (fault.NoMemory) good is = tt

-- an option that can't be anything is none
pub none_left : {X : Type 0} (o : Option X) → ((x : X) → o ≡ Some x → ⊥) → o ≡ None
none_left None never = refl
none_left (Some x) never = absurd (never x refl)

-- where no part has a bad step, each part's plan is good
pub all_good : (setups : List CallerSetup) → slice_get (filter_map bad_of_setup setups) 0 ≡ None →
    All (λ (setup : CallerSetup). first_bad setup.actors.items setup.plan.items ≡ None) setups
all_good [] none = λ k d lt. absurd (omega (arith, lt))
all_good (setup ∷ setups) none = go (first_bad setup.actors.items setup.plan.items) refl (all_good setups)
  where
    go : (o : Option ℕ) → first_bad setup.actors.items setup.plan.items ≡ o → (slice_get (filter_map bad_of_setup setups) 0 ≡ None → All (λ (p : CallerSetup).
        first_bad p.actors.items p.plan.items ≡ None) setups) → All (λ (p : CallerSetup). first_bad p.actors.items p.plan.items ≡ None) (setup ∷ setups)
    go None at more =
        let rest : slice_get (filter_map bad_of_setup setups) 0 ≡ None =
        subst (λ x. slice_get (cons_option (option_map (λ place. (setup.caller, place)) x) (filter_map bad_of_setup setups)) 0 ≡ None) at none in
        All-cons (λ (p : CallerSetup). first_bad p.actors.items p.plan.items ≡ None) setup setups at (more rest)
    go (Some place) at more =
        let bad : slice_get (cons_option (option_map (λ n. (setup.caller, n)) (Some place)) (filter_map bad_of_setup setups)) 0 ≡ None =
        subst (λ x. slice_get (cons_option (option_map (λ n. (setup.caller, n)) x) (filter_map bad_of_setup setups)) 0 ≡ None) at none in
        cc
