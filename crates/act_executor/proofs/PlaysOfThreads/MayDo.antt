-- What each thread may do, at each of its steps.
use Rattle.act_executor.proofs.Common.{◌≡◌, ℕ, ◌≤◌, List, [], ◌∷◌, ◌++◌, Some, All, refl, sym, subst, arith, Contains, append-nil, append_assoc, steps_in}
use Rattle.act_executor.proofs.Common.{cast_at, ActorSpec, IsNamed, Site, Caller, Actor, Action, MayDo, MayDoAll, left_by, opened_of, ActorMayDoAll}
use Rattle.act_executor.proofs.Common.{CallerMayDoAll, after_all-append, SpecsFit, Threads, AreBelow, site_number, contains, eqb-true, ◌==◌, all_in, any_is}
use Rattle.act_executor.proofs.Common.{contains_is, found_is}

-- ---- by the machines of a caller and of an actor

-- a named caller that may do all of some steps, after those before
pub caller_may_all : (casts : List ActorSpec) (c : ℕ) (before steps : List Action) → IsNamed casts c → CallerMayDoAll (left_by casts c before) steps →
    MayDoAll casts (Caller c) before steps
caller_may_all casts c before [] named may = tt
caller_may_all casts c before (step ∷ steps) named may = (
  (named, may.0),
  caller_may_all casts c (before ++ step ∷ []) steps named
      (subst (λ owner. CallerMayDoAll owner steps) (sym (after_all-append (opened_of c casts) before (step ∷ []))) may.1),
)

pub caller_of_all : (casts : List ActorSpec) (c : ℕ) (before steps : List Action) → MayDoAll casts (Caller c) before steps →
    CallerMayDoAll (left_by casts c before) steps
caller_of_all casts c before [] may = tt
caller_of_all casts c before (step ∷ steps) may = (
  may.0.1,
  subst (λ owner. CallerMayDoAll owner steps) (after_all-append (opened_of c casts) before (step ∷ []))
      (caller_of_all casts c (before ++ step ∷ []) steps may.1),
)

pub actor_may_all : (casts : List ActorSpec) (a : ℕ) {cast : ActorSpec} (before steps : List Action) → cast_at a casts ≡ Some cast →
    ActorMayDoAll a cast.callers before steps → MayDoAll casts (Actor a) before steps
actor_may_all casts a before [] at may = tt
actor_may_all casts a {cast} before (step ∷ steps) at may = ((cast, at, may.0), actor_may_all casts a (before ++ step ∷ []) steps at may.1)

-- ---- at one step

-- who may do all of some steps may do each after those before it
pub may_at : (casts : List ActorSpec) (site : Site) (before front later : List Action) (step : Action) → MayDoAll casts site before (front ++ step ∷ later) →
    MayDo casts site (before ++ front) step
may_at casts site before [] later step may = subst (λ l. MayDo casts site l step) (sym (append-nil before)) may.0
may_at casts site before (one ∷ front) later step may =
    subst (λ l. MayDo casts site l step) (append_assoc before (one ∷ []) front) (may_at casts site (before ++ one ∷ []) front later step may.1)

-- nothing is contained in an empty list
pub contains_none : {A : Type 0} (x : A) (P : Type 0) → Contains [] x → P
contains_none x P has = absurd (let below = has.1 in omega arith)

-- ---- no numbers but those of casts

caller_small : (casts : List ActorSpec) (c : ℕ) → SpecsFit casts → IsNamed casts c → c ≤ 16
caller_small casts c fit named =
    let one = any_is (λ (cast : ActorSpec). contains c cast.callers) casts named in
    let callers = all_in (λ (cast : ActorSpec). All (λ d. (1 ≤ d) × (d ≤ 16)) cast.callers) fit.callers one.1.inside in
    (all_in (λ d. (1 ≤ d) × (d ≤ 16)) callers (contains_is c one.0.callers one.1.passes)).1

actor_small : (casts : List ActorSpec) (a : ℕ) (cast : ActorSpec) → SpecsFit casts → cast_at a casts ≡ Some cast → a ≤ 8
actor_small casts a cast fit at =
    let one = found_is (λ (x : ActorSpec). x.actor == a) casts at in
    subst (λ n. n ≤ 8) (eqb-true cast.actor a one.passes) (all_in (λ (x : ActorSpec). x.actor ≤ 8) fit.actors one.inside)

-- who may do something has a small number
site_small : (casts : List ActorSpec) (site : Site) (before : List Action) (action : Action) → SpecsFit casts → MayDo casts site before action →
    site_number site ≤ 16
site_small casts (Caller c) before action fit may = caller_small casts c fit may.0
site_small casts (Actor a) before action fit may = let small = actor_small casts a may.0 fit may.1 in omega (arith, small)

pub threads_below : (casts : List ActorSpec) (threads : Threads) → SpecsFit casts → ((site : Site) → MayDoAll casts site [] (steps_in (threads site))) →
    AreBelow 17 threads
threads_below casts threads fit may site past = go (threads site) refl (may site)
  where
    go : (trace : List (ℕ × Action)) → threads site ≡ trace → MayDoAll casts site [] (steps_in trace) → threads site ≡ []
    go [] is may = is
    go (x ∷ trace) is may = let small = site_small casts site [] x.1 fit may.0 in absurd (omega (arith, small, past))
