-- The parts that are prepared hold the plans.
use Rattle.act_plan_plays.proofs.Common.{◌≡◌, ℕ, zero, suc, Bool, true, false, if◌then◌else◌, List, [], ◌∷◌, map, Some, All, refl, sym, ◌∙◌, ap, subst, arith}
use Rattle.act_plan_plays.proofs.Common.{Contains, ◌==◌, ◌||◌, find, filter, list_any, Vec, eqb-true, KindState, Step, ActorSpec, contains, one_to}
use Rattle.act_plan_plays.proofs.Common.{list_any-map, Cast, actor_spec, CallerSetup, PlansFit, setup_view, setup_of, callers_named_by, HasNumbers, plan_in}
use Rattle.act_plan_plays.proofs.Common.{steps_given, setups_view, plans_are, actors_are, plan_of_view, HoldPlans, plans_given}

-- ---- the numbers of callers

among : (P : ℕ → Type 0) (xs : List ℕ) (c : ℕ) → All P xs → contains c xs ≡ true → P c
among P [] c all there = cc
among P (x ∷ xs) c all there = go (x == c) refl (among P xs c (λ k d below. all (suc k) d (omega arith))) there
  where
    go : (b : Bool) → (x == c) ≡ b → (contains c xs ≡ true → P c) → (b || contains c xs) ≡ true → P c
    go true same rest there = subst P (eqb-true x c same) (all 0 0 (omega arith))
    go false other rest there = rest there

numbered : {K : Type 0} (c : ℕ) (casts : List (Cast K)) → All HasNumbers casts → list_any (λ (cast : Cast K). contains c cast.callers) casts ≡ true
    → Contains (one_to 16) c
numbered c [] all named = cc
numbered {K = K} c (cast ∷ casts) all named = go (contains c cast.callers) refl (numbered c casts (λ k d below. all (suc k) d (omega arith))) named
  where
    go : (b : Bool) → contains c cast.callers ≡ b → (list_any (λ (cast : Cast K). contains c cast.callers) casts ≡ true → Contains (one_to 16) c)
        → (b || list_any (λ (cast : Cast K). contains c cast.callers) casts) ≡ true → Contains (one_to 16) c
    go true is rest named = among (λ c. Contains (one_to 16) c) cast.callers c (all 0 cast (omega arith)).callers is
    go false is rest named = rest named

kept : (p : ℕ → Bool) (xs : List ℕ) (c : ℕ) → Contains xs c → p c ≡ true → Contains (filter p xs) c
kept p [] c has passes = absurd (let below = has.1 in omega arith)
kept p (x ∷ xs) c (zero, below, is) passes = first (p x) (ap p is ∙ passes)
  where
    first : (b : Bool) → b ≡ true → Contains (if b then x ∷ filter p xs else filter p xs) c
    first true e = (zero, omega arith, is)
    first false e = cc
kept p (x ∷ xs) c (suc i, below, is) passes = further (p x) (kept p xs c (i, omega arith, is) passes)
  where
    further : (b : Bool) → Contains (filter p xs) c → Contains (if b then x ∷ filter p xs else filter p xs) c
    further true has = (suc has.0, omega (arith, has.1), has.2)
    further false has = has

-- ---- whoever is no caller has no plan

no_plan : {K : Type 0} (c : ℕ) (casts : List (Cast K)) (plans : List (ℕ × Vec Step)) → All (λ (plan : ℕ × Vec Step). list_any (λ (cast : Cast K). contains
    plan.0 cast.callers) casts ≡ true) plans → list_any (λ (cast : Cast K). contains c cast.callers) casts ≡ false → plan_in c plans ≡ []
no_plan c casts [] all none = refl
no_plan {K = K} c casts (plan ∷ plans) all none = go (plan.0 == c) refl (no_plan c casts plans (λ k d below. all (suc k) d (omega arith)) none)
  where
    go : (b : Bool) → (plan.0 == c) ≡ b → plan_in c plans ≡ [] → steps_given (if b then Some plan else find (λ (plan : ℕ × Vec Step). plan.0 == c) plans) ≡ []
    go false other rest = rest
    go true same rest =
        let named : list_any (λ (cast : Cast K). contains plan.0 cast.callers) casts ≡ true = all 0 plan (omega arith) in
        let bad : true ≡ false = sym (subst (λ x. list_any (λ (cast : Cast K). contains x cast.callers) casts ≡ true) (eqb-true plan.0 c same) named)
        ∙ none in
        cc

-- ---- all of it

pub prepared_hold : {K : Type 0} (state : K → KindState) (casts : List (Cast K)) (plans : List (ℕ × Vec Step)) (setups : List CallerSetup)
    → PlansFit casts plans → All HasNumbers casts
    → map setup_view setups ≡ map (setup_of casts plans) (callers_named_by casts) → HoldPlans (map (actor_spec state) casts) (plans_given plans) setups
prepared_hold {K = K} state casts plans setups fit numbers is = record {
  parts = λ k d below. record { plan = sym (plans_are state casts plans setups is k d below); actors = actors_are state casts plans setups is k d below };
  named = λ c named. subst (λ l. Contains l c) (sym (setups_view state casts plans setups is)) (kept (λ c. list_any
      (λ (cast : ActorSpec). contains c cast.callers) (map (actor_spec state) casts)) (one_to 16) c (numbered c casts numbers (sym (same c) ∙ named)) named);
  others = λ c none. plan_of_view c plans ∙ no_plan c casts plans fit.named (sym (same c) ∙ none);
}
  where
    same : (c : ℕ) → list_any (λ (cast : ActorSpec). contains c cast.callers) (map (actor_spec state) casts) ≡ list_any
        (λ (cast : Cast K). contains c cast.callers) casts
    same c = list_any-map (λ (cast : ActorSpec). contains c cast.callers) (actor_spec state) casts
