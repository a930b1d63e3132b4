-- The casts of a run fit: what the law of plays asks of them.
use Rattle.act_executor.proofs.Common.{◌≢◌, ℕ, zero, suc, ◌≤◌, List, map, All, AllPairs, Contains, subst, arith, All-nil, All-push, All-weaker, All-map}
use Rattle.act_executor.proofs.Common.{KindState, MAX_ACTORS, MAX_CALLERS, ActorSpec, one_to, AllPairs-map, Cast, IsFitting, actor_spec, HasNumbers, SpecsFit}

-- the numbers from 1 on
all_within : (n : ℕ) → All (λ m. (1 ≤ m) × (m ≤ n)) (one_to n)
all_within zero = All-nil (λ m. (1 ≤ m) × (m ≤ 0))
all_within (suc n) = All-push (λ m. (1 ≤ m) × (m ≤ suc n)) (one_to n) (suc n) (All-weaker (λ m. (1 ≤ m) × (m ≤ n)) (λ m. (1 ≤ m) × (m ≤ suc n))
    (λ m is. let below = is.1 in (is.0, omega (arith, below))) (one_to n) (all_within n)) (omega arith, omega arith)

-- a number up to a limit
pub within : (n m : ℕ) → Contains (one_to n) m → (1 ≤ m) × (m ≤ n)
within n m is = subst (λ k. (1 ≤ k) × (k ≤ n)) is.2 (all_within n is.0 m is.1)

pub specs_fit : {K : Type 0} (state : K → KindState) (casts : List (Cast K)) → IsFitting casts → All HasNumbers casts → SpecsFit (map (actor_spec state) casts)
specs_fit state casts fit numbers = record {
  actors_differ = AllPairs-map (λ (one other : ActorSpec). one.actor ≢ other.actor) (actor_spec state) casts fit.actors;
  callers_differ = All-map (λ (cast : ActorSpec). AllPairs (λ one other. one ≢ other) cast.callers) (actor_spec state) casts fit.callers;
  actors = All-map (λ (cast : ActorSpec). cast.actor ≤ MAX_ACTORS) (actor_spec state) casts (λ k d lt. (within MAX_ACTORS _ (numbers k d lt).actor).1);
  callers = All-map (λ (cast : ActorSpec). All (λ c. (1 ≤ c) × (c ≤ MAX_CALLERS)) cast.callers) (actor_spec state) casts (λ k d lt. All-weaker
      (λ c. Contains (one_to MAX_CALLERS) c) (λ c. (1 ≤ c) × (c ≤ MAX_CALLERS)) (λ c is. within MAX_CALLERS c is) _ (numbers k d lt).callers);
}
