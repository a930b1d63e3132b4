-- Casts with the same roles as others that fit.
use Rattle.act_replay.proofs.Common.{◌≡◌, ◌≢◌, ◌<◌, List, [], length, map, get_or, sym, subst, arith, All, AllPairs, get_or-map, length-map, All-map}
use Rattle.act_replay.proofs.Common.{KindState, ActorSpec, IsLimit, Cast, CallersDiffer, IsFitting, actor_spec}
use Rattle.act_rules.proofs.Elements.{all_of_map}
use Rattle.act_rules.proofs.Lists.{AllPairs-map}

-- ---- what holds of all items, or of each two, and of what is seen of them

module _ {X Y : Type 0} (f : X → Y) where
  pairs_there : (R : Y → Y → Type 0) (xs : List X) → AllPairs R (map f xs) → AllPairs (λ one other. R (f one) (f other)) xs
  pairs_there R xs all = λ i j d before within.
      let inside : j < length (map f xs) = subst (λ n. j < n) (sym (length-map xs f)) within in
      subst (λ it. R it (f (get_or xs j d))) (get_or-map f xs i d (f d) (omega arith))
      (subst (λ it. R (get_or (map f xs) i (f d)) it) (get_or-map f xs j d (f d) within) (all i j (f d) before inside))

-- ---- casts

-- casts fit where others with the same roles do
pub twins_fit : {K J : Type 0} (state : K → KindState) (other : J → KindState) {casts : List (Cast K)} (twins : List (Cast J))
    → map (actor_spec other) twins ≡ map (actor_spec state) casts → IsFitting casts → IsFitting twins
twins_fit state other {casts} twins same fit = record {
  actors = pairs_there (actor_spec other) (λ (one two : ActorSpec). one.actor ≢ two.actor) twins (subst (AllPairs (λ (one two : ActorSpec). one.actor ≢
      two.actor)) (sym same) (AllPairs-map (λ (one two : ActorSpec). one.actor ≢ two.actor) (actor_spec state) casts fit.actors));
  callers = all_of_map (λ (it : ActorSpec). CallersDiffer it.callers) (actor_spec other) twins (subst (All (λ (it : ActorSpec). CallersDiffer it.callers))
      (sym same) (All-map (λ (it : ActorSpec). CallersDiffer it.callers) (actor_spec state) casts fit.callers));
  limits = all_of_map (λ (it : ActorSpec). IsLimit it.pending) (actor_spec other) twins
      (subst (All (λ (it : ActorSpec). IsLimit it.pending)) (sym same) (All-map (λ (it : ActorSpec). IsLimit it.pending) (actor_spec state) casts fit.limits));
}
