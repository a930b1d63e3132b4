-- The callers at the opening.
use Rattle.act_world.proofs.Common.{◌≡◌, ◌≢◌, ℕ, suc, ◌+◌, ◌<◌, Bool, true, false, List, [], ◌∷◌, ◌++◌, length, map, filter, take, Option, Some, None, is_some}
use Rattle.act_world.proofs.Common.{All, AllPairs, get_or, inl, inr, refl, ap, sym, ◌∙◌, subst, arith, ◌==◌, ◌||◌, if◌then◌else◌, find, position}
use Rattle.act_world.proofs.Common.{option_and_then, unwrap_or, slice_get, replicate, eqb_tells, append-nil, get_or-map, length-map, take_more}
use Rattle.act_world.proofs.Common.{flat_map-append, All-tail, All-map, All-filter, find-append, list_any-append, AllPairs-filter, KindState, IsLimit, opening}
use Rattle.act_world.proofs.Common.{contains, cast_of, names, is_caller, copies-opened, given-opened, find-Some, find-None, Cast, ActorsDiffer, none_dead}
use Rattle.act_world.proofs.Common.{IsOwnerAt, IsOwnerOf, actor_spec, actor_limit, callers_named, limits_that_name, HasOwners, append_assoc, or-false, eq-eqb}
use Rattle.act_world.proofs.Common.{ActorSpec, OwnerView, opened_with, is_owner, contains_push, limit_above}
use Rattle.act_lists.proofs.Options.{or_nothing}

-- ---- the actors of a caller

differ_map : {X Y : Type 0} (f : X → Y) (g : Y → ℕ) (xs : List X) → AllPairs (λ one other. g (f one) ≢ g (f other)) xs →
    AllPairs (λ one other. g one ≢ g other) (map f xs)
differ_map f g [] pairs i j d below within same = absurd (omega arith)
differ_map f g (x ∷ xs) pairs i j d below within same =
    let long : length (map f (x ∷ xs)) ≡ length (x ∷ xs) = length-map (x ∷ xs) f in
    let second : j < length (x ∷ xs) = omega arith in let first : i < length (x ∷ xs) = omega arith in
    pairs i j x below second (ap g (sym (get_or-map f (x ∷ xs) i x d first)) ∙ same ∙ ap g (get_or-map f (x ∷ xs) j x d second))

-- no actor stands twice among those that name a caller
pub actors_differ : {K : Type 0} (c : ℕ) (casts : List (Cast K)) → ActorsDiffer casts → AllPairs (λ one other. one.0 ≢ other.0) (limits_that_name c casts)
actors_differ {K} c casts differ =
    differ_map (λ cast. actor_limit cast) (λ (limit : ℕ × Option ℕ). limit.0) (filter (λ cast. contains c cast.callers) casts)
    (AllPairs-filter (λ (one other : Cast K). one.actor ≢ other.actor) (λ cast. contains c cast.callers) casts differ)

-- and none has the limit 0
pub limits_fit : {K : Type 0} (c : ℕ) (casts : List (Cast K)) → All (λ cast. IsLimit cast.pending) casts →
    All (λ limit. limit.1 ≢ Some 0) (limits_that_name c casts)
limits_fit {K} c casts fit =
    All-map (λ (limit : ℕ × Option ℕ). limit.1 ≢ Some 0) (λ cast. actor_limit cast) (filter (λ cast. contains c cast.callers) casts)
    (All-filter (λ (cast : Cast K). contains c cast.callers) (λ (cast : Cast K). cast.pending ≢ Some 0) casts
    (λ i d within. limit_above (get_or casts i d).pending (fit i d within)))

-- ---- a caller more

seen : (c : ℕ) (owners : List OwnerView) (place : Option ℕ) → position (is_owner c) owners ≡ place → is_some (find (is_owner c) owners) ≡ is_some place
seen c owners None at = rw (find-None (is_owner c) owners at) refl
seen c owners (Some i) at = rw (find-Some (is_owner c) owners (opened_with c []) at) refl

-- a caller has a place where it is one of these
listed : {K : Type 0} (casts : List (Cast K)) (callers : List ℕ) (owners : List OwnerView) (c : ℕ) → HasOwners casts callers owners →
    is_some (position (is_owner c) owners) ≡ contains c callers
listed casts callers owners c has = sym (seen c owners (position (is_owner c) owners) refl) ∙ ap is_some (has c) ∙ there (contains c callers)
  where
    there : (b : Bool) → is_some (if b then Some (opened_with c (limits_that_name c casts)) else None) ≡ b
    there true = refl
    there false = refl

-- one that was there
pub owner_known : {K : Type 0} (casts : List (Cast K)) (callers : List ℕ) (owners : List OwnerView) (c : ℕ) → is_some (position (is_owner c) owners) ≡ true
    → HasOwners casts callers owners → HasOwners casts (callers ++ c ∷ []) owners
owner_known casts callers owners c there has d =
    let is_in : contains c callers ≡ true = sym (listed casts callers owners c has) ∙ there in
    elim (eqb_tells c d) [
      | inl t ↦ let e : contains d callers ≡ true = subst (λ x. contains x callers ≡ true) t.1 is_in in rw (contains_push d c callers, e) (rw e at (has d))
      | inr f ↦ rw (contains_push d c callers, f.0, or-false (contains d callers)) (has d)
    ]

-- one that is new
pub owner_new : {K : Type 0} (casts : List (Cast K)) (callers : List ℕ) (owners : List OwnerView) (c : ℕ) → is_some (position (is_owner c) owners) ≡ false
    → HasOwners casts callers owners → HasOwners casts (callers ++ c ∷ []) (owners ++ opened_with c (limits_that_name c casts) ∷ [])
owner_new casts callers owners c absent has d =
    let one = opened_with c (limits_that_name c casts) in
    let is_out : contains c callers ≡ false = sym (listed casts callers owners c has) ∙ absent in
    elim (eqb_tells c d) [
      | inl t ↦
          subst (λ x. find (is_owner x)
          (owners ++ one ∷ []) ≡ (if contains x (callers ++ c ∷ []) then Some (opened_with x (limits_that_name x casts)) else None)) t.1
          (rw (find-append (is_owner c) owners (one ∷ []), contains_push c c callers, has c, is_out, eq-eqb c c refl) refl)
      | inr f ↦
          rw (find-append (is_owner d) owners (one ∷ []), contains_push d c callers, f.0, or-false (contains d callers), or_nothing (find (is_owner d) owners))
          (has d)
    ]

-- ---- the callers of the opening

pub differ_tail : {K : Type 0} (cast : Cast K) (casts : List (Cast K)) → ActorsDiffer (cast ∷ casts) → ActorsDiffer casts
differ_tail cast casts differ = λ i j d below within. differ (suc i) (suc j) d (omega arith) (omega arith)

pub differ_head : {K : Type 0} (cast : Cast K) (casts : List (Cast K)) → ActorsDiffer (cast ∷ casts) → All (λ other. cast.actor ≢ other.actor) casts
differ_head cast casts differ = λ k d within. differ 0 (suc k) d (omega arith) (omega arith)

-- an actor that stands in no cast has no limit
no_limit : {K : Type 0} (a c : ℕ) (casts : List (Cast K)) → All (λ cast. a ≢ cast.actor) casts → find (λ limit. limit.0 == a) (limits_that_name c casts) ≡ None
no_limit a c [] all = refl
no_limit {K} a c (cast ∷ casts) all =
    let rest = no_limit a c casts (All-tail (λ (cast : Cast K). a ≢ cast.actor) cast casts all) in
    elim (eqb_tells cast.actor a) [
      | inl t ↦ absurd (all 0 cast (omega arith) (sym t.1))
      | inr f ↦ elim (contains c cast.callers) as (λ b. find (λ (limit : ℕ × Option ℕ). limit.0 == a) (map (λ cast. actor_limit cast)
          (if b then cast ∷ filter (λ cast. contains c cast.callers) casts else filter (λ cast. contains c cast.callers) casts)) ≡ None) [
            | true ↦ rw f.0 rest
            | false ↦ rest
          ]
    ]

-- an actor with its limit, where its cast names the caller
abbrev limit_at : ℕ → Option ActorSpec → Option (ℕ × Option ℕ)
limit_at c None = None
limit_at c (Some cast) = if contains c cast.callers then Some (cast.actor, cast.pending) else None

limit_found : {K : Type 0} (state : K → KindState) (a c : ℕ) (casts : List (Cast K)) → ActorsDiffer casts
    → find (λ limit. limit.0 == a) (limits_that_name c casts) ≡ limit_at c (cast_of a (opening (map (actor_spec state) casts)))
limit_found state a c [] differ = refl
limit_found {K} state a c (cast ∷ casts) differ =
    let others = filter (λ (cast : Cast K). contains c cast.callers) casts in
    let rest = limit_found state a c casts (differ_tail cast casts differ) in
    elim (eqb_tells cast.actor a) [
      | inl t ↦
          let none = no_limit a c casts (λ k d within same. differ_head cast casts differ k d within (t.1 ∙ same)) in
          rw t.0 (elim (contains c cast.callers) as
          (λ b. find (λ (limit : ℕ × Option ℕ). limit.0 == a) (map (λ cast. actor_limit cast) (if b then cast ∷ others else others))
          ≡ (if b then Some (cast.actor, cast.pending) else None)) [
            | true ↦ rw t.0 refl
            | false ↦ none
          ])
      | inr f ↦
          rw f.0 (elim (contains c cast.callers) as
          (λ b. find (λ (limit : ℕ × Option ℕ). limit.0 == a) (map (λ cast. actor_limit cast) (if b then cast ∷ others else others))
          ≡ limit_at c (cast_of a (opening (map (actor_spec state) casts)))) [
            | true ↦ rw f.0 rest
            | false ↦ rest
          ])
    ]

is_among : (a : ℕ) (limits : List (ℕ × Option ℕ)) → contains a (map (λ limit. limit.0) limits) ≡ is_some (find (λ limit. limit.0 == a) limits)
is_among a [] = refl
is_among a (limit ∷ limits) = elim (eqb_tells limit.0 a) [ inl t ↦ rw t.0 refl | inr f ↦ rw f.0 (is_among a limits) ]

-- an actor stands among those that name a caller, and has its limit there, where its cast names the caller
limit_tells : (c : ℕ) (cast : Option ActorSpec) → (is_some (limit_at c cast) ≡ names c cast)
    × (option_and_then (λ limit. limit.1) (limit_at c cast) ≡ (if names c cast then option_and_then (λ cast. cast.pending) cast else None))
limit_tells c None = (refl, refl)
limit_tells c (Some cast) = told (contains c cast.callers) (cast.actor, cast.pending)
  where
    told : (b : Bool) (limit : ℕ × Option ℕ) → (is_some (if b then Some limit else None) ≡ b)
        × (option_and_then (λ (one : ℕ × Option ℕ). one.1) (if b then Some limit else None) ≡ (if b then limit.1 else None))
    told true limit = (refl, refl)
    told false limit = (refl, refl)

-- the callers that the casts name are the world's
caller_named : {K : Type 0} (state : K → KindState) (c : ℕ) (casts : List (Cast K)) →
    contains c (callers_named casts) ≡ is_caller c (opening (map (actor_spec state) casts))
caller_named state c [] = refl
caller_named state c (cast ∷ casts) =
    list_any-append (λ m. m == c) cast.callers (callers_named casts) ∙ ap (λ b. contains c cast.callers || b) (caller_named state c casts)

-- among the marks at the opening, no kill of any actor is marked as asked
pub nothing_asked : (a : ℕ) → unwrap_or (slice_get (replicate 9 false) a) false ≡ false
nothing_asked a = none_dead 9 a

owner_opened : {K : Type 0} (state : K → KindState) (c : ℕ) (casts : List (Cast K)) → ActorsDiffer casts →
    IsOwnerOf (opening (map (actor_spec state) casts)) c (opened_with c (limits_that_name c casts))
owner_opened state c casts differ = record {
  id = refl;
  copies = λ a. copies-opened a (map (λ (limit : ℕ × Option ℕ). limit.0) (limits_that_name c casts))
      ∙ ap (λ b. if b then Some 1 else None) (is_among a (limits_that_name c casts) ∙ ap is_some (limit_found state a c casts differ) ∙ (limit_tells c _).0);
  limits = λ a. ap (option_and_then (λ (limit : ℕ × Option ℕ). limit.1)) (limit_found state a c casts differ) ∙ (limit_tells c _).1;
  given = λ a. given-opened a (map (λ (limit : ℕ × Option ℕ). limit.0) (limits_that_name c casts));
  calls = refl;
  marks = refl;
  sent = λ k. refl;
  kept = refl;
  deaths = λ a. none_dead 9 a;
}

-- where no actor has two casts, the callers opened with these have what the history tells at the opening
pub owners_opened : {K : Type 0} (state : K → KindState) (casts : List (Cast K)) (owners : List OwnerView) → ActorsDiffer casts →
    HasOwners casts (callers_named casts) owners → (c : ℕ) → IsOwnerAt (opening (map (actor_spec state) casts)) c (find (is_owner c) owners)
owners_opened state casts owners differ has c =
    subst (IsOwnerAt (opening (map (actor_spec state) casts)) c) (sym (has c)) (go (contains c (callers_named casts)) (sym (caller_named state c casts)))
  where
    go : (b : Bool) → is_caller c (opening (map (actor_spec state) casts)) ≡ b →
        IsOwnerAt (opening (map (actor_spec state) casts)) c (if b then Some (opened_with c (limits_that_name c casts)) else None)
    go true e = (e, owner_opened state c casts differ)
    go false e = e

-- ---- the callers so far

pub one_more : {K : Type 0} (casts : List (Cast K)) (callers these : List ℕ) (i c : ℕ) (owners : List OwnerView) → i < length these → c ≡ get_or these i c →
    HasOwners casts ((callers ++ take i these) ++ c ∷ []) owners → HasOwners casts (callers ++ take (i + 1) these) owners
one_more casts callers these i c owners within is =
    subst (λ named. HasOwners casts named owners)
    (append_assoc callers (take i these) (c ∷ []) ∙
    ap (λ named. callers ++ named) (ap (λ last. take i these ++ last ∷ []) is ∙ sym (take_more these i c within)))

pub cast_more : {K : Type 0} (casts : List (Cast K)) {i : ℕ} {cast : Cast K} (owners : List OwnerView) → i < length casts → cast ≡ get_or casts i cast →
    HasOwners casts (callers_named (take i casts) ++ cast.callers) owners → HasOwners casts (callers_named (take (i + 1) casts)) owners
cast_more {K} casts {i} {cast} owners within is =
    subst (λ named. HasOwners casts named owners)
    (ap (λ named. callers_named (take i casts) ++ named) (sym (append-nil cast.callers)) ∙ sym (flat_map-append (λ (cast : Cast K). cast.callers) (take i casts)
    (cast ∷ [])) ∙ ap callers_named (ap (λ last. take i casts ++ last ∷ []) is ∙ sym (take_more casts i cast within)))
