-- The casts that an epoch leaves fit.
use Rattle.act_service.proofs.Common.{◌≡◌, ◌≢◌, ℕ, suc, ◌==◌, List, [], ◌∷◌, map, Option, Some, None, refl, sym, ap, ◌∙◌, subst, arith, All, AllPairs}
use Rattle.act_service.proofs.Common.{filter_map, option_map, list_any, cons_option, eqb-true, length-map, get_or-map, All-nil, All-cons, All-map, all_of_map}
use Rattle.act_service.proofs.Common.{AllPairs-cons, AllPairs-filter, KindState, ActorSpec, one_to, IsLimit, Cast, CallersDiffer, IsFitting, actor_spec}
use Rattle.act_service.proofs.Common.{EndView, Retired, end_id, cast_at, actors_of_casts, found_passes, found_all, numbers_differ, cast_of_end, tail_apart}
use Rattle.std.proofs.lemmas.List.Elements.{All-head, All-tail}

-- what casting an actor again keeps of its cast
abbrev pub IsSound : ActorSpec → Type 0
IsSound cast = CallersDiffer cast.callers × IsLimit cast.pending

-- ---- lists

pairs_here : (n : ℕ) (ns : List ℕ) → AllPairs (λ one other. one ≢ other) (n ∷ ns) → All (λ other. n ≢ other) ns
pairs_here n ns apart k d lt = apart 0 (suc k) d (omega arith) (omega arith)

-- ---- the actors that are cast again

module _ (casts : List ActorSpec) where
  -- the cast of an end is of its actor
  named : (end : EndView) (cast : ActorSpec) → cast_of_end casts end ≡ Some cast → cast.actor ≡ end_id end
  named (Retired retired) cast is = go (cast_at retired.id casts) refl
    where
      go : (o : Option ActorSpec) → cast_at retired.id casts ≡ o → cast.actor ≡ retired.id
      go None none = let gone : None ≡ Some cast = sym (ap (option_map (λ (one : ActorSpec). record one { opening = retired.state })) none) ∙ is in cc
      go (Some one) found =
          let same : Some (record one { opening = retired.state }) ≡ Some cast =
          sym (ap (option_map (λ (spec : ActorSpec). record spec { opening = retired.state })) found) ∙ is in
          let cast_is : record one { opening = retired.state } ≡ cast = cc in
          sym (ap (λ (spec : ActorSpec). spec.actor) cast_is)
          ∙ eqb-true one.actor retired.id (found_passes (λ (spec : ActorSpec). spec.actor == retired.id) casts found)
  named end cast is = cc

  -- and is as sound as the casts
  sound : All IsSound casts → (end : EndView) (cast : ActorSpec) → cast_of_end casts end ≡ Some cast → IsSound cast
  sound all (Retired retired) cast is = go (cast_at retired.id casts) refl
    where
      go : (o : Option ActorSpec) → cast_at retired.id casts ≡ o → IsSound cast
      go None none = let gone : None ≡ Some cast = sym (ap (option_map (λ (one : ActorSpec). record one { opening = retired.state })) none) ∙ is in absurd (cc)
      go (Some one) found =
          let same : Some (record one { opening = retired.state }) ≡ Some cast =
          sym (ap (option_map (λ (spec : ActorSpec). record spec { opening = retired.state })) found) ∙ is in
          let cast_is : record one { opening = retired.state } ≡ cast = cc in
          subst IsSound cast_is (found_all IsSound (λ (spec : ActorSpec). spec.actor == retired.id) casts all found)
  sound all end cast is = absurd (cc)

  all_sound : All IsSound casts → (ends : List EndView) → All IsSound (filter_map (cast_of_end casts) ends)
  all_sound all [] = All-nil IsSound
  all_sound all (end ∷ ends) = go (cast_of_end casts end) refl (all_sound all ends)
    where
      go : (o : Option ActorSpec) → cast_of_end casts end ≡ o → All IsSound (filter_map (cast_of_end casts) ends)
          → All IsSound (cons_option o (filter_map (cast_of_end casts) ends))
      go None is rest = rest
      go (Some cast) is rest = All-cons IsSound cast (filter_map (cast_of_end casts) ends) (sound all end cast is) rest

  none_named : (a : ℕ) (ends : List EndView) → All (λ other. a ≢ other) (map end_id ends)
      → All (λ (cast : ActorSpec). a ≢ cast.actor) (filter_map (cast_of_end casts) ends)
  none_named a [] apart = All-nil (λ (cast : ActorSpec). a ≢ cast.actor)
  none_named a (end ∷ ends) apart = go (cast_of_end casts end) refl (none_named a ends (All-tail (λ other. a ≢ other) (end_id end) (map end_id ends) apart))
    where
      go : (o : Option ActorSpec) → cast_of_end casts end ≡ o → All (λ (cast : ActorSpec). a ≢ cast.actor) (filter_map (cast_of_end casts) ends) →
          All (λ (cast : ActorSpec). a ≢ cast.actor) (cons_option o (filter_map (cast_of_end casts) ends))
      go None is rest = rest
      go (Some cast) is rest = All-cons (λ (cast : ActorSpec). a ≢ cast.actor) cast (filter_map (cast_of_end casts) ends)
          (λ same. All-head (λ other. a ≢ other) (end_id end) (map end_id ends) apart (same ∙ named end cast is)) rest

  apart_left : (ends : List EndView) → AllPairs (λ one other. one ≢ other) (map end_id ends)
      → AllPairs (λ (one other : ActorSpec). one.actor ≢ other.actor) (filter_map (cast_of_end casts) ends)
  apart_left [] apart = λ i j d before below. absurd (omega arith)
  apart_left (end ∷ ends) apart = go (cast_of_end casts end) refl (apart_left ends (tail_apart (end_id end) (map end_id ends) apart))
    where
      go : (o : Option ActorSpec) → cast_of_end casts end ≡ o → AllPairs (λ (one other : ActorSpec). one.actor ≢ other.actor) (filter_map
          (cast_of_end casts) ends) → AllPairs (λ (one other : ActorSpec). one.actor ≢ other.actor) (cons_option o (filter_map (cast_of_end casts) ends))
      go None is rest = rest
      go (Some cast) is rest = AllPairs-cons (λ (one other : ActorSpec). one.actor ≢ other.actor) cast (filter_map (cast_of_end casts) ends)
          (subst (λ a. All (λ (other : ActorSpec). a ≢ other.actor) (filter_map (cast_of_end casts) ends)) (sym (named end cast is))
          (none_named (end_id end) ends (pairs_here (end_id end) (map end_id ends) apart))) rest

  -- actors that are named by rising number differ
  rising_apart : {ns : List ℕ} → ns ≡ actors_of_casts casts → AllPairs (λ one other. one ≢ other) ns
  rising_apart are = subst (λ l. AllPairs (λ one other. one ≢ other) l) (sym are)
      (AllPairs-filter (λ one other. one ≢ other) (λ a. list_any (λ (cast : ActorSpec). cast.actor == a) casts) (one_to 8) (numbers_differ 8))

-- ---- casts that are as such specifications are

module _ {K : Type 0} (state : K → KindState) where
  pub sound_casts : (casts : List (Cast K)) → IsFitting casts → All IsSound (map (actor_spec state) casts)
  sound_casts casts fit = All-map IsSound (actor_spec state) casts (λ k d lt. (fit.callers k d lt, fit.limits k d lt))

  pub fitting : (casts : List (Cast K)) → AllPairs (λ (one other : ActorSpec). one.actor ≢ other.actor) (map (actor_spec state) casts)
      → All IsSound (map (actor_spec state) casts) → IsFitting casts
  fitting casts apart all =
      let each = all_of_map IsSound (actor_spec state) casts all in record {
        actors = λ i j d before below same. apart i j (actor_spec state d) before (omega (arith, length-map casts (actor_spec state)))
            (ap (λ (spec : ActorSpec). spec.actor) (get_or-map (actor_spec state) casts i d (actor_spec state d) (omega arith)) ∙ same
            ∙ sym (ap (λ (spec : ActorSpec). spec.actor) (get_or-map (actor_spec state) casts j d (actor_spec state d) below)));
        callers = λ k d lt. (each k d lt).0;
        limits = λ k d lt. (each k d lt).1;
      }

  pub left_fits : (casts left : List (Cast K)) (ends : List EndView) → IsFitting casts → map end_id ends ≡ actors_of_casts (map (actor_spec state) casts) →
      map (actor_spec state) left ≡ filter_map (cast_of_end (map (actor_spec state) casts)) ends → IsFitting left
  left_fits casts left ends fit are is =
      let specs = map (actor_spec state) casts in
      fitting left
      (subst (λ l. AllPairs (λ (one other : ActorSpec). one.actor ≢ other.actor) l) (sym is) (apart_left specs ends (rising_apart specs are)))
      (subst (λ l. All IsSound l) (sym is) (all_sound specs (sound_casts casts fit) ends))
