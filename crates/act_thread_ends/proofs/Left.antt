-- Each caller and each actor of the casts is left by a joined run.
use Rattle.act_thread_ends.proofs.Common.{◌≡◌, ℕ, ◌==◌, true, List, map, Option, Some, None, refl, sym, subst, All, Contains, find, is_some, list_any, eq-eqb}
use Rattle.act_thread_ends.proofs.Common.{eqb-true, MAX_ACTORS, MAX_CALLERS, Step, ActorSpec, contains, one_to, map-slice_get, OwnerView, EndView, end_id}
use Rattle.act_thread_ends.proofs.Common.{callers_of_casts, actors_of_casts, owner_of, end_of, IsIn, in_from_contains, all_in, in_filter, found_is, finds}
use Rattle.act_thread_ends.proofs.Common.{any_is, contains_is, AreOfARun}
use Rattle.std.proofs.lemmas.Map.Keys.{any_passes_from_place}
use Rattle.act_rules.proofs.Callers.{is_named}

-- the caller stands among those that are left
pub record IsOwnerLeft (owners : List OwnerView) (c : ℕ) : Type 0 where
  pub owner : OwnerView
  pub inside : IsIn owners owner
  pub id : owner.id ≡ c
  pub is : owner_of c owners ≡ Some owner

-- each caller that a cast of a run names has its owner among those left, if these are of all such, by rising number
pub owner_left : {casts : List ActorSpec} {plans : List (ℕ × List Step)} (owners : List OwnerView) → AreOfARun casts plans
    → map (λ (owner : OwnerView). owner.id) owners ≡ callers_of_casts casts → (c : ℕ) → is_named casts c ≡ true → IsOwnerLeft owners c
owner_left {casts} owners of ids c named =
    let cast = any_is (λ (x : ActorSpec). contains c x.callers) casts named in
    let listed = all_in (λ (x : ActorSpec). All (λ d. Contains (one_to MAX_CALLERS) d) x.callers) of.callers cast.1.inside in
    let number = all_in (λ d. Contains (one_to MAX_CALLERS) d) listed (contains_is c cast.0.callers cast.1.passes) in
    let within : IsIn (callers_of_casts casts) c = in_filter (is_named casts) (in_from_contains (one_to MAX_CALLERS) c number) named in
    let there : IsIn (map (λ (owner : OwnerView). owner.id) owners) c = subst (λ ns. IsIn ns c) (sym ids) within in
    let one = map-slice_get (λ (owner : OwnerView). owner.id) owners there.place there.at in
    let found = finds (λ (owner : OwnerView). owner.id == c) owners there.place one.0 one.1 (eq-eqb one.0.id c one.2) in
    let is = found_is (λ (owner : OwnerView). owner.id == c) owners found.is in
    record { owner = found.one; inside = is.inside; id = eqb-true found.one.id c is.passes; is = found.is }

-- so does the actor
pub record IsEndLeft (ends : List EndView) (a : ℕ) : Type 0 where
  pub end : EndView
  pub inside : IsIn ends end
  pub id : end_id end ≡ a
  pub is : end_of a ends ≡ Some end

pub end_left : (casts : List ActorSpec) {plans : List (ℕ × List Step)} (ends : List EndView) → AreOfARun casts plans → map end_id ends ≡ actors_of_casts casts
    → (a : ℕ) → is_some (find (λ (cast : ActorSpec). cast.actor == a) casts) ≡ true → IsEndLeft ends a
end_left casts ends of ids a known = go (find (λ (cast : ActorSpec). cast.actor == a) casts) refl known
  where
    go : (o : Option ActorSpec) → find (λ (cast : ActorSpec). cast.actor == a) casts ≡ o → is_some o ≡ true → IsEndLeft ends a
    go None e some = cc
    go (Some cast) e some =
        let at = found_is (λ (x : ActorSpec). x.actor == a) casts e in
        let number = all_in (λ (x : ActorSpec). Contains (one_to MAX_ACTORS) x.actor) of.actors at.inside in
        let mine : Contains (one_to MAX_ACTORS) a = subst (λ n. Contains (one_to MAX_ACTORS) n) (eqb-true cast.actor a at.passes) number in
        let any : list_any (λ (x : ActorSpec). x.actor == a) casts ≡ true =
        any_passes_from_place (λ (x : ActorSpec). x.actor == a) casts at.inside.place cast at.inside.at at.passes in
        let within : IsIn (actors_of_casts casts) a =
        in_filter (λ n. list_any (λ (x : ActorSpec). x.actor == n) casts) (in_from_contains (one_to MAX_ACTORS) a mine) any in
        let there : IsIn (map end_id ends) a = subst (λ ns. IsIn ns a) (sym ids) within in
        let one = map-slice_get end_id ends there.place there.at in
        let found = finds (λ end. end_id end == a) ends there.place one.0 one.1 (eq-eqb (end_id one.0) a one.2) in
        let is = found_is (λ end. end_id end == a) ends found.is in
        record { end = found.one; inside = is.inside; id = eqb-true (end_id found.one) a is.passes; is = found.is }
