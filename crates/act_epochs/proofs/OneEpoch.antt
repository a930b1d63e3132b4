-- What one epoch leaves of its actors: their casts, and what they ran.
use Rattle.act_epochs.proofs.Common.{◌≡◌, ◌≢◌, ℕ, true, false, List, [], Option, Some, None, refl, ap, sym, ◌∙◌, subst, AllPairs, ◌==◌, map, filter, filter_map}
use Rattle.act_epochs.proofs.Common.{slice_get, option_map, list_any, enumerate_from, AllPairs-filter, RunItem, Submission, items_of, state_after, calls_to}
use Rattle.act_epochs.proofs.Common.{IsPrefix, ActorSpec, contains, actors_naming, IsPrefix-map, AllPairs-map, EndView, Retired, end_id, IfRetired, cast_at}
use Rattle.act_epochs.proofs.Common.{plan_of, IsJoined, RanAll, is_killed, is_killed_end, is_starved, end_of, log_of_end, calls_in, log_in, killed_in, IsIn}
use Rattle.act_epochs.proofs.Common.{all_in, found_is, finds, any_is, empty_by_places, enumerated, cast_of_end}
use Rattle.std.proofs.lemmas.Bool.{eq-eqb, eqb-true}
use Rattle.std.proofs.lemmas.Simd.{map-map}
use Rattle.std.proofs.lemmas.Option.{slice_get-map}
use Rattle.act_types.specs.declared.limits.TheConstants.{MAX_ACTORS}
use Rattle.act_rules.specs.declared.script.Step.{Step}
use Rattle.act_rules.specs.Report.{one_to}
use Rattle.act_rules.proofs.AsSubmitted.{filter-slice_get, calls_to-at}
use Rattle.act_rules.proofs.Order.{numbered}
use Rattle.act_rules.proofs.Unique.{map-slice_get}
use Rattle.act_owner.specs.Owner.{OwnerView}
use Rattle.act_actor.specs.View.{RetiredView}
use Rattle.act_plans.proofs.Keys.{pairs_of_map}
use Rattle.act_plans.proofs.Matching.{numbers_differ}
use Rattle.act_executor.proofs.EndsOfRuns.Found.{one_of, planned_known}
use Rattle.act_executor.proofs.Lists.Stamped.{mapped_at}
use Rattle.act_epochs.proofs.Lists.{came_from, places_apart}

-- the actor retired, and this cast is left of it
pub record IsLeft (casts : List ActorSpec) (owners : List OwnerView) (ends : List EndView) (a : ℕ) (left : ActorSpec) : Type 0 where
  pub retired : RetiredView
  pub id : retired.id ≡ a
  pub found : end_of a ends ≡ Some (Retired retired)
  pub ran : RanAll casts owners retired
  pub is : left ≡ record ran.cast { opening = retired.state }

-- what an end leaves is of the cast of its actor
record IsOf (casts : List ActorSpec) (end : EndView) (left : ActorSpec) : Type 0 where
  retired : RetiredView
  end_is : end ≡ Retired retired
  cast : ActorSpec
  at : cast_at retired.id casts ≡ Some cast
  left_is : left ≡ record cast { opening = retired.state }

is_of : (casts : List ActorSpec) (end : EndView) (left : ActorSpec) → cast_of_end casts end ≡ Some left → IsOf casts end left
is_of casts (Retired retired) left e = go (cast_at retired.id casts) refl e
  where
    go : (o : Option ActorSpec) → cast_at retired.id casts ≡ o → option_map (λ (cast : ActorSpec). record cast { opening = retired.state }) o ≡ Some left
        → IsOf casts (Retired retired) left
    go None at e = cc
    go (Some cast) at e =
        let same : record cast { opening = retired.state } ≡ left = cc in record { retired = retired; end_is = refl; cast = cast; at = at; left_is = sym same }
is_of casts end left e = cc

cast_names : (a : ℕ) (casts : List ActorSpec) {cast : ActorSpec} → cast_at a casts ≡ Some cast → cast.actor ≡ a
cast_names a casts {cast} at = eqb-true cast.actor a (found_is (λ (one : ActorSpec). one.actor == a) casts at).passes

-- an actor that names a caller has a cast
named_has_cast : (casts : List ActorSpec) (c a : ℕ) → IsIn (actors_naming c casts) a → (cast : ActorSpec) × (cast_at a casts ≡ Some cast)
named_has_cast casts c a i =
    let mapped = map-slice_get (λ (cast : ActorSpec). cast.actor) (filter (λ (cast : ActorSpec). contains c cast.callers) casts) i.place i.at in
    let kept = filter-slice_get (λ (cast : ActorSpec). contains c cast.callers) casts i.place mapped.1 in
    let found = finds (λ (cast : ActorSpec). cast.actor == a) casts kept.place mapped.0 kept.at (eq-eqb mapped.0.actor a mapped.2) in (found.one, found.is)

-- a call by an epoch's number and its future, as it ran and as it was submitted
abbrev pub ran_as : ℕ → RunItem → ℕ × ℕ
ran_as n item = (n, item.future)

abbrev pub submitted_as : ℕ → ℕ × Submission → ℕ × ℕ
submitted_as n call = (n, call.0)

module _ {casts : List ActorSpec} {steps : List (ℕ × List Step)} {owners : List OwnerView} {ends : List EndView}
    (joined : IsJoined casts steps owners ends) where
  -- ---- ends

  ends_differ : AllPairs (λ one other. end_id one ≢ end_id other) ends
  ends_differ = pairs_of_map end_id ends (subst (AllPairs (λ one other. one ≢ other)) (sym joined.actors) (AllPairs-filter (λ one other. one ≢ other)
      (λ a. list_any (λ (cast : ActorSpec). cast.actor == a) casts) (one_to MAX_ACTORS) (numbers_differ MAX_ACTORS)))

  end_found : {end : EndView} → IsIn ends end → end_of (end_id end) ends ≡ Some end
  end_found {end} i =
      let found = finds (λ e. end_id e == end_id end) ends i.place end i.at (eq-eqb (end_id end) (end_id end) refl) in
      let is = found_is (λ e. end_id e == end_id end) ends found.is in
      let same = one_of end_id ends is.inside.place i.place ends_differ is.inside.at i.at (eqb-true (end_id found.one) (end_id end) is.passes) in
      found.is ∙ ap (λ e. Some e) same

  -- an actor that ended has a cast
  ended_has_cast : (a : ℕ) (end : EndView) → end_of a ends ≡ Some end → (cast : ActorSpec) × (cast_at a casts ≡ Some cast)
  ended_has_cast a end at =
      let is = found_is (λ e. end_id e == a) ends at in let id : end_id end ≡ a = eqb-true (end_id end) a is.passes in
      let there : slice_get (map end_id ends) is.inside.place ≡ Some a = slice_get-map end_id ends is.inside.place ∙ ap (option_map end_id) is.inside.at
      ∙ ap (λ n. Some n) id in
      let kept = filter-slice_get (λ n. list_any (λ (cast : ActorSpec). cast.actor == n) casts) (one_to MAX_ACTORS) is.inside.place
      (subst (λ ns. slice_get ns is.inside.place ≡ Some a) joined.actors there) in
      let any = any_is (λ (cast : ActorSpec). cast.actor == a) casts kept.passes in
      let found = finds (λ (cast : ActorSpec). cast.actor == a) casts any.1.inside.place any.0 any.1.inside.at any.1.passes in (found.one, found.is)

  -- an actor without a cast has no end
  pub no_end : (a : ℕ) → cast_at a casts ≡ None → end_of a ends ≡ None
  no_end a none = go (end_of a ends) refl
    where
      go : (o : Option EndView) → end_of a ends ≡ o → end_of a ends ≡ None
      go None is = is
      go (Some end) is = let has = ended_has_cast a end is in let bad : None ≡ Some has.0 = sym none ∙ has.1 in cc

  -- a caller calls actors alone whose casts name it
  called : (c k : ℕ) (call : Submission) → slice_get (calls_in owners c) k ≡ Some call → IsIn (actors_naming c casts) call.actor
  called c k call at = planned_known (actors_naming c casts) (plan_of c steps) k (ap (λ l. slice_get l k) (sym (joined.submitted c)) ∙ at)

  -- so nobody calls an actor without a cast
  pub no_calls : (a c : ℕ) → cast_at a casts ≡ None → calls_to a (calls_in owners c) ≡ []
  no_calls a c none = empty_by_places (calls_to a (calls_in owners c)) (λ k call at. let is = calls_to-at a (calls_in owners c) k at in let has = named_has_cast
      casts c call.1.actor (called c call.0 call.1 is.at) in let bad : None ≡ Some has.0 = sym none ∙ ap (λ b. cast_at b casts) (sym is.actor) ∙ has.1 in cc)

  -- ---- the casts that are left

  left_of : (a : ℕ) (end : EndView) (left : ActorSpec) → IsIn ends end → (of : IsOf casts end left) → left.actor ≡ a → IsLeft casts owners ends a left
  left_of a end left i of names =
      let id : of.retired.id ≡ a = sym (cast_names of.retired.id casts of.at) ∙ ap (λ (cast : ActorSpec). cast.actor) (sym of.left_is) ∙ names in
      let inside : IsIn ends (Retired of.retired) = subst (IsIn ends) of.end_is i in
      let ran : RanAll casts owners of.retired = all_in (λ e. IfRetired e (RanAll casts owners)) joined.retired inside in
      let one : Some of.cast ≡ Some ran.cast = sym of.at ∙ ran.at in let same : of.cast ≡ ran.cast = cc in
      record {
        retired = of.retired;
        id = id;
        found = subst (λ n. end_of n ends ≡ Some (Retired of.retired)) id (end_found inside);
        ran = ran;
        is = of.left_is ∙ ap (λ (cast : ActorSpec). record cast { opening = of.retired.state }) same;
      }

  pub left_is : (a : ℕ) {left : ActorSpec} → cast_at a (filter_map (cast_of_end casts) ends) ≡ Some left → IsLeft casts owners ends a left
  left_is a {left} e =
      let found = found_is (λ (cast : ActorSpec). cast.actor == a) (filter_map (cast_of_end casts) ends) e in
      let from = came_from (cast_of_end casts) ends found.inside.place left found.inside.at in
      left_of a from.one left from.inside (is_of casts from.one left from.gives) (eqb-true left.actor a found.passes)

  -- of an actor that has no end nothing is left
  pub none_left : (a : ℕ) → end_of a ends ≡ None → cast_at a (filter_map (cast_of_end casts) ends) ≡ None
  none_left a none = go (cast_at a (filter_map (cast_of_end casts) ends)) refl
    where
      go : (o : Option ActorSpec) → cast_at a (filter_map (cast_of_end casts) ends) ≡ o → cast_at a (filter_map (cast_of_end casts) ends) ≡ None
      go None is = is
      go (Some left) is = let one = left_is a is in let bad : None ≡ Some (Retired one.retired) = sym none ∙ one.found in cc

  -- nor of one that was killed
  pub killed_leaves_none : (a : ℕ) → killed_in ends a ≡ true → cast_at a (filter_map (cast_of_end casts) ends) ≡ None
  killed_leaves_none a killed = go (cast_at a (filter_map (cast_of_end casts) ends)) refl
    where
      go : (o : Option ActorSpec) → cast_at a (filter_map (cast_of_end casts) ends) ≡ o → cast_at a (filter_map (cast_of_end casts) ends) ≡ None
      go None is = is
      go (Some left) is = let one = left_is a is in let bad : false ≡ true = sym (ap is_killed_end one.found) ∙ killed in absurd (cc)

  -- of any other that ended a cast is left
  pub other_is_left : (a : ℕ) (end : EndView) → end_of a ends ≡ Some end → killed_in ends a ≡ false → (left : ActorSpec)
      × (cast_at a (filter_map (cast_of_end casts) ends) ≡ Some left)
  other_is_left a end at alive = go end (all_in (λ e. is_starved e ≡ false) joined.fed
      (found_is (λ e. end_id e == a) ends at).inside) (sym (ap is_killed_end at) ∙ alive) at
    where
      go : (end : EndView) → is_starved end ≡ false → is_killed end ≡ false → end_of a ends ≡ Some end → (left : ActorSpec)
          × (cast_at a (filter_map (cast_of_end casts) ends) ≡ Some left)
      go (Retired retired) fed alive at =
          let found = found_is (λ e. end_id e == a) ends at in let id : retired.id ≡ a = eqb-true retired.id a found.passes in
          let ran : RanAll casts owners retired = all_in (λ e. IfRetired e (RanAll casts owners)) joined.retired found.inside in
          let left : ActorSpec = record ran.cast { opening = retired.state } in
          let gives : cast_of_end casts (Retired retired) ≡ Some left =
          ap (option_map (λ (cast : ActorSpec). record cast { opening = retired.state })) ran.at in
          let there = mapped_at (cast_of_end casts) ends found.inside.place left found.inside.at gives in
          let names : (left.actor == a) ≡ true = eq-eqb left.actor a (cast_names retired.id casts ran.at ∙ id) in
          let one = finds (λ (cast : ActorSpec). cast.actor == a) (filter_map (cast_of_end casts) ends) there.place left there.at names in (one.one, one.is)
      go end fed alive at = absurd (cc)

  -- ---- calls

  -- the calls that an actor ran of a caller's, by an epoch's number
  pub ran_front : (n a c : ℕ) → IsPrefix (map (ran_as n) (items_of c (log_in ends a))) (map (submitted_as n) (calls_to a (calls_in owners c)))
  ran_front n a c =
      let name : ℕ × ℕ → ℕ × ℕ = λ p. (n, p.1) in let items = items_of c (log_in ends a) in let calls = calls_to a (calls_in owners c) in
      let left : map name (map numbered items) ≡ map (ran_as n) items = map-map name numbered items in
      let futures : List ℕ = map (λ (call : ℕ × Submission). call.0) calls in let pair : ℕ → ℕ × ℕ = λ k. (n, k) in
      let right : map name (enumerate_from 0 futures) ≡ map (submitted_as n) calls =
      sym (map-map pair (λ (p : ℕ × ℕ). p.1) (enumerate_from 0 futures)) ∙ ap (map pair) (enumerated 0 futures)
      ∙ map-map pair (λ (call : ℕ × Submission). call.0) calls in
      let At : List (ℕ × ℕ) × List (ℕ × ℕ) → Type 0 = λ p. IsPrefix p.0 p.1 in
      subst At (λ i. (left i, right i)) (IsPrefix-map name (map numbered items) (enumerate_from 0 futures) (joined.consistent.in_order a c))

  -- an actor of which a cast is left ran them all
  pub ran_whole : (n a c : ℕ) {left : ActorSpec} → IsLeft casts owners ends a left
      → map (ran_as n) (items_of c (log_in ends a)) ≡ map (submitted_as n) (calls_to a (calls_in owners c))
  ran_whole n a c is =
      let log : log_in ends a ≡ is.retired.log = ap log_of_end is.found in
      let here : map (λ (item : RunItem). item.future) (items_of c (log_in ends a)) ≡ map (λ (call : ℕ × Submission). call.0) (calls_to a (calls_in owners c)) =
      ap (λ l. map (λ (item : RunItem). item.future) (items_of c l)) log ∙ is.ran.calls c
      ∙ ap (λ b. map (λ (call : ℕ × Submission). call.0) (calls_to b (calls_in owners c))) is.id in
      let pair : ℕ → ℕ × ℕ = λ k. (n, k) in
      sym (map-map pair (λ (item : RunItem). item.future) (items_of c (log_in ends a)))
      ∙ ap (map pair) here
      ∙ map-map pair (λ (call : ℕ × Submission). call.0) (calls_to a (calls_in owners c))

  -- ---- states

  -- the cast that is left is the one before, in the state after the log
  pub left_state : (a : ℕ) {left : ActorSpec} → IsLeft casts owners ends a left → (cast : ActorSpec) × (cast_at a casts ≡ Some cast)
      × (left ≡ record cast { opening = state_after cast.opening (log_in ends a) })
  left_state a is = (
    is.ran.cast,
    subst (λ n. cast_at n casts ≡ Some is.ran.cast) is.id is.ran.at,
    is.is ∙ ap (λ state. record is.ran.cast { opening = state }) (is.ran.state ∙ ap (state_after is.ran.cast.opening) (sym (ap log_of_end is.found))),
  )

-- no call of a caller to an actor stands twice
pub calls_differ : (n a : ℕ) (calls : List Submission) → AllPairs (λ one other. one ≢ other) (map (submitted_as n) (calls_to a calls))
calls_differ n a calls =
    AllPairs-map (λ one other. one ≢ other) (submitted_as n) (calls_to a calls)
    (λ i j d lt below same. AllPairs-filter (λ (one other : ℕ × Submission). one.0 ≢ other.0) (λ (call : ℕ × Submission). call.1.actor == a)
    (enumerate_from 0 calls) (places_apart 0 calls) i j d lt below (ap (λ (p : ℕ × ℕ). p.1) same))
