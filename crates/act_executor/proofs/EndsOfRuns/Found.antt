-- Which threads stand behind a number: the casts, the callers' and the actors'.
use Rattle.act_executor.proofs.Common.{◌≡◌, ◌≢◌, ℕ, suc, ◌+◌, ◌-◌, ◌<◌, Bool, true, false, cond, List, [], ◌∷◌, length, Some, None, inl, inr, refl, ap, sym}
use Rattle.act_executor.proofs.Common.{◌∙◌, subst, arith, ◌==◌, map, filter, slice_get, option_map, All, AllPairs, Contains, is_some, AllByRecursion, list_any}
use Rattle.act_executor.proofs.Common.{eq-eqb, eqb-true, leb_tells, slice_get_within, get_or_from_slice_get, slice_get-map, any_passes_from_place, MAX_ACTORS}
use Rattle.act_executor.proofs.Common.{MAX_CALLERS, Arg, Submission, Step, submit_refusal, Progress, nothing_done, occurrences, holds, is_refused, do_step}
use Rattle.act_executor.proofs.Common.{done_by, planned, one_to, ActorSpec, contains, actors_naming, All_more, All_at, filter-slice_get, map-slice_get, end_id}
use Rattle.act_executor.proofs.Common.{Driven, MailView, ControlView, RepliesView, cast_at, ServedView, AreCasts, AreJoined, IsIn, in_from_contains, all_in}
use Rattle.act_executor.proofs.Common.{in_filter, found_is, Finds, finds, any_is, contains_is, is_contained}
use Rattle.act_rules.specs.declared.script.Step.TheVariants as step

-- where no number stands twice, two elements of one number are one
pub one_of : {A : Type 0} (number : A → ℕ) (xs : List A) (k m : ℕ) {x y : A} → AllPairs (λ one other. number one ≢ number other) xs → slice_get xs k ≡ Some x →
    slice_get xs m ≡ Some y → number x ≡ number y → x ≡ y
one_of {A = A} number xs k m {x} {y} differ at at' same =
    elim (leb_tells (suc k) m) [
      | inl t ↦ absurd (apart k m x y t.1 at at' same)
      | inr f ↦ elim (leb_tells (suc m) k) [
        | inl t ↦ absurd (apart m k y x t.1 at' at (sym same))
        | inr g ↦ let one : k ≡ m = omega (arith, f.1, g.1) in let here : slice_get xs m ≡ Some x = subst (λ n. slice_get xs n ≡ Some x) one at in cc
      ]
    ]
  where
    apart : (i j : ℕ) (u v : A) → i < j → slice_get xs i ≡ Some u → slice_get xs j ≡ Some v → number u ≡ number v → ⊥
    apart i j u v below first second equal =
        let within = slice_get_within xs j v second in
        differ i j u below within (ap number (get_or_from_slice_get xs i u u first) ∙ equal ∙ sym (ap number (get_or_from_slice_get xs j v u second)))

-- ---- what plans submit

abbrev pub IsKnownCall : List ℕ → Submission → Type 0
IsKnownCall actors call = list_any (λ b. b == call.actor) actors ≡ true

holder : (actors : List ℕ) (p : Progress) (a : ℕ) (args : List Arg) → is_some (submit_refusal (holds a actors p) (length p.submitted) args) ≡ false →
    list_any (λ b. b == a) actors ≡ true
holder actors p a args accepted = go (list_any (λ b. b == a) actors) refl accepted
  where
    go : (b : Bool) → list_any (λ n. n == a) actors ≡ b → is_some (submit_refusal (cond b (Some ((1 + occurrences a p.copied) - occurrences a p.released)) None)
        (length p.submitted) args) ≡ false → list_any (λ n. n == a) actors ≡ true
    go true is e = is
    go false is e = cc

known_step : (actors : List ℕ) (p : Progress) (s : Step) → AllByRecursion (IsKnownCall actors) p.submitted → is_refused actors p s ≡ false →
    AllByRecursion (IsKnownCall actors) (do_step p s).submitted
known_step actors p (step.Submit a method args) all accepted =
    All_more (IsKnownCall actors) p.submitted (record { actor = a; method = method; args = args }) all (holder actors p a args accepted)
known_step actors p s all accepted = all

known_done : (actors : List ℕ) (p : Progress) (plan : List Step) → AllByRecursion (IsKnownCall actors) p.submitted →
    AllByRecursion (IsKnownCall actors) (done_by actors p plan).submitted
known_done actors p [] all = all
known_done actors p (s ∷ steps) all = go (is_refused actors p s) refl (λ q. known_done actors q steps)
  where
    go : (b : Bool) → is_refused actors p s ≡ b → ((q : Progress) → AllByRecursion (IsKnownCall actors) q.submitted → AllByRecursion (IsKnownCall actors)
        (done_by actors q steps).submitted) → AllByRecursion (IsKnownCall actors) (done_by actors (cond b p (do_step p s)) steps).submitted
    go true is rest = rest p all
    go false is rest = rest (do_step p s) (known_step actors p s all is)

-- each call of a plan goes to an actor that knows the caller
pub planned_known : (actors : List ℕ) (plan : List Step) (k : ℕ) {call : Submission} → slice_get (planned actors plan) k ≡ Some call → IsIn actors call.actor
planned_known actors plan k {call} at =
    contains_is call.actor actors (All_at (IsKnownCall actors) (planned actors plan) k (known_done actors nothing_done plan tt) at)

none_waits : (p : Progress) (b : Bool) (steps : List Step) → done_by [] p steps ≡ p → done_by [] (cond b p p) steps ≡ p
none_waits p true steps e = e
none_waits p false steps e = e

none_done : (p : Progress) (plan : List Step) → done_by [] p plan ≡ p
none_done p [] = refl
none_done p (step.Await k ∷ steps) = none_waits p (is_refused [] p (step.Await k)) steps (none_done p steps)
none_done p (other ∷ steps) = none_done p steps

-- a caller that no actor knows submits nothing
pub planned_none : (plan : List Step) → planned [] plan ≡ []
planned_none plan = ap (λ (p : Progress). p.submitted) (none_done nothing_done plan)

-- ---- casts

-- an actor that names a caller: its cast is found, and names it
pub record IsNaming (casts : List ActorSpec) (c a : ℕ) : Type 0 where
  pub cast : ActorSpec
  pub at : cast_at a casts ≡ Some cast
  pub inside : IsIn casts cast
  pub actor : cast.actor ≡ a
  pub names : IsIn cast.callers c

-- where no actor has two casts, an actor among those that name a caller has a cast that is found and names it
pub naming : (casts : List ActorSpec) (c a : ℕ) → AreCasts casts → IsIn (actors_naming c casts) a → IsNaming casts c a
naming casts c a fitting i =
    let mapped = map-slice_get (λ (cast : ActorSpec). cast.actor) (filter (λ (cast : ActorSpec). contains c cast.callers) casts) i.place i.at in
    let kept = filter-slice_get (λ (cast : ActorSpec). contains c cast.callers) casts i.place mapped.1 in
    let found = finds (λ (cast : ActorSpec). cast.actor == a) casts kept.place mapped.0 kept.at (eq-eqb mapped.0.actor a mapped.2) in
    let is = found_is (λ (cast : ActorSpec). cast.actor == a) casts found.is in
    let actor : found.one.actor ≡ a = eqb-true found.one.actor a is.passes in
    let same : mapped.0 ≡ found.one =
    one_of (λ (cast : ActorSpec). cast.actor) casts kept.place is.inside.place fitting.differ kept.at is.inside.at (mapped.2 ∙ sym actor) in
    record {
      cast = found.one;
      at = found.is;
      inside = is.inside;
      actor = actor;
      names = subst (λ (cast : ActorSpec). IsIn cast.callers c) same (contains_is c mapped.0.callers kept.passes);
    }

-- the cast that is found for an actor
pub record IsCast (casts : List ActorSpec) (a : ℕ) : Type 0 where
  pub cast : ActorSpec
  pub at : cast_at a casts ≡ Some cast
  pub inside : IsIn casts cast
  pub actor : cast.actor ≡ a

-- an actor has one cast
pub same_cast : {casts : List ActorSpec} {a : ℕ} {cast : ActorSpec} (is : IsCast casts a) → cast_at a casts ≡ Some cast → cast ≡ is.cast
same_cast {cast} is at = let same : Some cast ≡ Some is.cast = sym at ∙ is.at in cc

-- ---- threads

module _ {mails : List MailView} {controls : List ControlView} {replies : List RepliesView} {casts : List ActorSpec} {plans : List (ℕ × List Step)}
    {driven : List Driven} {served : List ServedView} (j : AreJoined mails controls replies casts plans driven served) where
  -- a caller that a cast names was driven
  pub driven_named : {cast : ActorSpec} {c : ℕ} → IsIn casts cast → IsIn cast.callers c → Finds (λ (d : Driven). d.owner.id == c) driven
  driven_named {cast} {c} i names =
      let valid = in_from_contains (one_to MAX_CALLERS) c (all_in (λ n. Contains (one_to MAX_CALLERS) n)
      (all_in (λ (x : ActorSpec). All (λ n. Contains (one_to MAX_CALLERS) n) x.callers) j.casts_are.callers i) names) in
      let named = any_passes_from_place (λ (x : ActorSpec). contains c x.callers) casts i.place cast i.at (is_contained c cast.callers names) in
      let listed = in_filter (λ n. list_any (λ (x : ActorSpec). contains n x.callers) casts) valid named in
      let there : slice_get (map (λ (d : Driven). d.owner.id) driven) listed.place ≡ Some c = rw (j.callers) listed.at in
      let mapped = map-slice_get (λ (d : Driven). d.owner.id) driven listed.place there in
      finds (λ (d : Driven). d.owner.id == c) driven listed.place mapped.0 mapped.1 (eq-eqb mapped.0.owner.id c mapped.2)

  -- an actor of a cast was served
  pub served_cast : {cast : ActorSpec} (a : ℕ) → IsIn casts cast → cast.actor ≡ a → Finds (λ (s : ServedView). end_id s.end == a) served
  served_cast {cast} a i actor =
      let valid = in_from_contains (one_to MAX_ACTORS) a
      (subst (λ n. Contains (one_to MAX_ACTORS) n) actor (all_in (λ (x : ActorSpec). Contains (one_to MAX_ACTORS) x.actor) j.casts_are.actors i)) in
      let named = any_passes_from_place (λ (x : ActorSpec). x.actor == a) casts i.place cast i.at (eq-eqb cast.actor a actor) in
      let listed = in_filter (λ n. list_any (λ (x : ActorSpec). x.actor == n) casts) valid named in
      let there : slice_get (map (λ (s : ServedView). end_id s.end) served) listed.place ≡ Some a = rw (j.actors) listed.at in
      let mapped = map-slice_get (λ (s : ServedView). end_id s.end) served listed.place there in
      finds (λ (s : ServedView). end_id s.end == a) served listed.place mapped.0 mapped.1 (eq-eqb (end_id mapped.0.end) a mapped.2)

  -- an actor that was served has a cast
  pub cast_served : (a k : ℕ) (s : ServedView) → slice_get served k ≡ Some s → end_id s.end ≡ a → IsCast casts a
  cast_served a k s at id =
      let there : slice_get (map (λ (x : ServedView). end_id x.end) served) k ≡ Some a =
      slice_get-map (λ (x : ServedView). end_id x.end) served k ∙ ap (option_map (λ (x : ServedView). end_id x.end)) at ∙ ap (λ n. Some n) id in
      let kept = filter-slice_get (λ n. list_any (λ (x : ActorSpec). x.actor == n) casts) (one_to MAX_ACTORS) k
      (subst (λ ns. slice_get ns k ≡ Some a) j.actors there) in
      let any = any_is (λ (x : ActorSpec). x.actor == a) casts kept.passes in
      let found = finds (λ (x : ActorSpec). x.actor == a) casts any.1.inside.place any.0 any.1.inside.at any.1.passes in
      let is = found_is (λ (x : ActorSpec). x.actor == a) casts found.is in
      record { cast = found.one; at = found.is; inside = is.inside; actor = eqb-true found.one.actor a is.passes }
