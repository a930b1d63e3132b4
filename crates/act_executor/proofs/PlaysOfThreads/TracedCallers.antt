-- What each caller's thread did, as the rules see it.
use Rattle.act_executor.proofs.Common.{◌≡◌, ℕ, ◌≤◌, Bool, List, ◌++◌, zip, refl, ap, sym, ◌∙◌, subst, AllPairs, filter, slice_index_or, AllZip, map-append}
use Rattle.act_executor.proofs.Common.{All-filter, filter-append, AllPairs-filter, Notice, ActorSpec, actors_naming, filter-slice_get, copies_in, OwnerView}
use Rattle.act_executor.proofs.Common.{Sent, Noticed, Asked, Letter, Call, Note, Endpoint, PutterView, ControlView, notice_actor, steps_in, Driven}
use Rattle.act_executor.proofs.Common.{limits_naming, IsNamed, Action, KillAsked, notice_of, after_actions, CallerMayDoAll, IsPostedAfter, IsAskedAfter}
use Rattle.act_executor.proofs.Common.{IsCallerTrace, opened_of, DoesPlan, HasDonePlan, plan_of, Step, Release, contains, true, false, cond, [], ◌∷◌, Some}
use Rattle.act_executor.proofs.Common.{None, Option, map, filter_map, cons_option, IsIn, in_from_contains, contains_from_in, all_in, in_filter, contains_is}
use Rattle.act_executor.proofs.Common.{found_alone}
use Rattle.act_executor.proofs.Lists.Stamped.{IsTakenFrom, found_step, found_taken, zipped}
use Rattle.act_executor.proofs.Lists.Kept.{keep_stamped, kept_steps, kept_first}
use Rattle.act_executor.proofs.PlaysOfThreads.Allowed.{may_front}
use Rattle.act_executor.proofs.PlaysOfThreads.CallerWork.{is_by_these, is_from_these, HoldsThese, opened_holds, IsStill, still}
use Rattle.act_executor.proofs.PlaysOfPlans.KeptPlan.{plan_kept}

-- what the run needs of the steps of a caller's thread
pub record IsCallerWork (casts : List ActorSpec) (controls : List ControlView) (plans : List (ℕ × List Step)) (d : Driven) (trace : List (ℕ × Action))
    : Type 0 where
  pub named : IsNamed casts d.owner.id
  pub rising : AllPairs (λ one other. one.0 ≤ other.0) trace
  pub allowed : CallerMayDoAll (opened_of d.owner.id casts) (steps_in trace)
  pub owner_is : d.owner ≡ after_actions (opened_of d.owner.id casts) (steps_in trace)
  pub heard : filter_map notice_of (steps_in trace) ≡ filter (λ notice. contains (notice_actor notice) (actors_naming d.owner.id casts)) d.passes.collects.taken
  pub does : (closing : List ℕ) × DoesPlan (opened_of d.owner.id casts) (plan_of d.owner.id plans ++ map (λ a. Release a) closing) (steps_in trace)
  pub notices : (m : ℕ) (notice : Notice) → IsIn {A = ℕ × Action} trace (m, Noticed notice) →
      IsIn (actors_naming d.owner.id casts) (notice_actor notice) × IsTakenFrom d.passes.collects.taken d.passes.collects.stamps notice m
  pub posted : (endpoint : Endpoint (PutterView Letter Unit)) → IsIn d.passes.letters.items endpoint → (letter : Letter) (n : ℕ) →
      IsIn {A = Letter × ℕ} (zip endpoint.pass.put endpoint.pass.stamps) (letter, n) → IsPostedAfter (opened_of d.owner.id casts) trace letter n
  pub asked : (endpoint : Endpoint (PutterView Asked ℕ)) → IsIn d.passes.kills.items endpoint → (k : ControlView) (kill : Asked) (n : ℕ) →
      IsIn {A = Asked × ℕ} (zip endpoint.pass.put endpoint.pass.stamps) (kill, n) → IsAskedAfter trace (slice_index_or controls endpoint.place k).actor kill n

module _ (casts : List ActorSpec) (controls : List ControlView) (plans : List (ℕ × List Step)) (d : Driven) (named : IsNamed casts d.owner.id)
    (t : List (ℕ × Action)) (is : IsCallerTrace controls (opened_of d.owner.id casts) d.owner d.passes t)
    (did : (closing : List ℕ) × DoesPlan (opened_of d.owner.id casts) (plan_of d.owner.id plans ++ map (λ a. Release a) closing) (steps_in t)) where
  abbrev start : OwnerView
  start = opened_of d.owner.id casts

  abbrev actors : List ℕ
  actors = actors_naming d.owner.id casts

  abbrev keep : Action → Bool
  keep = is_by_these actors

  -- without the notices of strangers
  abbrev f : List (ℕ × Action)
  f = filter (keep_stamped keep) t

  holds : HoldsThese actors start
  holds = opened_holds actors (limits_naming d.owner.id casts) d.owner.id

  all_still : IsStill actors start (steps_in t)
  all_still = still actors start (steps_in t) holds is.allowed

  notices : (m : ℕ) (notice : Notice) → IsIn {A = ℕ × Action} f (m, Noticed notice) →
      IsIn actors (notice_actor notice) × IsTakenFrom d.passes.collects.taken d.passes.collects.stamps notice m
  notices m notice i =
      let from = filter-slice_get (keep_stamped keep) t i.place i.at in
      let there : IsIn {A = ℕ × Action} t (m, Noticed notice) = record { place = from.place; at = from.at } in (
        contains_is (notice_actor notice) actors from.passes,
        found_taken d.passes.collects.stamps m is.notices is.notices_later (found_step notice_of t m notice refl there),
      )

  -- the owner after the first of the steps is the same
  first_same : (before later : List (ℕ × Action)) → t ≡ before ++ later →
      after_actions start (steps_in (filter (keep_stamped keep) before)) ≡ after_actions start (steps_in before)
  first_same before later cut =
      let whole : steps_in t ≡ steps_in before ++ steps_in later = ap steps_in cut ∙ map-append (λ (x : ℕ × Action). x.1) before later in
      let may = may_front start (steps_in before) (steps_in later) (subst (CallerMayDoAll start) whole is.allowed) in
      ap (after_actions start) (kept_steps keep before) ∙ (still actors start (steps_in before) holds may).same

  still_posted : (letter : Letter) (n : ℕ) → IsPostedAfter start t letter n → IsPostedAfter start f letter n
  still_posted (Call packet) n posted =
      let step : ℕ × Action = (posted.0, Sent packet.future) in
      (posted.0, contains_from_in (in_filter (keep_stamped keep) (in_from_contains t step posted.1) refl), posted.2)
  still_posted (Note note) n posted =
      let before = posted.0 in
      let later = posted.1 in (
        filter (keep_stamped keep) before,
        filter (keep_stamped keep) later,
        ap (filter (keep_stamped keep)) posted.2 ∙ filter-append (keep_stamped keep) before later,
        All-filter (keep_stamped keep) (λ (x : ℕ × Action). x.0 ≤ n) before posted.3,
        ap (λ (o : OwnerView). copies_in note.actor o.handles) (first_same before later posted.2) ∙ posted.4,
      )

  posted_at : (endpoint : Endpoint (PutterView Letter Unit)) → IsIn d.passes.letters.items endpoint → (letter : Letter) (n : ℕ) →
      IsIn {A = Letter × ℕ} (zip endpoint.pass.put endpoint.pass.stamps) (letter, n) → IsPostedAfter start f letter n
  posted_at endpoint i letter n there =
      let each = all_in (λ (x : Endpoint (PutterView Letter Unit)). AllZip (IsPostedAfter start t) x.pass.put x.pass.stamps) is.posted i in
      still_posted letter n (zipped (IsPostedAfter start t) endpoint.pass.put endpoint.pass.stamps n each there)

  asked_at : (endpoint : Endpoint (PutterView Asked ℕ)) → IsIn d.passes.kills.items endpoint → (k : ControlView) (kill : Asked) (n : ℕ) →
      IsIn {A = Asked × ℕ} (zip endpoint.pass.put endpoint.pass.stamps) (kill, n) → IsAskedAfter f (slice_index_or controls endpoint.place k).actor kill n
  asked_at endpoint i k kill n there =
      let a = (slice_index_or controls endpoint.place k).actor in
      let each = all_in (λ (x : Endpoint (PutterView Asked ℕ)). (y : ControlView) →
      AllZip (IsAskedAfter t (slice_index_or controls x.place y).actor) x.pass.put x.pass.stamps) is.asked i k in
      let asked = zipped (IsAskedAfter t a) endpoint.pass.put endpoint.pass.stamps n each there in
      let step : ℕ × Action = (asked.0, KillAsked a) in
      (asked.0, contains_from_in (in_filter (keep_stamped keep) (in_from_contains t step asked.1) refl), asked.2)

  heard_kept : (steps : List Action) →
      filter_map notice_of (filter keep steps) ≡ filter (λ notice. contains (notice_actor notice) actors) (filter_map notice_of steps)
  heard_kept [] = refl
  heard_kept (step ∷ steps) = go (notice_of step) refl (heard_kept steps)
    where
      by : {notice : Notice} (b : Bool) → contains (notice_actor notice) actors ≡ b → notice_of step ≡ Some notice →
          filter_map notice_of (filter keep steps) ≡ filter (λ notice. contains (notice_actor notice) actors) (filter_map notice_of steps) →
          filter_map notice_of (cond b (step ∷ filter keep steps) (filter keep steps)) ≡ cond b (notice ∷ filter (λ notice. contains
          (notice_actor notice) actors) (filter_map notice_of steps)) (filter (λ notice. contains (notice_actor notice) actors) (filter_map notice_of steps))
      by {notice} true is at rest = ap (λ o. cons_option o (filter_map notice_of (filter keep steps))) at ∙ ap (λ l. notice ∷ l) rest
      by false is at rest = rest

      go : (o : Option Notice) → notice_of step ≡ o →
          filter_map notice_of (filter keep steps) ≡ filter (λ notice. contains (notice_actor notice) actors) (filter_map notice_of steps) →
          filter_map notice_of (filter keep (step ∷ steps)) ≡ filter (λ notice. contains (notice_actor notice) actors) (filter_map notice_of (step ∷ steps))
      go None at rest =
          ap (filter_map notice_of) (kept_first keep step steps (ap (is_from_these actors) at))
          ∙ ap (λ o. cons_option o (filter_map notice_of (filter keep steps))) at
          ∙ rest
          ∙ ap (λ o. filter (λ notice. contains (notice_actor notice) actors) (cons_option o (filter_map notice_of steps))) (sym at)
      go (Some notice) at rest =
          ap (λ o. filter_map notice_of (cond (is_from_these actors o) (step ∷ filter keep steps) (filter keep steps))) at
          ∙ by (contains (notice_actor notice) actors) refl at rest
          ∙ ap (λ o. filter (λ notice. contains (notice_actor notice) actors) (cons_option o (filter_map notice_of steps))) (sym at)

  pub caller_work : IsCallerWork casts controls plans d f
  caller_work = record {
    named = named;
    rising = AllPairs-filter (λ (one other : ℕ × Action). one.0 ≤ other.0) (keep_stamped keep) t is.timed.rising;
    allowed = subst (CallerMayDoAll start) (sym (kept_steps keep t)) all_still.may;
    owner_is = is.owner_is ∙ sym all_still.same ∙ ap (after_actions start) (sym (kept_steps keep t));
    heard = ap (filter_map notice_of) (kept_steps keep t) ∙ heard_kept (steps_in t) ∙
        ap (filter (λ notice. contains (notice_actor notice) actors)) (sym (found_alone notice_of t) ∙ is.notices);
    does = (
      did.0,
      subst (DoesPlan start (plan_of d.owner.id plans ++ map (λ a. Release a) did.0)) (sym (kept_steps keep t))
          (plan_kept actors _ start (steps_in t) holds is.allowed did.1),
    );
    notices = notices;
    posted = posted_at;
    asked = asked_at;
  }

-- a caller that was driven did such steps
pub caller_works : (casts : List ActorSpec) (controls : List ControlView) (plans : List (ℕ × List Step)) (d : Driven) → IsNamed casts d.owner.id → HasDonePlan
    controls (opened_of d.owner.id casts) d.owner (plan_of d.owner.id plans) d.passes → (trace : List (ℕ × Action)) × IsCallerWork casts controls plans d trace
caller_works casts controls plans d named traced =
    (filter (keep_stamped (is_by_these (actors_naming d.owner.id casts))) traced.0, caller_work casts controls plans d named traced.0 traced.1 traced.2)
