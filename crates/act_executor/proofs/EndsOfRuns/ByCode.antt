-- Callers by plans and by code: the steps that each did make plans.
use Rattle.act_executor.proofs.Common.{◌≡◌, ◌≢◌, ℕ, zero, suc, Bool, true, false, List, [], ◌∷◌, length, Some, None, refl, ap, sym, ◌∙◌, subst, arith, rules}
use Rattle.act_executor.proofs.Common.{All, AllPairs, get_or, ◌<◌, Option, ◌==◌, map, find, slice_get, option_map, if◌then◌else◌, list_any, ne_eqb, eqb-true}
use Rattle.act_executor.proofs.Common.{eq-eqb, slice_get_within, get_or_from_slice_get, Step, ActorSpec, actors_naming, contains, OwnerView, MailView}
use Rattle.act_executor.proofs.Common.{ControlView, RepliesView, Driven, SessionView, HasConcluded, plan_of, steps_of_plan, EndView, CallsThatDiedNeverRan}
use Rattle.act_executor.proofs.Common.{kept_in, log_in, ServedView, IsDriven, AreJoined, code_of, opened_of, HasTold, IsDrivenBy, AreJoinedBy, IsJoinedBy}
use Rattle.act_executor.proofs.Common.{all_in, all_by_places, found_is, finds, any_is, contains_is}
use Rattle.act_executor.proofs.EndsOfRuns.Found.{driven_named, one_of}
use Rattle.act_executor.proofs.EndsOfRuns.Joint.{driven_of, owner_is}
use Rattle.act_executor.proofs.EndsOfRuns.Ends.{joined as joined_is}

-- what each caller did, as a plan of its number
record Did (P : Driven → List Step → Type 0) (d : Driven) : Type 0 where
  steps : List Step
  is : P d steps

module _ (P : Driven → List Step → Type 0) (plans : List (ℕ × List Step)) where
  -- the plans of all others stand behind
  made : (ds : List Driven) → ((i : ℕ) (d : Driven) → slice_get ds i ≡ Some d → Did P d) → List (ℕ × List Step)
  made [] each = plans
  made (d ∷ ds) each = (d.owner.id, (each 0 d refl).steps) ∷ made ds (λ i e at. each (suc i) e at)

  -- the plan that is found under a caller's number is its own
  own : (ds : List Driven) (each : (i : ℕ) (d : Driven) → slice_get ds i ≡ Some d → Did P d) → AllPairs
      (λ (one other : Driven). one.owner.id ≢ other.owner.id) ds → (i : ℕ) (d : Driven) → slice_get ds i ≡ Some d → P d (plan_of d.owner.id (made ds each))
  unfolding made
  own [] each differ i d at = absurd (cc at)
  own (one ∷ ds) each differ zero d at =
      let is : one ≡ d = cc in let same : (one.owner.id == one.owner.id) ≡ true = search rules in
      let first : P one (plan_of one.owner.id (made (one ∷ ds) each)) =
      subst (λ b. P one (steps_of_plan (if b then Some (one.owner.id, (each 0 one refl).steps) else find (λ (plan : ℕ × List Step). plan.0 == one.owner.id)
      (made ds (λ i e there. each (suc i) e there))))) (sym same) (each 0 one refl).is in
      subst (λ (e : Driven). P e (plan_of e.owner.id (made (one ∷ ds) each))) is first
  own (one ∷ ds) each differ (suc i) d at =
      let below : i < length ds = slice_get_within ds i d at in let there : get_or ds i one ≡ d = get_or_from_slice_get ds i d one at in
      let apart : one.owner.id ≢ d.owner.id =
      subst (λ (e : Driven). one.owner.id ≢ e.owner.id) there (differ 0 (suc i) one (omega arith) (omega (arith, below))) in
      let rest : P d (plan_of d.owner.id (made ds (λ k e there. each (suc k) e there))) =
      own ds (λ k e there. each (suc k) e there) (λ a b e lt inside. differ (suc a) (suc b) e (omega (arith, lt)) (omega (arith, inside))) i d at in
      subst (λ b. P d (steps_of_plan (if b then Some (one.owner.id, (each 0 one refl).steps) else find (λ (plan : ℕ × List Step). plan.0 == d.owner.id)
      (made ds (λ k e there. each (suc k) e there))))) (sym (ne_eqb one.owner.id d.owner.id apart)) rest

  -- the plan of a number that is no caller's is as it was
  others : (ds : List Driven) (each : (i : ℕ) (d : Driven) → slice_get ds i ≡ Some d → Did P d) (c : ℕ) → driven_of c ds ≡ None →
      plan_of c (made ds each) ≡ plan_of c plans
  unfolding made
  others [] each c none = refl
  others (d ∷ ds) each c none = go (d.owner.id == c) none (others ds (λ i e at. each (suc i) e at) c)
    where
      go : (b : Bool) → (if b then Some d else driven_of c ds) ≡ None →
          (driven_of c ds ≡ None → plan_of c (made ds (λ i e at. each (suc i) e at)) ≡ plan_of c plans) → steps_of_plan (if b then Some
          (d.owner.id, (each 0 d refl).steps) else find (λ (plan : ℕ × List Step). plan.0 == c) (made ds (λ i e at. each (suc i) e at))) ≡ plan_of c plans
      go true is rest = absurd (cc is)
      go false is rest = rest is

-- the code that is given to a caller is the one that is found for it
found_code : {C : Type 0} (codes : List (ℕ × C)) (k : ℕ) (given : ℕ × C) → AllPairs (λ (one other : ℕ × C). one.0 ≢ other.0) codes →
    slice_get codes k ≡ Some given → code_of given.0 codes ≡ Some given.1
found_code {C = C} codes k given differ at =
    let found = finds (λ (g : ℕ × C). g.0 == given.0) codes k given at (eq-eqb given.0 given.0 refl) in
    let is = found_is (λ (g : ℕ × C). g.0 == given.0) codes found.is in
    let same : found.one ≡ given = one_of (λ (g : ℕ × C). g.0) codes is.inside.place k differ is.inside.at at (eqb-true found.one.0 given.0 is.passes) in
    ap (option_map (λ (g : ℕ × C). g.1)) (found.is ∙ ap (λ g. Some g) same)

-- ---- a joined run

module _ {C : Type 0} (tells : C → SessionView → SessionView → Type 0) (mails : List MailView) (controls : List ControlView) (replies : List RepliesView)
    (casts : List ActorSpec) (plans : List (ℕ × List Step)) (codes : List (ℕ × C)) (driven : List Driven) (served : List ServedView)
    (j : AreJoinedBy tells mails controls replies casts plans codes driven served) (Traced : Driven → List Step → Type 0)
    (traced : All (λ d. (by : IsDrivenBy tells mails controls casts plans codes d) × Traced d by.steps) driven) where
  -- a caller did these steps, its thread's trace tells them, and they are as it was given
  record DidBy (d : Driven) (steps : List Step) : Type 0 where
    did : IsDriven mails controls (actors_naming d.owner.id casts) steps d
    planned : code_of d.owner.id codes ≡ None → steps ≡ plan_of d.owner.id plans
    told : (code : C) → code_of d.owner.id codes ≡ Some code → HasConcluded (tells code) steps (opened_of d.owner.id casts) d.owner
    trace : Traced d steps

  each : (i : ℕ) (d : Driven) → slice_get driven i ≡ Some d → Did DidBy d
  each i d at =
      let is = all_in (λ x. (by : IsDrivenBy tells mails controls casts plans codes x) × Traced x by.steps) {xs = driven} {x = d} traced
      (record { place = i; at = at }) in
      record { steps = is.0.steps; is = record { did = is.0.did; planned = is.0.planned; told = is.0.told; trace = is.1 } }

  pub steps : List (ℕ × List Step)
  steps = made DidBy plans driven each

  theirs : (i : ℕ) (d : Driven) → slice_get driven i ≡ Some d → DidBy d (plan_of d.owner.id steps)
  unfolding steps
  theirs i d at = own DidBy plans driven each j.differ i d at

  pub as_planned : (c : ℕ) → code_of c codes ≡ None → plan_of c steps ≡ plan_of c plans
  unfolding steps
  as_planned c none = go (driven_of c driven) refl
    where
      go : (o : Option Driven) → driven_of c driven ≡ o → plan_of c steps ≡ plan_of c plans
      go None is = others DidBy plans driven each c is
      go (Some d) is =
          let found = found_is (λ (x : Driven). x.owner.id == c) driven is in let id : d.owner.id ≡ c = eqb-true d.owner.id c found.passes in
          subst (λ n. plan_of n steps ≡ plan_of n plans) id
          ((theirs found.inside.place d found.inside.at).planned (subst (λ n. code_of n codes ≡ None) (sym id) none))

  -- with the steps that each did for plans, they are joined as any are
  pub are_joined : AreJoined mails controls replies casts steps driven served
  are_joined = record {
    casts_are = j.casts_are;
    callers = j.callers;
    actors = j.actors;
    all_served = j.all_served;
    all_driven = all_by_places (λ (d : Driven). IsDriven mails controls (actors_naming d.owner.id casts) (plan_of d.owner.id steps) d) driven
        (λ i d at. (theirs i d at).did);
    limits = j.limits;
    audited = j.audited;
    starter = j.starter;
    fed = j.fed;
  }

  -- and traced
  pub are_traced : All (λ (d : Driven). Traced d (plan_of d.owner.id steps)) driven
  are_traced = all_by_places (λ (d : Driven). Traced d (plan_of d.owner.id steps)) driven (λ i d at. (theirs i d at).trace)

  abbrev owners : List OwnerView
  owners = map (λ (d : Driven). d.owner) driven

  abbrev ends : List EndView
  ends = map (λ (s : ServedView). s.end) served

  pub told : (k : ℕ) (given : ℕ × C) → slice_get codes k ≡ Some given → HasTold tells casts steps owners given
  told k given at =
      let named = any_is (λ (cast : ActorSpec). contains given.0 cast.callers) casts (all_in (λ (g : ℕ × C). list_any
      (λ (cast : ActorSpec). contains g.0 cast.callers) casts ≡ true) {xs = codes} {x = given} j.codes_named (record { place = k; at = at })) in
      let found = driven_named are_joined named.1.inside (contains_is given.0 named.0.callers named.1.passes) in
      let d = found.one in
      let is = found_is (λ (x : Driven). x.owner.id == given.0) driven found.is in
      let id : d.owner.id ≡ given.0 = eqb-true d.owner.id given.0 is.passes in
      let code : code_of given.0 codes ≡ Some given.1 = found_code codes k given j.codes_differ at in
      let says = (theirs is.inside.place d is.inside.at).told given.1 (subst (λ n. code_of n codes ≡ Some given.1) (sym id) code) in
      record {
        owner = d.owner;
        left = owner_is are_joined given.0 (Some d) found.is;
        told = subst (λ n. HasConcluded (tells given.1) (plan_of n steps) (opened_of n casts) d.owner) id says;
      }

  -- all that is promised of a run of callers by code
  abbrev pub is_joined_by : CallsThatDiedNeverRan (kept_in owners) (log_in ends) → IsJoinedBy tells casts plans codes owners ends
  is_joined_by ran = record {
    steps = steps;
    joined = joined_is are_joined ran;
    planned = as_planned;
    told = all_by_places (HasTold tells casts steps owners) codes told;
  }
