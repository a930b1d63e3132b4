-- A run of plans that end no actor: no actor is killed, and no answer is a death.
use Rattle.example_uses.proofs.Common.{◌≡◌, ◌≢◌, ℕ, ◌-◌, Bool, true, false, cond, List, [], ◌∷◌, length, find, Option, Some, None, refl, ap, sym, ◌∙◌, subst}
use Rattle.example_uses.proofs.Common.{arith, ◌==◌, Err, slice_get, list_all, AllByRecursion, and_parts, ActorDied, Method, Settled, Step, Submit, Copy}
use Rattle.example_uses.proofs.Common.{Release, Kill, Await, RunItem, Submission, Answer, is_end, ends_actor, has_terminated, kept_at, OwnerView, IsAsSubmitted}
use Rattle.example_uses.proofs.Common.{ActorSpec, actors_naming, Progress, nothing_done, is_refused, do_step, done_by, kills_to, All_at, All_more, plan_of}
use Rattle.example_uses.proofs.Common.{steps_of_plan, EndView, IsJoined, calls_in, kept_in, log_in, killed_in, is_mild, is_peaceful, AllRan}
use Rattle.actors.proofs.Lemmas.{some_is}
use Rattle.actors.specs.Method.TheVariants as method

-- ---- what a peaceful plan asks for

abbrev IsMild : Submission → Type 0
IsMild call = is_mild call.method ≡ true

step_mild : (p : Progress) (step : Step) → is_peaceful step ≡ true → AllByRecursion IsMild p.submitted → AllByRecursion IsMild (do_step p step).submitted
step_mild p (Submit a m args) peace mild = All_more IsMild p.submitted (record { actor = a; method = m; args = args }) mild peace
step_mild p step peace mild = mild

done_mild : (actors : List ℕ) (p : Progress) (steps : List Step) → list_all is_peaceful steps ≡ true → AllByRecursion IsMild p.submitted →
    AllByRecursion IsMild (done_by actors p steps).submitted
done_mild actors p [] peace mild = mild
done_mild actors p (step ∷ steps) peace mild =
    done_mild actors (cond (is_refused actors p step) p (do_step p step)) steps both.1 (go (is_refused actors p step))
  where
    both : (is_peaceful step ≡ true) × (list_all is_peaceful steps ≡ true)
    both = and_parts (is_peaceful step) (list_all is_peaceful steps) peace

    go : (refused : Bool) → AllByRecursion IsMild (cond refused p (do_step p step)).submitted
    go true = mild
    go false = step_mild p step both.0 mild

no_kills : (a : ℕ) (steps : List Step) → list_all is_peaceful steps ≡ true → kills_to a steps ≡ 0
no_kills a [] peace = refl
no_kills a (step ∷ steps) peace = let both = and_parts (is_peaceful step) (list_all is_peaceful steps) peace in
    first_none a step steps both.0 (no_kills a steps both.1)
  where
    first_none : (a : ℕ) (one : Step) (steps : List Step) → is_peaceful one ≡ true → kills_to a steps ≡ 0 → kills_to a (one ∷ steps) ≡ 0
    first_none a (Submit b m args) steps e none = none
    first_none a (Copy b) steps e none = none
    first_none a (Release b) steps e none = none
    first_none a (Kill b) steps e none = absurd (cc)
    first_none a (Await k) steps e none = none

-- the plan of each caller
peaceful_plan : (c : ℕ) (plans : List (ℕ × List Step)) → list_all (λ plan. list_all is_peaceful plan.1) plans ≡ true →
    list_all is_peaceful (plan_of c plans) ≡ true
peaceful_plan c [] peace = refl
peaceful_plan c (plan ∷ plans) peace =
    let both = and_parts (list_all is_peaceful plan.1) (list_all (λ plan. list_all is_peaceful plan.1) plans) peace in
    go (plan.0 == c) (find (λ other. other.0 == c) plans) both.0 (peaceful_plan c plans both.1)
  where
    go : (mine : Bool) (other : Option (ℕ × List Step)) → list_all is_peaceful plan.1 ≡ true → list_all is_peaceful (steps_of_plan other) ≡ true →
        list_all is_peaceful (steps_of_plan (cond mine (Some plan) other)) ≡ true
    go true other here there = here
    go false other here there = there

-- ---- what a run of such plans leaves

-- no call that ends its actor is mild
end_wild : (m : Method) (args : List Settled) → is_end m args ≡ true → is_mild m ≡ true → ⊥
end_wild method.Terminate args e mild = cc
end_wild m args e mild = cc

ended : (o : Option RunItem) → ends_actor o ≡ true → (item : RunItem) × (o ≡ Some item) × (is_end item.method item.args ≡ true)
ended None e = absurd (cc)
ended (Some item) e = (item, refl, e)

module _ (casts : List ActorSpec) (plans : List (ℕ × List Step)) (owners : List OwnerView) (ends : List EndView) (joined : IsJoined casts plans owners ends)
    (peace : list_all (λ plan. list_all is_peaceful plan.1) plans ≡ true) where
  calls_mild : (c : ℕ) → AllByRecursion IsMild (calls_in owners c)
  calls_mild c = subst (AllByRecursion IsMild) (sym (joined.submitted c))
      (done_mild (actors_naming c casts) nothing_done (plan_of c plans) (peaceful_plan c plans peace) tt)

  item_mild : (a place : ℕ) (item : RunItem) → slice_get (log_in ends a) place ≡ Some item → is_mild item.method ≡ true
  item_mild a place item is =
      let as_submitted = All_at (IsAsSubmitted (calls_in owners) (kept_in owners)) (log_in ends a) place (joined.consistent.as_submitted a) is in
      ap is_mild as_submitted.method ∙ All_at IsMild (calls_in owners item.caller) item.future (calls_mild item.caller) as_submitted.at

  unended : (a place : ℕ) → ends_actor (slice_get (log_in ends a) place) ≡ true → ⊥
  unended a place e = let last = ended (slice_get (log_in ends a) place) e in end_wild last.0.method last.0.args last.2 (item_mild a place last.0 last.1)

  no_death : (a : ℕ) → killed_in ends a ≡ true → ⊥
  no_death a killed = go (has_terminated (log_in ends a)) refl
    where
      go : (terminated : Bool) → has_terminated (log_in ends a) ≡ terminated → ⊥
      go true is = unended a (length (log_in ends a) - 1) is
      go false is =
          let asked = joined.killed a killed is in
          let none = no_kills a (plan_of asked.0 plans) (peaceful_plan asked.0 plans peace) in
          absurd (omega (arith, asked.1, none))

  alive : (c k : ℕ) (answer : Answer) → kept_at (kept_in owners c) k ≡ Some answer → answer ≢ Err ActorDied
  alive c k answer is died =
      let dead = joined.consistent.deaths c k (is ∙ ap Some died) in
      no_death dead.call.actor dead.dead

  pub all_ran : AllRan casts owners ends
  all_ran = record {
    answered = λ c k lt.
        let found = some_is (kept_at (kept_in owners c) k) (joined.answered c k lt) in
        (found.0, found.1, joined.consistent.answers c k found.0 found.1 (alive c k found.0 found.1));
  }

-- the same casts and plans by other names
pub ran_with : {casts same : List ActorSpec} {owners : List OwnerView} {ends : List EndView} → casts ≡ same → AllRan casts owners ends → AllRan same owners ends
ran_with {owners = owners} {ends = ends} is ran = subst (λ l. AllRan l owners ends) is ran

pub joined_with : {casts same : List ActorSpec} {plans others : List (ℕ × List Step)} {owners : List OwnerView} {ends : List EndView} →
    casts ≡ same → plans ≡ others → IsJoined casts plans owners ends → IsJoined same others owners ends
joined_with {same = same} {plans = plans} {owners = owners} {ends = ends} is told joined =
    subst (λ l. IsJoined same l owners ends) told (subst (λ l. IsJoined l plans owners ends) is joined)
