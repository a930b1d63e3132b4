-- A whole search answers for each end of plans, and for each run in threads.
use Rattle.act_explore.proofs.Common.{◌≡◌, ℕ, ◌<◌, length, true, false, List, Some, is_some, slice_get, sym, ap, ◌∙◌, subst, Contains, slice_get_within}
use Rattle.act_explore.proofs.Common.{All-contains, Event, Submission, Step, ActorSpec, History, calls_of, kept_of, kept_at, At, IsPlay, EndsAlike, enough}
use Rattle.act_explore.proofs.Common.{named_among, named_call, world, OwnerView, EndView, plan_of, IsJoined, calls_of_owner, kept_of_owner, calls_in, kept_in}
use Rattle.act_explore.proofs.Common.{IsOwnerIn, all_in, AreOfARun, EndsAsThreads, seen_end, is_named, owner_left, IsDone, HasPassed, EachEndHas, EachRunHas}
use Rattle.act_explore.proofs.Common.{HasSearchedAll}

-- a play that ends as an ended one is done
module _ (plans : ℕ → List Step) (early : At) (late : History) (alike : EndsAlike plans early late)
    (answered : (c k : ℕ) (call : Submission) → slice_get (calls_of c late) k ≡ Some call → is_some (kept_at (kept_of c late) k) ≡ true) where
  pub done_alike : IsDone plans early
  done_alike = record {
    done = alike.done;
    answered = λ c k call at. ap (λ l. is_some (kept_at l k)) (alike.kept c) ∙ answered c k call (ap (λ l. slice_get l k) (sym (alike.calls c)) ∙ at);
  }

-- so is a play that ends as threads did
module _ (casts : List ActorSpec) (plans : List (ℕ × List Step)) (owners : List OwnerView) (ends : List EndView) (of : AreOfARun casts plans)
    (joined : IsJoined casts plans owners ends)
    (early : At) (play : IsPlay casts (λ c. plan_of c plans) early) (alike : EndsAsThreads plans early owners ends) where
  all_answered : (c k : ℕ) (call : Submission) → slice_get (calls_of c early.history) k ≡ Some call → is_some (kept_at (kept_of c early.history) k) ≡ true
  all_answered c k call at =
      let is = world casts (λ d. plan_of d plans) early play in
      let named = named_among c call.actor early.history.casts (named_call early.history c k is.retires.named at) in
      let left = owner_left owners of joined.callers c (subst (λ l. is_named l c ≡ true) is.casts named) in
      let here = all_in (IsOwnerIn early.history) alike.callers left.inside in
      let calls : left.owner.calls ≡ calls_of c early.history = here.calls ∙ ap (λ n. calls_of n early.history) left.id in
      let below : k < length left.owner.calls =
      slice_get_within left.owner.calls k call (subst (λ l. slice_get l k ≡ Some call) (sym calls) at) in
      let listed : k < length (calls_in owners c) = subst (λ o. k < length (calls_of_owner o)) (sym left.is) below in
      let same : kept_at (kept_in owners c) k ≡ kept_at (kept_of c early.history) k =
      ap (λ o. kept_at (kept_of_owner o) k) left.is ∙ here.answers k below ∙ ap (λ n. kept_at (kept_of n early.history) k) left.id in
      ap is_some (sym same) ∙ joined.answered c k listed

  pub done_as_threads : IsDone (λ c. plan_of c plans) early
  done_as_threads = record { done = alike.done; answered = all_answered }

module _ (casts : List ActorSpec) (plans : List (ℕ × List Step)) (Passed : List Event → Type 0) (seen : List At)
    (searched : HasSearchedAll casts (λ c. plan_of c plans) Passed seen) where
  passed : (at : At) → Contains seen at → IsDone (λ c. plan_of c plans) at → HasPassed casts Passed at.history
  passed at here = All-contains (λ (one : At). IsDone (λ c. plan_of c plans) one → HasPassed casts Passed one.history) seen at searched.passed here

  pub each_end : EachEndHas casts plans (HasPassed casts Passed)
  each_end late is ended losing =
      let early = enough casts (λ c. plan_of c plans) (λ a. false) (Contains seen) late searched.whole is ended losing in
      record {
        early = early.0;
        play = searched.whole.plays early.0 early.1;
        holds = passed early.0 early.1 (done_alike (λ c. plan_of c plans) early.0 late.history early.2 ended.over.answered);
        ends = early.2;
      }

  pub each_run : AreOfARun casts plans → EachRunHas casts plans (HasPassed casts Passed)
  each_run of owners ends joined played =
      let early = seen_end casts plans (λ a. false) seen ends of searched.whole joined played in
      let play = searched.whole.plays early.0 early.1 in
      record {
        early = early.0;
        play = play;
        holds = passed early.0 early.1 (done_as_threads casts plans owners ends of joined early.0 play early.2);
        ends_so = early.2;
      }

-- what holds of each, holds where more does
pub each_end_weaker : (casts : List ActorSpec) (plans : List (ℕ × List Step)) (P Q : History → Type 0) → ((h : History) → P h → Q h) → EachEndHas casts plans P
    → EachEndHas casts plans Q
each_end_weaker casts plans P Q weaker each late is ended losing =
    let so = each late is ended losing in record { early = so.early; play = so.play; holds = weaker so.early.history so.holds; ends = so.ends }

-- where the early play for each run in threads has a property, it has each that follows from it
pub each_run_weaker : (casts : List ActorSpec) (plans : List (ℕ × List Step)) (P Q : History → Type 0) → ((h : History) → P h → Q h) → EachRunHas casts plans P
    → EachRunHas casts plans Q
each_run_weaker casts plans P Q weaker each owners ends joined played =
    let so = each owners ends joined played in record { early = so.early; play = so.play; holds = weaker so.early.history so.holds; ends_so = so.ends_so }
