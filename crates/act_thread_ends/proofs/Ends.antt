-- What a run in threads leaves is the end of a play that a whole search saw.
use Rattle.act_thread_ends.proofs.Common.{◌≡◌, ℕ, ◌<◌, ◌==◌, ◌||◌, ◌++◌, Bool, true, false, List, [], length, map, slice_get, Option, Some, None, refl, ap, sym}
use Rattle.act_thread_ends.proofs.Common.{◌∙◌, subst, Contains, find, is_some, All-weaker, Event, Step, Release, kept_at, ActorSpec, History, opening, names}
use Rattle.act_thread_ends.proofs.Common.{cast_of, calls_of, kept_of, runs_of, is_dead, is_retired, is_ended, held_submission, DoesStepsBy, KeepsToPlans}
use Rattle.act_thread_ends.proofs.Common.{OwnerView, EndView, Killed, Retired, Starved, end_id, plan_of, IsJoined, calls_of_owner, kept_of_owner, log_of_end}
use Rattle.act_thread_ends.proofs.Common.{calls_in, kept_in, log_in, DoesPlanIn, IsPlayOfPlans, IsPlayedAsPlanned, all_in, AreOfARun, CanEnd, CanBeEndIn}
use Rattle.act_thread_ends.proofs.Common.{EndsAsThreads, or_right}
use Rattle.std.proofs.lemmas.Option.{slice_get_within}
use Rattle.act_rules.specs.declared.history.RunItem.{RunItem}
use Rattle.act_rules.specs.declared.history.Submission.{Submission}
use Rattle.act_rules.specs.RunList.{Answer}
use Rattle.act_rules.specs.Laws.{history}
use Rattle.act_rules.proofs.RanAll.{world_retires, named_call}
use Rattle.act_rules.proofs.Sound.{world_sound}
use Rattle.act_early.specs.Plays.{At}
use Rattle.act_early.specs.Early.{is_reply, is_heard, IsWholeSearch, IsOver, LosesOnly, EndsAlike}
use Rattle.act_early.proofs.Found.{found}
use Rattle.act_rules.proofs.Callers.{named_among}
use Rattle.act_early.proofs.Replies.{reply_died}
use Rattle.act_early.proofs.Worlds.{world}
use Rattle.act_rules.proofs.Events.{some_cast}
use Rattle.act_executor.specs.Plays.{IsOwnerIn, HasEndedIn, IsEndIn}
use Rattle.act_executor.proofs.PlaysOfThreads.AsPlay.{casts_stay}
use Rattle.act_thread_ends.proofs.Plans.{steps_by, strangers, no_plan}
use Rattle.act_thread_ends.proofs.Left.{owner_left, IsEndLeft, end_left}
use Rattle.act_rules.proofs.Callers.{is_named}

module _ (casts : List ActorSpec) (plans : List (ℕ × List Step)) (owners : List OwnerView) (ends : List EndView) (of : AreOfARun casts plans)
    (joined : IsJoined casts plans owners ends)
    (events : List Event) (played : IsPlayOfPlans casts plans events owners ends) where
  abbrev h : History
  h = history casts events

  casts_are : h.casts ≡ casts
  casts_are = casts_stay casts events

  -- ---- what is left is the history's

  -- a call has an answer, and it is the owner's
  record IsAnswered (c k : ℕ) : Type 0 where
    some : is_some (kept_at (kept_of c h) k) ≡ true
    same : kept_at (kept_in owners c) k ≡ kept_at (kept_of c h) k

  answered : (c k : ℕ) (call : Submission) → slice_get (calls_of c h) k ≡ Some call → IsAnswered c k
  answered c k call at =
      let named = named_among c call.actor h.casts (named_call h c k (world_retires casts events).named at) in
      let left = owner_left owners of joined.callers c (subst (λ l. is_named l c ≡ true) casts_are named) in
      let here = all_in (IsOwnerIn h) played.play.callers left.inside in
      let calls : left.owner.calls ≡ calls_of c h = here.calls ∙ ap (λ n. calls_of n h) left.id in
      let below : k < length left.owner.calls =
      slice_get_within left.owner.calls k call (subst (λ l. slice_get l k ≡ Some call) (sym calls) at) in
      let listed : k < length (calls_in owners c) = subst (λ o. k < length (calls_of_owner o)) (sym left.is) below in
      let same : kept_at (kept_in owners c) k ≡ kept_at (kept_of c h) k =
      ap (λ o. kept_at (kept_of_owner o) k) left.is ∙ here.answers k below ∙ ap (λ n. kept_at (kept_of n h) k) left.id in
      record { some = ap is_some (sym same) ∙ joined.answered c k listed; same = same }

  end_at : (a : ℕ) → is_some (cast_of a h) ≡ true → IsEndLeft ends a
  end_at a known = end_left casts ends of joined.actors a (subst (λ l. is_some (find (λ (cast : ActorSpec). cast.actor == a) l) ≡ true) casts_are known)

  ended_so : (end : EndView) → HasEndedIn h end → is_ended (end_id end) h ≡ true
  ended_so (Killed dead) e = ap (λ b. b || is_retired dead.id h) e
  ended_so (Retired retired) e = or_right (is_dead retired.id h) _ e.1
  ended_so (Starved dead) e = absurd e

  over : IsOver h
  over = record {
    answered = λ c k call at. (answered c k call at).some;
    ended = λ a known.
        let left = end_at a known in subst (λ n. is_ended n h ≡ true) left.id (ended_so left.end (all_in (IsEndIn h) played.play.actors left.inside).ended);
  }

  -- ---- no reply was lost

  log_is : (a : ℕ) → is_some (cast_of a h) ≡ true → log_in ends a ≡ runs_of a h
  log_is a known = let left = end_at a known in ap log_of_end left.is ∙ (all_in (IsEndIn h) played.play.actors left.inside).runs ∙ ap (λ n. runs_of n h) left.id

  heard : (a place : ℕ) (item : RunItem) → slice_get (runs_of a h) place ≡ Some item → is_heard h item ≡ true
  heard a place item at = go (kept_at (kept_of item.caller h) item.future) refl mine.some
    where
      call : (call : Submission) × (slice_get (calls_of item.caller h) item.future ≡ Some call) × (call.actor ≡ a)
      call = held_submission h a {c = item.caller} item.future place (world_sound casts events).order at refl refl

      mine : IsAnswered item.caller item.future
      mine = answered item.caller item.future call.0 call.1

      named : names item.caller (cast_of a h) ≡ true
      named = subst (λ n. names item.caller (cast_of n h) ≡ true) call.2 (named_call h item.caller item.future (world_retires casts events).named call.1)

      logged : slice_get (log_in ends a) place ≡ Some item
      logged = subst (λ l. slice_get l place ≡ Some item) (sym (log_is a (some_cast item.caller (cast_of a h) named))) at

      reply : {answer : Answer} (b : Bool) → is_reply (Some answer) ≡ b → kept_at (kept_of item.caller h) item.future ≡ Some answer
          → is_reply (Some answer) ≡ true
      reply true e is = e
      reply {answer} false e is = absurd (joined.ran item.caller item.future (mine.same ∙ is
          ∙ ap (λ x. Some x) (reply_died answer e)) a place item logged refl refl)

      go : (o : Option Answer) → kept_at (kept_of item.caller h) item.future ≡ o → is_some o ≡ true → is_reply o ≡ true
      go None is some = cc
      go (Some answer) is some = reply (is_reply (Some answer)) refl is

  loses_none : (may_lose : ℕ → Bool) → LosesOnly may_lose h
  loses_none may_lose a place item at = ap (λ b. b || may_lose a) (heard a place item at)

  -- ---- each keeps to its plan

  keeps : KeepsToPlans casts (λ c. plan_of c plans) events
  keeps c = go (is_named casts c) refl
    where
      go : (b : Bool) → is_named casts c ≡ b → (closing : List ℕ) × DoesStepsBy casts c (plan_of c plans ++ map (λ a. Release a) closing) [] events
      go true named =
          let left = owner_left owners of joined.callers c named in
          let does = all_in (λ (owner : OwnerView). (closing : List ℕ)
          × DoesPlanIn casts owner.id (plan_of owner.id plans ++ map (λ a. Release a) closing) [] events) played.does left.inside in
          let mine = subst (λ n. (closing : List ℕ) × DoesPlanIn casts n (plan_of n plans ++ map (λ a. Release a) closing) [] events) left.id does in
          (mine.0, steps_by casts c (plan_of c plans ++ map (λ a. Release a) mine.0) [] events mine.1)
      go false none = (
        [],
        subst (λ l. DoesStepsBy casts c (l ++ []) [] events) (sym (no_plan casts c plans of.named none))
            (strangers casts c (opening casts) events refl none played.play.accepted),
      )

  -- ---- what was found

  module _ (early : At) (same : early.history.casts ≡ h.casts) (alike : EndsAlike (λ c. plan_of c plans) early h) where
    owner_in : (owner : OwnerView) → IsOwnerIn h owner → IsOwnerIn early.history owner
    owner_in owner o = record {
      known = ap (λ l. is_named l owner.id) same ∙ o.known;
      calls = o.calls ∙ sym (alike.calls owner.id);
      answers = λ k below. o.answers k below ∙ ap (λ l. kept_at l k) (sym (alike.kept owner.id));
    }

    can_end : (end : EndView) → HasEndedIn h end → CanEnd early.history end
    can_end (Killed dead) e = alike.dead dead.id ∙ e
    can_end (Retired retired) e = (alike.dead retired.id ∙ e.0, alike.retires retired.id e.1)
    can_end (Starved dead) e = e

    end_in : (end : EndView) → IsEndIn h end → CanBeEndIn early.history end
    end_in end e = record {
      known = ap (λ l. is_some (find (λ (cast : ActorSpec). cast.actor == end_id end) l)) same ∙ e.known;
      runs = e.runs ∙ sym (alike.runs (end_id end));
      ends = can_end end e.ended;
    }

    ends_so : EndsAsThreads plans early owners ends
    ends_so = record {
      done = alike.done;
      callers = All-weaker (IsOwnerIn h) (IsOwnerIn early.history) owner_in owners played.play.callers;
      actors = All-weaker (IsEndIn h) (CanBeEndIn early.history) end_in ends played.play.actors;
    }

  seen_so : (may_lose : ℕ → Bool) (seen : List At) → IsWholeSearch casts (λ c. plan_of c plans) may_lose (Contains seen) → (early : At) × Contains seen early
      × EndsAsThreads plans early owners ends
  seen_so may_lose seen search =
      let early = found casts (λ c. plan_of c plans) may_lose seen events search played.play.accepted keeps over (loses_none may_lose) in
      let casts_stay = (world casts (λ c. plan_of c plans) early.0 (search.plays early.0 early.1)).casts in
      (early.0, early.1, ends_so early.0 (casts_stay ∙ sym casts_are) early.2)

-- whatever a run of the plans in threads leaves, a whole search saw a play that ends so
pub seen_end : (casts : List ActorSpec) (plans : List (ℕ × List Step)) (may_lose : ℕ → Bool) (seen : List At) {owners : List OwnerView} (ends : List EndView) →
    AreOfARun casts plans → IsWholeSearch casts (λ c. plan_of c plans) may_lose (Contains seen) → IsJoined casts plans owners ends →
    IsPlayedAsPlanned casts plans owners ends → (early : At) × Contains seen early × EndsAsThreads plans early owners ends
seen_end casts plans may_lose seen {owners} ends of search joined played = seen_so casts plans owners ends of joined played.0 played.1 may_lose seen search
