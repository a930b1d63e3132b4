-- What is joined is a play of its plans, and a call whose kept answer is a death never ran.
use Rattle.act_executor.proofs.Common.{◌≡◌, ℕ, Bool, true, false, List, [], ◌∷◌, ◌++◌, map, slice_get, Option, Some, None, refl, ap, sym, ◌∙◌, subst, All}
use Rattle.act_executor.proofs.Common.{filter, option_map, KindState, Event, Post, RunItem, Step, Release, IsPrefix, ActorSpec, contains, opening_of}
use Rattle.act_executor.proofs.Common.{actors_naming, runs_of, history, kept_at, world_sound, map-slice_get, Notice, OwnerView, items_from, MailView}
use Rattle.act_executor.proofs.Common.{ControlView, RepliesView, notice_actor, steps_in, Driven, notice_of, SpecsFit, plan_of, end_log, places_of, ServedView}
use Rattle.act_executor.proofs.Common.{AreJoined, IsPlayOfRun, cast_at, log_in, log_of, filter_map, CallsThatDiedNeverRan, kept_in, is_between, DoesPlanIn}
use Rattle.act_executor.proofs.Common.{CollectsInLine, IsPlayOfPlans, IsPlayedAsPlanned, HasPosted, IsSent, Actor, Caller, ReplyPost, DeathPost, IsIn}
use Rattle.act_executor.proofs.Common.{in_from_contains, all_in, all_by_places, contains_is}
use Rattle.act_executor.proofs.EndsOfRuns.Found.{naming, same_cast, served_cast, driven_named}
use Rattle.act_executor.proofs.EndsOfRuns.Joint.{driven_of, served_of, Thread, thread, driver, audit_of, given_to}
use Rattle.act_executor.proofs.PlaysOfThreads.AsPlay.{casts_stay}
use Rattle.act_executor.proofs.PlaysOfThreads.HaveTraces.{HaveTraces}
use Rattle.act_executor.proofs.PlaysOfThreads.JoinedTraces.{did, are_traced, caller_found, caller_none, actor_none, actor_found, is_play_of, kept_left}
use Rattle.act_executor.proofs.PlaysOfThreads.JoinedTraces.{log_is_left, log_found, driven_at}
use Rattle.act_executor.proofs.PlaysOfPlans.TracedPlans.{IsPlayOfPlannedRun, play_of_steps}
use Rattle.act_executor.proofs.PlaysOfPlans.Heard.{post_from, of_listed, of_stranger, given_posts}
use Rattle.act_executor.proofs.PlaysOfPlans.Ran.{died_unrun}
use Rattle.act_executor.proofs.PlaysOfPlans.Once.{Differ, collected_once}
use Rattle.act_executor.proofs.PlaysOfPlans.Letters.{letter_from, letter_in_step, taken_differ, delivered_once}

module _ {mails : List MailView} {controls : List ControlView} {replies : List RepliesView} {casts : List ActorSpec} {plans : List (ℕ × List Step)}
    {driven : List Driven} {served : List ServedView} (j : AreJoined mails controls replies casts plans driven served)
    (have : HaveTraces controls replies casts plans driven served) where
  abbrev owner_in : Driven → OwnerView
  owner_in d = d.owner

  abbrev heard_by : ℕ → List Notice
  heard_by c = filter_map notice_of (did j have (Caller c))

  nothing : (c a : ℕ) (notices : List Notice) (more : List Post) → notices ≡ [] → IsPrefix (map (post_from c) notices) more
  nothing c a notices more none = (more, ap (λ l. map (post_from c) l ++ more) none)

  -- ---- what a caller collected of an actor

  module _ (events : List Event) (play : IsPlayOfRun casts (did j have) events) where
    taken_of : (c a : ℕ) (d : Driven) (s : ServedView) (e : driven_of c driven ≡ Some d) (f : served_of a served ≡ Some s) (t : Thread j a s) →
        IsIn t.cast.cast.callers c → IsPrefix (map (post_from c) (items_from notice_actor a d.passes.collects.taken))
        (map (λ place. ReplyPost c a place) (places_of c (runs_of a (history casts events))) ++ DeathPost c a ∷ [])
    taken_of c a d s e f t listed =
        let audit = (audit_of j t listed e).notices in
        let given = given_to a c s audit.endpoint t.serving t.cast.actor audit.sits audit.line in
        let log : runs_of a (history casts events) ≡ end_log s.end = play.runs a ∙ log_found j have a s f in
        subst (λ l. IsPrefix (map (post_from c) (items_from notice_actor a d.passes.collects.taken))
        (map (λ place. ReplyPost c a place) (places_of c l) ++ DeathPost c a ∷ [])) (sym log)
        (given_posts t.cast.cast.opening a c (end_log s.end) s.end (items_from notice_actor a d.passes.collects.taken)
        (subst (IsPrefix (items_from notice_actor a d.passes.collects.taken)) given audit.front))

    driven_line : (c a : ℕ) (d : Driven) → driven_of c driven ≡ Some d → (b : Bool) → contains a (actors_naming c casts) ≡ b → IsPrefix (map (post_from c)
        (items_from notice_actor a (heard_by c))) (map (λ place. ReplyPost c a place) (places_of c (runs_of a (history casts events))) ++ DeathPost c a ∷ [])
    driven_line c a d e b is =
        let heard : heard_by c ≡ filter (λ notice. contains (notice_actor notice) (actors_naming c casts)) d.passes.collects.taken =
        (caller_found j have c e).heard ∙
        ap (λ n. filter (λ notice. contains (notice_actor notice) (actors_naming n casts)) d.passes.collects.taken) (driver j c d e).id in
        go b is heard
      where
        go : (b : Bool) → contains a (actors_naming c casts) ≡ b → heard_by c ≡ filter (λ notice. contains (notice_actor notice) (actors_naming c casts))
            d.passes.collects.taken → IsPrefix (map (post_from c) (items_from notice_actor a (heard_by c)))
            (map (λ place. ReplyPost c a place) (places_of c (runs_of a (history casts events))) ++ DeathPost c a ∷ [])
        go false is heard = nothing c a
            (items_from notice_actor a (heard_by c)) _ (ap (items_from notice_actor a) heard ∙ of_stranger a (actors_naming c casts) is d.passes.collects.taken)
        go true is heard =
            let n = naming casts c a j.casts_are (contains_is a (actors_naming c casts) is) in
            let found = served_cast j a n.inside n.actor in let t = thread j a found.one found.is in
            let listed = subst (λ (x : ActorSpec). IsIn x.callers c) (same_cast t.cast n.at) n.names in
            subst (λ l. IsPrefix (map (post_from c) l)
            (map (λ place. ReplyPost c a place) (places_of c (runs_of a (history casts events))) ++ DeathPost c a ∷ []))
            (sym (ap (items_from notice_actor a) heard ∙ of_listed a (actors_naming c casts) is d.passes.collects.taken))
            (taken_of c a d found.one e found.is t listed)

    line_of : (c a : ℕ) → filter (is_between c a) (history casts events).collected ≡ map (post_from c) (items_from notice_actor a (heard_by c)) →
        CollectsInLine (history casts events) c a
    line_of c a is = subst (λ l. IsPrefix l (map (λ place. ReplyPost c a place) (places_of c (runs_of a (history casts events))) ++ DeathPost c a ∷ []))
        (sym is) (go (driven_of c driven) refl)
      where
        go : (o : Option Driven) → driven_of c driven ≡ o → IsPrefix (map (post_from c) (items_from notice_actor a (heard_by c)))
            (map (λ place. ReplyPost c a place) (places_of c (runs_of a (history casts events))) ++ DeathPost c a ∷ [])
        go None e = nothing c a
            (items_from notice_actor a (heard_by c)) _ (ap (λ l. items_from notice_actor a (filter_map notice_of (steps_in l))) (caller_none j have c e))
        go (Some d) e = driven_line c a d e (contains a (actors_naming c casts)) refl

    -- what ran has a cast
    opened : (a p : ℕ) (item : RunItem) → slice_get (runs_of a (history casts events)) p ≡ Some item →
        (state : KindState) × (opening_of a (history casts events) ≡ Some state)
    opened a p item at = go (served_of a served) refl
      where
        go : (o : Option ServedView) → served_of a served ≡ o → (state : KindState) × (opening_of a (history casts events) ≡ Some state)
        go None e =
            let none : runs_of a (history casts events) ≡ [] = play.runs a ∙ ap (λ l. log_of (steps_in l)) (actor_none j have a e) in
            let bad : None ≡ Some item = subst (λ l. slice_get l p ≡ Some item) none at in cc
        go (Some s) e =
            let t = thread j a s e in (
              t.cast.cast.opening,
              ap (λ l. option_map (λ (x : ActorSpec). x.opening) (cast_at a l)) (casts_stay casts events) ∙
                  ap (option_map (λ (x : ActorSpec). x.opening)) t.cast.at,
            )

  -- ---- what an actor took of a caller

  taken_once : (c a : ℕ) (d : Driven) (s : ServedView) (e : driven_of c driven ≡ Some d) (t : Thread j a s) → IsIn t.cast.cast.callers c →
      Differ (filter_map (letter_from c a) s.passes.letters.taken)
  taken_once c a d s e t listed =
      let audit = (audit_of j t listed e).letters in
      let line : MailView = record { line = audit.endpoint.pass.line; actor = a } in
      let posted = all_in (HasPosted mails d.owner) (driver j c d e).driving.letters (in_from_contains d.passes.letters.items audit.endpoint audit.sits) line in
      taken_differ c a d.owner s.passes.letters.taken audit.endpoint.pass.put audit.front
      (subst (λ n. All (IsSent d.owner n) audit.endpoint.pass.put) (audit.line line) posted.0) posted.1

  letters_differ : (c a : ℕ) → Differ (filter_map (letter_in_step c a) (did j have (Actor a)))
  letters_differ c a = go (served_of a served) refl
    where
      by : (s : ServedView) (e : served_of a served ≡ Some s) (b : Bool) → contains c (actor_found j have a e).cast.callers ≡ b
          → Differ (filter_map (letter_in_step c a) (did j have (Actor a)))
      by s e false is = subst (λ l. Differ l) (sym ((actor_found j have a e).no_letters c a is)) tt
      by s e true is =
          let w = actor_found j have a e in let t = thread j a s e in
          let same = same_cast t.cast (subst (λ n. cast_at n casts ≡ Some w.cast) t.id w.at) in
          let listed = subst (λ (x : ActorSpec). IsIn x.callers c) same (contains_is c w.cast.callers is) in
          let found = driven_named j t.cast.inside listed in subst (λ l. Differ l) (sym (w.letters_taken c a is)) (taken_once c a found.one s found.is t listed)

      go : (o : Option ServedView) → served_of a served ≡ o → Differ (filter_map (letter_in_step c a) (did j have (Actor a)))
      go None e = subst (λ l. Differ (filter_map (letter_in_step c a) (steps_in l))) (sym (actor_none j have a e)) tt
      go (Some s) e = by s e (contains c (actor_found j have a e).cast.callers) refl

  -- ---- each caller's plan

  module _ (events : List Event) (played : IsPlayOfPlannedRun casts (did j have) events) where
    lines : (c a : ℕ) → CollectsInLine (history casts events) c a
    lines c a = line_of events played.play c a (played.collected c a)

    does_plan : (owner : OwnerView) (d : Driven) (k : ℕ) → slice_get driven k ≡ Some d → owner_in d ≡ owner →
        (closing : List ℕ) × DoesPlanIn casts owner.id (plan_of owner.id plans ++ map (λ a. Release a) closing) [] events
    does_plan owner d k at is =
        let does = (caller_found j have d.owner.id (driven_at j have k d at)).does in
        subst (λ (o : OwnerView). (closing : List ℕ) × DoesPlanIn casts o.id (plan_of o.id plans ++ map (λ a. Release a) closing) [] events) is
        (does.0, played.does d.owner.id _ does.1)

    pub is_play_of_plans : IsPlayOfPlans casts plans events (map owner_in driven) (map (λ s. s.end) served)
    is_play_of_plans = record {
      play = is_play_of j have events played.play;
      does = all_by_places (λ (owner : OwnerView). (closing : List ℕ) × DoesPlanIn casts owner.id (plan_of owner.id plans ++ map (λ a. Release a) closing) []
          events) (map owner_in driven) (λ k owner at. let there = map-slice_get owner_in driven k at in does_plan owner there.0 k there.1 there.2);
      in_line = lines;
      delivered_once = delivered_once (history casts events).arrived (λ c a. subst (λ l. Differ l) (sym (played.arrived c a)) (letters_differ c a));
      collected_once = collected_once (history casts events) lines;
    }

    pub died_never_ran : CallsThatDiedNeverRan (kept_in (map owner_in driven)) (log_in (map (λ s. s.end) served))
    died_never_ran c k kept a p item at =
        died_unrun (world_sound casts events) (opened events played.play) lines c k
        (ap (λ l. kept_at l k) (played.play.kept c ∙ kept_left j have c) ∙ kept) a p item
        (subst (λ l. slice_get l p ≡ Some item) (sym (played.play.runs a ∙ log_is_left j have a)) at)

  -- a call that died never ran
  pub never_ran : SpecsFit casts → CallsThatDiedNeverRan (kept_in (map owner_in driven)) (log_in (map (λ s. s.end) served))
  never_ran fit = let played = play_of_steps casts fit (are_traced j have) in died_never_ran played.0 played.1

  -- and some play is one of the plans
  pub as_planned : SpecsFit casts → IsPlayedAsPlanned casts plans (map owner_in driven) (map (λ s. s.end) served)
  as_planned fit = let played = play_of_steps casts fit (are_traced j have) in (played.0, is_play_of_plans played.0 played.1)
