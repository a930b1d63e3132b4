-- Each step of a thread is caused by the deeds before it.
use Rattle.act_executor.proofs.Common.{◌≡◌, ℕ, ◌<◌, List, [], ◌∷◌, ◌++◌, length, Some, refl, ap, sym, ◌∙◌, subst, Contains, slice_get, option_map, map-append}
use Rattle.act_executor.proofs.Common.{filter_map-append, slice_get-map, Answered, Death, Reply, Packet, ReleaseNote, steps_in, found_in, RunItem, IsPrefix}
use Rattle.act_executor.proofs.Common.{ActorSpec, answer_at, answer_at-front, copies_in, calls_to, OwnerView, packet_at, is_known_at, places_all}
use Rattle.act_executor.proofs.Common.{packet_stays_all, after_all-append, after_actions, left_by, opened_of, IsReplyGiven, IsSentCall, IsLastNote, IsGiven}
use Rattle.act_executor.proofs.Common.{IsCaused, IsFrontBelow, IsCallPosted, IsNotePosted, IsReplyGivenBy, WasGiven, AreTraced, contains_map, CallerMayDoAll}
use Rattle.act_executor.proofs.Common.{MayDo, MayDoAll, Threads, Action, Actor, CallTaken, Caller, DeathTold, KillAsked, KillTaken, NoteTaken, Noticed, Sent}
use Rattle.act_executor.proofs.Common.{Site, action_at, actions_of, call_run, log_of, true}
use Rattle.act_causes.proofs.Found.{found_is}
use Rattle.act_executor.proofs.Lists.Cuts.{contains_mid, place_seen, step_seen, first_seen}
use Rattle.act_executor.proofs.PlaysOfThreads.Allowed.{may_front, sent_known, gone_stays}
use Rattle.act_executor.proofs.PlaysOfThreads.MayDo.{caller_of_all, may_at}
use Rattle.act_executor.proofs.PlaysOfThreads.Seen.{found_below, IsSeen, seen_before}

-- ---- what an actor ran

module _ (m : ℕ) (trace front : List (ℕ × Action)) (seen : IsFrontBelow m trace front) where
  -- a call that ran earlier stands at its place in the front
  ran_in_front : (n place : ℕ) (item : RunItem) → slice_get (found_in call_run trace) place ≡ Some (n, item) → n < m
      → slice_get (log_of (steps_in front)) place ≡ Some item
  ran_in_front n place item at lt =
      ap (λ l. slice_get l place) (sym (found_is call_run front))
      ∙ slice_get-map (λ (x : ℕ × RunItem). x.1) (found_in call_run front) place
      ∙ ap (option_map (λ (x : ℕ × RunItem). x.1))
      (place_seen m (found_in call_run trace) (found_in call_run front) (found_below call_run m front seen) place n at lt)

  -- what it ran in the front is the first of what it ran
  log_front : IsPrefix (log_of (steps_in front)) (log_of (steps_in trace))
  log_front = (
    log_of (steps_in seen.later),
    sym (
        ap (λ l. log_of (steps_in l)) seen.cut
        ∙ ap log_of (map-append (λ (x : ℕ × Action). x.1) front seen.later)
        ∙ filter_map-append call_run (steps_in front) (steps_in seen.later)),
  )

-- ---- what a caller sent

-- a call that was sent in a front has its packet from then on
packet_then : (owner : OwnerView) (front later : List Action) (k : ℕ) → length owner.kept ≡ length owner.calls → CallerMayDoAll owner (front ++ later) →
    Contains front (Sent k) → packet_at (after_actions owner front) k ≡ packet_at (after_actions owner (front ++ later)) k
packet_then owner front later k places may sent =
    let known : is_known_at (after_actions owner front) k ≡ true = sent_known owner front k places (may_front owner front later may) sent in
    sym (packet_stays_all (after_actions owner front) later k (places_all owner front places) known).1
    ∙ ap (λ o. packet_at o k) (sym (after_all-append owner front later))

module _ (casts : List ActorSpec) (threads : Threads) (before : List (ℕ × (Site × Action))) (m : ℕ) (traced : AreTraced casts threads)
    (seen : IsSeen threads before m) where
  -- a caller's steps before, and those later, and that it may do them all
  module _ (c : ℕ) where
    abbrev front : List (ℕ × Action)
    front = found_in (action_at (Caller c)) before

    abbrev did : List Action
    did = steps_in front

    abbrev rest : List Action
    rest = steps_in (seen (Caller c)).later

    whole : steps_in (threads (Caller c)) ≡ did ++ rest
    whole = ap steps_in (seen (Caller c)).cut ∙ map-append (λ (x : ℕ × Action). x.1) front (seen (Caller c)).later

    may_all : CallerMayDoAll (opened_of c casts) (did ++ rest)
    may_all = subst (CallerMayDoAll (opened_of c casts)) whole (caller_of_all casts c [] (steps_in (threads (Caller c))) (traced.may (Caller c)))

  reply_given : (c : ℕ) (reply : Reply) → IsReplyGivenBy casts threads c m reply → IsReplyGiven casts (steps_in before) c reply
  reply_given c reply given =
      let a = reply.actor in let trace : List (ℕ × Action) = threads (Actor a) in let front : List (ℕ × Action) = found_in (action_at (Actor a)) before in
      let same : actions_of (Actor a) (steps_in before) ≡ steps_in front = sym (found_is (action_at (Actor a)) before) in
      let ran : slice_get (log_of (steps_in front)) reply.place ≡ Some given.item =
      ran_in_front m trace front (seen (Actor a)) given.stamp reply.place given.item given.ran given.earlier in
      record {
        caller = given.caller;
        item = given.item;
        ran = ap (λ steps. slice_get (log_of steps) reply.place) same ∙ ran;
        for_caller = given.for_caller;
        future = given.future;
        cast = given.cast;
        at = given.at;
        answered = ap (λ steps. answer_at given.cast.opening (log_of steps) reply.place) same ∙ sym (answer_at-front given.cast.opening
            (log_of (steps_in front)) (log_of (steps_in trace)) reply.place (log_front m trace front (seen (Actor a))) ran) ∙ given.answered;
      }

  sent_call : (a : ℕ) (packet : Packet) → IsCallPosted casts threads a m packet → IsSentCall casts (steps_in before) a packet
  sent_call a packet posted =
      let c = packet.caller in let step : ℕ × Action = (posted.stamp, Sent packet.future) in
      let sent = contains_map (λ (x : ℕ × Action). x.1) (front c) step
      (step_seen m (threads (Caller c)) (front c) (seen (Caller c)) (Sent packet.future) posted.sent posted.earlier) in
      record {
        to = posted.to;
        sent = seen_before before m seen (Caller c) (Sent packet.future) posted.sent posted.earlier;
        is = ap (λ steps. packet_at (left_by casts c steps) packet.future) (sym (found_is (action_at (Caller c)) before)) ∙ packet_then (opened_of c casts)
            (did c) (rest c) packet.future refl (may_all c) sent ∙ ap (λ steps. packet_at (left_by casts c steps) packet.future) (sym (whole c)) ∙ posted.is;
      }

  last_note : (a : ℕ) (note : ReleaseNote) → IsNotePosted casts threads a m note → IsLastNote casts (steps_in before) a note
  last_note a note posted =
      let c = note.caller in let o = opened_of c casts in
      let shorter : IsPrefix posted.before (front c) =
      first_seen m (threads (Caller c)) (front c) (seen (Caller c)) posted.before posted.later posted.cut posted.earlier in
      let cut : did c ≡ steps_in posted.before ++ steps_in shorter.0 =
      ap steps_in (sym shorter.1) ∙ map-append (λ (x : ℕ × Action). x.1) posted.before shorter.0 in
      let may : CallerMayDoAll o (steps_in posted.before ++ steps_in shorter.0) = subst (CallerMayDoAll o) cut (may_front o (did c) (rest c) (may_all c)) in
      let gone : copies_in a (left_by casts c (did c)).handles ≡ Some 0 =
      ap (λ steps. copies_in a (left_by casts c steps).handles) cut
      ∙ (gone_stays o (steps_in posted.before) (steps_in shorter.0) a may posted.gone).0 in
      let same : did c ≡ actions_of (Caller c) (steps_in before) = found_is (action_at (Caller c)) before in
      record {
        to = posted.to;
        named = posted.named;
        gone = subst (λ steps. copies_in a (left_by casts c steps).handles ≡ Some 0) same gone;
        counts = posted.counts ∙ ap (λ steps. length (calls_to a (left_by casts c steps).calls)) (whole c) ∙ ap (λ calls. length calls)
            (gone_stays o (did c) (rest c) a (may_all c) gone).1 ∙ ap (λ steps. length (calls_to a (left_by casts c steps).calls)) same;
      }

  given : (deed : Site × Action) → WasGiven casts threads m deed → IsGiven casts (steps_in before) deed
  given (Caller c, Noticed (Answered reply)) was = reply_given c reply was
  given (Caller c, Noticed (Death a)) was = seen_before before m seen (Actor a) (DeathTold c) was.done was.earlier
  given (Actor a, CallTaken packet) was = sent_call a packet was
  given (Actor a, NoteTaken note) was = last_note a note was
  given (Actor a, KillTaken asker note) was = (was.0, seen_before before m seen (Caller was.0) (KillAsked a) was.1.done was.1.earlier)
  given deed was = tt

  pub caused : (site : Site) (action : Action) (later : List (ℕ × Action)) → threads site ≡ found_in (action_at site) before ++ (m, action) ∷ later →
      IsCaused casts (steps_in before) (site, action)
  caused site action later whole =
      let front : List (ℕ × Action) = found_in (action_at site) before in
      let here : Contains (threads site) (m, action) = subst (λ l. Contains l (m, action)) (sym whole) (contains_mid front later (m, action)) in
      let steps : steps_in (threads site) ≡ steps_in front ++ action ∷ steps_in later =
      ap steps_in whole ∙ map-append (λ (x : ℕ × Action). x.1) front ((m, action) ∷ later) in
      record {
        may = subst (λ l. MayDo casts site l action) (found_is (action_at site) before)
            (may_at casts site [] (steps_in front) (steps_in later) action (subst (MayDoAll casts site []) steps (traced.may site)));
        given = given (site, action) (traced.given site m action here);
      }
