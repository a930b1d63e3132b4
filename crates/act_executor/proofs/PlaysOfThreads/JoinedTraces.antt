-- That the threads of a run did each step after its cause, and that a play leaves what they leave.
use Rattle.act_executor.proofs.Common.{◌≡◌, ◌≢◌, ℕ, ◌<◌, ◌≤◌, Bool, true, false, List, [], ◌∷◌, ◌++◌, length, map, zip, Some, None, inl, inr, refl, ap, sym}
use Rattle.act_executor.proofs.Common.{◌∙◌, subst, arith, AllPairs, Contains, Option, ◌==◌, slice_get, option_map, list_any, All-weaker, AllPairs-filter}
use Rattle.act_executor.proofs.Common.{slice_get-map, eq-eqb, MAX_ACTORS, MAX_CALLERS, Notice, Answered, Death, ReleaseNote, Event, RunItem, Step, answer_at}
use Rattle.act_executor.proofs.Common.{has_terminated, calls_to, ActorSpec, contains, actors_naming, one_to, filter-slice_get, copies_in, OwnerView, packet_at}
use Rattle.act_executor.proofs.Common.{Noticed, Asked, Letter, Call, Note, MailView, caller_of, ControlView, ControlExecView, asker_of, starter, RepliesView}
use Rattle.act_executor.proofs.Common.{notice_actor, steps_in, found_in, EndView, Killed, Retired, Starved, end_id, end_log, replies_to, deaths, KillsOfDead}
use Rattle.act_executor.proofs.Common.{KillsTaken, Driven, IsSent, cast_at, numbers_differ, IsNamed, left_by, Action, CallTaken, NoteTaken, taking, KillTaken}
use Rattle.act_executor.proofs.Common.{call_run, log_in, log_of, IsGivenAfter, IsActorTraced, after_actions, CallerMayDoAll, IsPostedAfter, IsAskedAfter}
use Rattle.act_executor.proofs.Common.{AreTraced, IsPlayOfRun, IsPlayOf, WasDone, WasGiven, IsOwnerIn, IsEndIn, kept_at, is_some, find, filter, pairs_of_map}
use Rattle.act_executor.proofs.Common.{map-slice_get, eqb-true, MayDoAll, history, is_starved, kept_of_owner, log_of_end, kept_in, opened_of, HasDonePlan}
use Rattle.act_executor.proofs.Common.{plan_of, ServedView, NoticesAudited, AreJoined, Actor, Caller, KillAsked, KillNote, Site, Threads, letter_taken, All}
use Rattle.act_executor.proofs.Common.{items_put, IsIn, in_from_contains, all_in, all_by_places, in_filter, in_none, in_first, finds, found_is, found_alone}
use Rattle.act_executor.proofs.PlaysOfThreads.AsPlay.{casts_stay, has_ended}
use Rattle.act_executor.proofs.PlaysOfThreads.HaveTraces.{HaveTraces}
use Rattle.act_executor.proofs.EndsOfRuns.Found.{naming, same_cast, driven_named, served_cast, one_of}
use Rattle.act_executor.proofs.EndsOfRuns.Given.{reply_given}
use Rattle.act_executor.proofs.EndsOfRuns.Joint.{driven_of, served_of, of_owner, of_end, Thread, thread_in, thread, driver, audit_of, letter_sent, given_in}
use Rattle.act_executor.proofs.Lists.Stamped.{IsTakenFrom, put_with}
use Rattle.act_executor.proofs.PlaysOfThreads.MayDo.{contains_none, caller_may_all, actor_may_all}
use Rattle.act_executor.proofs.PlaysOfThreads.TracedActors.{IsActorWork, actor_works}
use Rattle.act_executor.proofs.PlaysOfThreads.TracedCallers.{IsCallerWork, caller_works}

-- ---- what was taken was put after its cause

-- the asker of a kill that was taken has a pass
known_asker : (b : Bool) (log : List RunItem) (kills : ControlExecView) (kill : Asked) → KillsOfDead b log kills → IsIn kills.taken kill →
    Contains kills.askers kill.asker
known_asker true log kills kill none i = absurd (in_none (subst (λ l. IsIn l kill) none.0 i))
known_asker false log kills kill one i =
    let there = subst (λ l. IsIn l kill) one.1 i in
    elim (in_first one.0 [] there.place there.at) [
      | inl same ↦ subst (λ (k : Asked). Contains kills.askers k.asker) same one.2
      | inr more ↦ absurd (in_none more)
    ]

asker_known : (kills : ControlExecView) (end : EndView) (kill : Asked) → KillsTaken kills end → IsIn kills.taken kill → Contains kills.askers kill.asker
asker_known kills (Killed dead) kill taken i = known_asker (has_terminated dead.log) dead.log kills kill taken i
asker_known kills (Retired retired) kill taken i = known_asker true retired.log kills kill taken.0 i
asker_known kills (Starved dead) kill taken i = known_asker true dead.log kills kill taken.0 i

-- a letter that was posted after its cause, and is its caller's
is_posted : (casts : List ActorSpec) (threads : Threads) (a m n : ℕ) (letter : Letter) {owner : OwnerView} → n < m → IsSent owner a letter
    → owner ≡ left_by casts (caller_of letter) (steps_in (threads (Caller (caller_of letter)))) → IsNamed casts (caller_of letter)
    → IsPostedAfter (opened_of (caller_of letter) casts) (threads (Caller (caller_of letter))) letter n → WasGiven casts threads m (Actor a, taking letter)
is_posted casts threads a m n (Call packet) below sent left named posted =
    let no_later = posted.2 in
    record {
      to = sent.2;
      stamp = posted.0;
      sent = posted.1;
      earlier = omega (arith, below, no_later);
      is = subst (λ o. packet_at o packet.future ≡ Some packet) left sent.0;
    }
is_posted casts threads a m n (Note note) below sent left named posted =
    let to : note.actor ≡ a = ap (λ (x : ReleaseNote). x.actor) sent.0 in
    record {
      to = to;
      named = named;
      before = posted.0;
      later = posted.1;
      cut = posted.2;
      earlier = All-weaker (λ (x : ℕ × Action). x.0 ≤ n) (λ (x : ℕ × Action). x.0 < m) (λ x past. omega (arith, past, below)) posted.0 posted.3;
      gone = subst (λ b. copies_in b (after_actions (opened_of note.caller casts) (steps_in posted.0)).handles ≡ Some 0) to posted.4;
      counts = ap (λ (x : ReleaseNote). x.after) sent.0 ∙ ap (λ (o : OwnerView). length (calls_to a o.calls)) left;
    }

-- ---- lists of numbered things

numbers_apart : (n : ℕ) (known : ℕ → Bool) → AllPairs (λ one other. one ≢ other) (filter known (one_to n))
numbers_apart n known = AllPairs-filter (λ one other. one ≢ other) known (one_to n) (numbers_differ n)

-- where no number stands twice, one that stands in the list is found by its number
found_by : {A : Type 0} (number : A → ℕ) (xs : List A) → AllPairs (λ one other. one ≢ other) (map number xs) → (k : ℕ) (x : A) → slice_get xs k ≡ Some x →
    find (λ y. number y == number x) xs ≡ Some x
found_by {A} number xs apart k x at =
    let differ : AllPairs (λ one other. number one ≢ number other) xs = pairs_of_map number xs apart in
    let found = finds (λ y. number y == number x) xs k x at (eq-eqb (number x) (number x) refl) in
    let is = found_is (λ y. number y == number x) xs found.is in
    found.is ∙ ap (λ y. Some y) (one_of number xs is.inside.place k differ is.inside.at at (eqb-true (number found.one) (number x) is.passes))

-- what holds of each one's value holds of all values
all_mapped : {A B : Type 0} (P : B → Type 0) (f : A → B) (xs : List A) → ((k : ℕ) (x : A) → slice_get xs k ≡ Some x → P (f x)) → All P (map f xs)
all_mapped {A} {B} P f xs each = all_by_places P (map f xs) (λ k y at. (let there = map-slice_get f xs k at in subst P there.2 (each k there.0 there.1)))

-- ---- what somebody did that may be found

-- one that is found did such work, and where none is found, nothing was done
pub record HasWork {A : Type 0} (Work : A → List (ℕ × Action) → Type 0) (found : Option A) : Type 0 where
  pub trace : List (ℕ × Action)
  pub work : (x : A) → found ≡ Some x → Work x trace
  pub none : found ≡ None → trace ≡ []

has_work : {A : Type 0} (Work : A → List (ℕ × Action) → Type 0) (x : A) → (trace : List (ℕ × Action)) × Work x trace → HasWork Work (Some x)
has_work {A} Work x did = record { trace = did.0; work = λ y e. (let same : x ≡ y = cc in subst (λ z. Work z did.0) same did.1); none = λ e. absurd cc }

pub found_work : {A : Type 0} (Work : A → List (ℕ × Action) → Type 0) (found : Option A) → ((x : A) → found ≡ Some x → HasWork Work (Some x)) →
    HasWork Work found
found_work Work None did = record { trace = []; work = λ x e. absurd cc; none = λ e. refl }
found_work Work (Some x) did = did x refl

module _ {mails : List MailView} {controls : List ControlView} {replies : List RepliesView} {casts : List ActorSpec} {plans : List (ℕ × List Step)}
    {driven : List Driven} {served : List ServedView} (j : AreJoined mails controls replies casts plans driven served)
    (have : HaveTraces controls replies casts plans driven served) where
  -- ---- the threads

  abbrev id_of : Driven → ℕ
  id_of d = d.owner.id

  abbrev CallerWork : Driven → List (ℕ × Action) → Type 0
  CallerWork = IsCallerWork casts controls plans

  abbrev ActorWork : ServedView → List (ℕ × Action) → Type 0
  ActorWork = IsActorWork casts replies

  named_at : (k : ℕ) (d : Driven) → slice_get driven k ≡ Some d → IsNamed casts d.owner.id
  named_at k d at =
      let there : slice_get (map id_of driven) k ≡ Some d.owner.id = slice_get-map id_of driven k ∙ ap (option_map id_of) at in
      (filter-slice_get (λ c. list_any (λ (cast : ActorSpec). contains c cast.callers) casts) (one_to MAX_CALLERS) k
      (subst (λ l. slice_get l k ≡ Some d.owner.id) j.callers there)).passes

  pub caller_work : (c : ℕ) (d : Driven) → driven_of c driven ≡ Some d → HasWork CallerWork (Some d)
  caller_work c d e =
      let i = (driver j c d e).inside in
      has_work CallerWork d (caller_works casts controls plans d (named_at i.place d i.at)
      (all_in (λ (x : Driven). HasDonePlan controls (opened_of x.owner.id casts) x.owner (plan_of x.owner.id plans) x.passes) have.callers i))

  fed_in : (s : ServedView) → IsIn served s → is_starved s.end ≡ false
  fed_in s i = all_in (λ (x : ServedView). is_starved x.end ≡ false) j.fed i

  pub actor_work : (a : ℕ) (s : ServedView) → served_of a served ≡ Some s → HasWork ActorWork (Some s)
  actor_work a s e =
      let i = (thread j a s e).inside in let t = thread_in j (end_id s.end) s i refl in
      has_work ActorWork s (actor_works casts replies s t.cast.cast t.cast.at t.serving (fed_in s i)
      (all_in (λ (x : ServedView). IsActorTraced (end_id x.end) replies x.end x.passes) have.actors i))

  abbrev pub threads : Threads
  threads (Caller c) = (found_work CallerWork (driven_of c driven) (caller_work c)).trace
  threads (Actor a) = (found_work ActorWork (served_of a served) (actor_work a)).trace

  -- each caller's and each actor's actions
  abbrev pub did : Site → List Action
  did site = steps_in (threads site)

  -- ---- look-ups

  pub caller_found : (c : ℕ) {d : Driven} → driven_of c driven ≡ Some d → IsCallerWork casts controls plans d (threads (Caller c))
  caller_found c {d} e = (found_work CallerWork (driven_of c driven) (caller_work c)).work d e

  pub actor_found : (a : ℕ) {s : ServedView} → served_of a served ≡ Some s → IsActorWork casts replies s (threads (Actor a))
  actor_found a {s} e = (found_work ActorWork (served_of a served) (actor_work a)).work s e

  pub caller_none : (c : ℕ) → driven_of c driven ≡ None → threads (Caller c) ≡ []
  caller_none c e = (found_work CallerWork (driven_of c driven) (caller_work c)).none e

  pub actor_none : (a : ℕ) → served_of a served ≡ None → threads (Actor a) ≡ []
  actor_none a e = (found_work ActorWork (served_of a served) (actor_work a)).none e

  owner_left : (c : ℕ) (d : Driven) → driven_of c driven ≡ Some d → d.owner ≡ left_by casts c (did (Caller c))
  owner_left c d e = (caller_found c e).owner_is ∙ ap (λ n. after_actions (opened_of n casts) (did (Caller c))) (driver j c d e).id

  named_is : (c : ℕ) (d : Driven) → driven_of c driven ≡ Some d → IsNamed casts c
  named_is c d e = subst (IsNamed casts) (driver j c d e).id (caller_found c e).named

  pub log_found : (a : ℕ) (s : ServedView) → served_of a served ≡ Some s → log_of (did (Actor a)) ≡ end_log s.end
  log_found a s e = sym (found_alone call_run (threads (Actor a))) ∙ (actor_found a e).runs

  own_cast : (a : ℕ) (s : ServedView) (t : Thread j a s) (cast : ActorSpec) → cast_at (end_id s.end) casts ≡ Some cast → cast ≡ t.cast.cast
  own_cast a s t cast at = same_cast t.cast (subst (λ n. cast_at n casts ≡ Some cast) t.id at)

  -- ---- letters

  letter_posted : (a m : ℕ) (letter : Letter) (s : ServedView) → served_of a served ≡ Some s → letter_taken (taking letter) ≡ Some letter →
      IsIn {A = ℕ × Action} (threads (Actor a)) (m, taking letter) → WasGiven casts threads m (Actor a, taking letter)
  letter_posted a m letter s e takes i =
      let t = thread j a s e in let w = actor_found a e in let got = w.letters m (taking letter) letter takes i in let n = got.1.stamp in
      let c = caller_of letter in
      let names = subst (λ (cast : ActorSpec). IsIn cast.callers c) (own_cast a s t w.cast w.at) got.0 in
      let found = driven_named j t.cast.inside names in let d = found.one in let audit = (audit_of j t names found.is).letters in
      let put = put_with caller_of c s.passes.letters.taken s.passes.letters.stamps audit.endpoint.pass.put audit.endpoint.pass.stamps n audit.stamped refl
      got.1.at in
      let posted = (caller_found c found.is).posted audit.endpoint (in_from_contains d.passes.letters.items audit.endpoint audit.sits) letter n put in
      is_posted casts threads a m n letter got.1.earlier (letter_sent j a s d t names found.is got.1.taken_is) (owner_left c d found.is) (named_is c d found.is)
      (subst (λ k. IsPostedAfter (opened_of k casts) (threads (Caller c)) letter n) (driver j c d found.is).id posted)

  -- ---- kills

  kill_of : (a m : ℕ) (kill : Asked) (s : ServedView) (e : served_of a served ≡ Some s) (t : Thread j a s) → IsIn t.cast.cast.callers kill.asker →
      IsTakenFrom s.passes.kills.taken s.passes.kills.stamps kill m → (c : ℕ) × WasDone threads m (Caller c) (KillAsked a)
  kill_of a m kill s e t names got =
      let c = kill.asker in let n = got.stamp in let found = driven_named j t.cast.inside names in let d = found.one in
      let audit = (audit_of j t names found.is).kills in
      let put = put_with asker_of c s.passes.kills.taken s.passes.kills.stamps audit.endpoint.pass.put audit.endpoint.pass.stamps n audit.stamped refl got.at in
      let line : ControlView = record { line = audit.endpoint.pass.line; actor = a } in
      let there = (caller_found c found.is).asked audit.endpoint (in_from_contains d.passes.kills.items audit.endpoint audit.sits) line kill n put in
      let asked = subst (λ b. IsAskedAfter (threads (Caller c)) b kill n) (audit.line line) there in
      let no_later = asked.2 in let before = got.earlier in (c, record { stamp = asked.0; done = asked.1; earlier = omega (arith, no_later, before) })

  kill_asked : (a m asker : ℕ) (note : KillNote) (s : ServedView) → served_of a served ≡ Some s
      → IsIn {A = ℕ × Action} (threads (Actor a)) (m, KillTaken asker note) → (c : ℕ) × WasDone threads m (Caller c) (KillAsked a)
  kill_asked a m asker note s e i =
      let kill : Asked = record { asker = asker; note = note } in let t = thread j a s e in
      let got = (actor_found a e).kills m (KillTaken asker note) kill refl i in
      let taken = s.passes.kills.taken in
      let known = asker_known s.passes.kills s.end kill t.serving.kills got.taken_is in
      let asker = in_from_contains (starter ∷ t.cast.cast.callers) kill.asker (subst (λ l. Contains l kill.asker) t.serving.askers known) in
      elim (in_first starter t.cast.cast.callers asker.place asker.at) [
        | inl is ↦
            let mine = in_filter (λ x. asker_of x == starter) got.taken_is (eq-eqb kill.asker starter (sym is)) in
            let none = all_in (λ (x : ServedView). items_put asker_of starter x.passes.kills.taken ≡ []) j.starter t.inside in
            absurd (in_none (subst (λ l. IsIn l kill) none mine))
        | inr names ↦ kill_of a m kill s e t names got
      ]

  -- ---- notices

  is_given : (c m n : ℕ) (notice : Notice) (s : ServedView) (e : served_of (notice_actor notice) served ≡ Some s) (t : Thread j (notice_actor notice) s) →
      n < m → IsIn (replies_to t.cast.cast.opening (notice_actor notice) (end_log s.end) c ++ deaths (notice_actor notice) s.end) notice →
      IsGivenAfter (threads (Actor (notice_actor notice))) c notice n → WasGiven casts threads m (Caller c, Noticed notice)
  is_given c m n (Answered reply) s e t below due after =
      let a = reply.actor in let of = reply_given t.cast.cast.opening a c s.end due in let found = found_in call_run (threads (Actor a)) in
      let no_later = after.3 in
      let there : slice_get (map (λ (x : ℕ × RunItem). x.1) found) reply.place ≡ Some after.1 =
      slice_get-map (λ (x : ℕ × RunItem). x.1) found reply.place ∙ ap (option_map (λ (x : ℕ × RunItem). x.1)) after.2 in
      let logged : slice_get (end_log s.end) reply.place ≡ Some after.1 =
      subst (λ log. slice_get log reply.place ≡ Some after.1) (actor_found a e).runs there in
      let both : Some after.1 ≡ Some of.item = sym logged ∙ of.at in let same : after.1 ≡ of.item = cc in
      record {
        caller = of.names.1 ∙ of.of_caller;
        cast = t.cast.cast;
        at = t.cast.at;
        stamp = after.0;
        item = after.1;
        ran = after.2;
        earlier = omega (arith, no_later, below);
        for_caller = ap (λ (x : RunItem). x.caller) same ∙ of.of_caller;
        future = ap (λ (x : RunItem). x.future) same ∙ sym of.names.2;
        answered = ap (λ log. answer_at t.cast.cast.opening log reply.place) (log_found a s e) ∙ of.answered;
      }
  is_given c m n (Death a) s e t below due after =
      let no_later = after.2 in record { stamp = after.0; done = after.1; earlier = omega (arith, no_later, below) }

  given_after : (a c n : ℕ) (notice : Notice) (s : ServedView) (d : Driven) → served_of a served ≡ Some s → NoticesAudited replies a c d s → notice_actor
      notice ≡ a → IsIn {A = Notice × ℕ} (zip d.passes.collects.taken d.passes.collects.stamps) (notice, n) → IsGivenAfter (threads (Actor a)) c notice n
  given_after a c n notice s d e audit of at =
      let given =
      put_with notice_actor a d.passes.collects.taken d.passes.collects.stamps audit.endpoint.pass.given audit.endpoint.pass.stamps n audit.stamped of at in
      let there = (actor_found a e).given audit.endpoint (in_from_contains s.passes.notices.items audit.endpoint audit.sits) notice n given in
      subst (λ k. IsGivenAfter (threads (Actor a)) k notice n) audit.line there

  notice_given : (c m : ℕ) (notice : Notice) (d : Driven) → driven_of c driven ≡ Some d
      → IsIn {A = ℕ × Action} (threads (Caller c)) (m, Noticed notice) → WasGiven casts threads m (Caller c, Noticed notice)
  notice_given c m notice d e i =
      let a = notice_actor notice in let w = caller_found c e in let got = w.notices m notice i in let n = got.1.stamp in
      let names = subst (λ k. IsIn (actors_naming k casts) a) (driver j c d e).id got.0 in
      let by = naming casts c a j.casts_are names in let found = served_cast j a by.inside by.actor in let s = found.one in let t = thread j a s found.is in
      let listed = subst (λ (x : ActorSpec). IsIn x.callers c) (same_cast t.cast by.at) by.names in
      let after = given_after a c n notice s d found.is (audit_of j t listed e).notices refl got.1.at in
      is_given c m n notice s found.is t got.1.earlier (given_in j c a d notice s t listed e refl got.1.taken_is) after

  -- ---- all together

  caller_given : (c m : ℕ) (action : Action) (d : Driven) → driven_of c driven ≡ Some d → IsIn {A = ℕ × Action} (threads (Caller c)) (m, action) →
      WasGiven casts threads m (Caller c, action)
  caller_given c m (Noticed notice) d e i = notice_given c m notice d e i
  caller_given c m action d e i = tt

  actor_given : (a m : ℕ) (action : Action) (s : ServedView) → served_of a served ≡ Some s → IsIn {A = ℕ × Action} (threads (Actor a)) (m, action) →
      WasGiven casts threads m (Actor a, action)
  actor_given a m (CallTaken packet) s e i = letter_posted a m (Call packet) s e refl i
  actor_given a m (NoteTaken note) s e i = letter_posted a m (Note note) s e refl i
  actor_given a m (KillTaken asker note) s e i = kill_asked a m asker note s e i
  actor_given a m action s e i = tt

  -- what holds of a caller that is found, and where nothing was done
  of_caller : (P : List (ℕ × Action) → Type 0) (c : ℕ) → P [] → ((d : Driven) → driven_of c driven ≡ Some d → P (threads (Caller c))) → P (threads (Caller c))
  of_caller P c nothing holds = go (driven_of c driven) refl
    where
      go : (o : Option Driven) → driven_of c driven ≡ o → P (threads (Caller c))
      go None e = subst P (sym (caller_none c e)) nothing
      go (Some d) e = holds d e

  of_actor : (P : List (ℕ × Action) → Type 0) (a : ℕ) → P [] → ((s : ServedView) → served_of a served ≡ Some s → P (threads (Actor a))) → P (threads (Actor a))
  of_actor P a nothing holds = go (served_of a served) refl
    where
      go : (o : Option ServedView) → served_of a served ≡ o → P (threads (Actor a))
      go None e = subst P (sym (actor_none a e)) nothing
      go (Some s) e = holds s e

  abbrev Rise : List (ℕ × Action) → Type 0
  Rise trace = AllPairs (λ one other. one.0 ≤ other.0) trace

  rise : (site : Site) → Rise (threads site)
  rise (Caller c) = of_caller Rise c (λ i k d lt below. absurd (omega (arith, below))) (λ d e. (caller_found c e).rising)
  rise (Actor a) = of_actor Rise a (λ i k d lt below. absurd (omega (arith, below))) (λ s e. (actor_found a e).rising)

  may : (site : Site) → MayDoAll casts site [] (did site)
  may (Caller c) = of_caller (λ trace. MayDoAll casts (Caller c) [] (steps_in trace)) c tt (λ d e. caller_may_all casts c [] (did (Caller c)) (named_is c d e)
      (subst (λ n. CallerMayDoAll (opened_of n casts) (did (Caller c))) (driver j c d e).id (caller_found c e).allowed))
  may (Actor a) = of_actor (λ trace. MayDoAll casts (Actor a) [] (steps_in trace)) a tt (λ s e. let w = actor_found a e in
      subst (λ n. MayDoAll casts (Actor n) [] (did (Actor a))) (thread j a s e).id (actor_may_all casts (end_id s.end) [] (did (Actor a)) w.at w.allowed))

  given : (site : Site) (m : ℕ) (action : Action) → Contains (threads site) (m, action) → WasGiven casts threads m (site, action)
  given (Caller c) m action has = of_caller (λ trace. Contains trace (m, action) → WasGiven casts threads m (Caller c, action)) c
      (λ none. contains_none (m, action) _ none) (λ d e in_it. caller_given c m action d e (in_from_contains (threads (Caller c)) (m, action) in_it)) has
  given (Actor a) m action has = of_actor (λ trace. Contains trace (m, action) → WasGiven casts threads m (Actor a, action)) a
      (λ none. contains_none (m, action) _ none) (λ s e in_it. actor_given a m action s e (in_from_contains (threads (Actor a)) (m, action) in_it)) has

  pub are_traced : AreTraced casts threads
  are_traced = record { rise = rise; may = may; given = given }

  -- ---- what the play leaves

  pub kept_left : (c : ℕ) → (left_by casts c (did (Caller c))).kept ≡ kept_in (map (λ d. d.owner) driven) c
  kept_left c = of_owner j (λ x. (left_by casts c (did (Caller c))).kept ≡ kept_of_owner x) c
      (λ e. ap (λ l. (left_by casts c (steps_in l)).kept) (caller_none c e)) (λ d e. ap (λ (o : OwnerView). o.kept) (sym (owner_left c d e)))

  pub log_is_left : (a : ℕ) → log_of (did (Actor a)) ≡ log_in (map (λ s. s.end) served) a
  log_is_left a = of_end j (λ x. log_of (did (Actor a)) ≡ log_of_end x) a (λ e. ap (λ l. log_of (steps_in l)) (actor_none a e)) (λ s e. log_found a s e)

  pub driven_at : (k : ℕ) (d : Driven) → slice_get driven k ≡ Some d → driven_of d.owner.id driven ≡ Some d
  driven_at k d at = found_by id_of driven (subst (AllPairs (λ one other. one ≢ other)) (sym j.callers)
      (numbers_apart MAX_CALLERS (λ c. list_any (λ (cast : ActorSpec). contains c cast.callers) casts))) k d at

  served_at : (k : ℕ) (s : ServedView) → slice_get served k ≡ Some s → served_of (end_id s.end) served ≡ Some s
  served_at k s at = found_by (λ (x : ServedView). end_id x.end) served (subst (AllPairs (λ one other. one ≢ other)) (sym j.actors)
      (numbers_apart MAX_ACTORS (λ a. list_any (λ (cast : ActorSpec). cast.actor == a) casts))) k s at

  module _ (events : List Event) (play : IsPlayOfRun casts did events) where
    owner_in : (d : Driven) → driven_of d.owner.id driven ≡ Some d → IsOwnerIn (history casts events) d.owner
    owner_in d e = record {
      known = ap (list_any (λ (cast : ActorSpec). contains d.owner.id cast.callers)) (casts_stay casts events) ∙ (caller_found d.owner.id e).named;
      calls = ap (λ (o : OwnerView). o.calls) (owner_left d.owner.id d e) ∙ sym (play.calls d.owner.id);
      answers = λ i within. ap (λ answers. kept_at answers i) (ap (λ (o : OwnerView). o.kept) (owner_left d.owner.id d e) ∙ sym (play.kept d.owner.id));
    }

    end_in : (s : ServedView) → IsIn served s → served_of (end_id s.end) served ≡ Some s → IsEndIn (history casts events) s.end
    end_in s i e =
        let w = actor_found (end_id s.end) e in
        record {
          known = ap (λ l. is_some (cast_at (end_id s.end) l)) (casts_stay casts events) ∙ ap is_some w.at;
          runs = sym (play.runs (end_id s.end) ∙ log_found (end_id s.end) s e);
          ended = has_ended (history casts events) s.end (fed_in s i) (play.dead (end_id s.end) ∙ w.dead) (play.retired (end_id s.end) ∙ w.retired);
        }

    -- such a play is one of them
    pub is_play_of : IsPlayOf casts events (map (λ d. d.owner) driven) (map (λ s. s.end) served)
    is_play_of = record {
      accepted = play.accepted;
      callers = all_mapped (IsOwnerIn (history casts events)) (λ (d : Driven). d.owner) driven (λ k d at. owner_in d (driven_at k d at));
      actors = all_mapped (IsEndIn (history casts events)) (λ (s : ServedView). s.end) served
          (λ k s at. end_in s (record { place = k; at = at }) (served_at k s at));
    }
