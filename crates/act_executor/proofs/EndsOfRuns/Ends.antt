-- How the threads of a joined run ended: what was submitted, who was killed, and that a retired actor ran all.
use Rattle.act_executor.proofs.Common.{◌≡◌, ℕ, suc, ◌<◌, ◌≤◌, Bool, true, false, true≢false, cond, List, [], ◌∷◌, length, Some, None, inl, inr, refl, ap, sym}
use Rattle.act_executor.proofs.Common.{◌∙◌, subst, arith, Option, ◌==◌, ◌&&◌, map, slice_get, is_some, All, Contains, option_or, eq-eqb, eqb-true, and_parts}
use Rattle.act_executor.proofs.Common.{map-map, length-map, All-map, length-enumerate_from, Notice, ReleaseNote, RunItem, Submission, Step, items_of}
use Rattle.act_executor.proofs.Common.{has_terminated, NothingFollowsAnEnd, calls_to, kept_at, planned, kills_to, ActorSpec, contains, actors_naming}
use Rattle.act_executor.proofs.Common.{filter-slice_get, calls_to-at, numbered, numbers, map-slice_get, OwnerView, MailView, caller_of, ControlView}
use Rattle.act_executor.proofs.Common.{ControlExecView, asker_of, starter, RepliesView, Asked, Letter, Call, Note, ExecPasses, EndView, Killed, Retired, end_id}
use Rattle.act_executor.proofs.Common.{end_log, IfRetired, note_in, first_note, IsTakenAt, KillsOfDead, KillsTaken, Driven, IsSent, AreAsked, HasAsked}
use Rattle.act_executor.proofs.Common.{limits_naming, plan_of, callers_of_casts, actors_of_casts, is_killed, is_starved, owner_of, calls_of_owner}
use Rattle.act_executor.proofs.Common.{kept_of_owner, log_of_end, is_killed_end, calls_in, kept_in, log_in, killed_in, RanAll, IsJoined, CallsThatDiedNeverRan}
use Rattle.act_executor.proofs.Common.{ServedView, AreJoined, items_put, IsIn, in_from_contains, all_in, in_filter, in_front, all_by_places, is_contained}
use Rattle.act_executor.proofs.Common.{empty_by_places, enumerated, in_none, in_first, some_long, front_whole}
use Rattle.act_executor.proofs.EndsOfRuns.Found.{naming, same_cast, planned_known, planned_none, driven_named}
use Rattle.act_executor.proofs.EndsOfRuns.Consistency.{order_of, fits}
use Rattle.act_executor.proofs.EndsOfRuns.Joint.{driven_of, of_owner, of_end, owner_is, Thread, thread, thread_in, driver, audit_of, letter_sent, listed_named}
use Rattle.act_executor.proofs.EndsOfRuns.Joint.{item_sent, all_fit}

-- ---- notes and kills

-- what a note that was sent tells
sent_note : (owner : OwnerView) (a c n : ℕ) (letter : Letter) → note_in a c letter ≡ Some n → IsSent owner a letter → n ≡ length (calls_to a owner.calls)
sent_note owner a c n (Call packet) e sent = cc
sent_note owner a c n (Note note) e sent = go ((note.caller == c) && (note.actor == a)) e
  where
    go : (b : Bool) → cond b (Some note.after) None ≡ Some n → n ≡ length (calls_to a owner.calls)
    go true f = let same : note.after ≡ n = cc in sym same ∙ ap (λ (r : ReleaseNote). r.after) sent.0
    go false f = cc

note_caller : (a c n : ℕ) (letter : Letter) → note_in a c letter ≡ Some n → caller_of letter ≡ c
note_caller a c n (Call packet) e = cc
note_caller a c n (Note note) e = go ((note.caller == c) && (note.actor == a)) refl e
  where
    go : (b : Bool) → ((note.caller == c) && (note.actor == a)) ≡ b → cond b (Some note.after) None ≡ Some n → note.caller ≡ c
    go true is f = eqb-true note.caller c (and_parts (note.caller == c) (note.actor == a) is).0
    go false is f = cc

-- the letter that the first note is
record IsNoted (a c : ℕ) (letters : List Letter) (n : ℕ) : Type 0 where
  pub letter : Letter
  pub inside : IsIn letters letter
  pub says : note_in a c letter ≡ Some n

first_is : (a c n : ℕ) (letters : List Letter) → first_note a c letters ≡ Some n → IsNoted a c letters n
first_is a c n [] e = cc
first_is a c n (letter ∷ letters) e = go (note_in a c letter) refl (first_is a c n letters) e
  where
    later : IsNoted a c letters n → IsNoted a c (letter ∷ letters) n
    later r = record { letter = r.letter; inside = record { place = suc r.inside.place; at = r.inside.at }; says = r.says }

    go : (o : Option ℕ) → note_in a c letter ≡ o → (first_note a c letters ≡ Some n → IsNoted a c letters n) → option_or o (first_note a c letters) ≡ Some n →
        IsNoted a c (letter ∷ letters) n
    go None is rest e = later (rest e)
    go (Some m) is rest e = record { letter = letter; inside = record { place = 0; at = refl }; says = is ∙ e }

-- a killed actor that did not terminate took a kill of an asker
kill_taken : (control : ControlExecView) (end : EndView) → is_killed end ≡ true → has_terminated (end_log end) ≡ false → KillsTaken control end →
    (kill : Asked) × (control.taken ≡ kill ∷ []) × Contains control.askers kill.asker
kill_taken control (Killed dead) e on k = let at : IsTakenAt dead.log control = subst (λ b. KillsOfDead b dead.log control) on k in (at.0, at.1, at.2)
kill_taken control end e on k = cc

-- an actor that terminated is killed
end_killed : (control : ControlExecView) (end : EndView) → KillsTaken control end → has_terminated (end_log end) ≡ true → is_killed end ≡ true
end_killed control (Killed dead) k e = refl
end_killed control end k e = absurd (true≢false (sym e ∙ k.1))

-- no more kills were asked than wanted
no_more : (collected : List Notice) (a : ℕ) {wanted asked : ℕ} → AreAsked collected a wanted asked → asked ≤ wanted
no_more collected a (inl same) = omega (arith, same)
no_more collected a (inr few) = few.0

module _ {mails : List MailView} {controls : List ControlView} {replies : List RepliesView} {casts : List ActorSpec} {plans : List (ℕ × List Step)}
    {driven : List Driven} {served : List ServedView} (j : AreJoined mails controls replies casts plans driven served) where
  abbrev owners : List OwnerView
  owners = map (λ (d : Driven). d.owner) driven

  abbrev ends : List EndView
  ends = map (λ (s : ServedView). s.end) served

  -- ---- what was submitted

  nobody : (c : ℕ) → driven_of c driven ≡ None → actors_naming c casts ≡ []
  nobody c none = empty_by_places (actors_naming c casts) (λ k a at. let n = naming casts c a j.casts_are (record { place = k; at = at }) in let found =
      driven_named j n.inside n.names in let bad : None ≡ Some found.one = sym none ∙ found.is in cc)

  submitted : (c : ℕ) → calls_in owners c ≡ planned (actors_naming c casts) (plan_of c plans)
  submitted c = of_owner j (λ x. calls_of_owner x ≡ planned (actors_naming c casts) (plan_of c plans)) c
      (λ f. sym (planned_none (plan_of c plans)) ∙ sym (ap (λ actors. planned actors (plan_of c plans)) (nobody c f))) (λ d f. (driver j c d f).driving.calls)

  answered : (c k : ℕ) → k < length (calls_in owners c) → is_some (kept_at (kept_in owners c) k) ≡ true
  answered c k = of_owner j (λ x. k < length (calls_of_owner x) → is_some (kept_at (kept_of_owner x) k) ≡ true) c (λ f below. absurd (omega (arith, below)))
      (λ d f below. (driver j c d f).driving.answered k below)

  pub fed : All (λ end. is_starved end ≡ false) ends
  fed = all_by_places (λ end. is_starved end ≡ false) ends
      (λ k end at. let found = map-slice_get (λ (s : ServedView). s.end) served k at in subst (λ e. is_starved e ≡ false) found.2
      (all_in (λ (s : ServedView). is_starved s.end ≡ false) {xs = served} {x = found.0} j.fed (record { place = k; at = found.1 })))

  -- ---- kills

  kill_planned : (a : ℕ) (s : ServedView) → Thread j a s → is_killed s.end ≡ true → has_terminated (end_log s.end) ≡ false →
      (c : ℕ) × (0 < kills_to a (plan_of c plans))
  kill_planned a s t e on =
      let taken = s.passes.kills.taken in let k = kill_taken s.passes.kills s.end e on t.serving.kills in let kill = k.0 in
      let there : IsIn taken kill = subst (λ l. IsIn l kill) (sym k.1) (record { place = 0; at = refl }) in
      let asker = in_from_contains (starter ∷ t.cast.cast.callers) kill.asker (subst (λ l. Contains l kill.asker) t.serving.askers k.2) in
      elim (in_first starter t.cast.cast.callers asker.place asker.at) [
        | inl is ↦
            let mine = in_filter (λ x. asker_of x == starter) there (eq-eqb kill.asker starter (sym is)) in
            let none = all_in (λ (x : ServedView). items_put asker_of starter x.passes.kills.taken ≡ []) j.starter t.inside in
            absurd (in_none (subst (λ l. IsIn l kill) none mine))
        | inr names ↦
            let c = kill.asker in let found = driven_named j t.cast.inside names in let d = found.one in let audit = (audit_of j t names found.is).kills in
            let mine = in_filter (λ x. asker_of x == c) there (eq-eqb c c refl) in let put = in_front audit.endpoint.pass.put audit.front mine in
            let some : 0 < length audit.endpoint.pass.put = some_long audit.endpoint.pass.put kill put in
            let line : ControlView = record { line = audit.endpoint.pass.line; actor = a } in
            let plan = plan_of c plans in
            let asked = all_in (HasAsked controls plan d.passes.collects.taken) (driver j c d found.is).driving.kills
            (in_from_contains d.passes.kills.items audit.endpoint audit.sits) line in
            let mine_asked = subst (λ b. AreAsked d.passes.collects.taken b (kills_to b plan) (length audit.endpoint.pass.put)) (audit.line line) asked in
            let few : length audit.endpoint.pass.put ≤ kills_to a plan = no_more d.passes.collects.taken a mine_asked in
            let asks : 0 < kills_to a plan = omega arith in (c, asks)
      ]

  killed : (a : ℕ) → killed_in ends a ≡ true → has_terminated (log_in ends a) ≡ false → (c : ℕ) × (0 < kills_to a (plan_of c plans))
  killed a = of_end j (λ x. is_killed_end x ≡ true → has_terminated (log_of_end x) ≡ false → (c : ℕ) × (0 < kills_to a (plan_of c plans))) a (λ f e on. cc)
      (λ s f e on. kill_planned a s (thread j a s f) e on)

  -- ---- a terminate

  terminated : (a : ℕ) → has_terminated (log_in ends a) ≡ true → killed_in ends a ≡ true
  terminated a = of_end j (λ x. has_terminated (log_of_end x) ≡ true → is_killed_end x ≡ true) a (λ f e. cc)
      (λ s f e. end_killed s.passes.kills s.end (thread j a s f).serving.kills e)

  last : (a : ℕ) → NothingFollowsAnEnd (log_in ends a)
  last a = of_end j (λ x. NothingFollowsAnEnd (log_of_end x)) a (λ f place ends. cc) (λ s f. (thread j a s f).serving.last)

  -- ---- a retired actor

  -- a caller that the thread doesn't list has no items and no calls
  strange_items : (a c : ℕ) (s : ServedView) → (t : Thread j a s) → contains c t.serving.callers ≡ false → items_of c (end_log s.end) ≡ []
  strange_items a c s t unnamed = empty_by_places (items_of c (end_log s.end)) (λ k item at. let from = filter-slice_get (λ (i : RunItem). i.caller == c)
      (end_log s.end) k at in let listed = all_in (λ (i : RunItem). contains i.caller t.serving.callers ≡ true) {xs = end_log s.end}
      {x = item} t.serving.log.listed (record { place = from.place; at = from.at }) in let yes : contains c t.serving.callers ≡ true =
      subst (λ n. contains n t.serving.callers ≡ true) (eqb-true item.caller c from.passes) listed in cc)

  strange_calls : (a c : ℕ) (s : ServedView) → (t : Thread j a s) → contains c t.serving.callers ≡ false → calls_to a (calls_in owners c) ≡ []
  strange_calls a c s t unnamed = empty_by_places (calls_to a (calls_in owners c)) (λ k call at. let is = calls_to-at a (calls_in owners c) k at in let known =
      planned_known (actors_naming c casts) (plan_of c plans) call.0 (subst (λ calls. slice_get calls call.0 ≡ Some call.1) (submitted c) is.at) in let n =
      naming casts c a j.casts_are (subst (IsIn (actors_naming c casts)) is.actor known) in let names : contains c t.cast.cast.callers ≡ true =
      is_contained c t.cast.cast.callers (subst (λ (x : ActorSpec). IsIn x.callers c) (same_cast t.cast n.at) n.names) in
      let yes : contains c t.serving.callers ≡ true = t.serving.same_callers c ∙ names in cc)

  -- the note of a caller of the cast tells the number of its calls
  noted : (a c n : ℕ) (s : ServedView) → (t : Thread j a s) → IsIn t.cast.cast.callers c → first_note a c s.passes.letters.taken ≡ Some n →
      n ≡ length (calls_to a (calls_in owners c))
  noted a c n s t names e =
      let found = driven_named j t.cast.inside names in let d = found.one in let first = first_is a c n s.passes.letters.taken e in
      let mine : caller_of first.letter ≡ c = note_caller a c n first.letter first.says in
      let sent = letter_sent j a s d t (subst (IsIn t.cast.cast.callers) (sym mine) names)
      (subst (λ m. driven_of m driven ≡ Some d) (sym mine) found.is) first.inside in
      let owner : owner_of c owners ≡ Some d.owner = owner_is j c (Some d) found.is in
      subst (λ o. n ≡ length (calls_to a (calls_of_owner o))) (sym owner) (sent_note d.owner a c n first.letter first.says sent)

  -- as many items as calls are all of them
  whole : (a c : ℕ) (s : ServedView) → Thread j a s → length (items_of c (end_log s.end)) ≡ length (calls_to a (calls_in owners c)) →
      map (λ item. item.future) (items_of c (end_log s.end)) ≡ map (λ call. call.0) (calls_to a (calls_in owners c))
  whole a c s t same =
      let items = items_of c (end_log s.end) in let calls = calls_to a (calls_in owners c) in
      let front = order_of (λ x. None) (calls_in owners) (log_in ends) (kept_in owners) (killed_in ends) a (end_log s.end) c
      (λ p item at. item_sent j a p item s t at) (t.serving.log.numbered c) in
      let long : length (map numbered items) ≡ length (numbers a (calls_in owners c)) =
      length-map items numbered ∙ same ∙ sym (length-map calls (λ (call : ℕ × Submission). call.0)) ∙
      sym (length-enumerate_from 0 (map (λ (call : ℕ × Submission). call.0) calls)) in
      let all = front_whole (map numbered items) (numbers a (calls_in owners c)) front (omega (arith, long)) in
      sym (map-map (λ (pair : ℕ × ℕ). pair.1) numbered items) ∙ ap (map (λ (pair : ℕ × ℕ). pair.1)) all ∙
      enumerated 0 (map (λ (call : ℕ × Submission). call.0) calls)

  ran_all : (a : ℕ) (s : ServedView) → (t : Thread j a s) →
      ((c : ℕ) → contains c t.serving.callers ≡ true → first_note a c s.passes.letters.taken ≡ Some (length (items_of c (end_log s.end)))) → (c : ℕ) →
      map (λ item. item.future) (items_of c (end_log s.end)) ≡ map (λ call. call.0) (calls_to a (calls_in owners c))
  ran_all a s t notes c = go (contains c t.serving.callers) refl
    where
      go : (b : Bool) → contains c t.serving.callers ≡ b →
          map (λ (item : RunItem). item.future) (items_of c (end_log s.end)) ≡ map (λ (call : ℕ × Submission). call.0) (calls_to a (calls_in owners c))
      go true is = whole a c s t (noted a c (length (items_of c (end_log s.end))) s t (listed_named j a c s t is) (notes c is))
      go false is =
          ap (map (λ (item : RunItem). item.future)) (strange_items a c s t is) ∙ sym (ap (map (λ (call : ℕ × Submission). call.0)) (strange_calls a c s t is))

  retired_end : (end : EndView) (passes : ExecPasses) → IsIn served (record { end = end; passes = passes }) → IfRetired end (RanAll casts owners)
  retired_end (Retired retired) passes i =
      let s : ServedView = record { end = Retired retired; passes = passes } in
      let t = thread_in j retired.id s i refl in
      record { calls = ran_all retired.id s t t.serving.drained.notes; cast = t.cast.cast; at = t.cast.at; state = t.serving.drained.state }
  retired_end end passes i = tt

  retired : All (λ end. IfRetired end (RanAll casts owners)) ends
  retired = all_by_places (λ end. IfRetired end (RanAll casts owners)) ends (λ k end at. let found = map-slice_get (λ (s : ServedView). s.end) served k at in
      subst (λ e. IfRetired e (RanAll casts owners)) found.2 (retired_end found.0.end found.0.passes (record { place = k; at = found.1 })))

  -- ---- the limits

  limits : All (λ (owner : OwnerView). owner.limits ≡ limits_naming owner.id casts) owners
  limits = All-map (λ (owner : OwnerView). owner.limits ≡ limits_naming owner.id casts) (λ (d : Driven). d.owner) driven j.limits

  -- ---- the whole

  pub owners_are : map (λ (owner : OwnerView). owner.id) owners ≡ callers_of_casts casts
  owners_are = map-map (λ (owner : OwnerView). owner.id) (λ (d : Driven). d.owner) driven ∙ j.callers

  pub ends_are : map end_id ends ≡ actors_of_casts casts
  ends_are = map-map end_id (λ (s : ServedView). s.end) served ∙ j.actors

  -- what the threads left is a joined run, where a call that died never ran
  pub joined : CallsThatDiedNeverRan (kept_in owners) (log_in ends) → IsJoined casts plans owners ends
  joined ran = record {
    callers = owners_are;
    actors = ends_are;
    limits = limits;
    submitted = submitted;
    answered = answered;
    consistent = fits _ _ _ _ _ (all_fit j);
    killed = killed;
    terminated = terminated;
    last = last;
    retired = retired;
    fed = fed;
    ran = ran;
  }
