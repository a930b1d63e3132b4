-- What a plan submits is what a world takes of its events.
use Rattle.act_rules.proofs.Common.{◌≡◌, ◌≢◌, ℕ, suc, ◌<◌, Bool, true, false, cond, List, [], ◌∷◌, ◌++◌, length, Some, None, refl, sym, ap, subst, ◌∙◌, arith}
use Rattle.act_rules.proofs.Common.{Option, ◌==◌, ◌&&◌, ◌||◌, not, map, filter, find, is_some, option_map, option_and_then, nat_lt, nat_le, slice_get}
use Rattle.act_rules.proofs.Common.{slice_index_or, All, AllPairs, option_or, list_all, list_any, eqb-true, eq-eqb, Arg, Method, RunItem, Event, Submit, Copy}
use Rattle.act_rules.proofs.Common.{Release, Send, Deliver, Run, Collect, AskKill, TakeKill, Tell, Retire, WorldRefusal, HandleRefusal, NoActor, SendRefusal}
use Rattle.act_rules.proofs.Common.{SubmitRefusal, Letter, Role, Step, needs, copies_held, handle_refusal, copy_refusal, submit_refusal, limit_refusal}
use Rattle.act_rules.proofs.Common.{send_refusal, is_earlier, ActorSpec, History, opening, contains, cast_of, names, actors_naming, is_caller, under}
use Rattle.act_rules.proofs.Common.{count_pairs, copies_of, limit_of, calls_of, kept_of, is_dead, is_ended, is_drained, next_item, Progress, nothing_done}
use Rattle.act_rules.proofs.Common.{occurrences, holds, is_refused, do_step, done_by, planned, events_of, is_limit, is_held_back, let_through, is_planned_by}
use Rattle.act_rules.proofs.Common.{letter_actor, was_sent, deliver_refusal, unanswered, submission_refusal, refusal_of, add_event, after_by, after, after_run}
use Rattle.act_rules.proofs.Common.{after_all, actor_spec_of, actors_of_roles, append-nil, SubmitRefused, Handle, Sending, NoCaller, NoReply, ActorEnded}
use Rattle.act_rules.proofs.Common.{NoKill, NotDead, NotDrained, NoSuchActor, NoCopy, TooManyArgs, BadFuture, TooManyCalls, PendingLimit}
use Rattle.act_rules.specs.declared.script.Step.TheVariants as step
use Rattle.act_rules.proofs.Growth.{added_grows}
use Rattle.act_rules.proofs.Steps.{after_keeps}
use Rattle.act_rules.proofs.Ended.{under-push}

-- ---- the actors that know a caller

abbrev Differ : List ActorSpec → Type 0
Differ casts = AllPairs (λ one other. one.actor ≢ other.actor) casts

-- each of these has another actor
abbrev IsNoneOf : ℕ → List ActorSpec → Type 0
IsNoneOf a casts = (i : ℕ) (d : ActorSpec) → i < length casts → a ≢ (slice_index_or casts i d).actor

first_differs : (cast : ActorSpec) (casts : List ActorSpec) → Differ (cast ∷ casts) → IsNoneOf cast.actor casts
first_differs cast casts differ i d within = differ 0 (suc i) d (omega arith) (omega arith)

rest_differ : (cast : ActorSpec) (casts : List ActorSpec) → Differ (cast ∷ casts) → Differ casts
rest_differ cast casts differ i j d below within = differ (suc i) (suc j) d (omega arith) (omega arith)

not_equal : (m n : ℕ) → n ≢ m → (m == n) ≡ false
not_equal m n differ = go (m == n) refl
  where
    go : (b : Bool) → (m == n) ≡ b → b ≡ false
    go true e = let same : n ≡ m = sym (eqb-true m n e) in absurd (differ same)
    go false e = refl

-- the numbers, where the test says whether the first is among them
abbrev actors_by : Bool → ActorSpec → List ActorSpec → List ℕ
actors_by here cast others = map (λ (x : ActorSpec). x.actor) (cond here (cast ∷ others) others)

abbrev naming : ℕ → List ActorSpec → List ActorSpec
naming c casts = filter (λ (x : ActorSpec). contains c x.callers) casts

abbrev has : ℕ → List ℕ → Bool
has a actors = list_any (λ b. b == a) actors

no_other : (c a : ℕ) (casts : List ActorSpec) → IsNoneOf a casts → has a (actors_naming c casts) ≡ false
no_other c a [] apart = refl
no_other c a (cast ∷ casts) apart = go (contains c cast.callers) (no_other c a casts (λ i d within. apart (suc i) d (omega arith)))
  where
    other : (cast.actor == a) ≡ false
    other = not_equal cast.actor a (apart 0 cast (omega arith))

    go : (b : Bool) → has a (actors_naming c casts) ≡ false → has a (actors_by b cast (naming c casts)) ≡ false
    go true rest = rw other rest
    go false rest = rest

-- the actor's cast names the caller where the actor is among those that know it
pub names_is : (c a : ℕ) (casts : List ActorSpec) → Differ casts → names c (find (λ cast. cast.actor == a) casts) ≡ has a (actors_naming c casts)
names_is c a [] differ = refl
names_is c a (cast ∷ casts) differ = go (cast.actor == a) (contains c cast.callers) refl refl (names_is c a casts (rest_differ cast casts differ))
  where
    go : (here named : Bool) → (cast.actor == a) ≡ here → contains c cast.callers ≡ named → names c (find (λ x. x.actor == a) casts) ≡ has a
        (actors_naming c casts) → names c (cond here (Some cast) (find (λ x. x.actor == a) casts)) ≡ has a (actors_by named cast (naming c casts))
    go true true e f rest = rw (e, f) refl
    go true false e f rest =
        let same : cast.actor ≡ a = eqb-true cast.actor a e in
        f ∙ sym (no_other c a casts (subst (λ n. IsNoneOf n casts) same (first_differs cast casts differ)))
    go false true e f rest = rw e rest
    go false false e f rest = rest

nobody : (c : ℕ) (casts : List ActorSpec) → list_any (λ cast. contains c cast.callers) casts ≡ false → actors_naming c casts ≡ []
nobody c [] e = refl
nobody c (cast ∷ casts) e = go (contains c cast.callers) e (nobody c casts)
  where
    go : (b : Bool) → (b || list_any (λ x. contains c x.callers) casts) ≡ false →
        (list_any (λ x. contains c x.callers) casts ≡ false → actors_naming c casts ≡ []) → actors_by b cast (naming c casts) ≡ []
    go true e rest = cc
    go false e rest = rest e

-- ---- a history and a progress that agree

times-under : (c a : ℕ) (pairs : List (ℕ × ℕ)) → count_pairs c a pairs ≡ occurrences a (under c pairs)
times-under c a [] = refl
times-under c a (pair ∷ pairs) = go (pair.0 == c) (pair.1 == a) refl (times-under c a pairs)
  where
    go : (mine here : Bool) → (pair.1 == a) ≡ here → count_pairs c a pairs ≡ occurrences a (under c pairs)
        → length (cond (mine && here) (pair ∷ filter (λ (p : ℕ × ℕ). (p.0 == c) && (p.1 == a)) pairs) (filter (λ (p : ℕ × ℕ). (p.0 == c) && (p.1 == a)) pairs))
        ≡ occurrences a (map (λ (p : ℕ × ℕ). p.1) (cond mine (pair ∷ filter (λ (p : ℕ × ℕ). p.0 == c) pairs) (filter (λ (p : ℕ × ℕ). p.0 == c) pairs)))
    go true true e same = rw e (ap suc same)
    go true false e same = rw e same
    go false here e same = same

-- a world of these casts, and what a caller did
record Agrees (c : ℕ) (casts : List ActorSpec) (h : History) (p : Progress) : Type 0 where
  opened : h.casts ≡ casts
  submitted : under c h.submitted ≡ p.submitted
  copied : under c h.copied ≡ p.copied
  released : under c h.released ≡ p.released

-- one pair more of the caller itself, and one of another
own : {A : Type 0} (c : ℕ) (pairs : List (ℕ × A)) (x : A) (xs : List A) → under c pairs ≡ xs → under c (pairs ++ (c, x) ∷ []) ≡ xs ++ x ∷ []
own {A = A} c pairs x xs e = let same : (c == c) ≡ true = eq-eqb c c refl in under-push c c pairs x ∙ rw (same, e) refl

others : {A : Type 0} (c d : ℕ) (pairs : List (ℕ × A)) (x : A) (xs : List A) → (d == c) ≡ false → under c pairs ≡ xs → under c (pairs ++ (d, x) ∷ []) ≡ xs
others {A = A} c d pairs x xs apart e = under-push c d pairs x ∙ rw apart (append-nil (under c pairs)) ∙ e

-- what a step leaves
abbrev next : List ℕ → Progress → Step → Progress
next actors p s = cond (is_refused actors p s) p (do_step p s)

-- what an event leaves of what the caller did
abbrev moved : ℕ → List ℕ → Progress → Event → Progress
moved c actors p (Submit d a method args) = cond (d == c) (next actors p (step.Submit a method args)) p
moved c actors p (Copy d a) = cond (d == c) (next actors p (step.Copy a)) p
moved c actors p (Release d a) = cond (d == c) (next actors p (step.Release a)) p
moved c actors p event = p

abbrev moved_all : ℕ → List ℕ → Progress → List Event → Progress
moved_all c actors p [] = p
moved_all c actors p (event ∷ events) = moved_all c actors (moved c actors p event) events

-- what a refused event leaves agrees with what a refused step leaves
both_refused : (P : History → Progress → Type 0) (h g : History) (p q : Progress) (event : Event) (refused : Bool) → is_some (refusal_of h event) ≡ refused
    → add_event h event ≡ g → P h p → P g q → P (after h event) (cond refused p q)
both_refused P h g p q event refused e same before later = go (refusal_of h event) refused e
  where
    go : (o : Option WorldRefusal) (b : Bool) → is_some o ≡ b → P (after_by h event o) (cond b p q)
    go None true e = cc
    go None false e = subst (λ x. P x q) (sym same) later
    go (Some refusal) true e = before
    go (Some refusal) false e = cc

-- the refusal of a caller that is known
gate : {R S : Type 0} (known : Bool) (stranger : S) (f : R → S) (o : Option R) → (known ≡ false → is_some o ≡ true) →
    is_some (needs known stranger (option_map f o)) ≡ is_some o
gate true stranger f None h = refl
gate true stranger f (Some r) h = refl
gate false stranger f o h = sym (h refl)

-- the refusal of a caller that is known, where it isn't that of a limit
limit_gate : (known : Bool) (refusal : Option SubmitRefusal) (limit : Option ℕ) (pending : ℕ) → is_limit
    (needs known NoCaller (option_map SubmitRefused (option_or refusal (limit_refusal limit pending)))) ≡ false → (known ≡ false → is_some refusal ≡ true) →
    is_some (needs known NoCaller (option_map SubmitRefused (option_or refusal (limit_refusal limit pending)))) ≡ is_some refusal
limit_gate true None None pending e h = refl
limit_gate true None (Some limit) pending e h = go (nat_lt pending limit) e
  where
    go : (b : Bool) → is_limit (option_map SubmitRefused (needs b PendingLimit None)) ≡ false →
        is_some (option_map SubmitRefused (needs b PendingLimit None)) ≡ false
    go true e = refl
    go false e = cc
limit_gate true (Some refusal) limit pending e h = refl
limit_gate false refusal limit pending e h = sym (h refl)

-- a submission that a limit holds back leaves the history
held_leaves : (P : History → Type 0) (h : History) (event : Event) → is_held_back h event ≡ true → P h → P (after h event)
held_leaves P h event e held = go (refusal_of h event) e
  where
    go : (o : Option WorldRefusal) → is_limit o ≡ true → P (after_by h event o)
    go None e = cc
    go (Some refusal) e = held

module _ (c : ℕ) (casts : List ActorSpec) (differ : Differ casts) where
  copies_is : (a : ℕ) (h : History) (p : Progress) → Agrees c casts h p → copies_of c a h ≡ holds a (actors_naming c casts) p
  copies_is a h p agrees =
      rw (agrees.opened, names_is c a casts differ, times-under c a h.copied, times-under c a h.released, agrees.copied, agrees.released) refl

  -- a caller that no cast names holds nothing
  holds_none : (a : ℕ) (h : History) (p : Progress) → Agrees c casts h p → is_caller c h ≡ false → holds a (actors_naming c casts) p ≡ None
  holds_none a h p agrees e = let none : actors_naming c casts ≡ [] =
      nobody c casts (ap (λ cs. list_any (λ x. contains c x.callers) cs) (sym agrees.opened) ∙ e) in rw none refl

  submission_refused : (a : ℕ) (method : Method) (args : List Arg) (h : History) (p : Progress) → is_held_back h (Submit c a method args) ≡ false →
      Agrees c casts h p → is_some (refusal_of h (Submit c a method args)) ≡ is_refused (actors_naming c casts) p (step.Submit a method args)
  submission_refused a method args h p through agrees =
      let same : submit_refusal (copies_of c a h) (length (calls_of c h)) args ≡ submit_refusal (holds a (actors_naming c casts) p) (length p.submitted) args
      = rw (copies_is a h p agrees, agrees.submitted) refl in
      limit_gate (is_caller c h) (submit_refusal (copies_of c a h) (length (calls_of c h)) args) (limit_of c a h) (unanswered c a h) through
      (λ e. ap is_some same ∙ rw (holds_none a h p agrees e) refl)
      ∙ ap is_some same

  copy_refused : (a : ℕ) (h : History) (p : Progress) → Agrees c casts h p →
      is_some (refusal_of h (Copy c a)) ≡ is_refused (actors_naming c casts) p (step.Copy a)
  copy_refused a h p agrees = rw (copies_is a h p agrees)
      (gate (is_caller c h) NoCaller Handle (copy_refusal (holds a (actors_naming c casts) p)) (λ e. rw (holds_none a h p agrees e) refl))

  release_refused : (a : ℕ) (h : History) (p : Progress) → Agrees c casts h p →
      is_some (refusal_of h (Release c a)) ≡ is_refused (actors_naming c casts) p (step.Release a)
  release_refused a h p agrees = rw (copies_is a h p agrees)
      (gate (is_caller c h) NoCaller Handle (handle_refusal (holds a (actors_naming c casts) p)) (λ e. rw (holds_none a h p agrees e) refl))

  own_submission : (a : ℕ) (method : Method) (args : List Arg) (h : History) (p : Progress) → is_held_back h (Submit c a method args) ≡ false →
      Agrees c casts h p → Agrees c casts (after h (Submit c a method args)) (next (actors_naming c casts) p (step.Submit a method args))
  own_submission a method args h p through agrees =
      both_refused (Agrees c casts) h (add_event h (Submit c a method args)) p (do_step p (step.Submit a method args))
      (Submit c a method args) _ (submission_refused a method args h p through agrees) refl agrees (record {
        opened = agrees.opened;
        submitted = own c h.submitted _ p.submitted agrees.submitted;
        copied = agrees.copied;
        released = agrees.released;
      })

  own_copy : (a : ℕ) (h : History) (p : Progress) → Agrees c casts h p → Agrees c casts (after h (Copy c a)) (next (actors_naming c casts) p (step.Copy a))
  own_copy a h p agrees =
      both_refused (Agrees c casts) h (add_event h (Copy c a)) p (do_step p (step.Copy a)) (Copy c a) _ (copy_refused a h p agrees) refl agrees (record {
        opened = agrees.opened;
        submitted = agrees.submitted;
        copied = own c h.copied _ p.copied agrees.copied;
        released = agrees.released;
      })

  own_release : (a : ℕ) (h : History) (p : Progress) → Agrees c casts h p →
      Agrees c casts (after h (Release c a)) (next (actors_naming c casts) p (step.Release a))
  own_release a h p agrees =
      both_refused (Agrees c casts) h (add_event h (Release c a)) p (do_step p (step.Release a))
      (Release c a) _ (release_refused a h p agrees) refl agrees (record {
        opened = agrees.opened;
        submitted = agrees.submitted;
        copied = agrees.copied;
        released = own c h.released _ p.released agrees.released;
      })

  -- a history with the same calls, copies and releases
  alike : (h g : History) (p : Progress) → g.casts ≡ h.casts → g.submitted ≡ h.submitted → g.copied ≡ h.copied → g.released ≡ h.released → Agrees c casts h p →
      Agrees c casts g p
  alike h g p casts_same submitted_same copied_same released_same agrees = record {
    opened = casts_same ∙ agrees.opened;
    submitted = ap (under c) submitted_same ∙ agrees.submitted;
    copied = ap (under c) copied_same ∙ agrees.copied;
    released = ap (under c) released_same ∙ agrees.released;
  }

  run_agrees : (a d : ℕ) (h : History) (p : Progress) (o : Option RunItem) → Agrees c casts h p → Agrees c casts (after_run a d h o) p
  run_agrees a d h p None agrees = agrees
  run_agrees a d h p (Some item) agrees = alike h (after_run a d h (Some item)) p refl refl refl refl agrees

  quiet : (h : History) (event : Event) (p : Progress) → Agrees c casts h p → Agrees c casts (add_event h event) p → Agrees c casts (after h event) p
  quiet h event p agrees later = after_keeps (λ g. Agrees c casts g p) h event agrees (λ _. later)

  -- each event that no limit holds back
  moves : (h : History) (event : Event) (p : Progress) → is_held_back h event ≡ false → Agrees c casts h p →
      Agrees c casts (after h event) (moved c (actors_naming c casts) p event)
  moves h (Submit d a method args) p through agrees = go (d == c) refl
    where
      go : (mine : Bool) → (d == c) ≡ mine →
          Agrees c casts (after h (Submit d a method args)) (cond mine (next (actors_naming c casts) p (step.Submit a method args)) p)
      go true e =
          let same : d ≡ c = eqb-true d c e in
          let own_through = subst (λ x. is_held_back h (Submit x a method args) ≡ false) same through in
          subst (λ x. Agrees c casts (after h (Submit x a method args)) (next (actors_naming c casts) p (step.Submit a method args))) (sym same)
          (own_submission a method args h p own_through agrees)
      go false e = quiet h (Submit d a method args) p agrees (record {
        opened = agrees.opened;
        submitted = others c d h.submitted _ p.submitted e agrees.submitted;
        copied = agrees.copied;
        released = agrees.released;
      })
  moves h (Copy d a) p through agrees = go (d == c) refl
    where
      go : (mine : Bool) → (d == c) ≡ mine → Agrees c casts (after h (Copy d a)) (cond mine (next (actors_naming c casts) p (step.Copy a)) p)
      go true e = let same : d ≡ c = eqb-true d c e in
          subst (λ x. Agrees c casts (after h (Copy x a)) (next (actors_naming c casts) p (step.Copy a))) (sym same) (own_copy a h p agrees)
      go false e = quiet h (Copy d a) p agrees (record {
        opened = agrees.opened;
        submitted = agrees.submitted;
        copied = others c d h.copied _ p.copied e agrees.copied;
        released = agrees.released;
      })
  moves h (Release d a) p through agrees = go (d == c) refl
    where
      go : (mine : Bool) → (d == c) ≡ mine → Agrees c casts (after h (Release d a)) (cond mine (next (actors_naming c casts) p (step.Release a)) p)
      go true e = let same : d ≡ c = eqb-true d c e in
          subst (λ x. Agrees c casts (after h (Release x a)) (next (actors_naming c casts) p (step.Release a))) (sym same) (own_release a h p agrees)
      go false e = quiet h (Release d a) p agrees (record {
        opened = agrees.opened;
        submitted = agrees.submitted;
        copied = agrees.copied;
        released = others c d h.released _ p.released e agrees.released;
      })
  moves h (Run a d) p through agrees = quiet h (Run a d) p agrees (run_agrees a d h p (next_item a d h) agrees)
  moves h event p through agrees = quiet h event p agrees (alike h _ p refl refl refl refl agrees)

  all_agree : (h : History) (events : List Event) (p : Progress) → Agrees c casts h p →
      Agrees c casts (after_all h events) (moved_all c (actors_naming c casts) p (let_through h events))
  all_agree h [] p agrees = agrees
  all_agree h (event ∷ events) p agrees = go (is_held_back h event) refl (λ q. all_agree (after h event) events q)
    where
      later : List Event
      later = let_through (after h event) events

      go : (held : Bool) → is_held_back h event ≡ held → ((q : Progress) → Agrees c casts (after h event) q →
          Agrees c casts (after_all (after h event) events) (moved_all c (actors_naming c casts) q later)) →
          Agrees c casts (after_all (after h event) events) (moved_all c (actors_naming c casts) p (cond held later (event ∷ later)))
      go true e rest = rest p (held_leaves (λ g. Agrees c casts g p) h event e agrees)
      go false e rest = rest (moved c (actors_naming c casts) p event) (moves h event p e agrees)

-- ---- events and steps

-- an event that is not the caller's moves nothing
unmoved : (c : ℕ) (actors : List ℕ) (p : Progress) (event : Event) → is_planned_by c event ≡ false → moved c actors p event ≡ p
unmoved c actors p (Submit d a method args) e = rw e refl
unmoved c actors p (Copy d a) e = rw e refl
unmoved c actors p (Release d a) e = rw e refl
unmoved c actors p event e = refl

moved_all-filter : (c : ℕ) (actors : List ℕ) (p : Progress) (events : List Event) →
    moved_all c actors p (filter (is_planned_by c) events) ≡ moved_all c actors p events
moved_all-filter c actors p [] = refl
moved_all-filter c actors p (event ∷ events) = go (is_planned_by c event) refl (λ q. moved_all-filter c actors q events)
  where
    go : (mine : Bool) → is_planned_by c event ≡ mine →
        ((q : Progress) → moved_all c actors q (filter (is_planned_by c) events) ≡ moved_all c actors q events) → moved_all c actors p
        (cond mine (event ∷ filter (is_planned_by c) events) (filter (is_planned_by c) events)) ≡ moved_all c actors (moved c actors p event) events
    go true e rest = rest (moved c actors p event)
    go false e rest = rest p ∙ ap (λ q. moved_all c actors q events) (sym (unmoved c actors p event e))

either : {A : Type 0} (b : Bool) (x : A) → cond b x x ≡ x
either true x = refl
either false x = refl

-- a plan's events move what its steps do
moved_all-events_of : (c : ℕ) (actors : List ℕ) (p : Progress) (plan : List Step) → moved_all c actors p (events_of c plan) ≡ done_by actors p plan
moved_all-events_of c actors p [] = refl
moved_all-events_of c actors p (step.Kill a ∷ plan) =
    moved_all-events_of c actors p plan ∙ ap (λ q. done_by actors q plan) (sym (either (is_refused actors p (step.Kill a)) p))
moved_all-events_of c actors p (step.Await k ∷ plan) =
    moved_all-events_of c actors p plan ∙ ap (λ q. done_by actors q plan) (sym (either (is_refused actors p (step.Await k)) p))
moved_all-events_of c actors p (other ∷ plan) = let same : (c == c) ≡ true = eq-eqb c c refl in
    rw same (moved_all-events_of c actors (next actors p other) plan)

-- ---- the law

nothing_yet : (c : ℕ) (casts : List ActorSpec) → Agrees c casts (opening casts) nothing_done
nothing_yet c casts = record { opened = refl; submitted = refl; copied = refl; released = refl }

-- what a world takes from a caller
taken : (c : ℕ) (casts : List ActorSpec) (events : List Event) → AllPairs (λ one other. one.actor ≢ other.actor) casts
    → (moved_all c (actors_naming c casts) nothing_done (let_through (opening casts) events)).submitted ≡ calls_of c (after_all (opening casts) events)
taken c casts events differ = sym (all_agree c casts differ (opening casts) events nothing_done (nothing_yet c casts)).submitted

pub planned_is_taken_among_others : (casts : List ActorSpec) (c : ℕ) (plan : List Step) (events : List Event) →
    AllPairs (λ one other. one.actor ≢ other.actor) casts → filter (is_planned_by c) (let_through (opening casts) events) ≡ events_of c plan →
    planned (actors_naming c casts) plan ≡ calls_of c (after_all (opening casts) events)
planned_is_taken_among_others casts c plan events differ same =
    let actors : List ℕ = actors_naming c casts in let through : List Event = let_through (opening casts) events in
    let by_plan : moved_all c actors nothing_done through ≡ done_by actors nothing_done plan
    = sym (moved_all-filter c actors nothing_done through) ∙ ap (moved_all c actors nothing_done) same ∙ moved_all-events_of c actors nothing_done plan in
    ap (λ (p : Progress). p.submitted) (sym by_plan) ∙ taken c casts events differ

-- ---- without limits

-- no cast sets a limit
abbrev AreFree : List ActorSpec → Type 0
AreFree casts = All (λ cast. cast.pending ≡ None) casts

found_free : (a : ℕ) (casts : List ActorSpec) → AreFree casts →
    option_and_then (λ (cast : ActorSpec). cast.pending) (find (λ cast. cast.actor == a) casts) ≡ None
found_free a [] free = refl
found_free a (cast ∷ casts) free = go (cast.actor == a) (found_free a casts (λ i d within. free (suc i) d (omega arith)))
  where
    go : (b : Bool) → option_and_then (λ (x : ActorSpec). x.pending) (find (λ x. x.actor == a) casts) ≡ None
        → option_and_then (λ (x : ActorSpec). x.pending) (cond b (Some cast) (find (λ x. x.actor == a) casts)) ≡ None
    go true rest = free 0 cast (omega arith)
    go false rest = rest

limit_free : (c a : ℕ) (h : History) → AreFree h.casts → limit_of c a h ≡ None
limit_free c a h free = go (names c (cast_of a h))
  where
    go : (b : Bool) → cond b (option_and_then (λ (x : ActorSpec). x.pending) (cast_of a h)) None ≡ None
    go true = found_free a h.casts free
    go false = refl

-- what is needed is refused by no limit
needs_no_limit : (b : Bool) (refusal : WorldRefusal) (o : Option WorldRefusal) → is_limit (Some refusal) ≡ false → is_limit o ≡ false →
    is_limit (needs b refusal o) ≡ false
needs_no_limit true refusal o one other = other
needs_no_limit false refusal o one other = one

handle_no_limit : (o : Option HandleRefusal) → is_limit (option_map Handle o) ≡ false
handle_no_limit None = refl
handle_no_limit (Some refusal) = refl

sending_no_limit : (o : Option SendRefusal) → is_limit (option_map Sending o) ≡ false
sending_no_limit None = refl
sending_no_limit (Some refusal) = refl

submit_no_limit : (listed held few earlier room : Bool) → is_limit (option_map SubmitRefused
    (option_or (needs listed NoSuchActor (needs held NoCopy (needs few TooManyArgs (needs earlier BadFuture (needs room TooManyCalls None))))) None)) ≡ false
submit_no_limit false held few earlier room = refl
submit_no_limit true false few earlier room = refl
submit_no_limit true true false earlier room = refl
submit_no_limit true true true false room = refl
submit_no_limit true true true true false = refl
submit_no_limit true true true true true = refl

deliver_no_limit : (o : Option Letter) (h : History) → is_limit (deliver_refusal o h) ≡ false
deliver_no_limit None h = refl
deliver_no_limit (Some letter) h = needs_no_limit (not (is_ended (letter_actor letter) h)) ActorEnded None refl refl

none_held : (h : History) (event : Event) → AreFree h.casts → is_held_back h event ≡ false
none_held h (Submit c a method args) free =
    let count = length (calls_of c h) in let copies = copies_of c a h in
    let only : option_map SubmitRefused (submission_refusal c a args h) ≡ option_map SubmitRefused (option_or (submit_refusal copies count args) None)
    = ap (λ limit. option_map SubmitRefused (option_or (submit_refusal copies count args) (limit_refusal limit (unanswered c a h)))) (limit_free c a h free) in
    needs_no_limit (is_caller c h) NoCaller (option_map SubmitRefused (submission_refusal c a args h)) refl
    (ap is_limit only ∙
    submit_no_limit (is_some copies) (nat_lt 0 (copies_held copies)) (nat_le (length args) 4) (list_all (is_earlier count) args) (nat_lt count 65536))
none_held h (Copy c a) free = needs_no_limit (is_caller c h) NoCaller _ refl (handle_no_limit (copy_refusal (copies_of c a h)))
none_held h (Release c a) free = needs_no_limit (is_caller c h) NoCaller _ refl (handle_no_limit (handle_refusal (copies_of c a h)))
none_held h (Send c k) free = needs_no_limit (is_caller c h) NoCaller _ refl
    (sending_no_limit (send_refusal (kept_of c h) k (was_sent c k (slice_get (calls_of c h) k) h) (slice_get (calls_of c h) k)))
none_held h (Deliver i) free = deliver_no_limit (slice_get h.mail i) h
none_held h (Run a c) free = needs_no_limit (is_caller c h) NoCaller _ refl
    (needs_no_limit (names c (cast_of a h)) (Handle NoActor) _ refl (needs_no_limit (not (is_ended a h)) ActorEnded None refl refl))
none_held h (Collect j) free = needs_no_limit (is_some (slice_get h.posts j)) NoReply None refl refl
none_held h (AskKill c a) free = needs_no_limit (is_caller c h) NoCaller _ refl (handle_no_limit (handle_refusal (copies_of c a h)))
none_held h (TakeKill a) free = needs_no_limit (is_some (cast_of a h)) (Handle NoActor) _ refl
    (needs_no_limit (not (is_ended a h)) ActorEnded _ refl (needs_no_limit (contains a h.asked) NoKill None refl refl))
none_held h (Tell a c) free = needs_no_limit (is_caller c h) NoCaller _ refl
    (needs_no_limit (names c (cast_of a h)) (Handle NoActor) _ refl (needs_no_limit (is_dead a h) NotDead None refl refl))
none_held h (Retire a) free = needs_no_limit (is_some (cast_of a h)) (Handle NoActor) _ refl
    (needs_no_limit (not (is_ended a h)) ActorEnded _ refl (needs_no_limit (is_drained a h) NotDrained None refl refl))

-- then each event is let through
all_through : (h : History) (events : List Event) → AreFree h.casts → let_through h events ≡ events
all_through h [] free = refl
all_through h (event ∷ events) free =
    let later : AreFree (after h event).casts = after_keeps (λ g. AreFree g.casts) h event free (λ _. subst AreFree (sym (added_grows h event).casts) free) in
    rw (none_held h event free) (ap (λ rest. event ∷ rest) (all_through (after h event) events later))

pub planned_is_taken : (casts : List ActorSpec) (c : ℕ) (plan : List Step) → AllPairs (λ one other. one.actor ≢ other.actor) casts →
    All (λ cast. cast.pending ≡ None) casts → planned (actors_naming c casts) plan ≡ calls_of c (after_all (opening casts) (events_of c plan))
planned_is_taken casts c plan differ free =
    ap (λ (p : Progress). p.submitted) (sym (moved_all-events_of c (actors_naming c casts) nothing_done plan))
    ∙ ap (λ events. (moved_all c (actors_naming c casts) nothing_done events).submitted) (sym (all_through (opening casts) (events_of c plan) free))
    ∙ taken c casts (events_of c plan) differ

-- the actors whose roles name a caller are those whose casts, made of the roles, name it
pub actors_of-actor_spec : (c : ℕ) (roles : List Role) → actors_of_roles c roles ≡ actors_naming c (map actor_spec_of roles)
actors_of-actor_spec c [] = refl
actors_of-actor_spec c (role ∷ roles) = go (contains c role.callers) (actors_of-actor_spec c roles)
  where
    go : (b : Bool) → actors_of_roles c roles ≡ actors_naming c (map actor_spec_of roles)
        → map (λ (x : Role). x.actor) (cond b (role ∷ filter (λ (x : Role). contains c x.callers) roles) (filter (λ (x : Role). contains c x.callers) roles))
        ≡ actors_by b (actor_spec_of role) (naming c (map actor_spec_of roles))
    go true rest = ap (λ actors. role.actor ∷ actors) rest
    go false rest = rest
