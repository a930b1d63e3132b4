-- No play of its plans leaves the circle of awaits.
use Rattle.act_replay.proofs.Common.{◌≡◌, ℕ, ◌==◌, Bool, true, false, cond, List, [], ◌∷◌, ◌++◌, Some, None, inl, inr, refl, sym, ap, ◌∙◌, subst, arith}
use Rattle.act_replay.proofs.Common.{append-nil, append_assoc, Option, map, ◌⊎◌, slice_get, is_some, AllByRecursion, recursion_from_All, Push, Method, Arg}
use Rattle.act_replay.proofs.Common.{Event, Submit, Run, WorldRefusal, RunItem, Submission, Step, Answer, kept_at, IsPrefix, Consistent, History, opening}
use Rattle.act_replay.proofs.Common.{opening_of, calls_of, runs_of, kept_of, is_dead, next_item, history, refusal_of, add_event, after, after_by, after_run}
use Rattle.act_replay.proofs.Common.{after_all, slice_get_front, after_all_keeps, after_all-append, under-push, dead_stays, held_submission, IsSound}
use Rattle.act_replay.proofs.Common.{world_sound, consistent, is_death, is_death-only, IsOwnerIn, IsEndIn, step_of, IsMeanwhile, DoesPlanIn, circle_casts}
use Rattle.act_replay.proofs.Common.{five_arg, circle_push, circle_ran, IsUnplanned, await_plan, await_plans, await_calls, await_log, await_owner, await_owners}
use Rattle.act_replay.proofs.Common.{await_end, await_ends}
use Rattle.act_rules.specs.declared.script.Step.TheVariants.{Submit as SubmitStep, Release as ReleaseStep, Await as AwaitStep}
use Rattle.act_replay.proofs.Unplayed.{is_after}

-- ---- what a caller submitted by its await

quiet_run : (b d c : ℕ) (h : History) (o : Option RunItem) → calls_of c (after_run b d h o) ≡ calls_of c h
quiet_run b d c h None = refl
quiet_run b d c h (Some item) = refl

quiet_added : (c : ℕ) (h : History) (event : Event) → step_of c event ≡ None → calls_of c (add_event h event) ≡ calls_of c h
quiet_added c h (Submit d a method args) e = under-push c d h.submitted (record { actor = a; method = method; args = args }) ∙ go (d == c) e
  where
    call : Submission
    call = record { actor = a; method = method; args = args }

    go : (b : Bool) → cond b (Some (SubmitStep a method args)) None ≡ None → calls_of c h ++ cond b (call ∷ []) [] ≡ calls_of c h
    go true e = cc
    go false e = append-nil (calls_of c h)
quiet_added c h (Run b d) e = quiet_run b d c h (next_item b d h)
quiet_added c h event e = refl

quiet_after : (c : ℕ) (h : History) (event : Event) → step_of c event ≡ None → calls_of c (after h event) ≡ calls_of c h
quiet_after c h event e = go (refusal_of h event)
  where
    go : (o : Option WorldRefusal) → calls_of c (after_by h event o) ≡ calls_of c h
    go None = quiet_added c h event e
    go (Some refusal) = refl

quiet_all : (c : ℕ) (h : History) (events : List Event) → AllByRecursion (λ event. step_of c event ≡ None) events
    → calls_of c (after_all h events) ≡ calls_of c h
quiet_all c h [] quiet = refl
quiet_all c h (event ∷ events) quiet = quiet_all c (after h event) events quiet.1 ∙ quiet_after c h event quiet.0

quiet_calls : (c : ℕ) (h : History) (events : List Event) → IsMeanwhile c events → calls_of c (after_all h events) ≡ calls_of c h
quiet_calls c h events quiet = quiet_all c h events (recursion_from_All (λ event. step_of c event ≡ None) events quiet)

-- it has no second call where it submitted once
one_call : (c : ℕ) (h : History) (a : ℕ) (method : Method) (args : List Arg) (second : Submission) → calls_of c h ≡ []
    → slice_get (calls_of c (after h (Submit c a method args))) 1 ≡ Some second → ⊥
one_call c h a method args second none e = go (refusal_of h (Submit c a method args)) e
  where
    call : Submission
    call = record { actor = a; method = method; args = args }

    last : (b : Bool) → slice_get (cond b (call ∷ []) []) 1 ≡ Some second → ⊥
    last true e = cc
    last false e = cc

    go : (o : Option WorldRefusal) → slice_get (calls_of c (after_by h (Submit c a method args) o)) 1 ≡ Some second → ⊥
    go None e = last (c == c) (sym (ap (λ l. slice_get l 1) (under-push c c h.submitted call ∙ ap (λ l. l ++ cond (c == c) (call ∷ []) []) none)) ∙ e)
    go (Some refusal) e = let bad : slice_get [] 1 ≡ Some second = subst (λ l. slice_get l 1 ≡ Some second) none e in cc

-- a front of the events in which the caller submitted once, and after which its first call is answered
record IsAwaited (c : ℕ) (events : List Event) : Type 0 where
  front : List Event
  rest : List Event
  whole : events ≡ front ++ rest
  answered : is_some (kept_at (kept_of c (history circle_casts front)) 0) ≡ true
  once : (second : Submission) → slice_get (calls_of c (history circle_casts front)) 1 ≡ Some second → ⊥

awaited : (c o : ℕ) (more : List Step) (events : List Event) → DoesPlanIn circle_casts c (SubmitStep o Push (five_arg ∷ []) ∷ AwaitStep 0 ∷ more) [] events
    → IsAwaited c events
awaited c o more events (first, done, later, whole, quiet, did, (second, nothing, rest, cut, still, (none, answered), goes)) = record {
  front = (first ++ done) ++ second;
  rest = rest;
  whole = whole ∙ ap (λ l. (first ++ done) ++ l) (cut ∙ ap (λ l. (second ++ l) ++ rest) none ∙ ap (λ l. l ++ rest) (append-nil second)) ∙
      sym (append_assoc (first ++ done) second rest);
  answered = answered;
  once = λ call e. one_call c (after_all (opening circle_casts) first) o Push (five_arg ∷ []) call (quiet_calls c (opening circle_casts) first quiet)
      (ap (λ l. slice_get l 1) (sym calls) ∙ e);
}
  where
    submitted : after_all (opening circle_casts) (first ++ done) ≡ after (after_all (opening circle_casts) first) (Submit c o Push (five_arg ∷ []))
    submitted = after_all-append (opening circle_casts) first done ∙ ap (after_all (after_all (opening circle_casts) first)) did

    calls : calls_of c (history circle_casts ((first ++ done) ++ second)) ≡ calls_of c
        (after (after_all (opening circle_casts) first) (Submit c o Push (five_arg ∷ [])))
    calls = ap (calls_of c) (after_all-append (opening circle_casts) (first ++ done) second) ∙
        quiet_calls c (after_all (opening circle_casts) (first ++ done)) second still ∙ ap (calls_of c) submitted

-- ---- what ran by then

module _ (c o : ℕ) where
  first_ran : (log : List RunItem) (place : ℕ) {item : RunItem} → IsPrefix log (await_log o c) → slice_get log place ≡ Some item
      → slice_get log 0 ≡ Some (circle_ran o 1 5)
  first_ran [] place front at = cc
  first_ran (x ∷ log) place front at =
      let e : x ∷ (log ++ front.0) ≡ circle_ran o 1 5 ∷ circle_ran c 0 5 ∷ [] = front.1 in
      let same : x ≡ circle_ran o 1 5 = cc in ap (λ i. Some i) same

  -- where the caller's first call is answered, the other list's first item is there, so its caller submitted twice
  second_call : (h : History) → IsSound h → IsPrefix (calls_of c h) (await_calls c o) → IsPrefix (runs_of o h) (await_log o c) → is_dead o h ≡ false
      → is_some (kept_at (kept_of c h) 0) ≡ true → (second : Submission) × (slice_get (calls_of o h) 1 ≡ Some second)
  second_call h s calls log alive answered = go (kept_at (kept_of c h) 0) refl answered
    where
      fits : Consistent (λ x. opening_of x h) (λ x. calls_of x h) (λ x. runs_of x h) (λ x. kept_of x h) (λ x. is_dead x h)
      fits = consistent h s

      to_other : {call : Submission} → slice_get (calls_of c h) 0 ≡ Some call → call.actor ≡ o
      to_other {call} at =
          let e : Some (circle_push o five_arg) ≡ Some call = slice_get_front (calls_of c h) (await_calls c o) 0 calls at in
          let same : circle_push o five_arg ≡ call = cc in ap (λ (x : Submission). x.actor) (sym same)

      by : (x : Answer) → kept_at (kept_of c h) 0 ≡ Some x → (b : Bool) → is_death x ≡ b → (second : Submission) × (slice_get (calls_of o h) 1 ≡ Some second)
      by x kept true is =
          let death = fits.deaths c 0 (kept ∙ ap (λ y. Some y) (is_death-only x is)) in
          let bad : true ≡ false = sym death.dead ∙ ap (λ a. is_dead a h) (to_other death.at) ∙ alive in cc
      by x kept false is =
          let r = fits.answers c 0 x kept (λ e. (let bad : true ≡ false = ap is_death (sym e) ∙ is in cc)) in
          let held = held_submission h r.actor 0 r.place s.order r.at r.caller r.future in
          let actor : r.actor ≡ o = sym held.2 ∙ to_other held.1 in
          let first = first_ran (runs_of o h) r.place log (subst (λ a. slice_get (runs_of a h) r.place ≡ Some r.item) actor r.at) in
          let more = held_submission h o {c = o} 1 0 s.order first refl refl in (more.0, more.1)

      go : (x : Option Answer) → kept_at (kept_of c h) 0 ≡ x → is_some x ≡ true → (second : Submission) × (slice_get (calls_of o h) 1 ≡ Some second)
      go None kept some = cc
      go (Some x) kept some = by x kept (is_death x) refl

-- ---- two fronts of the same events

meet : (xs ys zs ws : List Event) → xs ++ ys ≡ zs ++ ws → IsPrefix xs zs ⊎ IsPrefix zs xs
meet [] ys zs ws e = inl (zs, refl)
meet (x ∷ xs) ys [] ws e = inr (x ∷ xs, refl)
meet (x ∷ xs) ys (z ∷ zs) ws e =
    let head : x ≡ z = cc in let tail : xs ++ ys ≡ zs ++ ws = cc in
    elim (meet xs ys zs ws tail) [
      | inl front ↦ inl (front.0, ap (λ y. y ∷ (xs ++ front.0)) head ∙ ap (λ l. z ∷ l) front.1)
      | inr front ↦ inr (front.0, ap (λ y. y ∷ (zs ++ front.0)) (sym head) ∙ ap (λ l. x ∷ l) front.1)
    ]

dead_on : (a : ℕ) (h : History) (events : List Event) → is_dead a (after_all h events) ≡ false → is_dead a h ≡ false
dead_on a h events alive = go (is_dead a h) refl
  where
    go : (b : Bool) → is_dead a h ≡ b → is_dead a h ≡ false
    go true dead = let bad : true ≡ false = sym
        (after_all_keeps (λ g. is_dead a g ≡ true) (λ g event was accepted. dead_stays a g event accepted was) h events dead) ∙ alive in cc
    go false living = living

-- the caller that awaits no later than the other can't be answered by then
too_soon : (c o : ℕ) {events : List Event} (one : IsAwaited c events) (other : IsAwaited o events) → IsPrefix one.front other.front → calls_of c (history
    circle_casts events) ≡ await_calls c o → runs_of o (history circle_casts events) ≡ await_log o c → is_dead o (history circle_casts events) ≡ false → ⊥
too_soon c o {events} one other front calls_are runs_are alive = other.once second.0 there
  where
    h : History
    h = history circle_casts one.front

    on : history circle_casts events ≡ after_all h one.rest
    on = ap (history circle_casts) one.whole ∙ after_all-append (opening circle_casts) one.front one.rest

    second : (call : Submission) × (slice_get (calls_of o h) 1 ≡ Some call)
    second = second_call c o h (world_sound circle_casts one.front) (subst (IsPrefix (calls_of c h)) (sym (ap (calls_of c) on) ∙ calls_are)
        ((is_after h one.rest).calls c)) (subst (IsPrefix (runs_of o h)) (sym (ap (runs_of o) on) ∙ runs_are) ((is_after h one.rest).runs o))
        (dead_on o h one.rest (sym (ap (is_dead o) on) ∙ alive)) one.answered

    there : slice_get (calls_of o (history circle_casts other.front)) 1 ≡ Some second.0
    there = subst (λ g. slice_get (calls_of o g) 1 ≡ Some second.0) (sym (ap (history circle_casts) (sym front.1) ∙ after_all-append
        (opening circle_casts) one.front front.0)) (slice_get_front (calls_of o h) (calls_of o (after_all h front.0)) 1 ((is_after h front.0).calls o) second.1)

-- what comes behind the await
abbrev own_push : ℕ → List ℕ → List Step
own_push c closing = SubmitStep c Push (five_arg ∷ []) ∷ map (λ a. ReleaseStep a) closing

pub awaits_unplanned : IsUnplanned circle_casts await_plans await_owners await_ends
awaits_unplanned (events, plays) = elim (meet one.front one.rest two.front two.rest (sym one.whole ∙ two.whole)) [
  | inl front ↦ too_soon 1 2 one two front (sym (owner_1.calls)) (sym end_2.runs) end_2.ended.0
  | inr front ↦ too_soon 2 1 two one front (sym (owner_2.calls)) (sym end_1.runs) end_1.ended.0
]
  where
    one : IsAwaited 1 events
    one = let does : (closing : List ℕ) × DoesPlanIn circle_casts 1 (await_plan 1 2 ++ map (λ a. ReleaseStep a) closing) [] events =
        plays.does 0 (await_owner 1 2) (omega arith) in awaited 1 2 (own_push 1 does.0) events does.1

    two : IsAwaited 2 events
    two = let does : (closing : List ℕ) × DoesPlanIn circle_casts 2 (await_plan 2 1 ++ map (λ a. ReleaseStep a) closing) [] events =
        plays.does 1 (await_owner 1 2) (omega arith) in awaited 2 1 (own_push 2 does.0) events does.1

    owner_1 : IsOwnerIn (history circle_casts events) (await_owner 1 2)
    owner_1 = plays.play.callers 0 (await_owner 1 2) (omega arith)

    owner_2 : IsOwnerIn (history circle_casts events) (await_owner 2 1)
    owner_2 = plays.play.callers 1 (await_owner 1 2) (omega arith)

    end_1 : IsEndIn (history circle_casts events) (await_end 1 2)
    end_1 = plays.play.actors 0 (await_end 1 2) (omega arith)

    end_2 : IsEndIn (history circle_casts events) (await_end 2 1)
    end_2 = plays.play.actors 1 (await_end 1 2) (omega arith)
