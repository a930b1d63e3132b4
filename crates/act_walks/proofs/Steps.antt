-- A bound caller takes its next step.
use Rattle.act_walks.proofs.Common.{◌≡◌, ℕ, ◌+◌, Bool, true, false, List, [], ◌∷◌, ◌++◌, Option, Some, None, Ok, Err, refl, ap, sym, ◌∙◌, subst, append_assoc}
use Rattle.act_walks.proofs.Common.{append-nil, slice_get, is_some, Event, Step, Release, Await, ActorSpec, History, history, kept_of, kept_at, refusal_of}
use Rattle.act_walks.proofs.Common.{add_event, MayTake, Result, IsBehind, Vec, slice_set, after_move, IfOk, one_step_more, ToldCaller, ToldEnd, bound_of}
use Rattle.act_walks.proofs.Common.{caller_in, steps_in, DoesStepIn, IsPaced, Steps, Parts, done_in, Moves, NoStep, DoesStep, NeedsMore, Tries, TriesPost}
use Rattle.act_walks.proofs.Common.{TriesStep, bring}
use Rattle.act_rules.specs.declared.event.Event.TheVariants as event
use Rattle.act_walks.proofs.Eager.{stepped}
use Rattle.act_walks.proofs.Kills.{kills_move}
use Rattle.act_walks.proofs.Onward.{behind_here, paced_letter, done_more, walking_to, moves_none, moves_yes}
use Rattle.act_walks.proofs.Calls.{bound_is, moves_refused}

-- ---- what a step does

pub if_ok : {E : Type 0} (result : Result Bool E) (P Q : Bool → Type 0) → ((b : Bool) → P b → Q b) → IfOk result P → IfOk result Q
if_ok (Ok b) P Q map holds = map b holds
if_ok (Err error) P Q map holds = holds

-- a step that is one event
pub tries_step : (c : ℕ) (step : Step) (one : Event) (old new : Parts) (b : Bool) → ((h : History) → refusal_of h one ≡ None → MayTake c step h)
    → ((h : History) → MayTake c step h → refusal_of h one ≡ None) → ((h : History) → add_event h one ≡ after_move c step h)
    → ((casts : List ActorSpec) (before : List Event) → DoesStepIn casts c step before (one ∷ [])) → Tries one old new b → TriesStep c step old new b
tries_step c step one old new true may needs after is does = record {
  own = one ∷ [];
  letter = None;
  events = does.events ∙ sym (append-nil (old.events ++ one ∷ []));
  done = does.done;
  behind = λ casts h behind.
      let so = does.behind casts h behind in (may h so.0, subst (λ g. IsBehind casts g new.world new.events) (after h) so.1);
  does = λ casts behind. is casts old.events;
}
tries_step c step one old new false may needs after is not =
    record { same = not.same; needs = λ casts h behind taken. not.refused casts h behind (needs h taken) }

pub tries_release : (c a : ℕ) (old new : Parts) (b : Bool) → TriesPost (event.Release c a) old new b → TriesStep c (Release a) old new b
tries_release c a old new true does = record {
  own = event.Release c a ∷ [];
  letter = does.letter;
  events = does.events ∙ sym (append_assoc old.events (event.Release c a ∷ []) (bring does.letter));
  done = does.done;
  behind = does.behind;
  does = λ casts behind. refl;
}
tries_release c a old new false not = record { same = not.same; needs = not.refused }

pub tries_await : (c k : ℕ) (walk : Parts) (b : Bool) → ((casts : List ActorSpec) (h : History) (before : List Event) → IsBehind casts h walk.world before →
    b ≡ is_some (kept_at (kept_of c h) k)) → TriesStep c (Await k) walk walk b
tries_await c k walk true has = record {
  own = [];
  letter = None;
  events = sym (append-nil walk.events) ∙ sym (append-nil (walk.events ++ []));
  done = refl;
  behind = λ casts h behind. (sym (has casts h walk.events behind), behind);
  does = λ casts behind. (refl, sym (has casts (history casts walk.events) walk.events behind));
}
tries_await c k walk false has = record {
  same = refl;
  needs = λ casts h behind some. let bad : true ≡ false = sym some ∙ sym (has casts h walk.events behind) in cc;
}

-- ---- a caller's next step

pub steps_are : (end : ToldEnd) (c : ℕ) {caller : ToldCaller} {steps : Vec Step} → caller_in end c ≡ Some caller → caller.steps ≡ Some steps
    → bound_of end c ≡ Some steps.items
steps_are end c {caller} {steps} there is = bound_is end c there ∙ ap (λ o. steps_in (record caller { steps = o })) is

pub no_steps : (end : ToldEnd) (c : ℕ) (walk : Parts) → bound_of end c ≡ None → Moves end (NoStep end c) walk walk false
no_steps end c walk free = moves_none end (NoStep end c) walk (λ casts told e s w steps step bound at may. let bad : Some steps ≡ None = sym bound ∙ free in cc)

count_is : (done : List ℕ) (c n : ℕ) → slice_get done c ≡ Some n → done_in done c ≡ n
count_is done c n at = rw at refl

-- what is told of its next step
one_step : (end : ToldEnd) (c n : ℕ) {steps : List Step} (done : List ℕ) {o : Option Step} → bound_of end c ≡ Some steps → slice_get done c ≡ Some n →
    slice_get steps n ≡ o → {other : List Step} → bound_of end c ≡ Some other → slice_get other (done_in done c) ≡ o
one_step end c n {steps} done bound count at {other} is =
    let both : Some steps ≡ Some other = sym bound ∙ is in let same : steps ≡ other = cc in
    ap (slice_get other) (count_is done c n count) ∙ ap (λ l. slice_get l n) (sym same) ∙ at

pub last_step : (end : ToldEnd) (c n : ℕ) {steps : List Step} (walk : Parts) → bound_of end c ≡ Some steps → slice_get walk.done c ≡ Some n →
    slice_get steps n ≡ None → Moves end (NoStep end c) walk walk false
last_step end c n {steps} walk bound count none = moves_none end (NoStep end c) walk
    (λ casts told e s w other step is at may. let bad : Some step ≡ None = sym at ∙ one_step end c n walk.done bound count none is in cc)

pub step_waits : (end : ToldEnd) (c n : ℕ) {steps : List Step} {step : Step} (old new : Parts) → bound_of end c ≡ Some steps → slice_get old.done c ≡ Some n →
    slice_get steps n ≡ Some step → NeedsMore c step old new → Moves end (NoStep end c) old new false
step_waits end c n {steps} {step} old new bound count at waits = moves_refused end (NoStep end c) waits.same
    (λ casts told e s w other next is there may. let both : Some next ≡ Some step = sym there ∙ one_step end c n old.done bound count at is in
    let same : next ≡ step = cc in waits.needs casts (history casts old.events) s.behind (subst (λ one. MayTake c one (history casts old.events)) same may))

pub step_taken : (end : ToldEnd) (c : ℕ) {slot : ℕ} (n : ℕ) {steps : List Step} {step : Step} (old new : Parts) → slot ≡ c → bound_of end c ≡ Some steps
    → slice_get old.done c ≡ Some n
    → slice_get steps n ≡ Some step → DoesStep c step old new → Moves end (NoStep end c) old (record new { done = slice_set new.done slot (n + 1) }) true
step_taken end c {slot} n {steps} {step} old new is bound count at does = moves_yes end (NoStep end c) old next (record {
  stands = λ casts s. record {
    behind = behind_here (does.behind casts (history casts old.events) s.behind).1;
    paced = subst (λ l. IsPaced casts (bound_of end) (done_in next.done) l) (sym does.events)
        (subst (λ d. IsPaced casts (bound_of end) d ((old.events ++ does.own) ++ bring does.letter)) more
        (paced_letter does.letter (Steps (done_in old.done) old.events does.own c steps step bound there (does.does casts s.behind) s.paced)));
  };
  walks = λ casts told e s w.
      let h = history casts old.events in let so = does.behind casts h s.behind in
      walking_to end next more so.1.is
      (stepped casts (bound_of end) told e.some (done_in old.done) h w.eager c steps step bound there so.0) (kills_move (bound_of end) told h c step w.asked);
})
  where
    next : Parts
    next = record new { done = slice_set new.done slot (n + 1) }

    there : slice_get steps (done_in old.done c) ≡ Some step
    there = one_step end c n old.done bound count at bound

    more : one_step_more c (done_in old.done) ≡ done_in next.done
    more = done_more c slot n old.done is count ∙ ap (λ l. done_in (slice_set l slot (n + 1))) (sym does.done)
