-- A caller that keeps to its steps does them as a plan.
use Rattle.act_walks.proofs.Common.{◌≡◌, ℕ, ◌+◌, ◌<◌, ◌≤◌, ◌==◌, Bool, true, false, List, [], ◌∷◌, ◌++◌, length, map, take, slice_get, Option, Some, None, inl}
use Rattle.act_walks.proofs.Common.{inr, refl, sym, ap, ◌∙◌, subst, append_assoc, arith, if◌then◌else◌, All, eqb-true, append-nil, map-append, take_all}
use Rattle.act_walks.proofs.Common.{All-append, All-cons, All-head, All-nil, All-tail, slice_get_within, Event, Step, ActorSpec, one_step_more, step_of}
use Rattle.act_walks.proofs.Common.{DoesStepIn, DoesPlanIn, IsPaced, Starts, Steps, Others, Closes, AreAllDone, DoesAllItsSteps, is_restful, OnlyRests}
use Rattle.act_rules.specs.declared.event.Event.TheVariants as event
use Rattle.act_rules.specs.declared.script.Step.TheVariants as step
use Rattle.act_early.proofs.Counting.{take-at}

module _ (casts : List ActorSpec) (c : ℕ) where
  abbrev IsStrange : Event → Type 0
  IsStrange event = step_of c event ≡ None

  -- one event more that is none of the caller's steps
  pub goes_by : (plan : List Step) (before events : List Event) (event : Event) → step_of c event ≡ None → DoesPlanIn casts c plan before events
      → DoesPlanIn casts c plan before (events ++ event ∷ [])
  goes_by [] before events event strange does = All-append IsStrange events (event ∷ []) does (All-cons IsStrange event [] strange (All-nil IsStrange))
  goes_by (step ∷ plan) before events event strange (first, done, later, is, mean, does, rest) = (
    first,
    done,
    later ++ event ∷ [],
    ap (λ l. l ++ event ∷ []) is ∙ append_assoc (first ++ done) later (event ∷ []),
    mean,
    does,
    goes_by plan (before ++ first ++ done) later event strange rest,
  )

  -- one step more
  pub goes_on : (plan : List Step) (before events : List Event) (step : Step) (done : List Event) → DoesPlanIn casts c plan before events →
      DoesStepIn casts c step (before ++ events) done → DoesPlanIn casts c (plan ++ step ∷ []) before (events ++ done)
  goes_on [] before events step done mean does = (events, done, [], sym (append-nil (events ++ done)), mean, does, All-nil IsStrange)
  goes_on (one ∷ plan) before events step done (first, mid, later, is, mean, one_does, rest) does = (
    first,
    mid,
    later ++ done,
    ap (λ l. l ++ done) is ∙ append_assoc (first ++ mid) later done,
    mean,
    one_does,
    goes_on plan (before ++ first ++ mid) later step done rest (subst (λ l. DoesStepIn casts c step l done)
        (ap (λ l. before ++ l) is ∙ sym (append_assoc before (first ++ mid) later) ∙ ap (λ l. l ++ later) (sym (append_assoc before first mid))) does),
  )

  -- one step more of another caller
  one_by : (plan : List Step) (d : ℕ) (step : Step) {event : Event} (events : List Event) {now : List Event} → (d == c) ≡ false →
      step_of c event ≡ (if d == c then Some step else None) → now ≡ event ∷ [] → DoesPlanIn casts c plan [] events → DoesPlanIn casts c plan [] (events ++ now)
  one_by plan d step {event} events other is now_is does =
      subst (λ l. DoesPlanIn casts c plan [] (events ++ l)) (sym now_is)
      (goes_by plan [] events event (is ∙ ap (λ b. if b then Some step else None) other) does)

  none_by : (plan : List Step) (events : List Event) {now : List Event} → now ≡ [] → DoesPlanIn casts c plan [] events →
      DoesPlanIn casts c plan [] (events ++ now)
  none_by plan events is does = subst (DoesPlanIn casts c plan []) (sym (append-nil events) ∙ ap (λ l. events ++ l) (sym is)) does

  goes_past : (plan : List Step) (d : ℕ) (step : Step) (events now : List Event) → (d == c) ≡ false → DoesStepIn casts d step events now →
      DoesPlanIn casts c plan [] events → DoesPlanIn casts c plan [] (events ++ now)
  goes_past plan d (step.Submit a method args) events now other is does = one_by plan d (step.Submit a method args) events other refl is does
  goes_past plan d (step.Copy a) events now other is does = one_by plan d (step.Copy a) events other refl is does
  goes_past plan d (step.Release a) events now other is does = one_by plan d (step.Release a) events other refl is does
  goes_past plan d (step.Kill a) events now other (inl is) does = one_by plan d (step.Kill a) events other refl is does
  goes_past plan d (step.Kill a) events now other (inr (is, dead)) does = none_by plan events is does
  goes_past plan d (step.Await k) events now other (is, kept) does = none_by plan events is does

-- the caller did so many of its steps, and then, where none is left, let some handles go
record DidSteps (casts : List ActorSpec) (c : ℕ) (steps : List Step) (count : ℕ) (events : List Event) : Type 0 where
  pub closing : List ℕ
  pub does : DoesPlanIn casts c (take count steps ++ map (λ a. step.Release a) closing) [] events
  pub last : count < length steps → closing ≡ []

module _ (casts : List ActorSpec) (c : ℕ) (steps : List Step) where
  abbrev plan_at : ℕ → List ℕ → List Step
  plan_at count closing = take count steps ++ map (λ a. step.Release a) closing

  -- its own next step
  one_more : (count : ℕ) (events now : List Event) (next : Step) → slice_get steps count ≡ Some next → DoesStepIn casts c next events now →
      DidSteps casts c steps count events → DidSteps casts c steps (count + 1) (events ++ now)
  one_more count events now next is does so_far =
      let none = so_far.last (slice_get_within steps count next is) in
      let was : DoesPlanIn casts c (take count steps) [] events = subst (λ plan. DoesPlanIn casts c plan [] events)
      (ap (plan_at count) none ∙ append-nil (take count steps)) so_far.does in
      record {
        closing = [];
        does = subst (λ plan. DoesPlanIn casts c plan [] (events ++ now)) (sym (take-at steps count is) ∙ sym (append-nil (take (count + 1) steps)))
            (goes_on casts c (take count steps) [] events next now was does);
        last = λ _. refl;
      }

  -- a step of another caller
  past : (count d : ℕ) (events now : List Event) (next : Step) → (d == c) ≡ false → DoesStepIn casts d next events now → DidSteps casts c steps count events
      → DidSteps casts c steps count (events ++ now)
  past count d events now next other does so_far = record {
    closing = so_far.closing;
    does = goes_past casts c (plan_at count so_far.closing) d next events now other does so_far.does;
    last = so_far.last;
  }

  -- an event that is none of its steps
  by : (count : ℕ) (events : List Event) (other : Event) → step_of c other ≡ None → DidSteps casts c steps count events
      → DidSteps casts c steps count (events ++ other ∷ [])
  by count events other strange so_far = record {
    closing = so_far.closing;
    does = goes_by casts c (plan_at count so_far.closing) [] events other strange so_far.does;
    last = so_far.last;
  }

  -- a handle that it lets go
  closes : (count a : ℕ) (events : List Event) → count ≡ length steps → DidSteps casts c steps count events
      → DidSteps casts c steps count (events ++ event.Release c a ∷ [])
  closes count a events all so_far =
      let back = map (λ a. step.Release a) so_far.closing in
      record {
        closing = so_far.closing ++ a ∷ [];
        does = subst (λ plan. DoesPlanIn casts c plan [] (events ++ event.Release c a ∷ [])) (append_assoc (take count steps) back (step.Release a ∷ []) ∙
            ap (λ l. take count steps ++ l) (sym (map-append (λ a. step.Release a) so_far.closing (a ∷ []))))
            (goes_on casts c (plan_at count so_far.closing) [] events (step.Release a) (event.Release c a ∷ []) so_far.does refl);
        last = λ below. absurd (omega arith);
      }

module _ (casts : List ActorSpec) (bound : ℕ → Option (List Step)) (c : ℕ) (steps : List Step) (is : bound c ≡ Some steps) where
  same_steps : (d : ℕ) {others : List Step} → (d == c) ≡ true → bound d ≡ Some others → others ≡ steps
  same_steps d {others} same theirs = let here : d ≡ c = eqb-true d c same in let e : Some others ≡ Some steps = sym theirs ∙ ap bound here ∙ is in cc

  -- a step of a bound caller
  step_more : (done : ℕ → ℕ) (events now : List Event) (d : ℕ) (others : List Step) (next : Step) → bound d ≡ Some others → slice_get others (done d) ≡
      Some next → DoesStepIn casts d next events now → DidSteps casts c steps (done c) events → DidSteps casts c steps (one_step_more d done c) (events ++ now)
  step_more done events now d others next theirs at does so_far = go (d == c) refl
    where
      go : (b : Bool) → (d == c) ≡ b → DidSteps casts c steps (if d == c then done c + 1 else done c) (events ++ now)
      go true same =
          let here : d ≡ c = eqb-true d c same in let list : others ≡ steps = same_steps d same theirs in
          let place : slice_get steps (done c) ≡ Some next = subst (λ l. slice_get l (done c) ≡ Some next) list
          (subst (λ x. slice_get others (done x) ≡ Some next) here at) in
          let own : DoesStepIn casts c next events now = subst (λ x. DoesStepIn casts x next events now) here does in
          subst (λ b. DidSteps casts c steps (if b then done c + 1 else done c) (events ++ now)) (sym same)
          (one_more casts c steps (done c) events now next place own so_far)
      go false other = subst (λ b. DidSteps casts c steps (if b then done c + 1 else done c) (events ++ now)) (sym other)
          (past casts c steps (done c) d events now next other does so_far)

  -- a handle that a bound caller lets go
  close_more : (done : ℕ → ℕ) (events : List Event) (d a : ℕ) (others : List Step) → bound d ≡ Some others → done d ≡ length others →
      DidSteps casts c steps (done c) events → DidSteps casts c steps (done c) (events ++ event.Release d a ∷ [])
  close_more done events d a others theirs all so_far = go (d == c) refl
    where
      go : (b : Bool) → (d == c) ≡ b → DidSteps casts c steps (done c) (events ++ event.Release d a ∷ [])
      go true same =
          let here : d ≡ c = eqb-true d c same in let list : others ≡ steps = same_steps d same theirs in
          let whole : done c ≡ length steps = subst (λ l. done c ≡ length l) list (subst (λ x. done x ≡ length others) here all) in
          subst (λ x. DidSteps casts c steps (done c) (events ++ event.Release x a ∷ [])) (sym here) (closes casts c steps (done c) a events whole so_far)
      go false other = past casts c steps (done c) d events (event.Release d a ∷ []) (step.Release a) other refl so_far

  did : (done : ℕ → ℕ) (events : List Event) → IsPaced casts bound done events → DidSteps casts c steps (done c) events
  did done events Starts = record { closing = []; does = All-nil (λ event. step_of c event ≡ None); last = λ _. refl }
  did done events (Steps before earlier now d others next theirs at does paced) =
      step_more before earlier now d others next theirs at does (did before earlier paced)
  did done events (Others _ earlier other strange paced) = by casts c steps (done c) earlier other (strange c steps is) (did done earlier paced)
  did done events (Closes _ earlier d a others theirs all paced) = close_more done earlier d a others theirs all (did done earlier paced)

pub does_all_its_steps : DoesAllItsSteps
does_all_its_steps casts bound done events c steps paced is all =
    let so_far = did casts bound c steps is done events paced in
    let whole : take (done c) steps ≡ steps = take_all (done c) steps (omega arith) in
    (so_far.closing, subst (λ front. DoesPlanIn casts c (front ++ map (λ a. step.Release a) so_far.closing) [] events) whole so_far.does)

-- ---- how far they are

module _ (casts : List ActorSpec) (bound : ℕ → Option (List Step)) where
  within_more : (done : ℕ → ℕ) (d c : ℕ) (others steps : List Step) (next : Step) → bound d ≡ Some others → slice_get others (done d) ≡ Some next
      → bound c ≡ Some steps → done c ≤ length steps → one_step_more d done c ≤ length steps
  within_more done d c others steps next theirs at is before = go (d == c) refl
    where
      go : (b : Bool) → (d == c) ≡ b → (if d == c then done c + 1 else done c) ≤ length steps
      go true same =
          let here : d ≡ c = eqb-true d c same in let e : Some others ≡ Some steps = sym theirs ∙ ap bound here ∙ is in let list : others ≡ steps = cc in
          let below = slice_get_within others (done d) next at in
          let there : done c < length steps = subst (λ x. done x < length steps) here (subst (λ l. done d < length l) list below) in
          subst (λ b. (if b then done c + 1 else done c) ≤ length steps) (sym same) (omega (arith, there))
      go false other = subst (λ b. (if b then done c + 1 else done c) ≤ length steps) (sym other) before

  -- no caller did more steps than it is bound to
  pub paced_within : (done : ℕ → ℕ) (events : List Event) → IsPaced casts bound done events → (c : ℕ) {steps : List Step} → bound c ≡ Some steps
      → done c ≤ length steps
  paced_within done events Starts c is = omega arith
  paced_within done events (Steps before earlier now d others next theirs at does paced) c {steps} is =
      within_more before d c others steps next theirs at is (paced_within before earlier paced c is)
  paced_within done events (Others _ earlier other strange paced) c {steps} is = paced_within done earlier paced c is
  paced_within done events (Closes _ earlier d a others theirs all paced) c {steps} is = paced_within done earlier paced c is

  -- so where none has steps left, each did all of them
  pub all_done : (done : ℕ → ℕ) (events : List Event) → IsPaced casts bound done events
      → ((c : ℕ) (steps : List Step) → bound c ≡ Some steps → length steps ≤ done c) → AreAllDone bound done
  all_done done events paced past c steps is = let most = paced_within done events paced c is in let least = past c steps is in omega arith

-- ---- while actors retire

-- a handle that is let go once all steps are done
paced_release : (casts : List ActorSpec) (bound : ℕ → Option (List Step)) (done : ℕ → ℕ) (events : List Event) (c a : ℕ) → AreAllDone bound done →
    IsPaced casts bound done events → IsPaced casts bound done (events ++ event.Release c a ∷ [])
paced_release casts bound done events c a all paced = go (bound c) refl
  where
    go : (o : Option (List Step)) → bound c ≡ o → IsPaced casts bound done (events ++ event.Release c a ∷ [])
    go (Some steps) is = Closes done events c a steps is (all c steps is) paced
    go None free = Others done events (event.Release c a) (λ d steps is. strange d steps is (c == d) refl) paced
      where
        strange : (d : ℕ) (steps : List Step) → bound d ≡ Some steps → (b : Bool) → (c == d) ≡ b → step_of d (event.Release c a) ≡ None
        strange d steps is true same = let e : Some steps ≡ None = sym is ∙ ap bound (sym (eqb-true c d same)) ∙ free in cc
        strange d steps is false other = ap (λ b. if b then Some (step.Release a) else None) other

paced_one : {casts : List ActorSpec} {bound : ℕ → Option (List Step)} (done : ℕ → ℕ) (events : List Event) (one : Event) → AreAllDone bound done →
    is_restful one ≡ true → IsPaced casts bound done events → IsPaced casts bound done (events ++ one ∷ [])
paced_one {casts} {bound} done events (event.Release c a) all is paced = paced_release casts bound done events c a all paced
paced_one done events (event.Deliver i) all is paced = Others done events (event.Deliver i) (λ d steps is. refl) paced
paced_one done events (event.Retire a) all is paced = Others done events (event.Retire a) (λ d steps is. refl) paced
paced_one done events one all is paced = cc

paced_more : (casts : List ActorSpec) (bound : ℕ → Option (List Step)) (done : ℕ → ℕ) (events more : List Event) → AreAllDone bound done →
    All (λ event. is_restful event ≡ true) more → IsPaced casts bound done events → IsPaced casts bound done (events ++ more)
paced_more casts bound done events [] all rests paced = subst (IsPaced casts bound done) (sym (append-nil events)) paced
paced_more casts bound done events (one ∷ more) all rests paced = subst (IsPaced casts bound done) (append_assoc events (one ∷ []) more)
    (paced_more casts bound done (events ++ one ∷ []) more all (All-tail (λ event. is_restful event ≡ true) one more rests)
    (paced_one done events one all (All-head (λ event. is_restful event ≡ true) one more rests) paced))

pub paced_rests : (casts : List ActorSpec) (bound : ℕ → Option (List Step)) (done : ℕ → ℕ) {before : List Event} (later : List Event) → OnlyRests before later →
    AreAllDone bound done → IsPaced casts bound done before → IsPaced casts bound done later
paced_rests casts bound done {before} later (more, is, rests) all paced =
    subst (IsPaced casts bound done) (sym is) (paced_more casts bound done before more all rests paced)
