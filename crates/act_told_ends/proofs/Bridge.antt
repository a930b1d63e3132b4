-- Events that end as is told are a play of plans: of the steps that bind a caller, or of what it did.
use Rattle.act_told_ends.proofs.Common.{◌≡◌, ℕ, Bool, true, false, cond, List, [], ◌∷◌, ◌++◌, map, Option, Some, None, inl, refl, ap, sym, ◌∙◌, subst}
use Rattle.act_told_ends.proofs.Common.{append_assoc, ◌==◌, eqb-true, append-nil, filter_map, cons_option, All-cons, Event, Step, Submit, Copy, Release, Kill}
use Rattle.act_told_ends.proofs.Common.{ActorSpec, history, outcomes, At, next_step, IsPlay, is_step_by, DoesStepBy, DoesStepsBy, All, IsOk, opening}
use Rattle.act_told_ends.proofs.Common.{KeepsToPlans, is_retired, list_play, none_others, Told, Leaves, EndsAsTold, told_of}
use Rattle.act_rules.specs.declared.event.Event.TheVariants as event

-- which step of the caller's the event is
abbrev step_in : ℕ → Event → Option Step
step_in c (event.Submit d a method args) = cond (d == c) (Some (Submit a method args)) None
step_in c (event.Copy d a) = cond (d == c) (Some (Copy a)) None
step_in c (event.Release d a) = cond (d == c) (Some (Release a)) None
step_in c (event.AskKill d a) = cond (d == c) (Some (Kill a)) None
step_in c other = None

-- what it does
abbrev Does : List ActorSpec → ℕ → Event → List Event → Option Step → Type 0
Does casts c other before None = is_step_by c other ≡ false
Does casts c other before (Some step) = DoesStepBy casts c step before (other ∷ [])

of_whom : (c d : ℕ) (P : Option Step → Type 0) (s : Step) → (((d == c) ≡ false) → P None) → (d ≡ c → P (Some s)) → P (cond (d == c) (Some s) None)
of_whom c d P s others mine = go (d == c) refl
  where
    go : (x : Bool) → (d == c) ≡ x → P (cond x (Some s) None)
    go true e = mine (eqb-true d c e)
    go false e = others e

does_one : (casts : List ActorSpec) (c : ℕ) (other : Event) (before : List Event) → Does casts c other before (step_in c other)
does_one casts c (event.Submit d a method args) before = of_whom c d (Does casts c (event.Submit d a method args) before)
    (Submit a method args) (λ none. none) (λ same. ap (λ x. event.Submit x a method args ∷ []) same)
does_one casts c (event.Copy d a) before = of_whom c d (Does casts c (event.Copy d a) before) (Copy a) (λ none. none)
    (λ same. ap (λ x. event.Copy x a ∷ []) same)
does_one casts c (event.Release d a) before = of_whom c d (Does casts c (event.Release d a) before) (Release a) (λ none. none)
    (λ same. ap (λ x. event.Release x a ∷ []) same)
does_one casts c (event.AskKill d a) before = of_whom c d (Does casts c (event.AskKill d a) before) (Kill a) (λ none. none)
    (λ same. inl (ap (λ x. event.AskKill x a ∷ []) same))
does_one casts c other before = refl

-- an event that is none of the caller's steps comes first
comes_first : (casts : List ActorSpec) (c : ℕ) (steps : List Step) (before : List Event) (other : Event) (events : List Event) → is_step_by c other ≡ false
    → DoesStepsBy casts c steps (before ++ other ∷ []) events → DoesStepsBy casts c steps before (other ∷ events)
comes_first casts c [] before other events none does = All-cons (λ o. is_step_by c o ≡ false) other events none does
comes_first casts c (step ∷ steps) before other events none (first, done, later, split, others, does, rest) =
    let joined : (before ++ other ∷ []) ++ first ≡ before ++ other ∷ first = append_assoc before (other ∷ []) first in (
      other ∷ first,
      done,
      later,
      ap (λ l. other ∷ l) split,
      All-cons (λ o. is_step_by c o ≡ false) other first none others,
      subst (λ l. DoesStepBy casts c step l done) joined does,
      subst (λ l. DoesStepsBy casts c steps (l ++ done) later) joined rest,
    )

does_own : (casts : List ActorSpec) (c : ℕ) (before events : List Event) → DoesStepsBy casts c (filter_map (step_in c) events) before events
does_own casts c before [] = none_others c
does_own casts c before (other ∷ events) = go (step_in c other) (does_one casts c other (before ++ [])) (does_own casts c (before ++ other ∷ []) events)
  where
    go : (o : Option Step) → Does casts c other (before ++ []) o → DoesStepsBy casts c (filter_map (step_in c) events) (before ++ other ∷ []) events
        → DoesStepsBy casts c (cons_option o (filter_map (step_in c) events)) before (other ∷ events)
    go None none rest = comes_first casts c (filter_map (step_in c) events) before other events none rest
    go (Some step) does rest = (
      [],
      other ∷ [],
      events,
      refl,
      none_others c,
      does,
      subst (λ l. DoesStepsBy casts c (filter_map (step_in c) events) (l ++ other ∷ []) events) (sym (append-nil before)) rest,
    )

-- ---- the play

abbrev plan_or : Option (List Step) → List Step → List Step
plan_or None steps = steps
plan_or (Some steps) other = steps

abbrev plans_of : (ℕ → Option (List Step)) → List Event → ℕ → List Step
plans_of bound events c = plan_or (bound c) (filter_map (step_in c) events)

-- a play of plans that leaves what is told
pub record IsLate (casts : List ActorSpec) (bound : ℕ → Option (List Step)) (told : Told) (plans : ℕ → List Step) (late : At) : Type 0 where
  pub play : IsPlay casts plans late
  pub leaves : Leaves told late.history
  pub retired : (a : ℕ) → is_retired a late.history ≡ told.retired a
  pub own : (c : ℕ) (steps : List Step) → bound c ≡ Some steps → plans c ≡ steps
  pub done : (c : ℕ) → next_step plans c late ≡ None

keeps : (casts : List ActorSpec) (bound : ℕ → Option (List Step)) (told : Told) (events : List Event) → EndsAsTold casts bound told events
    → KeepsToPlans casts (plans_of bound events) events
keeps casts bound told events ends c = go (bound c) refl
  where
    own_steps : List Step
    own_steps = filter_map (step_in c) events

    go : (o : Option (List Step)) → bound c ≡ o → (closing : List ℕ) × DoesStepsBy casts c (plan_or o own_steps ++ map (λ a. Release a) closing) [] events
    go None e = ([], subst (λ l. DoesStepsBy casts c l [] events) (sym (append-nil own_steps)) (does_own casts c [] events))
    go (Some steps) e = ends.does c steps e

pub late_found : (casts : List ActorSpec) (bound : ℕ → Option (List Step)) (told : Told) {events : List Event} → EndsAsTold casts bound told events
    → (plans : ℕ → List Step) × (late : At) × IsLate casts bound told plans late × (late.history ≡ history casts events)
late_found casts bound told {events} ends =
    let played = list_play casts (plans_of bound events) events ends.accepted (keeps casts bound told events ends) in (
      plans_of bound events,
      played.0,
      record {
        play = played.1;
        leaves = subst (λ h. Leaves told h) (sym played.2) ends.leaves;
        retired = λ a. ap (is_retired a) played.2 ∙ ends.retired a;
        own = λ c steps e. ap (λ o. plan_or o (filter_map (step_in c) events)) e;
        done = played.3;
      },
      played.2,
    )

-- where some events end as is told, so does a play of plans, each plan done; a bound caller's plan is its steps
pub late_play : {casts : List ActorSpec} {bound : ℕ → Option (List Step)} {told : Told} {events : List Event} → EndsAsTold casts bound told events
    → (plans : ℕ → List Step) × (late : At) × IsLate casts bound told plans late
late_play {casts} {bound} {told} {events} ends = let found = late_found casts bound told ends in (found.0, found.1, found.2)

-- any accepted events are a play of what each caller did
pub free_play : (casts : List ActorSpec) (events : List Event) → All IsOk (outcomes (opening casts) events)
    → (plans : ℕ → List Step) × (at : At) × IsPlay casts plans at × (at.history ≡ history casts events)
free_play casts events accepted =
    let plans : ℕ → List Step = λ c. filter_map (step_in c) events in
    let played = list_play casts plans events accepted
    (λ c. ([], subst (λ l. DoesStepsBy casts c l [] events) (sym (append-nil (filter_map (step_in c) events))) (does_own casts c [] events))) in
    (plans, played.0, played.1, played.2)

-- what events leave is told of them
pub end_told : (casts : List ActorSpec) (events : List Event) → All IsOk (outcomes (opening casts) events)
    → EndsAsTold casts (λ c. None) (told_of (history casts events)) events
end_told casts events accepted = record {
  accepted = accepted;
  leaves = record { calls = λ c. refl; kept = λ c. refl; runs = λ a. refl; dead = λ a. refl };
  retired = λ a. refl;
  does = λ c steps is. let bad : None ≡ Some steps = is in cc;
}
