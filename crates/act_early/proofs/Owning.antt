-- In a list that keeps to plans, a caller's own event is its next step.
use Rattle.act_early.proofs.Common.{◌≡◌, ℕ, zero, suc, ◌+◌, true, false, cond, List, [], ◌∷◌, ◌++◌, drop, Some, None, inl, inr, refl, ap, sym, ◌∙◌, subst}
use Rattle.act_early.proofs.Common.{arith, Contains, ◌==◌, map, slice_get, is_some, eq-eqb, append-nil, Event, Step, Release, Kill, Await, kept_at, occurrences}
use Rattle.act_early.proofs.Common.{ActorSpec, History, kept_of, history, refusal_of, add_event, after_by, At, steps_of, next_step, after_step, MayTake, taken}
use Rattle.act_early.proofs.Common.{skipped, with_event, IsPlay, Takes, Skips, Closes, is_step_by, AreOthers, DoesStepsBy, DeathPost, history_more}
use Rattle.act_rules.specs.declared.event.Event.TheVariants as event
use Rattle.act_early.proofs.Counting.{occurrences-push}
use Rattle.act_early.proofs.Deaths.{collected_death}
use Rattle.act_early.proofs.Shifting.{head_same, tail_same, others_first}
use Rattle.act_early.proofs.Worlds.{event_of}

-- ---- what is left of a plan

pub drop_next : {A : Type 0} (xs : List A) (n : ℕ) {x : A} {ys : List A} → x ∷ ys ≡ drop n xs → (slice_get xs n ≡ Some x) × (ys ≡ drop (suc n) xs)
drop_next [] zero e = cc
drop_next [] (suc n) e = cc
drop_next {A = A} (z ∷ xs) zero {x} {ys} e = (ap (λ w. Some w) (sym (head_same x z ys xs e)), tail_same x z ys xs e)
drop_next (z ∷ xs) (suc n) {x} {ys} e = drop_next xs n e

pub drop_none : {A : Type 0} (xs : List A) (n : ℕ) → [] ≡ drop n xs → slice_get xs n ≡ None
drop_none [] zero e = refl
drop_none [] (suc n) e = refl
drop_none (z ∷ xs) zero e = cc
drop_none (z ∷ xs) (suc n) e = drop_none xs n e

abbrev pub closings : List ℕ → List Step
closings closing = map (λ a. Release a) closing

-- what the caller still does
pub record Left (specs : List ActorSpec) (plans : ℕ → List Step) (before later : List Event) (at : At) (c : ℕ) : Type 0 where
  pub steps : List Step
  pub closing : List ℕ
  pub is : steps ≡ drop (steps_of c at) (plans c)
  pub does : DoesStepsBy specs c (steps ++ closings closing) before later

-- the caller is one step further, and others are where they were
pub record IsOneFurther (c : ℕ) (p q : At) : Type 0 where
  pub own : steps_of c q ≡ suc (steps_of c p)
  pub others : (d : ℕ) → (c == d) ≡ false → steps_of d q ≡ steps_of d p

pub further : (c : ℕ) (p q : At) → q.stepped ≡ p.stepped ++ c ∷ [] → IsOneFurther c p q
further c p q e = record {
  own = ap (λ l. occurrences c l) e ∙ occurrences-push c c p.stepped ∙ ap (λ b. steps_of c p + cond b 1 0) (eq-eqb c c refl) ∙ omega arith;
  others = λ d differ. ap (λ l. occurrences d l) e ∙ occurrences-push d c p.stepped ∙ ap (λ b. steps_of d p + cond b 1 0) differ ∙ omega arith;
}

pub next_is : (plans : ℕ → List Step) (c : ℕ) (p : At) {step : Step} {steps : List Step} → step ∷ steps ≡ drop (steps_of c p) (plans c)
    → next_step plans c p ≡ Some step
next_is plans c p {step} {steps} e = (drop_next (plans c) (steps_of c p) e).0

pub rest_is : (plans : ℕ → List Step) (c : ℕ) (p : At) {q : At} {step : Step} {steps : List Step} → IsOneFurther c p q
    → step ∷ steps ≡ drop (steps_of c p) (plans c) → steps ≡ drop (steps_of c q) (plans c)
rest_is plans c p {step} {steps} one e = (drop_next (plans c) (steps_of c p) e).1 ∙ ap (λ n. drop n (plans c)) (sym one.own)

-- ---- a step that no event does

-- an await, or a kill that is left out
pub record IsSilent (specs : List ActorSpec) (plans : ℕ → List Step) (c : ℕ) (p q : At) : Type 0 where
  pub play : IsPlay specs plans q
  pub same : q.history ≡ p.history
  pub one : IsOneFurther c p q

pub awaits : (specs : List ActorSpec) (plans : ℕ → List Step) (c k : ℕ) (before : List Event) (p : At) → IsPlay specs plans p
    → p.history ≡ history specs before → next_step plans c p ≡ Some (Await k) → is_some (kept_at (kept_of c (history specs before)) k) ≡ true
    → IsSilent specs plans c p (taken c (Await k) p)
awaits specs plans c k before p play is next kept = record {
  play = Takes p c (Await k) play next (ap (λ h. is_some (kept_at (kept_of c h) k)) is ∙ kept);
  same = refl;
  one = further c p (taken c (Await k) p) refl;
}

pub leaves_out : (specs : List ActorSpec) (plans : ℕ → List Step) (c a : ℕ) (before : List Event) (p : At) → IsPlay specs plans p → p.history ≡ history specs
    before → next_step plans c p ≡ Some (Kill a) → Contains (history specs before).collected (DeathPost c a) → IsSilent specs plans c p (skipped c p)
leaves_out specs plans c a before p play is next has =
    let dead = collected_death specs plans p c a play (subst (λ (h : History). Contains h.collected (DeathPost c a)) (sym is) has) in
    record { play = Skips p c a play next dead.0 dead.1; same = refl; one = further c p (skipped c p) refl }

-- ---- the caller's own event

-- the event is done, and others are where they were
pub record IsOwn (specs : List ActorSpec) (plans : ℕ → List Step) (c : ℕ) (before : List Event) (other : Event) (events : List Event) (p q : At) : Type 0 where
  pub play : IsPlay specs plans q
  pub left : q.history ≡ history specs (before ++ other ∷ [])
  pub own : Left specs plans (before ++ other ∷ []) events q c
  pub others : (d : ℕ) → (c == d) ≡ false → steps_of d q ≡ steps_of d p

pub after_one : (specs : List ActorSpec) (before : List Event) (other : Event) {h : History} → h ≡ history specs before
    → refusal_of (history specs before) other ≡ None → add_event h other ≡ history specs (before ++ other ∷ [])
after_one specs before other is may = ap (λ g. add_event g other) is ∙ sym (history_more specs before other ∙ ap (after_by (history specs before) other) may)

-- what stands behind it
behind : (specs : List ActorSpec) (c : ℕ) (steps : List Step) (before done later : List Event) (other : Event) (events : List Event) → other ∷ events ≡
    done ++ later → done ≡ other ∷ [] → DoesStepsBy specs c steps ((before ++ []) ++ done) later → DoesStepsBy specs c steps (before ++ other ∷ []) events
behind specs c steps before done later other events is one does =
    let rest : events ≡ later = tail_same other other events later (is ∙ ap (λ l. l ++ later) one) in
    subst (λ l. DoesStepsBy specs c steps (before ++ other ∷ []) l) (sym rest)
    (subst (λ l. DoesStepsBy specs c steps l later) (ap (λ l. l ++ done) (append-nil before) ∙ ap (λ l. before ++ l) one) does)

-- by the event that does it the step is known
own_of : (other : Event) {own : Event} {events done : List Event} (later : List Event) → other ∷ events ≡ done ++ later → done ≡ own ∷ [] → other ≡ own
own_of other {own} {events} later is one = head_same other own events later (is ∙ ap (λ l. l ++ later) one)

-- a step by its event
takes_one : (specs : List ActorSpec) (plans : ℕ → List Step) (c : ℕ) {step : Step} (steps : List Step) (closing : List ℕ) (before done later : List Event)
    (other : Event) {events : List Event} (p : At) → IsPlay specs plans p → p.history ≡ history specs before → step ∷ steps ≡ drop (steps_of c p) (plans c) →
    ((h : History) → refusal_of h (event_of c step) ≡ None → MayTake c step h) → ((h : History) → add_event h (event_of c step) ≡ after_step c step h) →
    refusal_of (history specs before) other ≡ None → other ∷ events ≡ done ++ later → done ≡ event_of c step ∷ [] →
    DoesStepsBy specs c (steps ++ closings closing) ((before ++ []) ++ done) later → (q : At) × IsOwn specs plans c before other events p q
takes_one specs plans c {step} steps closing before done later other {events} p play is left may adds accepted split one does =
    let q = taken c step p in let more = further c p q refl in let same = own_of other later split one in
    let taken_now : refusal_of p.history (event_of c step) ≡ None = rw (is, ← same) accepted in (
      q,
      record {
        play = Takes p c step play (next_is plans c p left) (may p.history taken_now);
        left = sym (ap (add_event p.history) same ∙ adds p.history) ∙ after_one specs before other is accepted;
        own = record {
          steps = steps;
          closing = closing;
          is = rest_is plans c p more left;
          does = behind specs c (steps ++ closings closing) before done later other events split (one ∙ ap (λ x. x ∷ []) (sym same)) does;
        };
        others = more.others;
      },
    )

closes_one : (specs : List ActorSpec) (plans : ℕ → List Step) (c a : ℕ) (closing : List ℕ) (before done later : List Event) (other : Event)
    (events : List Event) (p : At) → IsPlay specs plans p → p.history ≡ history specs before → [] ≡ drop (steps_of c p) (plans c) → other ≡ event.Release c a →
    refusal_of (history specs before) other ≡ None → other ∷ events ≡ done ++ later → done ≡ other ∷ [] →
    DoesStepsBy specs c (closings closing) ((before ++ []) ++ done) later → (q : At) × IsOwn specs plans c before other events p q
closes_one specs plans c a closing before done later other events p play is none own accepted split one does = (
  with_event (event.Release c a) p,
  record {
    play = Closes p c a play (drop_none (plans c) (steps_of c p) none)
        (ap (λ h. refusal_of h (event.Release c a)) is ∙ ap (refusal_of (history specs before)) (sym own) ∙ accepted);
    left = ap (add_event p.history) (sym own) ∙ after_one specs before other is accepted;
    own = record { steps = []; closing = closing; is = none; does = behind specs c (closings closing) before done later other events split one does };
    others = λ d differ. refl;
  },
)

none_first : (specs : List ActorSpec) (plans : ℕ → List Step) (c : ℕ) (before : List Event) (p : At) (x other : Event) (first done later : List Event)
    {events : List Event} → other ∷ events ≡ (x ∷ first) ++ done ++ later → AreOthers c (x ∷ first) → is_step_by c other ≡ true →
    (q : At) × IsOwn specs plans c before other events p q
none_first specs plans c before p x other first done later is others own =
    let same : other ≡ x = head_same _ _ _ _ is in
    let bad : true ≡ false = sym own ∙ ap (is_step_by c) same ∙ others_first c x first others in cc

-- what stands behind a step that no event does
quiet_rest : (specs : List ActorSpec) (c : ℕ) (steps : List Step) (before : List Event) {done : List Event} (later : List Event) {other : Event}
    {events : List Event} → other ∷ events ≡ done ++ later → done ≡ [] → DoesStepsBy specs c steps ((before ++ []) ++ done) later →
    DoesStepsBy specs c steps before (other ∷ events)
quiet_rest specs c steps before later is none does =
    subst (λ l. DoesStepsBy specs c steps before l) (sym (is ∙ ap (λ l. l ++ later) none))
    (subst (λ l. DoesStepsBy specs c steps l later) (ap (λ l. (before ++ []) ++ l) none ∙ append-nil (before ++ []) ∙ append-nil before) does)

pub does_own : (specs : List ActorSpec) (plans : ℕ → List Step) (c : ℕ) (before : List Event) (other : Event) (events : List Event) →
    is_step_by c other ≡ true → refusal_of (history specs before) other ≡ None → (steps : List Step) (closing : List ℕ) (p : At) → IsPlay specs plans p →
    p.history ≡ history specs before → steps ≡ drop (steps_of c p) (plans c) → DoesStepsBy specs c (steps ++ closings closing) before (other ∷ events) →
    (q : At) × IsOwn specs plans c before other events p q
does_own specs plans c before other events own accepted [] [] p play is left does = let bad : true ≡ false = sym own ∙ others_first c other events does in cc
does_own specs plans c before other events own accepted [] (a ∷ closing) p play is left (x ∷ first, done, later, split, others, does, rest) =
    none_first specs plans c before p x other first done later split others own
does_own specs plans c before other events own accepted [] (a ∷ closing) p play is left ([], done, later, split, others, does, rest) =
    let same = own_of other later split does in
    closes_one specs plans c a closing before done later other events p play is left same accepted split (does ∙ ap (λ x. x ∷ []) (sym same)) rest
does_own specs plans c before other events own accepted (step ∷ steps) closing p play is left (x ∷ first, done, later, split, others, does, rest) =
    none_first specs plans c before p x other first done later split others own
does_own specs plans c before other events own accepted (Kill a ∷ steps) closing p play is left ([], done, later, split, others, inl asked, rest) =
    takes_one specs plans c steps closing before done later other p play is left (λ h may. may) (λ h. refl) accepted split asked rest
does_own specs plans c before other events own accepted (Kill a ∷ steps) closing p play is left ([], done, later, split, others, inr dead, rest) =
    let silent = leaves_out specs plans c a before p play is (next_is plans c p left)
    (subst (λ l. Contains (history specs l).collected (DeathPost c a)) (append-nil before) dead.1) in
    let next = does_own specs plans c before other events own accepted steps closing (skipped c p) silent.play (silent.same ∙ is)
    (rest_is plans c p silent.one left)
    (quiet_rest specs c (steps ++ closings closing) before later split dead.0 rest) in
    (next.0, record { play = next.1.play; left = next.1.left; own = next.1.own; others = λ d differ. next.1.others d differ ∙ silent.one.others d differ })
does_own specs plans c before other events own accepted (Await k ∷ steps) closing p play is left ([], done, later, split, others, does, rest) =
    let silent = awaits specs plans c k before p play is (next_is plans c p left)
    (ap (λ l. is_some (kept_at (kept_of c (history specs l)) k)) (sym (append-nil before)) ∙ does.1) in
    let next = does_own specs plans c before other events own accepted steps closing (taken c (Await k) p) silent.play (silent.same ∙ is)
    (rest_is plans c p silent.one left)
    (quiet_rest specs c (steps ++ closings closing) before later split does.0 rest) in
    (next.0, record { play = next.1.play; left = next.1.left; own = next.1.own; others = λ d differ. next.1.others d differ ∙ silent.one.others d differ })
does_own specs plans c before other events own accepted (step ∷ steps) closing p play is left ([], done, later, split, others, does, rest) =
    takes_one specs plans c steps closing before done later other p play is left (λ h may. may) (λ h. refl) accepted split does rest
