-- One step or event of the play: the walk did it, too, or may go on.
use Rattle.act_told_ends.proofs.Common.{◌≡◌, ℕ, zero, suc, ◌+◌, ◌<◌, ◌≤◌, Bool, true, false, cond, List, [], ◌∷◌, ◌++◌, length, Option, Some, None, inl, inr}
use Rattle.act_told_ends.proofs.Common.{◌⊎◌, refl, ap, sym, ◌∙◌, subst, arith, Contains, ◌==◌, ◌||◌, slice_get, filter_map, cases_lt, append-nil, eqb-true}
use Rattle.act_told_ends.proofs.Common.{eq-eqb, RunItem, Submission, Step, Submit, Kill, History, under, contains, calls_of, runs_of, is_dead, next_item}
use Rattle.act_told_ends.proofs.Common.{has_terminated, refusal_of, add_event, after_run, IsPrefix, slice_get_front, slice_get_last, under-push, length_push}
use Rattle.act_told_ends.proofs.Common.{At, steps_of, next_step, taken, skipped, with_event, after_step, MayTake, is_kill_of, Post, ReplyPost, DeathPost}
use Rattle.act_told_ends.proofs.Common.{occurrences-push, step_runs, step_kills, submission_in, submitted_one, contains_push, either_of, or_right, DoesWithout}
use Rattle.act_told_ends.proofs.Common.{place_in, stands_in, front_whole}
use Rattle.act_rules.specs.declared.event.Event.TheVariants as event
use Rattle.act_told_ends.proofs.Later.{IsLater}
use Rattle.act_told_ends.proofs.Covered.{IsCovered, runs_covered, dead_covered}
use Rattle.act_told_ends.proofs.Going.{Case, Here, Goal, run_goes, kill_goes, submits, asks, steps_on, kill_asked}
use Rattle.std.proofs.Math.Bool.{or-false}

-- the walk did all that the play did so far, or may go on
abbrev pub Near : Case → At → Type 0
Near x q = IsCovered x.bound x.told x.done q x.g ⊎ Goal x

-- ---- a step

pub step_collects : (c : ℕ) (step : Step) (h : History) → (after_step c step h).collected ≡ h.collected
step_collects c (Submit a method args) h = refl
step_collects c step h = refl

pub step_asks : (c a : ℕ) (step : Step) (h : History) → contains a (after_step c step h).asked ≡ (contains a h.asked || is_kill_of a step)
step_asks c a (Kill b) h = contains_push a b h.asked
step_asks c a step h = sym (or-false (contains a h.asked))

-- what makes a step one that the walk did
record DidStep (x : Case) (p : At) (c : ℕ) (step : Step) : Type 0 where
  further : (steps : List Step) → x.bound c ≡ Some steps → steps_of c p + 1 ≤ x.done c
  calls : x.bound c ≡ None → length (calls_of c (after_step c step p.history)) ≤ length (calls_of c x.g)
  asks : (a : ℕ) → is_kill_of a step ≡ true → x.told.dead a ≡ true → (contains a x.g.asked || is_dead a x.g) ≡ true

-- an event that changes nothing of this
pub idle : (x : Case) (p : At) (q : History) → IsCovered x.bound x.told x.done p x.g → q.submitted ≡ p.history.submitted → q.ran ≡ p.history.ran
    → q.collected ≡ p.history.collected → q.killed ≡ p.history.killed → q.asked ≡ p.history.asked
    → IsCovered x.bound x.told x.done (record { history = q; stepped = p.stepped }) x.g
idle x p q cov submitted ran collected killed asked = record {
  steps = cov.steps;
  calls = λ c free. subst (λ l. length (under c l) ≤ length (calls_of c x.g)) (sym submitted) (cov.calls c free);
  runs = λ a. subst (λ l. length (under a l) ≤ length (runs_of a x.g)) (sym ran) (cov.runs a);
  replies = λ i c a place item at. cov.replies i c a place item (ap (λ posts. slice_get posts i) (sym collected) ∙ at);
  deaths = λ i c a at. cov.deaths i c a (ap (λ posts. slice_get posts i) (sym collected) ∙ at);
  killed = λ a e. cov.killed a (ap (contains a) (sym killed) ∙ e);
  asked = λ a e dead. cov.asked a (ap (contains a) (sym asked) ∙ e) dead;
}

at_most : (n : ℕ) → n ≤ n
at_most n = omega arith

-- another caller's steps, or one more of one's own
further_by : (x : Case) (p : At) (c d : ℕ) (steps : List Step) → IsCovered x.bound x.told x.done p x.g → x.bound d ≡ Some steps
    → ((steps : List Step) → x.bound c ≡ Some steps → steps_of c p + 1 ≤ x.done c) → steps_of d (skipped c p) ≤ x.done d
further_by x p c d steps cov is own = subst (λ n. n ≤ x.done d) (sym (occurrences-push d c p.stepped)) (go (c == d) refl)
  where
    go : (y : Bool) → (c == d) ≡ y → steps_of d p + cond y 1 0 ≤ x.done d
    go true e = subst (λ n. x.bound n ≡ Some steps → steps_of n p + 1 ≤ x.done n) (eqb-true c d e) (own steps) is
    go false e = let le = cov.steps d steps is in omega (arith, le)

did_step : (x : Case) (p : At) (c : ℕ) (step : Step) → IsCovered x.bound x.told x.done p x.g → DidStep x p c step
    → IsCovered x.bound x.told x.done (taken c step p) x.g
did_step x p c step cov did = record {
  steps = λ d steps is. further_by x p c d steps cov is did.further;
  calls = λ d free. calls d free (c == d) refl;
  runs = λ a. subst (λ l. length (under a l) ≤ length (runs_of a x.g)) (sym (step_runs c step p.history)) (cov.runs a);
  replies = λ i d a place item at. cov.replies i d a place item (ap (λ posts. slice_get posts i) (sym (step_collects c step p.history)) ∙ at);
  deaths = λ i d a at. cov.deaths i d a (ap (λ posts. slice_get posts i) (sym (step_collects c step p.history)) ∙ at);
  killed = λ a e. cov.killed a (ap (contains a) (sym (step_kills c step p.history)) ∙ e);
  asked = λ a e dead. either_of (contains a p.history.asked) (is_kill_of a step) ((contains a x.g.asked || is_dead a x.g) ≡ true)
      (sym (step_asks c a step p.history) ∙ e) (λ old. cov.asked a old dead) (λ new. did.asks a new dead);
}
  where
    calls : (d : ℕ) → x.bound d ≡ None → (y : Bool) → (c == d) ≡ y → length (calls_of d (after_step c step p.history)) ≤ length (calls_of d x.g)
    calls d free true e = subst (λ n. x.bound n ≡ None → length (calls_of n (after_step c step p.history)) ≤ length (calls_of n x.g)) (eqb-true c d e)
        did.calls free
    calls d free false e =
        let same : calls_of d (after_step c step p.history) ≡ calls_of d p.history =
        submitted_one c d step p.history ∙ ap (λ y. calls_of d p.history ++ filter_map submission_in (cond y (step ∷ []) [])) e
        ∙ append-nil (calls_of d p.history) in
        subst (λ calls. length calls ≤ length (calls_of d x.g)) (sym same) (cov.calls d free)

bound_step : (x : Case) (p : At) (c : ℕ) (steps : List Step) (step : Step) → Here x p → x.bound c ≡ Some steps → next_step x.plans c p ≡ Some step
    → MayTake c step p.history → Near x (taken c step p)
bound_step x p c steps step at is next may = go (steps_on x p c steps step at is next may)
  where
    there : slice_get steps (steps_of c p) ≡ Some step
    there = subst (λ l. slice_get l (steps_of c p) ≡ Some step) (at.setting.end.own c steps is) next

    asked : steps_of c p + 1 ≤ x.done c → (a : ℕ) → is_kill_of a step ≡ true → (contains a x.g.asked || is_dead a x.g) ≡ true
    asked lt a kill = either ((at.setting.walk.steps c steps is).asked a (kill_asked steps (steps_of c p) (x.done c) a
        (there ∙ ap (λ s. Some s) (is_kill step kill)) (omega (arith, lt))))
      where
        is_kill : (s : Step) → is_kill_of a s ≡ true → s ≡ Kill a
        is_kill (Kill b) e = ap Kill (eqb-true b a e)
        is_kill s e = cc

        either : (contains a x.g.asked ≡ true) ⊎ (is_dead a x.g ≡ true) → (contains a x.g.asked || is_dead a x.g) ≡ true
        either (inl e) = ap (λ y. y || is_dead a x.g) e
        either (inr e) = or_right (contains a x.g.asked) _ e

    go : (steps_of c p + 1 ≤ x.done c) ⊎ Goal x → Near x (taken c step p)
    go (inr goal) = inr goal
    go (inl lt) = inl (did_step x p c step at.covered (record {
      further = λ _ _. lt;
      calls = λ free. let bad : None ≡ Some steps = sym free ∙ is in cc;
      asks = λ a kill _. asked lt a kill;
    }))

-- a step that makes no call and asks no kill
idle_step : (x : Case) (p : At) (c : ℕ) (step : Step) → Here x p → x.bound c ≡ None →
    length (calls_of c (after_step c step p.history)) ≤ length (calls_of c p.history) → ((a : ℕ) → is_kill_of a step ≡ false) → Near x (taken c step p)
idle_step x p c step at free same never = inl (did_step x p c step at.covered (record {
  further = λ steps is. let bad : None ≡ Some steps = sym free ∙ is in cc;
  calls = λ _. let le = at.covered.calls c free in omega (arith, same, le);
  asks = λ a kill _. let bad : true ≡ false = sym kill ∙ never a in cc;
}))

free_step : (x : Case) (p : At) (c : ℕ) (step : Step) → Here x p → x.bound c ≡ None → MayTake c step p.history
    → IsLater (after_step c step p.history) x.late.history → Near x (taken c step p)
free_step x p c (Submit a method args) at free may later = go (submits x p c a method args at free may later)
  where
    go : (length (calls_of c p.history) + 1 ≤ length (calls_of c x.g)) ⊎ Goal x → Near x (taken c (Submit a method args) p)
    go (inr goal) = inr goal
    go (inl more) =
        let call : Submission = record { actor = a; method = method; args = args } in
        let after : calls_of c (add_event p.history (event.Submit c a method args)) ≡ calls_of c p.history ++ call ∷ [] =
        under-push c c p.history.submitted call ∙ ap (λ b. calls_of c p.history ++ cond b (call ∷ []) []) (eq-eqb c c refl) in
        let long = length_push (calls_of c p.history) call in
        inl (did_step x p c (Submit a method args) at.covered (record {
          further = λ steps is. let bad : None ≡ Some steps = sym free ∙ is in cc;
          calls = λ _. subst (λ calls. length calls ≤ length (calls_of c x.g)) (sym after) (omega (arith, long, more));
          asks = λ b kill _. cc;
        }))
free_step x p c (Kill a) at free may later = go (x.told.dead a) refl
  where
    covered : (x.told.dead a ≡ true → (contains a x.g.asked || is_dead a x.g) ≡ true) → IsCovered x.bound x.told x.done (taken c (Kill a) p) x.g
    covered asked = did_step x p c (Kill a) at.covered (record {
      further = λ steps is. let bad : None ≡ Some steps = sym free ∙ is in cc;
      calls = λ _. at.covered.calls c free;
      asks = λ b kill dead. subst (λ n. x.told.dead n ≡ true → (contains n x.g.asked || is_dead n x.g) ≡ true) (eqb-true a b kill) asked dead;
    })

    either : ((contains a x.g.asked || is_dead a x.g) ≡ true) ⊎ Goal x → Near x (taken c (Kill a) p)
    either (inl asked) = inl (covered (λ _. asked))
    either (inr goal) = inr goal

    go : (y : Bool) → x.told.dead a ≡ y → Near x (taken c (Kill a) p)
    go true dead = either (asks x p c a at free may dead)
    go false lives = inl (covered (λ dead. let bad : true ≡ false = sym dead ∙ lives in cc))
free_step x p c step at free may later = idle_step x p c step at free (at_most (length (calls_of c p.history))) (λ b. refl)

pub step_near : (x : Case) (p : At) (c : ℕ) (step : Step) → Here x p → next_step x.plans c p ≡ Some step → MayTake c step p.history
    → IsLater (after_step c step p.history) x.late.history → Near x (taken c step p)
step_near x p c step at next may later = go (x.bound c) refl
  where
    go : (o : Option (List Step)) → x.bound c ≡ o → Near x (taken c step p)
    go None free = free_step x p c step at free may later
    go (Some steps) is = bound_step x p c steps step at is next may

pub skip_near : (x : Case) (p : At) (c a : ℕ) → Here x p → next_step x.plans c p ≡ Some (Kill a) → is_dead a p.history ≡ true → Near x (skipped c p)
skip_near x p c a at next dead = go (x.bound c) refl
  where
    covered : ((steps : List Step) → x.bound c ≡ Some steps → steps_of c p + 1 ≤ x.done c) → IsCovered x.bound x.told x.done (skipped c p) x.g
    covered own = record {
      steps = λ d steps is. further_by x p c d steps at.covered is own;
      calls = at.covered.calls;
      runs = at.covered.runs;
      replies = at.covered.replies;
      deaths = at.covered.deaths;
      killed = at.covered.killed;
      asked = at.covered.asked;
    }

    go : (o : Option (List Step)) → x.bound c ≡ o → Near x (skipped c p)
    go None free = inl (covered (λ steps is. let bad : None ≡ Some steps = sym free ∙ is in cc))
    go (Some steps) is = level (cases_lt (steps_of c p) (x.done c))
      where
        level : (steps_of c p < x.done c) ⊎ (x.done c ≤ steps_of c p) → Near x (skipped c p)
        level (inl lt) = inl (covered (λ _ _. omega (arith, lt)))
        level (inr ge) =
            let le = at.covered.steps c steps is in let same : steps_of c p ≡ x.done c = omega (arith, le, ge) in
            inr (DoesWithout c a steps is (subst (λ n. slice_get steps n ≡ Some (Kill a)) same
            (subst (λ l. slice_get l (steps_of c p) ≡ Some (Kill a)) (at.setting.end.own c steps is) next)) (dead_covered x.g p a at dead))

-- ---- a run, a kill

pub run_near : (x : Case) (p : At) (b c : ℕ) → Here x p → refusal_of p.history (event.Run b c) ≡ None
    → IsLater (add_event p.history (event.Run b c)) x.late.history → Near x (with_event (event.Run b c) p)
run_near x p b c at may later = go (next_item b c h) refl later
  where
    h : History
    h = p.history

    go : (o : Option RunItem) → next_item b c h ≡ o → IsLater (after_run b c h o) x.late.history
        → IsCovered x.bound x.told x.done (record { history = after_run b c h o; stepped = p.stepped }) x.g ⊎ Goal x
    go None e later = inl (idle x p h at.covered refl refl refl refl refl)
    go (Some item) e later = cases (cases_lt (length (runs_of b h)) (length (runs_of b x.g)))
      where
        after : (a : ℕ) → runs_of a (after_run b c h (Some item)) ≡ runs_of a h ++ cond (b == a) (item ∷ []) []
        after a = under-push a b h.ran item

        mine : runs_of b (after_run b c h (Some item)) ≡ runs_of b h ++ item ∷ []
        mine = after b ∙ ap (λ y. runs_of b h ++ cond y (item ∷ []) []) (eq-eqb b b refl)

        told : slice_get (x.told.runs b) (length (runs_of b h)) ≡ Some item
        told = slice_get_front (runs_of b (after_run b c h (Some item))) (x.told.runs b) (length (runs_of b h))
            (subst (λ items. IsPrefix (runs_of b (after_run b c h (Some item))) items) (at.setting.end.leaves.runs b) (later.early.runs b))
            (ap (λ items. slice_get items (length (runs_of b h))) mine ∙ slice_get_last (runs_of b h) item)

        more : length (runs_of b h) < length (runs_of b x.g) → (a : ℕ) (y : Bool) → (b == a) ≡ y
            → length (runs_of a h ++ cond y (item ∷ []) []) ≤ length (runs_of a x.g)
        more lt a false e = subst (λ items. length items ≤ length (runs_of a x.g)) (sym (append-nil (runs_of a h))) (at.covered.runs a)
        more lt a true e = subst (λ n. length (runs_of n h ++ item ∷ []) ≤ length (runs_of n x.g)) (eqb-true b a e)
            (let long = length_push (runs_of b h) item in omega (arith, long, lt))

        cases : (length (runs_of b h) < length (runs_of b x.g)) ⊎ (length (runs_of b x.g) ≤ length (runs_of b h))
            → IsCovered x.bound x.told x.done (record { history = after_run b c h (Some item); stepped = p.stepped }) x.g ⊎ Goal x
        cases (inl lt) = inl (record {
          steps = at.covered.steps;
          calls = at.covered.calls;
          runs = λ a. subst (λ items. length items ≤ length (runs_of a x.g)) (sym (after a)) (more lt a (b == a) refl);
          replies = at.covered.replies;
          deaths = at.covered.deaths;
          killed = at.covered.killed;
          asked = at.covered.asked;
        })
        cases (inr short) = inr (run_goes x p b c item at may e told (sym (front_whole (runs_of b h) (runs_of b x.g) (runs_covered b at) short)))

pub kill_near : (x : Case) (p : At) (a : ℕ) → Here x p → refusal_of p.history (event.TakeKill a) ≡ None
    → IsLater (add_event p.history (event.TakeKill a)) x.late.history → Near x (with_event (event.TakeKill a) p)
kill_near x p a at may later = go (is_dead a x.g) refl
  where
    h : History
    h = p.history

    taken_here : contains a (h.killed ++ a ∷ []) ≡ true
    taken_here = contains_push a a h.killed ∙ or_right (contains a h.killed) _ (eq-eqb a a refl)

    dead_after : is_dead a (add_event h (event.TakeKill a)) ≡ true
    dead_after = ap (λ y. y || has_terminated (runs_of a h)) taken_here

    go : (y : Bool) → is_dead a x.g ≡ y → Near x (with_event (event.TakeKill a) p)
    go true e = inl (record {
      steps = at.covered.steps;
      calls = at.covered.calls;
      runs = at.covered.runs;
      replies = at.covered.replies;
      deaths = at.covered.deaths;
      killed = λ b k. either_of (contains b h.killed) (a == b) (is_dead b x.g ≡ true) (sym (contains_push b a h.killed) ∙ k) (at.covered.killed b)
          (λ same. subst (λ n. is_dead n x.g ≡ true) (eqb-true a b same) e);
      asked = at.covered.asked;
    })
    go false e = inr (kill_goes x p a at may (sym (at.setting.end.leaves.dead a) ∙ later.early.dead a dead_after)
        (sym (at.setting.end.leaves.runs a) ∙ later.early.last a dead_after) e)

-- ---- what is collected

-- where the walk has the death, or doesn't
pub death_in : (posts : List Post) (c a : ℕ) → Contains posts (DeathPost c a) ⊎ (Contains posts (DeathPost c a) → ⊥)
death_in [] c a = inr (λ has. absurd (let below = has.1 in omega (arith, below)))
death_in (post ∷ posts) c a = go post refl (death_in posts c a)
  where
    same : (d b : ℕ) → post ≡ DeathPost d b → (DeathPost c a ≡ DeathPost d b) ⊎ (DeathPost c a ≡ DeathPost d b → ⊥)
    same d b is = numbers (c == d) (a == b) refl refl
      where
        numbers : (y z : Bool) → (c == d) ≡ y → (a == b) ≡ z → (DeathPost c a ≡ DeathPost d b) ⊎ (DeathPost c a ≡ DeathPost d b → ⊥)
        numbers true true e f = inl (ap (λ n. DeathPost n a) (eqb-true c d e) ∙ ap (DeathPost d) (eqb-true a b f))
        numbers false z e f = inr (λ is. let n : c ≡ d = cc in let bad : true ≡ false = sym (eq-eqb c d n) ∙ e in cc)
        numbers true false e f = inr (λ is. let n : a ≡ b = cc in let bad : true ≡ false = sym (eq-eqb a b n) ∙ f in cc)

    first : Contains (post ∷ posts) (DeathPost c a) → (post ≡ DeathPost c a → ⊥) → (Contains posts (DeathPost c a) → ⊥) → ⊥
    first has none rest = at (place_in (post ∷ posts) (DeathPost c a) has)
      where
        at : (i : ℕ) × (slice_get (post ∷ posts) i ≡ Some (DeathPost c a)) → ⊥
        at (zero, is) = none cc
        at (suc i, is) = rest (stands_in posts i is)

    go : (q : Post) → post ≡ q → Contains posts (DeathPost c a) ⊎ (Contains posts (DeathPost c a) → ⊥)
        → Contains (post ∷ posts) (DeathPost c a) ⊎ (Contains (post ∷ posts) (DeathPost c a) → ⊥)
    go q is (inl has) = let place = place_in posts (DeathPost c a) has in inl (stands_in (post ∷ posts) (suc place.0) place.1)
    go (ReplyPost d b place) is (inr none) = inr (λ has. first has (λ e. let bad : ReplyPost d b place ≡ DeathPost c a = sym is ∙ e in cc) none)
    go (DeathPost d b) is (inr none) = either (same d b is)
      where
        either : (DeathPost c a ≡ DeathPost d b) ⊎ (DeathPost c a ≡ DeathPost d b → ⊥)
            → Contains (post ∷ posts) (DeathPost c a) ⊎ (Contains (post ∷ posts) (DeathPost c a) → ⊥)
        either (inl e) = inl (stands_in (post ∷ posts) zero (ap (λ x. Some x) (is ∙ sym e)))
        either (inr differ) = inr (λ has. first has (λ e. differ (sym e ∙ is)) none)
