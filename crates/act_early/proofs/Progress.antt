-- What a caller submitted, copied and released is what the steps say that it is done with.
use Rattle.act_early.proofs.Common.{◌≡◌, ℕ, ◌+◌, Bool, true, false, cond, List, [], ◌∷◌, ◌++◌, length, Some, None, refl, ap, sym, ◌∙◌, subst, arith}
use Rattle.act_early.proofs.Common.{length-append, Option, ◌==◌, ◌&&◌, filter, filter_map, eqb-true, append-nil, filter-append, filter_map-append, Event}
use Rattle.act_early.proofs.Common.{RunItem, Submission, Step, Submit, Copy, Release, Kill, ActorSpec, History, count_pairs, calls_of, next_item, add_event}
use Rattle.act_early.proofs.Common.{after_run, under-push, times-push, At, next_step, after_step, taken, skipped, with_event, is_free, IsPlay, Opens, Takes}
use Rattle.act_early.proofs.Common.{Skips, Closes, Happens}
use Rattle.act_rules.specs.declared.event.Event.TheVariants as event
use Rattle.act_early.proofs.Counting.{done_steps, done-push, other_next}

-- ---- what steps say

-- the call that a step submits, where it submits one
abbrev pub submission_in : Step → Option Submission
submission_in (Submit a method args) = Some (record { actor = a; method = method; args = args })
submission_in step = None

-- whether the step copies the actor's handle
abbrev pub is_copy_of : ℕ → Step → Bool
is_copy_of a (Copy b) = b == a
is_copy_of a step = false

-- whether the step releases a copy of the actor's handle
abbrev pub is_release_of : ℕ → Step → Bool
is_release_of a (Release b) = b == a
is_release_of a step = false

-- ---- what one step adds

one_pair : (x y : Bool) (p : Step → Bool) (step : Step) → p step ≡ y → cond (x && y) 1 0 ≡ length (filter p (cond x (step ∷ []) []))
one_pair false y p step e = refl
one_pair true y p step e = rw e (go y)
  where
    go : (z : Bool) → cond z 1 0 ≡ length (cond z (step ∷ []) [])
    go true = refl
    go false = refl

no_pair : (n : ℕ) (x : Bool) (p : Step → Bool) (step : Step) → p step ≡ false → n ≡ n + length (filter p (cond x (step ∷ []) []))
no_pair n false p step e = omega arith
no_pair n true p step e = rw e (omega arith)

no_call : (calls : List Submission) (x : Bool) (step : Step) → submission_in step ≡ None → calls ≡ calls ++ filter_map submission_in (cond x (step ∷ []) [])
no_call calls false step e = sym (append-nil calls)
no_call calls true step e = rw e (sym (append-nil calls))

-- to a caller's calls a step adds its call, at the end, if it is this caller's and submits one, and else none
pub submitted_one : (c d : ℕ) (step : Step) (h : History)
    → calls_of d (after_step c step h) ≡ calls_of d h ++ filter_map submission_in (cond (c == d) (step ∷ []) [])
submitted_one c d (Submit a method args) h = under-push d c h.submitted (record { actor = a; method = method; args = args }) ∙ go (c == d)
  where
    go : (same : Bool) → calls_of d h ++ cond same (record { actor = a; method = method; args = args } ∷ []) [] ≡ calls_of d h
        ++ filter_map submission_in (cond same (Submit a method args ∷ []) [])
    go true = refl
    go false = refl
submitted_one c d step h = no_call (calls_of d h) (c == d) step refl

-- to the copies that a caller made of a handle a step adds one if it is this caller's and copies that, else none
pub copied_one : (c d a : ℕ) (step : Step) (h : History)
    → count_pairs d a (after_step c step h).copied ≡ count_pairs d a h.copied + length (filter (is_copy_of a) (cond (c == d) (step ∷ []) []))
copied_one c d a (Copy b) h = times-push d a c b h.copied ∙ ap (λ n. count_pairs d a h.copied + n) (one_pair (c == d) (b == a) (is_copy_of a) (Copy b) refl)
copied_one c d a step h = no_pair _ (c == d) (is_copy_of a) step refl

-- to the copies that a caller released of a handle a step adds one if it is this caller's and releases that, else none
pub released_one : (c d a : ℕ) (step : Step) (h : History)
    → count_pairs d a (after_step c step h).released ≡ count_pairs d a h.released + length (filter (is_release_of a) (cond (c == d) (step ∷ []) []))
released_one c d a (Release b) h = times-push d a c b h.released
    ∙ ap (λ n. count_pairs d a h.released + n) (one_pair (c == d) (b == a) (is_release_of a) (Release b) refl)
released_one c d a step h = no_pair _ (c == d) (is_release_of a) step refl

-- ---- what no step adds

pub record IsIdle (h g : History) : Type 0 where
  pub submitted : g.submitted ≡ h.submitted
  pub copied : g.copied ≡ h.copied
  pub released : g.released ≡ h.released
  pub asked : g.asked ≡ h.asked

-- an event that is no caller's step submits, copies and releases nothing, and asks no kill
pub free_idle : (h : History) (other : Event) → is_free other ≡ true → IsIdle h (add_event h other)
free_idle h (event.Submit c a method args) free = cc
free_idle h (event.Copy c a) free = cc
free_idle h (event.Release c a) free = cc
free_idle h (event.Run a c) free = go (next_item a c h)
  where
    go : (o : Option RunItem) → IsIdle h (after_run a c h o)
    go None = record { submitted = refl; copied = refl; released = refl; asked = refl }
    go (Some item) = record { submitted = refl; copied = refl; released = refl; asked = refl }
free_idle h (event.AskKill c a) free = cc
free_idle h other free = record { submitted = refl; copied = refl; released = refl; asked = refl }

-- ---- all of it

pub record Follows (plans : ℕ → List Step) (c : ℕ) (at : At) : Type 0 where
  pub calls : calls_of c at.history ≡ filter_map submission_in (done_steps plans c at)
  pub copied : (a : ℕ) → count_pairs c a at.history.copied ≡ length (filter (is_copy_of a) (done_steps plans c at))
  -- until the plan is done
  pub released : (a : ℕ) (step : Step) → next_step plans c at ≡ Some step
      → count_pairs c a at.history.released ≡ length (filter (is_release_of a) (done_steps plans c at))

-- steps of a kind, counted in a front and in the rest, are those of all
pub counted : (p : Step → Bool) (before more all : List Step) (n : ℕ) → n ≡ length (filter p before) → all ≡ before ++ more
    → n + length (filter p more) ≡ length (filter p all)
counted p before more all n e is = rw (is, filter-append p before more, length-append, e) refl

taken_follows : (plans : ℕ → List Step) (c d : ℕ) {step : Step} (at : At) → next_step plans c at ≡ Some step → Follows plans d at
    → Follows plans d (taken c step at)
taken_follows plans c d {step} at is f =
    let more : List Step = cond (c == d) (step ∷ []) [] in
    let all : done_steps plans d (taken c step at) ≡ done_steps plans d at ++ more = done-push plans c d at step is in
    record {
      calls = submitted_one c d step at.history ∙ ap (λ l. l ++ filter_map submission_in more) f.calls
          ∙ sym (filter_map-append submission_in (done_steps plans d at) more) ∙ ap (filter_map submission_in) (sym all);
      copied = λ a. copied_one c d a step at.history
          ∙ counted (is_copy_of a) (done_steps plans d at) more (done_steps plans d (taken c step at)) (count_pairs d a at.history.copied) (f.copied a) all;
      released = λ a later next. released_one c d a step at.history ∙ counted (is_release_of a) (done_steps plans d at) more
          (done_steps plans d (taken c step at)) (count_pairs d a at.history.released) (old a later next) all;
    }
  where
    old : (a : ℕ) (later : Step) → next_step plans d (taken c step at) ≡ Some later
        → count_pairs d a at.history.released ≡ length (filter (is_release_of a) (done_steps plans d at))
    old a later next = go (c == d) refl
      where
        go : (same : Bool) → (c == d) ≡ same → count_pairs d a at.history.released ≡ length (filter (is_release_of a) (done_steps plans d at))
        go true e = f.released a step (subst (λ x. next_step plans x at ≡ Some step) (eqb-true c d e) is)
        go false e = f.released a later (sym (other_next plans c d at e) ∙ next)

skipped_follows : (plans : ℕ → List Step) (c d a : ℕ) (at : At) → next_step plans c at ≡ Some (Kill a) → Follows plans d at → Follows plans d (skipped c at)
skipped_follows plans c d a at is f = let g = taken_follows plans c d at is f in record { calls = g.calls; copied = g.copied; released = g.released }

closed_follows : (plans : ℕ → List Step) (c d a : ℕ) (at : At) → next_step plans c at ≡ None → Follows plans d at
    → Follows plans d (with_event (event.Release c a) at)
closed_follows plans c d a at none f = record {
  calls = f.calls;
  copied = f.copied;
  released = λ b step next. times-push d b c a at.history.released ∙ same b step next (c == d) refl;
}
  where
    same : (b : ℕ) (step : Step) → next_step plans d at ≡ Some step → (x : Bool) → (c == d) ≡ x
        → count_pairs d b at.history.released + cond (x && (a == b)) 1 0 ≡ length (filter (is_release_of b) (done_steps plans d at))
    same b step next true e = let bad : None ≡ Some step = sym (subst (λ x. next_step plans x at ≡ None) (eqb-true c d e) none) ∙ next in cc
    same b step next false e = let zero_more : count_pairs d b at.history.released + 0 ≡ count_pairs d b at.history.released =
        omega arith in zero_more ∙ f.released b step next

idle_follows : {plans : ℕ → List Step} (d : ℕ) (at : At) {g : History} → IsIdle at.history g → Follows plans d at
    → Follows plans d (record { history = g; stepped = at.stepped })
idle_follows d at idle f = record { calls = rw idle.submitted f.calls; copied = rw idle.copied f.copied; released = rw idle.released f.released }

-- in a play of plans each caller made the calls and copies of its done steps, and, until its plan is done, the releases
pub follows : (casts : List ActorSpec) (plans : ℕ → List Step) (at : At) → IsPlay casts plans at → (d : ℕ) → Follows plans d at
follows casts plans at Opens d = record { calls = refl; copied = λ a. refl; released = λ a step next. refl }
follows casts plans at (Takes before c step play is may) d = taken_follows plans c d before is (follows casts plans before play d)
follows casts plans at (Skips before c a play is named dead) d = skipped_follows plans c d a before is (follows casts plans before play d)
follows casts plans at (Closes before c a play none may) d = closed_follows plans c d a before none (follows casts plans before play d)
follows casts plans at (Happens before other play free may) d = idle_follows d before (free_idle before.history other free) (follows casts plans before play d)
