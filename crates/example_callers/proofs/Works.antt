-- A worker at work.
use Rattle.example_callers.proofs.Common.{◌≡◌, ℕ, ◌+◌, ◌<◌, List, [], ◌∷◌, ◌++◌, length, replicate, Option, Some, None, is_some, true, false, refl, ap, sym}
use Rattle.example_callers.proofs.Common.{◌∙◌, arith, inl, inr, eq-or-lt_of_le, ◌⊎◌, pos, codes, length-replicate, Int, Arg, Plain, Method, Add}
use Rattle.example_callers.proofs.Common.{Own, Submission, Answer, kept_at, SessionView, IsLater, Submits, Worker, dequeue_call, is_job, HasDoneJobs}
use Rattle.example_callers.proofs.Calls.{called, kept_same}
use Rattle.std.proofs.lemmas.List.{replicate_more}

pub length_of : {calls : List Submission} (n : ℕ) (x : Submission) → calls ≡ replicate n x → length calls ≡ n
length_of n x is = ap length is ∙ length-replicate n x

pub last_or_before : (j n : ℕ) → j < n + 1 → (j ≡ n) ⊎ (j < n)
last_or_before j n below = eq-or-lt_of_le (omega (arith, below))

-- it was given so many jobs so far
pub record AtWork (w : Worker) (n : ℕ) (seen : SessionView) : Type 0 where
  pub calls : seen.calls ≡ replicate n (dequeue_call w)
  pub given : (k : ℕ) → k < n → is_job (kept_at seen.kept k) ≡ true

job_there : (o : Option Answer) → is_job o ≡ true → is_some o ≡ true
job_there None job = cc
job_there (Some answer) job = refl

still : (old new : SessionView) (n : ℕ) → IsLater old new → ((k : ℕ) → k < n → is_job (kept_at old.kept k) ≡ true) → (k : ℕ) → k < n →
    is_job (kept_at new.kept k) ≡ true
still old new n on given k below = ap is_job (kept_same k on (job_there (kept_at old.kept k) (given k below))) ∙ given k below

-- one question more
module _ (w : Worker) (n : ℕ) (old new : SessionView) (k : ℕ) (method : Method) (args : List Arg)
    (work : AtWork w n old) (word : method ≡ Own (codes "dequeue")) (none : args ≡ []) (future : k ≡ length old.calls)
    (submits : Submits (record { actor = w.queue; method = method; args = args }) old new) (on : IsLater old new) where
  place : k ≡ n
  place = future ∙ length_of n (dequeue_call w) work.calls

  calls : new.calls ≡ replicate (n + 1) (dequeue_call w)
  calls =
      called w.queue method [] args (replicate n (dequeue_call w)) old new none work.calls submits
      ∙ ap (λ m. replicate n (dequeue_call w) ++ record { actor = w.queue; method = m; args = [] } ∷ []) word
      ∙ replicate_more n (dequeue_call w)

  pub works_more : is_job (kept_at new.kept k) ≡ true → AtWork w (n + 1) new
  works_more job = record { calls = calls; given = λ j below. go j (last_or_before j n below) }
    where
      go : (j : ℕ) → (j ≡ n) ⊎ (j < n) → is_job (kept_at new.kept j) ≡ true
      go j (inl same) = ap (λ m. is_job (kept_at new.kept m)) (same ∙ sym place) ∙ job
      go j (inr less) = still old new n on work.given j less

  -- the last question, and then the number
  pub worked : (last : SessionView) (given : List Arg) → is_some (kept_at new.kept k) ≡ true → is_job (kept_at new.kept k) ≡ false
      → given ≡ Plain (Int (pos n)) ∷ [] → Submits (record { actor = w.counter; method = Add; args = given }) new last → IsLater new last → HasDoneJobs w last
  worked last given asked no_job number adding later =
      let same : kept_at last.kept n ≡ kept_at new.kept k = ap (kept_at last.kept) (sym place) ∙ kept_same k later asked in
      record {
        jobs = n;
        calls = called w.counter Add (Plain (Int (pos n)) ∷ []) given (replicate (n + 1) (dequeue_call w)) new last number calls adding;
        given = still new last n later (still old new n on work.given);
        asked = ap is_some same ∙ asked;
        none = ap is_job same ∙ no_job;
      }
