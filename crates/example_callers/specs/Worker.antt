-- What a worker submits, and what it tells.
use Rattle.std.specs.Prelude.{◌≡◌, ℕ, ◌+◌, ◌<◌, [], ◌∷◌, ◌++◌, replicate, Option, Some, Ok, Bool, true, false, is_some, pos, codes}
use Rattle.actors.specs.Value.TheVariants.{Int}
use Rattle.actors.specs.Arg.TheVariants.{Plain}
use Rattle.actors.specs.Method.TheVariants.{Add, Own}
use Rattle.actors.specs.Submission.{Submission}
use Rattle.actors.specs.Kinds.{Answer}
use Rattle.actors.specs.Callers.{kept_at}
use Rattle.actors.specs.Codes.{SessionView}
use Rattle.example_callers.specs.declared.worker.Worker.{Worker}

-- it takes a job, and it adds their number
abbrev pub dequeue_call : Worker → Submission
dequeue_call w = record { actor = w.queue; method = Own (codes "dequeue"); args = [] }

abbrev pub add_call : Worker → ℕ → Submission
add_call w jobs = record { actor = w.counter; method = Add; args = Plain (Int (pos jobs)) ∷ [] }

-- whether the answer is a job, and no fault
abbrev pub is_job : Option Answer → Bool
is_job (Some (Ok job)) = true
is_job answer = false

-- it was given so many jobs, one after another, then none, and added their number to the counter
pub record HasDoneJobs (w : Worker) (seen : SessionView) : Type 0 where
  pub jobs : ℕ
  pub calls : seen.calls ≡ replicate (jobs + 1) (dequeue_call w) ++ add_call w jobs ∷ []
  pub given : (k : ℕ) → k < jobs → is_job (kept_at seen.kept k) ≡ true
  pub asked : is_some (kept_at seen.kept jobs) ≡ true
  pub none : is_job (kept_at seen.kept jobs) ≡ false

abbrev pub worker_tells : Worker → SessionView → SessionView → Type 0
worker_tells w old new = old.calls ≡ [] → HasDoneJobs w new
