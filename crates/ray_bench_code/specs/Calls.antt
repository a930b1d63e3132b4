-- What the code of a measured caller submits, and what it tells.
use Rattle.std.specs.Prelude.{◌≡◌, ℕ, List, ◌++◌, map}
use Rattle.act_types.specs.declared.call.Method.TheVariants.{Add}
use Rattle.act_rules.specs.declared.history.Submission.{Submission}
use Rattle.act_drive.specs.Sessions.{SessionView}
use Rattle.ray_bench_work.specs.Work.{actor_at, one_more, places}
use Rattle.ray_bench_work.specs.declared.work.Work.{Work}
use Rattle.ray_bench_code.specs.declared.adder.Adder.{Adder}

-- the call of a caller at a place: one that adds 1
abbrev pub call_of_code : Work → ℕ → ℕ → Submission
call_of_code work caller place = record { actor = actor_at work caller place; method = Add; args = one_more }

-- so many calls of a caller, from its first one on
abbrev pub calls_of_code : Work → ℕ → ℕ → List Submission
calls_of_code work caller count = map (call_of_code work caller) (places count)

-- all calls of the work are submitted, in their order
abbrev pub adder_tells : Adder → SessionView → SessionView → Type 0
adder_tells adder old new = let task = adder.task in
    new.calls ≡ old.calls ++ calls_of_code task.work task.me task.work.calls

-- a caller, and its code, which has the arguments of all its calls
abbrev pub adder_of : Work → ℕ → ℕ × Adder
adder_of work caller = (caller, record { task = record { work = work; me = caller }; prepared = work.calls })
