-- What an account holds after its calls, by what they put in and took out.
use Rattle.std.specs.Prelude.{◌≡◌, ℕ, ◌+◌, List, [], ◌∷◌, map, zip, Option, Some, Ok, pos, unsigned_abs}
use Rattle.std.specs.List.{sum_by, enumerate_from}
use Rattle.actors.specs.Value.TheVariants.{Int}
use Rattle.actors.specs.Method.{Method}
use Rattle.actors.specs.Method.TheVariants.{Deposit, Withdraw}
use Rattle.actors.specs.Settled.{Settled}
use Rattle.actors.specs.Settled.TheVariants.{Good}
use Rattle.actors.specs.Kinds.{KindState, AccountAt, Answer}
use Rattle.actors.specs.RunItem.{RunItem}
use Rattle.actors.specs.Submission.{Submission}
use Rattle.actors.specs.Actors.{answers_from, state_after}
use Rattle.actors.specs.Callers.{calls_to, kept_at, settle}

-- what a granted deposit puts in, and what a granted withdrawal takes out
abbrev pub paid_in_by : Option Answer → Method → List Settled → ℕ
paid_in_by (Some (Ok (Int left))) Deposit (Good (Int n) ∷ []) = unsigned_abs n
paid_in_by answer method args = 0

abbrev pub paid_out_by : Option Answer → Method → List Settled → ℕ
paid_out_by (Some (Ok (Int left))) Withdraw (Good (Int n) ∷ []) = unsigned_abs n
paid_out_by answer method args = 0

-- what the calls of a run list put in, and what they took out
abbrev pub put_in : KindState → List RunItem → ℕ
put_in state items = sum_by (λ ran. paid_in_by (Some ran.1) ran.0.method ran.0.args)
    (zip items (answers_from state items))

abbrev pub taken_in : KindState → List RunItem → ℕ
taken_in state items = sum_by (λ ran. paid_out_by (Some ran.1) ran.0.method ran.0.args)
    (zip items (answers_from state items))

-- an account is left, and what it holds, with what was taken out, is what it opened with, with what was put in
pub record HoldsWhatWasPutIn (n : ℕ) (items : List RunItem) : Type 0 where
  pub balance : ℕ
  pub left : state_after (AccountAt (pos n)) items ≡ AccountAt (pos balance)
  pub kept : balance + taken_in (AccountAt (pos n)) items ≡ n + put_in (AccountAt (pos n)) items

-- what a caller's calls put into an actor, and what they took out of it, by the answers that are kept for them
abbrev pub paid_in_of : ℕ → List Submission → List (Option Answer) → ℕ
paid_in_of a calls kept =
    sum_by (λ call. paid_in_by (kept_at kept call.0) call.1.method (map (settle kept) call.1.args)) (calls_to a calls)

abbrev pub paid_out_of : ℕ → List Submission → List (Option Answer) → ℕ
paid_out_of a calls kept =
    sum_by (λ call. paid_out_by (kept_at kept call.0) call.1.method (map (settle kept) call.1.args)) (calls_to a calls)

-- the same, of all its calls
abbrev pub all_put : List Submission → List (Option Answer) → ℕ
all_put calls kept =
    sum_by (λ call. paid_in_by (kept_at kept call.0) call.1.method (map (settle kept) call.1.args))
    (enumerate_from 0 calls)

abbrev pub all_taken : List Submission → List (Option Answer) → ℕ
all_taken calls kept =
    sum_by (λ call. paid_out_by (kept_at kept call.0) call.1.method (map (settle kept) call.1.args))
    (enumerate_from 0 calls)

-- what an account holds
abbrev pub funds_of : Option KindState → ℕ
funds_of (Some (AccountAt (pos n))) = n
funds_of state = 0
