-- What a retry submits, and what it tells.
use Rattle.std.specs.Prelude.{◌≡◌, ◌⊎◌, ℕ, ◌+◌, ◌<◌, Bool, true, false, [], ◌∷◌, replicate, Option, Some, Err, is_some}
use Rattle.actors.specs.Value.TheVariants.{Int}
use Rattle.actors.specs.Fault.TheVariants.{Insufficient}
use Rattle.actors.specs.Arg.TheVariants.{Plain}
use Rattle.actors.specs.Method.TheVariants.{Withdraw}
use Rattle.actors.specs.Submission.{Submission}
use Rattle.actors.specs.Kinds.{Answer}
use Rattle.actors.specs.Callers.{kept_at}
use Rattle.actors.specs.Codes.{SessionView}
use Rattle.example_callers.specs.declared.retry.Retry.{Retry}

-- the call that it makes
abbrev pub withdraw_try : Retry → Submission
withdraw_try r = record { actor = r.account; method = Withdraw; args = Plain (Int r.amount) ∷ [] }

-- whether the answer is that the account holds too little
abbrev pub is_lacking : Option Answer → Bool
is_lacking (Some (Err Insufficient)) = true
is_lacking answer = false

-- it tried so often as it may, and each time the account held too little
pub record HasFailed (r : Retry) (count : ℕ) (seen : SessionView) : Type 0 where
  pub calls : seen.calls ≡ replicate count (withdraw_try r)
  pub failed : (k : ℕ) → k < count → is_lacking (kept_at seen.kept k) ≡ true

-- it tried so often, and was answered otherwise the last time alone
pub record HasTried (r : Retry) (seen : SessionView) : Type 0 where
  pub before : ℕ
  pub few : before < r.most
  pub calls : seen.calls ≡ replicate (before + 1) (withdraw_try r)
  pub failed : (k : ℕ) → k < before → is_lacking (kept_at seen.kept k) ≡ true
  pub asked : is_some (kept_at seen.kept before) ≡ true
  pub last : is_lacking (kept_at seen.kept before) ≡ false

abbrev pub retry_tells : Retry → SessionView → SessionView → Type 0
retry_tells r old new = old.calls ≡ [] → HasFailed r r.most new ⊎ HasTried r new
