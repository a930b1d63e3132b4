-- What a transfer submits, and how it ends.
use Rattle.std.specs.Prelude.{◌≡◌, ◌⊎◌, ℤ, int_le, Bool, true, false, is_some, [], ◌∷◌, Option, Some, Ok}
use Rattle.actors.specs.Value.TheVariants.{Int}
use Rattle.actors.specs.Arg.TheVariants.{Plain}
use Rattle.actors.specs.Method.TheVariants.{Balance, Deposit, Withdraw}
use Rattle.actors.specs.Submission.{Submission}
use Rattle.actors.specs.Kinds.{Answer}
use Rattle.actors.specs.Callers.{kept_at}
use Rattle.actors.specs.Codes.{SessionView}
use Rattle.example_callers.specs.declared.transfer.Transfer.{Transfer}

-- ---- its three calls

abbrev pub balance_call : Transfer → Submission
balance_call t = record { actor = t.from; method = Balance; args = [] }

abbrev pub withdraw_call : Transfer → Submission
withdraw_call t = record { actor = t.from; method = Withdraw; args = Plain (Int t.amount) ∷ [] }

abbrev pub deposit_call : Transfer → Submission
deposit_call t = record { actor = t.to; method = Deposit; args = Plain (Int t.amount) ∷ [] }

-- ---- how it ends

-- whether the answer is a number, and one of at least the amount
abbrev pub is_amount : Option Answer → Bool
is_amount (Some (Ok (Int n))) = true
is_amount answer = false

abbrev pub is_enough : ℤ → Option Answer → Bool
is_enough amount (Some (Ok (Int n))) = int_le amount n
is_enough amount answer = false

-- it asked for the balance, was not told as much, and did no more
pub record HasStoppedShort (t : Transfer) (seen : SessionView) : Type 0 where
  pub calls : seen.calls ≡ balance_call t ∷ []
  pub asked : is_some (kept_at seen.kept 0) ≡ true
  pub short : is_enough t.amount (kept_at seen.kept 0) ≡ false

-- it was told as much, and was refused the withdrawal
pub record IsRefused (t : Transfer) (seen : SessionView) : Type 0 where
  pub calls : seen.calls ≡ balance_call t ∷ withdraw_call t ∷ []
  pub enough : is_enough t.amount (kept_at seen.kept 0) ≡ true
  pub asked : is_some (kept_at seen.kept 1) ≡ true
  pub refused : is_amount (kept_at seen.kept 1) ≡ false

-- it was told as much, was granted the withdrawal, and deposited what it withdrew
pub record HasMoved (t : Transfer) (seen : SessionView) : Type 0 where
  pub calls : seen.calls ≡ balance_call t ∷ withdraw_call t ∷ deposit_call t ∷ []
  pub enough : is_enough t.amount (kept_at seen.kept 0) ≡ true
  pub granted : is_amount (kept_at seen.kept 1) ≡ true

abbrev pub HasTransferEnded : Transfer → SessionView → Type 0
HasTransferEnded t seen = HasStoppedShort t seen ⊎ (IsRefused t seen ⊎ HasMoved t seen)

abbrev pub transfer_tells : Transfer → SessionView → SessionView → Type 0
transfer_tells t old new = old.calls ≡ [] → HasTransferEnded t new
