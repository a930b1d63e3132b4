-- What a teller submits, and what it tells.
use Rattle.std.specs.Prelude.{◌≡◌, ℕ, ◌<◌, List, [], ◌∷◌, length, map, is_some, true, codes}
use Rattle.actors.specs.Value.{Value}
use Rattle.actors.specs.Value.TheVariants.{Int}
use Rattle.actors.specs.Arg.TheVariants.{Plain}
use Rattle.actors.specs.Method.TheVariants.{Own}
use Rattle.actors.specs.Submission.{Submission}
use Rattle.actors.specs.Callers.{kept_at}
use Rattle.actors.specs.Codes.{SessionView}
use Rattle.example_kinds.specs.declared.bank.BankCall.{BankCall}
use Rattle.example_kinds.specs.declared.bank.BankCall.TheVariants.{PayIn, PayOut, Transfer, Funds, Total}
use Rattle.example_bank.specs.declared.request.Request.{Request}
use Rattle.example_bank.specs.declared.teller.Teller.{Teller}

-- the word of a call, and its values
abbrev pub call_word : BankCall → List ℕ
call_word (PayIn account amount) = codes "pay_in"
call_word (PayOut account amount) = codes "pay_out"
call_word (Transfer from to amount) = codes "transfer"
call_word (Funds account) = codes "funds"
call_word Total = codes "total"

abbrev pub call_values : BankCall → List Value
call_values (PayIn account amount) = Int account ∷ Int amount ∷ []
call_values (PayOut account amount) = Int account ∷ Int amount ∷ []
call_values (Transfer from to amount) = Int from ∷ Int to ∷ Int amount ∷ []
call_values (Funds account) = Int account ∷ []
call_values Total = []

-- the call that a request is
abbrev pub request_call : Request → Submission
request_call request = record {
  actor = request.branch;
  method = Own (call_word request.call);
  args = map Plain (call_values request.call);
}

-- it submitted its requests, each once, in order, and each was answered
pub record HasAsked (requests : List Request) (seen : SessionView) : Type 0 where
  pub calls : seen.calls ≡ map request_call requests
  pub answered : (k : ℕ) → k < length requests → is_some (kept_at seen.kept k) ≡ true

abbrev pub teller_tells : Teller → SessionView → SessionView → Type 0
teller_tells teller old new = old.calls ≡ [] → HasAsked teller.requests.items new
