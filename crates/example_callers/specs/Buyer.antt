-- What a buyer submits, and what it concludes.
use Rattle.std.specs.Prelude.{◌≡◌, List, [], ◌∷◌, Option, Some, Ok, is_some, true}
use Rattle.actors.specs.Value.TheVariants.{Int}
use Rattle.actors.specs.Arg.TheVariants.{Plain}
use Rattle.actors.specs.Method.TheVariants.{Push, Withdraw}
use Rattle.actors.specs.Submission.{Submission}
use Rattle.actors.specs.Kinds.{Answer}
use Rattle.actors.specs.Callers.{kept_at}
use Rattle.actors.specs.Codes.{SessionView}
use Rattle.example_callers.specs.declared.buyer.Buyer.{Buyer}

-- the payment, and the order
abbrev pub payment : Buyer → Submission
payment buyer = record { actor = buyer.purse; method = Withdraw; args = Plain (Int buyer.price) ∷ [] }

abbrev pub order : Buyer → Submission
order buyer = record { actor = buyer.shop; method = Push; args = Plain (Int buyer.price) ∷ [] }

-- its calls, by the answer of the payment: it orders where that is a number, which is what is left in the purse
abbrev pub calls_by : Buyer → Option Answer → List Submission
calls_by buyer (Some (Ok (Int left))) = payment buyer ∷ order buyer ∷ []
calls_by buyer answer = payment buyer ∷ []

-- it paid once, was answered, and ordered once if the payment was granted
pub record HasPaid (buyer : Buyer) (seen : SessionView) : Type 0 where
  pub answered : is_some (kept_at seen.kept 0) ≡ true
  pub calls : seen.calls ≡ calls_by buyer (kept_at seen.kept 0)

abbrev pub buyer_tells : Buyer → SessionView → SessionView → Type 0
buyer_tells buyer old new = old.calls ≡ [] → HasPaid buyer new
