-- What a run of buyers leaves.
use Rattle.std.specs.Prelude.{◌≡◌, ℕ, List, Some}
use Rattle.actors.specs.Callers.{OwnerView}
use Rattle.actors.specs.Threads.{owner_of}
use Rattle.actors.specs.Codes.{session_view}
use Rattle.example_callers.specs.declared.buyer.Buyer.{Buyer}
use Rattle.example_callers.specs.Buyer.{HasPaid}

-- an owner is left of the buyer's caller, and it paid once, and ordered once if the payment was granted
pub record HasLeft (owners : List OwnerView) (given : ℕ × Buyer) : Type 0 where
  pub owner : OwnerView
  pub left : owner_of given.0 owners ≡ Some owner
  pub paid : HasPaid given.1 (session_view owner)
