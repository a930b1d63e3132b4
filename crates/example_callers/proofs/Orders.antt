-- What a buyer tells still holds of what its caller leaves.
use Rattle.example_callers.proofs.Common.{◌≡◌, ℕ, List, is_some, refl, ap, sym, ◌∙◌, Step, ActorSpec, OwnerView, kept_at, SessionView, IsLater, HasTold, Buyer}
use Rattle.example_callers.proofs.Common.{HasPaid, buyer_tells, calls_by, HasLeft}
use Rattle.example_callers.proofs.Calls.{kept_same}

still_paid : (buyer : Buyer) {old new : SessionView} → new.calls ≡ old.calls → IsLater old new → HasPaid buyer old → HasPaid buyer new
still_paid buyer {old} {new} same later has =
    let kept : kept_at new.kept 0 ≡ kept_at old.kept 0 = kept_same 0 later has.answered in
    record {
      answered = ap (λ a. is_some a) kept ∙ has.answered;
      calls = same ∙ has.calls ∙ ap (λ a. calls_by buyer a) (sym kept);
    }

pub has_left : (casts : List ActorSpec) (steps : List (ℕ × List Step)) (owners : List OwnerView) (given : ℕ × Buyer) →
    HasTold buyer_tells casts steps owners given → HasLeft owners given
has_left casts steps owners given told =
    record {
      owner = told.owner;
      left = told.left;
      paid = still_paid given.1 told.told.calls told.told.on (told.told.told refl);
    }
