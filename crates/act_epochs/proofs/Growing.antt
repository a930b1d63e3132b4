-- One epoch more.
use Rattle.act_epochs.proofs.Common.{◌≡◌, ℕ, List, [], ◌∷◌, ◌++◌, refl, ap, ◌∙◌, append-nil, flat_map-append, ActorSpec, SessionView, log_in, Epoch, IsEpoch}
use Rattle.act_epochs.proofs.Common.{casts_left, AreEpochs, casts_after, runs, GoesOn}

-- an epoch that opens with the casts that are left joins them
pub are_more : {C : Type 0} (tells : C → SessionView → SessionView → Type 0) (casts : List ActorSpec) (epochs : List (Epoch C)) (epoch : Epoch C)
    → AreEpochs tells casts epochs → epoch.casts ≡ casts_after casts epochs → IsEpoch tells epoch → AreEpochs tells casts (epochs ++ epoch ∷ [])
are_more tells casts [] epoch are opens is = (opens, is, tt)
are_more tells casts (one ∷ epochs) epoch are opens is = (are.0, are.1, are_more tells (casts_left one) epochs epoch are.2 opens is)

-- and leaves its own
pub left_more : {C : Type 0} (casts : List ActorSpec) (epochs : List (Epoch C)) (epoch : Epoch C) → casts_after casts (epochs ++ epoch ∷ []) ≡ casts_left epoch
left_more casts [] epoch = refl
left_more casts (one ∷ epochs) epoch = left_more (casts_left one) epochs epoch

-- its runs come after those of the others
pub runs_more : {C : Type 0} (epochs : List (Epoch C)) (epoch : Epoch C) (a : ℕ) → runs a (epochs ++ epoch ∷ []) ≡ runs a epochs ++ log_in epoch.ends a
runs_more {C} epochs epoch a =
    flat_map-append (λ (one : Epoch C). log_in one.ends a) epochs (epoch ∷ [])
    ∙ ap (λ l. runs a epochs ++ l) (append-nil (log_in epoch.ends a))

-- an epoch that opens with the casts that are left joins the others, leaves its own, and its runs come last
pub goes_on : {C : Type 0} (tells : C → SessionView → SessionView → Type 0) (casts : List ActorSpec) (epochs : List (Epoch C)) (epoch : Epoch C)
    → AreEpochs tells casts epochs → epoch.casts ≡ casts_after casts epochs → IsEpoch tells epoch → GoesOn tells casts epochs epoch
goes_on tells casts epochs epoch are opens is = record {
  follow = are_more tells casts epochs epoch are opens is;
  left = left_more casts epochs epoch;
  last = runs_more epochs epoch;
}
