-- Epochs: runs in threads that follow one another, where the actors of each open with the kinds that the one before
-- left.
use Rattle.std.specs.Prelude.{◌≡◌, ℕ, List, [], ◌∷◌, filter_map, Option, None, option_map}
use Rattle.act_rules.specs.History.{ActorSpec}
use Rattle.act_owner.specs.Owner.{OwnerView}
use Rattle.act_serve.specs.Served.{EndView, Killed, Retired, Starved}
use Rattle.act_drive.specs.Sessions.{SessionView}
use Rattle.act_plans.specs.Runs.{cast_at}
use Rattle.act_executor.specs.ByCode.{IsJoinedBy, IsPlayedBy}
use Rattle.act_executor.specs.Plays.{IsPlayed}

-- one epoch: the casts that its actors opened with, the code of each caller, and what its threads left
pub record Epoch (C : Type 0) : Type 0 where
  pub casts : List ActorSpec
  pub codes : List (ℕ × C)
  pub owners : List OwnerView
  pub ends : List EndView

-- its threads were joined, what each code tells holds, and there is a play of what they did
pub record IsEpoch {C : Type 0} (tells : C → SessionView → SessionView → Type 0) (epoch : Epoch C) : Type 0 where
  pub joined : IsJoinedBy tells epoch.casts [] epoch.codes epoch.owners epoch.ends
  pub played : IsPlayed epoch.casts epoch.owners epoch.ends
  pub planned : IsPlayedBy tells epoch.casts [] epoch.codes epoch.owners epoch.ends

-- the cast of an actor for the next epoch: one that retired opens in the state that it left, and one that died has none
abbrev pub cast_of_end : List ActorSpec → EndView → Option ActorSpec
cast_of_end casts (Retired retired) =
    option_map (λ (cast : ActorSpec). record cast { opening = retired.state }) (cast_at retired.id casts)
cast_of_end casts (Killed dead) = None
cast_of_end casts (Starved dead) = None

abbrev pub casts_left : {C : Type 0} → Epoch C → List ActorSpec
casts_left epoch = filter_map (cast_of_end epoch.casts) epoch.ends

-- epochs that follow one another, the first of which opens with these casts
abbrev pub AreEpochs : {C : Type 0} → (C → SessionView → SessionView → Type 0) → List ActorSpec → List (Epoch C) →
    Type 0
AreEpochs tells casts [] = Unit {0}
AreEpochs tells casts (epoch ∷ epochs) = (epoch.casts ≡ casts) × IsEpoch tells epoch
    × AreEpochs tells (casts_left epoch) epochs

-- the casts that are left after them
abbrev pub casts_after : {C : Type 0} → List ActorSpec → List (Epoch C) → List ActorSpec
casts_after casts [] = casts
casts_after casts (epoch ∷ epochs) = casts_after (casts_left epoch) epochs
