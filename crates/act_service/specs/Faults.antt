-- Why a service ends before its end.
use Rattle.std.specs.Prelude.{ℕ, List, [], map, Some}
use Rattle.act_types.specs.KindState.{KindState}
use Rattle.act_rules.specs.History.{ActorSpec}
use Rattle.act_actor.specs.declared.cast.Cast.{Cast}
use Rattle.act_actor.specs.Casts.{actor_spec}
use Rattle.act_drive.specs.Sessions.{SessionView}
use Rattle.act_executor.specs.Conducts.{CodesFit}
use Rattle.act_executor.specs.Runs.{IsThreadFault}
use Rattle.act_service.specs.declared.epochs.EpochFault.{EpochFault}
use Rattle.act_service.specs.declared.epochs.EpochFault.TheVariants.{Run, Service, BadCodes}
use Rattle.act_service.specs.Services.{Known, Given, HaveLed, CarriesOver, LeadsOn, IsUnderWay}

-- epochs led to some casts, and then codes were given that don't fit them
pub record HasMisgiven {K C : Type 0} (state : K → KindState) (tells : C → SessionView → SessionView → Type 0)
    (gave : Given C) (casts : List ActorSpec) : Type 0 where
  pub left : List (Cast K)
  pub codes : List (ℕ × C)
  pub led : HaveLed tells (gave (Some codes)) casts (map (actor_spec state) left)
  pub unfit : ¬ CodesFit left [] codes

-- what a fault tells: a thread or memory was refused after some epochs, or codes were given that don't fit; of the
-- service's own fault the service alone can tell
abbrev pub IsEpochFault : {K C E : Type 0} → (K → KindState) → (C → SessionView → SessionView → Type 0) →
    Given C → Known C → List ActorSpec → EpochFault E → Type 0
IsEpochFault state tells gave knows casts (Run fault) = IsThreadFault fault
    × ((left : List ActorSpec) × HaveLed tells (IsUnderWay knows gave) casts left)
IsEpochFault state tells gave knows casts (Service fault) = Unit {0}
IsEpochFault state tells gave knows casts (BadCodes) = HasMisgiven state tells gave casts

-- the same of one epoch, which begins with these casts
abbrev pub IsFaultAt : {C E : Type 0} → (C → SessionView → SessionView → Type 0) → Known C → Known C →
    List ActorSpec → EpochFault E → Type 0
IsFaultAt tells before later here (Run fault) = IsThreadFault fault
    × ((left : List ActorSpec) × LeadsOn tells before later here left)
IsFaultAt tells before later here (Service fault) = Unit {0}
IsFaultAt tells before later here (BadCodes) = ⊥

-- the same of the codes that are asked for
abbrev pub IsFaultOfCodes : {K C E : Type 0} → (K → KindState) → Known C → Given C → List (Cast K) → EpochFault E →
    Type 0
IsFaultOfCodes state knows gave casts (Run fault) = ⊥
IsFaultOfCodes state knows gave casts (Service fault) = Unit {0}
IsFaultOfCodes {C = C} state knows gave casts (BadCodes) = (codes : List (ℕ × C))
    × CarriesOver knows (gave (Some codes)) (map (actor_spec state) casts) × ¬ CodesFit casts [] codes

-- a service's own fault
abbrev pub IsOfService : {E : Type 0} → EpochFault E → Type 0
IsOfService (Service fault) = Unit {0}
IsOfService other = ⊥
