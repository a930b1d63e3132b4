-- What a service knows of epochs, and how far epochs have led.
use Rattle.std.specs.Prelude.{◌≡◌, ℕ, ◌⊎◌, List, [], ◌∷◌, ◌++◌, map, Option, Some}
use Rattle.act_types.specs.KindState.{KindState}
use Rattle.act_rules.specs.History.{ActorSpec}
use Rattle.act_drive.specs.Sessions.{SessionView}
use Rattle.act_serve.specs.Served.{end_view}
use Rattle.act_executor.specs.declared.joined.Joined.{Joined}
use Rattle.act_epochs.specs.Epochs.{Epoch, IsEpoch, AreEpochs, casts_after}

-- what is known of epochs, the first of which opened with some casts
abbrev pub Known : Type 0 → Type 1
Known C = List ActorSpec → List (Epoch C) → Type 0

-- the same, where codes were given for the next epoch, or none at the end
abbrev pub Given : Type 0 → Type 1
Given C = Option (List (ℕ × C)) → Known C

-- epochs led from some casts to those that are left, and are known so
pub record HaveLed {C : Type 0} (tells : C → SessionView → SessionView → Type 0) (knows : Known C)
    (casts left : List ActorSpec) : Type 0 where
  pub epochs : List (Epoch C)
  pub follow : AreEpochs tells casts epochs
  pub after : left ≡ casts_after casts epochs
  pub known : knows casts epochs

-- this epoch follows those, and left this
pub record IsNext {C K L : Type 0} (tells : C → SessionView → SessionView → Type 0) (state : K → KindState)
    (casts : List ActorSpec) (epochs : List (Epoch C)) (epoch : Epoch C) (joined : Joined K L) : Type 0 where
  pub before : AreEpochs tells casts epochs
  pub casts_are : epoch.casts ≡ casts_after casts epochs
  pub is : IsEpoch tells epoch
  pub owners : epoch.owners ≡ joined.owners.items
  pub ends : epoch.ends ≡ map (λ actor. end_view state actor.ended) joined.actors.items

-- what was known of epochs that led to these casts is known so later
abbrev pub CarriesOver : {C : Type 0} → Known C → Known C → List ActorSpec → Type 0
CarriesOver {C} before later here = (casts : List ActorSpec) (epochs : List (Epoch C)) →
    here ≡ casts_after casts epochs → before casts epochs → later casts epochs

-- where codes were given for it, the epoch that left this is known with those before it
abbrev pub BecomesKnown : {C K L : Type 0} → (C → SessionView → SessionView → Type 0) → (K → KindState) →
    Given C → Known C → Joined K L → Type 0
BecomesKnown {C} tells state gave later joined = (casts : List ActorSpec) (epochs : List (Epoch C))
    (epoch : Epoch C) → IsNext tells state casts epochs epoch joined → gave (Some epoch.codes) casts epochs →
    later casts (epochs ++ epoch ∷ [])

-- epochs that led to some casts lead on to others
abbrev pub LeadsOn : {C : Type 0} → (C → SessionView → SessionView → Type 0) → Known C → Known C →
    List ActorSpec → List ActorSpec → Type 0
LeadsOn tells before later here left = (casts : List ActorSpec) → HaveLed tells before casts here →
    HaveLed tells later casts left

-- all epochs are known, or codes were given for one more, which is not looked at
abbrev pub IsUnderWay : {C : Type 0} → Known C → Given C → Known C
IsUnderWay {C} knows gave casts epochs =
    knows casts epochs ⊎ ((codes : List (ℕ × C)) × gave (Some codes) casts epochs)
