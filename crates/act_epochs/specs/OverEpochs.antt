-- What holds over all epochs: of what each actor ran, of what each caller submitted, and of the answers that are kept.
use Rattle.std.specs.Prelude.{◌≡◌, ◌≢◌, ℕ, ◌+◌, ◌<◌, true, false, List, [], ◌∷◌, ◌++◌, length, map, flat_map, slice_get, Option, Some, None, is_some}
use Rattle.std.specs.Prelude.{option_and_then, Err, AllPairs}
use Rattle.std.specs.List.{AllByRecursion, enumerate_from}
use Rattle.act_types.specs.KindState.{KindState, OwnAt}
use Rattle.act_types.specs.Own.{Ask, StepOf, behaves}
use Rattle.act_types.specs.declared.call.Fault.TheVariants.{ActorDied}
use Rattle.act_rules.specs.declared.history.RunItem.{RunItem}
use Rattle.act_rules.specs.RunList.{Answer, items_of, state_after, answer_at}
use Rattle.act_rules.specs.OwnRuns.{IsKept, Left}
use Rattle.act_rules.specs.Submissions.{calls_to, kept_at}
use Rattle.act_rules.specs.Consistent.{IsPrefix, IsAsSubmitted, IsCallToDead}
use Rattle.act_rules.specs.History.{ActorSpec, opening, opening_of}
use Rattle.act_serve.specs.Served.{EndView}
use Rattle.act_drive.specs.Sessions.{SessionView}
use Rattle.act_plans.specs.Runs.{cast_at}
use Rattle.act_executor.specs.Joined.{CallsThatDiedNeverRan, end_of, calls_in, kept_in, log_in, killed_in}
use Rattle.act_own.specs.Kept.{Keeps, OpensAt}
use Rattle.act_epochs.specs.Epochs.{Epoch, IsEpoch, casts_left, AreEpochs, casts_after}

-- ---- what there is of an actor and of a caller over all epochs

-- the runs of an actor, those of each epoch after those of the one before
abbrev pub runs : {C : Type 0} → ℕ → List (Epoch C) → List RunItem
runs a epochs = flat_map (λ epoch. log_in epoch.ends a) epochs

-- the calls of a caller to an actor in an epoch, each by the epoch's number and its future; and those that ran
abbrev pub submitted_in : {C : Type 0} → ℕ → ℕ → ℕ × Epoch C → List (ℕ × ℕ)
submitted_in a c numbered = map (λ call. (numbered.0, call.0)) (calls_to a (calls_in numbered.1.owners c))

abbrev pub ran_in : {C : Type 0} → ℕ → ℕ → ℕ × Epoch C → List (ℕ × ℕ)
ran_in a c numbered = map (λ item. (numbered.0, item.future)) (items_of c (log_in numbered.1.ends a))

-- the same of all epochs, which are numbered from 0
abbrev pub submitted : {C : Type 0} → ℕ → ℕ → List (Epoch C) → List (ℕ × ℕ)
submitted a c epochs = flat_map (submitted_in a c) (enumerate_from 0 epochs)

abbrev pub ran : {C : Type 0} → ℕ → ℕ → List (Epoch C) → List (ℕ × ℕ)
ran a c epochs = flat_map (ran_in a c) (enumerate_from 0 epochs)

-- ---- the law of all epochs

-- the cast that is left of an actor is its first one, in the state after all its runs
pub record IsInState {C : Type 0} (casts : List ActorSpec) (epochs : List (Epoch C)) (a : ℕ)
    (left : ActorSpec) : Type 0 where
  pub first : ActorSpec
  pub at : cast_at a casts ≡ Some first
  pub is : left ≡ record first { opening = state_after first.opening (runs a epochs) }

-- the answer to the caller's call k of an epoch is that of its place among all runs of its actor, from the state on in
-- which the first cast opened it
pub record IsAnswerOfAllRuns {C : Type 0} (casts : List ActorSpec) (before : List (Epoch C)) (epoch : Epoch C)
    (after : List (Epoch C)) (c k : ℕ) (answer : Answer) : Type 0 where
  pub actor : ℕ
  pub place : ℕ
  pub item : RunItem
  pub here : slice_get (log_in epoch.ends actor) place ≡ Some item
  pub at : slice_get (runs actor (before ++ epoch ∷ after)) (length (runs actor before) + place) ≡ Some item
  pub caller : item.caller ≡ c
  pub future : item.future ≡ k
  pub answered : option_and_then (λ state. answer_at state (runs actor (before ++ epoch ∷ after))
      (length (runs actor before) + place)) (opening_of actor (opening casts)) ≡ Some answer

-- nothing more comes of the actor: it runs nothing in these epochs, no call to it is accepted, and it has no cast left
pub record IsOver {C : Type 0} (a : ℕ) (later : List (Epoch C)) (left : List ActorSpec) : Type 0 where
  pub ran : runs a later ≡ []
  pub asked : (c : ℕ) → submitted a c later ≡ []
  pub cast : cast_at a left ≡ None

-- an epoch among those before and those after it
pub record IsConsistentAmong {C : Type 0} (casts : List ActorSpec) (before : List (Epoch C)) (epoch : Epoch C)
    (after : List (Epoch C)) : Type 0 where
  -- each actor that it opened ran every call of those before, and was in the state after these runs
  pub so_far : (a c : ℕ) (cast : ActorSpec) → cast_at a epoch.casts ≡ Some cast → ran a c before ≡ submitted a c before
  pub opened : (a : ℕ) (cast : ActorSpec) → cast_at a epoch.casts ≡ Some cast → IsInState casts before a cast
  -- each call that ran is as it was submitted
  pub as_submitted : (a : ℕ) →
      AllByRecursion (IsAsSubmitted (calls_in epoch.owners) (kept_in epoch.owners)) (log_in epoch.ends a)
  -- an actor that was killed stays dead
  pub ended : (a : ℕ) → killed_in epoch.ends a ≡ true → IsOver a after (casts_after casts (before ++ epoch ∷ after))
  -- any other has a cast for the next epoch
  pub goes_on : (a : ℕ) (end : EndView) → end_of a epoch.ends ≡ Some end → killed_in epoch.ends a ≡ false →
      (left : ActorSpec) × (cast_at a (casts_left epoch) ≡ Some left)
  -- each call has its answer
  pub answered : (c k : ℕ) → k < length (calls_in epoch.owners c) →
      is_some (kept_at (kept_in epoch.owners c) k) ≡ true
  -- an answer other than a death is that of the call's place among all runs of its actor
  pub answers : (c k : ℕ) (answer : Answer) → kept_at (kept_in epoch.owners c) k ≡ Some answer →
      answer ≢ Err ActorDied → IsAnswerOfAllRuns casts before epoch after c k answer
  -- a death is kept only for a call to an actor that was killed in this epoch, and such a call never ran
  pub deaths : (c k : ℕ) → kept_at (kept_in epoch.owners c) k ≡ Some (Err ActorDied) →
      IsCallToDead (calls_in epoch.owners) (killed_in epoch.ends) c k
  pub never_ran : CallsThatDiedNeverRan (kept_in epoch.owners) (log_in epoch.ends)

pub record AreConsistent {C : Type 0} (casts : List ActorSpec) (epochs : List (Epoch C)) : Type 0 where
  -- what an actor ran of a caller's calls is a prefix of the caller's calls to it, epoch after epoch
  pub in_order : (a c : ℕ) → IsPrefix (ran a c epochs) (submitted a c epochs)
  -- and no call stands twice there
  pub once : (a c : ℕ) → AllPairs (λ one other. one ≢ other) (submitted a c epochs)
  -- an actor that has a cast left ran every call to it
  pub whole : (a c : ℕ) (left : ActorSpec) → cast_at a (casts_after casts epochs) ≡ Some left →
      ran a c epochs ≡ submitted a c epochs
  -- and is in the state after all its runs
  pub states : (a : ℕ) (left : ActorSpec) → cast_at a (casts_after casts epochs) ≡ Some left →
      IsInState casts epochs a left
  -- what ended and what was answered in each of them
  pub each : (before after : List (Epoch C)) (epoch : Epoch C) → epochs ≡ before ++ epoch ∷ after →
      IsConsistentAmong casts before epoch after

abbrev pub EpochsAreConsistent : {C : Type 0} → (C → SessionView → SessionView → Type 0) → Type 0
EpochsAreConsistent {C} tells = (casts : List ActorSpec) (epochs : List (Epoch C)) → AreEpochs tells casts epochs →
    AreConsistent casts epochs

-- ---- the law of one epoch more

-- with it the epochs still follow one another, the casts that are left are its own, and its runs come last
pub record GoesOn {C : Type 0} (tells : C → SessionView → SessionView → Type 0) (casts : List ActorSpec)
    (epochs : List (Epoch C)) (epoch : Epoch C) : Type 0 where
  pub follow : AreEpochs tells casts (epochs ++ epoch ∷ [])
  pub left : casts_after casts (epochs ++ epoch ∷ []) ≡ casts_left epoch
  pub last : (a : ℕ) → runs a (epochs ++ epoch ∷ []) ≡ runs a epochs ++ log_in epoch.ends a

-- an epoch that opens with the casts that the others left
abbrev pub EpochsGoOn : {C : Type 0} → (C → SessionView → SessionView → Type 0) → Type 0
EpochsGoOn {C} tells = (casts : List ActorSpec) (epochs : List (Epoch C)) (epoch : Epoch C) →
    AreEpochs tells casts epochs → epoch.casts ≡ casts_after casts epochs → IsEpoch tells epoch →
    GoesOn tells casts epochs epoch

-- ---- the law of a kind of one's own

-- what is left of an actor of the kind: its cast, or its runs alone
abbrev pub CastKeeps : {S : Type 0} → StepOf S → (S → List ℕ) → (List (Ask × Answer) → S → Type 0) → KindState →
    List RunItem → Option ActorSpec → Type 0
CastKeeps step written holds opened log (Some left) = Keeps step written holds opened log left.opening
CastKeeps step written holds opened log None = Left step written holds opened log

-- what each step keeps holds over all epochs
abbrev pub KeptOverEpochs : {C S : Type 0} → (C → SessionView → SessionView → Type 0) → StepOf S → (S → List ℕ) →
    (List (Ask × Answer) → S → Type 0) → Type 0
KeptOverEpochs {C} {S} tells step written holds = IsKept step holds →
    (casts : List ActorSpec) (epochs : List (Epoch C)) → AreEpochs tells casts epochs →
    (a : ℕ) (start : S) → OpensAt step written casts a start → holds [] start →
    CastKeeps step written holds (OwnAt (behaves step written start)) (runs a epochs)
    (cast_at a (casts_after casts epochs))
