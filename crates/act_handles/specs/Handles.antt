-- What contracts say of one caller's handles.
use Rattle.std.specs.Prelude.{◌≡◌, ◌≢◌, ℕ, ◌+◌, ◌-◌, ◌<◌, ◌≤◌, ◌==◌, Bool, if◌then◌else◌, nat_lt, List, map, find, sum_by, AllPairs, length, slice_index_or}
use Rattle.std.specs.Prelude.{slice_set, Option, Some, None, is_some, Result, Ok, Err}
use Rattle.std.specs.Option.{option_map, option_map_or}
use Rattle.act_types.specs.declared.limits.TheConstants.{MAX_CALLS}
use Rattle.act_rules.specs.Submissions.{needs, copies_held, copy_refusal, handle_refusal}
use Rattle.act_rules.specs.declared.outcome.HandleRefusal.{HandleRefusal}
use Rattle.act_rules.specs.declared.outcome.HandleRefusal.TheVariants.{NoActor, NoHandle, TooManyCalls}
use Rattle.act_handles.specs.declared.handles.Handle.{Handle}

abbrev pub is_of : ℕ → Handle → Bool
is_of a handle = handle.actor == a

-- the copies held of an actor's handle, where the actor is in the list
abbrev pub copies_in : ℕ → List Handle → Option ℕ
copies_in a handles = option_map (λ handle. handle.copies) (find (is_of a) handles)

-- how many numbers were given to calls of an actor
abbrev pub given_in : ℕ → List Handle → ℕ
given_in a handles = option_map_or (λ handle. handle.given) (find (is_of a) handles) 0

-- how many numbers were given in all
abbrev pub given_of_all : List Handle → ℕ
given_of_all handles = sum_by (λ handle. handle.given) handles

-- the list with this actor's handle changed
abbrev pub change_handle : ℕ → (Handle → Handle) → List Handle → List Handle
change_handle a change handles = map (λ handle. if is_of a handle then change handle else handle) handles

-- one copy of the handle, and no number given
abbrev pub new_handle : ℕ → Handle
new_handle a = record { actor = a; copies = 1; given = 0 }

-- after a copy, a number and a release
abbrev pub with_copy : ℕ → List Handle → List Handle
with_copy a handles = change_handle a (λ handle. record handle { copies = handle.copies + 1 }) handles

abbrev pub with_number : ℕ → List Handle → List Handle
with_number a handles = change_handle a (λ handle. record handle { given = handle.given + 1 }) handles

abbrev pub without_copy : ℕ → List Handle → List Handle
without_copy a handles = change_handle a (λ handle. record handle { copies = handle.copies - 1 }) handles

-- why a call gets no number
abbrev pub number_refusal : List Handle → ℕ → Option HandleRefusal
number_refusal handles a =
    needs (is_some (copies_in a handles)) NoActor (
    needs (nat_lt 0 (copies_held (copies_in a handles))) NoHandle (
    needs (nat_lt (given_of_all handles) MAX_CALLS) TooManyCalls None))

-- the refusal, or else the value
abbrev pub or_else : {X : Type 0} → Option HandleRefusal → X → Result X HandleRefusal
or_else None value = Ok value
or_else (Some refusal) value = Err refusal

-- what a copy answers: the copies held afterwards
abbrev pub copy_answer : ℕ → List Handle → Result ℕ HandleRefusal
copy_answer a handles = or_else (copy_refusal (copies_in a handles)) (copies_held (copies_in a handles) + 1)

-- what a call gets: how many numbers were given to the actor before
abbrev pub number_answer : ℕ → List Handle → Result ℕ HandleRefusal
number_answer a handles = or_else (number_refusal handles a) (given_in a handles)

-- what a release answers: after the last copy the number of calls
abbrev pub release_answer : ℕ → List Handle → Result (Option ℕ) HandleRefusal
release_answer a handles =
    or_else (handle_refusal (copies_in a handles))
    (if copies_held (copies_in a handles) == 1 then Some (given_in a handles) else None)

abbrev pub actors_in : List Handle → List ℕ
actors_in handles = map (λ handle. handle.actor) handles

-- no actor stands in the list twice, and few enough numbers were given
abbrev pub IsHandles : List Handle → Type 0
IsHandles handles =
    AllPairs (λ one other. one ≢ other) (actors_in handles) × (given_of_all handles ≤ MAX_CALLS)

-- the actor's handle stands at this place
pub record IsAt (a : ℕ) (handles : List Handle) (place : ℕ) : Type 0 where
  pub below : place < length handles
  pub found : (d : Handle) → find (is_of a) handles ≡ Some (slice_index_or handles place d)
  pub actor : (d : Handle) → (slice_index_or handles place d).actor ≡ a
  -- a change of the handle is a write at its place
  pub changes : (d : Handle) (change : Handle → Handle) →
      change_handle a change handles ≡ slice_set handles place (change (slice_index_or handles place d))
