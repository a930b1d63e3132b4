-- Where a search looks for the causes of what happens.
use Rattle.std.specs.Prelude.{ℕ, zero, suc, ◌+◌, ◌*◌, ◌^◌, ◌≡◌, ◌<◌, ◌≤◌, ◌==◌, if◌then◌else◌, List, [], ◌∷◌, length, map, take, slice_get, slice_index}
use Rattle.std.specs.Prelude.{slice_index_or, Option, Some, None, option_map, Contains}
use Rattle.std.specs.Option.{option_or}
use Rattle.act_orders.specs.declared.told.Happening.{Happening}
use Rattle.act_orders.specs.declared.told.Happening.TheVariants.{Submitted, Ran, Answered}
use Rattle.act_orders.specs.declared.told.Outcome.{Outcome}
use Rattle.act_orders.specs.declared.told.Outcome.TheVariants as out
use Rattle.act_orders.specs.declared.told.Run.{Run}
use Rattle.act_orders.specs.declared.told.Told.{Told}
use Rattle.act_orders.specs.Order.{call_of, actor_of, calls_run, Happened, SameCaller, SameWay, IsNext}
use Rattle.act_orders.specs.Search.{Graph}

-- the run at this place
abbrev pub run_of : Told → ℕ → Run
run_of told i = slice_index_or told.runs i (record { actor = 0; call = 0 })

-- no number is below an earlier one
abbrev pub Rises : List ℕ → Type 0
Rises ns = (i j : ℕ) → i ≤ j → j < length ns → slice_index ns i ≤ slice_index ns j

-- an earlier call of the same caller
pub record IsEarlier (told : Told) (n k : ℕ) : Type 0 where
  pub before : k < n
  pub caller : SameCaller told k n

-- these are such calls, and not too many
pub record AreEarlier (told : Told) (n : ℕ) (calls : List ℕ) : Type 0 where
  pub few : length calls < 2 ^ 32
  pub each : (k : ℕ) → Contains calls k → IsEarlier told n k

-- the numbers of a history are those of its calls and actors, and each is where it can be
pub record IsWhole (told : Told) : Type 0 where
  pub few : length told.calls < 2 ^ 32
  -- what a call waits for and takes are earlier calls of its caller
  pub waits : (n : ℕ) → n < length told.calls → AreEarlier told n (call_of told n).waits
  pub takes : (n : ℕ) → n < length told.calls → AreEarlier told n (call_of told n).takes
  pub last_waits : (k : ℕ) → Contains told.waits k → k < length told.calls
  -- each call is to an actor, and each run is that of a call, by an actor
  pub actors : (n : ℕ) → n < length told.calls → (call_of told n).actor < length told.actors
  pub runs : (i : ℕ) → i < length told.runs → (run_of told i).call < length told.calls
  pub runners : (i : ℕ) → i < length told.runs → (run_of told i).actor < length told.actors
  -- callers rise along the calls, and actors along the runs
  pub callers : (m n : ℕ) → m ≤ n → n < length told.calls → (call_of told m).caller ≤ (call_of told n).caller
  pub run_actors : (i j : ℕ) → i ≤ j → j < length told.runs → (run_of told i).actor ≤ (run_of told j).actor
  -- each role names a caller, and its callers rise
  pub named : (a : ℕ) → a < length told.actors → 0 < length (actor_of told a).callers
  pub roles : (a : ℕ) → a < length told.actors → Rises (actor_of told a).callers

-- the place of the call's run, if it ran
abbrev pub IsPlace : List Run → ℕ → Option ℕ → Type 0
IsPlace runs n None = Contains (map (λ run. run.call) runs) n → ⊥
IsPlace runs n (Some i) = (a : ℕ) × (slice_get runs i ≡ Some (record { actor = a; call = n }))

abbrev pub place_of : List (Option ℕ) → ℕ → Option ℕ
place_of places n = slice_index_or places n None

pub record HasPlaces (told : Told) (runs : List Run) (places : List (Option ℕ)) : Type 0 where
  pub each : length places ≡ length told.calls
  pub place : (n : ℕ) → n < length told.calls → IsPlace runs n (place_of places n)

-- the caller's call before to the same actor, if there is one
abbrev pub IsBefore : Told → ℕ → Option ℕ → Type 0
IsBefore told n None = (m : ℕ) → m < n → SameWay told m n → ⊥
IsBefore told n (Some p) = (p < n) × SameWay told p n × ((m : ℕ) → m < n → p < m → SameWay told m n → ⊥)

pub record HasBefore (told : Told) (before : List (Option ℕ)) : Type 0 where
  pub each : length before ≡ length told.calls
  pub call : (n : ℕ) → n < length told.calls → IsBefore told n (place_of before n)

-- the last call to the actor among the first n
abbrev pub IsLast : Told → ℕ → ℕ → Option ℕ → Type 0
IsLast told n a None = (m : ℕ) → m < n → (call_of told m).actor ≡ a → ⊥
IsLast told n a (Some p) = (p < n) × ((call_of told p).actor ≡ a) ×
    ((m : ℕ) → m < n → p < m → (call_of told m).actor ≡ a → ⊥)

-- each of the first runs is its caller's next call
abbrev pub TurnTo : Told → ℕ → Type 0
TurnTo told n = (k : ℕ) (run : Run) → k < n → slice_get told.runs k ≡ Some run → IsNext told (take k (calls_run told)) run

-- ---- the graph of causes

-- the call whose happening it is
abbrev pub call_in : Happening → ℕ
call_in (Submitted n) = n
call_in (Ran n) = n
call_in (Answered n) = n

abbrev pub number_of : Happening → ℕ
number_of (Submitted n) = 3 * n
number_of (Ran n) = 3 * n + 1
number_of (Answered n) = 3 * n + 2

-- what the same actor ran before
abbrev pub run_before : Told → Option ℕ → Option Happening
run_before told None = None
run_before told (Some zero) = None
run_before told (Some (suc i)) =
    if (run_of told i).actor == (run_of told (suc i)).actor then Some (Ran (run_of told i).call) else None

-- the submission before of the same caller
abbrev pub call_before : Told → ℕ → Option Happening
call_before told zero = None
call_before told (suc n) = if (call_of told n).caller == (call_of told (suc n)).caller then Some (Submitted n) else None

abbrev pub first_cause : Told → List (Option ℕ) → Happening → Option Happening
first_cause told places (Submitted n) = call_before told n
first_cause told places (Ran n) = run_before told (place_of places n)
first_cause told places (Answered n) = Some (Submitted n)

-- so many runs are of this actor or of an earlier one
pub record IsUpTo (told : Told) (a count : ℕ) : Type 0 where
  pub most : count ≤ length told.runs
  pub before : (i : ℕ) → i < count → (run_of told i).actor ≤ a
  pub later : (i : ℕ) → count ≤ i → i < length told.runs → a < (run_of told i).actor

-- the last call that the actor ran, among these
abbrev pub last_call : List Run → ℕ → Option ℕ
last_call [] a = None
last_call (run ∷ runs) a = option_or (last_call runs a) (if run.actor == a then Some run.call else None)

-- an answer comes after the run, and a death after the last run of the actor
abbrev pub run_answered : Told → Outcome → ℕ → Option Happening
run_answered told out.Died n = option_map (λ m. Ran m) (last_call told.runs (call_of told n).actor)
run_answered told outcome n = Some (Ran n)

abbrev pub second_cause : Told → Happening → Option Happening
second_cause told (Submitted n) = None
second_cause told (Ran n) = Some (Submitted n)
second_cause told (Answered n) = run_answered told (call_of told n).outcome n

-- the calls whose answers come before
abbrev pub taken_by : Told → Happening → List ℕ
taken_by told (Submitted n) = (call_of told n).waits
taken_by told (Ran n) = (call_of told n).takes
taken_by told (Answered n) = []

-- the slots of a happening: in each stands a cause, or none
abbrev pub slots : Told → List (Option ℕ) → Happening → List (Option Happening)
slots told places happening = first_cause told places happening ∷ (second_cause told happening ∷
    map (λ k. Some (Answered k)) (taken_by told happening))

abbrev pub graph_of : Told → List (Option ℕ) → Graph Happening
graph_of told places = record { number = number_of; slots = slots told places; IsNode = Happened told }
