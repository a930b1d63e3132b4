-- When a history is in order, by its order alone.
use Rattle.std.specs.Prelude.{ℕ, ◌+◌, ◌≡◌, ◌≢◌, ◌<◌, ◌≤◌, List, [], length, map, take, slice_get, slice_index_or, Some, Contains}
use Rattle.act_orders.specs.declared.told.Actor.{Actor}
use Rattle.act_orders.specs.declared.told.Call.{Call}
use Rattle.act_orders.specs.declared.told.End.TheVariants.{Live, Dead, Retired}
use Rattle.act_orders.specs.declared.told.Happening.{Happening}
use Rattle.act_orders.specs.declared.told.Happening.TheVariants.{Submitted, Ran, Answered}
use Rattle.act_orders.specs.declared.told.Outcome.{Outcome}
use Rattle.act_orders.specs.declared.told.Outcome.TheVariants.{Died, Open}
use Rattle.act_orders.specs.declared.told.Outcome.TheVariants as out
use Rattle.act_orders.specs.declared.told.Run.{Run}
use Rattle.act_orders.specs.declared.told.Told.{Told}

-- the call at this place; past the last one it is an open one of nobody
abbrev pub call_of : Told → ℕ → Call
call_of told n = slice_index_or told.calls n (record { caller = 0; actor = 0; waits = []; takes = []; outcome = Open })

-- the actor at this place
abbrev pub actor_of : Told → ℕ → Actor
actor_of told a = slice_index_or told.actors a (record { callers = []; end = Live })

-- the calls that ran, of one actor after the other
abbrev pub calls_run : Told → List ℕ
calls_run told = map (λ run. run.call) told.runs

-- both calls are of one caller
abbrev pub SameCaller : Told → ℕ → ℕ → Type 0
SameCaller told m n = (call_of told m).caller ≡ (call_of told n).caller

-- and to one actor
abbrev pub SameWay : Told → ℕ → ℕ → Type 0
SameWay told m n = SameCaller told m n × ((call_of told m).actor ≡ (call_of told n).actor)

-- ---- (1) run lists

-- what an actor runs after these runs is its caller's next call to it
pub record IsNext (told : Told) (before : List ℕ) (run : Run) : Type 0 where
  -- it was submitted to this actor
  pub here : (call_of told run.call).actor ≡ run.actor
  -- it hasn't run
  pub once : Contains before run.call → ⊥
  -- each earlier call of its caller to the actor has
  pub in_turn : (n : ℕ) → n < run.call → SameWay told n run.call → Contains before n

abbrev pub RunsInTurn : Told → Type 0
RunsInTurn told = (i : ℕ) (run : Run) → slice_get told.runs i ≡ Some run → IsNext told (take i (calls_run told)) run

-- ---- (2) ends

-- what happened: each call was submitted, those of the run lists ran, and those that aren't open were answered
abbrev pub Happened : Told → Happening → Type 0
Happened told (Submitted n) = n < length told.calls
Happened told (Ran n) = Contains (calls_run told) n
Happened told (Answered n) = (n < length told.calls) × ((call_of told n).outcome ≢ Open)

-- how a call stands goes with its actor
pub record EndsRight (told : Told) (n : ℕ) : Type 0 where
  -- its caller may call the actor
  pub role : Contains (actor_of told (call_of told n).actor).callers (call_of told n).caller
  -- a death is that of a dead actor
  pub died : (call_of told n).outcome ≡ Died → (actor_of told (call_of told n).actor).end ≡ Dead
  -- an actor that retired ran it
  pub retired : (actor_of told (call_of told n).actor).end ≡ Retired → Happened told (Ran n)
  -- where it is answered, so is each call whose answer it takes
  pub taken : (call_of told n).outcome ≡ out.Answered → (k : ℕ) → Contains (call_of told n).takes k →
      (call_of told k).outcome ≡ out.Answered

-- ---- (3) causes

-- it is the last call that the actor ran
pub record IsLastRun (told : Told) (a m : ℕ) : Type 0 where
  pub place : ℕ
  pub at : slice_get told.runs place ≡ Some (record { actor = a; call = m })
  pub last : (i : ℕ) (run : Run) → slice_get told.runs i ≡ Some run → run.actor ≡ a → i ≤ place

-- what ran before the answer: the call itself, and before a death all that its actor ran
abbrev pub RunsBefore : Told → Outcome → ℕ → ℕ → Type 0
RunsBefore told Died m n = IsLastRun told (call_of told n).actor m
RunsBefore told outcome m n = m ≡ n

-- the actor that ran the one ran the other next
abbrev pub RunsNext : Told → ℕ → ℕ → Type 0
RunsNext told m n = (i a : ℕ) × (slice_get told.runs i ≡ Some (record { actor = a; call = m })) ×
    (slice_get told.runs (i + 1) ≡ Some (record { actor = a; call = n }))

-- the first must come before the second
abbrev pub IsCause : Told → Happening → Happening → Type 0
-- a call is submitted after its caller's call before, and after the answers for which its caller waited
IsCause told (Submitted m) (Submitted n) = (m + 1 ≡ n) × SameCaller told m n
IsCause told (Answered m) (Submitted n) = Contains (call_of told n).waits m
IsCause told (Ran m) (Submitted n) = ⊥
-- it runs after its submission, after what its actor ran before, and after the answers that it takes
IsCause told (Submitted m) (Ran n) = m ≡ n
IsCause told (Ran m) (Ran n) = RunsNext told m n
IsCause told (Answered m) (Ran n) = Contains (call_of told n).takes m
-- it is answered after its submission and its run, and by a death after the last call that its actor ran
IsCause told (Submitted m) (Answered n) = m ≡ n
IsCause told (Ran m) (Answered n) = RunsBefore told (call_of told n).outcome m n
IsCause told (Answered m) (Answered n) = ⊥

-- it comes after these, among which it isn't, and each of its causes is
pub record IsAfter (told : Told) (before : List Happening) (happening : Happening) : Type 0 where
  pub once : Contains before happening → ⊥
  pub causes : (cause : Happening) → IsCause told cause happening → Contains before cause

-- an order of all that happened, each once, in which causes come first
pub record IsOrder (told : Told) (order : List Happening) : Type 0 where
  pub all : (happening : Happening) → Happened told happening → Contains order happening
  pub only : (happening : Happening) → Contains order happening → Happened told happening
  pub after : (i : ℕ) (happening : Happening) → slice_get order i ≡ Some happening →
      IsAfter told (take i order) happening

-- ---- all of it

-- the history is in order, by this order of what happened
pub record IsInOrderBy (told : Told) (order : List Happening) : Type 0 where
  pub runs : RunsInTurn told
  pub ends : (n : ℕ) → n < length told.calls → EndsRight told n
  -- each answer for which a caller waited after its last call has come
  pub waits : (k : ℕ) → Contains told.waits k → Happened told (Answered k)
  pub causes : IsOrder told order

abbrev pub IsInOrder : Told → Type 0
IsInOrder told = (order : List Happening) × IsInOrderBy told order
