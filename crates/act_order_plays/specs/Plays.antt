-- What it means that a play of the rules leaves what a history tells.
use Rattle.std.specs.Prelude.{ℕ, ◌≡◌, ◌≢◌, ◌<◌, ◌≤◌, ◌==◌, ◌↔◌, Bool, true, false, List, [], ◌++◌, length, map, filter, Option, Some, None, is_some, Result, Ok}
use Rattle.std.specs.Prelude.{Err, Contains, IsTrue, ◌⊎◌}
use Rattle.std.specs.List.{enumerate_from, range_with_len}
use Rattle.act_types.specs.declared.limits.TheConstants.{MAX_ARGS, MAX_CALLS}
use Rattle.act_types.specs.declared.call.Arg.{Arg}
use Rattle.act_types.specs.declared.call.Arg.TheVariants.{Fut}
use Rattle.act_types.specs.declared.call.Fault.{Fault}
use Rattle.act_types.specs.declared.call.Fault.TheVariants.{BadArgs, ActorDied}
use Rattle.act_types.specs.declared.call.Method.{Method}
use Rattle.act_types.specs.declared.call.Method.TheVariants.{Get}
use Rattle.act_types.specs.declared.call.Value.{Value}
use Rattle.act_types.specs.declared.call.Value.TheVariants.{Unit as Nothing}
use Rattle.act_types.specs.KindState.{OwnAt}
use Rattle.act_types.specs.Own.{Behaviour}
use Rattle.act_rules.specs.declared.event.Event.{Event}
use Rattle.act_rules.specs.declared.history.RunItem.{RunItem}
use Rattle.act_rules.specs.declared.history.Submission.{Submission}
use Rattle.act_rules.specs.RunList.{Answer}
use Rattle.act_rules.specs.Submissions.{kept_at}
use Rattle.act_rules.specs.History.{ActorSpec, History, calls_of, runs_of, kept_of, is_dead, is_retired}
use Rattle.act_rules.specs.Laws.{history}
use Rattle.act_orders.specs.declared.told.Actor.{Actor}
use Rattle.act_orders.specs.declared.told.End.{End}
use Rattle.act_orders.specs.declared.told.End.TheVariants.{Live, Dead, Retired}
use Rattle.act_orders.specs.declared.told.Happening.{Happening}
use Rattle.act_orders.specs.declared.told.Happening.TheVariants.{Ran}
use Rattle.act_orders.specs.declared.told.Outcome.{Outcome}
use Rattle.act_orders.specs.declared.told.Outcome.TheVariants.{Answered, Failed, Died, Open}
use Rattle.act_orders.specs.declared.told.Told.{Told}
use Rattle.act_orders.specs.Order.{call_of, actor_of, Happened, IsInOrderBy, IsInOrder}
use Rattle.act_orders.specs.Causes.{IsWhole}

-- the calls of a caller, in order
abbrev pub calls_by : Told → ℕ → List ℕ
calls_by told c = filter (λ n. (call_of told n).caller == c) (range_with_len 0 (length told.calls))

-- the future of a call: how many of its caller's calls come before it
abbrev pub future_of : Told → ℕ → ℕ
future_of told n = length (filter (λ m. (call_of told m).caller == (call_of told n).caller) (range_with_len 0 n))

-- the calls that an actor ran, in order
abbrev pub runs_by : Told → ℕ → List ℕ
runs_by told a = map (λ run. run.call) (filter (λ run. run.actor == a) told.runs)

-- the arguments of a call: the futures of the calls whose answers it takes
abbrev pub args_of : Told → ℕ → List Arg
args_of told n = map (λ m. Fut (future_of told m)) (call_of told n).takes

-- ---- what is left

-- a submission by its actor and its arguments, and the call that is told
abbrev pub submission_key : Submission → ℕ × List Arg
submission_key call = (call.actor, call.args)

abbrev pub call_key : Told → ℕ → ℕ × List Arg
call_key told n = ((call_of told n).actor, args_of told n)

-- an item of a run list by its caller and its future, and the call that is told
abbrev pub item_key : RunItem → ℕ × ℕ
item_key item = (item.caller, item.future)

abbrev pub run_key : Told → ℕ → ℕ × ℕ
run_key told n = ((call_of told n).caller, future_of told n)

-- what its caller keeps for a call: nothing for an open one, but that the actor died
abbrev pub IsKeptFor : Outcome → Option Answer → Type 0
IsKeptFor Answered kept = kept ≡ Some (Ok Nothing)
IsKeptFor Failed kept = (fault : Fault) × (kept ≡ Some (Err fault)) × (fault ≢ ActorDied)
IsKeptFor Died kept = kept ≡ Some (Err ActorDied)
IsKeptFor Open kept = (kept ≡ None) ⊎ (kept ≡ Some (Err ActorDied))

-- the answer that the caller of a call keeps for it
abbrev pub kept_for : Told → ℕ → History → Option Answer
kept_for told n h = kept_at (kept_of (call_of told n).caller h) (future_of told n)

-- how an actor stands at the end
abbrev pub EndsAs : End → Bool → Bool → Type 0
EndsAs Live dead retired = (dead ≡ false) × (retired ≡ false)
EndsAs Dead dead retired = (dead ≡ true) × (retired ≡ false)
EndsAs Retired dead retired = (dead ≡ false) × (retired ≡ true)

-- these accepted events left what is told
pub record LeavesTold (told : Told) (h : History) : Type 0 where
  -- each caller submitted its calls, in order
  pub calls : (c : ℕ) → map submission_key (calls_of c h) ≡ map (call_key told) (calls_by told c)
  -- each actor ran its runs, in order
  pub runs : (a : ℕ) → map item_key (runs_of a h) ≡ map (run_key told) (runs_by told a)
  -- each caller keeps the answers that are told
  pub answers : (n : ℕ) → n < length told.calls → IsKeptFor (call_of told n).outcome (kept_for told n h)
  -- each actor ended as it is told
  pub ends : (a : ℕ) → a < length told.actors → EndsAs (actor_of told a).end (is_dead a h) (is_retired a h)

-- ---- the actors of the play

-- a kind with two methods: one answers unit, and the other fails
abbrev pub answer_to : Method → Result Value Fault
answer_to Get = Ok Nothing
answer_to method = Err BadArgs

abbrev pub answers : Behaviour
answers = record { told = λ asks ask. answer_to ask.method; text = λ asks. [] }

-- the cast of an actor: those that may call it, and no limit
abbrev pub cast_of_actor : ℕ × Actor → ActorSpec
cast_of_actor actor = record { actor = actor.0; callers = actor.1.callers; opening = OwnAt answers; pending = None }

abbrev pub casts_of : Told → List ActorSpec
casts_of told = map cast_of_actor (enumerate_from 0 told.actors)

-- ---- the law

-- after the first of these events the caller kept the answer for which it waited, and hadn't submitted the call; that
-- answer is told
pub record Waited (told : Told) (events : List Event) (n m : ℕ) : Type 0 where
  pub first : List Event
  pub later : List Event
  pub joined : first ++ later ≡ events
  pub kept : IsTrue (is_some (kept_for told m (history (casts_of told) first)))
  pub not_yet : length (calls_of (call_of told n).caller (history (casts_of told) first)) ≤ future_of told n
  pub is_told : (call_of told m).outcome ≢ Open

-- these events are a play of what is told
pub record IsPlayOf (told : Told) (events : List Event) : Type 0 where
  -- they leave what is told
  pub leaves : LeavesTold told (history (casts_of told) events)
  -- a caller waited for an answer before it submitted a call
  pub waits : (n m : ℕ) → n < length told.calls → Contains (call_of told n).waits m → Waited told events n m
  -- an answer for which a caller waited after its last call is told
  pub last_waits : (m : ℕ) → Contains told.waits m → (call_of told m).outcome ≢ Open
  -- so is an answer that a call took which ran
  pub taken : (n m : ℕ) → Happened told (Ran n) → Contains (call_of told n).takes m → (call_of told m).outcome ≢ Open

-- what is told is within the limits of the service
pub record Fits (told : Told) : Type 0 where
  pub few_args : (n : ℕ) → n < length told.calls → length (call_of told n).takes ≤ MAX_ARGS
  pub few_calls : (n : ℕ) → n < length told.calls → future_of told n < MAX_CALLS

-- a history in order is a play of the rules, over actors of this kind
abbrev pub HistoriesArePlays : Type 0
HistoriesArePlays = (told : Told) (order : List Happening) → IsWhole told → Fits told → IsInOrderBy told order →
    (events : List Event) × IsPlayOf told events

-- what a play of the rules leaves is in order
abbrev pub PlaysAreInOrder : Type 0
PlaysAreInOrder = (told : Told) (events : List Event) → IsWhole told → IsPlayOf told events → IsInOrder told

-- some events are a play of what is told
abbrev pub IsPlay : Told → Type 0
IsPlay told = (events : List Event) × IsPlayOf told events

-- a history is in order, and fits, exactly where it is a play of the rules
abbrev pub OrdersArePlays : Type 0
OrdersArePlays = (told : Told) → IsWhole told → (IsInOrder told × Fits told) ↔ IsPlay told
