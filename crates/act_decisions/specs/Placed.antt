-- When each call that ran is told where, and no answer that is left open has to be guessed.
use Rattle.std.specs.Prelude.{◌≡◌, ◌≢◌, ℕ, true, false, List, [], map, slice_get, Option, Some, None, Ok, is_some, option_and_then, Contains}
use Rattle.act_types.specs.declared.call.Settled.{Settled}
use Rattle.act_types.specs.declared.call.Settled.TheVariants.{Bad}
use Rattle.act_types.specs.declared.call.Value.{Value}
use Rattle.act_rules.specs.declared.history.RunItem.{RunItem}
use Rattle.act_rules.specs.History.{ActorSpec, opening, opening_of}
use Rattle.act_rules.specs.RunList.{Answer, answer_at}
use Rattle.act_told_ends.specs.Untold.{arg_as_run}
use Rattle.act_walks.specs.declared.told.Left.TheVariants.{Open, Reply, Death}
use Rattle.act_walks.specs.declared.told.ToldCall.{ToldCall}
use Rattle.act_walks.specs.declared.told.ToldCaller.{ToldCaller}
use Rattle.act_walks.specs.declared.told.ToldEnd.{ToldEnd}
use Rattle.act_walks.specs.declared.told.ToldRun.{ToldRun}
use Rattle.act_walks.specs.Fits.{caller_in, calls_in, rans_in, is_dead_in, call_of_run}

-- the caller's call k is this one
abbrev pub IsCallIn : ToldEnd → ℕ → ℕ → ToldCall → Type 0
IsCallIn end c k call = slice_get (calls_in end c) k ≡ Some call

-- this ran at a place of the actor's run list
abbrev pub IsRunIn : ToldEnd → ℕ → ℕ → ToldRun → Type 0
IsRunIn end a p run = slice_get (rans_in end a) p ≡ Some run

-- it ran there
abbrev pub IsPlacedAt : ToldEnd → ℕ → ℕ → ℕ → ℕ → Type 0
IsPlacedAt end a p c k = (call : ToldCall) × IsCallIn end c k call × (call.place ≡ Some (a, p))

-- each call that stands in a run list is told to have run there
abbrev pub RunsArePlaced : ToldEnd → Type 0
RunsArePlaced end = (a p : ℕ) (run : ToldRun) → IsRunIn end a p run → IsPlacedAt end a p run.caller run.future

-- a call that is told to have run stands in that run list
abbrev pub StandsThere : ToldEnd → ℕ → ℕ → ToldCall → Type 0
StandsThere end c k call = (a p : ℕ) → call.place ≡ Some (a, p) →
    (run : ToldRun) × IsRunIn end a p run × (call_of_run run ≡ (c, k))

-- ---- what it answered

-- as an item of a run list
abbrev pub item_told : ToldRun → RunItem
item_told run = record {
  caller = run.caller;
  number = 0;
  future = run.future;
  method = run.method;
  args = run.args;
}

-- what an actor of these casts answers there, if it ran as is told
abbrev pub answer_told : List ActorSpec → ToldEnd → ℕ → ℕ → Option Answer
answer_told casts end a p =
    option_and_then (λ state. answer_at state (map item_told (rans_in end a)) p) (opening_of a (opening casts))

-- it answers a value there
abbrev pub GaveValue : List ActorSpec → ToldEnd → ℕ → ℕ → Type 0
GaveValue casts end a p = (value : Value) × (answer_told casts end a p ≡ Some (Ok value))

-- a call of the caller ran that took the failure of its call k
pub record TookFailure (end : ToldEnd) (c k : ℕ) : Type 0 where
  pub actor : ℕ
  pub place : ℕ
  pub run : ToldRun
  pub at : IsRunIn end actor place run
  pub caller : run.caller ≡ c
  pub took : Contains run.args (Bad k)

-- ---- nothing has to be guessed

-- it is left open whether the call's reply is kept, or the death of its actor, and it is taken for a reply
abbrev pub MayHaveDied : ToldEnd → ToldCall → Type 0
MayHaveDied end call = (call.is_open ≡ true) × (call.left ≡ Reply) × (is_dead_in end call.actor ≡ true)

-- an answer that is left open is kept. It is taken for a death where the call didn't run, and where a later call took
-- its failure though it gave a value. A call that no line tells is as it ran, and has no arguments where it didn't
pub record IsDecided (casts : List ActorSpec) (end : ToldEnd) (c k : ℕ) (caller : ToldCaller) (call : ToldCall) : Type 0 where
  pub left : call.is_open ≡ true → call.left ≢ Open
  pub reply : call.is_open ≡ true → call.left ≡ Reply → is_some call.place ≡ true
  pub death : (a p : ℕ) → call.is_open ≡ true → call.left ≡ Death → call.place ≡ Some (a, p) →
      GaveValue casts end a p × TookFailure end c k
  pub untold : caller.has_lines ≡ false → call.place ≡ None → call.args ≡ []
  pub as_ran : (a p : ℕ) (run : ToldRun) → caller.has_lines ≡ false → call.place ≡ Some (a, p) → IsRunIn end a p run →
      (call.method ≡ run.method) × (call.args ≡ map arg_as_run run.args)

-- all of this holds of each call
abbrev pub AllDecided : List ActorSpec → ToldEnd → Type 0
AllDecided casts end = (c k : ℕ) (caller : ToldCaller) (call : ToldCall) → caller_in end c ≡ Some caller →
    slice_get caller.calls.items k ≡ Some call → StandsThere end c k call × IsDecided casts end c k caller call

-- an argument of the caller isn't the failure of a call that gave a value, and that is taken for a reply
abbrev pub TakesNoValue : List ActorSpec → ToldEnd → ℕ → Settled → Type 0
TakesNoValue casts end c arg = (k a p : ℕ) (call : ToldCall) → arg ≡ Bad k → IsCallIn end c k call →
    MayHaveDied end call → call.place ≡ Some (a, p) → GaveValue casts end a p → ⊥

-- none of a run is
abbrev pub TakesNone : List ActorSpec → ToldEnd → ToldRun → Type 0
TakesNone casts end run = (i : ℕ) (arg : Settled) → slice_get run.args i ≡ Some arg → TakesNoValue casts end run.caller arg

-- none of any run is
abbrev pub NoValueIsLost : List ActorSpec → ToldEnd → Type 0
NoValueIsLost casts end = (b q : ℕ) (run : ToldRun) → IsRunIn end b q run → TakesNone casts end run
