-- The parts of a whole history.
use Rattle.std.specs.Prelude.{ℕ, ◌^◌, ◌<◌, ◌≤◌, length, Contains}
use Rattle.act_orders.specs.declared.told.Told.{Told}
use Rattle.act_orders.specs.Order.{call_of, actor_of}
use Rattle.act_orders.specs.Causes.{Rises, AreEarlier, run_of}

-- the numbers of a call
pub record CallFits (told : Told) (n : ℕ) : Type 0 where
  pub actor : (call_of told n).actor < length told.actors
  pub waits : AreEarlier told n (call_of told n).waits
  pub takes : AreEarlier told n (call_of told n).takes

-- those of a run
pub record RunFits (told : Told) (i : ℕ) : Type 0 where
  pub call : (run_of told i).call < length told.calls
  pub actor : (run_of told i).actor < length told.actors

-- those of a role
pub record RoleFits (told : Told) (a : ℕ) : Type 0 where
  pub named : 0 < length (actor_of told a).callers
  pub rises : Rises (actor_of told a).callers

-- there aren't too many calls, and each that is awaited at last is one
pub record CountFits (told : Told) : Type 0 where
  pub few : length told.calls < 2 ^ 32
  pub waits : (k : ℕ) → Contains told.waits k → k < length told.calls

-- all numbers
pub record NumbersFit (told : Told) : Type 0 where
  pub count : CountFits told
  pub calls : (n : ℕ) → n < length told.calls → CallFits told n
  pub runs : (i : ℕ) → i < length told.runs → RunFits told i
  pub roles : (a : ℕ) → a < length told.actors → RoleFits told a

-- callers rise along the calls
abbrev pub CallersRise : Told → Type 0
CallersRise told = (m n : ℕ) → m ≤ n → n < length told.calls → (call_of told m).caller ≤ (call_of told n).caller

-- actors rise along the runs
abbrev pub ActorsRise : Told → Type 0
ActorsRise told = (i j : ℕ) → i ≤ j → j < length told.runs → (run_of told i).actor ≤ (run_of told j).actor

-- both
pub record Rising (told : Told) : Type 0 where
  pub callers : CallersRise told
  pub actors : ActorsRise told
