-- What contracts see of an actor's kind: which kind it is, and what it holds.
use Rattle.std.specs.Prelude.{ℕ, List, ℤ}
use Rattle.act_types.specs.declared.call.Value.{Value}
use Rattle.act_types.specs.Own.{Behaviour}

pub data KindState : Type 0 where
  -- a counter at a number
  CounterAt : (number : ℤ) → KindState
  -- a table of keys, each with its value, in order
  TableOf : (pairs : List (List ℕ × Value)) → KindState
  -- an account with a balance
  AccountAt : (balance : ℤ) → KindState
  -- a list of values
  ItemsOf : (items : List Value) → KindState
  -- a kind of one's own, by what it answers from now on
  OwnAt : (behaviour : Behaviour) → KindState
