-- The worked rows of the kinds: what a call answers, and the state that it leaves.
use Rattle.std.specs.Prelude.{ℕ, ◌≡◌, ℤ, pos, neg_ℤ, List, [], ◌∷◌, ◌++◌, map, replicate, Ok, Err, codes, decimal}
use Rattle.act_types.specs.declared.call.Value.{Value}
use Rattle.act_types.specs.declared.call.Value.TheVariants.{Unit as Nothing, Int, Text}
use Rattle.act_types.specs.declared.call.Fault.{Fault}
use Rattle.act_types.specs.declared.call.Fault.TheVariants.{NoMethod, BadArgs, Overflow, BadAmount, Insufficient, NoItems, NoItem, KindFull}
use Rattle.act_types.specs.declared.call.Method.{Method}
use Rattle.act_types.specs.declared.call.Method.TheVariants.{Add, Get, Put, Del, Deposit, Withdraw, Push, Pop, At, Terminate}
use Rattle.act_types.specs.KindState.{KindState, CounterAt, TableOf, AccountAt, ItemsOf}
use Rattle.act_rules.specs.Kinds.{reply_of}
use Rattle.act_rules.specs.Report.{one_to}

abbrev pub int : ℕ → Value
int n = Int (pos n)

abbrev pub minus : ℕ → Value
minus n = Int (neg_ℤ (pos n))

-- the call answers the value and leaves the new state
abbrev pub Answers : KindState → Method → List Value → Value → KindState → Type 0
Answers before method args value after = reply_of before method args ≡ Ok (after, value)

-- the call is refused, and leaves the state
abbrev pub Refuses : KindState → Method → List Value → Fault → Type 0
Refuses before method args fault = reply_of before method args ≡ Err fault

-- a table of 1,024 keys, `k1` to `k1024`, each with its number
abbrev pub full : List (List ℕ × Value)
full = map (λ n. (codes "k" ++ decimal n, int n)) (one_to 1024)

-- the same with the first value changed
abbrev pub full_after : Value → List (List ℕ × Value) → List (List ℕ × Value)
full_after value [] = []
full_after value (pair ∷ pairs) = (pair.0, value) ∷ pairs

-- the largest and the least number
abbrev pub max_int : ℤ
max_int = pos 9223372036854775807

abbrev pub min_int : ℤ
min_int = neg_ℤ (pos 9223372036854775808)

pub record KindRows : Type 0 where
  pub counter_adds : Answers (CounterAt (pos 0)) Add (minus 3 ∷ []) (minus 3) (CounterAt (neg_ℤ (pos 3)))
  pub counter_overflows_below : Refuses (CounterAt min_int) Add (minus 1 ∷ []) Overflow
  pub counter_has_no_push : Refuses (CounterAt (pos 4)) Push (int 1 ∷ []) NoMethod
  pub counter_get_takes_nothing : Refuses (CounterAt (pos 4)) Get (int 1 ∷ []) BadArgs
  pub counter_adds_numbers_only : Refuses (CounterAt (pos 4)) Add (Nothing ∷ []) BadArgs
  pub table_put_keeps_the_place : Answers (TableOf ((codes "a", int 1) ∷ (codes "b", int 2) ∷ [])) Put (Text (codes "a") ∷ Text (codes "x") ∷ []) Nothing
      (TableOf ((codes "a", Text (codes "x")) ∷ (codes "b", int 2) ∷ []))
  pub table_del_keeps_the_order : Answers (TableOf ((codes "a", int 1) ∷ (codes "b", int 2) ∷ (codes "c", int 3) ∷ [])) Del (Text (codes "b") ∷ []) (int 2)
      (TableOf ((codes "a", int 1) ∷ (codes "c", int 3) ∷ []))
  pub table_full_refuses_a_new_key : Refuses (TableOf full) Put (Text (codes "z") ∷ int 1 ∷ []) KindFull
  pub table_full_takes_a_present_key : Answers (TableOf full) Put (Text (codes "k1") ∷ int 7 ∷ []) Nothing (TableOf (full_after (int 7) full))
  pub table_refuses_a_long_key : Refuses (TableOf []) Put (Text (replicate 65 97) ∷ int 1 ∷ []) BadArgs
  pub table_refuses_unit : Refuses (TableOf []) Put (Text (codes "a") ∷ Nothing ∷ []) BadArgs
  pub account_withdraws_all : Answers (AccountAt (pos 10)) Withdraw (int 10 ∷ []) (int 0) (AccountAt (pos 0))
  pub account_insufficient : Refuses (AccountAt (pos 10)) Withdraw (int 11 ∷ []) Insufficient
  pub account_deposits_above_zero : Refuses (AccountAt (pos 10)) Deposit (int 0 ∷ []) BadAmount
  pub account_overflows : Refuses (AccountAt max_int) Deposit (int 1 ∷ []) Overflow
  pub account_withdraws_above_zero : Refuses (AccountAt (pos 10)) Withdraw (minus 1 ∷ []) BadAmount
  pub list_pops_nothing : Refuses (ItemsOf []) Pop [] NoItems
  pub list_at_past_the_end : Refuses (ItemsOf (int 7 ∷ [])) At (int 1 ∷ []) NoItem
  pub list_pushes_last : Answers (ItemsOf (int 7 ∷ [])) Push (Text (codes "a") ∷ []) (int 2) (ItemsOf (int 7 ∷ Text (codes "a") ∷ []))
  pub list_pops_last : Answers (ItemsOf (int 7 ∷ Text (codes "a") ∷ [])) Pop [] (Text (codes "a")) (ItemsOf (int 7 ∷ []))
  -- no kind ends an actor
  pub counter_has_no_terminate : Refuses (CounterAt (pos 4)) Terminate [] NoMethod
  pub table_has_no_terminate : Refuses (TableOf []) Terminate [] NoMethod
  pub account_has_no_terminate : Refuses (AccountAt (pos 4)) Terminate (int 1 ∷ []) NoMethod
  pub list_has_no_terminate : Refuses (ItemsOf []) Terminate [] NoMethod
