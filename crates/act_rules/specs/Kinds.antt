-- What each kind of actor answers to a call, and the state that the call leaves.
use Rattle.std.specs.Prelude.{ℕ, ◌-◌, ℤ, pos, negsuc, ◌+ℤ◌, ◌-ℤ◌, int_lt, int_le, Bool, true, false, not, ◌&&◌, ◌||◌, if◌then◌else◌, nat_lt, List, [], ◌∷◌}
use Rattle.std.specs.Prelude.{◌++◌, length, take, filter, slice_get, find, Option, Some, None, option_map, is_some, Result, Ok, Err, bytes_eq}
use Rattle.act_types.specs.KindState.{KindState, CounterAt, TableOf, AccountAt, ItemsOf, OwnAt}
use Rattle.act_types.specs.Own.{Ask, Behaviour, after_ask}
use Rattle.act_types.specs.GoodText.{is_good_text}
use Rattle.act_types.specs.declared.limits.TheConstants.{MAX_ITEMS, MAX_KEYS}
use Rattle.act_types.specs.declared.call.Value.{Value}
use Rattle.act_types.specs.declared.call.Value.TheVariants.{Unit as Nothing, Int, Text}
use Rattle.act_types.specs.declared.call.Fault.{Fault}
use Rattle.act_types.specs.declared.call.Fault.TheVariants.{NoMethod, BadArgs, Overflow, NoKey, BadAmount, Insufficient, NoItems, NoItem, KindFull, Dependency}
use Rattle.act_types.specs.declared.call.Fault.TheVariants.{ActorDied}
use Rattle.act_types.specs.declared.call.Method.{Method}
use Rattle.act_types.specs.declared.call.Method.TheVariants.{Add, Get, Put, Del, Size, Deposit, Withdraw, Balance, Push, Pop, At, Len}

-- the new state and the value, or the fault, which leaves the state
abbrev pub Reply : Type 0
Reply = Result (KindState × Value) Fault

-- a number or a good text, which a table or a list can hold
abbrev pub is_storable : Value → Bool
is_storable Nothing = false
is_storable (Int n) = true
is_storable (Text text) = is_good_text text

-- a number that an `i64` holds
abbrev pub is_in_range : ℤ → Bool
is_in_range n = int_le (negsuc 9223372036854775807) n && int_le n (pos 9223372036854775807)

-- the fault where the condition fails, and else what comes next
abbrev pub need : Bool → Fault → Reply → Reply
need condition fault next = if condition then next else Err fault

-- the value with the same state, or the fault where there is none
abbrev pub look_up : KindState → Fault → Option Value → Reply
look_up state fault None = Err fault
look_up state fault (Some value) = Ok (state, value)

-- the number of elements, as a value
abbrev pub count_value : {A : Type 0} → List A → Value
count_value xs = Int (pos (length xs))

-- the sum becomes the state of a counter
abbrev pub counter_reply : ℤ → Method → List Value → Reply
counter_reply n Add (Int k ∷ []) = need (is_in_range (n +ℤ k)) Overflow (Ok (CounterAt (n +ℤ k), Int (n +ℤ k)))
counter_reply n Add args = Err BadArgs
counter_reply n Get [] = Ok (CounterAt n, Int n)
counter_reply n Get args = Err BadArgs
counter_reply n method args = Err NoMethod

-- the value at a key
abbrev pub value_at : List ℕ → List (List ℕ × Value) → Option Value
value_at key pairs = option_map (λ pair. pair.1) (find (λ pair. bytes_eq pair.0 key) pairs)

-- a new key goes last, and a present key keeps its place
abbrev pub with_pair : List ℕ → Value → List (List ℕ × Value) → List (List ℕ × Value)
with_pair key value [] = (key, value) ∷ []
with_pair key value (pair ∷ pairs) = if bytes_eq pair.0 key then (key, value) ∷ pairs
    else pair ∷ with_pair key value pairs

-- the pairs of the other keys
abbrev pub without_key : List ℕ → List (List ℕ × Value) → List (List ℕ × Value)
without_key key pairs = filter (λ pair. not (bytes_eq pair.0 key)) pairs

abbrev pub table_reply : List (List ℕ × Value) → Method → List Value → Reply
table_reply pairs Put (Text key ∷ value ∷ []) =
    need (is_good_text key && is_storable value) BadArgs (
    need (is_some (value_at key pairs) || nat_lt (length pairs) MAX_KEYS) KindFull (
    Ok (TableOf (with_pair key value pairs), Nothing)))
table_reply pairs Put args = Err BadArgs
table_reply pairs Get (Text key ∷ []) = need (is_good_text key) BadArgs
    (look_up (TableOf pairs) NoKey (value_at key pairs))
table_reply pairs Get args = Err BadArgs
table_reply pairs Del (Text key ∷ []) =
    need (is_good_text key) BadArgs (look_up (TableOf (without_key key pairs)) NoKey (value_at key pairs))
table_reply pairs Del args = Err BadArgs
table_reply pairs Size [] = Ok (TableOf pairs, count_value pairs)
table_reply pairs Size args = Err BadArgs
table_reply pairs method args = Err NoMethod

abbrev pub account_reply : ℤ → Method → List Value → Reply
account_reply n Deposit (Int k ∷ []) =
    need (int_lt (pos 0) k) BadAmount (
    need (is_in_range (n +ℤ k)) Overflow (
    Ok (AccountAt (n +ℤ k), Int (n +ℤ k))))
account_reply n Deposit args = Err BadArgs
account_reply n Withdraw (Int k ∷ []) =
    need (int_lt (pos 0) k) BadAmount (
    need (int_le k n) Insufficient (
    Ok (AccountAt (n -ℤ k), Int (n -ℤ k))))
account_reply n Withdraw args = Err BadArgs
account_reply n Balance [] = Ok (AccountAt n, Int n)
account_reply n Balance args = Err BadArgs
account_reply n method args = Err NoMethod

-- the item at a place, from 0
abbrev pub item_at : ℤ → List Value → Option Value
item_at (pos i) items = slice_get items i
item_at (negsuc i) items = None

abbrev pub list_reply : List Value → Method → List Value → Reply
list_reply items Push (value ∷ []) =
    need (is_storable value) BadArgs (
    need (nat_lt (length items) MAX_ITEMS) KindFull (
    Ok (ItemsOf (items ++ value ∷ []), count_value (items ++ value ∷ []))))
list_reply items Push args = Err BadArgs
list_reply items Pop [] = look_up (ItemsOf (take (length items - 1) items)) NoItems (slice_get items (length items - 1))
list_reply items Pop args = Err BadArgs
list_reply items At (Int i ∷ []) = look_up (ItemsOf items) NoItem (item_at i items)
list_reply items At args = Err BadArgs
list_reply items Len [] = Ok (ItemsOf items, count_value items)
list_reply items Len args = Err BadArgs
list_reply items method args = Err NoMethod

-- a fault of a kind: that an argument failed, or that the actor died, is none
abbrev pub kind_fault : Fault → Fault
kind_fault (Dependency k) = NoMethod
kind_fault ActorDied = NoMethod
kind_fault fault = fault

abbrev pub told_reply : KindState → Result Value Fault → Reply
told_reply next (Ok value) = Ok (next, value)
told_reply next (Err fault) = Err (kind_fault fault)

-- a kind of one's own answers what its behaviour tells
abbrev pub own_reply : Behaviour → Method → List Value → Reply
own_reply behaviour method args =
    let ask : Ask = record { method = method; args = args } in
    told_reply (OwnAt (after_ask ask behaviour)) (behaviour.told [] ask)

-- what a kind answers to a call
abbrev pub reply_of : KindState → Method → List Value → Reply
reply_of (CounterAt n) = counter_reply n
reply_of (TableOf pairs) = table_reply pairs
reply_of (AccountAt n) = account_reply n
reply_of (ItemsOf items) = list_reply items
reply_of (OwnAt behaviour) = own_reply behaviour
