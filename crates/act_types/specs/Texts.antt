-- How ids, methods, values, faults, answers and the states of kinds are written.
use Rattle.std.specs.Prelude.{ℕ, List, [], ◌++◌, ◌&&◌, if◌then◌else◌, nat_le, map, flat_map, Result, Ok, Err, codes, decimal}
use Rattle.std.specs.Fmt.{signed_decimal}
use Rattle.act_types.specs.declared.call.Value.{Value}
use Rattle.act_types.specs.declared.call.Value.TheVariants.{Unit as Nothing, Int, Text}
use Rattle.act_types.specs.declared.call.Fault.{Fault}
use Rattle.act_types.specs.declared.call.Fault.TheVariants as fault
use Rattle.act_types.specs.declared.call.Method.{Method}
use Rattle.act_types.specs.declared.call.Method.TheVariants as method
use Rattle.act_types.specs.declared.call.Settled.{Settled}
use Rattle.act_types.specs.declared.call.Settled.TheVariants.{Good, Bad}
use Rattle.act_types.specs.KindState.{KindState, CounterAt, TableOf, AccountAt, ItemsOf, OwnAt}

abbrev pub space : List ℕ
space = codes " "

-- the parts with a space before each
abbrev pub with_spaces : List (List ℕ) → List ℕ
with_spaces parts = flat_map (λ part. space ++ part) parts

-- `c1`
abbrev pub caller_text : ℕ → List ℕ
caller_text c = codes "c" ++ decimal c

-- `a1`
abbrev pub actor_text : ℕ → List ℕ
actor_text a = codes "a" ++ decimal a

abbrev pub method_text : Method → List ℕ
method_text method.Add = codes "add"
method_text method.Get = codes "get"
method_text method.Put = codes "put"
method_text method.Del = codes "del"
method_text method.Size = codes "size"
method_text method.Deposit = codes "deposit"
method_text method.Withdraw = codes "withdraw"
method_text method.Balance = codes "balance"
method_text method.Push = codes "push"
method_text method.Pop = codes "pop"
method_text method.At = codes "at"
method_text method.Len = codes "len"
method_text method.Terminate = codes "terminate"
method_text (method.Own name) = name

-- a value: `unit`, a number, or a text between quotes
abbrev pub value_text : Value → List ℕ
value_text Nothing = codes "unit"
value_text (Int n) = signed_decimal n
value_text (Text text) = codes "\"" ++ text ++ codes "\""

abbrev pub fault_text : Fault → List ℕ
fault_text fault.NoMethod = codes "NoMethod"
fault_text fault.BadArgs = codes "BadArgs"
fault_text fault.Overflow = codes "Overflow"
fault_text fault.NoKey = codes "NoKey"
fault_text fault.BadAmount = codes "BadAmount"
fault_text fault.Insufficient = codes "Insufficient"
fault_text fault.NoItems = codes "NoItems"
fault_text fault.NoItem = codes "NoItem"
fault_text fault.KindFull = codes "KindFull"
fault_text (fault.Dependency k) = codes "Dependency(" ++ decimal k ++ codes ")"
fault_text fault.ActorDied = codes "ActorDied"
fault_text (fault.Own name) = name

-- an answer, as its value or as its fault
abbrev pub answer_text : Result Value Fault → List ℕ
answer_text (Ok value) = value_text value
answer_text (Err fault) = fault_text fault

-- an argument of a call that ran: its value, or `!` and the future that failed
abbrev pub settled_text : Settled → List ℕ
settled_text (Good value) = value_text value
settled_text (Bad k) = codes "!" ++ decimal k

-- a key and its value
abbrev pub pair_text : List ℕ × Value → List ℕ
pair_text pair = value_text (Text pair.0) ++ space ++ value_text pair.1

-- a byte that prints, or a space; a `?` stands for any other
abbrev pub shown_byte : ℕ → ℕ
shown_byte byte = if nat_le 32 byte && nat_le byte 126 then byte else 63

-- a text as a part of one line, which it doesn't leave empty
abbrev pub one_line : List ℕ → List ℕ
one_line [] = codes "?"
one_line text = map shown_byte text

-- the state of a kind: its name, and what it holds
abbrev pub state_text : KindState → List ℕ
state_text (CounterAt n) = codes "counter " ++ signed_decimal n
state_text (TableOf pairs) = codes "table" ++ with_spaces (map pair_text pairs)
state_text (AccountAt n) = codes "account " ++ signed_decimal n
state_text (ItemsOf items) = codes "list" ++ with_spaces (map value_text items)
state_text (OwnAt behaviour) = one_line (behaviour.text [])
