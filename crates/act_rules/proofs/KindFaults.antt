-- No kind answers that the actor died.
use Rattle.act_rules.proofs.Common.{◌≡◌, ◌≢◌, ℕ, zero, suc, Bool, true, false, List, [], ◌∷◌, Some, None, refl, ap, sym, ◌∙◌, Option, ℤ, Result, Ok, Err, Value}
use Rattle.act_rules.proofs.Common.{Int, Text, Fault, Dependency, ActorDied, Method, Add, Get, Put, Del, Size, Deposit, Withdraw, Balance, Push, Pop, At, Len}
use Rattle.act_rules.proofs.Common.{Terminate, RunItem, KindState, CounterAt, TableOf, AccountAt, ItemsOf, OwnAt, Ask, after_ask, Reply, need, look_up}
use Rattle.act_rules.proofs.Common.{counter_reply, table_reply, account_reply, list_reply, kind_fault, told_reply, reply_of, Answer, values_of, step_of_reply}
use Rattle.act_rules.proofs.Common.{call_reply, step_of_call, after_item, answer_at}

-- a kind's fault
abbrev pub is_own : Fault → Bool
is_own (Dependency k) = false
is_own ActorDied = false
is_own fault = true

-- a reply that is a fault is a kind's
record OwnFault (reply : Reply) : Type 0 where
  own : (fault : Fault) → reply ≡ Err fault → is_own fault ≡ true

kept_own : (next : KindState × Value) → OwnFault (Ok next)
kept_own next = record { own = λ fault e. cc }

fault_own : (fault : Fault) → is_own fault ≡ true → OwnFault (Err fault)
fault_own fault own = record { own = λ other e. let same : fault ≡ other = cc in ap is_own (sym same) ∙ own }

need_own : (b : Bool) (fault : Fault) {next : Reply} → is_own fault ≡ true → OwnFault next → OwnFault (need b fault next)
need_own true fault own rest = rest
need_own false fault own rest = fault_own fault own

look_up_own : (state : KindState) (fault : Fault) (o : Option Value) → is_own fault ≡ true → OwnFault (look_up state fault o)
look_up_own state fault None own = fault_own fault own
look_up_own state fault (Some value) own = kept_own (state, value)

counter_own : (n : ℤ) (method : Method) (args : List Value) → OwnFault (counter_reply n method args)
counter_own n Add (Int k ∷ []) = need_own _ _ refl (kept_own _)
counter_own n Add args = fault_own _ refl
counter_own n Get [] = kept_own _
counter_own n Get args = fault_own _ refl
counter_own n method args = fault_own _ refl

table_own : (pairs : List (List ℕ × Value)) (method : Method) (args : List Value) → OwnFault (table_reply pairs method args)
table_own pairs Put (Text key ∷ value ∷ []) = need_own _ _ refl (need_own _ _ refl (kept_own _))
table_own pairs Put args = fault_own _ refl
table_own pairs Get (Text key ∷ []) = need_own _ _ refl (look_up_own _ _ _ refl)
table_own pairs Get args = fault_own _ refl
table_own pairs Del (Text key ∷ []) = need_own _ _ refl (look_up_own _ _ _ refl)
table_own pairs Del args = fault_own _ refl
table_own pairs Size [] = kept_own _
table_own pairs Size args = fault_own _ refl
table_own pairs method args = fault_own _ refl

account_own : (n : ℤ) (method : Method) (args : List Value) → OwnFault (account_reply n method args)
account_own n Deposit (Int k ∷ []) = need_own _ _ refl (need_own _ _ refl (kept_own _))
account_own n Deposit args = fault_own _ refl
account_own n Withdraw (Int k ∷ []) = need_own _ _ refl (need_own _ _ refl (kept_own _))
account_own n Withdraw args = fault_own _ refl
account_own n Balance [] = kept_own _
account_own n Balance args = fault_own _ refl
account_own n method args = fault_own _ refl

list_own : (items : List Value) (method : Method) (args : List Value) → OwnFault (list_reply items method args)
list_own items Push (value ∷ []) = need_own _ _ refl (need_own _ _ refl (kept_own _))
list_own items Push args = fault_own _ refl
list_own items Pop [] = look_up_own _ _ _ refl
list_own items Pop args = fault_own _ refl
list_own items At (Int i ∷ []) = look_up_own _ _ _ refl
list_own items At args = fault_own _ refl
list_own items Len [] = kept_own _
list_own items Len args = fault_own _ refl
list_own items method args = fault_own _ refl

kind_fault_own : (fault : Fault) → is_own (kind_fault fault) ≡ true
kind_fault_own (Dependency k) = refl
kind_fault_own ActorDied = refl
kind_fault_own fault = refl

told_own : (next : KindState) (told : Result Value Fault) → OwnFault (told_reply next told)
told_own next (Ok value) = kept_own _
told_own next (Err fault) = fault_own (kind_fault fault) (kind_fault_own fault)

reply_own : (state : KindState) (method : Method) (args : List Value) → OwnFault (reply_of state method args)
reply_own (CounterAt n) = counter_own n
reply_own (TableOf pairs) = table_own pairs
reply_own (AccountAt n) = account_own n
reply_own (ItemsOf items) = list_own items
reply_own (OwnAt behaviour) = λ method args. let ask : Ask = record { method = method; args = args } in
    told_own (OwnAt (after_ask ask behaviour)) (behaviour.told [] ask)

-- so is a fault with which the actor itself answers
call_own : (state : KindState) (method : Method) (args : List Value) → OwnFault (call_reply state method args)
call_own state Terminate [] = kept_own _
call_own state Terminate (value ∷ values) = fault_own _ refl
call_own state method values = reply_own state method values

-- an answer that isn't a death
abbrev pub IsAlive : Answer → Type 0
IsAlive answer = answer ≢ Err ActorDied

replied_alive : (state : KindState) (reply : Reply) → OwnFault reply → IsAlive (step_of_reply state reply).1
replied_alive state (Ok next) own e = cc
replied_alive state (Err fault) own e = let same : fault ≡ ActorDied = cc in let bad : false ≡ true = sym (ap is_own same) ∙ own.own fault refl in cc

asked_alive : (state : KindState) (item : RunItem) (values : Result (List Value) ℕ) → IsAlive (step_of_call state item values).1
asked_alive state item (Ok values) e = replied_alive state (call_reply state item.method values) (call_own state item.method values) e
asked_alive state item (Err k) e = cc

-- no place of a run list answers that the actor died
pub answer_alive : (state : KindState) (items : List RunItem) (place : ℕ) {answer : Answer} → answer_at state items place ≡ Some answer → IsAlive answer
answer_alive state [] place e dead = cc
answer_alive state (item ∷ items) zero {answer} e dead =
    let same : (after_item state item).1 ≡ answer = cc in asked_alive state item (values_of item.args) (same ∙ dead)
answer_alive state (item ∷ items) (suc place) {answer} e dead = answer_alive (after_item state item).0 items place e dead
