-- What the kinds of scripts answer is sayable, and so is what they hold.
use Rattle.act_summaries.proofs.Common.{◌≡◌, ℕ, zero, suc, ◌+◌, ◌-◌, ◌<◌, ◌≤◌, ◌||◌, ◌&&◌, ◌^◌, Bool, true, false, cond, not, List, [], ◌∷◌, ◌++◌, length, take}
use Rattle.act_summaries.proofs.Common.{refl, sym, ap, ◌∙◌, arith, filter, find, slice_get, Option, Some, None, option_map, is_some, Result, Ok, Err, bytes_eq}
use Rattle.act_summaries.proofs.Common.{nat_lt, ℤ, pos, negsuc, length-append, AllByRecursion, and_parts, ltb-true, nat_tests, is_good_text, KindState}
use Rattle.act_summaries.proofs.Common.{CounterAt, TableOf, AccountAt, ItemsOf, OwnAt, Value, Fault, NoMethod, BadArgs, Overflow, NoKey, BadAmount}
use Rattle.act_summaries.proofs.Common.{Insufficient, NoItems, NoItem, KindFull, Method, Settled, Good, Bad, RunItem, is_in_range, is_storable, need, look_up}
use Rattle.act_summaries.proofs.Common.{count_value, counter_reply, with_pair, without_key, table_reply, account_reply, item_at, list_reply, reply_of, Answer}
use Rattle.act_summaries.proofs.Common.{with_value, values_of, step_of_reply, call_reply, step_of_call, after_item, state_after, answers_from, is_sayable}
use Rattle.act_summaries.proofs.Common.{length-filter_least, All_at}
use Rattle.std.specs.Prelude.{◌+ℤ◌, ◌-ℤ◌, int_lt, int_le}
use Rattle.std.proofs.lemmas.Int.{ints}
use Rattle.act_types.specs.declared.call.Value.TheVariants.{Unit as Nothing, Int, Text}
use Rattle.act_types.specs.declared.call.Method.TheVariants.{Add, Get, Put, Del, Size, Deposit, Withdraw, Balance, Push, Pop, At, Len, Terminate}
use Rattle.act_rules.specs.Kinds.{Reply, value_at}
use Rattle.act_summaries.proofs.Bytes.{Each-append, Each-take}
use Rattle.act_summaries.proofs.Words.{IsGoodArg, IsGoodAnswer, IsGoodPair, IsGoodState, is_known_fault}

abbrev AreSayable : List Value → Type 0
AreSayable values = AllByRecursion (λ v. is_sayable v ≡ true) values

abbrev IsGoodReply : Reply → Type 0
IsGoodReply (Ok next) = IsGoodState next.0 × (is_sayable next.1 ≡ true)
IsGoodReply (Err fault) = is_known_fault fault ≡ true

record IsFine (reply : Reply) : Type 0 where
  fine : IsGoodReply reply

failed : (fault : Fault) → is_known_fault fault ≡ true → IsFine (Err fault)
failed fault own = record { fine = own }

answered : (state : KindState) (v : Value) → IsGoodState state → is_sayable v ≡ true → IsFine (Ok (state, v))
answered state v good said = record { fine = (good, said) }

need_good : (b : Bool) (fault : Fault) (next : Reply) → is_known_fault fault ≡ true → (b ≡ true → IsFine next) → IsFine (need b fault next)
need_good true fault next own rest = rest refl
need_good false fault next own rest = failed fault own

look_up_good : (state : KindState) (fault : Fault) (o : Option Value) → is_known_fault fault ≡ true → IsGoodState state →
    ((v : Value) → o ≡ Some v → is_sayable v ≡ true) → IsFine (look_up state fault o)
look_up_good state fault None own good value = failed fault own
look_up_good state fault (Some v) own good value = answered state v good (value v refl)

pub low_in_range : (n : ℕ) → n < 2 ^ 63 → is_in_range (pos n) ≡ true
low_in_range n low = grind (arith, nat_tests)

small_in_range : {n : ℕ} → n ≤ 4096 → is_in_range (pos n) ≡ true
small_in_range {n} few = low_in_range n (omega (arith, few))

-- ---- lists

take_few : {A : Type 0} (n : ℕ) (xs : List A) → length (take n xs) ≤ length xs
take_few zero xs = omega arith
take_few (suc n) [] = omega arith
take_few (suc n) (x ∷ xs) = omega (arith, take_few n xs)

filter_good : {A : Type 0} (P : A → Type 0) (p : A → Bool) (xs : List A) → AllByRecursion P xs → AllByRecursion P (filter p xs)
filter_good P p [] h = tt
filter_good {A = A} P p (x ∷ xs) h = go (p x) (filter_good P p xs h.1)
  where
    go : (b : Bool) → AllByRecursion P (filter p xs) → AllByRecursion P (cond b (x ∷ filter p xs) (filter p xs))
    go true rest = (h.0, rest)
    go false rest = rest

-- ---- counters and accounts

counter_good : (n : ℤ) (method : Method) (args : List Value) → is_in_range n ≡ true → IsFine (counter_reply n method args)
counter_good n Add (Int k ∷ []) h = need_good (is_in_range (n +ℤ k)) Overflow _ refl (λ e. answered (CounterAt (n +ℤ k)) (Int (n +ℤ k)) e e)
counter_good n Add args h = failed BadArgs refl
counter_good n Get [] h = answered (CounterAt n) (Int n) h h
counter_good n Get args h = failed BadArgs refl
counter_good n method args h = failed NoMethod refl

withdrawn : (n k : ℤ) → is_in_range n ≡ true → int_lt (pos 0) k ≡ true → int_le k n ≡ true → is_in_range (n -ℤ k) ≡ true
withdrawn (pos a) (pos b) h some few =
    let least : b ≤ a = first_of (grind (arith, nat_tests), grind (arith, ints)) in
    let small : a < 2 ^ 63 = grind (arith, nat_tests) in let is : pos a -ℤ pos b ≡ pos (a - b) = omega (arith, ints, least) in
    ap is_in_range is ∙ low_in_range (a - b) (omega (arith, least, small))
withdrawn (pos a) (negsuc b) h some few = cc
withdrawn (negsuc a) (pos b) h some few = cc
withdrawn (negsuc a) (negsuc b) h some few = cc

account_good : (n : ℤ) (method : Method) (args : List Value) → is_in_range n ≡ true → IsFine (account_reply n method args)
account_good n Deposit (Int k ∷ []) h = need_good (int_lt (pos 0) k) BadAmount _ refl
    (λ some. need_good (is_in_range (n +ℤ k)) Overflow _ refl (λ e. answered (AccountAt (n +ℤ k)) (Int (n +ℤ k)) e e))
account_good n Deposit args h = failed BadArgs refl
account_good n Withdraw (Int k ∷ []) h =
    need_good (int_lt (pos 0) k) BadAmount _ refl
    (λ some. need_good (int_le k n) Insufficient _ refl (λ few. let e = withdrawn n k h some few in answered (AccountAt (n -ℤ k)) (Int (n -ℤ k)) e e))
account_good n Withdraw args h = failed BadArgs refl
account_good n Balance [] h = answered (AccountAt n) (Int n) h h
account_good n Balance args h = failed BadArgs refl
account_good n method args h = failed NoMethod refl

-- ---- tables

value_good : (key : List ℕ) (pairs : List (List ℕ × Value)) (v : Value) → AllByRecursion IsGoodPair pairs → value_at key pairs ≡ Some v → is_sayable v ≡ true
value_good key [] v h e = cc
value_good key (pair ∷ pairs) v h e = go (bytes_eq pair.0 key) (value_good key pairs v h.1) e
  where
    go : (b : Bool) → (value_at key pairs ≡ Some v → is_sayable v ≡ true) →
        option_map (λ (p : List ℕ × Value). p.1) (cond b (Some pair) (find (λ (p : List ℕ × Value). bytes_eq p.0 key) pairs)) ≡ Some v → is_sayable v ≡ true
    go true rest e = let same : pair.1 ≡ v = cc in ap is_sayable (sym same) ∙ h.0.1
    go false rest e = rest e

with_good : (key : List ℕ) (value : Value) (pairs : List (List ℕ × Value)) → is_good_text key ≡ true → is_sayable value ≡ true →
    AllByRecursion IsGoodPair pairs → AllByRecursion IsGoodPair (with_pair key value pairs)
with_good key value [] k v h = ((k, v), tt)
with_good key value (pair ∷ pairs) k v h = go (bytes_eq pair.0 key) (with_good key value pairs k v h.1)
  where
    go : (b : Bool) → AllByRecursion IsGoodPair (with_pair key value pairs) →
        AllByRecursion IsGoodPair (cond b ((key, value) ∷ pairs) (pair ∷ with_pair key value pairs))
    go true rest = ((k, v), h.1)
    go false rest = (h.0, rest)

-- a key that is there adds no pair, and another adds one
with_few : (key : List ℕ) (value : Value) (pairs : List (List ℕ × Value)) →
    (length (with_pair key value pairs) ≤ length pairs + 1) × (is_some (value_at key pairs) ≡ true → length (with_pair key value pairs) ≤ length pairs)
with_few key value [] = (omega arith, λ e. cc)
with_few key value (pair ∷ pairs) = go (bytes_eq pair.0 key) (with_few key value pairs)
  where
    go : (b : Bool) → (length (with_pair key value pairs) ≤ length pairs + 1) × (is_some (value_at key pairs) ≡ true → length
        (with_pair key value pairs) ≤ length pairs) → (length (cond b ((key, value) ∷ pairs) (pair ∷ with_pair key value pairs)) ≤ suc (length pairs) + 1) ×
        (is_some (option_map (λ (p : List ℕ × Value). p.1) (cond b (Some pair) (find (λ (p : List ℕ × Value). bytes_eq p.0 key) pairs))) ≡ true →
        length (cond b ((key, value) ∷ pairs) (pair ∷ with_pair key value pairs)) ≤ suc (length pairs))
    go true rest = (omega arith, λ e. omega arith)
    go false rest = (omega (arith, rest.0), λ e. omega (arith, rest.1 e))

put_few : (has room : Bool) {count n : ℕ} → (has || room) ≡ true → (room ≡ true → n < 1024) → n ≤ 1024 → count ≤ n + 1 → (has ≡ true → count ≤ n) → count ≤ 1024
put_few true room e small few one none = omega (arith, none refl, few)
put_few false room e small few one none = omega (arith, small e, one)

table_good : (pairs : List (List ℕ × Value)) (method : Method) (args : List Value) → IsGoodState (TableOf pairs) → AreSayable args →
    IsFine (table_reply pairs method args)
table_good pairs Put (Text key ∷ v ∷ []) h s =
    need_good (is_good_text key && is_storable v) BadArgs _ refl (λ fits.
    need_good (is_some (value_at key pairs) || nat_lt (length pairs) 1024) KindFull _ refl (λ room.
    let few = with_few key v pairs in
    answered (TableOf (with_pair key v pairs)) Nothing (
      with_good key v pairs (and_parts (is_good_text key) (is_storable v) fits).0 s.1.0 h.0,
      put_few (is_some (value_at key pairs)) (nat_lt (length pairs) 1024) room (ltb-true (length pairs) 1024) h.1 few.0 few.1,
    ) refl))
table_good pairs Put args h s = failed BadArgs refl
table_good pairs Get (Text key ∷ []) h s =
    need_good (is_good_text key) BadArgs _ refl (λ fits. look_up_good (TableOf pairs) NoKey (value_at key pairs) refl h (λ v e. value_good key pairs v h.0 e))
table_good pairs Get args h s = failed BadArgs refl
table_good pairs Del (Text key ∷ []) h s =
    let least = length-filter_least (λ (pair : List ℕ × Value). not (bytes_eq pair.0 key)) pairs in
    need_good (is_good_text key) BadArgs _ refl (λ fits. look_up_good (TableOf (without_key key pairs)) NoKey (value_at key pairs) refl
    (filter_good IsGoodPair (λ (pair : List ℕ × Value). not (bytes_eq pair.0 key)) pairs h.0, omega (arith, least, h.1))
    (λ v e. value_good key pairs v h.0 e))
table_good pairs Del args h s = failed BadArgs refl
table_good pairs Size [] h s = answered (TableOf pairs) (count_value pairs) h (small_in_range {n = length pairs} (omega (arith, h.1)))
table_good pairs Size args h s = failed BadArgs refl
table_good pairs method args h s = failed NoMethod refl

-- ---- lists

list_good : (items : List Value) (method : Method) (args : List Value) → IsGoodState (ItemsOf items) → AreSayable args → IsFine (list_reply items method args)
list_good items Push (v ∷ []) h s =
    need_good (is_storable v) BadArgs _ refl (λ fits. need_good (nat_lt (length items) 4096) KindFull _ refl (λ room. let less =
    ltb-true (length items) 4096 room in let long : length (items ++ v ∷ []) ≤ 4096 = omega (arith, less, length-append items (v ∷ [])) in answered (ItemsOf
    (items ++ v ∷ [])) (count_value (items ++ v ∷ [])) (Each-append (λ w. is_sayable w ≡ true) items (v ∷ []) h.0 (s.0, tt), long) (small_in_range long)))
list_good items Push args h s = failed BadArgs refl
list_good items Pop [] h s =
    look_up_good (ItemsOf (take (length items - 1) items)) NoItems (slice_get items (length items - 1)) refl
    (Each-take (λ w. is_sayable w ≡ true) (length items - 1) items h.0, omega (arith, take_few (length items - 1) items, h.1))
    (λ v e. All_at (λ w. is_sayable w ≡ true) items (length items - 1) h.0 e)
list_good items Pop args h s = failed BadArgs refl
list_good items At (Int i ∷ []) h s = look_up_good (ItemsOf items) NoItem (item_at i items) refl h (λ v e. go i v e)
  where
    go : (i : ℤ) (v : Value) → item_at i items ≡ Some v → is_sayable v ≡ true
    go (pos n) v e = All_at (λ w. is_sayable w ≡ true) items n h.0 e
    go (negsuc n) v e = cc
list_good items At args h s = failed BadArgs refl
list_good items Len [] h s = answered (ItemsOf items) (count_value items) h (small_in_range h.1)
list_good items Len args h s = failed BadArgs refl
list_good items method args h s = failed NoMethod refl

-- ---- all kinds

reply_good : (state : KindState) (method : Method) (args : List Value) → IsGoodState state → AreSayable args → IsFine (reply_of state method args)
reply_good (CounterAt n) method args h s = counter_good n method args h
reply_good (TableOf pairs) method args h s = table_good pairs method args h s
reply_good (AccountAt n) method args h s = account_good n method args h
reply_good (ItemsOf items) method args h s = list_good items method args h s
reply_good (OwnAt behaviour) method args h s = absurd h

call_good : (state : KindState) (method : Method) (args : List Value) → IsGoodState state → AreSayable args → IsFine (call_reply state method args)
call_good state Terminate [] h s = answered state Nothing h refl
call_good state Terminate (v ∷ values) h s = failed BadArgs refl
call_good state method values h s = reply_good state method values h s

abbrev IsGoodStep : KindState × Answer → Type 0
IsGoodStep step = IsGoodState step.0 × IsGoodAnswer step.1

replied_good : (state : KindState) (reply : Reply) → IsGoodState state → IsFine reply → IsGoodStep (step_of_reply state reply)
replied_good state (Ok next) h good = good.fine
replied_good state (Err fault) h good = (h, good.fine)

-- the values of good arguments
abbrev AreGoodValues : Result (List Value) ℕ → Type 0
AreGoodValues (Ok values) = AreSayable values
AreGoodValues (Err k) = Unit {0}

values_good : (args : List Settled) → AllByRecursion IsGoodArg args → AreGoodValues (values_of args)
values_good [] h = tt
values_good (Good v ∷ args) h = go (values_of args) (values_good args h.1)
  where
    go : (r : Result (List Value) ℕ) → AreGoodValues r → AreGoodValues (with_value v r)
    go (Ok values) rest = (h.0, rest)
    go (Err k) rest = tt
values_good (Bad k ∷ args) h = tt

item_good : (state : KindState) (item : RunItem) → IsGoodState state → AllByRecursion IsGoodArg item.args → IsGoodStep (after_item state item)
item_good state item h args = go (values_of item.args) (values_good item.args args)
  where
    go : (r : Result (List Value) ℕ) → AreGoodValues r → IsGoodStep (step_of_call state item r)
    go (Ok values) good = replied_good state (call_reply state item.method values) h (call_good state item.method values h good)
    go (Err k) good = (h, refl)

abbrev pub AreGoodItems : List RunItem → Type 0
AreGoodItems items = AllByRecursion (λ item. AllByRecursion IsGoodArg item.args) items

-- a run list of good arguments answers well, and leaves a good state
pub runs_good : (state : KindState) (items : List RunItem) → IsGoodState state → AreGoodItems items →
    IsGoodState (state_after state items) × AllByRecursion IsGoodAnswer (answers_from state items)
runs_good state [] h good = (h, tt)
runs_good state (item ∷ items) h good =
    let step = item_good state item h good.0 in let rest = runs_good (after_item state item).0 items step.0 good.1 in (rest.0, (step.1, rest.1))
