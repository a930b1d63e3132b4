-- An account holds what was put in, less what was taken out.
use Rattle.example_callers.proofs.Common.{◌≡◌, ℕ, zero, suc, ◌+◌, ◌-◌, ◌≤◌, List, [], ◌∷◌, zip, Bool, true, false, refl, ap, sym, ◌∙◌, subst, ℤ, pos, negsuc}
use Rattle.example_callers.proofs.Common.{◌+ℤ◌, ◌-ℤ◌, arith, Some, Result, Ok, Err, int_lt, nat_le, sum_by, leb-true, sum_by-cons, Value, Method, Settled, Good}
use Rattle.example_callers.proofs.Common.{Bad, Fault, NoMethod, BadArgs, BadAmount, Overflow, Insufficient, Dependency, KindState, AccountAt, is_in_range, need}
use Rattle.example_callers.proofs.Common.{Answer, step_of_reply, RunItem, values_of, with_value, step_of_call, after_item, answers_from, state_after}
use Rattle.example_callers.proofs.Common.{paid_in_by, paid_out_by, put_in, taken_in, HoldsWhatWasPutIn}
use Rattle.actors.specs.Value.TheVariants.{Unit as Nothing, Int, Text}
use Rattle.actors.specs.Method.TheVariants as m

-- what one call leaves of an account
record Steps (n : ℕ) (method : Method) (args : List Settled) (done : KindState × Answer) : Type 0 where
  balance : ℕ
  left : done.0 ≡ AccountAt (pos balance)
  kept : balance + paid_out_by (Some done.1) method args ≡ n + paid_in_by (Some done.1) method args

-- a fault leaves the account
refused : (n : ℕ) (method : Method) (args : List Settled) (fault : Fault) → Steps n method args (AccountAt (pos n), Err fault)
refused n method args fault = record { balance = n; left = refl; kept = refl }

-- the state and the answer of a call to an account
abbrev asks : ℕ → Method → Result (List Value) ℕ → KindState × Answer
asks n method values = step_of_call (AccountAt (pos n)) (record { caller = 0; number = 0; future = 0; method = method; args = [] }) values

less : (n k : ℕ) → suc k ≤ n → (m : ℕ) × (m + suc k ≡ n) × (pos n -ℤ pos (suc k) ≡ pos m)
less n k h = (n - suc k, omega (arith, h), subtracted n k h)
  where
    subtracted : (n k : ℕ) → suc k ≤ n → pos n -ℤ pos (suc k) ≡ pos (n - suc k)
    subtracted n k h = grind (arith, h)

deposited : (n : ℕ) (k : ℤ) → Steps n m.Deposit (Good (Int k) ∷ []) (asks n m.Deposit (Ok (Int k ∷ [])))
deposited n (pos zero) = refused n m.Deposit (Good (Int (pos zero)) ∷ []) BadAmount
deposited n (negsuc k) = refused n m.Deposit (Good (Int (negsuc k)) ∷ []) BadAmount
deposited n (pos (suc k)) = go (int_lt (pos zero) (pos (suc k))) (is_in_range (pos n +ℤ pos (suc k)))
  where
    go : (a b : Bool) → Steps n m.Deposit (Good (Int (pos (suc k))) ∷ [])
        (step_of_reply (AccountAt (pos n)) (need a BadAmount (need b Overflow (Ok (AccountAt (pos n +ℤ pos (suc k)), Int (pos n +ℤ pos (suc k)))))))
    go true true = record { balance = n + suc k; left = refl; kept = omega arith }
    go true false = refused n m.Deposit (Good (Int (pos (suc k))) ∷ []) Overflow
    go false b = refused n m.Deposit (Good (Int (pos (suc k))) ∷ []) BadAmount

withdrawn : (n : ℕ) (k : ℤ) → Steps n m.Withdraw (Good (Int k) ∷ []) (asks n m.Withdraw (Ok (Int k ∷ [])))
withdrawn n (pos zero) = refused n m.Withdraw (Good (Int (pos zero)) ∷ []) BadAmount
withdrawn n (negsuc k) = refused n m.Withdraw (Good (Int (negsuc k)) ∷ []) BadAmount
withdrawn n (pos (suc k)) = go (int_lt (pos zero) (pos (suc k))) (nat_le (suc k) n) refl
  where
    go : (a b : Bool) → nat_le (suc k) n ≡ b → Steps n m.Withdraw (Good (Int (pos (suc k))) ∷ [])
        (step_of_reply (AccountAt (pos n)) (need a BadAmount (need b Insufficient (Ok (AccountAt (pos n -ℤ pos (suc k)), Int (pos n -ℤ pos (suc k)))))))
    go true true e = let l = less n k (leb-true (suc k) n e) in record { balance = l.0; left = ap AccountAt l.2; kept = omega (arith, l.1) }
    go true false e = refused n m.Withdraw (Good (Int (pos (suc k))) ∷ []) Insufficient
    go false b e = refused n m.Withdraw (Good (Int (pos (suc k))) ∷ []) BadAmount

-- a method that an account doesn't have
foreign : (n : ℕ) (method : Method) (args : List Settled) (values : Result (List Value) ℕ)
    → ((vs : List Value) → asks n method (Ok vs) ≡ (AccountAt (pos n), Err NoMethod)) → Steps n method args (asks n method values)
foreign n method args (Err k) faults = refused n method args (Dependency k)
foreign n method args (Ok vs) faults = subst (Steps n method args) (sym (faults vs)) (refused n method args NoMethod)

-- two values or more
deposits_two : (n : ℕ) (args : List Settled) (v w : Value) (vs : Result (List Value) ℕ) →
    Steps n m.Deposit args (asks n m.Deposit (with_value v (with_value w vs)))
deposits_two n args v w (Err k) = refused n m.Deposit args (Dependency k)
deposits_two n args Nothing w (Ok vs) = refused n m.Deposit args BadArgs
deposits_two n args (Int k) w (Ok vs) = refused n m.Deposit args BadArgs
deposits_two n args (Text t) w (Ok vs) = refused n m.Deposit args BadArgs

withdraws_two : (n : ℕ) (args : List Settled) (v w : Value) (vs : Result (List Value) ℕ) →
    Steps n m.Withdraw args (asks n m.Withdraw (with_value v (with_value w vs)))
withdraws_two n args v w (Err k) = refused n m.Withdraw args (Dependency k)
withdraws_two n args Nothing w (Ok vs) = refused n m.Withdraw args BadArgs
withdraws_two n args (Int k) w (Ok vs) = refused n m.Withdraw args BadArgs
withdraws_two n args (Text t) w (Ok vs) = refused n m.Withdraw args BadArgs

balances : (n : ℕ) (args : List Settled) (values : Result (List Value) ℕ) → Steps n m.Balance args (asks n m.Balance values)
balances n args (Err k) = refused n m.Balance args (Dependency k)
balances n args (Ok []) = record { balance = n; left = refl; kept = refl }
balances n args (Ok (v ∷ vs)) = refused n m.Balance args BadArgs

terminates : (n : ℕ) (args : List Settled) (values : Result (List Value) ℕ) → Steps n m.Terminate args (asks n m.Terminate values)
terminates n args (Err k) = refused n m.Terminate args (Dependency k)
terminates n args (Ok []) = record { balance = n; left = refl; kept = refl }
terminates n args (Ok (v ∷ vs)) = refused n m.Terminate args BadArgs

step : (n : ℕ) (method : Method) (args : List Settled) → Steps n method args (asks n method (values_of args))
step n m.Deposit [] = refused n m.Deposit [] BadArgs
step n m.Deposit (Bad k ∷ args) = refused n m.Deposit (Bad k ∷ args) (Dependency k)
step n m.Deposit (Good Nothing ∷ []) = refused n m.Deposit (Good Nothing ∷ []) BadArgs
step n m.Deposit (Good (Int k) ∷ []) = deposited n k
step n m.Deposit (Good (Text t) ∷ []) = refused n m.Deposit (Good (Text t) ∷ []) BadArgs
step n m.Deposit (Good v ∷ Bad k ∷ args) = refused n m.Deposit (Good v ∷ Bad k ∷ args) (Dependency k)
step n m.Deposit (Good v ∷ Good w ∷ args) = deposits_two n (Good v ∷ Good w ∷ args) v w (values_of args)
step n m.Withdraw [] = refused n m.Withdraw [] BadArgs
step n m.Withdraw (Bad k ∷ args) = refused n m.Withdraw (Bad k ∷ args) (Dependency k)
step n m.Withdraw (Good Nothing ∷ []) = refused n m.Withdraw (Good Nothing ∷ []) BadArgs
step n m.Withdraw (Good (Int k) ∷ []) = withdrawn n k
step n m.Withdraw (Good (Text t) ∷ []) = refused n m.Withdraw (Good (Text t) ∷ []) BadArgs
step n m.Withdraw (Good v ∷ Bad k ∷ args) = refused n m.Withdraw (Good v ∷ Bad k ∷ args) (Dependency k)
step n m.Withdraw (Good v ∷ Good w ∷ args) = withdraws_two n (Good v ∷ Good w ∷ args) v w (values_of args)
step n m.Balance args = balances n args (values_of args)
step n m.Terminate args = terminates n args (values_of args)
step n m.Add args = foreign n m.Add args (values_of args) (λ vs. refl)
step n m.Get args = foreign n m.Get args (values_of args) (λ vs. refl)
step n m.Put args = foreign n m.Put args (values_of args) (λ vs. refl)
step n m.Del args = foreign n m.Del args (values_of args) (λ vs. refl)
step n m.Size args = foreign n m.Size args (values_of args) (λ vs. refl)
step n m.Push args = foreign n m.Push args (values_of args) (λ vs. refl)
step n m.Pop args = foreign n m.Pop args (values_of args) (λ vs. refl)
step n m.At args = foreign n m.At args (values_of args) (λ vs. refl)
step n m.Len args = foreign n m.Len args (values_of args) (λ vs. refl)
step n (m.Own name) args = foreign n (m.Own name) args (values_of args) (λ vs. refl)

-- an item asks as its method and its values do
asks_so : (n : ℕ) (item : RunItem) (values : Result (List Value) ℕ) → step_of_call (AccountAt (pos n)) item values ≡ asks n item.method values
asks_so n item (Ok vs) = refl
asks_so n item (Err k) = refl

abbrev out_of : RunItem × Answer → ℕ
out_of ran = paid_out_by (Some ran.1) ran.0.method ran.0.args

abbrev into : RunItem × Answer → ℕ
into ran = paid_in_by (Some ran.1) ran.0.method ran.0.args

-- what is left after one item and those behind it
record Goes (n : ℕ) (item : RunItem) (items : List RunItem) (done : KindState × Answer) : Type 0 where
  balance : ℕ
  left : state_after done.0 items ≡ AccountAt (pos balance)
  kept : balance + sum_by out_of ((item, done.1) ∷ zip items (answers_from done.0 items)) ≡ n + sum_by into
      ((item, done.1) ∷ zip items (answers_from done.0 items))

goes : (n : ℕ) (item : RunItem) (items : List RunItem) (done : KindState × Answer) → Steps n item.method item.args done →
    ((b : ℕ) → HoldsWhatWasPutIn b items) → Goes n item items done
goes n item items done one rest =
    let h : HoldsWhatWasPutIn one.balance items = rest one.balance in
    let out : sum_by out_of ((item, done.1) ∷ zip items (answers_from done.0 items)) ≡ paid_out_by (Some done.1) item.method item.args + taken_in
    (AccountAt (pos one.balance)) items =
    sum_by-cons out_of (item, done.1) (zip items (answers_from done.0 items)) ∙
    ap (λ s. paid_out_by (Some done.1) item.method item.args + taken_in s items) one.left in
    let in_all : sum_by into ((item, done.1) ∷ zip items (answers_from done.0 items)) ≡ paid_in_by (Some done.1) item.method item.args + put_in
    (AccountAt (pos one.balance)) items =
    sum_by-cons into (item, done.1) (zip items (answers_from done.0 items)) ∙
    ap (λ s. paid_in_by (Some done.1) item.method item.args + put_in s items) one.left in
    record {
      balance = h.balance;
      left = ap (λ s. state_after s items) one.left ∙ h.left;
      kept = omega (arith, out, in_all, one.kept, h.kept);
    }

-- after any run list an account holds what it opened with and what was put in, less what was taken out
pub holds_what_was_put_in : (n : ℕ) (items : List RunItem) → HoldsWhatWasPutIn n items
holds_what_was_put_in n [] = record { balance = n; left = refl; kept = refl }
holds_what_was_put_in n (item ∷ items) =
    let one : Steps n item.method item.args (after_item (AccountAt (pos n)) item) =
    subst (Steps n item.method item.args) (sym (asks_so n item (values_of item.args))) (step n item.method item.args) in
    let all : Goes n item items (after_item (AccountAt (pos n)) item) =
    goes n item items (after_item (AccountAt (pos n)) item) one (λ b. holds_what_was_put_in b items) in
    record { balance = all.balance; left = all.left; kept = all.kept }
