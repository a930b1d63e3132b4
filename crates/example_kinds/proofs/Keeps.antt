-- Each step of a bank keeps its money.
use Rattle.example_kinds.proofs.Common.{◌≡◌, ℕ, ◌+◌, ◌-◌, ◌^◌, ◌<◌, ◌≤◌, List, [], ◌∷◌, ◌++◌, Bool, true, false, ◌&&◌, refl, ap, sym, ◌∙◌, subst, length}
use Rattle.example_kinds.proofs.Common.{replicate, ℤ, pos, ◌-ℤ◌, nat_lt, nat_le, arith, Result, Ok, Err, codes, int_lt, unsigned_abs, sum, length-set}
use Rattle.example_kinds.proofs.Common.{sum_by-append, Value, Fault, BadAmount, Own, Ask, next_state, step_answer, on_call, KindState, told_reply, reply_of}
use Rattle.example_kinds.proofs.Common.{Answer, step_of_reply, kind_answer, IsKept, Int, and_funds, asked_next, bank_at, bank_text, bank_need, has_account}
use Rattle.example_kinds.proofs.Common.{funds_held, with_deposit, with_withdrawal, bank_call, bank_does, bank_step, amount_in, amount_out, paid_in, paid_out}
use Rattle.example_kinds.proofs.Common.{HoldsItsMoney, told_any}
use Rattle.std.proofs.Math.IntN.{+ℤ-neg_ℤ_cancel}
use Rattle.std.proofs.Math.Nat.{add-zero, mul-zero}
use Rattle.std.proofs.lemmas.List.Folds.{sum_by-replicate}
use Rattle.actors.specs.Method.{Method}
use Rattle.example_kinds.specs.declared.bank.Bank.{Bank}
use Rattle.example_kinds.specs.declared.bank.BankCall.{BankCall}
use Rattle.example_kinds.specs.declared.bank.BankCall.TheVariants.{PayIn, PayOut, Transfer, Funds, Total}
use Rattle.example_kinds.proofs.Money.{sum_given, sum_taken}

-- what holds of each fault, and of what comes after three conditions
after_three : (P : Result (Bank × Value) Fault → Type 0) (a b c : Bool) (f g h : Fault) (next : Result (Bank × Value) Fault)
    → ((fault : Fault) → P (Err fault)) → (a ≡ true → c ≡ true → P next) → P (bank_need a f (bank_need b g (bank_need c h next)))
after_three P true true true f g h next refused goes_on = goes_on refl refl
after_three P true true false f g h next refused goes_on = refused h
after_three P true false c f g h next refused goes_on = refused g
after_three P false b c f g h next refused goes_on = refused f

-- what a call paid in and out is how it changed the sum
record Balances (bank : Bank) (call : Result BankCall Fault) (done : Result (Bank × Value) Fault) : Type 0 where
  same : sum (next_state bank done) + amount_out call (kind_answer (step_answer done)) ≡ sum bank + amount_in call (kind_answer (step_answer done))

is_there : (bank : Bank) (account : ℤ) → has_account bank account ≡ true → unsigned_abs account < length bank
is_there bank account h = grind arith

first_is_there : (bank : Bank) (from to : ℤ) → has_account bank from && has_account bank to ≡ true → unsigned_abs from < length bank
first_is_there bank from to h = grind arith

second_is_there : (bank : Bank) (from to : ℤ) → has_account bank from && has_account bank to ≡ true → unsigned_abs to < length bank
second_is_there bank from to h = grind arith

is_enough : (bank : Bank) (account amount : ℤ) → nat_le (unsigned_abs amount) (funds_held bank account) ≡ true → unsigned_abs amount ≤ funds_held bank account
is_enough bank account amount h = grind arith

moved_on : (bank : Bank) (from to amount : ℤ) → unsigned_abs from < length bank → unsigned_abs to < length bank → unsigned_abs amount ≤ funds_held bank from
    → sum (with_deposit (with_withdrawal bank from amount) to amount) ≡ sum bank
moved_on bank from to amount f t enough =
    let there : unsigned_abs to < length (with_withdrawal bank from amount) =
    subst (λ n. unsigned_abs to < n) (sym (length-set bank (unsigned_abs from) (funds_held bank from - unsigned_abs amount))) t in
    let took : sum (with_withdrawal bank from amount) + unsigned_abs amount ≡ sum bank = sum_taken bank (unsigned_abs from) (unsigned_abs amount) f enough in
    let gave : sum (with_deposit (with_withdrawal bank from amount) to amount) ≡ sum (with_withdrawal bank from amount) + unsigned_abs amount =
    sum_given (with_withdrawal bank from amount) (unsigned_abs to) (unsigned_abs amount) there in
    gave ∙ took

funds_balance : (bank : Bank) (account : ℤ) (there : Bool) (fault : Fault) → Balances bank (Ok (Funds account)) (bank_need there fault (and_funds account bank))
funds_balance bank account true fault = record { same = refl }
funds_balance bank account false fault = record { same = refl }

step_balances : (bank : Bank) (call : Result BankCall Fault) → Balances bank call (on_call bank_does bank call)
step_balances bank (Err fault) = record { same = refl }
step_balances bank (Ok (PayIn account amount)) =
    after_three (Balances bank (Ok (PayIn account amount)))
    (has_account bank account) (int_lt (pos 0) amount) (nat_lt (sum bank + unsigned_abs amount) (2 ^ 63))
    (Own (codes "NoAccount")) BadAmount (Own (codes "BankFull")) (and_funds account (with_deposit bank account amount))
    (λ fault. record { same = refl })
    (λ there room. record { same = add-zero _ ∙ sum_given bank (unsigned_abs account) (unsigned_abs amount) (is_there bank account there) })
step_balances bank (Ok (PayOut account amount)) =
    after_three (Balances bank (Ok (PayOut account amount)))
    (has_account bank account) (int_lt (pos 0) amount) (nat_le (unsigned_abs amount) (funds_held bank account))
    (Own (codes "NoAccount")) BadAmount (Own (codes "TooLittle")) (and_funds account (with_withdrawal bank account amount))
    (λ fault. record { same = refl })
    (λ there enough. record {
      same = sum_taken bank (unsigned_abs account) (unsigned_abs amount) (is_there bank account there) (is_enough bank account amount enough)
          ∙ sym (add-zero (sum bank));
    })
step_balances bank (Ok (Transfer from to amount)) =
    after_three (Balances bank (Ok (Transfer from to amount)))
    (has_account bank from && has_account bank to) (int_lt (pos 0) amount) (nat_le (unsigned_abs amount) (funds_held bank from))
    (Own (codes "NoAccount")) BadAmount (Own (codes "TooLittle")) (and_funds from (with_deposit (with_withdrawal bank from amount) to amount))
    (λ fault. record { same = refl })
    (λ there enough. record {
      same = ap (λ n. n + 0) (moved_on bank from to amount (first_is_there bank from to there) (second_is_there bank from to there)
          (is_enough bank from amount enough));
    })
step_balances bank (Ok (Funds account)) = funds_balance bank account (has_account bank account) (Own (codes "NoAccount"))
step_balances bank (Ok Total) = record { same = refl }

-- each step keeps the money
pub keeps : IsKept bank_step HoldsItsMoney
keeps told bank ask h =
    let done : Result (Bank × Value) Fault = bank_step bank ask.method ask.args in
    let last : Ask × Answer = (ask, kind_answer (step_answer done)) in
    let out : paid_out (told ++ last ∷ []) ≡ paid_out told + paid_out (last ∷ []) = sum_by-append _ told (last ∷ []) in
    let into : paid_in (told ++ last ∷ []) ≡ paid_in told + paid_in (last ∷ []) = sum_by-append _ told (last ∷ []) in
    let one : Balances bank (bank_call ask.method ask.args) done = step_balances bank (bank_call ask.method ask.args) in
    let change : sum (next_state bank done) + amount_out (bank_call ask.method ask.args) last.1 ≡ sum bank + amount_in (bank_call ask.method ask.args) last.1 =
    one.same in
    omega (arith, h, out, into, change)

-- nothing was paid into an empty bank, which holds nothing
pub empty : (accounts : ℕ) → HoldsItsMoney [] (replicate accounts 0)
empty accounts = add-zero _ ∙ sum_by-replicate (λ x. x) accounts 0 ∙ mul-zero accounts

pos_difference : (n into out : ℕ) → n + out ≡ into → pos n ≡ pos into -ℤ pos out
pos_difference n into out e = sym (+ℤ-neg_ℤ_cancel (pos n) (pos out)) ∙ ap (λ (sum : ℕ). pos sum -ℤ pos out) e

-- what a bank answers to `total` next
pub asked_total : (state : KindState) (bank : Bank) (into out : ℕ) → state ≡ bank_at bank → sum bank + out ≡ into
    → asked_next state (codes "total") ≡ Ok (Int (pos into -ℤ pos out))
asked_total state bank into out left money =
    ap (λ state. asked_next state (codes "total")) left ∙ ap (λ (n : ℤ). Ok (Int n)) (pos_difference (sum bank) into out money)

-- the state that a call leaves
pub own_moved : (bank : Bank) (method : Method) (args : List Value) (call : BankCall) → bank_call method args ≡ Ok call
    → bank_at (next_state bank (bank_does bank call)) ≡ (step_of_reply (bank_at bank) (reply_of (bank_at bank) method args)).0
own_moved bank method args call e =
    subst (λ (read : Result BankCall Fault). bank_at (next_state bank (bank_does bank call))
    ≡ (step_of_reply (bank_at bank) (told_reply (bank_at (next_state bank (on_call bank_does bank read))) (step_answer (on_call bank_does bank read)))).0)
    (sym e) (sym (ap (λ (done : KindState × Answer). done.0) (told_any bank_step bank_text bank (bank_does bank call))))
