-- What a bank can be asked, what its calls do, how it is written, and that its money is neither made nor lost.
use Rattle.std.specs.Prelude.{◌≡◌, ℕ, ◌+◌, ◌-◌, ◌^◌, List, [], ◌∷◌, ◌++◌, length, map, slice_index, slice_set, replicate, Bool, Result, Ok, Err, ℤ, pos, ◌-ℤ◌}
use Rattle.std.specs.Prelude.{unsigned_abs, int_lt, int_le, nat_lt, nat_le, ◌&&◌, if◌then◌else◌, bytes_eq, codes, decimal}
use Rattle.std.specs.List.{sum, sum_by}
use Rattle.actors.specs.Value.{Value}
use Rattle.actors.specs.Value.TheVariants.{Int}
use Rattle.actors.specs.Method.{Method}
use Rattle.actors.specs.Method.TheVariants as method
use Rattle.actors.specs.Fault.{Fault}
use Rattle.actors.specs.Fault.TheVariants.{NoMethod, BadArgs, BadAmount, Own}
use Rattle.actors.specs.Kinds.{KindState, OwnAt, Ask, StepOf, behaves, by_calls, reply_of, Answer, step_of_reply, told_in}
use Rattle.actors.specs.Texts.{method_text, with_spaces}
use Rattle.actors.specs.RunItem.{RunItem}
use Rattle.actors.specs.Actors.{state_after}
use Rattle.example_kinds.specs.declared.bank.Bank.{Bank}
use Rattle.example_kinds.specs.declared.bank.BankCall.{BankCall}
use Rattle.example_kinds.specs.declared.bank.BankCall.TheVariants.{PayIn, PayOut, Transfer, Funds, Total}

-- ---- the calls

abbrev pub pay_in_at : List Value → Result BankCall Fault
pay_in_at (Int account ∷ Int amount ∷ []) = Ok (PayIn account amount)
pay_in_at args = Err BadArgs

abbrev pub pay_out_at : List Value → Result BankCall Fault
pay_out_at (Int account ∷ Int amount ∷ []) = Ok (PayOut account amount)
pay_out_at args = Err BadArgs

abbrev pub transfer_at : List Value → Result BankCall Fault
transfer_at (Int from ∷ Int to ∷ Int amount ∷ []) = Ok (Transfer from to amount)
transfer_at args = Err BadArgs

abbrev pub funds_at : List Value → Result BankCall Fault
funds_at (Int account ∷ []) = Ok (Funds account)
funds_at args = Err BadArgs

abbrev pub total_at : List Value → Result BankCall Fault
total_at [] = Ok Total
total_at args = Err BadArgs

-- what a method and its values ask for
abbrev pub bank_call : Method → List Value → Result BankCall Fault
bank_call method args =
    if bytes_eq (method_text method) (codes "pay_in") then pay_in_at args else
    (if bytes_eq (method_text method) (codes "pay_out") then pay_out_at args else
    (if bytes_eq (method_text method) (codes "transfer") then transfer_at args else
    (if bytes_eq (method_text method) (codes "funds") then funds_at args else
    (if bytes_eq (method_text method) (codes "total") then total_at args else Err NoMethod))))

-- ---- what they do

-- the fault where the condition fails, and else what comes next
abbrev pub bank_need : Bool → Fault → Result (Bank × Value) Fault → Result (Bank × Value) Fault
bank_need condition fault next = if condition then next else Err fault

abbrev pub has_account : Bank → ℤ → Bool
has_account bank account = int_le (pos 0) account && nat_lt (unsigned_abs account) (length bank)

-- what an account holds
abbrev pub funds_held : Bank → ℤ → ℕ
funds_held bank account = slice_index bank (unsigned_abs account)

-- the bank after an amount went to an account, and after one was taken from it
abbrev pub with_deposit : Bank → ℤ → ℤ → Bank
with_deposit bank account amount = slice_set bank (unsigned_abs account) (funds_held bank account + unsigned_abs amount)

abbrev pub with_withdrawal : Bank → ℤ → ℤ → Bank
with_withdrawal bank account amount = slice_set bank (unsigned_abs account)
    (funds_held bank account - unsigned_abs amount)

-- the bank, and what the account then holds
abbrev pub and_funds : ℤ → Bank → Result (Bank × Value) Fault
and_funds account bank = Ok (bank, Int (pos (funds_held bank account)))

-- what a call does
abbrev pub bank_does : Bank → BankCall → Result (Bank × Value) Fault
bank_does bank (PayIn account amount) =
    bank_need (has_account bank account) (Own (codes "NoAccount")) (
    bank_need (int_lt (pos 0) amount) BadAmount (
    bank_need (nat_lt (sum bank + unsigned_abs amount) (2 ^ 63)) (Own (codes "BankFull")) (
    and_funds account (with_deposit bank account amount))))
bank_does bank (PayOut account amount) =
    bank_need (has_account bank account) (Own (codes "NoAccount")) (
    bank_need (int_lt (pos 0) amount) BadAmount (
    bank_need (nat_le (unsigned_abs amount) (funds_held bank account)) (Own (codes "TooLittle")) (
    and_funds account (with_withdrawal bank account amount))))
bank_does bank (Transfer from to amount) =
    bank_need (has_account bank from && has_account bank to) (Own (codes "NoAccount")) (
    bank_need (int_lt (pos 0) amount) BadAmount (
    bank_need (nat_le (unsigned_abs amount) (funds_held bank from)) (Own (codes "TooLittle")) (
    and_funds from (with_deposit (with_withdrawal bank from amount) to amount))))
bank_does bank (Funds account) = bank_need (has_account bank account) (Own (codes "NoAccount")) (and_funds account bank)
bank_does bank Total = Ok (bank, Int (pos (sum bank)))

abbrev pub bank_step : StepOf Bank
bank_step = by_calls bank_call bank_does

-- how a bank is written
abbrev pub bank_text : Bank → List ℕ
bank_text bank = codes "bank" ++ with_spaces (map decimal bank)

-- ---- its money

-- what an answered call paid in, and what it paid out
abbrev pub amount_in : Result BankCall Fault → Answer → ℕ
amount_in (Ok (PayIn account amount)) (Ok value) = unsigned_abs amount
amount_in call answer = 0

abbrev pub amount_out : Result BankCall Fault → Answer → ℕ
amount_out (Ok (PayOut account amount)) (Ok value) = unsigned_abs amount
amount_out call answer = 0

-- what was paid in, and what was paid out, by all that a bank was asked
abbrev pub paid_in : List (Ask × Answer) → ℕ
paid_in told = sum_by (λ one. amount_in (bank_call one.0.method one.0.args) one.1) told

abbrev pub paid_out : List (Ask × Answer) → ℕ
paid_out told = sum_by (λ one. amount_out (bank_call one.0.method one.0.args) one.1) told

-- the balances are what was paid in less what was paid out
abbrev pub HoldsItsMoney : List (Ask × Answer) → Bank → Type 0
HoldsItsMoney told bank = sum bank + paid_out told ≡ paid_in told

abbrev pub bank_at : Bank → KindState
bank_at bank = OwnAt (behaves bank_step bank_text bank)

-- a bank that opens with nothing in so many accounts
abbrev pub empty_bank : ℕ → KindState
empty_bank accounts = bank_at (replicate accounts 0)

-- what a call asked next answers
abbrev pub asked_next : KindState → List ℕ → Answer
asked_next state name = (step_of_reply state (reply_of state (method.Own name) [])).1

-- after a run list there is a bank whose balances are what was paid in less what was paid out, and `total` answers so
pub record MoneyIsKept (accounts : ℕ) (items : List RunItem) : Type 0 where
  pub bank : Bank
  pub left : state_after (empty_bank accounts) items ≡ bank_at bank
  pub balances : HoldsItsMoney (told_in (empty_bank accounts) items) bank
  pub total : asked_next (state_after (empty_bank accounts) items) (codes "total")
      ≡ Ok (Int (pos (paid_in (told_in (empty_bank accounts) items)) -ℤ pos
      (paid_out (told_in (empty_bank accounts) items))))
