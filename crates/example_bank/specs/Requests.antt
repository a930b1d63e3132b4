-- What a line asks for, by its words.
use Rattle.std.specs.Prelude.{ℕ, ◌+◌, ◌/◌, ◌%◌, ◌^◌, ◌==◌, ◌&&◌, pos, ℤ, not, if◌then◌else◌, nat_lt, List, [], ◌∷◌, length, Option, Some, None, Result, Ok, Err}
use Rattle.std.specs.Prelude.{bytes_eq, codes}
use Rattle.std.specs.List.{list_all}
use Rattle.std.specs.Char.{is_ascii_digit}
use Rattle.std.specs.Str.Parse.{digits_value}
use Rattle.example_kinds.specs.declared.bank.BankCall.{BankCall}
use Rattle.example_kinds.specs.declared.bank.BankCall.TheVariants.{PayIn, PayOut, Transfer, Funds, Total}
use Rattle.example_bank.specs.declared.request.TheConstants.{ACCOUNTS, BRANCH_ACCOUNTS, BRANCHES}
use Rattle.example_bank.specs.declared.request.Request.{Request}
use Rattle.example_bank.specs.declared.request.Wrong.{Wrong}
use Rattle.example_bank.specs.declared.request.Wrong.TheVariants.{NoRequest, NoAccount, NoAmount, NoBranch, OtherBranch}

-- first the one, and with what it gives the other; the first that is wrong is what is wrong
infixl 10 ◌>>=◌
abbrev pub ◌>>=◌ : {A B : Type 0} → Result A Wrong → (A → Result B Wrong) → Result B Wrong
(Ok x) >>= f = f x
(Err wrong) >>= f = Err wrong

abbrev pub Word : Type 0
Word = List ℕ

-- the number that digits spell, where it is below 2 ^ 63
unfoldable pub number_at : Word → Option ℕ
number_at word =
    if not (length word == 0) && (list_all is_ascii_digit word && nat_lt (digits_value 10 word) (2 ^ 63))
    then Some (digits_value 10 word) else None

-- an account's branch, and its place there: branch 1 has accounts 0 to 249, branch 2 those from 250 on, and so on
abbrev pub account_of : Option ℕ → Result (ℕ × ℤ) Wrong
account_of (Some n) = if nat_lt n ACCOUNTS then Ok (n / BRANCH_ACCOUNTS + 1, pos (n % BRANCH_ACCOUNTS))
    else Err NoAccount
account_of None = Err NoAccount

abbrev pub amount_of : Option ℕ → Result ℤ Wrong
amount_of (Some n) = Ok (pos n)
amount_of None = Err NoAmount

abbrev pub branch_of : Option ℕ → Result ℕ Wrong
branch_of (Some n) = if nat_lt 0 n && nat_lt n (BRANCHES + 1) then Ok n else Err NoBranch
branch_of None = Err NoBranch

abbrev pub request : ℕ → BankCall → Result Request Wrong
request branch call = Ok (record { branch = branch; call = call })

-- ---- the five requests, by the words after the first

abbrev pub pay_in_at : List Word → Result Request Wrong
pay_in_at (account ∷ amount ∷ []) = do
  a ← account_of (number_at account)
  n ← amount_of (number_at amount)
  request a.0 (PayIn a.1 n)
pay_in_at words = Err NoRequest

abbrev pub pay_out_at : List Word → Result Request Wrong
pay_out_at (account ∷ amount ∷ []) = do
  a ← account_of (number_at account)
  n ← amount_of (number_at amount)
  request a.0 (PayOut a.1 n)
pay_out_at words = Err NoRequest

-- both accounts are of one branch
abbrev pub transfer_at : List Word → Result Request Wrong
transfer_at (from ∷ to ∷ amount ∷ []) = do
  a ← account_of (number_at from)
  b ← account_of (number_at to)
  n ← amount_of (number_at amount)
  if a.0 == b.0 then request a.0 (Transfer a.1 b.1 n) else Err OtherBranch
transfer_at words = Err NoRequest

abbrev pub funds_at : List Word → Result Request Wrong
funds_at (account ∷ []) = do
  a ← account_of (number_at account)
  request a.0 (Funds a.1)
funds_at words = Err NoRequest

abbrev pub total_at : List Word → Result Request Wrong
total_at (branch ∷ []) = do
  b ← branch_of (number_at branch)
  request b Total
total_at words = Err NoRequest

-- what the words of a line ask for
abbrev pub request_at : List Word → Result Request Wrong
request_at (verb ∷ words) =
    if bytes_eq verb (codes "pay_in") then pay_in_at words else
    (if bytes_eq verb (codes "pay_out") then pay_out_at words else
    (if bytes_eq verb (codes "transfer") then transfer_at words else
    (if bytes_eq verb (codes "funds") then funds_at words else
    (if bytes_eq verb (codes "total") then total_at words else Err NoRequest))))
request_at [] = Err NoRequest
