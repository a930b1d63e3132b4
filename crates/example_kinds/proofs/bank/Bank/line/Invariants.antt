use Rattle.example_kinds.proofs.Common.{◌≡◌, ◌++◌, codes, decimal, map, string_bytes, take, with_spaces}
use Rattle.example_kinds.proofs.bank.Bank.line.Given as goal

-- the balances so far are written
abbrev pub invariant-loop-balance : goal.invariant-loop-balance
invariant-loop-balance l = string_bytes l.line ≡ codes "bank" ++ with_spaces (map decimal (take l.balance-index l.balance-items))
