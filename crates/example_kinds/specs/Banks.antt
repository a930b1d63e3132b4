-- The balances that a bank can have.
use Rattle.std.specs.Prelude.{◌≡◌, ℕ, ◌^◌, ◌<◌, ◌≤◌, List, length}
use Rattle.std.specs.List.{sum}
use Rattle.example_kinds.specs.declared.bank.TheConstants.{MAX_ACCOUNTS}

-- few accounts, and a total that is their sum and below 2 ^ 63
pub record IsBank (balances : List ℕ) (total : ℕ) : Type 0 where
  pub few : length balances ≤ MAX_ACCOUNTS
  pub known : total ≡ sum balances
  pub fits : total < 2 ^ 63
