-- What the service leaves when the input ends.
use Rattle.std.specs.Prelude.{◌≡◌, ℕ, ◌*◌, ◌-◌, ◌==◌, ◌≤◌, List, [], ◌∷◌, map, find, Option, None}
use Rattle.actors.specs.Rules.{ActorSpec}
use Rattle.example_kinds.specs.Bank.{bank_step, bank_text, empty_bank, HoldsItsMoney}
use Rattle.actors.specs.Epochs.{Epoch, AreEpochs, casts_after, runs, CastKeeps, AreConsistent}
use Rattle.example_bank.specs.declared.request.TheConstants.{BRANCH_ACCOUNTS, BRANCHES}
use Rattle.example_bank.specs.declared.teller.Teller.{Teller}
use Rattle.example_bank.specs.Tellers.{teller_tells}

-- a branch that holds nothing yet, and its two tellers
abbrev pub branch_opened : ℕ → ActorSpec
branch_opened n = record {
  actor = n;
  callers = (2 * n - 1) ∷ (2 * n) ∷ [];
  opening = empty_bank BRANCH_ACCOUNTS;
  pending = None;
}

abbrev pub all_opened : List ActorSpec
all_opened = map branch_opened (1 ∷ 2 ∷ 3 ∷ 4 ∷ [])

-- the branch of a number among those that are left
abbrev pub branch_left : ℕ → List ActorSpec → Option ActorSpec
branch_left n left = find (λ (branch : ActorSpec). branch.actor == n) left

-- rounds followed one another, in each of which every teller asked its requests, and they left this
pub record HasServed (left : List ActorSpec) : Type 0 where
  pub epochs : List (Epoch Teller)
  pub follow : AreEpochs teller_tells all_opened epochs
  pub after : left ≡ casts_after all_opened epochs
  -- money is neither made nor lost: over all rounds, a branch holds what was paid in less what was paid out
  pub money : (n : ℕ) → 1 ≤ n → n ≤ BRANCHES →
      CastKeeps bank_step bank_text HoldsItsMoney (empty_bank BRANCH_ACCOUNTS) (runs n epochs) (branch_left n left)
  -- no request is lost or done twice, and each teller's are done in their order
  pub order : AreConsistent all_opened epochs
