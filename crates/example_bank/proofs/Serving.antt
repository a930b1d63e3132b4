-- What is left after all rounds, by the laws of epochs.
use Rattle.std.proofs.Common.{◌≡◌, ℕ, zero, suc, ◌≤◌, List, refl, sym, subst, replicate, arith}
use Rattle.actors.specs.Rules.{ActorSpec}
use Rattle.actors.specs.Kinds.{OpensAt}
use Rattle.example_kinds.specs.Bank.{bank_step, bank_text, empty_bank, HoldsItsMoney}
use Rattle.example_kinds.proofs.Keeps.{keeps, empty}
use Rattle.actors.specs.Epochs.{Epoch, AreEpochs, casts_after, runs, CastKeeps, KeptOverEpochs, EpochsAreConsistent, HaveLed}
use Rattle.example_bank.specs.declared.request.TheConstants.{BRANCH_ACCOUNTS}
use Rattle.example_bank.specs.declared.teller.Teller.{Teller}
use Rattle.example_bank.specs.Tellers.{teller_tells}
use Rattle.example_bank.specs.Served.{all_opened, branch_left, HasServed}

-- each branch opens with nothing
opens : (n : ℕ) → 1 ≤ n → n ≤ 4 → OpensAt bank_step bank_text all_opened n (replicate BRANCH_ACCOUNTS 0)
opens zero least most = absurd (omega (arith, least))
opens (suc zero) least most = refl
opens (suc (suc zero)) least most = refl
opens (suc (suc (suc zero))) least most = refl
opens (suc (suc (suc (suc zero)))) least most = refl
opens (suc (suc (suc (suc (suc n))))) least most = absurd (omega (arith, most))

pub served : (known : List ActorSpec → List (Epoch Teller) → Type 0) (casts left : List ActorSpec) → casts ≡ all_opened
    → KeptOverEpochs teller_tells bank_step bank_text HoldsItsMoney → EpochsAreConsistent teller_tells
    → HaveLed teller_tells known casts left → HasServed left
served known casts left opened kept consistent led =
    let follow : AreEpochs teller_tells all_opened led.epochs = subst (λ cs. AreEpochs teller_tells cs led.epochs) opened led.follow in
    let after : left ≡ casts_after all_opened led.epochs = subst (λ cs. left ≡ casts_after cs led.epochs) opened led.after in
    record {
      epochs = led.epochs;
      follow = follow;
      after = after;
      money = λ n least most.
          subst (λ cs. CastKeeps bank_step bank_text HoldsItsMoney (empty_bank BRANCH_ACCOUNTS) (runs n led.epochs) (branch_left n cs))
          (sym after)
          (kept keeps all_opened led.epochs follow n (replicate BRANCH_ACCOUNTS 0) (opens n least most) (empty BRANCH_ACCOUNTS));
      order = consistent all_opened led.epochs follow;
    }
