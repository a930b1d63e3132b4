use Rattle.example_kinds.proofs.Common.{replicate, Left, told_in, holds_in_each_run, bank_step, bank_text, empty_bank, HoldsItsMoney, paid_in, paid_out}
use Rattle.example_kinds.proofs.Common.{state_after}
use Rattle.example_kinds.proofs.Keeps.{keeps, empty, asked_total}
use Rattle.example_kinds.proofs.bank.money_is_kept.Goals as goal

pub returns : goal.returns
returns c accounts items =
    let after : Left bank_step bank_text HoldsItsMoney (empty_bank accounts) items =
    holds_in_each_run bank_step bank_text HoldsItsMoney keeps (replicate accounts 0) (empty accounts) items in
    record {
      bank = after.state;
      left = after.left;
      balances = after.kept;
      total = asked_total (state_after (empty_bank accounts) items) after.state
          (paid_in (told_in (empty_bank accounts) items)) (paid_out (told_in (empty_bank accounts) items)) after.left after.kept;
    }
