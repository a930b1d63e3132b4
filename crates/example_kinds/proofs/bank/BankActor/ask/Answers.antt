use Rattle.example_kinds.proofs.Common.{ap, sym, ◌∙◌, bank_at}
use Rattle.example_kinds.proofs.Keeps.{own_moved}
use Rattle.example_kinds.proofs.bank.BankActor.ask.Goals as goal

pub returns-in-Ok-clause-moved : goal.returns-in-Ok-clause-moved
returns-in-Ok-clause-moved c =
    ap bank_at c.does.ensures.moved
    ∙ own_moved c.args.self.now c.args.method.now c.args.args.now c.in-Ok.call (sym c.read.ensures ∙ c.in-Ok.is)
