use Rattle.std.proofs.Common.{map}
use Rattle.actors.specs.Actors.{actor_spec}
use Rattle.example_kinds.specs.Bank.{bank_at}
use Rattle.example_bank.proofs.Serving.{served}
use Rattle.example_bank.proofs.bank.serve.Goals as goal

pub returns : goal.returns
returns g c =
    served _ (map (actor_spec bank_at) c.in-Ok.casts.items) (map (actor_spec bank_at) c.in_ok-left.left.items)
    c.in-Ok.ensures.opened c.kept_over_epochs.ensures c.epochs_are_consistent.ensures c.in_ok-left.ensures.led
