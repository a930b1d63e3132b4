use Rattle.example_callers.proofs.Balances.{holds_what_was_put_in}
use Rattle.example_callers.proofs.laws.holds_what_was_put_in.Goals as goal

pub returns : goal.returns
returns _ = holds_what_was_put_in
