use Rattle.example_kinds.proofs.Common.{[], refl}
use Rattle.example_kinds.proofs.Orders.{order_is_kept}
use Rattle.example_kinds.proofs.queue.first_in_first_out.Goals as goal

pub returns : goal.returns
returns c = c.runs_by_its_steps.ensures.kept order_is_kept [] refl
