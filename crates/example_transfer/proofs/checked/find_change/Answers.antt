use Rattle.example_transfer.proofs.Common.{Ok, map, ap, plan_view}
use Rattle.example_transfer.proofs.Threads.{answered}
use Rattle.example_transfer.proofs.checked.find_change.Goals as goal

pub returns : goal.returns
returns c =
    let plans = map plan_view c.in_ok-plans.plans.items in
    let ends = c.in_ok-always.ensures in
    rw c.in_ok-plans.ensures at (answered c.args.purses.now c.together-together.result plans c.in_ok-always.field-0 c.together-together.ensures
    (λ none. ends.runs (ap Ok none)) ends.found ends.breaks)
