use Rattle.example_kinds.proofs.Common.{map, end_view, log_in}
use Rattle.example_kinds.proofs.Rates.{never_above_its_rate}
use Rattle.example_kinds.proofs.kept.run_limiters.Goals as goal

pub returns-clause-rate : goal.returns-clause-rate
returns-clause-rate g c = λ a most opens.
    never_above_its_rate most (log_in (map (λ actor. end_view g.K.Actor.state actor.ended) c.in_ok-left.left.actors.items) a)
