use Rattle.act_walks.proofs.Common.{ap, ◌∙◌, cast_of}
use Rattle.act_walks.proofs.Shown.{no_runs}
use Rattle.act_walks.proofs.seen.count_runs.Goals as goal

pub returns-in-None : goal.returns-in-None
returns-in-None g c =
    λ casts h before behind. no_runs casts h c.args.a before behind (ap (cast_of c.args.a) behind.is ∙ c.in-None.ensures.reached casts before behind.reached)
