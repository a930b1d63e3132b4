use Rattle.act_executor.proofs.PlaysOfThreads.Traced.{traced_play}
use Rattle.act_executor.proofs.laws.traced_runs_are_played.Goals as goal

pub returns : goal.returns
returns c casts threads fitting traced = traced_play casts threads fitting traced
