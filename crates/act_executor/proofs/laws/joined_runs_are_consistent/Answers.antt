use Rattle.act_executor.proofs.EndsOfRuns.Ends.{joined}
use Rattle.act_executor.proofs.laws.joined_runs_are_consistent.Goals as goal

pub returns : goal.returns
returns _ mails controls replies casts plans driven served j ran = joined j ran
