use Rattle.act_rules.proofs.OwnRuns.{runs_by_its_steps, holds_in_each_run}
use Rattle.act_kinds.proofs.own.runs_by_its_steps.Goals as goal

pub returns : goal.returns
returns g _ = record {
  steps = runs_by_its_steps g.M.Meaning.step g.M.Meaning.written;
  kept = holds_in_each_run g.M.Meaning.step g.M.Meaning.written g.M.Meaning.holds;
}
