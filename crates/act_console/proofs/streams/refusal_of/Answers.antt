use Rattle.act_console.proofs.Common.{rules, append_assoc}
use Rattle.act_console.proofs.streams.refusal_of.Goals as goal

pub returns : goal.returns
returns c = search (rules, append_assoc)
