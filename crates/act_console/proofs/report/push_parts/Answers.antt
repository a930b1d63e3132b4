use Rattle.act_console.proofs.Common.{rules, append_assoc, IfOk-equal, flat_map-map}
use Rattle.act_console.proofs.report.push_parts.Goals as goal

pub returns : goal.returns
returns c = search (rules, IfOk-equal, append_assoc, flat_map-map)
