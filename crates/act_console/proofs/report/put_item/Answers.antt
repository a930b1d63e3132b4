use Rattle.act_console.proofs.Common.{rules, append_assoc, flat_map-map}
use Rattle.act_console.proofs.report.put_item.Goals as goal

pub returns : goal.returns
returns c = search (rules, append_assoc, flat_map-map)
