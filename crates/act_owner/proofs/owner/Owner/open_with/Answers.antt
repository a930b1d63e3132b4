use Rattle.std.proofs.Common.{◌∙◌}
use Rattle.act_owner.proofs.Limits.{names_differ}
use Rattle.act_owner.proofs.owner.Owner.open_with.Goals as goal

pub open_under-requires : goal.open_under-requires
open_under-requires c = record { distinct = names_differ c.args.actors.now (c.as_slice.ensures.value ∙ c.in_ok-names.ensures) c.requires.distinct }
