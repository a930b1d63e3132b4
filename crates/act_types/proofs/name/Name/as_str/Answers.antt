use Rattle.std.proofs.lemmas.Str.{IsUtf8-had}
use Rattle.act_types.proofs.name.Name.as_str.Goals as goal

pub unreachable-requires : goal.unreachable-requires
unreachable-requires c = c.in-Err.ensures.cases.0 (IsUtf8-had _ c.self.invariant.utf8)
