use Rattle.act_kinds.proofs.Common.{map, HasWritten, IsPlainFormatter, with_spaces, pair_text}
use Rattle.std.specs.Map.Iter.{deref_pair}
use Rattle.act_kinds.proofs.table.TableDisplay.fmt.Given as goal

-- the pairs so far are written
abbrev pub invariant-loop-key : goal.invariant-loop-key
invariant-loop-key g l =
    IsPlainFormatter l.initial.f
    → HasWritten g.W.Write.write_str_gives l.initial.f (with_spaces (map pair_text (map deref_pair l.yielded))) l.f
