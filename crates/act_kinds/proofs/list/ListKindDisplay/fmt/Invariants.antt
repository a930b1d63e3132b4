use Rattle.act_kinds.proofs.Common.{map, take, HasWritten, IsPlainFormatter, with_spaces, value_text}
use Rattle.act_kinds.proofs.list.ListKindDisplay.fmt.Given as goal

-- the items so far are written
abbrev pub invariant-loop-item : goal.invariant-loop-item
invariant-loop-item g l =
    IsPlainFormatter l.initial.f
    → HasWritten g.W.Write.write_str_gives l.initial.f (with_spaces (map value_text (take l.item-index l.item-items))) l.f
