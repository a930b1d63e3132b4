use Rattle.example_kinds.proofs.Common.{map, with_spaces, value_text}
use Rattle.std.specs.Fmt.{HasWritten, IsPlainFormatter}
use Rattle.example_kinds.proofs.queue.WorkQueueDisplay.fmt.Given as goal

-- the values so far are written
abbrev pub invariant-loop-item : goal.invariant-loop-item
invariant-loop-item g l =
    IsPlainFormatter l.initial.f
    → HasWritten g.W.Write.write_str_gives l.initial.f
    (with_spaces (map value_text (map (λ item. item.now) l.yielded))) l.f
