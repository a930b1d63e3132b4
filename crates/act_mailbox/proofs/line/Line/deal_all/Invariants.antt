use Rattle.std.proofs.Common.{◌≡◌, ◌++◌, map, take}
use Rattle.act_mailbox.specs.Passes.{new_putter}
use Rattle.act_mailbox.proofs.line.Line.deal_all.Given as goal

abbrev pub invariant-loop-caller : goal.invariant-loop-caller
invariant-loop-caller g l = record {
  taker : l.taker ≡ record l.initial.taker { putters = l.initial.taker.putters ++ take l.caller-index l.callers };
  putters : l.putters.items ≡ map (new_putter l.self) (take l.caller-index l.callers);
}
