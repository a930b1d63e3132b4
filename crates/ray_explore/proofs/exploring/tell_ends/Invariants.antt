use Rattle.ray_explore.proofs.Common.{◌≡◌, ◌≤◌, TellsCount}
use Rattle.ray_explore.proofs.exploring.tell_ends.Given as goal

-- so many ends are written so far, all of the same script
abbrev pub invariant-loop : goal.invariant-loop
invariant-loop g l = record {
  script : l.search.script ≡ l.fn.search.script;
  told : TellsCount l.fn.search.script l.count (g.W.Write.contents l.fn.writer) (g.W.Write.contents l.writer);
  few : l.count ≤ l.counter;
}
