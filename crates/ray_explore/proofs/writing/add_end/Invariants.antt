use Rattle.act_console.specs.Stock.{HasEach}
use Rattle.ray_explore.proofs.writing.add_end.OwnLists.{own-1}
use Rattle.ray_explore.proofs.writing.add_end.Given as goal

-- so many of each kind are there
abbrev pub invariant-loop : goal.invariant-loop
invariant-loop l = HasEach (λ b. (own-1.entry b.vtable).1.state b.value) l.counter l.stock
