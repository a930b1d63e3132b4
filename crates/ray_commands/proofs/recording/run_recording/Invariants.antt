use Rattle.act_console.specs.Stock.{HasEach}
use Rattle.ray_commands.proofs.recording.run_recording.OwnLists.{own-1}
use Rattle.ray_commands.proofs.recording.run_recording.Given as goal

-- so many of each kind are there
abbrev pub invariant-loop : goal.invariant-loop
invariant-loop g l = HasEach (λ b. (own-1.entry b.vtable).1.state b.value) l.counter l.stock

-- and so many of each once more
abbrev pub invariant-loop-2 : goal.invariant-loop-2
invariant-loop-2 g l = HasEach (λ b. (own-1.entry b.vtable).1.state b.value) l.counter l.twins
