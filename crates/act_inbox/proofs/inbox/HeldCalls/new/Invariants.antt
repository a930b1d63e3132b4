use Rattle.act_inbox.proofs.Common.{◌≡◌, [], length, All}
use Rattle.act_inbox.proofs.inbox.HeldCalls.new.Given as goal

abbrev pub invariant-loop : goal.invariant-loop
invariant-loop l = (length l.keys.items ≡ l.counter) × All (λ index. index ≡ []) l.keys.items
