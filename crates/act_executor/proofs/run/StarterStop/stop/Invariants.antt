use Rattle.act_executor.proofs.Common.{◌≡◌, ℕ, ◌+◌, ◌<◌, ◌≤◌, vec_len, slice_index_or, vec_items, vec_capacity, into_iter_items, into_iter_len, IsAsked}
use Rattle.act_executor.proofs.run.StarterStop.stop.Given as goal

abbrev pub invariant-loop-endpoint : goal.invariant-loop-endpoint
invariant-loop-endpoint g l =
    let done = vec_len l.asked in let rest = l.endpoint-iterator in
    (done + into_iter_len rest ≡ vec_len l.fn.self.endpoints)
    × (vec_len l.fn.self.endpoints ≤ vec_capacity l.asked)
    × ((k : ℕ) (d : _) → k < into_iter_len rest → slice_index_or (into_iter_items rest) k d ≡ slice_index_or (vec_items l.fn.self.endpoints) (done + k) d)
    × ((k : ℕ) (t : _) (x : _) → k < done → IsAsked l.controls (slice_index_or (vec_items l.fn.self.endpoints) k t) (slice_index_or (vec_items l.asked) k x))
