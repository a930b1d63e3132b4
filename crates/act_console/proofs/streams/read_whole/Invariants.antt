use Rattle.act_console.proofs.Common.{◌≡◌, ◌≤◌, ◌-◌, length, vec_len, Consumes}
use Rattle.act_console.proofs.streams.read_whole.Given as goal

-- what was read so far
abbrev pub invariant-loop-chunk : goal.invariant-loop-chunk
invariant-loop-chunk g l =
    let remaining = g.R.Read.remaining in
    record { consumed : Consumes (remaining l.fn.reader) (remaining l.reader) l.bytes.items; within : vec_len l.bytes ≤ 1048577; chunk : length l.chunk ≡ 4096 }

abbrev pub decreases-loop-chunk : goal.decreases-loop-chunk
decreases-loop-chunk g l = 1048577 - vec_len l.bytes
