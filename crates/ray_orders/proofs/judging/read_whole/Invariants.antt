use Rattle.std.proofs.Common.{◌≡◌, ◌≤◌, ◌-◌, length, vec_len}
use Rattle.std.specs.Io.KnownBytes.{Consumes}
use Rattle.ray_orders.proofs.judging.read_whole.Given as goal

-- what was read so far
abbrev pub invariant-loop-chunk : goal.invariant-loop-chunk
invariant-loop-chunk g l =
    let remaining = g.R.Read.remaining in
    record {
      consumed : Consumes (remaining l.fn.reader) (remaining l.reader) l.bytes.items;
      within : vec_len l.bytes ≤ 67108865;
      chunk : length l.chunk ≡ 65536;
    }

abbrev pub decreases-loop-chunk : goal.decreases-loop-chunk
decreases-loop-chunk g l = 67108865 - vec_len l.bytes
