use Rattle.act_written.proofs.Common.{◌≡◌, ◌++◌, take, string_bytes, flat_map, await_line}
use Rattle.act_written.proofs.lines.push_awaits.Given as goal

-- those so far are written
abbrev pub invariant-loop-place : goal.invariant-loop-place
invariant-loop-place l = string_bytes l.text ≡ string_bytes l.fn.text ++ flat_map (await_line l.told) (take l.place-index l.places)
