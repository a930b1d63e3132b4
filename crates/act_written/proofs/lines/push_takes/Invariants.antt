use Rattle.act_written.proofs.Common.{◌≡◌, ◌++◌, take, string_bytes, flat_map, take_word}
use Rattle.act_written.proofs.lines.push_takes.Given as goal

-- those so far are written
abbrev pub invariant-loop-place : goal.invariant-loop-place
invariant-loop-place l = string_bytes l.text ≡ string_bytes l.fn.text ++ flat_map (take_word l.told) (take l.place-index l.places)
