use Rattle.act_kinds.proofs.Common.{◌≡◌, take, map, string_bytes, shown_byte}
use Rattle.act_kinds.proofs.own.shown_text.Given as goal

-- the bytes so far are written
abbrev pub invariant-loop-byte : goal.invariant-loop-byte
invariant-loop-byte l = string_bytes l.line ≡ map shown_byte (take l.byte-index l.text)
