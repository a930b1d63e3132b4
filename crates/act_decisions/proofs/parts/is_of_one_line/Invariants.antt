use Rattle.act_decisions.proofs.Common.{◌≢◌, All, take}
use Rattle.act_decisions.proofs.parts.is_of_one_line.Given as goal

-- the bytes so far end no line
abbrev pub invariant-loop-byte : goal.invariant-loop-byte
invariant-loop-byte l = All (λ b. b ≢ 10) (take l.byte-index l.bytes)
