use Rattle.act_console.proofs.Common.{◌≡◌, List, ℕ, ◌++◌, length, Appends}
use Rattle.act_console.proofs.streams.write_whole.Given as goal

-- a prefix of the text is written, and the rest is left
abbrev pub invariant-loop-rest : goal.invariant-loop-rest
invariant-loop-rest g l =
    let contents = g.W.Write.contents in (front : List ℕ) × (l.text ≡ front ++ l.rest) × Appends (contents l.fn.writer) (contents l.writer) front

abbrev pub decreases-loop-rest : goal.decreases-loop-rest
decreases-loop-rest g l = length l.rest
