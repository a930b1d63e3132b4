use Rattle.act_explore.proofs.Common.{All, take, HasNumber}
use Rattle.act_explore.proofs.key.know_numbers.Given as goal

-- the choices so far are
abbrev pub invariant-loop-choice : goal.invariant-loop-choice
invariant-loop-choice l = All HasNumber (take l.choice-index l.path)
