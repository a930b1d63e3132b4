use Rattle.act_explore.proofs.Common.{◌≡◌, ◌++◌, map, take, string_bytes, runs_in, letter_of}
use Rattle.act_explore.proofs.key.push_runs.Given as goal

-- the letters of the choices so far are added
abbrev pub invariant-loop-choice : goal.invariant-loop-choice
invariant-loop-choice l = string_bytes l.key ≡ string_bytes l.initial.key ++ map letter_of (runs_in l.actor (take l.choice-index l.path))
