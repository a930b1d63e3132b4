use Rattle.act_scripts.proofs.Common.{◌≡◌, ◌+◌, ◌≤◌, length, map, forms_of, no_lines, lines_in, spelled_from, actor_spec_of, AreSound, mode_of, count_of}
use Rattle.act_scripts.proofs.Common.{spelled_script}
use Rattle.act_scripts.proofs.script.read_lines.Given as goal

-- the script so far, and what is still to be read
abbrev pub invariant-lines : goal.invariant-lines
invariant-lines l = record {
  room : l.number + length l.rest ≤ length l.bytes;
  read : spelled_from (forms_of l.mode) (l.number + 1) (spelled_script l.script) (lines_in l.rest) ≡ spelled_from (forms_of l.mode) 1 no_lines
      (lines_in l.bytes);
  sound : AreSound (map actor_spec_of l.script.casts);
  mode : mode_of l.script.items ≡ l.mode;
  few : count_of l.script.items ≤ l.number;
}

abbrev pub decreases-lines : goal.decreases-lines
decreases-lines l = length l.rest
