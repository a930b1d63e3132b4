use Rattle.act_written.proofs.Common.{◌≡◌, ◌++◌, string_bytes, of_each, actor_lines, IsAt, IsPast}
use Rattle.act_written.proofs.text.push_actors.Given as goal

-- the lines of the actors so far are written, and their runs are passed
abbrev pub invariant-loop-place : goal.invariant-loop-place
invariant-loop-place l = record {
  text : string_bytes l.text ≡ string_bytes l.fn.text ++ of_each (actor_lines l.told l.names) l.place;
  at : IsAt l.told l.at;
  past : IsPast l.told l.place l.at.place;
}
