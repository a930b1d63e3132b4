use Rattle.act_written.proofs.Common.{◌≡◌, ◌++◌, ◌+◌, ◌-◌, ◌<◌, ◌≤◌, ℕ, length, string_bytes, run_of, of_each, run_line_of, IsAt}
use Rattle.act_written.proofs.text.push_runs.Given as goal

-- the runs before this one are written, of which none is a later actor's; those from it on are none of earlier actors'
abbrev pub invariant-loop-at : goal.invariant-loop-at
invariant-loop-at l = record {
  at : IsAt l.told l.at;
  text : string_bytes l.text ≡ string_bytes l.fn.text ++ of_each (run_line_of l.told l.names l.actor) l.at.place;
  before : (j : ℕ) → j < l.at.place → (run_of l.told j).actor < l.actor + 1;
  after : (j : ℕ) → l.at.place ≤ j → j < length l.told.runs → l.actor ≤ (run_of l.told j).actor;
}

abbrev pub decreases-loop-at : goal.decreases-loop-at
decreases-loop-at l = length l.told.runs - l.at.place
