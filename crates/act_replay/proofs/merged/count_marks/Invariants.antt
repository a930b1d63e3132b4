use Rattle.act_replay.proofs.Common.{◌≡◌, take, AreWhole, marks_of}
use Rattle.act_replay.proofs.merged.count_marks.Given as goal

-- the pages so far are whole, and their marks are counted
abbrev pub invariant-loop-page : goal.invariant-loop-page
invariant-loop-page l = AreWhole (take l.page-index l.pages) × (l.marks ≡ marks_of (take l.page-index l.pages))
