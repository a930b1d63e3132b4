use Rattle.act_drive.proofs.Common.{All, take, IsApart}
use Rattle.act_drive.proofs.driver.letter_endpoint.Given as goal

abbrev pub invariant-loop-at : goal.invariant-loop-at
invariant-loop-at l = All (IsApart l.mails l.actor) (take l.at l.endpoints)
