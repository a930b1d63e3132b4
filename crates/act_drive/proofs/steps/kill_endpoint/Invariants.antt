use Rattle.act_drive.proofs.Common.{All, take, IsElsewhere}
use Rattle.act_drive.proofs.steps.kill_endpoint.Given as goal

abbrev pub invariant-loop-at : goal.invariant-loop-at
invariant-loop-at l = All (IsElsewhere l.controls l.actor) (take l.at l.endpoints)
