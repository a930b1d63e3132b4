use Rattle.act_drive.proofs.Common.{rules}
use Rattle.act_drive.proofs.Drivers.{stays_trans}
use Rattle.act_drive.proofs.driver.Driver.run.Goals as goal

pub returns-in-Ok : goal.returns-in-Ok
returns-in-Ok g c = record {
  calling = c.in-Ok.ensures.calling;
  stays = c.in-Ok.ensures.stays;
  done = λ _. c.in-Ok.ensures.done;
  traced = λ _. c.in-Ok.ensures.traced;
  ended = search rules;
}

pub returns-in-Err-clause-calling : goal.returns-in-Err-clause-calling
returns-in-Err-clause-calling g c = c.starve.ensures.calling

pub returns-in-Err-clause-stays : goal.returns-in-Err-clause-stays
returns-in-Err-clause-stays g c = stays_trans c.in-Err.ensures.stays c.starve.ensures.stays

pub returns-in-Err-clause-ended : goal.returns-in-Err-clause-ended
returns-in-Err-clause-ended g c _ = c.starve.ensures.through
