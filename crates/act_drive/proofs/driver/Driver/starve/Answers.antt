use Rattle.act_drive.proofs.Drivers.{stays_trans}
use Rattle.act_drive.proofs.driver.Driver.starve.Goals as goal

pub returns-then-end_all-clause-stays : goal.returns-then-end_all-clause-stays
returns-then-end_all-clause-stays g c = stays_trans c.loop.invariant.stay c.end_all.ensures.stays

pub returns-then-end_all-clause-through : goal.returns-then-end_all-clause-through
returns-then-end_all-clause-through g c = c.end_all.ensures.through c.if-end_all.true

pub loop-preserved : goal.loop-preserved
loop-preserved g c = record {
  calling = c.collect-has_heard.ensures.only_waits.calling;
  stay = stays_trans (stays_trans c.loop.invariant.stay c.end_all.ensures.stays) c.collect-has_heard.ensures.only_waits.waits.stay;
}
