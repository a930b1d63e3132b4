use Rattle.act_drive.proofs.Drivers.{stays_trans}
use Rattle.act_drive.proofs.driver.Driver.do_whole_plan.Goals as goal

pub returns-in_err-steps-clause-calling : goal.returns-in_err-steps-clause-calling
returns-in_err-steps-clause-calling g c = c.in_err-steps.ensures.calling

pub returns-in_err-steps-clause-stays : goal.returns-in_err-steps-clause-stays
returns-in_err-steps-clause-stays g c = rw c.reserve-reserved.ensures at c.in_err-steps.ensures.stays

pub returns-in_err-wind_up-clause-calling : goal.returns-in_err-wind_up-clause-calling
returns-in_err-wind_up-clause-calling g c = c.in_err-wind_up.ensures.calling

pub returns-in_err-wind_up-clause-stays : goal.returns-in_err-wind_up-clause-stays
returns-in_err-wind_up-clause-stays g c = stays_trans (rw c.reserve-reserved.ensures at c.in_ok-steps.ensures.stays) c.in_err-wind_up.ensures.stays

pub returns : goal.returns
returns g c = record {
  calling = c.in_ok-wind_up.ensures.calling;
  stays = stays_trans (rw c.reserve-reserved.ensures at c.in_ok-steps.ensures.stays) c.in_ok-wind_up.ensures.stays;
  done = λ actors fits start. c.in_ok-wind_up.ensures.done actors c.args.plan.items
      (c.in_ok-steps.ensures.follows actors fits (rw c.reserve-reserved.ensures start));
  traced = λ start is. c.in_ok-wind_up.ensures.traced start c.args.plan.items (c.in_ok-steps.ensures.traced start (rw c.reserve-reserved.ensures is));
}
