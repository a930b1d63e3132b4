use Rattle.act_drive.proofs.Common.{Submit}
use Rattle.act_drive.proofs.PlanSteps.{waited_step}
use Rattle.act_drive.proofs.Tracing.{traced_waited, unchanged_waited}
use Rattle.act_drive.proofs.Drivers.{stays_trans}
use Rattle.act_drive.proofs.CodeSteps.{on_err}
use Rattle.act_drive.proofs.driver.Driver.submit.Goals as goal

pub returns : goal.returns
returns g c = record {
  follows = waited_step c.submit_in_room.result c.args.lines.now
      (Submit c.args.a c.args.method c.args.args) c.submit_in_room.new.self c.in_ok-wait_for_room.ensures.only_waits.waits c.submit_in_room.ensures.follows;
  traced = traced_waited c.submit_in_room.result c.args.lines.now (Submit c.args.a c.args.method c.args.args) c.args.self.now c.wait_for_room.new.self
      c.submit_in_room.new.self c.in_ok-wait_for_room.ensures.only_waits.traced c.submit_in_room.ensures.traced;
  on_refusal = unchanged_waited c.submit_in_room.result c.args.lines.now c.args.self.now c.wait_for_room.new.self c.submit_in_room.new.self
      c.in_ok-wait_for_room.ensures.only_waits.traced c.submit_in_room.ensures.on_refusal;
  calling = c.submit_in_room.ensures.calling c.args.lines.now c.in_ok-wait_for_room.ensures.only_waits.calling;
  stays = stays_trans c.in_ok-wait_for_room.ensures.only_waits.waits.stay c.submit_in_room.ensures.stays;
}

pub returns-in_err-wait_for_room-clause-calling : goal.returns-in_err-wait_for_room-clause-calling
returns-in_err-wait_for_room-clause-calling g c = c.in_err-wait_for_room.ensures.only_waits.calling

pub returns-in_err-wait_for_room-clause-stays : goal.returns-in_err-wait_for_room-clause-stays
returns-in_err-wait_for_room-clause-stays g c = c.in_err-wait_for_room.ensures.only_waits.waits.stay

pub returns-in_err-wait_for_room-clause-on_refusal : goal.returns-in_err-wait_for_room-clause-on_refusal
returns-in_err-wait_for_room-clause-on_refusal g c = on_err c.from_residual.result c.in_err-wait_for_room.ensures.only_waits.traced
