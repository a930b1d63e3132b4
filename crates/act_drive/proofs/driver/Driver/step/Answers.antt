use Rattle.act_drive.proofs.Common.{Copy, rules}
use Rattle.act_drive.proofs.PlanSteps.{step_of}
use Rattle.act_drive.proofs.Tracing.{traced_step_of, unchanged}
use Rattle.act_drive.proofs.driver.Driver.step.Goals as goal

pub returns-in-Copy : goal.returns-in-Copy
returns-in-Copy g c = record {
  calling = c.copy.ensures.calling c.args.lines.now c.requires.calling;
  follows = step_of c.copy.result c.args.lines.now c.args.step (Copy c.in-Copy.a) c.args.self.now c.copy.new.self c.in-Copy.is c.copy.ensures.follows;
  traced = traced_step_of c.copy.result c.args.lines.now c.args.self.now c.copy.new.self c.in-Copy.is c.copy.ensures.traced;
  on_refusal = unchanged c.copy.result c.args.lines.now c.args.self.now c.copy.new.self c.copy.ensures.on_refusal;
  stays = c.copy.ensures.stays;
  awaited = search rules;
}

pub returns-in-Submit : goal.returns-in-Submit
returns-in-Submit g c = record {
  calling = c.submit.ensures.calling;
  stays = c.submit.ensures.stays;
  follows = rw c.in-Submit.is c.submit.ensures.follows;
  traced = rw c.in-Submit.is c.submit.ensures.traced;
  on_refusal = c.submit.ensures.on_refusal;
  awaited = search rules;
}

pub returns-in-Release : goal.returns-in-Release
returns-in-Release g c = record {
  calling = c.release.ensures.calling;
  stays = c.release.ensures.only_releases.stay;
  follows = rw c.in-Release.is c.release.ensures.follows;
  traced = rw c.in-Release.is c.release.ensures.traced;
  on_refusal = c.release.ensures.on_refusal;
  awaited = search rules;
}

pub returns-in-Kill : goal.returns-in-Kill
returns-in-Kill g c = record {
  calling = c.kill.ensures.calling;
  stays = c.kill.ensures.stays;
  follows = rw c.in-Kill.is c.kill.ensures.follows;
  traced = rw c.in-Kill.is c.kill.ensures.traced;
  on_refusal = c.kill.ensures.on_refusal;
  awaited = search rules;
}

pub returns-in-Await : goal.returns-in-Await
returns-in-Await g c = record {
  calling = c.wait_step.ensures.calling;
  stays = c.wait_step.ensures.stays;
  follows = rw c.in-Await.is c.wait_step.ensures.follows;
  traced = rw c.in-Await.is c.wait_step.ensures.traced;
  on_refusal = c.wait_step.ensures.on_refusal;
  awaited = rw c.in-Await.is c.wait_step.ensures.answered;
}
