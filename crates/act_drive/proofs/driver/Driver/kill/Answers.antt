use Rattle.act_drive.proofs.Common.{refl, rules}
use Rattle.act_drive.proofs.Drivers.{waits_same}
use Rattle.act_drive.proofs.driver.Driver.kill.Goals as goal

pub returns-in-None : goal.returns-in-None
returns-in-None g c = record {
  waits = waits_same c.args.self.now;
  on_refusal = λ start done is. is;
  calling = c.requires.calling;
  stays = (waits_same c.args.self.now).stay;
  hears = record { calls = refl; handles = refl; kills = refl };
  follows = search rules;
  traced = search rules;
}

pub returns-in-Err : goal.returns-in-Err
returns-in-Err g c = record {
  calling = c.requires.calling;
  stays = (waits_same c.args.self.now).stay;
  hears = record { calls = refl; handles = refl; kills = refl };
  waits = waits_same c.args.self.now;
  on_refusal = λ start done is. is;
  follows = search rules;
  traced = search rules;
}

pub returns-in-Some : goal.returns-in-Some
returns-in-Some g c = record {
  calling = c.ask_until.ensures.calling;
  stays = c.ask_until.ensures.stays;
  follows = c.ask_until.ensures.follows;
  hears = c.ask_until.ensures.hears;
  waits = c.ask_until.ensures.waits;
  on_refusal = c.ask_until.ensures.on_refusal;
  traced = search rules;
}
