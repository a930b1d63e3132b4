use Rattle.act_drive.proofs.Common.{◌∙◌}
use Rattle.act_drive.proofs.Drivers.{stays_trans}
use Rattle.act_drive.proofs.PlanSteps.{follows_waits}
use Rattle.act_drive.proofs.Done.{done_of}
use Rattle.act_drive.proofs.driver.Driver.wind_up.Goals as goal

pub returns : goal.returns
returns g c = record {
  done = λ actors steps f. done_of actors steps c.in_ok-close.ensures.only_releases c.in_ok-close.ensures.none c.in_ok-finish.ensures.only_waits.waits
      c.in_ok-finish.ensures.only_waits.calling c.in_ok-finish.ensures.answered c.in_ok-finish.ensures.empty
      (follows_waits c.in_ok-turn.ensures.only_waits.waits f);
  traced = λ start done is.
      let closed = c.in_ok-close.ensures.traced start done (c.in_ok-turn.ensures.only_waits.traced start done is) in
      (closed.0, c.in_ok-finish.ensures.only_waits.traced start _ closed.1);
  calling = c.in_ok-finish.ensures.only_waits.calling;
  stays = stays_trans
      (stays_trans c.in_ok-turn.ensures.only_waits.waits.stay c.in_ok-close.ensures.only_releases.stay) c.in_ok-finish.ensures.only_waits.waits.stay;
  calls = c.in_ok-finish.ensures.only_waits.waits.calls ∙ c.in_ok-close.ensures.only_releases.calls ∙ c.in_ok-turn.ensures.only_waits.waits.calls;
}

pub returns-in_err-turn-clause-calling : goal.returns-in_err-turn-clause-calling
returns-in_err-turn-clause-calling g c = c.in_err-turn.ensures.only_waits.calling

pub returns-in_err-turn-clause-stays : goal.returns-in_err-turn-clause-stays
returns-in_err-turn-clause-stays g c = c.in_err-turn.ensures.only_waits.waits.stay

pub returns-in_err-close-clause-calling : goal.returns-in_err-close-clause-calling
returns-in_err-close-clause-calling g c = c.in_err-close.ensures.calling

pub returns-in_err-close-clause-stays : goal.returns-in_err-close-clause-stays
returns-in_err-close-clause-stays g c = stays_trans c.in_ok-turn.ensures.only_waits.waits.stay c.in_err-close.ensures.only_releases.stay

pub returns-in_err-finish-clause-calling : goal.returns-in_err-finish-clause-calling
returns-in_err-finish-clause-calling g c = c.in_err-finish.ensures.only_waits.calling

pub returns-in_err-finish-clause-stays : goal.returns-in_err-finish-clause-stays
returns-in_err-finish-clause-stays g c =
    stays_trans (stays_trans c.in_ok-turn.ensures.only_waits.waits.stay c.in_ok-close.ensures.only_releases.stay) c.in_err-finish.ensures.only_waits.waits.stay
