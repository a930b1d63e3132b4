use Rattle.act_drive.proofs.Common.{rules, refl, Submit, Submitted}
use Rattle.act_drive.proofs.OwnChanges.{calling_step, ended_submitted}
use Rattle.act_drive.proofs.PlanSteps.{submit_follows}
use Rattle.act_drive.proofs.Notes.{submit_flags}
use Rattle.act_drive.proofs.Keeps.{submit_returns}
use Rattle.act_drive.proofs.Tracing.{traces_step}
use Rattle.act_drive.proofs.CodeSteps.{stays_submitted}
use Rattle.act_drive.proofs.driver.Driver.submit_in_room.Goals as goal

pub returns-in-Ok : goal.returns-in-Ok
returns-in-Ok g c = record {
  calling = λ lines calling.
      let owner = c.args.self.now.owner in
      calling_step _ (Submitted c.args.a c.args.method c.args.args) c.in-Ok.ensures.ok refl refl refl refl
      (submit_flags owner c.args.a c.args.method c.args.args calling.flags)
      (ended_submitted owner c.args.a c.args.method c.args.args c.in-Ok.ensures.accepted) (submit_returns owner c.args.a c.args.method c.args.args) calling;
  follows = λ lines. submit_follows lines c.args.self.now _ c.args.a c.args.method c.args.args c.in-Ok.ensures.ok refl;
  traced = λ lines. traces_step lines c.args.self.now _ (Submit c.args.a c.args.method c.args.args) (Submitted c.args.a c.args.method c.args.args)
      (λ _ _. refl) refl c.in-Ok.ensures.accepted c.in-Ok.ensures.ok refl refl;
  stays = stays_submitted c.args.self.now _ c.args.a c.args.method c.args.args c.in-Ok.ensures.ok refl;
  on_refusal = search rules;
}
