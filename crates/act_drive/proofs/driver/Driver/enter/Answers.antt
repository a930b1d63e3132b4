use Rattle.act_drive.proofs.Common.{refl, Submit, Submitted}
use Rattle.act_drive.proofs.OwnChanges.{calling_step, ended_submitted}
use Rattle.act_drive.proofs.Notes.{submit_flags}
use Rattle.act_drive.proofs.Keeps.{submit_returns}
use Rattle.act_drive.proofs.CodeSteps.{stays_submitted}
use Rattle.act_drive.proofs.Tracing.{traces_step}
use Rattle.act_drive.proofs.driver.Driver.enter.Goals as goal

pub returns-clause-calling : goal.returns-clause-calling
returns-clause-calling c lines calling =
    let owner = c.args.self.now.owner in
    calling_step _ (Submitted c.args.a c.args.method c.args.args) c.in_ok-k.ensures.ok refl refl refl refl
    (submit_flags owner c.args.a c.args.method c.args.args calling.flags)
    (ended_submitted owner c.args.a c.args.method c.args.args c.in_ok-k.ensures.accepted) (submit_returns owner c.args.a c.args.method c.args.args) calling

pub returns-clause-stays : goal.returns-clause-stays
returns-clause-stays c = stays_submitted c.args.self.now _ c.args.a c.args.method c.args.args c.in_ok-k.ensures.ok refl

pub returns-clause-traced : goal.returns-clause-traced
returns-clause-traced c lines = traces_step lines c.args.self.now _ (Submit c.args.a c.args.method c.args.args) (Submitted c.args.a c.args.method c.args.args)
    (λ _ _. refl) refl c.in_ok-k.ensures.accepted c.in_ok-k.ensures.ok refl refl
