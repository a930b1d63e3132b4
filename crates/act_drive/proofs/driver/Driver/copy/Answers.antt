use Rattle.act_drive.proofs.Common.{refl, Copy, Copied}
use Rattle.act_drive.proofs.OwnChanges.{calling_step, ended_copied}
use Rattle.act_drive.proofs.PlanSteps.{copy_follows}
use Rattle.act_drive.proofs.Notes.{ok_of}
use Rattle.act_drive.proofs.Keeps.{copy_returns}
use Rattle.act_drive.proofs.Tracing.{traces_step}
use Rattle.act_drive.proofs.driver.Driver.copy.Goals as goal

pub returns-in-Ok-clause-calling : goal.returns-in-Ok-clause-calling
returns-in-Ok-clause-calling g c lines calling =
    calling_step _ (Copied c.args.a) c.in-Ok.ensures.ok refl refl refl refl calling.flags
    (ended_copied c.args.self.now.owner c.args.a (ok_of _ _ c.in-Ok.ensures.value)) (copy_returns c.args.self.now.owner c.args.a) calling

pub returns-in-Ok-clause-follows : goal.returns-in-Ok-clause-follows
returns-in-Ok-clause-follows g c lines = copy_follows lines c.args.self.now _ c.args.a c.in-Ok.ensures.ok refl

pub returns-in-Ok-clause-traced : goal.returns-in-Ok-clause-traced
returns-in-Ok-clause-traced g c lines =
    traces_step lines c.args.self.now _ (Copy c.args.a) (Copied c.args.a) (λ _ _. refl) refl (ok_of _ _ c.in-Ok.ensures.value) c.in-Ok.ensures.ok refl refl
