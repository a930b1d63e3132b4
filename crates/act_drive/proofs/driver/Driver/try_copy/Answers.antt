use Rattle.act_drive.proofs.Common.{refl, Copy, Copied}
use Rattle.act_drive.proofs.OwnChanges.{calling_step, ended_copied}
use Rattle.act_drive.proofs.Notes.{ok_of}
use Rattle.act_drive.proofs.Keeps.{copy_returns}
use Rattle.act_drive.proofs.CodeSteps.{does_copy}
use Rattle.act_drive.proofs.Tracing.{traces_step}
use Rattle.act_drive.proofs.driver.Driver.try_copy.Goals as goal

pub returns-clause-calling : goal.returns-clause-calling
returns-clause-calling c lines calling =
    calling_step _ (Copied c.args.a) c.in_ok-copies.ensures.ok refl refl refl refl calling.flags
    (ended_copied c.args.self.now.owner c.args.a (ok_of _ _ c.in_ok-copies.ensures.value)) (copy_returns c.args.self.now.owner c.args.a) calling

pub returns-clause-does : goal.returns-clause-does
returns-clause-does c lines = does_copy lines c.args.self.now _ c.args.a c.in_ok-copies.ensures.ok refl (ok_of _ _ c.in_ok-copies.ensures.value)

pub returns-clause-traced : goal.returns-clause-traced
returns-clause-traced c lines = traces_step lines c.args.self.now _ (Copy c.args.a) (Copied c.args.a) (λ _ _. refl) refl
    (ok_of _ _ c.in_ok-copies.ensures.value) c.in_ok-copies.ensures.ok refl refl
