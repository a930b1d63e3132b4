-- A step of a session as a step of a plan.
use Rattle.act_rules.specs.declared.script.Step.{Step}
use Rattle.act_rules.specs.declared.script.Step.TheVariants.{Submit as SubmitStep, Copy as CopyStep, Release as ReleaseStep, Kill as KillStep}
use Rattle.act_rules.specs.declared.script.Step.TheVariants.{Await as AwaitStep}
use Rattle.act_drive.specs.declared.doing.Doing.{Doing}
use Rattle.act_drive.specs.declared.doing.Doing.TheVariants.{Submit, Copy, Release, Kill, Await}

abbrev pub step_of : Doing → Step
step_of (Submit a method args) = SubmitStep a method.value args.value
step_of (Copy a) = CopyStep a
step_of (Release a) = ReleaseStep a
step_of (Kill a) = KillStep a
step_of (Await k) = AwaitStep k
