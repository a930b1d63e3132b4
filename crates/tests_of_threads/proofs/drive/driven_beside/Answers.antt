use denote.Param.Send.{sendable}
use Rattle.std.proofs.Crossing.{crosses}
use Rattle.act_rules.proofs.script.Step.TheSendSync as step
use Rattle.act_owner.proofs.Sent.{owner_sent}
use Rattle.act_drive.proofs.driver.CallerLines.TheSendSync as lines
use Rattle.act_drive.proofs.driver.CallerPasses.TheSendSync as passes
use Rattle.tests_of_threads.proofs.drive.driven_beside.Goals as goal

pub join-requires-send-F : goal.join-requires-send-F
join-requires-send-F g c κs within =
    search (c.type_bounds.sync-R, owner_sent, step.the_send, lines.the_send, passes.the_send, crosses, sendable) depth 60 fits 20000
