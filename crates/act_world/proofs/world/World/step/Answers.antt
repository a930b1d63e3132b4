use Rattle.act_world.proofs.Common.{Ok}
use Rattle.act_world.proofs.Stepping.{of_network}
use Rattle.act_world.proofs.world.World.step.Goals as goal

pub returns-in-Submit : goal.returns-in-Submit
returns-in-Submit g c =
    rw (← c.self.view_is) (of_network g.K.Actor.state _ c.self.inside.network c.submit_copy.new.self c.submit_copy.result c.in-Submit.is c.submit_copy.ensures)

pub returns-in-Copy : goal.returns-in-Copy
returns-in-Copy g c =
    rw (← c.self-in-Copy.view_is) (of_network g.K.Actor.state _ c.self-in-Copy.inside.network c.copy.new.self (Ok c.copy.result) c.in-Copy.is c.copy.ensures)

pub returns-in-Release : goal.returns-in-Release
returns-in-Release g c = rw (← c.self-in-Release.view_is)
    (of_network g.K.Actor.state _ c.self-in-Release.inside.network c.release.new.self c.release.result c.in-Release.is c.release.ensures)

pub returns-in-Send : goal.returns-in-Send
returns-in-Send g c =
    rw (← c.self-in-Send.view_is) (of_network g.K.Actor.state _ c.self-in-Send.inside.network c.send.new.self c.send.result c.in-Send.is c.send.ensures)

pub returns-in-Deliver : goal.returns-in-Deliver
returns-in-Deliver g c = rw c.in-Deliver.is c.deliver.ensures

pub returns-in-Run : goal.returns-in-Run
returns-in-Run g c = rw c.in-Run.is c.run.ensures

pub returns-in-Collect : goal.returns-in-Collect
returns-in-Collect g c = rw (← c.self-in-Collect.view_is)
    (of_network g.K.Actor.state _ c.self-in-Collect.inside.network c.collect.new.self c.collect.result c.in-Collect.is c.collect.ensures)

pub returns-in-AskKill : goal.returns-in-AskKill
returns-in-AskKill g c = rw (← c.self-in-AskKill.view_is)
    (of_network g.K.Actor.state _ c.self-in-AskKill.inside.network c.ask_kill.new.self (Ok c.ask_kill.result) c.in-AskKill.is c.ask_kill.ensures)

pub returns-in-TakeKill : goal.returns-in-TakeKill
returns-in-TakeKill g c = rw c.in-TakeKill.is c.take_kill.ensures

pub returns-in-Tell : goal.returns-in-Tell
returns-in-Tell g c = rw c.in-Tell.is c.tell.ensures

pub returns-in-Retire : goal.returns-in-Retire
returns-in-Retire g c = rw c.in-Retire.is c.retire.ensures
