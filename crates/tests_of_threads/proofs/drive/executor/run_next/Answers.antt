use Rattle.tests_of_threads.proofs.Common.{run_named}
use Rattle.tests_of_threads.proofs.drive.executor.run_next.Goals as goal

pub returns-clause-id : goal.returns-clause-id
returns-clause-id g c = (run_named g.K.Actor.state c.caller.result c.args.live.now c.run.new.self c.run.result c.run.ensures.reply c.run.ensures.ran
    c.run.ensures.gap c.run.ensures.err).0

pub returns-clause-front : goal.returns-clause-front
returns-clause-front g c = (run_named g.K.Actor.state c.caller.result c.args.live.now c.run.new.self c.run.result c.run.ensures.reply c.run.ensures.ran
    c.run.ensures.gap c.run.ensures.err).1

pub returns-clause-names : goal.returns-clause-names
returns-clause-names g c = (run_named g.K.Actor.state c.caller.result c.args.live.now c.run.new.self c.run.result c.run.ensures.reply c.run.ensures.ran
    c.run.ensures.gap c.run.ensures.err).2
