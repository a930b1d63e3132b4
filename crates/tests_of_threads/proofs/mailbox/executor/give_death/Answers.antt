use Rattle.tests_of_threads.proofs.Common.{sym, subst, refl, ◌∙◌, IsPrefix, ReplyExecView}
use Rattle.tests_of_threads.proofs.mailbox.executor.give_death.Goals as goal

pub give-requires-clause-grown : goal.give-requires-clause-grown
give-requires-clause-grown g c = subst (λ (e : ReplyExecView). IsPrefix e.seen c.args.log.now) (sym (c.loop.invariant ∙ c.requires)) (c.args.log.now, refl)
