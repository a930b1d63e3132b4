use Rattle.tests_of_threads.proofs.Common.{sym, subst, NamesPlace}
use Rattle.tests_of_threads.proofs.mailbox.full_replies.handed_back.Goals as goal

pub give-requires-clause-place : goal.give-requires-clause-place
give-requires-clause-place g c =
    subst (λ log. NamesPlace log c.reply.result) (sym c.requires.log.1) (c.reply.ensures.place c.requires.log.0 c.requires.log.2 c.requires.log.3)
