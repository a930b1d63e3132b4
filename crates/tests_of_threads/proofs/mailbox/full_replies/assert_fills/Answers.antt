use Rattle.tests_of_threads.proofs.Common.{sym, subst, refl, IsPrefix, ReplyExecView}
use Rattle.tests_of_threads.proofs.mailbox.full_replies.assert_fills.Goals as goal

pub assert_filled-requires-clause-grown : goal.assert_filled-requires-clause-grown
assert_filled-requires-clause-grown g c = subst (λ (e : ReplyExecView). IsPrefix e.seen c.args.log.now) (sym c.requires.opened) (c.args.log.now, refl)
