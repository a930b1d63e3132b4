use Rattle.tests_of_threads.proofs.Common.{◌≡◌, All, IsPrefix, IsNoDeath}
use Rattle.tests_of_threads.proofs.mailbox.full_replies.handed_back.Given as goal

abbrev pub invariant-loop-number : goal.invariant-loop-number
invariant-loop-number g l =
    (l.pass.line ≡ l.initial.pass.line) × (l.pass.actor ≡ l.initial.pass.actor) × All IsNoDeath l.pass.given × IsPrefix l.pass.seen l.log
