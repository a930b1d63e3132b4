use Rattle.tests_of_threads.proofs.Common.{◌≢◌, ◌∷◌, [], ◌∙◌, unused_pair}
use Rattle.tests_of_threads.proofs.drive.pair.paired.Goals as goal

pub returns-clause-caller : goal.returns-clause-caller
returns-clause-caller c =
    let r = c.requires in
    let differ : c.args.one.control.actor ≢ c.args.two.control.actor = λ same. cc (same, r.actors.0, r.actors.1) in
    let mails : c.args.one.mail.actor ≢ c.args.two.mail.actor = λ same. cc (same, r.mails.0, r.mails.1) in
    unused_pair _ 1 c.args.one.mail c.args.two.mail c.args.one.control c.args.two.control c.args.replies.0 (1 ∷ 2 ∷ [])
    r.posts.0 r.posts.1 r.asks.0 r.asks.1 mails differ c.endpoints_at-caller.ensures.letters c.endpoints_at-caller.ensures.kills
    (c.endpoints_at-caller.ensures.collects ∙ r.collects)
