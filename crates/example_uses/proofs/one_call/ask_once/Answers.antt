use Rattle.example_uses.proofs.Hearing.{heard}
use Rattle.example_uses.proofs.one_call.ask_once.Goals as goal

pub returns-clause-answer : goal.returns-clause-answer
returns-clause-answer g c =
    heard c.in_ok-owner.owner c.collect.new.self c.in_ok-owner.packet c.in_ok-live.reply (g.K.Actor.state c.args.kind) c.args.method c.args.value
    c.in_ok-owner.ensures.owner c.in_ok-owner.ensures.packet c.in_ok-live.ensures.reply c.collect.ensures.after
