use Rattle.act_serve.proofs.AtOnce.{replied_now}
use Rattle.act_serve.proofs.letter.run_now.Goals as goal

pub returns-clause-ran : goal.returns-clause-ran
returns-clause-ran g c =
    replied_now c.args.packet c.args.live.now c.requires.at_once g.K.Actor.state c.run_now.new.self c.run_now.result
    c.run_now.ensures.reply c.run_now.ensures.ran
