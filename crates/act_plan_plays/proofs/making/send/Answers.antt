use Rattle.act_plan_plays.proofs.Moving.{send_comes}
use Rattle.act_plan_plays.proofs.making.send.Goals as goal

pub returns : goal.returns
returns g c = λ casts plans at stands part.
    let posted = c.in_ok-post.ensures casts at.history stands.behind in send_comes casts plans c.args.setup.now.caller c.args.k at stands posted.0 posted.1
