use Rattle.act_walks.proofs.Common.{◌≡◌, length, arith}
use Rattle.act_walks.proofs.Wholly.{has_done_all}
use Rattle.act_walks.proofs.walks.has_done.Goals as goal

pub returns : goal.returns
returns c =
    let long : c.len.result ≡ length c.in-Some.steps.items = omega (arith, c.len.ensures) in
    has_done_all c.args.done.now c.len.result c.args.number c.args.caller.now c.in-Some.is long c.steps_done.ensures
