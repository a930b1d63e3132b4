use Rattle.act_world.proofs.Common.{refl}
use Rattle.act_world.proofs.Stepping.{wanting_there}
use Rattle.act_world.proofs.network.Network.submit_copy.Goals as goal

pub returns-in-Some : goal.returns-in-Some
returns-in-Some c = c.in-Some.ensures.refused c.args.method

pub returns-in_err-args : goal.returns-in_err-args
returns-in_err-args c =
    wanting_there _ _ _ _ _ c.from_residual.ensures.1 refl (c.in_default.ensures.accepted c.args.method) (λ slots casts before reached. refl)

pub returns : goal.returns
returns c = rw (← c.in_ok-args.ensures) c.submit.ensures
