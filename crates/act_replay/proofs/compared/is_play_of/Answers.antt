use Rattle.act_replay.proofs.compared.is_play_of.Goals as goal

pub returns : goal.returns
returns g c = c.in_ok-is.ensures _ c.in_ok-world.ensures.reached
