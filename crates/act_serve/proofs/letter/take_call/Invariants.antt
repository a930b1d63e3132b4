use Rattle.act_serve.specs.ActorTraces.{exec_clock}
use Rattle.act_serve.proofs.letter.take_call.Given as goal

-- the reply's stamp: what the clock shows
abbrev pub ghosts-give_reply : goal.ghosts-give_reply
ghosts-give_reply g a = record { stamp = exec_clock a.passes.now }
