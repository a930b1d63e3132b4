-- That a caller's task may go to its thread, and that what it leaves may come back. The prover finds no way through the
-- caller that both have in them, so that is passed on as found.
use Rattle.act_executor.proofs.Common.{[], ◌∷◌, IsSend, sendable, recorded_send, struct_send}
use mir.Syntax.{Sym}
use denote.RattleType.{RattleType}
use denote.Ref.{NamedLft}
use denote.Struct.Declared as declared
use denote.Struct.Tuple.{TupleAt, type_at}
use Rattle.std.proofs.Crossing.{crosses}
use Rattle.act_rules.proofs.script.Step.TheSendSync as step
use Rattle.act_owner.proofs.Sent.{owner_part}
use Rattle.act_drive.proofs.driver.CallerLines.TheSendSync as lines
use Rattle.act_drive.proofs.driver.CallerPasses.TheSendSync as passes
use Rattle.act_drive.specs.contracts.caller.Driven as driven
use Rattle.act_executor.specs.contracts.work.Driving as driving

-- what a caller's thread is given may go there, where its conduct and its notes may
pub driving_sent : (a : NamedLft) (D N : RattleType) → IsSend D → IsSend N → IsSend (driving.the_row a D N)
driving_sent a D N conduct notes = search (owner_part, step.the_send, lines.the_field_send, passes.the_field_send, crosses, sendable) depth 60 fits 20000

-- what a caller's thread leaves may come back
pub driven_sent : IsSend driven.the_row
driven_sent = search (owner_part, passes.the_field_send, crosses, sendable) depth 60 fits 20000

-- a pair may go to another thread where both of its members may
pub pair_sent : (ν : Sym) (T U : RattleType) → IsSend T → IsSend U → IsSend (TupleAt ν (T ∷ U ∷ []))
pair_sent ν T U one other = recorded_send _ _ _ (type_at ν (T ∷ U ∷ [])).to_one (struct_send (declared.shape (type_at ν (T ∷ U ∷ []))) (one, (other, tt)))
