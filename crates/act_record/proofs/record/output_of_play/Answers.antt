use Rattle.act_record.proofs.Common.{string_bytes, refl}
use Rattle.act_record.proofs.Told.{written_is, missed}
use Rattle.act_record.proofs.record.output_of_play.Goals as goal

pub returns-in-Ok : goal.returns-in-Ok
returns-in-Ok c script same is = let play = c.in-Ok.play in (script, refl, written_is play.written (string_bytes play.text) same is c.in-Ok.ensures.text)

pub returns-in-Err : goal.returns-in-Err
returns-in-Err c script same is = missed script c.in-Err.fault c.in-Err.ensures.fault
