use Rattle.act_record.proofs.Common.{Ok, Err, subst, spelled_threads, IsOutput}
use Rattle.act_record.proofs.Told.{told, untold}
use Rattle.act_record.proofs.record.record_script.Goals as goal

pub returns-in-Ok : goal.returns-in-Ok
returns-in-Ok g c =
    told (g.R.Read.remaining c.args.reader.now) (g.R.Read.remaining c.read_whole.new.reader) (g.W.Write.contents c.args.writer.now)
    (g.W.Write.contents c.write_output.new.writer) c.in_ok-bytes.bytes.items c.in_ok-bytes.ensures.ok c.in-Ok.output c.write_output.result
    (subst (λ bytes. IsOutput (Ok c.in-Ok.output) (spelled_threads bytes)) c.deref.ensures.value c.in-Ok.ensures) c.write_output.ensures

pub returns : goal.returns
returns g c =
    untold (g.R.Read.remaining c.args.reader.now) (g.R.Read.remaining c.read_whole.new.reader)
    (g.W.Write.contents c.args.writer.now) c.in_ok-bytes.bytes.items c.in_ok-bytes.ensures.ok c.in-Err.fault
    (subst (λ bytes. IsOutput (Err c.in-Err.fault) (spelled_threads bytes)) c.deref.ensures.value c.in-Err.ensures)
