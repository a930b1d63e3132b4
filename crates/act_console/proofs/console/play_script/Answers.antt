use Rattle.act_console.proofs.Told.{play_told}
use Rattle.act_console.proofs.console.play_script.Goals as goal

pub returns-in-Ok : goal.returns-in-Ok
returns-in-Ok g c =
    play_told (g.R.Read.remaining c.args.reader.now) (g.R.Read.remaining c.read_whole.new.reader) (g.W.Write.contents c.args.writer.now)
    (g.W.Write.contents c.write_output.new.writer) c.in_ok-bytes.bytes.items c.in_ok-bytes.ensures.ok c.in-Ok.answer c.write_output.result
    c.in-Ok.ensures c.write_output.ensures
