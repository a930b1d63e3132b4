use Rattle.act_histories.proofs.Common.{subst, IsVerdict}
use Rattle.act_histories.proofs.Verdicts.{written}
use Rattle.act_histories.proofs.check.check_history.Goals as goal

pub returns-in-Ok : goal.returns-in-Ok
returns-in-Ok g c =
    written (g.R.Read.remaining c.args.reader.now) (g.R.Read.remaining c.read_bytes.new.reader) (g.W.Write.contents c.args.writer.now)
    (g.W.Write.contents c.write_verdict.new.writer) c.in_ok-bytes.bytes.items c.in_ok-bytes.ensures.ok c.in-Ok.verdict c.write_verdict.result
    (subst (λ bytes. IsVerdict bytes c.in-Ok.verdict) c.deref.ensures.value c.in-Ok.ensures) c.write_verdict.ensures
