use Rattle.act_written.proofs.Common.{string_bytes, call_lines}
use Rattle.act_written.proofs.Each.{each_next}
use Rattle.act_written.proofs.text.push_calls.Goals as goal

pub loop-place-preserved : goal.loop-place-preserved
loop-place-preserved c =
    each_next (call_lines c.args.told.now c.args.names.now) c.loop-place.place (string_bytes c.args.text.now) c.loop-place.invariant c.in_ok-push_call.ensures
