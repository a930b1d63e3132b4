use Rattle.act_written.proofs.Common.{take_rest, appends_more}
use Rattle.act_written.proofs.written.write_whole.Goals as goal

pub loop-rest-preserved : goal.loop-rest-preserved
loop-rest-preserved g c =
    let seen = c.loop-rest.invariant in
    appends_more _ _ _ _ seen.0 c.loop-rest.rest.now _ c.in-Ok.count seen.1 seen.2 c.in-Ok.ensures.bytes (take_rest c.loop-rest.rest.now c.in-Ok.count)
