use Rattle.ray_explore.proofs.Common.{string_bytes}
use Rattle.ray_explore.proofs.Written.{one_more}
use Rattle.ray_explore.proofs.exploring.tell_looked.Goals as goal

pub returns-then-branch : goal.returns-then-branch
returns-then-branch g c =
    one_more c.args.search.now.script c.script.result.now (string_bytes c.in-End.lines) c.args.count c.in_ok-tell_end-in-End.field-0
    (g.W.Write.contents c.args.writer.now) (g.W.Write.contents c.tell_end.new.writer)
    c.script.ensures c.if-branch.true c.in_ok-tell_end-in-End.ensures.told
