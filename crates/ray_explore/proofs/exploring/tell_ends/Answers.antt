use Rattle.ray_explore.proofs.Common.{◌≡◌, ℕ, List, Option, ◌∙◌, subst, TellsMore}
use Rattle.ray_explore.proofs.Written.{more, at_most}
use Rattle.ray_explore.proofs.exploring.tell_ends.Goals as goal

pub loop-preserved : goal.loop-preserved
loop-preserved g c =
    let old : Option (List ℕ) = g.W.Write.contents c.loop.writer in
    let new : Option (List ℕ) = g.W.Write.contents c.tell_looked.new.writer in
    let same : c.look.new.self.script ≡ c.args.search.now.script = c.in_ok-looked.ensures.script ∙ c.loop.invariant.script in
    let next : TellsMore c.args.search.now.script c.loop.count c.in_ok-count.count old new =
    subst (λ (s : List ℕ). TellsMore s c.loop.count c.in_ok-count.count old new) same c.in_ok-count.ensures in
    record {
      script = same;
      told = more c.args.search.now.script c.loop.count c.in_ok-count.count (g.W.Write.contents c.args.writer.now) old new c.loop.invariant.told next;
      few = at_most c.args.search.now.script c.loop.count c.in_ok-count.count c.loop.counter old new c.loop.invariant.few next;
    }
