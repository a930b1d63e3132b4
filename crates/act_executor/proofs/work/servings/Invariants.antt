use Rattle.act_executor.proofs.Common.{◌≡◌, ◌++◌, length, map, zip, All, into_iter_items, into_iter_len, Each, MayServe, CanServe, serving_start, cast_start}
use Rattle.act_executor.proofs.work.servings.Given as goal

abbrev pub invariant-loop-cast : goal.invariant-loop-cast
invariant-loop-cast g l = record {
  first_long : into_iter_len l.cast-iterator.a ≡ length (into_iter_items l.cast-iterator.a);
  second_long : into_iter_len l.cast-iterator.b ≡ length (into_iter_items l.cast-iterator.b);
  serve : Each (MayServe l.lines) (into_iter_items l.cast-iterator.a) (into_iter_items l.cast-iterator.b);
  ready : All CanServe l.servings.items;
  starts : map (serving_start g.K.Actor.state) l.servings.items ++ map (cast_start g.K.Actor.state l.lines.replies.items) (zip (into_iter_items
      l.cast-iterator.a) (into_iter_items l.cast-iterator.b)) ≡ map (cast_start g.K.Actor.state l.lines.replies.items) (zip l.fn.casts.items l.fn.execs.items);
}
