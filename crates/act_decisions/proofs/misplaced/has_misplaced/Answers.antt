use Rattle.act_decisions.proofs.Common.{arith, sym, ◌∙◌, ap, [], length, refl, option_map_or, slice_get_read, ToldActor}
use Rattle.act_decisions.proofs.misplaced.has_misplaced.Goals as goal

pub returns-then-has_misplaced_at : goal.returns-then-has_misplaced_at
returns-then-has_misplaced_at c = λ yes. c.has_misplaced_at.ensures c.if-has_misplaced_at.true
    (c.deref.ensures.value ∙ ap (λ o. option_map_or (λ (x : ToldActor). x.runs.items) o [])
    (sym (slice_get_read c.args.end.now.actors.items (length c.args.end.now.actors.items) c.loop-a.a c.index.result.now refl (omega arith) c.index.ensures)))
