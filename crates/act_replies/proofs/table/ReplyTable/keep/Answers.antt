use Rattle.act_replies.proofs.Common.{◌<◌, ◌∙◌, length, sym, arith, ap, TableView}
use Rattle.act_replies.proofs.Deaths.{kept_open, keep_open, keep_fine}
use Rattle.act_replies.proofs.table.ReplyTable.keep.Goals as goal

pub invariant_of-self : goal.invariant_of-self
invariant_of-self c =
    let below : c.number-place.result < length c.self.inside.rows.items = omega arith in
    keep_fine c.self.inside.rows.items c.self.inside.unanswered c.args.answer c.index_mut.result.now
    c.self.invariant.0 c.self.invariant.1 c.number-place.ensures below c.index.ensures (sym c.is_some.ensures ∙ c.if-is_some.false) c.remove.ensures.actors

pub returns-clause-value : goal.returns-clause-value
returns-clause-value c =
    let below : c.number-place.result < length c.self.inside.rows.items = omega arith in
    kept_open (ap (λ (t : TableView). t.rows) c.self.view_is)
    c.number-place.ensures below c.index.ensures (sym c.is_some.ensures ∙ c.if-is_some.false)

pub returns-clause-rows : goal.returns-clause-rows
returns-clause-rows c =
    let below : c.number-place.result < length c.self.inside.rows.items = omega arith in
    keep_open c.args.answer (ap (λ (t : TableView). t.rows) c.self.view_is)
    c.number-place.ensures below c.index.ensures (sym c.is_some.ensures ∙ c.if-is_some.false) c.index_mut.ensures.value
