use Rattle.act_lists.proofs.Lists.{past_none}
use Rattle.act_orders.proofs.Common.{◌-◌, sym, ap, ◌∙◌, Some, slots, graph_of}
use Rattle.act_orders.proofs.Causing.{needed_within, happened_within}
use Rattle.act_orders.proofs.Nexting.{next_at, next_empty}
use Rattle.act_orders.proofs.search.Search.next.Goals as goal

pub slot_of-requires-clause-within : goal.slot_of-requires-clause-within
slot_of-requires-clause-within c = happened_within c.args.top c.requires.whole c.requires.happened

pub returns-in-None : goal.returns-in-None
returns-in-None c = past_none (slots c.args.told.now c.args.places.now c.args.top) (c.args.mark - 1) (sym c.slot_of.ensures ∙ c.in-None.is)

pub returns-in-None-slot : goal.returns-in-None-slot
returns-in-None-slot c = next_empty (graph_of c.args.told.now c.args.places.now) c.args.self.now.order.items c.args.top c.args.mark
    (sym c.slot_of.ensures ∙ c.in-Some.is ∙ ap Some c.in-None-slot.is)

pub at_cause-requires-clause-within : goal.at_cause-requires-clause-within
at_cause-requires-clause-within c = needed_within c.args.top (c.args.mark - 1)
    c.requires.places c.requires.whole c.requires.happened (sym c.slot_of.ensures ∙ c.in-Some.is ∙ ap Some c.in-Some-slot.is)

pub returns-in-Some-slot : goal.returns-in-Some-slot
returns-in-Some-slot c = next_at (graph_of c.args.told.now c.args.places.now) c.args.self.now.marks.items c.args.self.now.path.items c.args.self.now.order.items
    c.args.top c.args.mark c.at_cause.result (sym c.slot_of.ensures ∙ c.in-Some.is ∙ ap Some c.in-Some-slot.is) c.at_cause.ensures
