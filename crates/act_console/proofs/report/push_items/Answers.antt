use Rattle.act_console.proofs.Common.{string_bytes, item_line}
use Rattle.act_console.proofs.Placed.{goes_on_at, is_done}
use Rattle.act_console.proofs.report.push_items.Goals as goal

pub loop-place-preserved : goal.loop-place-preserved
loop-place-preserved c = goes_on_at (item_line c.args.actor) (string_bytes c.loop-place.text) _ c.args.items.now c.loop-place-test.true c.index-items-place.is
    c.in_ok-push_item.ensures c.loop-place.invariant

pub returns : goal.returns
returns c =
    is_done (item_line c.args.actor) (string_bytes c.loop-place.text) _ c.args.items.now c.loop-place.place c.loop-place-test.false c.loop-place.invariant
