use Rattle.act_console.proofs.Common.{map, string_bytes, end_view, Finished}
use Rattle.act_console.proofs.Joined.{both_parts}
use Rattle.act_console.proofs.summary.summary_of.Goals as goal

pub returns : goal.returns
returns g c =
    let ends = map (λ (actor : Finished _ _). end_view g.K.Actor.state actor.ended) c.args.joined.now.actors.items in
    both_parts c.args.joined.now.owners.items ends (string_bytes c.push_owners.new.text) (string_bytes c.push_ends.new.text) c.new-text.ensures.bytes
    (rw c.as_slice.ensures.value at c.in_ok-push_owners.ensures)
    (rw c.as_slice-2.ensures.value at c.in_ok-push_ends.ensures)
