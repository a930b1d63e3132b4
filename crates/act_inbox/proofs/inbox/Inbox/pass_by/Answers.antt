use Rattle.act_inbox.proofs.Common.{sym, ◌∙◌, ap, is_some, IsNextToCome, the_view}
use Rattle.act_inbox.proofs.Packets.{new_listed}
use Rattle.act_inbox.proofs.Notes.{listed_is}
use Rattle.act_inbox.proofs.Taking.{sound_passed, next_passed, is_there}
use Rattle.act_inbox.proofs.inbox.Inbox.pass_by.Goals as goal

pub unwrap-place-requires : goal.unwrap-place-requires
unwrap-place-requires c =
    let inbox = the_view c.self.inside in
    let next : IsNextToCome c.args.packet.now inbox = rw (← c.self.view_is) at c.requires.next in
    is_there c.place_of_lane.result (ap is_some (rw c.deref.ensures.value at c.place_of_lane.ensures) ∙ listed_is inbox c.args.packet.now.caller ∙
    new_listed inbox c.args.packet.now next.is_new)

pub invariant_of-self : goal.invariant_of-self
invariant_of-self c =
    let inbox = the_view c.self.inside in
    let at = rw c.deref.ensures.value at (sym c.place_of_lane.ensures ∙ c.unwrap-place.ensures) in
    sound_passed inbox c.args.packet.now c.unwrap-place.result c.index_mut-lane.result.now at c.index_mut-lane.ensures.value
    (rw (← c.self.view_is) at c.requires.next) c.self.invariant

pub returns-clause-taken : goal.returns-clause-taken
returns-clause-taken c =
    let inbox = the_view c.self.inside in
    let at = rw c.deref.ensures.value at (sym c.place_of_lane.ensures ∙ c.unwrap-place.ensures) in
    rw (← c.self.view_is) (next_passed inbox c.args.packet.now c.unwrap-place.result c.index_mut-lane.result.now at c.index_mut-lane.ensures.value
    (rw (← c.self.view_is) at c.requires.next) c.self.invariant)
