use Rattle.act_inbox.proofs.Common.{sym, ◌∙◌, refl, slice_set, InboxView, is_packet_of, the_view}
use Rattle.act_inbox.proofs.Lanes.{one_more, lane_is, no_lane}
use Rattle.act_inbox.proofs.Packets.{unlisted_next, listed_next}
use Rattle.act_inbox.proofs.Taking.{next_found, next_taken, held_out, sound_then}
use Rattle.act_inbox.proofs.inbox.Inbox.next.Goals as goal

pub returns-in_err-place-clause-value : goal.returns-in_err-place-clause-value
returns-in_err-place-clause-value c =
    let inbox = the_view c.self.inside in
    let at = rw c.deref.ensures.value at (sym c.place_of_lane.ensures ∙ c.in_err-place.was) in
    c.from_residual.ensures ∙ rw (← c.self.view_is) (sym (unlisted_next inbox c.args.caller (no_lane inbox c.args.caller at)))

pub returns-in_err-packet-clause-value : goal.returns-in_err-packet-clause-value
returns-in_err-packet-clause-value c =
    let inbox = the_view c.self.inside in
    let at = rw c.deref.ensures.value at (sym c.place_of_lane.ensures ∙ c.in_ok-place.was) in
    let next = listed_next inbox c.args.caller (lane_is inbox c.args.caller c.in_ok-place.place at c.index.ensures) ∙ sym c.in_err-packet.ensures.value in
    c.from_residual-in_err-packet.ensures ∙ rw (← c.self.view_is) (sym next)

pub invariant_of-self-2 : goal.invariant_of-self-2
invariant_of-self-2 c =
    let inbox = the_view c.self.inside in
    let after : InboxView = record inbox { lanes = slice_set inbox.lanes c.in_ok-place.place (one_more c.index_mut.result.now); held = c.remove.new.self } in
    let at = rw c.deref.ensures.value at (sym c.place_of_lane.ensures ∙ c.in_ok-place.was) in
    sound_then inbox c.args.caller c.in_ok-place.place _ _ at c.index.ensures (sym c.in_ok-packet.ensures.value) c.self.invariant
    after _ c.index_mut.ensures.value refl c.in_ok-packet.ensures.others (c.remove.ensures.numbered c.self.invariant.numbered) refl

pub returns : goal.returns
returns c =
    let inbox = the_view c.self.inside in
    let after : InboxView = record inbox { lanes = slice_set inbox.lanes c.in_ok-place.place (one_more c.index_mut.result.now); held = c.remove.new.self } in
    let at = rw c.deref.ensures.value at (sym c.place_of_lane.ensures ∙ c.in_ok-place.was) in
    let found = sym c.in_ok-packet.ensures.value in
    record {
      value = rw (← c.self.view_is) (next_found inbox c.args.caller c.in_ok-place.place _ _ at c.index.ensures found c.self.invariant);
      none = tt;
      taken = rw (← c.self.view_is) (next_taken inbox c.args.caller c.in_ok-place.place _ _ at c.index.ensures found c.self.invariant
          after _ c.index_mut.ensures.value refl c.in_ok-packet.ensures.others (c.remove.ensures.numbered c.self.invariant.numbered) refl);
      held = λ other number. rw (← c.self.view_is) (held_out inbox c.args.caller c.in_ok-place.place _ c.in_ok-packet.packet at c.index.ensures found
          c.self.invariant _ c.remove.ensures.gone c.in_ok-packet.ensures.others other number (is_packet_of other number c.in_ok-packet.packet) refl);
    }
