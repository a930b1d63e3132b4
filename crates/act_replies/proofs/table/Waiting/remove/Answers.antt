use Rattle.act_replies.proofs.Common.{◌≡◌, ◌<◌, length, arith, ap, sym, subst, ◌∙◌, Some, None, slice_set, IfSome, length-map, length-set, Link, WaitingView}
use Rattle.act_replies.proofs.Common.{linked_actors}
use Rattle.act_replies.proofs.Counts.{counts_some, counts_removed}
use Rattle.act_replies.proofs.Links.{read_link, removal_last, removal_inner, before_within, after_within, taken_out, stays_out, told_none, told_some}
use Rattle.act_replies.proofs.table.Waiting.remove.Goals as goal

pub returns-in_default-clause-actors : goal.returns-in_default-clause-actors
returns-in_default-clause-actors c =
    stays_out c.self.inside.links.items (ap (λ (w : WaitingView). w.actors) c.self.view_is) c.number-place.ensures c.requires c.index.ensures c.in_default.is

pub bypass-requires-clause-before : goal.bypass-requires-clause-before
bypass-requires-clause-before c =
    let items = c.self.inside.links.items in
    let below : c.number-place.result < length items =
    omega (arith, c.requires, ap (λ (w : WaitingView). length w.actors) c.self.view_is, length-map items (λ (l : Link). l.actor)) in
    let as_many : length c.deref_mut.result.now ≡ length items = ap length c.deref_mut.ensures.value ∙ simp length-set in
    subst (λ n. IfSome c.index.result.now.before (λ k. k < n)) (sym as_many)
    (before_within items c.self.inside.last c.self.invariant.0 below c.index.ensures c.in-Some.is)

pub bypass-requires-clause-after : goal.bypass-requires-clause-after
bypass-requires-clause-after c =
    let items = c.self.inside.links.items in
    let below : c.number-place.result < length items =
    omega (arith, c.requires, ap (λ (w : WaitingView). length w.actors) c.self.view_is, length-map items (λ (l : Link). l.actor)) in
    let as_many : length c.deref_mut.result.now ≡ length items = ap length c.deref_mut.ensures.value ∙ simp length-set in
    subst (λ n. IfSome c.index.result.now.after (λ k. k < n)) (sym as_many)
    (after_within items c.self.inside.last c.self.invariant.0 below c.index.ensures c.in-Some.is)

pub overflow_sub-self : goal.overflow_sub-self
overflow_sub-self c =
    let items = c.self.inside.links.items in
    let below : c.number-place.result < length items =
    omega (arith, c.requires, ap (λ (w : WaitingView). length w.actors) c.self.view_is, length-map items (λ (l : Link). l.actor)) in
    counts_some (linked_actors items) c.self.inside.counts c.number-place.result c.self.invariant.1 c.number.ensures.valid.1 c.number.ensures.value
    (read_link (λ l. l.actor) items below c.index.ensures ∙ c.in-Some.is)

pub invariant_of-self : goal.invariant_of-self
invariant_of-self c =
    let items = c.self.inside.links.items in
    let below : c.number-place.result < length items =
    omega (arith, c.requires, ap (λ (w : WaitingView). length w.actors) c.self.view_is, length-map items (λ (l : Link). l.actor)) in
    let listed : c.number-then-is_none.result < length c.self.inside.last = omega arith in
    let out = taken_out items c.bypass.new.links c.number-place.result c.index.result.now c.self.inside.links.ok.0 c.index_mut.ensures.value
    c.deref_mut.ensures.value c.bypass.ensures.actors c.bypass.ensures.before c.bypass.ensures.after in
    let counted : c.number.result < length c.self.inside.counts = omega arith in (
      removal_last items _ c.self.inside.last c.self.invariant.0 below listed c.index.ensures (c.in-Some.is ∙ ap Some (sym c.number-then-is_none.ensures.value))
          (told_none c.index.result.now.after c.is_none.ensures c.if-is_none.true) out,
      counts_removed (linked_actors items) _ c.self.inside.counts c.number-place.result c.self.invariant.1 counted c.number.ensures.value
          (read_link (λ l. l.actor) items below c.index.ensures ∙ c.in-Some.is) out.actors,
    )

pub invariant_of-self-else-is_none : goal.invariant_of-self-else-is_none
invariant_of-self-else-is_none c =
    let items = c.self.inside.links.items in
    let below : c.number-place.result < length items =
    omega (arith, c.requires, ap (λ (w : WaitingView). length w.actors) c.self.view_is, length-map items (λ (l : Link). l.actor)) in
    let out = taken_out items c.bypass.new.links c.number-place.result c.index.result.now c.self.inside.links.ok.0 c.index_mut.ensures.value
    c.deref_mut.ensures.value c.bypass.ensures.actors c.bypass.ensures.before c.bypass.ensures.after in
    let counted : c.number.result < length c.self.inside.counts = omega arith in (
      removal_inner items _ c.self.inside.last c.self.invariant.0 below c.index.ensures c.in-Some.is
          (told_some c.index.result.now.after c.is_none.ensures c.if-is_none.false) out,
      counts_removed (linked_actors items) _ c.self.inside.counts c.number-place.result c.self.invariant.1 counted c.number.ensures.value
          (read_link (λ l. l.actor) items below c.index.ensures ∙ c.in-Some.is) out.actors,
    )

pub returns-then-is_none-clause-actors : goal.returns-then-is_none-clause-actors
returns-then-is_none-clause-actors c =
    let items = c.self.inside.links.items in
    (taken_out items c.bypass.new.links c.number-place.result c.index.result.now c.self.inside.links.ok.0 c.index_mut.ensures.value c.deref_mut.ensures.value
    c.bypass.ensures.actors c.bypass.ensures.before c.bypass.ensures.after).actors
    ∙ ap (λ (w : WaitingView). slice_set w.actors c.number-place.result None) c.self.view_is
    ∙ ap (λ n. slice_set c.args.self.now.actors n None) c.number-place.ensures

pub returns-else-is_none-clause-actors : goal.returns-else-is_none-clause-actors
returns-else-is_none-clause-actors c =
    let items = c.self.inside.links.items in
    (taken_out items c.bypass.new.links c.number-place.result c.index.result.now c.self.inside.links.ok.0 c.index_mut.ensures.value c.deref_mut.ensures.value
    c.bypass.ensures.actors c.bypass.ensures.before c.bypass.ensures.after).actors
    ∙ ap (λ (w : WaitingView). slice_set w.actors c.number-place.result None) c.self.view_is
    ∙ ap (λ n. slice_set c.args.self.now.actors n None) c.number-place.ensures
