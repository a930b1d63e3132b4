use Rattle.act_console.proofs.Common.{◌≡◌, ◌∙◌, [], ◌∷◌, List, ◌-◌, take, reverse, ap, sym, string_bytes, append-nil, reverse-append, reverse-reverse, Event}
use Rattle.act_console.proofs.Common.{world_view}
use Rattle.act_console.proofs.Playing.{begins, goes_on, ends}
use Rattle.act_console.proofs.report.play_all.Goals as goal

pub loop-event-init : goal.loop-event-init
loop-event-init g c =
    begins c.args.events (reverse c.reverse.new.self.items) (world_view g.K.Actor.state c.args.world.now) (string_bytes c.args.text.now)
    (ap reverse c.reverse.ensures.items ∙ reverse-reverse c.into_vec-left.result.items ∙ c.into_vec-left.ensures) c.requires.room

pub loop-event-preserved : goal.loop-event-preserved
loop-event-preserved g c =
    let state = g.K.Actor.state in let told = sym c.is_memory.ensures ∙ c.if-is_memory.false in
    let next : reverse c.loop-event.left.items ≡ c.in-Some.event ∷ reverse c.give_back.new.left.items =
    ap reverse c.in-Some.ensures.items ∙ reverse-append c.pop.new.self.items (c.in-Some.event ∷ [])
    ∙ ap (λ l. c.in-Some.event ∷ reverse l) (sym {A = List Event} c.give_back.ensures.items) in
    goes_on c.args.events (reverse c.loop-event.left.items) (reverse c.give_back.new.left.items) c.in-Some.event c.apply_owned-outcome.result
    (world_view state c.args.world.now) (world_view state c.loop-event.world) (world_view state c.apply_owned-outcome.new.self)
    (string_bytes c.args.text.now) (string_bytes c.loop-event.text) (string_bytes c.push_outcome.new.text) c.loop-event.place
    next (c.apply_owned-outcome.ensures.outcome told) (c.apply_owned-outcome.ensures.reached told) c.apply_owned-outcome.ensures.grown
    c.in_ok-push_outcome.ensures c.loop-event.invariant

pub returns : goal.returns
returns g c =
    let state = g.K.Actor.state in
    let none : c.loop-event.left.items ≡ [] =
    c.in_default.ensures.items ∙ append-nil c.pop.new.self.items ∙ c.in_default.ensures.rest
    ∙ ap (λ n. take (n - 1) c.loop-event.left.items) c.in_default.ensures.cases.0 in
    ends c.args.events (reverse c.loop-event.left.items) (world_view state c.args.world.now) (world_view state c.loop-event.world)
    (string_bytes c.args.text.now) (string_bytes c.loop-event.text) c.loop-event.place
    (ap reverse none) c.loop-event.invariant
