use Rattle.act_walks.proofs.Common.{refl, sym, ◌∙◌, subst, parts_of, Tries}
use Rattle.act_rules.specs.declared.event.Event.TheVariants as event
use Rattle.act_walks.proofs.Shown.{read_at, read_none}
use Rattle.act_walks.proofs.Calls.{is_bound, no_call, call_moves}
use Rattle.act_walks.proofs.acting.call.Goals as goal

pub returns-then-is_some : goal.returns-then-is_some
returns-then-is_some g c = is_bound c.args.end.now c.args.c c.in-Some.caller.now (parts_of g.K.Actor.state c.args.walk.now)
    (read_at c.deref.ensures.value c.number.ensures.value c.in-Some.ensures.lookup.0 c.in-Some.ensures.lookup.1) (sym c.is_some.ensures ∙ c.if-is_some.true)

pub returns-in_default-get : goal.returns-in_default-get
returns-in_default-get g c = no_call c.args.end.now c.args.c c.count_calls.result c.in-Some.caller.now (parts_of g.K.Actor.state c.args.walk.now)
    (read_at c.deref.ensures.value c.number.ensures.value c.in-Some.ensures.lookup.0 c.in-Some.ensures.lookup.1)
    (read_none c.count_calls.result c.count_calls.result c.deref-2.ensures.value refl c.in_default-get.ensures.lookup.0) c.count_calls.ensures

pub returns : goal.returns
returns g c = call_moves c.args.end.now c.args.c c.count_calls.result (parts_of g.K.Actor.state c.args.walk.now)
    (parts_of g.K.Actor.state c.try_do.new.walk) c.in_ok-moved.moved
    (read_at c.deref.ensures.value c.number.ensures.value c.in-Some.ensures.lookup.0 c.in-Some.ensures.lookup.1) (sym c.is_some.ensures ∙ c.if-is_some.false)
    (read_at {n = c.count_calls.result} {m = c.count_calls.result} c.deref-2.ensures.value refl c.in-Some-get.ensures.lookup.0 c.in-Some-get.ensures.lookup.1)
    c.count_calls.ensures (subst (λ args. Tries (event.Submit c.args.c c.in-Some-get.call.now.actor c.in-Some-get.call.now.method args)
    (parts_of g.K.Actor.state c.args.walk.now) (parts_of g.K.Actor.state c.try_do.new.walk) c.in_ok-moved.moved) c.in_ok-args.ensures c.in_ok-moved.ensures)
