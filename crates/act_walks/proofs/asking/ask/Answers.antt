use Rattle.act_walks.proofs.Common.{◌≡◌, false, [], Some, None, ap, sym, ◌∙◌, find, is_none, option_map_or, ToldActor, bound_of, actor_in, callers_of, parts_of}
use Rattle.act_walks.proofs.Asks.{asks_one, not_told, all_bound}
use Rattle.act_walks.proofs.Shown.{read_at, read_none}
use Rattle.act_walks.proofs.asking.ask.Goals as goal

pub returns-in_default : goal.returns-in_default
returns-in_default g c =
    let none : actor_in c.args.end.now c.args.a ≡ None =
    read_none c.number.result c.args.a
    c.deref.ensures.value c.number.ensures.value c.in_default.ensures.lookup.0 in
    not_told c.args.end.now c.args.a (parts_of g.K.Actor.state c.args.walk.now)
    (ap (λ o. option_map_or (λ (actor : ToldActor). actor.is_dead) o false) none)

pub returns-then-not-actor : goal.returns-then-not-actor
returns-then-not-actor g c =
    let at : actor_in c.args.end.now c.args.a ≡ Some c.in-Some.actor.now =
    read_at
    c.deref.ensures.value c.number.ensures.value c.in-Some.ensures.lookup.0 c.in-Some.ensures.lookup.1 in
    not_told c.args.end.now c.args.a (parts_of g.K.Actor.state c.args.walk.now)
    (ap (λ o. option_map_or (λ (actor : ToldActor). actor.is_dead) o false) at ∙ c.if-not-actor.true)

pub returns-in_default-first_free : goal.returns-in_default-first_free
returns-in_default-first_free g c =
    let at : actor_in c.args.end.now c.args.a ≡ Some c.in-Some.actor.now =
    read_at
    c.deref.ensures.value c.number.ensures.value c.in-Some.ensures.lookup.0 c.in-Some.ensures.lookup.1 in
    let callers : callers_of c.args.end.now c.args.a ≡ c.as_slice.result.now =
    ap (λ o. option_map_or (λ (actor : ToldActor). actor.callers.items) o []) at ∙ sym c.as_slice.ensures.value in
    all_bound c.args.end.now c.args.a (parts_of g.K.Actor.state c.args.walk.now)
    (ap (λ l. find (λ d. is_none (bound_of c.args.end.now d)) l) callers ∙ sym c.in_default-first_free.ensures)

pub returns : goal.returns
returns g c =
    let at : actor_in c.args.end.now c.args.a ≡ Some c.in-Some.actor.now =
    read_at
    c.deref.ensures.value c.number.ensures.value c.in-Some.ensures.lookup.0 c.in-Some.ensures.lookup.1 in
    asks_one c.args.end.now c.args.a at c.if-not-actor.false
    (ap (λ l. find (λ d. is_none (bound_of c.args.end.now d)) l) (sym c.as_slice.ensures.value) ∙ sym c.in-Some-first_free.ensures)
    c.in_ok-_asked.ensures.does
