use Rattle.act_walks.proofs.Common.{◌≡◌, Some, length, arith, sym, ap, ◌∙◌, parts_of, length-map, actor_in, call_of_run}
use Rattle.act_walks.proofs.Shown.{read_at}
use Rattle.act_walks.proofs.Runs.{kill_moves, actor_dead, actor_runs, runs_yet}
use Rattle.act_walks.proofs.serving.take_kill.Goals as goal

pub returns : goal.returns
returns g c =
    let there : actor_in c.args.end.now c.args.a ≡ Some c.in-Some.actor.now =
    read_at c.deref.ensures.value c.number.ensures.value
    c.in-Some.ensures.lookup.0 c.in-Some.ensures.lookup.1 in
    let long : c.len.result ≡ length c.in-Some.actor.now.runs.items = omega (arith, c.len.ensures) in
    kill_moves c.args.end.now c.args.a (parts_of g.K.Actor.state c.args.walk.now)
    (parts_of g.K.Actor.state c.try_do.new.walk) c.in_ok-moved.moved
    (actor_dead c.args.end.now c.args.a there ∙ c.if-not-actor.false) c.count_runs.ensures
    (c.if-count_runs-len.false ∙ long ∙ sym (length-map c.in-Some.actor.now.runs.items call_of_run)
    ∙ ap (λ l. length l) (sym (actor_runs c.args.end.now c.args.a there))) c.in_ok-moved.ensures

pub returns-then-count_runs-len : goal.returns-then-count_runs-len
returns-then-count_runs-len g c =
    let actor = c.in-Some.actor.now in
    let there : actor_in c.args.end.now c.args.a ≡ Some actor =
    read_at c.deref.ensures.value c.number.ensures.value
    c.in-Some.ensures.lookup.0 c.in-Some.ensures.lookup.1 in
    let long : c.len.result ≡ length actor.runs.items = omega (arith, c.len.ensures) in
    runs_yet c.args.end.now c.args.a c.count_runs.result (parts_of g.K.Actor.state c.args.walk.now) c.count_runs.ensures
    (λ same. c.if-count_runs-len.true (same ∙ ap (λ l. length l) (actor_runs c.args.end.now c.args.a there)
    ∙ length-map actor.runs.items call_of_run ∙ sym long))
