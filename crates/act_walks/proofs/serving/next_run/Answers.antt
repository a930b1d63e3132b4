use Rattle.act_walks.proofs.Common.{◌≡◌, Some, sym, ◌∙◌, ap, refl, slice_get, length, runs_of, map, option_map, slice_get-map, actor_in, call_of_run}
use Rattle.act_walks.proofs.Shown.{read_at}
use Rattle.act_walks.proofs.Runs.{actor_runs}
use Rattle.act_walks.proofs.serving.next_run.Goals as goal

pub returns : goal.returns
returns g c = λ casts h before behind.
    let there : actor_in c.args.end.now c.args.a ≡ Some c.in_ok-actor.actor.now =
    read_at c.deref.ensures.value c.number.ensures.value
    c.in_ok-actor.ensures.lookup.0 c.in_ok-actor.ensures.lookup.1 in
    let at : slice_get c.in_ok-actor.actor.now.runs.items c.count_runs.result ≡ Some c.in_ok-next.next.now =
    read_at {n = c.count_runs.result} {m = c.count_runs.result} c.deref-2.ensures.value refl
    c.in_ok-next.ensures.lookup.0 c.in_ok-next.ensures.lookup.1 in
    sym (slice_get-map call_of_run c.in_ok-actor.actor.now.runs.items c.count_runs.result ∙ ap (option_map call_of_run) at)
    ∙ ap (slice_get (map call_of_run c.in_ok-actor.actor.now.runs.items)) (c.count_runs.ensures casts h before behind)
    ∙ ap (λ l. slice_get l (length (runs_of c.args.a h))) (sym (actor_runs c.args.end.now c.args.a there))
