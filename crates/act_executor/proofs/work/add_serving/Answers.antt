use Rattle.act_executor.proofs.Common.{rules, [], ◌∷◌, ◌++◌, map, All, ap, sym, ◌∙◌, subst, All-push, LiveView, CanServe, serving_start}
use Rattle.act_executor.proofs.OpenLines.Endpoints.{next_pushed}
use Rattle.act_executor.proofs.work.add_serving.Goals as goal

pub returns-clause-ready : goal.returns-clause-ready
returns-clause-ready g c =
    subst (λ l. All CanServe l) (sym c.in_ok-push.ensures.items) (All-push CanServe c.args.servings.now.items _ c.requires.ready (search rules))

pub returns-clause-starts : goal.returns-clause-starts
returns-clause-starts g c =
    let state = g.K.Actor.state in
    next_pushed (serving_start state) c.args.servings.now.items _ c.in_ok-push.ensures.items
    ∙ (λ i. map (serving_start state) c.args.servings.now.items ++ record {
      id = (ap (λ (v : LiveView g.row.K.Denot). v.id) c.reserve.ensures ∙ c.in_ok-live.ensures.id) i;
      state = (ap state (ap (λ (v : LiveView g.row.K.Denot). v.state) c.reserve.ensures ∙ c.in_ok-live.ensures.kind)) i;
      passes = c.args.exec.pass;
      replies = c.as_slice-2.ensures.value i;
    } ∷ [])
