use Rattle.act_plan_plays.proofs.Common.{◌∙◌, ap, sym, subst, Vec, world_view, shows_next, Choice, Run}
use Rattle.act_plan_plays.proofs.Gathered.{HasMade, made_more, made_same, made_whole, front_push, front_same}
use Rattle.act_plan_plays.proofs.choices.add_runs.Goals as goal
use Rattle.act_plan_plays.proofs.choices.add_runs.Goals.{then-may_run+in_ok-push, else-may_run}

pub loop-a-preserved : goal.loop-a-preserved
loop-a-preserved g c = elim c.if-may_run.branch [
  | then-may_run+in_ok-push w ↦
      let pushed = ap (λ (v : Vec Choice). v.items) w.choices-is ∙ w.in_ok-push.ensures.items in
      record {
        front = front_push c.args.choices.now.items c.loop-a.choices.items (Run c.a-item.result c.args.setup.now.caller) pushed c.loop-a.invariant.front;
        runs = made_more c.as_slice-a-items.result.now c.loop-a.choices.items c.loop-a-test.true c.a-item.is pushed c.loop-a.invariant.runs;
      }
  | else-may_run w ↦
      let same = ap (λ (v : Vec Choice). v.items) w.choices-is in
      record {
        front = front_same c.args.choices.now.items same c.loop-a.invariant.front;
        runs = made_same c.as_slice-a-items.result.now c.loop-a-test.true c.a-item.is same (sym c.may_run.ensures ∙ w.if-may_run.false) c.loop-a.invariant.runs;
      }
]

pub returns-clause-runs : goal.returns-clause-runs
returns-clause-runs g c =
    subst (λ l. HasMade (λ a. shows_next (world_view g.K.Actor.state c.args.world.now) a c.args.setup.now.caller)
    (λ a. Run a c.args.setup.now.caller) l c.loop-a.choices.items)
    c.as_slice-a-items.ensures.value
    (made_whole c.as_slice-a-items.result.now c.loop-a.choices.items c.loop-a-test.false c.loop-a.invariant.runs)
