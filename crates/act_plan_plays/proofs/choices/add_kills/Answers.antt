use Rattle.act_plan_plays.proofs.Common.{◌∙◌, ap, sym, Vec, Choice, Take}
use Rattle.act_plan_plays.proofs.Gathered.{made_more, made_same, made_whole, front_push, front_same}
use Rattle.act_plan_plays.proofs.choices.add_kills.Goals as goal
use Rattle.act_plan_plays.proofs.choices.add_kills.Goals.{then-is_live+in_ok-push, else-is_live}

pub loop-a-preserved : goal.loop-a-preserved
loop-a-preserved g c = elim c.if-is_live.branch [
  | then-is_live+in_ok-push w ↦
      let pushed = ap (λ (v : Vec Choice). v.items) w.choices-is ∙ w.in_ok-push.ensures.items in
      record {
        front = front_push c.args.choices.now.items c.loop-a.choices.items (Take c.a-item.result) pushed c.loop-a.invariant.front;
        kills = made_more c.args.asked.now c.loop-a.choices.items c.loop-a-test.true c.a-item.is pushed c.loop-a.invariant.kills;
      }
  | else-is_live w ↦
      let same = ap (λ (v : Vec Choice). v.items) w.choices-is in
      record {
        front = front_same c.args.choices.now.items same c.loop-a.invariant.front;
        kills = made_same c.args.asked.now c.loop-a-test.true c.a-item.is same (sym c.is_live.ensures ∙ w.if-is_live.false) c.loop-a.invariant.kills;
      }
]

pub returns-clause-kills : goal.returns-clause-kills
returns-clause-kills g c = made_whole c.args.asked.now c.loop-a.choices.items c.loop-a-test.false c.loop-a.invariant.kills
