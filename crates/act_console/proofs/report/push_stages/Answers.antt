use Rattle.act_console.proofs.Common.{◌≡◌, ◌+◌, ◌++◌, List, string_bytes, option_map, ap, sym, ◌∙◌, append-nil, refl, space, actor_text, RunItem, line}
use Rattle.act_console.proofs.Common.{numbered_lines, item_line, world_view, stage_view, standing_text, stage_lines}
use Rattle.act_console.proofs.Joined.{two_parts}
use Rattle.act_console.proofs.Shown.{next_lines, no_stage, one_stage}
use Rattle.act_console.proofs.report.push_stages.Goals as goal
use Rattle.act_console.proofs.report.push_stages.Goals.{in-Some+in_ok-push_actor+in_ok-push_items, in_default}

pub loop-before-preserved : goal.loop-before-preserved
loop-before-preserved g c =
    let state = g.K.Actor.state in let world = world_view state c.args.world.now in let before = c.loop-before.before in let a = c.unwrap-actor.result in
    let front = string_bytes c.args.text.now in let old = string_bytes c.loop-before.text in
    let number : a ≡ before + 1 = rw c.unwrap-actor.ensures at c.new.ensures.value in
    elim c.match-stage.branch [
      | in-Some+in_ok-push_actor+in_ok-push_items w ↦
          let seen = stage_view state w.in-Some.stage in let head = line (actor_text a ++ space ++ standing_text seen) in
          let lines = λ (items : List RunItem). numbered_lines (item_line a) 0 items in
          let items = ap (λ items. head ++ lines items) w.log_of.ensures
          ∙ one_stage world seen a number (sym w.in-Some.ensures.shown) in
          rw w.text-is (next_lines (stage_lines world) before front
          (two_parts old head (lines w.log_of.result.now) _ _ _ w.in_ok-push_actor.ensures w.in_ok-push_items.ensures items) refl c.loop-before.invariant)
      | in_default w ↦
          let none = no_stage world a number (sym c.stage.ensures.shown ∙ ap (option_map (stage_view state)) w.in_default.is) in
          rw w.text-is (next_lines (stage_lines world) before front (sym (append-nil old)) (sym none) c.loop-before.invariant)
    ]
