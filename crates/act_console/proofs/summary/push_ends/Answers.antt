use Rattle.act_console.proofs.Common.{◌≡◌, ◌+◌, ◌++◌, List, map, string_bytes, option_copied, option_map, ap, sym, ◌∙◌, append-nil, refl, space, actor_text}
use Rattle.act_console.proofs.Common.{RunItem, line, numbered_lines, item_line, end_view, Finished, end_text, end_lines_in}
use Rattle.act_console.proofs.Joined.{no_end, one_end, two_parts}
use Rattle.act_console.proofs.Shown.{next_lines}
use Rattle.act_console.proofs.summary.push_ends.Goals as goal
use Rattle.act_console.proofs.summary.push_ends.Goals.{in-Some+in_ok-push_actor+in_ok-push_items, in_default}

pub loop-before-preserved : goal.loop-before-preserved
loop-before-preserved g c =
    let state = g.K.Actor.state in
    let ends = map (λ (actor : Finished _ _). end_view state actor.ended) c.args.actors.now in
    let before = c.loop-before.before in let a = c.unwrap-actor.result in let front = string_bytes c.args.text.now in
    let old = string_bytes c.loop-before.text in
    let number : a ≡ before + 1 = rw c.unwrap-actor.ensures at c.new.ensures.value in
    elim c.match-end_of.branch [
      | in-Some+in_ok-push_actor+in_ok-push_items w ↦
          let seen = end_view state w.in-Some.ended.now in let head = line (actor_text a ++ space ++ end_text seen) in
          let lines = λ (items : List RunItem). numbered_lines (item_line a) 0 items in
          let items = ap (λ items. head ++ lines items) w.log.ensures
          ∙ one_end ends seen a number (sym w.in-Some.ensures) in
          rw w.text-is (next_lines (end_lines_in ends) before front
          (two_parts old head (lines w.log.result.now) _ _ _ w.in_ok-push_actor.ensures w.in_ok-push_items.ensures items) refl c.loop-before.invariant)
      | in_default w ↦
          let none = no_end ends a number (sym c.end_of.ensures ∙ ap (λ found. option_map (end_view state) (option_copied found)) w.in_default.is) in
          rw w.text-is (next_lines (end_lines_in ends) before front (sym (append-nil old)) (sym none) c.loop-before.invariant)
    ]
