use Rattle.act_console.proofs.Common.{◌≡◌, ◌+◌, string_bytes, option_copied, ap, sym, ◌∙◌, append-nil, world_view, caller_lines}
use Rattle.act_console.proofs.Shown.{next_lines, no_owner, one_owner}
use Rattle.act_console.proofs.report.push_callers.Goals as goal
use Rattle.act_console.proofs.report.push_callers.Goals.{in-Some+in_ok-push_futures, in_default}

pub loop-before-preserved : goal.loop-before-preserved
loop-before-preserved g c =
    let world = world_view g.K.Actor.state c.args.world.now in let before = c.loop-before.before in let caller = c.unwrap-caller.result in
    let front = string_bytes c.args.text.now in let old = string_bytes c.loop-before.text in
    let number : caller ≡ before + 1 = rw c.unwrap-caller.ensures at c.new.ensures.value in
    elim c.match-owner.branch [
      | in-Some+in_ok-push_futures w ↦
          let one = one_owner world caller number (sym w.in-Some.ensures.shown) in
          rw w.text-is (next_lines (caller_lines world) before front w.in_ok-push_futures.ensures one c.loop-before.invariant)
      | in_default w ↦
          let none = no_owner world caller number (sym c.owner.ensures.shown ∙ ap option_copied w.in_default.is) in
          rw w.text-is (next_lines (caller_lines world) before front (sym (append-nil old)) (sym none) c.loop-before.invariant)
    ]
