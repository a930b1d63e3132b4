use Rattle.act_console.proofs.Common.{◌≡◌, ◌+◌, string_bytes, option_copied, ap, sym, ◌∙◌, append-nil, owner_lines_in}
use Rattle.act_console.proofs.Joined.{no_owner, one_owner}
use Rattle.act_console.proofs.Shown.{next_lines}
use Rattle.act_console.proofs.summary.push_owners.Goals as goal
use Rattle.act_console.proofs.summary.push_owners.Goals.{in-Some+in_ok-push_futures, in_default}

pub loop-before-preserved : goal.loop-before-preserved
loop-before-preserved c =
    let owners = c.args.owners.now in let before = c.loop-before.before in let caller = c.unwrap-caller.result in let front = string_bytes c.args.text.now in
    let old = string_bytes c.loop-before.text in
    let number : caller ≡ before + 1 = rw c.unwrap-caller.ensures at c.new.ensures.value in
    elim c.match-owner_of.branch [
      | in-Some+in_ok-push_futures w ↦
          let one = one_owner owners caller number (sym w.in-Some.ensures) in
          rw w.text-is (next_lines (owner_lines_in owners) before front w.in_ok-push_futures.ensures one c.loop-before.invariant)
      | in_default w ↦
          let none = no_owner owners caller number (sym c.owner_of.ensures ∙ ap option_copied w.in_default.is) in
          rw w.text-is (next_lines (owner_lines_in owners) before front (sym (append-nil old)) (sym none) c.loop-before.invariant)
    ]
