use Rattle.act_console.proofs.Common.{◌≡◌, ◌≤◌, ◌++◌, drop, length, flat_map, space, settled_text}
use Rattle.act_console.proofs.report.put_args.Given as goal

-- the arguments from this one on are put
abbrev pub invariant-loop-left : goal.invariant-loop-left
invariant-loop-left l =
    (l.left ≤ length l.args)
    × (l.line ≡ flat_map (λ arg. space ++ settled_text arg) (drop l.left l.args) ++ l.fn.line)

abbrev pub decreases-loop-left : goal.decreases-loop-left
decreases-loop-left l = l.left
