use Rattle.act_decisions.proofs.Common.{◌≡◌, ◌++◌, take, string_bytes, flat_map, space, settled_text}
use Rattle.act_decisions.proofs.agreed.push_args.Given as goal

-- the arguments so far are written
abbrev pub invariant-loop-arg : goal.invariant-loop-arg
invariant-loop-arg l = string_bytes l.text ≡ string_bytes l.fn.text ++ flat_map (λ arg. space ++ settled_text arg) (take l.arg-index l.args)
