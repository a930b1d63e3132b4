use Rattle.act_explore.proofs.Common.{◌≡◌, string_bytes, flat_map, one_to, part_of}
use Rattle.act_explore.proofs.key.key_of.Given as goal

-- the parts of the actors so far
abbrev pub invariant-loop-before : goal.invariant-loop-before
invariant-loop-before l = string_bytes l.key ≡ flat_map (part_of l.path) (one_to l.before)
