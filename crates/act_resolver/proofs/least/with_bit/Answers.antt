use Rattle.act_resolver.proofs.Common.{w64, bit_at_set_same, bit_at_set_other, bit_at_clear_same, bit_at_clear_other}
use Rattle.act_resolver.proofs.least.with_bit.Goals as goal

pub returns-then-is_set-clause-same : goal.returns-then-is_set-clause-same
returns-then-is_set-clause-same c = rw c.if-is_set.true (bit_at_set_same w64 c.args.word c.args.bit c.requires)

pub returns-then-is_set-clause-others : goal.returns-then-is_set-clause-others
returns-then-is_set-clause-others c i within other = bit_at_set_other w64 c.args.word c.args.bit c.requires i other

pub returns-else-is_set-clause-same : goal.returns-else-is_set-clause-same
returns-else-is_set-clause-same c = rw c.if-is_set.false (bit_at_clear_same w64 c.args.word c.args.bit c.requires)

pub returns-else-is_set-clause-others : goal.returns-else-is_set-clause-others
returns-else-is_set-clause-others c i within other = bit_at_clear_other w64 c.args.word c.args.bit c.requires i within other
