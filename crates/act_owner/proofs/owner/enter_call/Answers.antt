use Rattle.std.proofs.Common.{◌∙◌}
use Rattle.act_owner.proofs.Waiting.{all_earlier, told_last}
use Rattle.act_owner.proofs.owner.enter_call.Goals as goal

pub enter_reserved-requires-clause-earlier : goal.enter_reserved-requires-clause-earlier
enter_reserved-requires-clause-earlier c = rw (c.as_slice.ensures, c.futures_of-futures.ensures) (all_earlier c.args.k c.args.args.now c.requires.earlier)

pub returns-then-is_dead : goal.returns-then-is_dead
returns-then-is_dead c =
    told_last c.args.k c.args.args.now c.args.resolver.now.calls
    c.requires.next (c.as_slice.ensures ∙ c.futures_of-futures.ensures) c.if-is_dead.true c.enter_reserved.ensures.calls c.told.ensures.calls
