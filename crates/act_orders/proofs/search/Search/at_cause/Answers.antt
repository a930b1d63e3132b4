use Rattle.act_orders.proofs.Common.{arith, refl, sym, ◌∙◌, Happened}
use Rattle.act_orders.proofs.search.Search.at_cause.Goals as goal

pub mark-mark-requires-clause-few : goal.mark-mark-requires-clause-few
mark-mark-requires-clause-few c = let few = c.requires.whole.few in let h = c.requires.within in omega arith

pub mark-mark-requires-clause-room : goal.mark-mark-requires-clause-room
mark-mark-requires-clause-room c = c.requires.standing.room c.args.cause (c.has_happened.ensures.0 c.if-not-has_happened.false)

pub returns-then-mark-eq0 : goal.returns-then-mark-eq0
returns-then-mark-eq0 c = (refl, c.has_happened.ensures.0 c.if-not-has_happened.false, sym c.mark-mark.ensures ∙ c.if-mark-eq0.true)

pub returns-then-mark-lt-DONE : goal.returns-then-mark-lt-DONE
returns-then-mark-lt-DONE c =
    let node : Happened c.args.told.now c.args.cause = c.has_happened.ensures.0 c.if-not-has_happened.false in (
      refl,
      node,
      c.requires.standing.on_path c.args.cause node
          (let h = c.if-mark-eq0.false in omega (arith, h, c.mark-mark.ensures)) (omega (arith, c.if-mark-lt-DONE.true, c.mark-mark.ensures)),
    )

pub returns : goal.returns
returns c node = c.requires.standing.finished c.args.cause node (omega (arith, c.if-mark-lt-DONE.false, c.mark-mark.ensures, c.mark-mark.type_inv))
