use Rattle.act_walks.proofs.Common.{ap, Vec, Event, world_view}
use Rattle.act_walks.proofs.Rested.{rests_trans, told_false, hold_same}
use Rattle.act_walks.proofs.resting.retire.Goals as goal

pub returns-then-let_go-clause-rests : goal.returns-then-let_go-clause-rests
returns-then-let_go-clause-rests g c = rests_trans c.in_ok-let_go.ensures.rests c.in_ok-retired.ensures.rests

pub returns-else-let_go-clause-rests : goal.returns-else-let_go-clause-rests
returns-else-let_go-clause-rests g c = rests_trans c.in_ok-let_go.ensures.rests c.in_ok-retired.ensures.rests

pub returns-else-let_go-clause-settled : goal.returns-else-let_go-clause-settled
returns-else-let_go-clause-settled g c = λ none.
    let still = c.in_ok-retired.ensures.still none in
    record {
      hold = hold_same c.args.callers.now c.args.a (ap (world_view g.K.Actor.state) still.0) (ap (λ (v : Vec Event). v.items) still.1)
          (c.in_ok-let_go.ensures.none (told_false c.if-let_go.false));
      stays = c.in_ok-retired.ensures.none none;
    }
