use Rattle.act_drive.proofs.Common.{◌≡◌, ◌++◌, ◌∷◌, [], append_assoc, ap, sym, ◌∙◌, into_iter_items}
use Rattle.act_drive.proofs.Drivers.{stays_trans}
use Rattle.act_drive.proofs.PlanSteps.{not_bad, follows_waits}
use Rattle.act_drive.proofs.driver.Driver.steps.Goals as goal

pub loop-step-preserved : goal.loop-step-preserved
loop-step-preserved g c =
    let before = c.loop-step.invariant.follows in let rest = into_iter_items c.next.new.self in let step = c.in-Some.step in
    let all : before.0 ++ step ∷ rest ≡ c.args.plan.items = ap (λ l. before.0 ++ l) (sym c.in-Some.ensures.steps.0) ∙ before.1 in
    record {
      calling = c.in_ok-turn_after.ensures.only_waits.calling;
      stay = stays_trans (stays_trans c.loop-step.invariant.stay c.in_ok-step.ensures.stays) c.in_ok-turn_after.ensures.only_waits.waits.stay;
      follows = (
        before.0 ++ step ∷ [],
        append_assoc before.0 (step ∷ []) rest ∙ all,
        λ actors fits start. follows_waits c.in_ok-turn_after.ensures.only_waits.waits
            (c.in_ok-step.ensures.follows actors before.0 (not_bad actors before.0 step rest all fits) (before.2 actors fits start)),
        λ start is. c.in_ok-turn_after.ensures.only_waits.traced start (before.0 ++ step ∷ []) (c.in_ok-step.ensures.traced start before.0 (before.3 start is)),
      );
    }

pub returns-in_err-step-clause-calling : goal.returns-in_err-step-clause-calling
returns-in_err-step-clause-calling g c = c.in_err-step.ensures.calling

pub returns-in_err-step-clause-stays : goal.returns-in_err-step-clause-stays
returns-in_err-step-clause-stays g c = stays_trans c.loop-step.invariant.stay c.in_err-step.ensures.stays

pub returns-in_err-turn_after-clause-calling : goal.returns-in_err-turn_after-clause-calling
returns-in_err-turn_after-clause-calling g c = c.in_err-turn_after.ensures.only_waits.calling

pub returns-in_err-turn_after-clause-stays : goal.returns-in_err-turn_after-clause-stays
returns-in_err-turn_after-clause-stays g c =
    stays_trans (stays_trans c.loop-step.invariant.stay c.in_ok-step.ensures.stays) c.in_err-turn_after.ensures.only_waits.waits.stay

pub returns-clause-calling : goal.returns-clause-calling
returns-clause-calling g c = c.loop-step.invariant.calling

pub returns-clause-stays : goal.returns-clause-stays
returns-clause-stays g c = c.loop-step.invariant.stay
