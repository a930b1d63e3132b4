use Rattle.act_plans.proofs.Common.{sym, ◌∙◌, ap, option_map, bad_of_setup}
use Rattle.act_plans.proofs.Finding.{first_found, none_more}
use Rattle.act_plans.proofs.plan_checker.first_bad_setup.Goals as goal

pub returns-in-Some : goal.returns-in-Some
returns-in-Some c =
    let bad = rw (c.as_slice.ensures.value, c.as_slice-in-loop-setup.ensures.value) at c.in_ok-bad.ensures in
    let found = ap (option_map (λ place. (c.setup-item.result.caller, place))) (sym bad ∙ c.in-Some.is) in
    sym (first_found bad_of_setup c.args.setups.now {y = (c.setup-item.result.caller, c.in-Some.place)} c.loop-setup-test.true c.setup-item.is
    c.loop-setup.invariant found)

pub loop-setup-preserved : goal.loop-setup-preserved
loop-setup-preserved c =
    let bad = rw (c.as_slice.ensures.value, c.as_slice-in-loop-setup.ensures.value) at c.in_ok-bad.ensures in
    let none = ap (option_map (λ place. (c.setup-item.result.caller, place))) (sym bad ∙ c.in_default.is) in
    none_more bad_of_setup c.args.setups.now c.loop-setup-test.true c.setup-item.is c.loop-setup.invariant none
