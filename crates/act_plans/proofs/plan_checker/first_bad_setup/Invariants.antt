use Rattle.act_plans.proofs.Common.{◌≡◌, [], take, filter_map, bad_of_setup}
use Rattle.act_plans.proofs.plan_checker.first_bad_setup.Given as goal

-- no part so far has such a step
abbrev pub invariant-loop-setup : goal.invariant-loop-setup
invariant-loop-setup l = filter_map bad_of_setup (take l.setup-index l.setups) ≡ []
