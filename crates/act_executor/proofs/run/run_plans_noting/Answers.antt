use Rattle.act_executor.proofs.Common.{IfOk-weaker, does_plan}
use Rattle.act_executor.proofs.EndsOfRuns.Joining.{is_joined, is_played, is_played_as_planned}
use Rattle.act_executor.proofs.run.run_plans_noting.Goals as goal

pub returns-clause-joined : goal.returns-clause-joined
returns-clause-joined g c = IfOk-weaker c.run_conducts.result _ _ (λ r ran. is_joined g.K.Actor.state
    (λ _. does_plan) c.args.casts.items c.args.plans.items r.0 c.requires.fit ran (λ _ plan steps before later so. so)) c.run_conducts.ensures.ran

pub returns-clause-played : goal.returns-clause-played
returns-clause-played g c = IfOk-weaker c.run_conducts.result _ _ (λ r ran. is_played g.K.Actor.state
    (λ _. does_plan) c.args.casts.items c.args.plans.items r.0 c.requires.fit ran (λ _ plan steps before later so. so)) c.run_conducts.ensures.ran

pub returns-clause-planned : goal.returns-clause-planned
returns-clause-planned g c = IfOk-weaker c.run_conducts.result _ _ (λ r ran. is_played_as_planned g.K.Actor.state
    (λ _. does_plan) c.args.casts.items c.args.plans.items r.0 c.requires.fit ran (λ _ plan steps before later so. so)) c.run_conducts.ensures.ran

pub returns-clause-good : goal.returns-clause-good
returns-clause-good g c = IfOk-weaker c.run_conducts.result _ _ (λ _ ran. ran.is.good) c.run_conducts.ensures.ran
