use Rattle.act_executor.proofs.Common.{◌≡◌, map, sym, subst, actor_spec, code_of, does_code, plan_view, IsFault}
use Rattle.act_executor.proofs.OpenLines.Faults.{err_only}
use Rattle.act_executor.proofs.EndsOfRuns.Joining.{is_joined_by, is_played_by, is_played_of_steps}
use Rattle.act_executor.proofs.keeping.run_callers_keeping.Goals as goal

pub returns-in_err-ran-clause-fault : goal.returns-in_err-ran-clause-fault
returns-in_err-ran-clause-fault g c =
    let casts = map (actor_spec g.K.Actor.state) c.args.casts.items in let plans = map plan_view c.args.plans.items in
    err_only c.from_residual.result (λ f. f ≡ c.in_err-ran.field-0.0) (IsFault casts plans) c.from_residual.ensures.1
    (λ f is. subst (IsFault casts plans) (sym is) c.in_err-ran.ensures.fault)

pub returns-clause-joined : goal.returns-clause-joined
returns-clause-joined g c =
    let codes = c.args.codes.items in
    is_joined_by g.K.Actor.state (λ caller. does_code g.C.Code.tells (code_of caller codes)) c.args.casts.items c.args.plans.items c.in_ok-ran.ran.0
    c.requires.fit c.in_ok-ran.ensures.ran g.C.Code.tells codes c.requires.codes (λ _ plan steps before later so. so)

pub returns-clause-played : goal.returns-clause-played
returns-clause-played g c =
    let codes = c.args.codes.items in
    is_played_of_steps g.K.Actor.state (λ caller. does_code g.C.Code.tells (code_of caller codes)) c.args.casts.items c.args.plans.items c.in_ok-ran.ran.0
    c.requires.fit c.in_ok-ran.ensures.ran g.C.Code.tells codes c.requires.codes (λ _ plan steps before later so. so)

pub returns-clause-planned : goal.returns-clause-planned
returns-clause-planned g c =
    let codes = c.args.codes.items in
    is_played_by g.K.Actor.state (λ caller. does_code g.C.Code.tells (code_of caller codes)) c.args.casts.items c.args.plans.items c.in_ok-ran.ran.0
    c.requires.fit c.in_ok-ran.ensures.ran g.C.Code.tells codes c.requires.codes (λ _ plan steps before later so. so)
