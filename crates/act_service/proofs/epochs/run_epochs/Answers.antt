use Rattle.act_service.proofs.Common.{◌≡◌, Some, map, sym, subst, actor_spec, CarriesOver, IsEpochFault, IsFaultAt, IsFaultOfCodes, IsUnderWay}
use Rattle.act_service.proofs.Faults.{of_codes, of_epoch}
use Rattle.act_service.proofs.Leading.{carried}
use Rattle.act_service.proofs.epochs.run_epochs.Goals as goal
use Rattle.act_executor.proofs.OpenLines.Faults.{err_only}

pub returns-in_err-next_codes-clause-fault : goal.returns-in_err-next_codes-clause-fault
returns-in_err-next_codes-clause-fault g c =
    let state = g.K.Actor.state in let tells = g.S.One.Code.tells in let before = g.S.Service.knows c.loop.service in
    let knows = g.S.Service.knows c.next_codes.new.service in let gave = g.S.Service.gave c.next_codes.new.service in
    let casts = map (actor_spec state) c.args.casts.items in let here = c.loop.casts.items in let e = c.in_err-next_codes.field-0.0 in
    let fault = subst (λ l. IsFaultOfCodes state before gave l e) c.deref.ensures.value c.in_err-next_codes.ensures.fault in
    err_only c.from_residual.result (λ f. f ≡ e) (IsEpochFault state tells gave knows casts) c.from_residual.ensures.1
    (λ f is. of_codes state tells gave knows casts here c.loop.invariant.led f (subst (λ h. IsFaultOfCodes state before gave here h) (sym is) fault))

pub returns-in_err-casts-in-Some-2-clause-fault : goal.returns-in_err-casts-in-Some-2-clause-fault
returns-in_err-casts-in-Some-2-clause-fault g c =
    let state = g.K.Actor.state in let tells = g.S.One.Code.tells in let known = g.S.Service.knows c.loop.service in
    let given = g.S.Service.gave c.next_codes.new.service (Some c.in-Some-2.codes.items) in
    let knows = g.S.Service.knows c.run_epoch.new.service in let gave = g.S.Service.gave c.run_epoch.new.service in
    let casts = map (actor_spec state) c.args.casts.items in let here = map (actor_spec state) c.loop.casts.items in
    let e = c.in_err-casts-in-Some-2.field-0.0 in
    let carries : CarriesOver known given (map (actor_spec state) c.deref.result.now) = rw c.in-Some-2.is at c.in_ok-next_codes.ensures.gave in
    let on : CarriesOver known given here = subst (λ l. CarriesOver known given (map (actor_spec state) l)) c.deref.ensures.value carries in
    err_only c.from_residual-in_err-casts-in-Some-2.result (λ f. f ≡ e)
    (IsEpochFault state tells gave knows casts) c.from_residual-in_err-casts-in-Some-2.ensures.1
    (λ f is. of_epoch state tells gave knows casts (carried tells known given here on casts c.loop.invariant.led) f
    (subst (λ h. IsFaultAt tells given (IsUnderWay knows gave) here h) (sym is) c.in_err-casts-in-Some-2.ensures.fault))
