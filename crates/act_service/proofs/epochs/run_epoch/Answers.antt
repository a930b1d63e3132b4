use Rattle.act_service.proofs.Common.{◌≡◌, map, Some, inl, inr, ap, sym, ◌∙◌, subst, actor_spec, plan_view, casts_left, shape_of, LeadsOn, IsUnderWay}
use Rattle.act_service.proofs.Common.{IsFaultAt, IsOfService}
use Rattle.act_service.specs.declared.epochs.EpochFault.TheVariants as fault
use Rattle.act_executor.specs.declared.run.RunFault.TheVariants as run
use Rattle.act_executor.proofs.OpenLines.Faults.{err_only}
use Rattle.act_service.proofs.Leading.{carried, epoch, is_epoch, leads, left_is}
use Rattle.act_service.proofs.Fits.{left_fits}
use Rattle.act_service.proofs.Faults.{without_plans, want_of_memory, of_run, of_service}
use Rattle.act_service.proofs.epochs.run_epoch.Goals as goal

-- the codes are given, and not run
pub returns-in_err-shapes-clause-fault : goal.returns-in_err-shapes-clause-fault
returns-in_err-shapes-clause-fault g c =
    let tells = g.S.One.Code.tells in let codes = c.args.codes.items in let gave = g.S.Service.gave c.args.service.now in
    let later = IsUnderWay (g.S.Service.knows c.args.service.now) gave in let here = map (actor_spec g.K.Actor.state) c.args.casts.items in
    err_only c.from_residual.result (λ f. f ≡ fault.Run run.NoMemory)
    (IsFaultAt tells (gave (Some codes)) later here) c.from_residual.ensures.1
    (want_of_memory tells (gave (Some codes)) later here here (carried tells (gave (Some codes)) later here (λ casts epochs is known. inr (codes, known))))

pub returns-in_err-joined-clause-fault : goal.returns-in_err-joined-clause-fault
returns-in_err-joined-clause-fault g c =
    let tells = g.S.One.Code.tells in let codes = c.args.codes.items in let gave = g.S.Service.gave c.args.service.now in
    let later = IsUnderWay (g.S.Service.knows c.args.service.now) gave in let here = map (actor_spec g.K.Actor.state) c.args.casts.items in
    let e = c.in_err-joined.field-0.0 in
    let thread = without_plans here e (ap (map plan_view) c.new-plans.ensures.items) c.in_err-joined.ensures.fault in
    err_only c.from_residual-in_err-joined.result (λ f. f ≡ fault.Run e)
    (IsFaultAt tells (gave (Some codes)) later here) c.from_residual-in_err-joined.ensures.1
    (of_run tells (gave (Some codes)) later here here (carried tells (gave (Some codes)) later here (λ casts epochs is known. inr (codes, known))) e thread)

pub returns-in_err-look-clause-fault : goal.returns-in_err-look-clause-fault
returns-in_err-look-clause-fault g c =
    let tells = g.S.One.Code.tells in
    let before = g.S.Service.gave c.args.service.now (Some c.args.codes.items) in
    let later = IsUnderWay (g.S.Service.knows c.look.new.service) (g.S.Service.gave c.look.new.service) in
    let here = map (actor_spec g.K.Actor.state) c.args.casts.items in let e = c.in_err-look.field-0.0 in
    err_only c.from_residual-in_err-look.result (λ f. f ≡ e) (IsFaultAt tells before later here) c.from_residual-in_err-look.ensures.1
    (λ f is. of_service tells before later here f (subst IsOfService (sym is) c.in_err-look.ensures.fault))

-- the epoch is known, and its casts are lost
pub returns-in_err-left-clause-fault : goal.returns-in_err-left-clause-fault
returns-in_err-left-clause-fault g c =
    let tells = g.S.One.Code.tells in let state = g.K.Actor.state in let casts = c.args.casts.items in let codes = c.args.codes.items in
    let joined = c.in_ok-joined.joined in let here = map (actor_spec state) casts in let gave = g.S.Service.gave c.args.service.now in
    let knows = g.S.Service.knows c.look.new.service in let later = IsUnderWay knows (g.S.Service.gave c.look.new.service) in
    let left = casts_left (epoch tells state casts codes joined) in
    let is = is_epoch tells state casts codes joined
    (ap (map plan_view) c.new-plans.ensures.items) c.in_ok-joined.ensures.joined c.in_ok-joined.ensures.played c.in_ok-joined.ensures.planned in
    let on = leads tells state casts codes joined gave knows is c.in_ok-look.ensures.known in
    err_only c.from_residual-in_err-left.result (λ f. f ≡ fault.Run run.NoMemory)
    (IsFaultAt tells (gave (Some codes)) later here) c.from_residual-in_err-left.ensures.1
    (want_of_memory tells (gave (Some codes)) later here left (λ first led. carried tells knows later left (λ casts epochs after known. inl known) first
    (on first led)))

pub returns-clause-led : goal.returns-clause-led
returns-clause-led g c =
    let tells = g.S.One.Code.tells in let state = g.K.Actor.state in let casts = c.args.casts.items in let codes = c.args.codes.items in
    let joined = c.in_ok-joined.joined in let here = map (actor_spec state) casts in let gave = g.S.Service.gave c.args.service.now in
    let knows = g.S.Service.knows c.look.new.service in
    let is = is_epoch tells state casts codes joined
    (ap (map plan_view) c.new-plans.ensures.items) c.in_ok-joined.ensures.joined c.in_ok-joined.ensures.played c.in_ok-joined.ensures.planned in
    let on = leads tells state casts codes joined gave knows is c.in_ok-look.ensures.known in
    let same = left_is tells state casts codes joined c.in_ok-left.left.items (c.deref-2.ensures.value ∙ c.in_ok-shapes.ensures
    ∙ ap (map shape_of) c.deref.ensures.value) c.in_ok-left.ensures in
    subst (λ l. LeadsOn tells (gave (Some codes)) knows here l) (sym same) on

pub returns-clause-fit : goal.returns-clause-fit
returns-clause-fit g c =
    let tells = g.S.One.Code.tells in let state = g.K.Actor.state in let casts = c.args.casts.items in let codes = c.args.codes.items in
    let joined = c.in_ok-joined.joined in
    let same = left_is tells state casts codes joined c.in_ok-left.left.items (c.deref-2.ensures.value ∙ c.in_ok-shapes.ensures
    ∙ ap (map shape_of) c.deref.ensures.value) c.in_ok-left.ensures in
    left_fits state casts c.in_ok-left.left.items (epoch tells state casts codes joined).ends c.requires.fit c.in_ok-joined.ensures.joined.joined.actors same
