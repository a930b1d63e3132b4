use Rattle.act_executor.proofs.Common.{◌≡◌, map, slice_get, sym, ap, ◌∙◌, filter_map, IfOk-weaker, actor_spec, bad_of_setup, bad_view, plan_view, IsFault}
use Rattle.act_executor.proofs.Common.{IsThreadFault, IfErr-weaker}
use Rattle.act_executor.specs.declared.run.RunFault.TheVariants as fault
use Rattle.act_executor.proofs.OpenLines.Faults.{err_only, want_of_memory, none_left, all_good, of_threads}
use Rattle.act_executor.proofs.OpenLines.Prepared.{opened_for}
use Rattle.act_executor.proofs.run.run_conducts.Goals as goal

pub returns-in_err-prepared-clause-fault : goal.returns-in_err-prepared-clause-fault
returns-in_err-prepared-clause-fault g c =
    let casts = map (actor_spec g.K.Actor.state) c.args.casts.items in let plans = map plan_view c.args.plans.items in
    err_only c.from_residual.result (λ f. f ≡ fault.NoMemory) (IsFault casts plans) c.from_residual.ensures.1 (want_of_memory casts plans)

pub returns-in_err-bad-clause-fault : goal.returns-in_err-bad-clause-fault
returns-in_err-bad-clause-fault g c =
    let casts = map (actor_spec g.K.Actor.state) c.args.casts.items in let plans = map plan_view c.args.plans.items in
    err_only c.from_residual-in_err-bad.result (λ f. f ≡ fault.NoMemory) (IsFault casts plans) c.from_residual-in_err-bad.ensures.1 (want_of_memory casts plans)

pub returns-in-Some-clause-fault : goal.returns-in-Some-clause-fault
returns-in-Some-clause-fault g c =
    let setups = c.in_ok-prepared.prepared.setups.items in
    bad_view g.K.Actor.state c.args.casts.items c.args.plans.items setups c.in_ok-prepared.ensures.setups ∙
    ap (λ l. slice_get (filter_map bad_of_setup l) 0) (sym c.as_slice.ensures.value) ∙ sym c.in_ok-bad.ensures ∙ c.in-Some.is

pub returns-in_err-opened-clause-fault : goal.returns-in_err-opened-clause-fault
returns-in_err-opened-clause-fault g c =
    let casts = map (actor_spec g.K.Actor.state) c.args.casts.items in let plans = map plan_view c.args.plans.items in
    err_only c.from_residual-in_err-opened.result (λ f. f ≡ fault.NoMemory) (IsFault casts plans) c.from_residual-in_err-opened.ensures.1
    (want_of_memory casts plans)

pub run_opened-requires-clause-fits : goal.run_opened-requires-clause-fits
run_opened-requires-clause-fits g c κs within =
    let setups = c.in_ok-prepared.prepared.setups.items in
    all_good setups (ap (λ l. slice_get (filter_map bad_of_setup l) 0) (sym c.as_slice.ensures.value) ∙ sym c.in_ok-bad.ensures ∙
    none_left c.in_ok-bad.field-0 c.in_default.not-Some)

pub run_opened-requires-clause-opening : goal.run_opened-requires-clause-opening
run_opened-requires-clause-opening g c κs within = opened_for c.as_slice-2.ensures.value c.as_slice-3.ensures.value c.in_ok-opened.ensures

pub returns : goal.returns
returns g c =
    let casts = map (actor_spec g.K.Actor.state) c.args.casts.items in let plans = map plan_view c.args.plans.items in
    let prepared = c.in_ok-prepared.ensures in let setups = c.in_ok-prepared.prepared.setups.items in
    let none = ap (λ l. slice_get (filter_map bad_of_setup l) 0) (sym c.as_slice.ensures.value) ∙ sym c.in_ok-bad.ensures ∙
    none_left c.in_ok-bad.field-0 c.in_default.not-Some in
    let good = bad_view g.K.Actor.state c.args.casts.items c.args.plans.items setups prepared.setups ∙ none in
    record {
      ran = IfOk-weaker c.run_opened.result _ _ (λ _ has. record {
        prepared = c.in_ok-prepared.prepared;
        is = record {
          rising = prepared.casts;
          setups_are = prepared.setups;
          matched = prepared.matched;
          limits = prepared.limits;
          numbers = prepared.numbers;
          fits = all_good setups none;
          good = good;
        };
        run = has;
      }) c.run_opened.ensures.joined;
      fault = IfErr-weaker c.run_opened.result IsThreadFault (IsFault casts plans) (λ f is. of_threads casts plans f good is) c.run_opened.ensures.fault;
    }
