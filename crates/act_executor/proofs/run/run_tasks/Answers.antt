use Rattle.act_executor.proofs.Common.{param_send, arg_send, ◌≡◌, sym, subst, Each, IsServedBy, IsDrivenTo, IsThreadFault, fault_of}
use denote.Exit as exit
use Rattle.act_executor.proofs.Crossing.{driving_sent, driven_sent, pair_sent}
use Rattle.act_executor.proofs.OpenLines.Faults.{err_only, refused}
use Rattle.act_executor.proofs.OpenLines.Tasks.{each_first}
use Rattle.act_executor.proofs.run.run_tasks.Goals as goal

pub run_both-requires-send-C : goal.run_both-requires-send-C
run_both-requires-send-C g c κs within = param_send _ _ (arg_send _ exit.no _ (driving_sent _ _ _ c.type_bounds.send-D c.type_bounds.send-N))

pub run_both-requires-send-C-Output : goal.run_both-requires-send-C-Output
run_both-requires-send-C-Output g c κs within = param_send _ _ (arg_send _ exit.no _ (pair_sent _ _ _ driven_sent c.type_bounds.send-N))

pub returns-clause-actors : goal.returns-clause-actors
returns-clause-actors g c = subst (λ l. Each (IsServedBy g.K.Actor.state) c.args.servings.items l) (sym c.in_ok-actors.ensures.firsts)
    (each_first (IsServedBy g.K.Actor.state) c.args.servings.items c.in_ok-served.served.items c.in_ok-served.ensures.first)

pub returns-clause-callers : goal.returns-clause-callers
returns-clause-callers g c = subst (λ l. Each (IsDrivenTo g.D.Conduct.does) c.args.drivings.items l) (sym c.in_ok-callers.ensures.firsts)
    (each_first (IsDrivenTo g.D.Conduct.does) c.args.drivings.items c.in_ok-served.driven.items c.in_ok-served.ensures.second)

pub returns-in_err-served-clause-fault : goal.returns-in_err-served-clause-fault
returns-in_err-served-clause-fault g c =
    err_only c.from_residual.result (λ f. f ≡ fault_of c.in_err-served.field-0.0) IsThreadFault c.from_residual.ensures.1
    (λ f is. subst IsThreadFault (sym is) (refused c.in_err-served.field-0.0))
