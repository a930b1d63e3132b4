use Rattle.act_decisions.proofs.Common.{◌≡◌, ◌<◌, ℕ, length, sym, ap, ◌∙◌, arith, slice_get, IsPlacedAt, ToldRun, rans_in, IsRunIn}
use Rattle.act_lists.proofs.Lists.{item_at}
use Rattle.act_decisions.proofs.Fitting.{all_runs, below_more, runs_said}
use Rattle.act_decisions.proofs.placed.runs_are_placed.Goals as goal

pub loop-a-preserved : goal.loop-a-preserved
loop-a-preserved c =
    let end = c.args.end.now in let a = c.loop-a.a in let within : a < length end.actors.items = omega arith in
    let runs : c.deref.result.now ≡ rans_in end a =
    c.deref.ensures.value ∙ sym (runs_said end a (item_at end.actors.items a c.index.result.now within c.index.ensures)) in
    below_more (λ b. (p : ℕ) (run : ToldRun) → IsRunIn end b p run → IsPlacedAt end b p run.caller run.future) a c.loop-a.invariant
    (λ p run at. c.are_placed.ensures c.if-not-are_placed.false p run (ap (λ l. slice_get l p) runs ∙ at))

pub returns : goal.returns
returns c = λ _. all_runs c.args.end.now (λ a p (run : ToldRun). IsPlacedAt c.args.end.now a p run.caller run.future) c.loop-a.a
    (omega arith) c.loop-a.invariant
