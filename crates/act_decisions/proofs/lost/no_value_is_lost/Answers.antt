use Rattle.act_decisions.proofs.Common.{◌≡◌, ◌<◌, ℕ, List, length, sym, ap, ◌∙◌, arith, slice_get, ActorSpec, ToldRun, rans_in, AreAnswers, IsRunIn, TakesNone}
use Rattle.act_lists.proofs.Lists.{item_at}
use Rattle.act_decisions.proofs.Fitting.{all_runs, below_more, runs_said}
use Rattle.act_decisions.proofs.lost.no_value_is_lost.Goals as goal

pub loop-b-preserved : goal.loop-b-preserved
loop-b-preserved c =
    let end = c.args.end.now in let all = c.args.all.now in let b = c.loop-b.b in let within : b < length end.actors.items = omega arith in
    let runs : c.deref.result.now ≡ rans_in end b =
    c.deref.ensures.value ∙ sym (runs_said end b (item_at end.actors.items b c.index.result.now within c.index.ensures)) in
    below_more (λ a. (q : ℕ) (run : ToldRun) → IsRunIn end a q run → (casts : List ActorSpec) → AreAnswers casts end all
    → TakesNone casts end run) b c.loop-b.invariant
    (λ q run at casts are. c.take_none.ensures casts are c.if-not-take_none.false q run (ap (λ l. slice_get l q) runs ∙ at))

pub returns : goal.returns
returns c = λ casts are _ a q run at. all_runs c.args.end.now (λ a q run. (casts : List ActorSpec) → AreAnswers casts c.args.end.now c.args.all.now →
    TakesNone casts c.args.end.now run) c.loop-b.b (omega arith) c.loop-b.invariant a q run at casts are
