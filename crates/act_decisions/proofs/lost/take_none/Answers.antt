use Rattle.act_decisions.proofs.Common.{List, arith, ActorSpec, AreAnswers, TakesNone}
use Rattle.act_decisions.proofs.Fitting.{all_items, item_more}
use Rattle.act_decisions.proofs.lost.take_none.Goals as goal

pub loop-q-preserved : goal.loop-q-preserved
loop-q-preserved c =
    let runs = c.args.runs.now in let end = c.args.end.now in
    item_more (λ q run. (casts : List ActorSpec) → AreAnswers casts end c.args.all.now → TakesNone casts end run)
    runs {n = c.loop-q.q} (omega arith) c.index-runs-q.is
    (λ casts are. c.takes_none.ensures casts are c.if-not-takes_none.false) c.loop-q.invariant

pub returns : goal.returns
returns c = λ casts are _ q run at. all_items (λ q run. (casts : List ActorSpec) → AreAnswers casts c.args.end.now c.args.all.now →
    TakesNone casts c.args.end.now run) c.args.runs.now c.loop-q.q (omega arith) c.loop-q.invariant q at casts are
