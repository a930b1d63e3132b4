use Rattle.act_decisions.proofs.Common.{◌≡◌, ◌<◌, ◌≤◌, List, length, ap, ◌∙◌, get_or, subst, ActorSpec, AreAnswers, TakesNoValue}
use Rattle.act_decisions.proofs.Fitting.{all_items, item_more}
use Rattle.act_decisions.proofs.lost.takes_none.Goals as goal

pub loop-i-preserved : goal.loop-i-preserved
loop-i-preserved c =
    let end = c.args.end.now in let run = c.args.run.now in let args = c.as_slice-args.ensures in
    let within : c.loop-i.i < length run.args = subst (λ l. c.loop-i.i < length l) args c.loop-i-test.true in
    let is : c.index-args-i.result ≡ get_or run.args c.loop-i.i c.index-args-i.result =
    c.index-args-i.is ∙ ap (λ l. get_or l c.loop-i.i c.index-args-i.result) args in
    item_more (λ i arg. (casts : List ActorSpec) → AreAnswers casts end c.args.all.now → TakesNoValue casts end run.caller arg)
    run.args within is (λ casts are. c.takes_no_value.ensures casts are c.if-not-takes_no_value.false) c.loop-i.invariant

pub returns : goal.returns
returns c = λ casts are _ i arg at.
    let run = c.args.run.now in
    let whole : length run.args ≤ c.loop-i.i = subst (λ l. length l ≤ c.loop-i.i) c.as_slice-args.ensures c.loop-i-test.false in
    all_items (λ i arg. (casts : List ActorSpec) → AreAnswers casts c.args.end.now c.args.all.now → TakesNoValue casts c.args.end.now run.caller arg)
    run.args c.loop-i.i whole c.loop-i.invariant i at casts are
