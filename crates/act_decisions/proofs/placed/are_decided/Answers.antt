use Rattle.act_decisions.proofs.Common.{◌<◌, List, length, arith, ActorSpec, IsDecided, StandsThere, AreAnswers}
use Rattle.act_decisions.proofs.Fitting.{all_items, item_more}
use Rattle.act_decisions.proofs.placed.are_decided.Goals as goal

pub loop-k-preserved : goal.loop-k-preserved
loop-k-preserved c =
    let end = c.args.end.now in let caller = c.args.caller.now in let within : c.loop-k.k < length caller.calls.items = omega arith in
    item_more (λ i call. (casts : List ActorSpec) → AreAnswers casts end c.args.all.now → StandsThere end c.args.c i call
    × IsDecided casts end c.args.c i caller call)
    caller.calls.items within c.index-call.ensures
    (λ casts are. (c.stands_there.ensures c.if-not-stands_there.false, c.is_decided.ensures casts are c.if-not-is_decided.false)) c.loop-k.invariant

pub returns : goal.returns
returns c = λ casts are _ k call at. all_items (λ i call. (casts : List ActorSpec) → AreAnswers casts c.args.end.now c.args.all.now →
    StandsThere c.args.end.now c.args.c i call × IsDecided casts c.args.end.now c.args.c i c.args.caller.now call) c.args.caller.now.calls.items c.loop-k.k
    (omega arith) c.loop-k.invariant k at casts are
