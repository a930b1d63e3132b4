use Rattle.act_decisions.proofs.Common.{◌≡◌, ◌<◌, ℕ, List, Some, length, arith, slice_get, ActorSpec, ToldCall, ToldCaller, IsDecided, StandsThere, AreAnswers}
use Rattle.act_decisions.proofs.Fitting.{all_items, item_more}
use Rattle.act_decisions.proofs.placed.all_are_decided.Goals as goal

pub loop-c-preserved : goal.loop-c-preserved
loop-c-preserved c =
    let end = c.args.end.now in let within : c.loop-c.c < length end.callers.items = omega arith in
    item_more (λ d (caller : ToldCaller). (casts : List ActorSpec) → AreAnswers casts end c.args.all.now → (k : ℕ) (call : ToldCall) →
    slice_get caller.calls.items k ≡ Some call → StandsThere end d k call × IsDecided casts end d k caller call)
    end.callers.items within c.index.ensures (λ casts are. c.are_decided.ensures casts are c.if-not-are_decided.false)
    c.loop-c.invariant

pub returns : goal.returns
returns c = λ casts are _ d k caller call at there.
    let end = c.args.end.now in
    all_items (λ d (caller : ToldCaller). (casts : List ActorSpec) → AreAnswers casts end c.args.all.now → (k : ℕ) (call : ToldCall) →
    slice_get caller.calls.items k ≡ Some call → StandsThere end d k call × IsDecided casts end d k caller call)
    end.callers.items c.loop-c.c (omega arith) c.loop-c.invariant d at casts are k call there
