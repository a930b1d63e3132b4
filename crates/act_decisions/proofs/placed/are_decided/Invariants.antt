use Rattle.act_decisions.proofs.Common.{◌≡◌, ◌<◌, ℕ, List, Some, slice_get, ActorSpec, ToldCall, StandsThere, IsDecided, AreAnswers}
use Rattle.act_decisions.proofs.placed.are_decided.Given as goal

-- the calls so far are decided
abbrev pub invariant-loop-k : goal.invariant-loop-k
invariant-loop-k l = (i : ℕ) → i < l.k → (call : ToldCall) → slice_get l.caller.calls.items i ≡ Some call
    → (casts : List ActorSpec) → AreAnswers casts l.end l.all → StandsThere l.end l.c i call × IsDecided casts l.end l.c i l.caller call
