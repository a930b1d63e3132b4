use Rattle.act_decisions.proofs.Common.{◌≡◌, ◌<◌, ℕ, List, Some, slice_get, caller_in, ActorSpec, ToldCaller, ToldCall, StandsThere, IsDecided, AreAnswers}
use Rattle.act_decisions.proofs.placed.all_are_decided.Given as goal

-- the callers so far are decided
abbrev pub invariant-loop-c : goal.invariant-loop-c
invariant-loop-c l = (d : ℕ) → d < l.c → (caller : ToldCaller) → caller_in l.end d ≡ Some caller → (casts : List ActorSpec) → AreAnswers casts l.end l.all
    → (k : ℕ) (call : ToldCall) → slice_get caller.calls.items k ≡ Some call → StandsThere l.end d k call × IsDecided casts l.end d k caller call
