use Rattle.act_decisions.proofs.Common.{ℕ, ◌≤◌, List, Event, ActorSpec, history, IsReachedBy, world_view, HasCalls}
use Rattle.act_decisions.proofs.compared.has_all_calls.Given as goal

-- the callers so far have their calls
abbrev pub invariant-loop-before : goal.invariant-loop-before
invariant-loop-before g l = (casts : List ActorSpec) (events : List Event) → IsReachedBy casts events (world_view g.K.Actor.state l.world) →
    (c : ℕ) → 1 ≤ c → c ≤ l.before → HasCalls c l.steps (history casts events)
