use Rattle.act_plan_plays.proofs.Common.{ℕ, List, take, All, Step, ActorSpec, CallerSetup, At, parts_of, Stands, IsPart, IsDone}
use Rattle.act_plan_plays.proofs.moves.find_move.Given as goal

-- nothing is left of the callers so far
abbrev pub invariant-loop-place : goal.invariant-loop-place
invariant-loop-place g l = (casts : List ActorSpec) (plans : ℕ → List Step) (at : At) → Stands casts plans at (parts_of g.K.Actor.state l.played) →
    All (λ (setup : CallerSetup). IsPart casts plans setup → IsDone plans setup.caller at) (take l.place l.setups)
