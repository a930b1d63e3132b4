use Rattle.act_plan_plays.proofs.Common.{ℕ, List, take, All, Step, ActorSpec, CallerSetup, At, parts_of, Stands, IsPart, IsThrough}
use Rattle.act_plan_plays.proofs.ending.are_through.Given as goal

-- the callers so far are through
abbrev pub invariant-loop-setup : goal.invariant-loop-setup
invariant-loop-setup g l = (casts : List ActorSpec) (plans : ℕ → List Step) (at : At) → Stands casts plans at (parts_of g.K.Actor.state l.played) →
    All (λ (setup : CallerSetup). IsPart casts plans setup → IsThrough plans setup.caller at) (take l.setup-index l.setups)
