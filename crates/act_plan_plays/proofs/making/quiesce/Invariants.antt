use Rattle.act_plan_plays.proofs.Common.{ℕ, List, Step, ActorSpec, At, HaveSameChoices, parts_of, Stands, HoldPlans}
use Rattle.act_plan_plays.proofs.making.quiesce.Given as goal

-- the play went on without a choice
abbrev pub invariant-loop : goal.invariant-loop
invariant-loop g l = (casts : List ActorSpec) (plans : ℕ → List Step) (at : At) → Stands casts plans at (parts_of g.K.Actor.state l.fn.played) →
    HoldPlans casts plans l.setups → (next : At) × Stands casts plans next (parts_of g.K.Actor.state l.played) × HaveSameChoices at.history next.history
