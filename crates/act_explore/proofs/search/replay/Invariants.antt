use Rattle.act_explore.proofs.Common.{ℕ, List, take, map, Step, actor_spec, At, IsQuiescent, HoldPlans, StandsAt, play_view, HasMade}
use Rattle.act_explore.proofs.search.replay.Given as goal

-- the choices so far are made
abbrev pub invariant-loop-choice : goal.invariant-loop-choice
invariant-loop-choice g l = (plans : ℕ → List Step) → HoldPlans (map (actor_spec g.K.Actor.state) l.fn.casts.items) plans l.setups →
    (at : At) × StandsAt (map (actor_spec g.K.Actor.state) l.fn.casts.items) plans at (play_view g.K.Actor.state l.play) × IsQuiescent plans at
    × HasMade (take l.choice-index l.path) at.history
