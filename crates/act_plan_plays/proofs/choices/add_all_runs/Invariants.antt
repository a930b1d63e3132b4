use Rattle.act_plan_plays.proofs.Common.{◌≡◌, ℕ, true, take, Contains, All, contains, CallerSetup, world_view, shows_next, Run}
use Rattle.act_plan_plays.proofs.choices.add_all_runs.Given as goal

-- the runs of the callers so far
abbrev pub invariant-loop-setup : goal.invariant-loop-setup
invariant-loop-setup g l = All (λ (setup : CallerSetup). (a : ℕ) → contains a setup.actors.items ≡ true →
    shows_next (world_view g.K.Actor.state l.world) a setup.caller ≡ true → Contains l.choices.items (Run a setup.caller)) (take l.setup-index l.setups)
