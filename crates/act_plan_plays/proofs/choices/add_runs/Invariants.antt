use Rattle.act_plan_plays.proofs.Common.{◌≡◌, ℕ, true, take, Contains, IsPrefix, contains, world_view, shows_next, Run}
use Rattle.act_plan_plays.proofs.choices.add_runs.Given as goal

-- the runs at the actors so far
abbrev pub invariant-loop-a : goal.invariant-loop-a
invariant-loop-a g l = record {
  front : IsPrefix l.fn.choices.items l.choices.items;
  runs : (a : ℕ) → contains a (take l.a-index l.a-items) ≡ true → shows_next (world_view g.K.Actor.state l.world) a l.setup.caller ≡ true
      → Contains l.choices.items (Run a l.setup.caller);
}
