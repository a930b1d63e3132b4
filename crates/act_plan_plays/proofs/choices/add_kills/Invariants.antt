use Rattle.act_plan_plays.proofs.Common.{◌≡◌, ℕ, true, take, Contains, IsPrefix, contains, world_view, shows_live, Take}
use Rattle.act_plan_plays.proofs.choices.add_kills.Given as goal

-- the kills of the actors so far
abbrev pub invariant-loop-a : goal.invariant-loop-a
invariant-loop-a g l = record {
  front : IsPrefix l.fn.choices.items l.choices.items;
  kills : (a : ℕ) → contains a (take l.a-index l.asked) ≡ true → shows_live (world_view g.K.Actor.state l.world) a ≡ true → Contains l.choices.items (Take a);
}
