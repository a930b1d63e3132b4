-- The names of specifications and of the crates below that most proofs here cite, passed on from one place.
pub use Rattle.actors.specs.Actors.{RetiredView, retired_view, state_after}
pub use Rattle.actors.specs.Rules.{ActorSpec, History, history, is_dead, runs_of}
pub use Rattle.actors.specs.Threads.{EndView, IfRetired, IsJoined, Killed, RanAll, Retired, Starved, actors_of_casts, cast_at, end_id, end_view, plan_of}
pub use Rattle.actors.specs.Threads.{plan_view}
pub use Rattle.example_transfer.specs.Money.{AreLeftTogether, HoldOtherwise, HoldTogether, IsAnswer, IsKeptInThreads, IsPurse, PurseEnd, PurseLeft, ends_of}
pub use Rattle.example_transfer.specs.Money.{purse_left, purse_of_end}
pub use Rattle.example_transfer.specs.Purse.{purse_at, purse_need}
pub use Rattle.example_transfer.specs.declared.purse.Purse.{Purse}
pub use Rattle.example_transfer.specs.declared.together.Together.{Together}
pub use Rattle.std.proofs.Common.{Bool, List, None, Option, [], ap, arith, false, map, nat_le, pos, refl, subst, suc, sym, true, zero, ℕ, ◌+◌, ◌==◌, ◌↔◌, ◌∙◌}
pub use Rattle.std.proofs.Common.{◌∷◌, ◌≡◌, ◌≤◌}
pub use Rattle.std.specs.Prelude.{IfSome, IsTrue, Ok, Some, codes, find, int_lt, is_ok, option_and_then, option_map}
