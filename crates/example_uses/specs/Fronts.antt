-- What is read off a world.
use Rattle.std.specs.Prelude.{ℕ, List, map}
use Rattle.std.specs.List.{enumerate_from}
use Rattle.actors.specs.Actors.{items_of}
use Rattle.actors.specs.Callers.{calls_to}
use Rattle.actors.specs.Worlds.{world_calls, world_log, WorldView}

-- what an actor ran of a caller's calls, each by its number and its future
abbrev pub ran_in : WorldView → ℕ → ℕ → List (ℕ × ℕ)
ran_in world a c = map (λ item. (item.number, item.future)) (items_of c (world_log world a))

-- what the caller submitted to the actor, each by its number and its future
abbrev pub submitted_in : WorldView → ℕ → ℕ → List (ℕ × ℕ)
submitted_in world a c = enumerate_from 0 (map (λ call. call.0) (calls_to a (world_calls world c)))
