-- What was read of a reader.
use Rattle.std.specs.Prelude.{ℕ, ◌+◌, ◌<◌, ◌≤◌, List, length, Option}
use Rattle.std.specs.Io.KnownBytes.{Consumes, IsAtEnd}
use Rattle.act_orders.specs.declared.history.TheConstants.{MAX_BYTES}

-- These bytes are all that the reader had or, where it had more than a history may have, its first ones.
pub record IsWholeInput (old new : Option (List ℕ)) (bytes : List ℕ) : Type 0 where
  pub consumed : Consumes old new bytes
  pub within : length bytes ≤ MAX_BYTES + 1
  pub whole : length bytes < MAX_BYTES + 1 → IsAtEnd new
