-- How far a search is.
use Rattle.std.specs.Prelude.{◌≡◌, ℕ, Bool, List, ◌++◌}

-- the script that is searched, how many states are left to be looked at, and whether one was lost for want of memory
pub record Frontier : Type 0 where
  pub script : List ℕ
  pub left : ℕ
  pub has_lost : Bool

-- the bytes begin with these, and more follow
pub record Extends (front bytes : List ℕ) : Type 0 where
  pub more : List ℕ
  pub same : bytes ≡ front ++ more
