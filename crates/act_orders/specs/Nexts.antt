-- What a search does next.
use Rattle.std.specs.Prelude.{◌≡◌, ℕ, ◌-◌, ◌<◌, ◌≤◌, List, length, Some, slice_get, Contains}
use Rattle.act_orders.specs.declared.search.Next.{Next}
use Rattle.act_orders.specs.declared.search.Next.TheVariants.{Finish, Pass, Enter, Close}
use Rattle.act_orders.specs.declared.told.Happening.{Happening}
use Rattle.act_orders.specs.Search.{Graph, mark, Needs}

-- where a slot has this cause
abbrev pub IsAtCause : Graph Happening → List ℕ → List Happening → List Happening → Happening → Next → Type 0
IsAtCause g marks path order cause Finish = ⊥
IsAtCause g marks path order cause Pass = g.IsNode cause → Contains order cause
IsAtCause g marks path order cause (Enter u) = (u ≡ cause) × g.IsNode u × (mark g marks u ≡ 0)
IsAtCause g marks path order cause (Close u) = (u ≡ cause) × g.IsNode u × Contains path u

-- at the last happening that was begun, under this mark
abbrev pub IsNext : Graph Happening → List ℕ → List Happening → List Happening → Happening → ℕ → Next → Type 0
IsNext g marks path order top m Finish = length (g.slots top) ≤ m - 1
IsNext g marks path order top m Pass = (m - 1 < length (g.slots top)) ×
    ((u : Happening) → slice_get (g.slots top) (m - 1) ≡ Some (Some u) → g.IsNode u → Contains order u)
IsNext g marks path order top m (Enter u) = Needs g top u × g.IsNode u × (mark g marks u ≡ 0)
IsNext g marks path order top m (Close u) = Needs g top u × g.IsNode u × Contains path u
