-- Where callers' calls begin, as a table has it.
use Rattle.std.specs.Prelude.{◌<◌, ◌^◌, ◌+◌, ◌==◌, ℕ, if◌then◌else◌, List, [], ◌∷◌, ◌++◌, length, map, All}
use Rattle.act_rules.specs.declared.history.RunItem.{RunItem}
use Rattle.act_owner.specs.Owner.{OwnerView}
use Rattle.act_serve.specs.Served.{EndView, end_log}
use Rattle.act_orders.specs.declared.told.Run.{Run}

-- each caller with the place of its first call, behind so many calls
abbrev pub starts_from : ℕ → List OwnerView → List (ℕ × ℕ)
starts_from before [] = []
starts_from before (owner ∷ owners) = (owner.id, before) ∷ starts_from (before + length owner.calls) owners

-- what the table has of a caller, and else where all calls end
abbrev pub start_in : List (ℕ × ℕ) → ℕ → ℕ → ℕ
start_in [] all c = all
start_in (start ∷ starts) all c = if start.0 == c then start.1 else start_in starts all c

-- places are those of a machine
abbrev pub AreSmall : List (ℕ × ℕ) → Type 0
AreSmall starts = All (λ start. start.1 < 2 ^ 63) starts

-- a run by the table
abbrev pub run_by : List (ℕ × ℕ) → ℕ → ℕ → RunItem → Run
run_by starts all a item = record { actor = a; call = start_in starts all item.caller + item.future }

abbrev pub runs_by : List (ℕ × ℕ) → ℕ → ℕ → List EndView → List Run
runs_by starts all a [] = []
runs_by starts all a (end ∷ ends) = map (run_by starts all a) (end_log end) ++ runs_by starts all (a + 1) ends
