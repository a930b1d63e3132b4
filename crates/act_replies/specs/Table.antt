-- What contracts say of a caller's futures and their answers.
use Rattle.std.specs.Prelude.{◌≡◌, ℕ, ◌≤◌, ◌==◌, ◌&&◌, Bool, false, not, if◌then◌else◌, List, map, length, slice_get, slice_set, count_by, Option, Some, None}
use Rattle.std.specs.Prelude.{is_some, option_and_then, Result, Err}
use Rattle.std.specs.Option.{option_map_or}
use Rattle.act_types.specs.declared.limits.TheConstants.{MAX_CALLS}
use Rattle.act_types.specs.declared.call.Value.{Value}
use Rattle.act_types.specs.declared.call.Fault.{Fault}
use Rattle.act_types.specs.declared.call.Fault.TheVariants.{ActorDied}
use Rattle.act_replies.specs.declared.table.Kept.{Kept}
use Rattle.act_replies.specs.declared.table.Kept.TheVariants.{First, Late, Stray}
use Rattle.act_replies.specs.declared.table.Row.{Row}

-- the futures in their order, and for how many more there is room
pub record TableView : Type 0 where
  pub rows : List Row
  pub spare : ℕ

-- whether the future has no answer yet
abbrev pub is_open : Row → Bool
is_open row = not (is_some row.answer)

-- whether it has no answer yet and is of this actor
abbrev pub row_waits_for : ℕ → Row → Bool
row_waits_for a row = (row.actor == a) && is_open row

-- whether future k has no answer yet and is of this actor
abbrev pub waits_at : ℕ → List Row → ℕ → Bool
waits_at a rows k = option_map_or (row_waits_for a) (slice_get rows k) false

-- a new future of an actor
abbrev pub unanswered_row : ℕ → Row
unanswered_row a = record { actor = a; answer = None }

abbrev pub row_with_answer : Result Value Fault → Row → Row
row_with_answer answer row = record { actor = row.actor; answer = Some answer }

-- the answer that is kept for future k
abbrev pub answer_in_table : ℕ → List Row → Option (Result Value Fault)
answer_in_table k rows = option_and_then (λ row. row.answer) (slice_get rows k)

-- what an answer for a future is: the first one, a late one, or of no such future
abbrev pub keep_result_in : Option Row → Kept
keep_result_in None = Stray
keep_result_in (Some row) = if is_open row then First else Late

abbrev pub keep_result : ℕ → List Row → Kept
keep_result k rows = keep_result_in (slice_get rows k)

-- the futures after an answer for future k, which stands in this row
abbrev pub after_keep_in : ℕ → Result Value Fault → List Row → Option Row → List Row
after_keep_in k answer rows None = rows
after_keep_in k answer rows (Some row) = if is_open row then slice_set rows k (row_with_answer answer row) else rows

abbrev pub after_keep : ℕ → Result Value Fault → List Row → List Row
after_keep k answer rows = after_keep_in k answer rows (slice_get rows k)

-- a future after the death of an actor
abbrev pub row_after_death : ℕ → Row → Row
row_after_death a row = if row_waits_for a row then row_with_answer (Err ActorDied) row else row

abbrev pub rows_after_death : ℕ → List Row → List Row
rows_after_death a rows = map (row_after_death a) rows

-- the number of futures without an answer is counted, and there are few enough futures
abbrev pub IsTable : List Row → ℕ → Type 0
IsTable rows unanswered = (unanswered ≡ count_by is_open rows) × (length rows ≤ MAX_CALLS)

-- the actor that a future waits for, none once it has its answer
abbrev pub waited_actor : Row → Option ℕ
waited_actor row = if is_open row then Some row.actor else None

-- of each future it is known which actor it waits for
abbrev pub IsKnown : List Row → List (Option ℕ) → Type 0
IsKnown rows actors = actors ≡ map waited_actor rows
