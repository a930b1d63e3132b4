-- The text of a history by order alone.
use Rattle.std.specs.Prelude.{ℕ, zero, suc, ◌+◌, ◌==◌, ◌≡◌, ◌<◌, ◌≤◌, if◌then◌else◌, List, [], ◌∷◌, ◌++◌, length, slice_index_or, codes, decimal}
use Rattle.std.specs.List.{flat_map}
use Rattle.act_types.specs.Texts.{space, caller_text, actor_text}
use Rattle.act_orders.specs.declared.told.End.{End}
use Rattle.act_orders.specs.declared.told.End.TheVariants.{Live, Dead, Retired}
use Rattle.act_orders.specs.declared.told.Outcome.{Outcome}
use Rattle.act_orders.specs.declared.told.Outcome.TheVariants.{Answered, Failed, Died, Open}
use Rattle.act_orders.specs.declared.told.Told.{Told}
use Rattle.act_written.specs.declared.text.Cursor.{Cursor}
use Rattle.act_orders.specs.Order.{call_of, actor_of}
use Rattle.act_orders.specs.Causes.{run_of}

-- ---- numbers

-- a call's number among its caller's calls, which stand together
abbrev pub call_number : Told → ℕ → ℕ
call_number told zero = 0
call_number told (suc n) = if (call_of told n).caller == (call_of told (suc n)).caller then call_number told n + 1 else 0

-- a run's number in its actor's run list
abbrev pub run_number : Told → ℕ → ℕ
run_number told zero = 0
run_number told (suc i) = if (run_of told i).actor == (run_of told (suc i)).actor then run_number told i + 1 else 0

-- the number of the actor at a place
abbrev pub name_at : List ℕ → ℕ → ℕ
name_at names a = slice_index_or names a 0

-- each call's number
pub record HasNumbers (told : Told) (numbers : List ℕ) : Type 0 where
  pub each : length numbers ≡ length told.calls
  pub value : (n : ℕ) → n < length told.calls → slice_index_or numbers n 0 ≡ call_number told n

-- ---- lines

abbrev pub line : List ℕ → List ℕ
line text = text ++ 10 ∷ []

-- the texts of the first places, one after another
abbrev pub of_each : (ℕ → List ℕ) → ℕ → List ℕ
of_each text_of zero = []
of_each text_of (suc n) = of_each text_of n ++ text_of n

-- `c1.0`
abbrev pub call_name : Told → ℕ → List ℕ
call_name told n = caller_text (call_of told n).caller ++ codes "." ++ decimal (call_number told n)

-- ` c1`
abbrev pub role_word : ℕ → List ℕ
role_word c = space ++ caller_text c

-- `actor a1 c1 c2`
abbrev pub role_line : Told → List ℕ → ℕ → List ℕ
role_line told names a =
    line (codes "actor " ++ actor_text (name_at names a) ++ flat_map role_word (actor_of told a).callers)

-- `await c1 0`
abbrev pub await_line : Told → ℕ → List ℕ
await_line told k = line (codes "await " ++ caller_text (call_of told k).caller ++ space ++ decimal (call_number told k))

-- ` @0`
abbrev pub take_word : Told → ℕ → List ℕ
take_word told k = codes " @" ++ decimal (call_number told k)

-- the answers for which its caller waited, and `call c1 a1 @0`
abbrev pub call_lines : Told → List ℕ → ℕ → List ℕ
call_lines told names n =
    flat_map (await_line told) (call_of told n).waits
    ++ line (codes "call " ++ caller_text (call_of told n).caller ++ space
    ++ actor_text (name_at names (call_of told n).actor) ++ flat_map (take_word told) (call_of told n).takes)

abbrev pub outcome_text : Outcome → List ℕ
outcome_text Answered = codes "answered"
outcome_text Failed = codes "failed"
outcome_text Died = codes "died"
outcome_text Open = codes "open"

-- `c1.0 answered`
abbrev pub outcome_line : Told → ℕ → List ℕ
outcome_line told n = line (call_name told n ++ space ++ outcome_text (call_of told n).outcome)

abbrev pub end_text : End → List ℕ
end_text Live = codes "live"
end_text Dead = codes "dead"
end_text Retired = codes "retired"

-- `a1 live`
abbrev pub end_line : Told → List ℕ → ℕ → List ℕ
end_line told names a = line (actor_text (name_at names a) ++ space ++ end_text (actor_of told a).end)

-- `a1.0 c1.0`
abbrev pub run_line : Told → List ℕ → ℕ → List ℕ
run_line told names i =
    line (actor_text (name_at names (run_of told i).actor) ++ codes "." ++ decimal (run_number told i) ++ space
    ++ call_name told (run_of told i).call)

-- the line of a run, if it is this actor's
abbrev pub run_line_of : Told → List ℕ → ℕ → ℕ → List ℕ
run_line_of told names a i = if (run_of told i).actor == a then run_line told names i else []

-- how an actor is at the end, and its run list
abbrev pub actor_lines : Told → List ℕ → ℕ → List ℕ
actor_lines told names a = end_line told names a ++ of_each (run_line_of told names a) (length told.runs)

-- roles, calls with what was waited for before them, what was waited for after them, outcomes, and actors with their
-- run lists
abbrev pub history_text : Told → List ℕ → List ℕ
history_text told names =
    line (codes "history order")
    ++ of_each (role_line told names) (length told.actors)
    ++ of_each (call_lines told names) (length told.calls)
    ++ flat_map (await_line told) told.waits
    ++ of_each (outcome_line told) (length told.calls)
    ++ of_each (actor_lines told names) (length told.actors)

-- ---- the run that is next

-- no run but this many is passed, and the number is the next one's, if there is one
pub record IsAt (told : Told) (at : Cursor) : Type 0 where
  pub within : at.place ≤ length told.runs
  pub few : at.number ≤ at.place
  pub number : at.place < length told.runs → at.number ≡ run_number told at.place

-- the runs before this one are of actors before this one, and no later ones are
pub record IsPast (told : Told) (a i : ℕ) : Type 0 where
  pub before : (j : ℕ) → j < i → (run_of told j).actor < a
  pub after : (j : ℕ) → i ≤ j → j < length told.runs → a ≤ (run_of told j).actor
