-- What is told of a history, by how the program ends.
use Rattle.std.specs.Prelude.{◌≡◌, ℕ, List, [], ◌++◌, length, take, Option, Result, Ok, Err, codes}
use Rattle.std.specs.Fmt.{decimal}
use Rattle.std.specs.Io.KnownBytes.{Appends, Keeps}
use Rattle.act_orders.specs.declared.told.Told.{Told}
use Rattle.act_orders.specs.Causes.{IsWhole}
use Rattle.act_orders.specs.Order.{IsInOrder}
use Rattle.ray_orders.specs.declared.command.Command.{Command}
use Rattle.ray_orders.specs.declared.command.Command.TheVariants as command
use Rattle.ray_orders.specs.declared.status.Stop.{Stop}
use Rattle.ray_orders.specs.declared.status.Stop.TheVariants as stop
use Rattle.ray_orders.specs.Input.{IsWholeInput}

-- some text was written, and nothing else
abbrev pub Grows : Option (List ℕ) → Option (List ℕ) → Type 0
Grows old new = (text : List ℕ) × Appends old new text

-- why writing stops: for want of memory, or where it fails
abbrev pub StopsWriting : Stop → Type 0
StopsWriting stop.NoMemory = Unit {0}
StopsWriting stop.Writing = Unit {0}
StopsWriting other = ⊥

-- and reading
abbrev pub StopsReading : Stop → Type 0
StopsReading stop.NoMemory = Unit {0}
StopsReading stop.Reading = Unit {0}
StopsReading other = ⊥

-- the reasons that are told: all, or the first alone
abbrev pub reasons_told : {A : Type 0} → Command → List A → List A
reasons_told command.All reasons = reasons
reasons_told other reasons = take 1 reasons

-- the line of a history in order, with the number of its calls
abbrev pub in_order_line : ℕ → List ℕ
in_order_line count = codes "in order: " ++ (decimal count ++ codes " calls\n")

-- what is written of one: that line, or its order
abbrev pub TellsInOrder : ℕ → Command → Option (List ℕ) → Option (List ℕ) → Type 0
TellsInOrder count command.Order old new = Grows old new
TellsInOrder count other old new = Appends old new (in_order_line count)

-- how a history is judged, of which these runs tell another method than their calls: Ok only where it is in order, and
-- refused only where it isn't
abbrev pub IsJudged : Told → List ℕ → Command → Option (List ℕ) → Option (List ℕ) → Result (Unit {0}) Stop → Type 0
IsJudged told renamed command old new (Ok done) = (renamed ≡ []) × IsInOrder told
    × TellsInOrder (length told.calls) command old new
IsJudged told renamed command old new (Err stop.Refused) = (renamed ≡ [] → IsInOrder told → ⊥) × Grows old new
IsJudged told renamed command old new (Err stop.NoMemory) = Unit {0}
IsJudged told renamed command old new (Err stop.Writing) = Unit {0}
IsJudged told renamed command old new (Err other) = ⊥

-- what the program read and wrote, by how it ends
abbrev pub IsRun : Command → Option (List ℕ) → Option (List ℕ) → Option (List ℕ) → Option (List ℕ) →
    Result (Unit {0}) Stop → Type 0
IsRun command had left old new (Ok done) = (bytes : List ℕ) × IsWholeInput had left bytes
    × (told : Told) × IsWhole told × IsInOrder told × TellsInOrder (length told.calls) command old new
IsRun command had left old new (Err stop.Refused) = (bytes : List ℕ) × IsWholeInput had left bytes × Grows old new
IsRun command had left old new (Err stop.Mistake) = (bytes : List ℕ) × IsWholeInput had left bytes × Grows old new
IsRun command had left old new (Err stop.Reading) = Keeps old new
IsRun command had left old new (Err stop.NoMemory) = Unit {0}
IsRun command had left old new (Err stop.Writing) = Unit {0}
IsRun command had left old new (Err stop.Usage) = ⊥
