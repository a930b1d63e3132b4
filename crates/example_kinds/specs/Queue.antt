-- What a work queue can be asked, what its calls do, how it is written, and the order that it keeps.
use Rattle.std.specs.Prelude.{◌≡◌, ℕ, List, [], ◌∷◌, ◌++◌, length, map, flat_map, nat_lt, Result, Ok, Err, if◌then◌else◌, bytes_eq, codes}
use Rattle.actors.specs.Value.{Value}
use Rattle.actors.specs.Method.{Method}
use Rattle.actors.specs.Fault.{Fault}
use Rattle.actors.specs.Fault.TheVariants.{NoMethod, BadArgs, Own}
use Rattle.actors.specs.Kinds.{KindState, OwnAt, Ask, StepOf, behaves, by_calls, alone, count_value, Answer}
use Rattle.actors.specs.Texts.{method_text, value_text, with_spaces}
use Rattle.example_kinds.specs.declared.queue.TheConstants.{MAX_QUEUED}
use Rattle.example_kinds.specs.declared.queue.QueueCall.{QueueCall as Borrowed}
use Rattle.example_kinds.specs.declared.queue.QueueCall.TheVariants as borrowed

-- what a work queue can be asked
pub data QueueCall : Type 0 where
  -- puts a value at the end, and answers how many there are then
  Enqueue : (value : Value) → QueueCall
  -- takes the first value, and answers it
  Dequeue : QueueCall
  -- answers how many values there are
  Waiting : QueueCall

-- the call that the code's own is, which borrows its value
abbrev pub call_meant : Borrowed → QueueCall
call_meant (borrowed.Enqueue value) = Enqueue value.now
call_meant borrowed.Dequeue = Dequeue
call_meant borrowed.Waiting = Waiting

abbrev pub enqueue_at : List Value → Result QueueCall Fault
enqueue_at (value ∷ []) = Ok (Enqueue value)
enqueue_at args = Err BadArgs

-- what a method and its values ask for
abbrev pub queue_call : Method → List Value → Result QueueCall Fault
queue_call method args =
    if bytes_eq (method_text method) (codes "enqueue") then enqueue_at args else
    (if bytes_eq (method_text method) (codes "dequeue") then alone Dequeue args else
    (if bytes_eq (method_text method) (codes "waiting") then alone Waiting args else Err NoMethod))

-- the values that a call has
abbrev pub queue_values : QueueCall → List Value
queue_values (Enqueue value) = value ∷ []
queue_values call = []

-- what a call does
abbrev pub queue_does : List Value → QueueCall → Result (List Value × Value) Fault
queue_does items (Enqueue value) =
    if nat_lt (length items) MAX_QUEUED
    then Ok (items ++ value ∷ [], count_value (items ++ value ∷ []))
    else Err (Own (codes "QueueFull"))
queue_does [] Dequeue = Err (Own (codes "QueueEmpty"))
queue_does (first ∷ rest) Dequeue = Ok (rest, first)
queue_does items Waiting = Ok (items, count_value items)

abbrev pub queue_step : StepOf (List Value)
queue_step = by_calls queue_call queue_does

-- how a queue is written
abbrev pub queue_text : List Value → List ℕ
queue_text items = codes "queue" ++ with_spaces (map value_text items)

-- a queue in which these values wait
abbrev pub queue_at : List Value → KindState
queue_at items = OwnAt (behaves queue_step queue_text items)

-- ---- the order

-- what a call put at the end
abbrev pub put_by : Result QueueCall Fault → Answer → List Value
put_by (Ok (Enqueue value)) (Ok count) = value ∷ []
put_by call answer = []

-- what a call took from the front
abbrev pub taken_by : Result QueueCall Fault → Answer → List Value
taken_by (Ok Dequeue) (Ok first) = first ∷ []
taken_by call answer = []

-- the values of the accepted `enqueue`s, in order
abbrev pub put_of : List (Ask × Answer) → List Value
put_of told = flat_map (λ one. put_by (queue_call one.0.method one.0.args) one.1) told

-- the answers of the accepted `dequeue`s, in order
abbrev pub taken_of : List (Ask × Answer) → List Value
taken_of told = flat_map (λ one. taken_by (queue_call one.0.method one.0.args) one.1) told

-- what was taken, and then what waits, is what was put, in the same order
abbrev pub IsInOrder : List (Ask × Answer) → List Value → Type 0
IsInOrder told items = taken_of told ++ items ≡ put_of told
