-- Each step of a work queue keeps the order.
use Rattle.example_kinds.proofs.Common.{◌≡◌, List, [], ◌∷◌, ◌++◌, length, flat_map, Bool, true, false, refl, ap, sym, ◌∙◌, Result, Ok, Err, nat_lt, codes}
use Rattle.example_kinds.proofs.Common.{if◌then◌else◌, append_assoc, append-nil, Value, Fault, Own, Ask, next_state, step_answer, on_call, count_value, Answer}
use Rattle.example_kinds.proofs.Common.{kind_answer, IsKept}
use Rattle.std.proofs.lemmas.Grind.{flat_map-append}
use Rattle.example_kinds.specs.declared.queue.TheConstants.{MAX_QUEUED}
use Rattle.example_kinds.specs.Queue.{QueueCall, Enqueue, Dequeue, Waiting, queue_call, queue_does, queue_step, put_by, taken_by, taken_of, IsInOrder}

-- what a call takes, and then what waits after it, is what waited before it, and then what it puts
abbrev Fits : List Value → Result QueueCall Fault → Result (List Value × Value) Fault → Type 0
Fits items call given =
    taken_by call (kind_answer (step_answer given)) ++ next_state items given
    ≡ items ++ put_by call (kind_answer (step_answer given))

enqueue_fits : (items : List Value) (value : Value) (b : Bool)
    → Fits items (Ok (Enqueue value))
    (if b then Ok (items ++ value ∷ [], count_value (items ++ value ∷ [])) else Err (Own (codes "QueueFull")))
enqueue_fits items value true = refl
enqueue_fits items value false = sym (append-nil items)

call_fits : (items : List Value) (call : Result QueueCall Fault)
    → Fits items call (on_call queue_does items call)
call_fits items (Ok (Enqueue value)) = enqueue_fits items value (nat_lt (length items) MAX_QUEUED)
call_fits [] (Ok Dequeue) = refl
call_fits (first ∷ rest) (Ok Dequeue) = sym (append-nil (first ∷ rest))
call_fits items (Ok Waiting) = sym (append-nil items)
call_fits items (Err fault) = sym (append-nil items)

abbrev put_at : Ask × Answer → List Value
put_at one = put_by (queue_call one.0.method one.0.args) one.1

abbrev taken_at : Ask × Answer → List Value
taken_at one = taken_by (queue_call one.0.method one.0.args) one.1

-- one more answer adds its own values at the end
grows : (values : Ask × Answer → List Value) (told : List (Ask × Answer)) (one : Ask × Answer)
    → flat_map values (told ++ one ∷ []) ≡ flat_map values told ++ values one
grows values told one =
    flat_map-append values told (one ∷ [])
    ∙ ap (λ (last : List Value). flat_map values told ++ last) (append-nil (values one))

-- each step of a queue keeps that what was taken, and then what waits, is what was put, in the same order
pub order_is_kept : IsKept queue_step IsInOrder
order_is_kept told items ask in_order =
    let given : Result (List Value × Value) Fault = queue_step items ask.method ask.args in
    let one : Ask × Answer = (ask, kind_answer (step_answer given)) in
    let next : List Value = next_state items given in
    ap (λ (taken : List Value). taken ++ next) (grows taken_at told one)
    ∙ append_assoc (taken_of told) (taken_at one) next
    ∙ ap (λ (rest : List Value). taken_of told ++ rest) (call_fits items (queue_call ask.method ask.args))
    ∙ sym (append_assoc (taken_of told) items (put_at one))
    ∙ ap (λ (put : List Value). put ++ put_at one) in_order
    ∙ sym (grows put_at told one)
