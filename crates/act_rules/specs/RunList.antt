-- What the calls of a run list answer, in the order in which they ran.
use Rattle.std.specs.Prelude.{◌≡◌, ℕ, ◌+◌, ◌-◌, ◌==◌, Bool, true, false, List, [], ◌∷◌, filter, length, slice_get, Option, Some, None, Result, Ok, Err, IsTrue}
use Rattle.act_types.specs.declared.call.Value.{Value}
use Rattle.act_types.specs.declared.call.Value.TheVariants.{Unit as Nothing}
use Rattle.act_types.specs.declared.call.Fault.{Fault}
use Rattle.act_types.specs.declared.call.Fault.TheVariants.{BadArgs, Dependency}
use Rattle.act_types.specs.declared.call.Method.{Method}
use Rattle.act_types.specs.declared.call.Method.TheVariants.{Terminate}
use Rattle.act_types.specs.declared.call.Settled.{Settled}
use Rattle.act_types.specs.declared.call.Settled.TheVariants.{Good, Bad}
use Rattle.act_rules.specs.declared.history.RunItem.{RunItem}
use Rattle.act_types.specs.KindState.{KindState}
use Rattle.act_rules.specs.Kinds.{Reply, reply_of}

abbrev pub Answer : Type 0
Answer = Result Value Fault

-- the values, or the future of the first failed argument
abbrev pub with_value : Value → Result (List Value) ℕ → Result (List Value) ℕ
with_value value (Ok values) = Ok (value ∷ values)
with_value value (Err k) = Err k

abbrev pub values_of : List Settled → Result (List Value) ℕ
values_of [] = Ok []
values_of (Good value ∷ args) = with_value value (values_of args)
values_of (Bad k ∷ args) = Err k

-- the state and the answer after a reply, where a fault leaves the state
abbrev pub step_of_reply : KindState → Reply → KindState × Answer
step_of_reply state (Ok next) = (next.0, Ok next.1)
step_of_reply state (Err fault) = (state, Err fault)

-- what a call answers: the actor itself answers a `terminate`, and its kind any other method
abbrev pub call_reply : KindState → Method → List Value → Reply
call_reply state Terminate [] = Ok (state, Nothing)
call_reply state Terminate (value ∷ values) = Err BadArgs
call_reply state method values = reply_of state method values

-- a call whose argument failed isn't asked
abbrev pub step_of_call : KindState → RunItem → Result (List Value) ℕ → KindState × Answer
step_of_call state item (Ok values) = step_of_reply state (call_reply state item.method values)
step_of_call state item (Err k) = (state, Err (Dependency k))

-- the state and the answer after one item
abbrev pub after_item : KindState → RunItem → KindState × Answer
after_item state item = step_of_call state item (values_of item.args)

-- the state after all items
abbrev pub state_after : KindState → List RunItem → KindState
state_after state [] = state
state_after state (item ∷ items) = state_after (after_item state item).0 items

-- the answers of all items, in order
abbrev pub answers_from : KindState → List RunItem → List Answer
answers_from state [] = []
answers_from state (item ∷ items) = (after_item state item).1 ∷ answers_from (after_item state item).0 items

-- the items of one caller
abbrev pub items_of : ℕ → List RunItem → List RunItem
items_of c items = filter (λ item. item.caller == c) items

-- the answer of the item at a place
abbrev pub answer_at : KindState → List RunItem → ℕ → Option Answer
answer_at state items place = slice_get (answers_from state items) place

-- ---- the end that waits its turn

-- whether a call ends its actor: a `terminate` without arguments does
abbrev pub is_end : Method → List Settled → Bool
is_end Terminate [] = true
is_end method args = false

abbrev pub ends_actor : Option RunItem → Bool
ends_actor None = false
ends_actor (Some item) = is_end item.method item.args

-- whether the last item of a run list ended the actor
abbrev pub has_terminated : List RunItem → Bool
has_terminated items = ends_actor (slice_get items (length items - 1))

-- an item that ends the actor is the last one
abbrev pub NothingFollowsAnEnd : List RunItem → Type 0
NothingFollowsAnEnd items = (place : ℕ) → IsTrue (ends_actor (slice_get items place)) → length items ≡ place + 1
