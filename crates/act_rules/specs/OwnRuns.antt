-- What the calls of a run list do at a kind of one's own, in the kind's own states, and what holds after each run list.
use Rattle.std.specs.Prelude.{◌≡◌, ℕ, List, [], ◌∷◌, ◌++◌, slice_get, Option, Some, None, Result, Ok, Err}
use Rattle.act_types.specs.declared.call.Value.{Value}
use Rattle.act_types.specs.declared.call.Value.TheVariants.{Unit as Nothing}
use Rattle.act_types.specs.declared.call.Fault.{Fault}
use Rattle.act_types.specs.declared.call.Fault.TheVariants.{BadArgs, Dependency}
use Rattle.act_types.specs.declared.call.Method.{Method}
use Rattle.act_types.specs.declared.call.Method.TheVariants.{Terminate}
use Rattle.act_types.specs.KindState.{KindState, OwnAt}
use Rattle.act_types.specs.Own.{Ask, StepOf, next_state, step_answer, behaves}
use Rattle.act_rules.specs.declared.history.RunItem.{RunItem}
use Rattle.act_rules.specs.Kinds.{kind_fault}
use Rattle.act_rules.specs.RunList.{Answer, values_of, after_item, answer_at, state_after}

-- a kind's answer
abbrev pub kind_answer : Result Value Fault → Answer
kind_answer (Ok value) = Ok value
kind_answer (Err fault) = Err (kind_fault fault)

-- ---- a run list in the kind's own states

-- what a call does: the actor itself answers a `terminate`, and the kind's step any other method
abbrev pub own_call : {S : Type 0} → StepOf S → S → Method → List Value → S × Answer
own_call step state Terminate [] = (state, Ok Nothing)
own_call step state Terminate (value ∷ values) = (state, Err BadArgs)
own_call step state method values =
    (next_state state (step state method values), kind_answer (step_answer (step state method values)))

-- a call whose argument failed isn't asked
abbrev pub own_asked : {S : Type 0} → StepOf S → S → RunItem → Result (List Value) ℕ → S × Answer
own_asked step state item (Ok values) = own_call step state item.method values
own_asked step state item (Err k) = (state, Err (Dependency k))

abbrev pub own_after_item : {S : Type 0} → StepOf S → S → RunItem → S × Answer
own_after_item step state item = own_asked step state item (values_of item.args)

-- the state after all items
abbrev pub own_state_after : {S : Type 0} → StepOf S → S → List RunItem → S
own_state_after step state [] = state
own_state_after step state (item ∷ items) = own_state_after step (own_after_item step state item).0 items

-- the answers of all items, in order
abbrev pub own_answers : {S : Type 0} → StepOf S → S → List RunItem → List Answer
own_answers step state [] = []
own_answers step state (item ∷ items) = (own_after_item step state item).1 ∷
    own_answers step (own_after_item step state item).0 items

-- the answer of the item at a place
abbrev pub own_answer_at : {S : Type 0} → StepOf S → S → List RunItem → ℕ → Option Answer
own_answer_at step state items place = slice_get (own_answers step state items) place

-- runs of such a kind answer by its steps, and leave the state of its steps
pub record RunsByItsSteps {S : Type 0} (step : StepOf S) (written : S → List ℕ) : Type 0 where
  pub answers : (state : S) (items : List RunItem) (place : ℕ) →
      answer_at (OwnAt (behaves step written state)) items place ≡ own_answer_at step state items place
  pub leaves : (state : S) (items : List RunItem) →
      state_after (OwnAt (behaves step written state)) items
      ≡ OwnAt (behaves step written (own_state_after step state items))

-- ---- what an actor was asked

-- the call that reaches the kind: not a `terminate`, and not one whose argument failed
abbrev pub ask_of : Method → Result (List Value) ℕ → Option Ask
ask_of method (Err k) = None
ask_of Terminate (Ok values) = None
ask_of method (Ok values) = Some (record { method = method; args = values })

abbrev pub with_answer : Option Ask → Answer → List (Ask × Answer)
with_answer None answer = []
with_answer (Some ask) answer = (ask, answer) ∷ []

-- what the kind was asked, and what it answered, in the order of the run list
abbrev pub told_in : KindState → List RunItem → List (Ask × Answer)
told_in state [] = []
told_in state (item ∷ items) = with_answer (ask_of item.method (values_of item.args)) (after_item state item).1
    ++ told_in (after_item state item).0 items

-- ---- what each step keeps

-- a property of what was told so far, and of the state, that each step keeps
abbrev pub IsKept : {S : Type 0} → StepOf S → (List (Ask × Answer) → S → Type 0) → Type 0
IsKept {S} step holds = (told : List (Ask × Answer)) (state : S) (ask : Ask) → holds told state
    → holds (told ++ (ask, kind_answer (step_answer (step state ask.method ask.args))) ∷ [])
    (next_state state (step state ask.method ask.args))

-- what a run list left of such a kind: a state of the kind, and the property holds of it and of what was told
pub record Left {S : Type 0} (step : StepOf S) (written : S → List ℕ) (holds : List (Ask × Answer) → S → Type 0)
    (opening : KindState) (items : List RunItem) : Type 0 where
  pub state : S
  pub left : state_after opening items ≡ OwnAt (behaves step written state)
  pub kept : holds (told_in opening items) state

-- a property that each step keeps, and that the opening state has, holds after every run list
abbrev pub HoldsInEachRun : {S : Type 0} → StepOf S → (S → List ℕ) → (List (Ask × Answer) → S → Type 0) → Type 0
HoldsInEachRun {S} step written holds = IsKept step holds → (start : S) → holds [] start
    → (items : List RunItem) → Left step written holds (OwnAt (behaves step written start)) items
