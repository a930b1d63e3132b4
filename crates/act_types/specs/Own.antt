-- What a kind of one's own means: what it answers after any calls, and how its state is then written.
use Rattle.std.specs.Prelude.{ℕ, List, [], ◌∷◌, Result, Ok, Err}
use Rattle.act_types.specs.declared.call.Value.{Value}
use Rattle.act_types.specs.declared.call.Fault.{Fault}
use Rattle.act_types.specs.declared.call.Fault.TheVariants.{BadArgs}
use Rattle.act_types.specs.declared.call.Method.{Method}

-- a call of a kind, by its method and its values
pub record Ask : Type 0 where
  pub method : Method
  pub args : List Value

-- what a kind answers to a call after these calls, and how its state is written after them
pub record Behaviour : Type 0 where
  pub told : List Ask → Ask → Result Value Fault
  pub text : List Ask → List ℕ

-- the behaviour from a call on
abbrev pub after_ask : Ask → Behaviour → Behaviour
after_ask ask behaviour = record {
  told = λ asks. behaviour.told (ask ∷ asks);
  text = λ asks.
      behaviour.text (ask ∷ asks);
}

-- ---- a kind that is given by its steps

-- what a call does: the new state and the value, or a fault, which leaves the state
abbrev pub StepOf : Type 0 → Type 0
StepOf S = S → Method → List Value → Result (S × Value) Fault

-- the steps of a kind whose calls have a type of their own: what a method and its values ask for, and what that does
abbrev pub on_call : {S C : Type 0} → (S → C → Result (S × Value) Fault) → S → Result C Fault → Result (S × Value) Fault
on_call does state (Ok call) = does state call
on_call does state (Err fault) = Err fault

abbrev pub by_calls : {S C : Type 0} → (Method → List Value → Result C Fault) → (S → C → Result (S × Value) Fault) →
    StepOf S
by_calls call_at does state method args = on_call does state (call_at method args)

-- a call that takes no values
abbrev pub alone : {C : Type 0} → C → List Value → Result C Fault
alone call [] = Ok call
alone call args = Err BadArgs

-- the state that a step leaves, and what it answers
abbrev pub next_state : {S : Type 0} → S → Result (S × Value) Fault → S
next_state state (Ok next) = next.0
next_state state (Err fault) = state

abbrev pub step_answer : {S : Type 0} → Result (S × Value) Fault → Result Value Fault
step_answer (Ok next) = Ok next.1
step_answer (Err fault) = Err fault

-- the state after some calls
abbrev pub after_asks : {S : Type 0} → StepOf S → S → List Ask → S
after_asks step state [] = state
after_asks step state (ask ∷ asks) = after_asks step (next_state state (step state ask.method ask.args)) asks

-- the behaviour of a kind with these steps, whose states are written so, from a state on
abbrev pub behaves : {S : Type 0} → StepOf S → (S → List ℕ) → S → Behaviour
behaves step written state = record {
  told = λ asks ask. step_answer (step (after_asks step state asks) ask.method ask.args);
  text = λ asks. written (after_asks step state asks);
}
