-- Runs of a kind of one's own answer by its steps, and what each step keeps holds after each of them.
use Rattle.act_rules.proofs.Common.{◌≡◌, ℕ, List, [], ◌∷◌, ◌++◌, slice_get, refl, ap, sym, ◌∙◌, subst, Result, Ok, Err, append-nil, Value, Fault, Method}
use Rattle.act_rules.proofs.Common.{Terminate, KindState, OwnAt, Ask, StepOf, next_state, step_answer, behaves, RunItem, told_reply, Answer, values_of}
use Rattle.act_rules.proofs.Common.{step_of_reply, call_reply, step_of_call, after_item, state_after, answers_from, kind_answer, own_call, own_asked}
use Rattle.act_rules.proofs.Common.{own_after_item, own_state_after, own_answers, RunsByItsSteps, ask_of, with_answer, told_in, IsKept, HoldsInEachRun}
use Rattle.act_rules.proofs.Common.{append_assoc}

module _ {S : Type 0} (step : StepOf S) (written : S → List ℕ) where
  abbrev at : S → KindState
  at state = OwnAt (behaves step written state)

  abbrev pub seen : S × Answer → KindState × Answer
  seen done = (at done.0, done.1)

  -- what a step leaves and answers, as an actor has it
  pub told_any : (state : S) (given : Result (S × Value) Fault)
      → step_of_reply (at state) (told_reply (at (next_state state given)) (step_answer given)) ≡ seen (next_state state given, kind_answer (step_answer given))
  told_any state (Ok next) = refl
  told_any state (Err fault) = refl

  call_any : (state : S) (method : Method) (values : List Value) →
      step_of_reply (at state) (call_reply (at state) method values) ≡ seen (own_call step state method values)
  call_any state Terminate [] = refl
  call_any state Terminate (value ∷ values) = refl
  call_any state method values = told_any state (step state method values)

  asked_any : (state : S) (item : RunItem) (values : Result (List Value) ℕ) → step_of_call (at state) item values ≡ seen (own_asked step state item values)
  asked_any state item (Ok values) = call_any state item.method values
  asked_any state item (Err k) = refl

  -- one item
  pub item_any : (state : S) (item : RunItem) → after_item (at state) item ≡ seen (own_after_item step state item)
  item_any state item = asked_any state item (values_of item.args)

  answers_any : (state : S) (items : List RunItem) → answers_from (at state) items ≡ own_answers step state items
  answers_any state [] = refl
  answers_any state (item ∷ items) =
      let same : after_item (at state) item ≡ seen (own_after_item step state item) = item_any state item in
      ap (λ (done : KindState × Answer). done.1 ∷ answers_from done.0 items) same
      ∙ ap (λ rest. (own_after_item step state item).1 ∷ rest) (answers_any (own_after_item step state item).0 items)

  state_any : (state : S) (items : List RunItem) → state_after (at state) items ≡ at (own_state_after step state items)
  state_any state [] = refl
  state_any state (item ∷ items) =
      ap (λ (done : KindState × Answer). state_after done.0 items) (item_any state item) ∙ state_any (own_after_item step state item).0 items

  pub runs_by_its_steps : RunsByItsSteps step written
  runs_by_its_steps = record { answers = λ state items place. ap (λ answers. slice_get answers place) (answers_any state items); leaves = state_any }

  -- ---- what each step keeps

  module _ (holds : List (Ask × Answer) → S → Type 0) (kept : IsKept step holds) where
    call_keeps : (told : List (Ask × Answer)) (state : S) (method : Method) (values : List Value) → holds told state
        → holds (told ++ with_answer (ask_of method (Ok values)) (own_call step state method values).1) (own_call step state method values).0
    call_keeps told state Terminate [] h = subst (λ past. holds past state) (sym (append-nil told)) h
    call_keeps told state Terminate (value ∷ values) h = subst (λ past. holds past state) (sym (append-nil told)) h
    call_keeps told state method values h = kept told state (record { method = method; args = values }) h

    asked_keeps : (told : List (Ask × Answer)) (state : S) (item : RunItem) (values : Result (List Value) ℕ) → holds told state
        → holds (told ++ with_answer (ask_of item.method values) (own_asked step state item values).1) (own_asked step state item values).0
    asked_keeps told state item (Ok values) h = call_keeps told state item.method values h
    asked_keeps told state item (Err k) h = subst (λ past. holds past state) (sym (append-nil told)) h

    runs_keep : (told : List (Ask × Answer)) (state : S) (items : List RunItem) → holds told state
        → holds (told ++ told_in (at state) items) (own_state_after step state items)
    runs_keep told state [] h = subst (λ past. holds past state) (sym (append-nil told)) h
    runs_keep told state (item ∷ items) h =
        let next : S = (own_after_item step state item).0 in
        let one : List (Ask × Answer) = with_answer (ask_of item.method (values_of item.args)) (own_after_item step state item).1 in
        let rest : holds ((told ++ one) ++ told_in (at next) items) (own_state_after step next items) =
        runs_keep (told ++ one) next items (asked_keeps told state item (values_of item.args) h) in
        subst (λ past. holds past (own_state_after step next items))
        (append_assoc told one (told_in (at next) items) ∙ ap (λ (done : KindState × Answer). told ++
        (with_answer (ask_of item.method (values_of item.args)) done.1 ++ told_in done.0 items)) (sym (item_any state item)))
        rest

  -- what each step keeps, and the state at the start has, holds after every run list
  pub holds_in_each_run : (holds : List (Ask × Answer) → S → Type 0) → HoldsInEachRun step written holds
  holds_in_each_run holds kept start at_first items = record {
    state = own_state_after step start items;
    left = state_any start items;
    kept = runs_keep holds kept [] start items at_first;
  }
