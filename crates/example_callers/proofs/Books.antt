-- What the calls of a run list moved is what the callers' calls moved, by the answers that they keep.
use Rattle.example_callers.proofs.Common.{◌≡◌, ◌≢◌, ℕ, suc, ◌+◌, ◌<◌, ◌==◌, Bool, true, false, List, [], ◌∷◌, length, get_or, map, zip, slice_get, Option, Some}
use Rattle.example_callers.proofs.Common.{None, refl, ap, sym, ◌∙◌, subst, arith, All, AllPairs, eqb-true, eq-eqb, option_and_then, option_map, is_some, IsTrue}
use Rattle.example_callers.proofs.Common.{sum_by, enumerate_from, slice_get_within, slice_get-map, All-filter, filter_passes, sum_by-cons, Method, Settled}
use Rattle.example_callers.proofs.Common.{KindState, Answer, RunItem, Submission, answer_at, answers_from, after_item, items_of, calls_to, kept_at, settle}
use Rattle.example_callers.proofs.Common.{contains, Consistent, IsAsSubmitted, IsAnswerOfRun, IsCallToDead, All_at, slice_get-enumerate_from, slice_get-filter}
use Rattle.example_callers.proofs.Common.{all_by_places, filter-slice_get, map-slice_get}
use Rattle.example_callers.proofs.Sums.{sum_by_same, sum_by_map, by_keys, of_key}

-- each call of a caller stands at its future
pub enumerated_at : (calls : List Submission) (k : ℕ) (call : ℕ × Submission) → slice_get (enumerate_from 0 calls) k ≡ Some call →
    slice_get calls call.0 ≡ Some call.1
enumerated_at calls k call at = go (slice_get calls k) refl (sym (slice_get-enumerate_from 0 calls k) ∙ at)
  where
    go : (o : Option Submission) → slice_get calls k ≡ o → option_map (λ x. (0 + k, x)) o ≡ Some call → slice_get calls call.0 ≡ Some call.1
    go None is e = cc
    go (Some x) is e =
        let same : (0 + k, x) ≡ call = cc in
        let place : k ≡ call.0 = omega (arith, ap (λ (c : ℕ × Submission). c.0) same) in
        subst (λ j. slice_get calls j ≡ Some call.1) place (is ∙ ap (λ (c : ℕ × Submission). Some c.1) same)

enumerated : (calls : List Submission) → All (λ call. slice_get calls call.0 ≡ Some call.1) (enumerate_from 0 calls)
enumerated calls = all_by_places (λ (call : ℕ × Submission). slice_get calls call.0 ≡ Some call.1) (enumerate_from 0 calls) (enumerated_at calls)

-- what moves by an answered call: a term for each item of a run list, and for each call of a caller
module _ (moved : Option Answer → Method → List Settled → ℕ) where
  abbrev pub ran : RunItem × Answer → ℕ
  ran one = moved (Some one.1) one.0.method one.0.args

  abbrev pub by_log : KindState → List RunItem → ℕ
  by_log state items = sum_by ran (zip items (answers_from state items))

  abbrev pub call_moved : List (Option Answer) → ℕ × Submission → ℕ
  call_moved kept call = moved (kept_at kept call.0) call.1.method (map (settle kept) call.1.args)

  -- what the calls to an actor moved, by the answers that are kept
  abbrev pub by_calls : ℕ → List Submission → List (Option Answer) → ℕ
  by_calls a calls kept = sum_by (call_moved kept) (calls_to a calls)

  -- the call of a future
  abbrev at_future : List (Option Answer) → ℕ → Option Submission → ℕ
  at_future kept k None = 0
  at_future kept k (Some call) = call_moved kept (k, call)

  abbrev of_future : List Submission → List (Option Answer) → ℕ → ℕ
  of_future calls kept k = at_future kept k (slice_get calls k)

  calls_by_futures : (a : ℕ) (calls : List Submission) (kept : List (Option Answer))
      → by_calls a calls kept ≡ sum_by (of_future calls kept) (map (λ call. call.0) (calls_to a calls))
  calls_by_futures a calls kept =
      let places : All (λ (call : ℕ × Submission). slice_get calls call.0 ≡ Some call.1) (calls_to a calls) =
      All-filter (λ (call : ℕ × Submission). call.1.actor == a) (λ (call : ℕ × Submission). slice_get calls call.0 ≡ Some call.1) (enumerate_from 0 calls)
      (enumerated calls) in
      sum_by_same (call_moved kept) (λ (call : ℕ × Submission). of_future calls kept call.0) (calls_to a calls)
      (λ k d below. sym (ap (at_future kept _) (places k d below)))
      ∙ sym (sum_by_map (of_future calls kept) (λ (call : ℕ × Submission). call.0) (calls_to a calls))

  -- a term for each item that is so at its place
  log_by_items : (f : RunItem → ℕ) (state : KindState) (items : List RunItem) → ((p : ℕ) (item : RunItem) (answer : Answer) → slice_get items p ≡ Some item →
      slice_get (answers_from state items) p ≡ Some answer → ran (item, answer) ≡ f item) → by_log state items ≡ sum_by f items
  log_by_items f state [] same = refl
  log_by_items f state (item ∷ items) same =
      let done : KindState × Answer = after_item state item in
      let one : ran (item, done.1) ≡ f item = same 0 item done.1 refl refl in
      let rest : by_log done.0 items ≡ sum_by f items = log_by_items f done.0 items (λ p other answer at said. same (suc p) other answer at said) in
      let left : sum_by ran ((item, done.1) ∷ zip items (answers_from done.0 items)) ≡ ran (item, done.1) + by_log done.0 items =
      sum_by-cons ran (item, done.1) (zip items (answers_from done.0 items)) in
      let right : sum_by f (item ∷ items) ≡ f item + sum_by f items = sum_by-cons f item items in
      omega (arith, one, rest, left, right)

  -- the items of a caller
  of_caller : (calls : ℕ → List Submission) (kept : ℕ → List (Option Answer)) (c : ℕ) (items : List RunItem) → sum_by (λ item. of_future (calls item.caller)
      (kept item.caller) item.future) (items_of c items) ≡ sum_by (of_future (calls c) (kept c)) (map (λ item. item.future) (items_of c items))
  of_caller calls kept c items =
      let mine : All (λ (item : RunItem). (item.caller == c) ≡ true) (items_of c items) = filter_passes (λ (item : RunItem). item.caller == c) items in
      sum_by_same (λ (item : RunItem). of_future (calls item.caller) (kept item.caller) item.future)
      (λ (item : RunItem). of_future (calls c) (kept c) item.future) (items_of c items)
      (λ k d below. each (get_or (items_of c items) k d) (mine k d below))
      ∙ sym (sum_by_map (of_future (calls c) (kept c)) (λ (item : RunItem). item.future) (items_of c items))
    where
      each : (item : RunItem) → (item.caller == c) ≡ true →
          of_future (calls item.caller) (kept item.caller) item.future ≡ of_future (calls c) (kept c) item.future
      each item e = ap (λ who. of_future (calls who) (kept who) item.future) (eqb-true item.caller c e)

  module _ (opening : ℕ → Option KindState) (calls : ℕ → List Submission) (runs : ℕ → List RunItem) (kept : ℕ → List (Option Answer)) (is_dead : ℕ → Bool)
      (fits : Consistent opening calls runs kept is_dead)
      (answered : (c k : ℕ) → k < length (calls c) → is_some (kept_at (kept c) k) ≡ true)
      (a : ℕ) (alive : is_dead a ≡ false)
      (ran_all : (c : ℕ) → map (λ item. item.future) (items_of c (runs a)) ≡ map (λ call. call.0) (calls_to a (calls c))) where
    -- an item of the actor's is a call to it
    pub to_actor : (p : ℕ) {item : RunItem} {call : Submission} → slice_get (runs a) p ≡ Some item → slice_get (calls item.caller) item.future ≡ Some call →
        call.actor ≡ a
    to_actor p {item} {call} at is = go _ (slice_get-filter (λ (one : RunItem). one.caller == item.caller) (runs a) p at (eq-eqb item.caller item.caller refl))
      where
        go : (q : ℕ) → slice_get (items_of item.caller (runs a)) q ≡ Some item → call.actor ≡ a
        go q own =
            let future : slice_get (map (λ (one : RunItem). one.future) (items_of item.caller (runs a))) q ≡ Some item.future =
            slice_get-map (λ (one : RunItem). one.future) (items_of item.caller (runs a)) q ∙ ap (option_map (λ (one : RunItem). one.future)) own in
            let found = map-slice_get (λ (one : ℕ × Submission). one.0) (calls_to a (calls item.caller)) q
            (subst (λ l. slice_get l q ≡ Some item.future) (ran_all item.caller) future) in
            let listed = filter-slice_get (λ (one : ℕ × Submission). one.1.actor == a) (enumerate_from 0 (calls item.caller)) q found.1 in
            let there : slice_get (calls item.caller) found.0.0 ≡ Some found.0.1 = enumerated_at (calls item.caller) listed.place found.0 listed.at in
            let same : Some call ≡ Some found.0.1 = sym is ∙ ap (slice_get (calls item.caller)) (sym found.2) ∙ there in
            let one : call ≡ found.0.1 = cc in
            ap (λ (c : Submission). c.actor) one ∙ eqb-true found.0.1.actor a listed.passes

    -- an item of the actor's is its caller's call, and what it answered is kept
    item_moved : (state : KindState) → opening a ≡ Some state → (p : ℕ) (item : RunItem) (answer : Answer) → slice_get (runs a) p ≡ Some item →
        slice_get (answers_from state (runs a)) p ≡ Some answer → ran (item, answer) ≡ of_future (calls item.caller) (kept item.caller) item.future
    item_moved state opens p item answer at said =
        let sub : IsAsSubmitted calls kept item = All_at (IsAsSubmitted calls kept) (runs a) p (fits.as_submitted a) at in
        go sub (kept_at (kept item.caller) item.future) refl
        (answered item.caller item.future (slice_get_within (calls item.caller) item.future sub.call sub.at))
      where
        go : (sub : IsAsSubmitted calls kept item) (o : Option Answer) → kept_at (kept item.caller) item.future ≡ o → is_some o ≡ true →
            ran (item, answer) ≡ of_future (calls item.caller) (kept item.caller) item.future
        go sub None is some = cc
        go sub (Some other) is some =
            let from_run : IsAnswerOfRun opening runs item.caller item.future other =
            fits.answers item.caller item.future other is (λ died.
            let dead : IsCallToDead calls is_dead item.caller item.future = fits.deaths item.caller item.future (is ∙ ap (λ x. Some x) died) in
            let to : dead.call.actor ≡ a = to_actor p at dead.at in
            let no : IsTrue false = subst (λ b. IsTrue b) (ap is_dead to ∙ alive) dead.dead in
            cc) in
            let here : (a ≡ from_run.actor) × (p ≡ from_run.place) = from_run.only a p item at refl refl in
            let told : slice_get (answers_from state (runs a)) p ≡ Some other =
            ap (λ o. option_and_then (λ s. answer_at s (runs a) p) o) (sym opens)
            ∙ subst (λ place. option_and_then (λ s. answer_at s (runs a) place) (opening a) ≡ Some other) (sym here.1)
            (subst (λ actor. option_and_then (λ s. answer_at s (runs actor) from_run.place) (opening actor) ≡ Some other) (sym here.0) from_run.answered) in
            let same : answer ≡ other = cc in
            ap (λ x. moved (Some x) item.method item.args) same
            ∙ ap (λ o. moved o item.method item.args) (sym is)
            ∙ ap (λ m. moved (kept_at (kept item.caller) item.future) m item.args) sub.method
            ∙ ap (moved (kept_at (kept item.caller) item.future) sub.call.method) sub.args
            ∙ sym (ap (at_future (kept item.caller) item.future) sub.at)

    -- what the actor's calls moved is the sum of what the callers' calls to it moved
    pub log_is_callers : {state : KindState} → opening a ≡ Some state → (callers : List ℕ) → AllPairs (λ one other. one ≢ other) callers
        → ((c : ℕ) → contains c callers ≡ false → calls c ≡ [])
        → by_log state (runs a) ≡ sum_by (λ c. by_calls a (calls c) (kept c)) callers
    log_is_callers {state} opens callers differ strangers =
        let term : RunItem → ℕ = λ (item : RunItem). of_future (calls item.caller) (kept item.caller) item.future in
        let by_items : by_log state (runs a) ≡ sum_by term (runs a) = log_by_items term state (runs a) (item_moved state opens) in
        let split : sum_by (λ c. sum_by term (of_key (λ (item : RunItem). item.caller) term c (runs a))) callers ≡ sum_by term (runs a) =
        by_keys (λ (item : RunItem). item.caller) term callers (runs a) differ
        (all_by_places (λ (item : RunItem). contains item.caller callers ≡ true) (runs a) listed) in
        let each : sum_by (λ c. sum_by term (items_of c (runs a))) callers ≡ sum_by (λ c. by_calls a (calls c) (kept c)) callers =
        sum_by_same (λ c. sum_by term (items_of c (runs a))) (λ c. by_calls a (calls c) (kept c)) callers (λ k d below. one (get_or callers k d)) in
        by_items ∙ sym split ∙ each
      where
        listed : (p : ℕ) (item : RunItem) → slice_get (runs a) p ≡ Some item → contains item.caller callers ≡ true
        listed p item at = go (contains item.caller callers) refl
          where
            go : (b : Bool) → contains item.caller callers ≡ b → b ≡ true
            go true is = refl
            go false is =
                let sub : IsAsSubmitted calls kept item = All_at (IsAsSubmitted calls kept) (runs a) p (fits.as_submitted a) at in
                let none : slice_get {X = Submission} [] item.future ≡ Some sub.call =
                subst (λ l. slice_get l item.future ≡ Some sub.call) (strangers item.caller is) sub.at in
                cc

        one : (c : ℕ) → sum_by (λ item. of_future (calls item.caller) (kept item.caller) item.future) (items_of c (runs a)) ≡ by_calls a (calls c) (kept c)
        one c = of_caller calls kept c (runs a) ∙ ap (sum_by (of_future (calls c) (kept c))) (ran_all c) ∙ sym (calls_by_futures a (calls c) (kept c))
