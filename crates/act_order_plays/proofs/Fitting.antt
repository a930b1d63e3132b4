-- What a play leaves fits the limits, and what it answers took no answer that failed.
use Rattle.act_order_plays.proofs.Common.{◌≡◌, ℕ, zero, suc, ◌<◌, ◌≤◌, ◌==◌, inl, inr, List, [], ◌∷◌, length, map, Option, Some, None, Ok, Err, slice_get, refl}
use Rattle.act_order_plays.proofs.Common.{sym, ap, subst, ◌∙◌, arith, Result, filter, option_map, option_and_then, AllByRecursion, Contains, length-map}
use Rattle.act_order_plays.proofs.Common.{slice_get-map, slice_get_within, Arg, Fut, Settled, Good, Value, KindState, Event, RunItem, Submission, Answer}
use Rattle.act_order_plays.proofs.Common.{with_value, values_of, step_of_call, after_item, answer_at, kept_at, settled_future, settle, IsAsSubmitted, ActorSpec}
use Rattle.act_order_plays.proofs.Common.{History, opening, opening_of, calls_of, runs_of, kept_of, next_item, after_run, after_all, All_more, All_at, IsKept}
use Rattle.act_order_plays.proofs.Common.{after_all_keeps, filter-slice_get, map-slice_get, IsSound, answers_are, consistent, Outcome, Failed, Died, Open, Told}
use Rattle.act_order_plays.proofs.Common.{call_of, IsWhole, kept_for, IsKeptFor, LeavesTold, Fits, args_of, future_of, Nothing, Submit, RunNext, place_in}
use Rattle.act_rules.proofs.Callers.{submit_fits, few_step}
use Rattle.act_orders.specs.declared.told.Outcome.TheVariants.{Answered}
use Rattle.act_order_plays.proofs.Left.{IsOf, stands, call_there}
use Rattle.act_order_plays.proofs.Along.{grows_not}

-- ---- limits

abbrev HasFew : ℕ × Submission → Type 0
HasFew call = length call.1.args ≤ 4

record Limited (h : History) : Type 0 where
  args : AllByRecursion HasFew h.submitted
  calls : (c : ℕ) → length (calls_of c h) ≤ 65536

limited_step : IsKept Limited
limited_step h (Submit c a method args) s accepted =
    let fits = submit_fits h c a method args accepted in
    let call : Submission = record { actor = a; method = method; args = args } in
    record { args = All_more HasFew h.submitted (c, call) s.args fits.0; calls = few_step h (Submit c a method args) s.calls accepted }
limited_step h (RunNext a c) s accepted = go (next_item a c h)
  where
    go : (o : Option RunItem) → Limited (after_run a c h o)
    go None = s
    go (Some item) = record { args = s.args; calls = s.calls }
limited_step h other s accepted = record { args = s.args; calls = s.calls }

limited : (casts : List ActorSpec) (events : List Event) → Limited (after_all (opening casts) events)
limited casts events = after_all_keeps Limited limited_step (opening casts) events (record { args = tt; calls = λ c. omega arith })

-- ---- what is answered took values

-- a call that answered a value had good arguments
good_args : (state : KindState) (items : List RunItem) (place : ℕ) (item : RunItem) {value : Value} → slice_get items place ≡ Some item →
    answer_at state items place ≡ Some (Ok value) → (values : List Value) × (values_of item.args ≡ Ok values)
good_args state [] place item at e = absurd (cc)
good_args state (first ∷ items) zero item {value} at e =
    let same : first ≡ item = cc in let answer : (after_item state first).1 ≡ Ok value = cc in
    subst (λ (i : RunItem). (values : List Value) × (values_of i.args ≡ Ok values)) same (go (values_of first.args) answer)
  where
    go : (r : Result (List Value) ℕ) → (step_of_call state first r).1 ≡ Ok value → (values : List Value) × (r ≡ Ok values)
    go (Ok values) e = (values, refl)
    go (Err k) e = absurd (cc)
good_args state (first ∷ items) (suc place) item {value} at e = good_args (after_item state first).0 items place item at e

good_at : (args : List Settled) (values : List Value) (i : ℕ) {x : Settled} → values_of args ≡ Ok values → slice_get args i ≡ Some x →
    (value : Value) × (x ≡ Good value)
good_at (Good value ∷ args) values zero e at = (value, cc)
good_at (Good value ∷ args) values (suc i) {x} e at = go (values_of args) refl e (λ rest is. good_at args rest i is at)
  where
    go : (r : Result (List Value) ℕ) → values_of args ≡ r → with_value value r ≡ Ok values →
        ((rest : List Value) → values_of args ≡ Ok rest → (value : Value) × (x ≡ Good value)) → (value : Value) × (x ≡ Good value)
    go (Ok rest) is e next = next rest is
    go (Err k) is e next = absurd (cc)
good_at more values i e at = absurd (cc)

good_kept : (j : ℕ) (kept : Option Answer) (value : Value) → settled_future j kept ≡ Good value → kept ≡ Some (Ok value)
good_kept j (Some (Ok other)) value e = let same : other ≡ value = cc in ap (λ v. Some (Ok v)) same
good_kept j more value e = absurd (cc)

-- a value is kept for no call but an answered one
value_answered : (o : Outcome) {kept : Option Answer} {value : Value} → IsKeptFor o kept → kept ≡ Some (Ok value) → o ≡ Answered
value_answered Answered is e = refl
value_answered Failed {value} is e = let bad : Some (Err is.0) ≡ Some (Ok value) = sym is.1 ∙ e in absurd (cc)
value_answered Died is e = let bad = sym is ∙ e in absurd (cc)
value_answered Open is e = elim is [
  | inl none ↦ let bad = sym none ∙ e in absurd (cc)
  | inr died ↦ let bad = sym died ∙ e in absurd (cc)
]

module _ (told : Told) (last : History) (whole : IsWhole told) (sound : IsSound last) (leaves : LeavesTold told last) where
  -- the arguments of a call by the answers that its caller keeps
  abbrev settled_for : ℕ → List Settled
  settled_for n = map (settle (kept_of (call_of told n).caller last)) (args_of told n)

  opened : (a place : ℕ) (item : RunItem) → slice_get (runs_of a last) place ≡ Some item → (o : Option KindState) →
      option_and_then (λ state. answer_at state (runs_of a last) place) o ≡ Some (Ok Nothing) → (values : List Value) × (values_of item.args ≡ Ok values)
  opened a place item at None e = absurd (cc)
  opened a place item at (Some state) e = good_args state (runs_of a last) place item at e

  -- as the call that ran had them
  settled_is : (n : ℕ) (item : RunItem) → n < length told.calls → IsAsSubmitted (λ c. calls_of c last) (λ c. kept_of c last) item → IsOf told n item →
      item.args ≡ settled_for n
  settled_is n item lt sub is =
      let c = (call_of told n).caller in
      let mine : slice_get (calls_of c last) item.future ≡ Some sub.call =
      subst (λ d. slice_get (calls_of d last) item.future ≡ Some sub.call) is.caller sub.at in
      let at = subst (λ k. slice_get (calls_of c last) k ≡ Some sub.call) is.future mine in
      let args : sub.call.args ≡ args_of told n =
      ap (λ (p : ℕ × List Arg). p.1) (call_there told last whole sound leaves n (grows_not last) lt at) in
      let turned : map (settle (kept_of item.caller last)) sub.call.args ≡ map (settle (kept_of c last)) sub.call.args =
      ap (λ d. map (settle (kept_of d last)) sub.call.args) is.caller in
      sub.args ∙ turned ∙ ap (map (settle (kept_of c last))) args

  -- those of a call that answered a value are values
  values_for : (n : ℕ) → n < length told.calls → (call_of told n).outcome ≡ Answered → (values : List Value) × (values_of (settled_for n) ≡ Ok values)
  values_for n lt answered =
      let kept = subst (λ o. IsKeptFor o (kept_for told n last)) answered (leaves.answers n lt) in
      let run = answers_are (call_of told n).caller (future_of told n) sound kept (λ e. cc) in
      let good = opened run.actor run.place run.item run.at (opening_of run.actor last) run.answered in
      let sub = All_at (IsAsSubmitted (λ c. calls_of c last) (λ c. kept_of c last)) (runs_of run.actor last) run.place
      ((consistent last sound).as_submitted run.actor) run.at in
      let settled = settled_is n run.item lt sub (record { caller = run.caller; future = run.future }) in
      (good.0, subst (λ l. values_of l ≡ Ok good.0) settled good.1)

  pub takes_answered : (n m : ℕ) → n < length told.calls → (call_of told n).outcome ≡ Answered → Contains (call_of told n).takes m →
      (call_of told m).outcome ≡ Answered
  takes_answered n m lt answered takes =
      let c = (call_of told n).caller in let k = future_of told m in let good = values_for n lt answered in
      let place = place_in (call_of told n).takes m takes in
      let fut : slice_get (args_of told n) place.0 ≡ Some (Fut k) =
      slice_get-map (λ j. Fut (future_of told j)) (call_of told n).takes place.0 ∙ ap (option_map (λ j. Fut (future_of told j))) place.1 in
      let there : slice_get (settled_for n) place.0 ≡ Some (settle (kept_of c last) (Fut k)) =
      slice_get-map (settle (kept_of c last)) (args_of told n) place.0 ∙ ap (option_map (settle (kept_of c last))) fut in
      let one = good_at (settled_for n) good.0 place.0 good.1 there in let early = (whole.takes n lt).each m takes in let less = early.before in
      let mine : kept_for told m last ≡ Some (Ok one.0) =
      subst (λ d. kept_at (kept_of d last) k ≡ Some (Ok one.0)) (sym early.caller) (good_kept k (kept_at (kept_of c last) k) one.0 one.1) in
      value_answered (call_of told m).outcome (leaves.answers m (omega arith)) mine

  module _ (limits : Limited last) where
    few_args : (n : ℕ) → n < length told.calls → length (call_of told n).takes ≤ 4
    few_args n lt =
        let c = (call_of told n).caller in let one = stands told last whole sound leaves n lt in
        let pair = map-slice_get (λ (s : ℕ × Submission). s.1) (filter (λ (s : ℕ × Submission). s.0 == c) last.submitted) (future_of told n) one.1 in
        let place = filter-slice_get (λ (s : ℕ × Submission). s.0 == c) last.submitted (future_of told n) pair.1 in
        let few : length pair.0.1.args ≤ 4 = All_at HasFew last.submitted place.place limits.args place.at in
        let args : pair.0.1.args ≡ args_of told n = ap (λ (s : Submission). s.args) pair.2 ∙ ap (λ (q : ℕ × List Arg). q.1) one.2 in
        let same : length pair.0.1.args ≡ length (call_of told n).takes =
        ap (λ l. length l) args ∙ length-map (call_of told n).takes (λ k. Fut (future_of told k)) in
        omega arith

    few_calls : (n : ℕ) → n < length told.calls → future_of told n < 65536
    few_calls n lt =
        let c = (call_of told n).caller in let one = stands told last whole sound leaves n lt in
        let less = slice_get_within (calls_of c last) (future_of told n) one.0 one.1 in
        let few = limits.calls c in omega arith

    fits : Fits told
    fits = record { few_args = few_args; few_calls = few_calls }

pub play_fits : (told : Told) (casts : List ActorSpec) (events : List Event) → IsWhole told → IsSound (after_all (opening casts) events) →
    LeavesTold told (after_all (opening casts) events) → Fits told
play_fits told casts events whole sound leaves = fits told (after_all (opening casts) events) whole sound leaves (limited casts events)
