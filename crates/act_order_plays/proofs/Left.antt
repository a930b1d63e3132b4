-- What is left, call by call: where a call stands, and which calls ran.
use Rattle.act_order_plays.proofs.Common.{◌≡◌, ℕ, ◌<◌, List, length, map, filter, Some, slice_get, sym, ap, subst, ◌∙◌, option_map, Contains, eqb-true}
use Rattle.act_order_plays.proofs.Common.{slice_get-map, slice_get_within, get_or_from_slice_get, Arg, RunItem, Submission, History, calls_of, runs_of}
use Rattle.act_order_plays.proofs.Common.{slice_get_front, Grows, calls_grow, IsSound, filter-slice_get, map-slice_get, held_submission, Run, Told, call_of}
use Rattle.act_order_plays.proofs.Common.{calls_run, IsWhole, submission_key, call_key, item_key, run_key, LeavesTold, calls_by, runs_by, future_of, stands_in}
use Rattle.act_order_plays.proofs.Fronts.{IsRunAt, is_run_of, call_at}
use Rattle.act_order_plays.proofs.Keeping.{same_call}

-- an item of the one list, and that of the other with the same key
pub keys_at : {A B K : Type 0} (f : A → K) (g : B → K) (xs : List A) (ys : List B) (i : ℕ) (x : A) → map f xs ≡ map g ys → slice_get xs i ≡ Some x →
    (y : B) × (slice_get ys i ≡ Some y) × (f x ≡ g y)
keys_at {K = K} f g xs ys i x same at =
    let one = map-slice_get g ys i (ap (λ l. slice_get l i) (sym same) ∙ slice_get-map f xs i ∙ ap (option_map f) at) in (one.0, one.1, sym one.2)

-- the run of a call, by its actor
pub ran_by : (told : Told) (a j n : ℕ) → slice_get (runs_by told a) j ≡ Some n → (p : ℕ) × (run : Run) × (run.actor ≡ a) × IsRunAt told n p run
ran_by told a j n at =
    let one = map-slice_get (λ (run : Run). run.call) (filter (is_run_of a) told.runs) j at in
    let place = filter-slice_get (is_run_of a) told.runs j one.1 in
    (place.place, one.0, eqb-true one.0.actor a place.passes, record { at = place.at; call = one.2 })

-- a call that has a run is among those that ran
pub run_happened : (told : Told) (n p : ℕ) {run : Run} → IsRunAt told n p run → Contains (calls_run told) n
run_happened told n p {run} is =
    let at : slice_get (calls_run told) p ≡ Some run.call =
    slice_get-map (λ (r : Run). r.call) told.runs p ∙ ap (option_map (λ (r : Run). r.call)) is.at in
    stands_in (calls_run told) p (at ∙ ap (λ k. Some k) is.call)

-- where what is told is whole, a call that has a run is one of its calls
pub run_call : (told : Told) (n p : ℕ) (run : Run) → IsWhole told → IsRunAt told n p run → n < length told.calls
run_call told n p run whole is =
    subst (λ k. k < length told.calls)
    (ap (λ (r : Run). r.call) (get_or_from_slice_get told.runs p run (record { actor = 0; call = 0 }) is.at) ∙ is.call)
    (whole.runs p (slice_get_within told.runs p run is.at))

-- the item is the run of this call
pub record IsOf (told : Told) (n : ℕ) (item : RunItem) : Type 0 where
  pub caller : item.caller ≡ (call_of told n).caller
  pub future : item.future ≡ future_of told n

is_of : (told : Told) (n : ℕ) (item : RunItem) → item_key item ≡ run_key told n → IsOf told n item
is_of told n item same = record { caller = ap (λ (p : ℕ × ℕ). p.0) same; future = ap (λ (p : ℕ × ℕ). p.1) same }

module _ (told : Told) (last : History) (whole : IsWhole told) (sound : IsSound last) (leaves : LeavesTold told last) where
  -- a call stands at its future
  pub stands : (n : ℕ) → n < length told.calls →
      (call : Submission) × (slice_get (calls_of (call_of told n).caller last) (future_of told n) ≡ Some call) × (submission_key call ≡ call_key told n)
  stands n lt =
      let c = (call_of told n).caller in
      let one = keys_at (call_key told) submission_key (calls_by told c) (calls_of c last) (future_of told n) n (sym (leaves.calls c)) (call_at told n lt) in
      (one.0, one.1, sym one.2)

  -- and it is to its actor, with its arguments, in each history before
  pub call_there : {h : History} (n : ℕ) {call : Submission} → Grows h last → n < length told.calls →
      slice_get (calls_of (call_of told n).caller h) (future_of told n) ≡ Some call → submission_key call ≡ call_key told n
  call_there {h} n {call} grows lt at =
      let c = (call_of told n).caller in
      let there = slice_get_front (calls_of c h) (calls_of c last) (future_of told n) (calls_grow c grows) at in
      let one = stands n lt in let both : Some call ≡ Some one.0 = sym there ∙ one.1 in let same : call ≡ one.0 = cc in ap submission_key same ∙ one.2

  -- the runs of an actor and its run list
  pub item_at : (a j n : ℕ) → slice_get (runs_by told a) j ≡ Some n → (item : RunItem) × (slice_get (runs_of a last) j ≡ Some item) × IsOf told n item
  item_at a j n at =
      let one = keys_at (run_key told) item_key (runs_by told a) (runs_of a last) j n (sym (leaves.runs a)) at in (one.0, one.1, is_of told n one.0 (sym one.2))

  -- where an item of a run list is the run of a call, the call is at the item's place among those told of the actor
  pub run_told : (a j n : ℕ) (item : RunItem) → n < length told.calls → slice_get (runs_of a last) j ≡ Some item → IsOf told n item →
      slice_get (runs_by told a) j ≡ Some n
  run_told a j n item lt at is =
      let one = keys_at item_key (run_key told) (runs_of a last) (runs_by told a) j item (leaves.runs a) at in
      let it = is_of told one.0 item one.2 in let run = ran_by told a j one.0 one.1 in
      let same = same_call told one.0 n (run_call told one.0 run.0 run.1 whole run.3) lt (sym it.caller ∙ is.caller) (sym it.future ∙ is.future) in
      subst (λ k. slice_get (runs_by told a) j ≡ Some k) same one.1

  -- the call that an item tells went to that actor
  pub item_here : (h : History) (a j n : ℕ) {item : RunItem} → Grows h last → IsSound h → n < length told.calls → slice_get (runs_of a h) j ≡ Some item →
      IsOf told n item → (call_of told n).actor ≡ a
  item_here h a j n {item} grows fine lt at is =
      let held = held_submission h a (future_of told n) j fine.order at is.caller is.future in
      let key = call_there n grows lt held.1 in sym (ap (λ (p : ℕ × List Arg). p.0) key) ∙ held.2
