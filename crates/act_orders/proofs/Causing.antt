-- The slots have each cause of what happens, and nothing else.
use Rattle.act_orders.proofs.Common.{◌≡◌, ◌≢◌, ℕ, zero, suc, ◌+◌, ◌-◌, ◌*◌, ◌^◌, ◌<◌, ◌≤◌, inl, inr, List, [], ◌∷◌, length, map, get_or, refl, sym, ap}
use Rattle.act_orders.proofs.Common.{subst, ◌∙◌, arith, Option, Some, None, slice_get, option_map, cond, eqb, eq-eqb, Contains, eqb-true, length-map}
use Rattle.act_orders.proofs.Common.{slice_get_within, slice_get-get_or, get_or_from_slice_get, slice_get-map, slice_get_past, cond_some, same_Some, Happening}
use Rattle.act_orders.proofs.Common.{Submitted, Ran, Answered, Outcome, Run, Told, call_of, calls_run, Happened, IsCause, RunsBefore, RunsInTurn, SameCaller}
use Rattle.act_orders.proofs.Common.{Needs, IsWhole, HasPlaces, IsPlace, place_of, run_of, number_of, run_before, call_before, first_cause, second_cause}
use Rattle.act_orders.proofs.Common.{run_answered, last_call, taken_by, slots, graph_of, call_in, place_in, stands_in}
use Rattle.act_orders.specs.declared.told.Outcome.TheVariants as out
use Rattle.act_orders.proofs.Lists.{has_before, same_or_not}
use Rattle.act_orders.proofs.Breaking.{call_at}
use Rattle.act_orders.proofs.Lasting.{is_last, last_found}
use Rattle.act_orders.proofs.Running.{run_at, less_or_more}

-- ---- a slot past the first two

pub slot_past : {A : Type 0} (a b : A) (ys : List A) (n : ℕ) → n ≢ 0 → n ≢ 1 → slice_get (a ∷ (b ∷ ys)) n ≡ slice_get ys (n - 2)
slot_past a b ys zero p q = absurd (p refl)
slot_past a b ys (suc zero) p q = absurd (q refl)
slot_past a b ys (suc (suc n)) p q = let e : n ≡ suc (suc n) - 2 = omega arith in ap (λ k. slice_get ys k) e

pub taken_some : (told : Told) (places : List (Option ℕ)) (h : Happening) (n : ℕ) {k : ℕ} → n ≢ 0 → n ≢ 1 → n - 2 < length (taken_by told h) →
    k ≡ get_or (taken_by told h) (n - 2) 0 → Some (Some (Answered k)) ≡ slice_get (slots told places h) n
taken_some told places h n {k} p q lt e =
    let there : slice_get (taken_by told h) (n - 2) ≡ Some k =
    slice_get-get_or (taken_by told h) (n - 2) 0 lt ∙ ap Some (sym e) in
    sym (slot_past (first_cause told places h) (second_cause told h) (map (λ j. Some (Answered j)) (taken_by told h)) n p q ∙
    slice_get-map (λ j. Some (Answered j)) (taken_by told h) (n - 2) ∙ ap (λ o. option_map (λ j. Some (Answered j)) o) there)

pub taken_none : (told : Told) (places : List (Option ℕ)) (h : Happening) (n : ℕ) → n ≢ 0 → n ≢ 1 →
    length (taken_by told h) ≤ n - 2 → None ≡ slice_get (slots told places h) n
taken_none told places h n p q far =
    sym (slot_past (first_cause told places h) (second_cause told h) (map (λ j. Some (Answered j)) (taken_by told h)) n p q ∙ slice_get-map
    (λ j. Some (Answered j)) (taken_by told h) (n - 2) ∙ ap (λ o. option_map (λ j. Some (Answered j)) o) (slice_get_past (taken_by told h) (n - 2) far))

-- a call that ran is one of the calls
pub ran_within : {told : Told} (n : ℕ) → IsWhole told → Happened told (Ran n) → n < length told.calls
ran_within {told} n whole has =
    let f = place_in (calls_run told) n has in
    let lt : f.0 < length told.runs = omega (arith, slice_get_within (calls_run told) f.0 n f.1, length-map told.runs (λ (run : Run). run.call)) in
    let same : Some (run_of told f.0).call ≡ Some n = sym (call_at told f.0 (run_of told f.0) (run_at told f.0 lt)) ∙ f.1 in
    let is : (run_of told f.0).call ≡ n = same_Some _ _ same in subst (λ k. k < length told.calls) is (whole.runs f.0 lt)

-- ---- what stands in a slot is a cause

mapped : (o : Option ℕ) (u : Happening) → option_map (λ j. Some (Answered j)) o ≡ Some (Some u) → (m : ℕ) × (o ≡ Some m) × (Answered m ≡ u)
mapped None u e = absurd (cc)
mapped (Some m) u e = (m, refl, same_Some (Answered m) u (same_Some (Some (Answered m)) (Some u) e))

taken_cause : (told : Told) (v : Happening) (m : ℕ) → Contains (taken_by told v) m → IsCause told (Answered m) v
taken_cause told (Answered n) m has = absurd (omega (arith, has.1))
taken_cause told v m has = has

submitted_before : (told : Told) (n : ℕ) (u : Happening) → call_before told n ≡ Some u → IsCause told u (Submitted n)
submitted_before told zero u e = absurd (cc)
submitted_before told (suc n) u e =
    let h = cond_some (eqb (call_of told n).caller (call_of told (suc n)).caller) (Submitted n) u e in
    let one : n + 1 ≡ suc n = omega arith in
    let cause : IsCause told (Submitted n) (Submitted (suc n)) = (one, eqb-true _ _ h.0) in subst (λ w. IsCause told w (Submitted (suc n))) h.1 cause

ran_before : (told : Told) (n : ℕ) (o : Option ℕ) (u : Happening) → IsPlace told.runs n o → run_before told o ≡ Some u → IsCause told u (Ran n)
ran_before told n None u at e = absurd (cc)
ran_before told n (Some zero) u at e = absurd (cc)
ran_before told n (Some (suc i)) u at e =
    let h = cond_some (eqb (run_of told i).actor (run_of told (suc i)).actor) (Ran (run_of told i).call) u e in
    let next : Run = record { actor = at.0; call = n } in let there : slice_get told.runs (suc i) ≡ Some next = at.1 in
    let lt : suc i < length told.runs = slice_get_within told.runs (suc i) next there in
    let is : run_of told (suc i) ≡ next = get_or_from_slice_get told.runs (suc i) next (record { actor = 0; call = 0 }) there in
    let same : (run_of told i).actor ≡ at.0 = eqb-true _ _ h.0 ∙ ap (λ (r : Run). r.actor) is in
    let one : suc i ≡ i + 1 = omega arith in
    let cause : IsCause told (Ran (run_of told i).call) (Ran n) = (
      i,
      (run_of told i).actor,
      run_at told i (omega (arith, lt)),
      ap (λ k. slice_get told.runs k) (sym one) ∙ there ∙ ap (λ a. Some (record { actor = a; call = n })) (sym same),
    ) in
    subst (λ w. IsCause told w (Ran n)) h.1 cause

ran_last : (o : Option ℕ) (u : Happening) → option_map (λ m. Ran m) o ≡ Some u → (m : ℕ) × (o ≡ Some m) × (Ran m ≡ u)
ran_last None u e = absurd (cc)
ran_last (Some m) u e = (m, refl, same_Some (Ran m) u e)

answered_by : (told : Told) (n : ℕ) (o : Outcome) (u : Happening) → (call_of told n).outcome ≡ o → run_answered told o n ≡ Some u → IsCause told u (Answered n)
answered_by told n out.Died u is e =
    let last = ran_last (last_call told.runs (call_of told n).actor) u e in
    subst (λ w. IsCause told w (Answered n)) last.2
    (subst (λ o. RunsBefore told o last.0 n) (sym is) (is_last told (call_of told n).actor last.0 last.1))
answered_by told n outcome u is e = subst (λ w. IsCause told w (Answered n)) (same_Some (Ran n) u e) (subst (λ o. RunsBefore told o n n) (sym is) refl)

first_is : (told : Told) {places : List (Option ℕ)} (v u : Happening) → HasPlaces told told.runs places → Happened told v →
    IsWhole told → first_cause told places v ≡ Some u → IsCause told u v
first_is told (Submitted n) u at v whole e = submitted_before told n u e
first_is told {places} (Ran n) u at v whole e = ran_before told n (place_of places n) u (at.place n (ran_within n whole v)) e
first_is told (Answered n) u at v whole e =
    let cause : IsCause told (Submitted n) (Answered n) = refl in subst (λ w. IsCause told w (Answered n)) (same_Some (Submitted n) u e) cause

second_is : (told : Told) (v u : Happening) → second_cause told v ≡ Some u → IsCause told u v
second_is told (Submitted n) u e = absurd (cc)
second_is told (Ran n) u e = let cause : IsCause told (Submitted n) (Ran n) = refl in subst (λ w. IsCause told w (Ran n)) (same_Some (Submitted n) u e) cause
second_is told (Answered n) u e = answered_by told n (call_of told n).outcome u refl e

pub needs_cause : {told : Told} {places : List (Option ℕ)} (v u : Happening) → HasPlaces told told.runs places → IsWhole told →
    Happened told v → Needs (graph_of told places) v u → IsCause told u v
needs_cause {told} {places} v u at whole is needs = by_slot needs.0 needs.1
  where
    by_slot : (k : ℕ) → slice_get (slots told places v) k ≡ Some (Some u) → IsCause told u v
    by_slot zero e = first_is told v u at is whole (same_Some _ _ e)
    by_slot (suc zero) e = second_is told v u (same_Some _ _ e)
    by_slot (suc (suc j)) e =
        let m = mapped (slice_get (taken_by told v) j) u (sym (slice_get-map (λ j. Some (Answered j)) (taken_by told v) j) ∙ e) in
        subst (λ w. IsCause told w v) m.2 (taken_cause told v m.0 (stands_in (taken_by told v) j m.1))

-- ---- each cause stands in a slot

in_taken : (told : Told) (places : List (Option ℕ)) (v : Happening) (m : ℕ) → Contains (taken_by told v) m → Needs (graph_of told places) v (Answered m)
in_taken told places v m has =
    let f = place_in (taken_by told v) m has in
    (suc (suc f.0), slice_get-map (λ j. Some (Answered j)) (taken_by told v) f.0 ∙ ap (λ o. option_map (λ j. Some (Answered j)) o) f.1)

call_slot : (told : Told) (m n : ℕ) → m + 1 ≡ n → SameCaller told m n → call_before told n ≡ Some (Submitted m)
call_slot told m zero e same = absurd (omega arith)
call_slot told m (suc n) e same =
    let is : m ≡ n = omega arith in
    let here : (call_of told n).caller ≡ (call_of told (suc n)).caller = ap (λ k. (call_of told k).caller) (sym is) ∙ same in
    ap (λ b. cond b (Some (Submitted n)) None) (eq-eqb _ _ here) ∙ ap (λ k. Some (Submitted k)) (sym is)

-- a call that ran at most once ran at its place
once_there : (told : Told) (i j : ℕ) {one other : Run} → RunsInTurn told → slice_get told.runs i ≡ Some one →
    slice_get told.runs j ≡ Some other → one.call ≡ other.call → j < i → ⊥
once_there told i j {one} {other} turn at there same lt =
    (turn i one at).once (has_before i (calls_run told) j (call_at told j other there ∙ ap Some (sym same)) lt)

run_slot : (told : Told) (i a m n : ℕ) (o : Option ℕ) → RunsInTurn told → IsPlace told.runs n o → slice_get told.runs i ≡ Some
    (record { actor = a; call = m }) → slice_get told.runs (i + 1) ≡ Some (record { actor = a; call = n }) → run_before told o ≡ Some (Ran m)
run_slot told i a m n None turn at one next = absurd (at (stands_in (calls_run told) (i + 1) (call_at told (i + 1) (record { actor = a; call = n }) next)))
run_slot told i a m n (Some zero) turn at one next = absurd (once_there told (i + 1) 0 turn next at.1 refl (omega arith))
run_slot told i a m n (Some (suc j)) turn at one next = elim (same_or_not j i) [
  | inr d ↦ elim (less_or_more j i d) [
    | inl less ↦ absurd (once_there told (i + 1) (suc j) turn next at.1 refl (omega (arith, less)))
    | inr more ↦ absurd (once_there told (suc j) (i + 1) turn at.1 next refl (omega (arith, more)))
  ]
  | inl e ↦
      let first : run_of told j ≡ record { actor = a; call = m } =
      ap (run_of told) e ∙ get_or_from_slice_get told.runs i (record { actor = a; call = m }) (record { actor = 0; call = 0 }) one in
      let one' : suc j ≡ i + 1 = omega (arith, e) in
      let second : run_of told (suc j) ≡ record { actor = a; call = n } =
      ap (run_of told) one' ∙ get_or_from_slice_get told.runs (i + 1) (record { actor = a; call = n }) (record { actor = 0; call = 0 }) next in
      let same : (run_of told j).actor ≡ (run_of told (suc j)).actor =
      ap (λ (r : Run). r.actor) first ∙ sym (ap (λ (r : Run). r.actor) second) in
      ap (λ b. cond b (Some (Ran (run_of told j).call)) None) (eq-eqb _ _ same) ∙ ap (λ (r : Run). Some (Ran r.call)) first
]

answer_slot : (told : Told) (o : Outcome) (m n : ℕ) → RunsBefore told o m n → run_answered told o n ≡ Some (Ran m)
answer_slot told out.Died m n before = ap (λ o. option_map (λ k. Ran k) o) (last_found told (call_of told n).actor m before)
answer_slot told o m n before = ap (λ k. Some (Ran k)) (sym before)

pub cause_needed : {told : Told} {places : List (Option ℕ)} (u v : Happening) → HasPlaces told told.runs places → IsWhole told →
    RunsInTurn told → Happened told v → IsCause told u v → Needs (graph_of told places) v u
cause_needed {told} (Submitted m) (Submitted n) at whole turn is cause = (0, ap Some (call_slot told m n cause.0 cause.1))
cause_needed (Ran m) (Submitted n) at whole turn is cause = absurd cause
cause_needed (Submitted m) (Ran n) at whole turn is cause = (1, ap (λ k. Some (Some (Submitted k))) (sym cause))
cause_needed {told} {places} (Ran m) (Ran n) at whole turn is cause =
    (0, ap Some (run_slot told cause.0 cause.1 m n (place_of places n) turn (at.place n (ran_within n whole is)) cause.2 cause.3))
cause_needed (Submitted m) (Answered n) at whole turn is cause = (0, ap (λ k. Some (Some (Submitted k))) (sym cause))
cause_needed {told} (Ran m) (Answered n) at whole turn is cause = (1, ap Some (answer_slot told (call_of told n).outcome m n cause))
cause_needed (Answered m) (Answered n) at whole turn is cause = absurd cause
cause_needed {told} {places} (Answered m) v at whole turn is cause = in_taken told places v m cause

-- no two happenings have one number
pub numbers_apart : (v w : Happening) → number_of v ≡ number_of w → v ≡ w
numbers_apart (Submitted m) (Submitted n) e = let s : m ≡ n = omega arith in ap (λ k. Submitted k) s
numbers_apart (Ran m) (Ran n) e = let s : m ≡ n = omega arith in ap (λ k. Ran k) s
numbers_apart (Answered m) (Answered n) e = let s : m ≡ n = omega arith in ap (λ k. Answered k) s
numbers_apart v w e = absurd (omega arith)

-- what ran before an answer did run
pub ran_before_answer : (told : Told) (o : Outcome) (m n : ℕ) → RunsBefore told o m n → (o ≢ out.Died → Happened told (Ran n)) → Happened told (Ran m)
ran_before_answer told out.Died m n before ran =
    stands_in (calls_run told) before.place (call_at told before.place (record { actor = (call_of told n).actor; call = m }) before.at)
ran_before_answer told o m n before ran = subst (λ k. Happened told (Ran k)) (sym before) (ran (λ e. cc))

-- so it is one of the calls
before_answer : (told : Told) (o : Outcome) (m n : ℕ) → IsWhole told → n < length told.calls → RunsBefore told o m n → m < length told.calls
before_answer told out.Died m n whole lt before = ran_within m whole (ran_before_answer told out.Died m n before (λ d. absurd (d refl)))
before_answer told o m n whole lt before = omega arith

-- a cause of what happened is a happening of one of the calls
pub cause_within : {told : Told} (u v : Happening) → IsWhole told → Happened told v → IsCause told u v → call_in u < length told.calls
cause_within (Submitted m) (Submitted n) whole is cause = omega (arith, is, cause.0)
cause_within (Ran m) (Submitted n) whole is cause = absurd cause
cause_within (Answered m) (Submitted n) whole is cause = omega (arith, is, ((whole.waits n is).each m cause).before)
cause_within {told} (Submitted m) (Ran n) whole is cause = subst (λ k. k < length told.calls) (sym cause) (ran_within n whole is)
cause_within {told} (Ran m) (Ran n) whole is cause =
    ran_within m whole (stands_in (calls_run told) cause.0 (call_at told cause.0 (record { actor = cause.1; call = m }) cause.2))
cause_within {told} (Answered m) (Ran n) whole is cause = let lt = ran_within n whole is in omega (arith, lt, ((whole.takes n lt).each m cause).before)
cause_within {told} (Submitted m) (Answered n) whole is cause = subst (λ k. k < length told.calls) (sym cause) is.0
cause_within {told} (Ran m) (Answered n) whole is cause = before_answer told (call_of told n).outcome m n whole is.0 cause
cause_within (Answered m) (Answered n) whole is cause = absurd cause

-- what happened is a happening of one of the calls
pub happened_within : {told : Told} (v : Happening) → IsWhole told → Happened told v → call_in v < length told.calls
happened_within (Submitted n) whole is = is
happened_within {told} (Ran n) whole is = ran_within n whole is
happened_within (Answered n) whole is = is.0

pub number_below : (told : Told) (v : Happening) → call_in v < length told.calls → number_of v < 3 * length told.calls
number_below told (Submitted n) lt = omega arith
number_below told v lt = omega arith

-- there aren't many slots
pub few_slots : (told : Told) (places : List (Option ℕ)) (v : Happening) → IsWhole told → call_in v < length told.calls → length (slots told places v) < 2 ^ 33
few_slots told places v whole lt = few (taken_by told v) (short v lt)
  where
    short : (w : Happening) → call_in w < length told.calls → length (taken_by told w) < 2 ^ 32
    short (Submitted n) less = (whole.waits n less).few
    short (Ran n) less = (whole.takes n less).few
    short (Answered n) less = omega arith

    few : (ks : List ℕ) → length ks < 2 ^ 32 → length (first_cause told places v ∷ (second_cause told v ∷ map (λ k. Some (Answered k)) ks)) < 2 ^ 33
    few ks less = let e = length-map ks (λ k. Some (Answered k)) in omega (arith, e, less)

-- what stands in a slot is a happening of one of the calls
pub needed_within : {told : Told} {places : List (Option ℕ)} (v : Happening) {u : Happening} (k : ℕ) → HasPlaces told told.runs places → IsWhole told →
    Happened told v → slice_get (slots told places v) k ≡ Some (Some u) → call_in u < length told.calls
needed_within {told} {places} v {u} k at whole is e = cause_within u v whole is (needs_cause v u at whole is (k, e))
