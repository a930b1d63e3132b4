-- Handles and calls: what a copy, a number and a new call leave.
use Rattle.act_owner.proofs.Common.{◌≡◌, ℕ, zero, suc, ◌+◌, ◌-◌, ◌<◌, ◌≤◌, ◌==◌, Bool, true, false, List, [], ◌∷◌, ◌++◌, length, map, filter, Option, Some}
use Rattle.act_owner.proofs.Common.{None, is_some, Result, Ok, Err, OnOk, OnErr, inl, inr, refl, sym, ◌∙◌, ap, arith, slice_get, slice_set, option_map, nat_lt}
use Rattle.act_owner.proofs.Common.{map-append, length-append, length-map, take_all, take-append-le, filter-append, sum_by-cons, slice_get_past, eqb_tells}
use Rattle.act_owner.proofs.Common.{leb_tells, Method, Arg, Submission, HandleRefusal, NoActor, NoHandle, TooManyCalls, needs, number_of, copies_held}
use Rattle.act_owner.proofs.Common.{slice_get_last, Handle, change_handle, copies_in, given_in, given_of_all, number_answer, or_else, new_handle, with_copy}
use Rattle.act_owner.proofs.Common.{with_number, without_copy, given-with_copy, given-without_copy, given-with_number, given-with_number-other, given-opened}
use Rattle.act_owner.proofs.Common.{given_of_all-opened, Row, Entered, Call, call_at, numbered_call, submission_of, futures_of_args, answer_of_new_call}
use Rattle.act_owner.proofs.Common.{answered_row, entered_call, IsOwner}

-- a change that keeps the numbers given keeps their sum
given_of_all-changed : (a : ℕ) (change : Handle → Handle) → ((handle : Handle) → (change handle).given ≡ handle.given) → (handles : List Handle) →
    given_of_all (change_handle a change handles) ≡ given_of_all handles
given_of_all-changed a change same [] = refl
given_of_all-changed a change same (handle ∷ handles) =
    elim (eqb_tells handle.actor a) [
      | inl t ↦ rw t.0 (omega (
        arith,
        sum_by-cons (λ (h : Handle). h.given) handle handles,
        sum_by-cons (λ (h : Handle). h.given) (change handle) (change_handle a change handles),
        same handle,
        given_of_all-changed a change same handles,
      ))
      | inr f ↦ rw f.0 (omega (
        arith,
        sum_by-cons (λ (h : Handle). h.given) handle handles,
        sum_by-cons (λ (h : Handle). h.given) handle (change_handle a change handles),
        given_of_all-changed a change same handles,
      ))
    ]

-- handles of which the numbers given stay the same
same_given : {handles : List Handle} (new : List Handle) {calls : List Call} {rows : List Row} {entered : List Entered} → ((b : ℕ) →
    given_in b new ≡ given_in b handles) → given_of_all new ≡ given_of_all handles → IsOwner handles calls rows entered → IsOwner new calls rows entered
same_given new each all fine = record {
  numbered = fine.numbered;
  actors = fine.actors;
  waits = fine.waits;
  told = fine.told;
  given = λ b. each b ∙ fine.given b;
  given_in_all = all ∙ fine.given_in_all;
  few = fine.few;
}

-- a caller after a copy of a handle, or after none
pub copied_fine : (a : ℕ) (result : Result ℕ HandleRefusal) {handles : List Handle} (new : List Handle) {calls : List Call} {rows : List Row}
    {entered : List Entered} → OnOk result (new ≡ with_copy a handles) → OnErr result (new ≡ handles) → IsOwner handles calls rows entered →
    IsOwner new calls rows entered
copied_fine a (Ok copies) {handles} new {calls} {rows} {entered} ok err fine =
    rw ok (same_given (with_copy a handles) (λ b. given-with_copy a b handles)
    (given_of_all-changed a (λ (handle : Handle). record handle { copies = handle.copies + 1 }) (λ _. refl) handles) fine)
copied_fine a (Err refusal) new ok err fine = rw err fine

-- the same of a release
pub released_fine : (a : ℕ) (result : Result (Option ℕ) HandleRefusal) {handles : List Handle} (new : List Handle) {calls : List Call} {rows : List Row}
    {entered : List Entered} → OnOk result (new ≡ without_copy a handles) → OnErr result (new ≡ handles) → IsOwner handles calls rows entered →
    IsOwner new calls rows entered
released_fine a (Ok after) {handles} new {calls} {rows} {entered} ok err fine =
    rw ok (same_given (without_copy a handles) (λ b. given-without_copy a b handles)
    (given_of_all-changed a (λ (handle : Handle). record handle { copies = handle.copies - 1 }) (λ _. refl) handles) fine)
released_fine a (Err refusal) new ok err fine = rw err fine

-- a caller at its opening
pub opened_fine : (actors : List ℕ) → IsOwner (map new_handle actors) [] [] []
opened_fine actors = record {
  numbered = λ k. refl;
  actors = refl;
  waits = refl;
  told = refl;
  given = λ a. given-opened a actors;
  given_in_all = given_of_all-opened actors;
  few = omega arith;
}

-- what stands in a list with one item more
pub get_before : {X : Type 0} (xs : List X) (x : X) (k : ℕ) → k < length xs → slice_get (xs ++ x ∷ []) k ≡ slice_get xs k
get_before [] x k below = absurd (omega arith)
get_before (y ∷ xs) x zero below = refl
get_before (y ∷ xs) x (suc k) below = get_before xs x k (omega arith)

-- a last item that is written over is the new one, and those before it stay
pub set_last : {X : Type 0} (xs : List X) (x y : X) → slice_set (xs ++ x ∷ []) (length xs) y ≡ xs ++ y ∷ []
set_last [] x y = refl
set_last (z ∷ xs) x y = ap (λ rest. z ∷ rest) (set_last xs x y)

pub number_of-more : (a k : ℕ) (calls : List Submission) (call : Submission) → k ≤ length calls → number_of a k (calls ++ call ∷ []) ≡ number_of a k calls
number_of-more a k calls call within = ap (λ front. length (filter (λ c. c.actor == a) front)) (take-append-le k calls (call ∷ []) within)

-- an earlier call stays as it was
call_at-more : (calls : List Submission) (call : Submission) (k : ℕ) → k < length calls → call_at (calls ++ call ∷ []) k ≡ call_at calls k
call_at-more calls call k below =
    ap (option_map (numbered_call (calls ++ call ∷ []) k)) (get_before calls call k below)
    ∙ elim (slice_get calls k) as (λ found. option_map (numbered_call (calls ++ call ∷ []) k) found ≡ option_map (numbered_call calls k) found) [
      | None ↦ refl
      | Some c ↦ ap (λ n. Some (record { actor = c.actor; number = n; method = c.method; args = c.args })) (number_of-more c.actor k calls call (omega arith))
    ]

-- the new call
call_at-last : (calls : List Submission) (call : Call) → call.number ≡ number_of call.actor (length calls) calls →
    call_at (calls ++ submission_of call ∷ []) (length calls) ≡ Some call
call_at-last calls call number =
    ap (option_map (numbered_call (calls ++ submission_of call ∷ []) (length calls))) (slice_get_last calls (submission_of call))
    ∙ ap (λ n. Some (record { actor = call.actor; number = n; method = call.method; args = call.args }))
    (number_of-more call.actor (length calls) calls (submission_of call) (omega arith) ∙ sym number)

numbered_added : (calls : List Call) (call : Call) → ((k : ℕ) → slice_get calls k ≡ call_at (map submission_of calls) k) →
    call.number ≡ number_of call.actor (length (map submission_of calls)) (map submission_of calls) → (k : ℕ) →
    slice_get (calls ++ call ∷ []) k ≡ call_at (map submission_of calls ++ submission_of call ∷ []) k
numbered_added calls call before number k =
    let same : length (map submission_of calls) ≡ length calls = length-map calls submission_of in
    elim (leb_tells (suc k) (length calls)) [
      | inl t ↦ get_before calls call k t.1 ∙ before k ∙ sym (call_at-more (map submission_of calls) (submission_of call) k (omega (arith, t.1, same)))
      | inr f ↦ elim (eqb_tells k (length calls)) [
        | inl e ↦
            ap (slice_get (calls ++ call ∷ [])) e.1
            ∙ slice_get_last calls call
            ∙ sym (call_at-last (map submission_of calls) call number)
            ∙ ap (call_at (map submission_of calls ++ submission_of call ∷ [])) (same ∙ sym e.1)
        | inr n ↦
            slice_get_past (calls ++ call ∷ []) k (omega (arith, f.1, n.1, length-append calls (call ∷ [])))
            ∙ sym (ap (option_map (numbered_call (map submission_of calls ++ submission_of call ∷ []) k)) (slice_get_past (map submission_of
            calls ++ submission_of call ∷ []) k (omega (arith, f.1, n.1, same, length-append (map submission_of calls) (submission_of call ∷ [])))))
      ]
    ]

-- how many calls go to an actor, with one call more
count_same : (a : ℕ) (calls : List Submission) (call : Submission) → call.actor ≡ a →
    length (filter (λ c. c.actor == a) (calls ++ call ∷ [])) ≡ length (filter (λ c. c.actor == a) calls) + 1
count_same a calls call same =
    elim (eqb_tells call.actor a) [
      | inl t ↦ ap length (filter-append (λ (c : Submission). c.actor == a) calls (call ∷ [])) ∙
          length-append (filter (λ (c : Submission). c.actor == a) calls) (filter (λ (c : Submission). c.actor == a) (call ∷ [])) ∙ rw t.0 refl
      | inr f ↦ absurd (f.1 same)
    ]

count_other : (a : ℕ) (calls : List Submission) (call : Submission) → (call.actor ≡ a → ⊥) →
    length (filter (λ c. c.actor == a) (calls ++ call ∷ [])) ≡ length (filter (λ c. c.actor == a) calls)
count_other a calls call other =
    elim (eqb_tells call.actor a) [
      | inl t ↦ absurd (other t.1)
      | inr f ↦ ap length (filter-append (λ (c : Submission). c.actor == a) calls (call ∷ [])) ∙
          length-append (filter (λ (c : Submission). c.actor == a) calls) (filter (λ (c : Submission). c.actor == a) (call ∷ [])) ∙ rw f.0 (omega arith)
    ]

given_added : (a b : ℕ) (handles : List Handle) (calls : List Submission) (call : Submission) → call.actor ≡ a → is_some (copies_in a handles) ≡ true →
    ((c : ℕ) → given_in c handles ≡ length (filter (λ s. s.actor == c) calls)) →
    given_in b (with_number a handles) ≡ length (filter (λ s. s.actor == b) (calls ++ call ∷ []))
given_added a b handles calls call here listed given =
    elim (eqb_tells a b) [
      | inl t ↦ rw (← t.1) (given-with_number a handles listed ∙ ap (λ n. n + 1) (given a) ∙ sym (count_same a calls call here))
      | inr f ↦ given-with_number-other a b handles f.1 ∙ given b ∙ sym (count_other b calls call (λ e. f.1 (sym here ∙ e)))
    ]

-- what a number that was given tells
number_cases : (listed held room : Bool) (given n : ℕ) → Ok n ≡ or_else (needs listed NoActor (needs held NoHandle (needs room TooManyCalls None))) given →
    (listed ≡ true) × (room ≡ true) × (n ≡ given)
number_cases true true true given n e = (refl, refl, cc e)
number_cases true true false given n e = absurd (cc e)
number_cases true false room given n e = absurd (cc e)
number_cases false held room given n e = absurd (cc e)

number_facts : (a n : ℕ) (handles : List Handle) → Ok n ≡ number_answer a handles →
    (is_some (copies_in a handles) ≡ true) × (given_of_all handles < 65536) × (n ≡ given_in a handles)
number_facts a n handles e =
    let facts = number_cases (is_some (copies_in a handles)) (nat_lt 0 (copies_held (copies_in a handles))) (nat_lt (given_of_all handles) 65536)
    (given_in a handles) n e in
    (facts.0, elim (leb_tells (suc (given_of_all handles)) 65536) [ inl t ↦ t.1 | inr f ↦ absurd (cc (f.0, facts.1)) ], facts.2)

-- a new call has an answer where its actor is dead
dead_answered : (is_dead : Bool) → is_dead ≡ is_some (answer_of_new_call is_dead)
dead_answered true = refl
dead_answered false = refl

-- a caller after a new call
added_fine : (a n : ℕ) (method : Method) (args : List Arg) (is_dead : Bool) (handles : List Handle) (calls : List Call) (rows : List Row)
    (entered : List Entered) → IsOwner handles calls rows entered → Ok n ≡ number_answer a handles → given_of_all (with_number a handles) ≡
    given_of_all handles + 1 → IsOwner (with_number a handles) (calls ++ record { actor = a; number = n; method = method; args = args } ∷ [])
    (rows ++ answered_row a is_dead ∷ []) (entered ++ entered_call args is_dead ∷ [])
added_fine a n method args is_dead handles calls rows entered fine is counted =
    let call : Call = record { actor = a; number = n; method = method; args = args } in
    let facts = number_facts a n handles is in let subs = map submission_of calls in
    let more : map submission_of (calls ++ call ∷ []) ≡ subs ++ submission_of call ∷ [] = map-append submission_of calls (call ∷ []) in
    let number : n ≡ number_of a (length subs) subs =
    facts.2 ∙ fine.given a ∙ ap (λ front. length (filter (λ c. c.actor == a) front)) (sym (take_all (length subs) subs (omega arith))) in
    record {
      numbered = λ k. numbered_added calls call fine.numbered number k ∙ ap (λ l. call_at l k) (sym more);
      actors = map-append (λ (row : Row). row.actor) rows (answered_row a is_dead ∷ []) ∙ ap (λ l. l ++ a ∷ []) fine.actors ∙
          sym (map-append (λ (c : Call). c.actor) calls (call ∷ []));
      waits = map-append (λ (c : Entered). c.futures) entered (entered_call args is_dead ∷ []) ∙ ap (λ l. l ++ futures_of_args args ∷ []) fine.waits ∙
          sym (map-append (λ (c : Call). futures_of_args c.args) calls (call ∷ []));
      told = map-append (λ (c : Entered). c.answered) entered (entered_call args is_dead ∷ []) ∙ ap (λ l. l ++ is_dead ∷ []) fine.told ∙
          ap (λ b. map (λ (row : Row). is_some row.answer) rows ++ b ∷ []) (dead_answered is_dead) ∙
          sym (map-append (λ (row : Row). is_some row.answer) rows (answered_row a is_dead ∷ []));
      given = λ b. given_added a b handles subs (submission_of call) refl facts.0 fine.given ∙ ap (λ l. length (filter (λ c. c.actor == b) l)) (sym more);
      given_in_all = omega (arith, counted, fine.given_in_all, length-append calls (call ∷ []));
      few = omega (arith, facts.1, fine.given_in_all, length-append calls (call ∷ []));
    }

-- the same, of parts that were changed one by one
pub submitted_fine : (a : ℕ) {n : ℕ} (method : Method) (args : List Arg) (is_dead : Bool) {handles : List Handle} (new : List Handle)
    {calls calls1 calls2 : List Call} {rows rows1 rows2 : List Row} {entered entered1 entered2 : List Entered} → IsOwner handles calls rows entered →
    Ok n ≡ number_answer a handles → new ≡ with_number a handles → given_of_all new ≡ given_of_all handles + 1 → calls1 ≡ calls → rows1 ≡ rows →
    entered1 ≡ entered → calls2 ≡ calls1 ++ record { actor = a; number = n; method = method; args = args } ∷ [] → rows2 ≡ rows1 ++ answered_row a is_dead ∷ [] →
    entered2 ≡ entered1 ++ entered_call args is_dead ∷ [] → IsOwner new calls2 rows2 entered2
submitted_fine a {n} method args is_dead {handles} new {calls} {rows}
    {entered} fine is numbers counted calls_same rows_same entered_same more_calls more_rows more_entered =
    rw (numbers, more_calls, more_rows, more_entered, calls_same, rows_same, entered_same)
    (added_fine a n method args is_dead handles calls rows entered fine is (ap given_of_all (sym numbers) ∙ counted))
