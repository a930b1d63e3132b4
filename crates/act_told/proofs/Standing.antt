-- Where calls, runs, callers and actors stand among those that are told.
use Rattle.act_told.proofs.Common.{◌≡◌, ℕ, zero, suc, ◌+◌, ◌<◌, ◌==◌, inl, inr, Bool, true, false, cond, List, [], ◌∷◌, ◌++◌, length, map, filter, find, get_or}
use Rattle.act_told.proofs.Common.{slice_get, Some, option_map, refl, ap, sym, ◌∙◌, arith, eq-eqb, ne_eqb, eqb-true, position_or_len_is, passes_at_first}
use Rattle.act_told.proofs.Common.{length-map, slice_get_within, slice_get-get_or, slice_get-map, get_or_from_slice_get, one_to, RunItem, Submission, kept_at}
use Rattle.act_told.proofs.Common.{slice_get_more, OwnerView, EndView, end_id, end_log, owner_of, Call, Run, actor_place, outcome_of, start_of, call_told}
use Rattle.act_told.proofs.Common.{calls_from, calls_told, run_told, runs_told, place_behind}
use Rattle.act_told.proofs.Counting.{two_parts, once_among}
use Rattle.act_told.proofs.Going.{length_calls}

-- ---- items with numbers of their own

-- two items of one number stand at one place
pub record Apart {A : Type 0} (number : A → ℕ) (xs : List A) : Type 0 where
  pub one : (i j : ℕ) (x y : A) → slice_get xs i ≡ Some x → slice_get xs j ≡ Some y → number x ≡ number y → i ≡ j

-- no two items have one number, where their numbers are those from 1 to a bound that pass a test
pub apart : {A : Type 0} (number : A → ℕ) (xs : List A) (t : ℕ → Bool) (n : ℕ) → map number xs ≡ filter t (one_to n) → Apart number xs
apart number xs t n is = record {
  one = λ i j x y at other same. once_among t n i j (number x) (sym (ap (λ ns. slice_get ns i) is) ∙ slice_get-map number xs i ∙ ap (option_map number) at)
      (sym (ap (λ ns. slice_get ns j) is) ∙ slice_get-map number xs j ∙ ap (option_map number) other ∙ ap (λ v. Some v) (sym same));
}

-- the item stands in the list, and passes the test
pub record First {A : Type 0} (t : A → Bool) (xs : List A) (x : A) : Type 0 where
  pub place : ℕ
  pub at : slice_get xs place ≡ Some x
  pub passes : t x ≡ true

-- what a search finds stands in the list, and passes the test
pub first_is : {A : Type 0} (t : A → Bool) (xs : List A) {x : A} → find t xs ≡ Some x → First t xs x
first_is t [] e = absurd (cc)
first_is {A = A} t (y ∷ xs) {x} e = go (t y) refl (first_is t xs {x = x}) e
  where
    go : (b : Bool) → t y ≡ b → (find t xs ≡ Some x → First t xs x) → cond b (Some y) (find t xs) ≡ Some x → First t (y ∷ xs) x
    go true passes rest e = let same : y ≡ x = cc in record { place = zero; at = e; passes = ap t (sym same) ∙ passes }
    go false fails rest e = let f = rest e in record { place = suc f.place; at = f.at; passes = f.passes }

-- where an item of a list passes the test, a search finds one
pub some_first : {A : Type 0} (t : A → Bool) (xs : List A) (i : ℕ) {x : A} → slice_get xs i ≡ Some x → t x ≡ true → (y : A) × (find t xs ≡ Some y)
some_first t [] i at passes = absurd (cc)
some_first {A = A} t (y ∷ xs) i {x} at passes = go (t y) refl i (λ k there. some_first t xs k there passes) at
  where
    go : (b : Bool) → t y ≡ b → (i : ℕ) → ((k : ℕ) → slice_get xs k ≡ Some x → (z : A) × (find t xs ≡ Some z)) →
        slice_get (y ∷ xs) i ≡ Some x → (z : A) × (cond b (Some y) (find t xs) ≡ Some z)
    go true here i rest at = (y, refl)
    go false fails zero rest at = let same : y ≡ x = cc in absurd (let e = sym fails ∙ ap t same ∙ passes in cc)
    go false fails (suc i) rest at = rest i at

-- ---- callers

-- how many calls the first so many callers have together
pub calls_ahead : ℕ → List OwnerView → ℕ
calls_ahead zero owners = 0
calls_ahead (suc m) [] = 0
calls_ahead (suc m) (owner ∷ owners) = length owner.calls + calls_ahead m owners

-- a caller that is there begins behind those before it
pub record Begins (owners : List OwnerView) (before c : ℕ) (owner : OwnerView) : Type 0 where
  pub place : ℕ
  pub at : slice_get owners place ≡ Some owner
  pub id : owner.id ≡ c
  pub start : start_of before c owners ≡ before + calls_ahead place owners

-- a caller that is found stands at a place, and its calls begin behind those of the callers before it
pub begins : (owners : List OwnerView) (before c : ℕ) (owner : OwnerView) → owner_of c owners ≡ Some owner → Begins owners before c owner
unfolding calls_ahead
begins [] before c owner e = absurd (cc)
begins (first ∷ owners) before c owner e = go (first.id == c) refl (begins owners (before + length first.calls) c owner) e
  where
    go : (b : Bool) → (first.id == c) ≡ b → (owner_of c owners ≡ Some owner → Begins owners (before + length first.calls) c owner) →
        cond b (Some first) (owner_of c owners) ≡ Some owner → Begins (first ∷ owners) before c owner
    go true is rest e =
        let same : first ≡ owner = cc in
        record { place = zero; at = e; id = sym (ap (λ (o : OwnerView). o.id) same) ∙ eqb-true first.id c is; start = rw is (omega arith) }
    go false is rest e = let r = rest e in record { place = suc r.place; at = r.at; id = r.id; start = rw is (let h = r.start in omega (arith, h)) }

-- ---- calls

from_at : (ends : List EndView) (owner : OwnerView) (start j : ℕ) (calls : List Submission) (k : ℕ) (call : Submission) →
    slice_get calls k ≡ Some call → slice_get (calls_from ends owner start j calls) k ≡ Some (call_told ends owner start (j + k) call)
from_at ends owner start j [] k call at = absurd (cc)
from_at ends owner start j (one ∷ calls) zero call at =
    let same : one ≡ call = cc in let e : j ≡ j + 0 = omega arith in
    ap (λ x. Some (call_told ends owner start j x)) same ∙ ap (λ k. Some (call_told ends owner start k call)) e
from_at ends owner start j (one ∷ calls) (suc k) call at =
    let e : j + 1 + k ≡ j + suc k = omega arith in from_at ends owner start (j + 1) calls k call at ∙ ap (λ n. Some (call_told ends owner start n call)) e

from_is : (ends : List EndView) (owner : OwnerView) (start j : ℕ) (calls : List Submission) (k : ℕ) (told : Call) → slice_get (calls_from ends owner start j
    calls) k ≡ Some told → (call : Submission) × (slice_get calls k ≡ Some call) × (told ≡ call_told ends owner start (j + k) call)
from_is ends owner start j [] k told at = absurd (cc)
from_is ends owner start j (one ∷ calls) zero told at =
    let same : call_told ends owner start j one ≡ told = cc in let e : j ≡ j + 0 = omega arith in
    (one, refl, sym same ∙ ap (λ k. call_told ends owner start k one) e)
from_is ends owner start j (one ∷ calls) (suc k) told at =
    let r = from_is ends owner start (j + 1) calls k told at in let e : j + 1 + k ≡ j + suc k = omega arith in
    (r.0, r.1, r.2 ∙ ap (λ n. call_told ends owner start n r.0) e)

-- a caller's call stands behind those of the callers before it
pub call_at : (ends : List EndView) (before : ℕ) (owners : List OwnerView) (m k : ℕ) (owner : OwnerView) (call : Submission) →
    slice_get owners m ≡ Some owner → slice_get owner.calls k ≡ Some call →
    slice_get (calls_told ends before owners) (calls_ahead m owners + k) ≡ Some (call_told ends owner (before + calls_ahead m owners) k call)
unfolding calls_ahead
call_at ends before [] m k owner call at has = absurd (cc)
call_at ends before (first ∷ owners) zero k owner call at has =
    let same : first ≡ owner = cc in
    let mine : slice_get first.calls k ≡ Some call = ap (λ (o : OwnerView). slice_get o.calls k) same ∙ has in
    let e : 0 + k ≡ k = omega arith in let z : before ≡ before + 0 = omega arith in
    ap (slice_get (calls_told ends before (first ∷ owners))) e
    ∙ slice_get_more (calls_from ends first before 0 first.calls) (calls_told ends (before + length first.calls) owners) k
    (from_at ends first before 0 first.calls k call mine)
    ∙ ap (λ n. Some (call_told ends first before n call)) e
    ∙ ap (λ o. Some (call_told ends o before k call)) same
    ∙ ap (λ n. Some (call_told ends owner n k call)) z
call_at ends before (first ∷ owners) (suc m) k owner call at has =
    let here = calls_from ends first before 0 first.calls in let size = length_calls ends first before 0 first.calls in
    let e : length first.calls + calls_ahead m owners + k ≡ length here + (calls_ahead m owners + k) = omega (arith, size) in
    let z : before + length first.calls + calls_ahead m owners ≡ before + (length first.calls + calls_ahead m owners) = omega arith in
    ap (slice_get (here ++ calls_told ends (before + length first.calls) owners)) e
    ∙ place_behind here (calls_told ends (before + length first.calls) owners) (calls_ahead m owners + k)
    ∙ call_at ends (before + length first.calls) owners m k owner call at has
    ∙ ap (λ n. Some (call_told ends owner n k call)) z

-- and each call that is told is a caller's
pub record IsCallOf (ends : List EndView) (before : ℕ) (owners : List OwnerView) (n : ℕ) (told : Call) : Type 0 where
  pub place : ℕ
  pub number : ℕ
  pub owner : OwnerView
  pub call : Submission
  pub at : slice_get owners place ≡ Some owner
  pub has : slice_get owner.calls number ≡ Some call
  pub stands : n ≡ calls_ahead place owners + number
  pub caller : told.caller ≡ owner.id
  pub actor : told.actor ≡ actor_place ends call.actor
  pub outcome : told.outcome ≡ outcome_of (kept_at owner.kept number)

-- a call at a place among those told is a caller's, and stands behind those of the callers before it
pub call_is : (ends : List EndView) (before : ℕ) (owners : List OwnerView) (n : ℕ) {told : Call} →
    slice_get (calls_told ends before owners) n ≡ Some told → IsCallOf ends before owners n told
unfolding calls_ahead
call_is ends before [] n at = absurd (cc)
call_is ends before (first ∷ owners) n {told} at =
    elim (two_parts (calls_from ends first before 0 first.calls) (calls_told ends (before + length first.calls) owners) n at) [
      | inl h ↦ mine (from_is ends first before 0 first.calls n told h.1)
      | inr h ↦ later h.0 h.1 (call_is ends (before + length first.calls) owners h.0 h.2)
    ]
  where
    mine : (call : Submission) × (slice_get first.calls n ≡ Some call) × (told ≡ call_told ends first before (0 + n) call) →
        IsCallOf ends before (first ∷ owners) n told
    mine r = record {
      place = zero;
      number = n;
      owner = first;
      call = r.0;
      at = refl;
      has = r.1;
      stands = omega arith;
      caller = ap (λ (x : Call). x.caller) r.2;
      actor = ap (λ (x : Call). x.actor) r.2;
      outcome = let e : 0 + n ≡ n = omega arith in ap (λ (x : Call). x.outcome) r.2 ∙ ap (λ k. outcome_of (kept_at first.kept k)) e;
    }

    later : (j : ℕ) → n ≡ length (calls_from ends first before 0 first.calls) + j → IsCallOf ends (before + length first.calls) owners j told →
        IsCallOf ends before (first ∷ owners) n told
    later j is r = record {
      place = suc r.place;
      number = r.number;
      owner = r.owner;
      call = r.call;
      at = r.at;
      has = r.has;
      stands = let size = length_calls ends first before 0 first.calls in let h = r.stands in omega (arith, is, size, h);
      caller = r.caller;
      actor = r.actor;
      outcome = r.outcome;
    }

-- ---- runs

-- how many calls the first so many actors ran together
pub runs_ahead : ℕ → List EndView → ℕ
runs_ahead zero ends = 0
runs_ahead (suc j) [] = 0
runs_ahead (suc j) (end ∷ ends) = length (end_log end) + runs_ahead j ends

-- an item of a run list stands among the runs that are told behind those of the actors before it
pub run_at : (owners : List OwnerView) (a : ℕ) (ends : List EndView) (j p : ℕ) (end : EndView) (item : RunItem) → slice_get ends j ≡ Some end →
    slice_get (end_log end) p ≡ Some item → slice_get (runs_told owners a ends) (runs_ahead j ends + p) ≡ Some (run_told owners (a + j) item)
unfolding runs_ahead
run_at owners a [] j p end item at has = absurd (cc)
run_at owners a (first ∷ ends) zero p end item at has =
    let same : first ≡ end = cc in
    let mine : slice_get (end_log first) p ≡ Some item = ap (λ x. slice_get (end_log x) p) same ∙ has in
    let e : 0 + p ≡ p = omega arith in let z : a ≡ a + 0 = omega arith in
    ap (slice_get (runs_told owners a (first ∷ ends))) e
    ∙ slice_get_more (map (run_told owners a) (end_log first)) (runs_told owners (a + 1) ends) p
    (slice_get-map (run_told owners a) (end_log first) p ∙ ap (option_map (run_told owners a)) mine)
    ∙ ap (λ n. Some (run_told owners n item)) z
run_at owners a (first ∷ ends) (suc j) p end item at has =
    let here = map (run_told owners a) (end_log first) in
    let size : length here ≡ length (end_log first) = length-map (end_log first) (run_told owners a) in
    let e : length (end_log first) + runs_ahead j ends + p ≡ length here + (runs_ahead j ends + p) = omega (arith, size) in
    let z : a + 1 + j ≡ a + suc j = omega arith in
    ap (slice_get (here ++ runs_told owners (a + 1) ends)) e
    ∙ place_behind here (runs_told owners (a + 1) ends) (runs_ahead j ends + p)
    ∙ run_at owners (a + 1) ends j p end item at has
    ∙ ap (λ n. Some (run_told owners n item)) z

pub record IsRunOf (owners : List OwnerView) (a : ℕ) (ends : List EndView) (i : ℕ) (run : Run) : Type 0 where
  pub place : ℕ
  pub number : ℕ
  pub end : EndView
  pub item : RunItem
  pub at : slice_get ends place ≡ Some end
  pub has : slice_get (end_log end) number ≡ Some item
  pub stands : i ≡ runs_ahead place ends + number
  pub actor : run.actor ≡ a + place
  pub call : run.call ≡ start_of 0 item.caller owners + item.future

mapped : (f : RunItem → Run) (log : List RunItem) (i : ℕ) {run : Run} → slice_get (map f log) i ≡ Some run →
    (item : RunItem) × (slice_get log i ≡ Some item) × (f item ≡ run)
mapped f [] i e = absurd (cc)
mapped f (item ∷ log) zero e = (item, refl, cc)
mapped f (item ∷ log) (suc i) {run} e = mapped f log i e

pub run_is : (owners : List OwnerView) (a : ℕ) (ends : List EndView) (i : ℕ) (run : Run) →
    slice_get (runs_told owners a ends) i ≡ Some run → IsRunOf owners a ends i run
unfolding runs_ahead
run_is owners a [] i run at = absurd (cc)
run_is owners a (first ∷ ends) i run at =
    elim (two_parts (map (run_told owners a) (end_log first)) (runs_told owners (a + 1) ends) i at) [
      | inl h ↦ mine (mapped (run_told owners a) (end_log first) i h.1)
      | inr h ↦ later h.0 h.1 (run_is owners (a + 1) ends h.0 run h.2)
    ]
  where
    mine : (item : RunItem) × (slice_get (end_log first) i ≡ Some item) × (run_told owners a item ≡ run) → IsRunOf owners a (first ∷ ends) i run
    mine r = record {
      place = zero;
      number = i;
      end = first;
      item = r.0;
      at = refl;
      has = r.1;
      stands = omega arith;
      actor = let e : a ≡ a + 0 = omega arith in sym (ap (λ (x : Run). x.actor) r.2) ∙ e;
      call = sym (ap (λ (x : Run). x.call) r.2);
    }

    later : (j : ℕ) → i ≡ length (map (run_told owners a) (end_log first)) + j → IsRunOf owners (a + 1) ends j run → IsRunOf owners a (first ∷ ends) i run
    later j is r = record {
      place = suc r.place;
      number = r.number;
      end = r.end;
      item = r.item;
      at = r.at;
      has = r.has;
      stands = let size = length-map (end_log first) (run_told owners a) in let h = r.stands in omega (arith, is, size, h);
      actor = let h = r.actor in omega (arith, h);
      call = r.call;
    }

-- ---- actors

-- an actor of its own number has its place
pub place_is : (ends : List EndView) (j : ℕ) (end : EndView) → Apart end_id ends → slice_get ends j ≡ Some end → actor_place ends (end_id end) ≡ j
place_is ends j end apart at =
    position_or_len_is (λ one. end_id one == end_id end) ends j end (let h = slice_get_within ends j end at in omega (arith, h))
    (λ k lt. ne_eqb (end_id (get_or ends k end)) (end_id end) (λ same. let within : k < length ends = let h = slice_get_within ends j end at in
    omega (arith, h, lt) in let e : k ≡ j = apart.one k j (get_or ends k end) end (slice_get-get_or ends k end within) at same in omega (arith, e, lt)))
    (λ lt. eq-eqb (end_id (get_or ends j end)) (end_id end) (ap end_id (get_or_from_slice_get ends j end end at)))

-- and what has the place has the number
pub place_tells : (ends : List EndView) {j : ℕ} (b : ℕ) (end : EndView) → slice_get ends j ≡ Some end → actor_place ends b ≡ j → b ≡ end_id end
place_tells ends {j} b end at is =
    let within : actor_place ends b < length ends = let h = slice_get_within ends j end at in omega (arith, h, is) in
    let passes = passes_at_first (λ one. end_id one == b) ends end within in
    let here : get_or ends (actor_place ends b) end ≡ end = ap (λ k. get_or ends k end) is ∙ get_or_from_slice_get ends j end end at in
    sym (eqb-true (end_id (get_or ends (actor_place ends b) end)) b passes) ∙ ap end_id here
