-- The counts, the waiting calls and the free calls after an entry, a telling and a sending.
use Rattle.act_resolver.proofs.Common.{◌≡◌, ◌≢◌, ℕ, zero, suc, ◌+◌, ◌-◌, ◌<◌, ◌≤◌, ◌==◌, ◌&&◌, ◌⊎◌, inl, inr, Bool, true, false, cond, not, eqb, Option, Some}
use Rattle.act_resolver.proofs.Common.{None, List, [], ◌∷◌, ◌++◌, length, get_or, drop, find, count_by, refl, sym, ◌∙◌, ap, arith, slice_set, slice_get}
use Rattle.act_resolver.proofs.Common.{list_all, range_with_len, option_map, option_map_or, length-map, length-set, length_push, map-append, map-set}
use Rattle.act_resolver.proofs.Common.{set-get_or, get_or-set_other, get_or-set_same, sum_by-cons, slice_get-get_or, slice_get-map, slice_get_past}
use Rattle.act_resolver.proofs.Common.{slice_get_within, slice_get_read, get_or_from_slice_get, cases_lt, cases_eq, eq-eqb, false≢true, eqb_tells, Entered}
use Rattle.act_resolver.proofs.Common.{new_call, is_answered, is_told, is_next_ready, least_ready, changed_at, IsLeast, waiters_of, futures_at, missing_of}
use Rattle.act_resolver.proofs.Common.{count_number, places_for, is_free, AreCounted, AreFree, IsResolver, IsTelling, Row, calls_of, missing_at, with_one_less}
use Rattle.act_resolver.proofs.Common.{slice_get_last, element, get_set-other, get_set-same}

not_eqb : (a b : ℕ) → a ≢ b → eqb a b ≡ false
not_eqb a b other = elim (eqb_tells a b) [ inl told ↦ absurd (other told.1) | inr told ↦ told.0 ]

-- an element after a write and after a push
written_at : {X : Type 0} (xs : List X) (k : ℕ) (y : X) → k < length xs → slice_get (slice_set xs k y) k ≡ Some y
written_at xs k y lt = get_set-same xs k y (element xs k lt).1

get-push_other : {X : Type 0} (xs : List X) (y : X) (i : ℕ) → i ≢ length xs → slice_get (xs ++ y ∷ []) i ≡ slice_get xs i
get-push_other [] y zero other = absurd (other refl)
get-push_other [] y (suc i) other = refl
get-push_other (x ∷ xs) y zero other = refl
get-push_other (x ∷ xs) y (suc i) other = get-push_other xs y i (λ e. other (ap suc e))

get_or-push_default : {X : Type 0} (xs : List X) (d : X) (i : ℕ) → get_or (xs ++ d ∷ []) i d ≡ get_or xs i d
get_or-push_default [] d zero = refl
get_or-push_default [] d (suc i) = refl
get_or-push_default (x ∷ xs) d zero = refl
get_or-push_default (x ∷ xs) d (suc i) = get_or-push_default xs d i

-- what is looked up in a list with the same element there
field_same : {X Y : Type 0} (g : X → Y) (xs : List X) (k i : ℕ) {old : X} (new : X) (z : Y) → slice_get xs k ≡ Some old → g new ≡ g old →
    option_map_or g (slice_get (slice_set xs k new) i) z ≡ option_map_or g (slice_get xs i) z
field_same g xs k i {old} new z found same =
    elim (cases_eq i k) [
      | inl e ↦ rw (e, get_set-same xs k new found, found) same
      | inr other ↦ rw (get_set-other xs k i new (λ e. other (sym e))) refl
    ]

field-set_other : {X Y : Type 0} (g : X → Y) (xs : List X) (k i : ℕ) (new : X) (z : Y) → i ≢ k →
    option_map_or g (slice_get (slice_set xs k new) i) z ≡ option_map_or g (slice_get xs i) z
field-set_other g xs k i new z other = rw (get_set-other xs k i new (λ e. other (sym e))) refl

-- the calls of rows, where one of these is read and written
get-calls : (rows : List Row) (k : ℕ) {row : Row} → slice_get rows k ≡ Some row → slice_get (calls_of rows) k ≡ Some row.call
get-calls rows k found = slice_get-map (λ (r : Row). r.call) rows k ∙ ap (option_map (λ (r : Row). r.call)) found

-- there are as many calls as rows
pub length-calls : (rows : List Row) → length (calls_of rows) ≡ length rows
length-calls rows = length-map rows (λ (r : Row). r.call)

set-calls : (rows : List Row) (k : ℕ) (new : Row) → calls_of (slice_set rows k new) ≡ slice_set (calls_of rows) k new.call
set-calls rows k new = map-set (λ (r : Row). r.call) rows k new

call_same : {Y : Type 0} (g : Entered → Y) (rows : List Row) (k i : ℕ) (old new : Row) (z : Y) → slice_get rows k ≡ Some old → g new.call ≡ g old.call →
    option_map_or g (slice_get (calls_of (slice_set rows k new)) i) z ≡ option_map_or g (slice_get (calls_of rows) i) z
call_same g rows k i old new z found same = rw (set-calls rows k new) (field_same g (calls_of rows) k i new.call z (get-calls rows k found) same)

-- equal tests count the same
count_same : (p q : ℕ → Bool) (xs : List ℕ) → ((x : ℕ) → p x ≡ q x) → count_by p xs ≡ count_by q xs
count_same p q [] same = refl
count_same p q (x ∷ xs) same = sum_by-cons (λ y. cond (p y) 1 0) x xs ∙ rw (same x, count_same p q xs same) (sym (sum_by-cons (λ y. cond (q y) 1 0) x xs))

-- the places that wait are fewer by those of a future that is told
count_told : (told after : ℕ → Bool) (k : ℕ) (xs : List ℕ) → after k ≡ true → ((x : ℕ) → x ≢ k → after x ≡ told x) →
    count_by (λ x. not (told x)) xs ≡ count_by (λ x. not (after x)) xs + cond (told k) 0 (count_number k xs)
count_told told after k [] is same = elim (told k) as (λ b. 0 ≡ 0 + cond b 0 0) [ true ↦ refl | false ↦ refl ]
count_told told after k (x ∷ xs) is same =
    let rest = count_told told after k xs is same in let old = sum_by-cons (λ y. cond (not (told y)) 1 0) x xs in
    let new = sum_by-cons (λ y. cond (not (after y)) 1 0) x xs in let named = sum_by-cons (λ y. cond (y == k) 1 0) x xs in
    rw (old, new, named, rest) (here (cases_eq x k))
  where
    step : (b : Bool) (n m : ℕ) → cond (not b) 1 0 + (n + cond b 0 m) ≡ 0 + n + cond b 0 (1 + m)
    step true n m = omega arith
    step false n m = omega arith

    apart : (b : Bool) (a n m : ℕ) → a + (n + cond b 0 m) ≡ a + n + cond b 0 (0 + m)
    apart true a n m = omega arith
    apart false a n m = omega arith

    here : (x ≡ k) ⊎ (x ≢ k) → cond (not (told x)) 1 0 + (count_by (λ y. not (after y)) xs + cond (told k) 0 (count_number k xs)) ≡ cond
        (not (after x)) 1 0 + count_by (λ y. not (after y)) xs + cond (told k) 0 (cond (x == k) 1 0 + count_number k xs)
    here (inl e) = rw (e, eq-eqb k k refl, is) (step (told k) (count_by (λ y. not (after y)) xs) (count_number k xs))
    here (inr other) = rw (not_eqb x k other, same x other) (apart (told k) (cond (not (told x)) 1 0) (count_by (λ y. not (after y)) xs) (count_number k xs))

-- the count of a call that no place waits for
all_told_more : (told : Bool) (n : ℕ) {rest : Bool} → (n == 0) ≡ rest → (cond (not told) 1 0 + n == 0) ≡ (told && rest)
all_told_more true n same = let plain : 0 + n ≡ n = omega arith in rw plain same
all_told_more false n same = not_eqb (1 + n) 0 (λ e. omega arith)

all_told : (told : ℕ → Bool) (xs : List ℕ) → (count_by (λ x. not (told x)) xs == 0) ≡ list_all told xs
all_told told [] = refl
all_told told (x ∷ xs) = rw (sum_by-cons (λ y. cond (not (told y)) 1 0) x xs) (all_told_more (told x) (count_by (λ y. not (told y)) xs) (all_told told xs))

count_known : (rows : List Row) (k : ℕ) (row : Row) → AreCounted rows → slice_get rows k ≡ Some row →
    (row.missing == 0) ≡ list_all (is_answered (calls_of rows)) row.call.futures
count_known rows k row counted found =
    let here : missing_at rows k ≡ row.missing = rw found refl in
    let named : futures_at (calls_of rows) k ≡ row.call.futures = rw (get-calls rows k found) refl in
    ap (λ n. n == 0) (sym here ∙ counted k ∙ ap (missing_of (calls_of rows)) named) ∙ all_told (is_answered (calls_of rows)) row.call.futures

known_at : (rows : List Row) (k : ℕ) → AreCounted rows → (found : Option Row) → slice_get rows k ≡ found →
    option_map_or (λ row. row.missing == 0) (slice_get rows k) false ≡ is_told (calls_of rows) k
known_at rows k counted None found = rw (slice_get-map (λ (r : Row). r.call) rows k, found) refl
known_at rows k counted (Some row) found = rw (get-calls rows k found, found) (count_known rows k row counted found)

pub known_is : (rows : List Row) (k : ℕ) → AreCounted rows → option_map_or (λ row. row.missing == 0) (slice_get rows k) false ≡ is_told (calls_of rows) k
known_is rows k counted = known_at rows k counted (slice_get rows k) refl

-- the free calls are those that are ready
free_at : (rows : List Row) (k : ℕ) → AreCounted rows → (found : Option Row) → slice_get rows k ≡ found → is_free rows k ≡ is_next_ready (calls_of rows) k
free_at rows k counted None found = rw (slice_get-map (λ (r : Row). r.call) rows k, found) refl
free_at rows k counted (Some row) found =
    rw (get-calls rows k found, found) (ap (λ b. b && not row.call.sent && not row.call.answered) (count_known rows k row counted found))

free_is_ready : (rows : List Row) → AreCounted rows → (k : ℕ) → is_free rows k ≡ is_next_ready (calls_of rows) k
free_is_ready rows counted k = free_at rows k counted (slice_get rows k) refl

-- the first number from a on that passes
find_none : (p : ℕ → Bool) (a n : ℕ) → ((k : ℕ) → p k ≡ false) → find p (range_with_len a n) ≡ None
find_none p a zero none = refl
find_none p a (suc n) none = rw (none a) (find_none p (a + 1) n none)

find_first : (p : ℕ → Bool) (a n r : ℕ) → a ≤ r → r < a + n → p r ≡ true → ((k : ℕ) → k < r → p k ≡ false) → find p (range_with_len a n) ≡ Some r
find_first p a zero r from below passes first = absurd (omega arith)
find_first p a (suc n) r from below passes first =
    elim (cases_lt a r) [
      | inl lt ↦ rw (first a lt) (find_first p (a + 1) n r (omega arith) (omega arith) passes first)
      | inr le ↦ let here : a ≡ r = omega arith in rw (here, passes) refl
    ]

ready_within : (rows : List Row) (k : ℕ) → is_free rows k ≡ true → k < length rows
ready_within rows k free =
    elim (cases_lt k (length rows)) [
      | inl lt ↦ lt
      | inr le ↦ let none : is_free rows k ≡ false = rw (slice_get_past rows k le) refl in absurd (false≢true (sym none ∙ free))
    ]

-- the least of the free calls is the first that is ready
pub first_ready_is : (rows : List Row) (ready : List Bool) (least : Option ℕ) → AreCounted rows → AreFree rows ready → IsLeast ready least →
    least ≡ least_ready (calls_of rows)
first_ready_is rows ready None counted free none =
    sym (find_none (is_next_ready (calls_of rows)) 0 (length (calls_of rows)) (λ k. sym (free_is_ready rows counted k) ∙ sym (free k) ∙ none k))
first_ready_is rows ready (Some r) counted free least =
    let here : is_free rows r ≡ true = sym (free r) ∙ least.0 in let within = ready_within rows r here in
    sym (find_first (is_next_ready (calls_of rows)) 0 (length (calls_of rows)) r (omega arith) (omega (arith, length-calls rows))
    (sym (free_is_ready rows counted r) ∙ here) (λ k lt. sym (free_is_ready rows counted k) ∙ sym (free k) ∙ least.1 k lt))

-- a call that was read at its place, and opened
pub found_at : (rows : List Row) (known : List Entered) (len i k : ℕ) (row read : Row) → calls_of rows ≡ known → len ≡ length rows → i ≡ k → k < length known →
    read ≡ get_or rows i read → row ≡ read → slice_get rows i ≡ Some row
found_at rows known len i k row read same size here within is opened =
    slice_get_read rows len i read size (omega (arith, length-calls rows, ap length same)) is ∙ ap Some (sym opened)

-- what a write of a changed call leaves
pub changed_is : (rows : List Row) (k : ℕ) (found : Row) (change : Entered → Entered) → slice_get rows k ≡ Some found →
    calls_of (slice_set rows k (record found { call = change found.call })) ≡ changed_at (calls_of rows) k change
changed_is rows k found change is = rw (set-calls rows k (record found { call = change found.call }), get-calls rows k is) refl

-- calls that were told and name futures as before
counted_same : (rows after : List Row) → ((future : ℕ) → is_answered (calls_of after) future ≡ is_answered (calls_of rows) future) → ((k : ℕ) →
    futures_at (calls_of after) k ≡ futures_at (calls_of rows) k) → ((k : ℕ) → missing_at after k ≡ missing_at rows k) → AreCounted rows → AreCounted after
counted_same rows after told named same counted k =
    same k ∙ counted k ∙ ap (missing_of (calls_of rows)) (sym (named k)) ∙ count_same (λ future. not (is_answered (calls_of rows) future))
    (λ future. not (is_answered (calls_of after) future)) (futures_at (calls_of after) k) (λ future. ap not (sym (told future)))

places_same : (calls after : List Entered) → ((future : ℕ) → is_answered after future ≡ is_answered calls future) →
    ((k : ℕ) → futures_at after k ≡ futures_at calls k) → (future k : ℕ) → places_for calls future k ≡ places_for after future k
places_same calls after told named future k = rw (told future, named k) refl

-- the free calls after a write
free_after : (rows : List Row) (ready : List Bool) (k : ℕ) (new : Row) (free : Bool) → k < length rows → length rows ≤ length ready → AreFree rows ready →
    free ≡ is_free (slice_set rows k new) k → AreFree (slice_set rows k new) (slice_set ready k free)
free_after rows ready k new free lt room fine is i =
    elim (cases_eq i k) [
      | inl e ↦ rw (e, get_or-set_same ready k free false (omega arith)) is
      | inr other ↦ get_or-set_other ready k i free false other ∙ fine i ∙ rw (get_set-other rows k i new (λ e. other (sym e))) refl
    ]

-- a call is sent
pub sent_fine : (rows : List Row) {lists : List (List ℕ)} {ready : List Bool} (k : ℕ) (row : Row) → IsResolver rows lists ready → slice_get rows k ≡ Some row →
    IsResolver (slice_set rows k (record row { call = record row.call { sent = true } })) lists (slice_set ready k false)
sent_fine rows {ready} k row fine found =
    let sent : Row = record row { call = record row.call { sent = true } } in
    let after = slice_set rows k sent in let size = length-set rows k sent in let lt = slice_get_within rows k row found in
    let told : (future : ℕ) → is_answered (calls_of after) future ≡ is_answered (calls_of rows) future =
    λ future. call_same (λ c. c.answered) rows k future row sent false found refl in
    let named : (i : ℕ) → futures_at (calls_of after) i ≡ futures_at (calls_of rows) i = λ i. call_same (λ c. c.futures) rows k i row sent [] found refl in
    record {
      size_lists = omega (arith, size, fine.size_lists);
      size_ready = omega (arith, size, fine.size_ready, length-set ready k false);
      counted = counted_same rows after told named (λ i. field_same (λ (r : Row). r.missing) rows k i sent 0 found refl) fine.counted;
      waits = λ future i. fine.waits future i ∙ places_same (calls_of rows) (calls_of after) told named future i;
      free =
          free_after rows ready k sent false lt fine.size_ready fine.free (rw (written_at rows k sent lt) (never (row.missing == 0) (not row.call.answered)));
    }
  where
    never : (a b : Bool) → false ≡ (a && false && b)
    never true b = refl
    never false b = refl

-- a future is told: the calls that wait for it are yet to be counted down
pub told_start : (rows : List Row) {lists : List (List ℕ)} {ready : List Bool} (k : ℕ) (row : Row) → IsResolver rows lists ready → slice_get rows k ≡ Some row →
    IsTelling k (slice_set rows k (record row { call = record row.call { answered = true } })) lists (slice_set ready k false)
told_start rows {ready} k row fine found =
    let told : Row = record row { call = record row.call { answered = true } } in
    let after = slice_set rows k told in let size = length-set rows k told in let lt = slice_get_within rows k row found in
    let is : is_answered (calls_of after) k ≡ true = rw (get-calls after k (written_at rows k told lt)) refl in
    let others : (future : ℕ) → future ≢ k → is_answered (calls_of after) future ≡ is_answered (calls_of rows) future =
    λ future other. rw (set-calls rows k told) (field-set_other (λ (c : Entered). c.answered) (calls_of rows) k future told.call false other) in
    let named : (i : ℕ) → futures_at (calls_of after) i ≡ futures_at (calls_of rows) i = λ i. call_same (λ c. c.futures) rows k i row told [] found refl in
    record {
      size_lists = omega (arith, size, fine.size_lists);
      size_ready = omega (arith, size, fine.size_ready, length-set ready k false);
      counted = λ i. rw (named i, fine.waits k i) (field_same (λ (r : Row). r.missing) rows k i told 0 found refl ∙ fine.counted i ∙
          count_told (is_answered (calls_of rows)) (is_answered (calls_of after)) k (futures_at (calls_of rows) i) is others);
      waits = λ future i other. fine.waits future i ∙ rw (others future other, named i) refl;
      answered = is;
      free = free_after rows ready k told false lt fine.size_ready fine.free (rw (written_at rows k told lt) (never (row.missing == 0) (not row.call.sent)));
    }
  where
    never : (a b : Bool) → false ≡ (a && b && false)
    never true true = refl
    never true false = refl
    never false b = refl

-- the first call of those that wait
first_waits : (waiters : List ℕ) {k : ℕ} → slice_get waiters 0 ≡ Some k → waiters ≡ k ∷ drop 1 waiters
first_waits [] e = absurd (cc)
first_waits (w ∷ waiters) e = cc

times-cons : (k x : ℕ) (xs : List ℕ) → count_number k (x ∷ xs) ≡ cond (x == k) 1 0 + count_number k xs
times-cons k x xs = sum_by-cons (λ y. cond (y == k) 1 0) x xs

-- it has a count, so it was entered
pub waiter_counted : (k : ℕ) {rows : List Row} (lists : List (List ℕ)) {ready : List Bool} {waiter : ℕ} → IsTelling k rows lists ready →
    slice_get (waiters_of lists k) 0 ≡ Some waiter → 1 ≤ missing_at rows waiter
waiter_counted k lists {waiter} fine first =
    let here : count_number waiter (waiters_of lists k) ≡ 1 + count_number waiter (drop 1 (waiters_of lists k)) = ap (count_number waiter)
    (first_waits (waiters_of lists k) first) ∙ times-cons waiter waiter (drop 1 (waiters_of lists k)) ∙ rw (eq-eqb waiter waiter refl) refl in
    omega (arith, fine.counted waiter)

pub waiter_entered : (rows : List Row) (waiter : ℕ) → 1 ≤ missing_at rows waiter → waiter < length rows
waiter_entered rows waiter counted =
    elim (cases_lt waiter (length rows)) [
      | inl lt ↦ lt
      | inr le ↦ let none : missing_at rows waiter ≡ 0 = rw (slice_get_past rows waiter le) refl in absurd (omega (arith, none))
    ]

told_entered : (rows : List Row) (k : ℕ) → is_answered (calls_of rows) k ≡ true → k < length rows
told_entered rows k told =
    elim (cases_lt k (length rows)) [
      | inl lt ↦ lt
      | inr le ↦ let none : is_answered (calls_of rows) k ≡ false = rw (slice_get_past (calls_of rows) k (omega (arith, length-calls rows))) refl in
          absurd (false≢true (sym none ∙ told))
    ]

-- a row that is there
abbrev row_of : List Row → ℕ → Row
row_of rows k = get_or rows k (record { call = new_call []; missing = 0 })

row_at : (rows : List Row) {k : ℕ} → k < length rows → slice_get rows k ≡ Some (row_of rows k)
row_at rows {k} lt = slice_get-get_or rows k (record { call = new_call []; missing = 0 }) lt

pub same_calls : (rows : List Row) {k : ℕ} → k < length rows → calls_of (with_one_less rows k) ≡ calls_of rows
same_calls rows {k} lt =
    let row = row_of rows k in let found = get-calls rows k (row_at rows lt) in
    rw (row_at rows lt) (set-calls rows k (record row { missing = row.missing - 1 }) ∙
    ap (slice_set (calls_of rows) k) (sym (get_or_from_slice_get (calls_of rows) k row.call row.call found)) ∙ set-get_or (calls_of rows) k row.call)

-- one place of a call that waits is told
pub told_step : (k : ℕ) (rows : List Row) {lists : List (List ℕ)} {ready : List Bool} (waiter : ℕ) → IsTelling k rows lists ready →
    slice_get (waiters_of lists k) 0 ≡ Some waiter → IsTelling k (with_one_less rows waiter) (slice_set lists k (drop 1 (waiters_of lists k)))
    (slice_set ready waiter (is_free (with_one_less rows waiter) waiter))
told_step k rows {lists} {ready} waiter fine first =
    let counted = waiter_counted k lists fine first in let within = waiter_entered rows waiter counted in let lt = told_entered rows k fine.answered in
    let rest = drop 1 (waiters_of lists k) in let row = row_of rows waiter in let less : Row = record row { missing = row.missing - 1 } in
    let before : missing_at rows waiter ≡ row.missing = rw (row_at rows within) refl in
    let after : with_one_less rows waiter ≡ slice_set rows waiter less = rw (row_at rows within) refl in
    let same : calls_of (slice_set rows waiter less) ≡ calls_of rows = ap calls_of (sym after) ∙ same_calls rows within in
    let is : waiters_of lists k ≡ waiter ∷ rest = first_waits (waiters_of lists k) first in
    let shorter : waiters_of (slice_set lists k rest) k ≡ rest = get_or-set_same lists k rest [] (omega (arith, fine.size_lists)) in
    let free = is_free (slice_set rows waiter less) waiter in
    rw after (record {
      size_lists = omega (arith, fine.size_lists, length-set lists k rest, length-set rows waiter less);
      size_ready = omega (arith, fine.size_ready, length-set ready waiter free, length-set rows waiter less);
      counted = λ i. rw (same, shorter) (elim (cases_eq i waiter) [
        | inl e ↦
            let here : count_number waiter (waiters_of lists k) ≡ 1 + count_number waiter rest =
            ap (count_number waiter) is ∙ times-cons waiter waiter rest ∙ rw (eq-eqb waiter waiter refl) refl in
            rw (e, written_at rows waiter less within) (omega (arith, fine.counted waiter))
        | inr other ↦
            let here : count_number i (waiters_of lists k) ≡ 0 + count_number i rest =
            ap (count_number i) is ∙ times-cons i waiter rest ∙ rw (not_eqb waiter i (λ e. other (sym e))) refl in
            rw (get_set-other rows waiter i less (λ e. other (sym e))) (omega (arith, fine.counted i))
      ]);
      waits = λ future i other. rw (same, get_or-set_other lists k future rest [] other) (fine.waits future i other);
      answered = rw same fine.answered;
      free = free_after rows ready waiter less free within fine.size_ready fine.free refl;
    })

-- a call is entered
pub entered_fine : (rows : List Row) (lists after : List (List ℕ)) {ready : List Bool} (k : ℕ) {count : ℕ} (futures : List ℕ) → IsResolver rows lists ready → k
    ≡ length rows → k < length ready → count ≡ missing_of (calls_of rows) futures → length after ≡ length (lists ++ [] ∷ []) → ((future call : ℕ) → count_number
    call (waiters_of after future) ≡ count_number call (waiters_of (lists ++ [] ∷ []) future) + cond ((call == k) && not (is_answered (calls_of rows) future))
    (count_number future futures) 0) → IsResolver (rows ++ record { call = new_call futures; missing = count } ∷ []) after (slice_set ready k (count == 0))
entered_fine rows lists after {ready} k {count} futures fine next room is size waits =
    let calls = calls_of rows in let new : Entered = new_call futures in let row : Row = record { call = new; missing = count } in
    let more = calls ++ new ∷ [] in
    let all : calls_of (rows ++ row ∷ []) ≡ more = map-append (λ (r : Row). r.call) rows (row ∷ []) in
    let next_call : k ≡ length calls = next ∙ sym (length-calls rows) in
    let told : (future : ℕ) → is_answered more future ≡ is_answered calls future = λ future. elim (cases_eq future (length calls)) [
      | inl e ↦ rw (e, slice_get_last calls new, slice_get_past calls (length calls) (omega arith)) refl
      | inr other ↦ rw (get-push_other calls new future other) refl
    ] in
    let named : (i : ℕ) → i ≢ k → futures_at more i ≡ futures_at calls i = λ i other. rw (get-push_other calls new i (λ e. other (e ∙ sym next_call))) refl in
    let here : futures_at more k ≡ futures = rw (next_call, slice_get_last calls new) refl in
    let nothing : futures_at calls k ≡ [] = rw (slice_get_past calls k (omega arith)) refl in
    let waiting : (future : ℕ) (xs : List ℕ) → missing_of calls xs ≡ missing_of more xs = λ future xs. count_same (λ future. not (is_answered calls future))
    (λ future. not (is_answered more future)) xs (λ future. ap not (sym (told future))) in
    record {
      size_lists = omega (arith, fine.size_lists, length_push rows row, length_push lists []);
      size_ready = omega (arith, length_push rows row, length-set ready k (count == 0));
      counted = λ i. rw all (elim (cases_eq i k) [
        | inl e ↦ rw (e, here, next, slice_get_last rows row) (is ∙ waiting k futures)
        | inr other ↦ rw (get-push_other rows row i (λ e. other (e ∙ sym next)), named i other) (fine.counted i ∙ waiting i (futures_at calls i))
      ]);
      waits = λ future i. rw all (waits future i ∙ rw (get_or-push_default lists [] future, told future) (elim (cases_eq i k) [
        | inl e ↦ rw (e, eq-eqb k k refl, here, fine.waits future k, nothing) (new_places (is_answered calls future) (count_number future futures))
        | inr other ↦ rw (not_eqb i k other, named i other, fine.waits future i) (omega arith)
      ]));
      free = free;
    }
  where
    new_places : (b : Bool) (n : ℕ) → cond b 0 0 + cond (true && not b) n 0 ≡ cond b 0 n
    new_places true n = refl
    new_places false n = omega arith

    plain : (b : Bool) → b ≡ (b && true && true)
    plain true = refl
    plain false = refl

    free : AreFree (rows ++ record { call = new_call futures; missing = count } ∷ []) (slice_set ready k (count == 0))
    free i =
        let row : Row = record { call = new_call futures; missing = count } in
        elim (cases_eq i k) [
          | inl e ↦ rw (e, get_or-set_same ready k (count == 0) false room, next, slice_get_last rows row) (plain (count == 0))
          | inr other ↦ get_or-set_other ready k i (count == 0) false other ∙ fine.free i ∙ rw (get-push_other rows row i (λ e. other (e ∙ sym next))) refl
        ]
