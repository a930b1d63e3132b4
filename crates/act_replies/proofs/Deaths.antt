-- A death answers the futures that wait for its actor, one by one.
use Rattle.act_replies.proofs.Common.{◌≡◌, ◌≢◌, ℕ, zero, suc, ◌+◌, ◌-◌, ◌<◌, ◌≤◌, ◌==◌, ◌&&◌, List, [], ◌∷◌, length, map, drop, get_or, count_by, Bool, true}
use Rattle.act_replies.proofs.Common.{false, cond, not, if◌then◌else◌, Option, Some, None, Result, Err, is_some, inl, inr, refl, sym, ◌∙◌, ap, arith, slice_get}
use Rattle.act_replies.proofs.Common.{slice_set, IfSome, IfNone, option_map_or, eqb_tells, length-map, length-set, map-set, sum_by-cons, sum_by-set}
use Rattle.act_replies.proofs.Common.{slice_get_cases, slice_get-get_or, map-set_same, Value, Fault, ActorDied, First, Late, Row, found_at, IsLastBelow}
use Rattle.act_replies.proofs.Common.{is_open, row_waits_for, waits_at, row_with_answer, keep_result, keep_result_in, after_keep, after_keep_in}
use Rattle.act_replies.proofs.Common.{row_after_death, rows_after_death, waited_actor, IsTable, IsKnown}

-- a row that passed a test and passes it no more
one_less : (p : Row → Bool) (k : ℕ) (rows : List Row) (row new : Row) → k < length rows → get_or rows k row ≡ row → p row ≡ true → p new ≡ false →
    count_by p (slice_set rows k new) + 1 ≡ count_by p rows
one_less p k rows row new below is yes_row no_new =
    let counted = sum_by-set (λ r. cond (p r) 1 0) rows k new row below in
    let before : cond (p (get_or rows k row)) 1 0 ≡ 1 = ap {B = ℕ} (λ r. cond (p r) 1 0) is ∙ ap {B = ℕ} (λ b. cond b 1 0) yes_row in
    let after : cond (p new) 1 0 ≡ 0 = ap {B = ℕ} (λ b. cond b 1 0) no_new in omega (arith, counted, before, after)

-- ---- an answer for a future that has none

at_place : (rows : List Row) (k place : ℕ) (row : Row) → place ≡ k → place < length rows → row ≡ get_or rows place row → slice_get rows k ≡ Some row
at_place rows k place row same below is = ap (slice_get rows) (sym same) ∙ slice_get-get_or rows place row below ∙ ap Some (sym is)

pub kept_open : {rows now : List Row} {k place : ℕ} {row : Row} → rows ≡ now → place ≡ k → place < length rows → row ≡ get_or rows place row →
    is_some row.answer ≡ false → First ≡ keep_result k now
kept_open {rows} {k} {place} {row} seen same below is unknown =
    sym (ap (keep_result k) (sym seen) ∙ ap keep_result_in (at_place rows k place row same below is) ∙ ap (λ known. if not known then First else Late) unknown)

pub keep_open : {rows now : List Row} {k place : ℕ} (answer : Result Value Fault) {row here : Row} → rows ≡ now → place ≡ k → place < length rows → row ≡ get_or
    rows place row → is_some row.answer ≡ false → here ≡ get_or rows place here → slice_set rows place (row_with_answer answer here) ≡ after_keep k answer now
keep_open {rows} {k} {place} answer {row} {here} seen same below is unknown here_is =
    let one : Some row ≡ Some here = sym (at_place rows k place row same below is) ∙ at_place rows k place here same below here_is in
    let same_row : here ≡ row = cc one in
    let actor : here.actor ≡ row.actor = ap (λ (r : Row). r.actor) same_row in
    ap (λ n. slice_set rows place (record { actor = n; answer = Some answer })) actor
    ∙ ap (λ n. slice_set rows n (row_with_answer answer row)) same
    ∙ sym (ap (λ known. if not known then slice_set rows k (row_with_answer answer row) else rows) unknown)
    ∙ sym (ap (after_keep_in k answer rows) (at_place rows k place row same below is))
    ∙ ap (after_keep k answer) seen

pub keep_fine : (rows : List Row) {actors actors2 : List (Option ℕ)} (unanswered : ℕ) {k place : ℕ} (answer : Result Value Fault) {row : Row} (here : Row) →
    IsTable rows unanswered → IsKnown rows actors → place ≡ k → place < length rows → row ≡ get_or rows place row → is_some row.answer ≡ false →
    actors2 ≡ slice_set actors k None →
    IsTable (slice_set rows place (row_with_answer answer here)) (unanswered - 1) × IsKnown (slice_set rows place (row_with_answer answer here)) actors2
keep_fine rows unanswered {k} {place} answer {row} here fine known same below is unknown out =
    let counted : count_by is_open (slice_set rows place (row_with_answer answer here)) + 1 ≡ count_by is_open rows =
    one_less is_open place rows row (row_with_answer answer here) below (sym is) (ap not unknown) refl in (
      (omega (arith, fine.0, counted), omega (arith, fine.1, length-set rows place (row_with_answer answer here))),
      out ∙ ap (λ l. slice_set l k None) known ∙ ap (λ n. slice_set (map waited_actor rows) n None) (sym same) ∙
          sym (map-set waited_actor rows place (row_with_answer answer here)),
    )

-- ---- which futures wait for an actor

not_waiting_cases : (a actor : ℕ) (answer : Option (Result Value Fault)) → (if not (is_some answer) then Some actor else None) ≢ Some a →
    ((actor == a) && not (is_some answer)) ≡ false
not_waiting_cases a actor None other = elim (eqb_tells actor a) [ inl t ↦ absurd (other (ap Some t.1)) | inr f ↦ rw f.0 refl ]
not_waiting_cases a actor (Some answer) other = elim (actor == a) as (λ b. (b && false) ≡ false) [ true ↦ refl | false ↦ refl ]

not_waiting : (a : ℕ) (row : Row) → waited_actor row ≢ Some a → row_waits_for a row ≡ false
not_waiting a row other = not_waiting_cases a row.actor row.answer other

none_waits : (a : ℕ) (rows : List Row) → ((j : ℕ) → j < length rows → found_at (map waited_actor rows) j ≢ Some a) → count_by (row_waits_for a) rows ≡ 0
none_waits a [] none = refl
none_waits a (row ∷ rows) none =
    let here : row_waits_for a row ≡ false = not_waiting a row (none 0 (omega arith)) in
    let first : cond (row_waits_for a row) 1 0 ≡ 0 = ap {B = ℕ} (λ b. cond b 1 0) here in
    omega (
      arith,
      sum_by-cons (λ row. cond (row_waits_for a row) 1 0) row rows,
      first,
      none_waits a rows (λ j below. none (suc j) (omega (arith, below))),
    )

none_waits_from : (a n : ℕ) (rows : List Row) → ((j : ℕ) → n ≤ j → j < length rows → found_at (map waited_actor rows) j ≢ Some a) →
    count_by (row_waits_for a) (drop n rows) ≡ 0
none_waits_from a zero rows none = none_waits a rows (λ j below. none j (omega arith) below)
none_waits_from a (suc n) [] none = refl
none_waits_from a (suc n) (row ∷ rows) none = none_waits_from a n rows (λ j above below. none (suc j) (omega (arith, above)) (omega (arith, below)))

pub last_waits : (a : ℕ) (rows now : List Row) (actors : List (Option ℕ)) (o : Option ℕ) → rows ≡ now → IsKnown rows actors →
    IsLastBelow actors a (length actors) o → IfSome o (λ k. count_by (row_waits_for a) (drop (k + 1) now) ≡ 0)
last_waits a rows now actors None seen known last = tt
last_waits a rows now actors (Some k) seen known last =
    rw (← seen)
    (none_waits_from a (k + 1) rows (λ j above below waits.
    last.2 j (omega (arith, above)) (omega (arith, below, ap length known, length-map rows waited_actor)) (ap (λ l. found_at l j) known ∙ waits)))

pub none_waiting : (a : ℕ) {rows now : List Row} {actors : List (Option ℕ)} (o : Option ℕ) → rows ≡ now → IsKnown rows actors →
    IsLastBelow actors a (length actors) o → IfNone o (count_by (row_waits_for a) now ≡ 0)
none_waiting a (Some k) seen known last = tt
none_waiting a {rows} None seen known last =
    rw (← seen)
    (none_waits a rows (λ j below waits. last j (omega (arith, below, ap length known, length-map rows waited_actor)) (ap (λ l. found_at l j) known ∙ waits)))

-- ---- the futures of a death, one by one

last_of_two : (here unknown : Bool) → (here && unknown) ≡ true → unknown ≡ true
last_of_two true unknown both = both
last_of_two false unknown both = absurd (cc both)

-- a future that waits for the actor, and the rows once it has its answer
pub waiting_row : (a k : ℕ) (answer : Result Value Fault) (rows : List Row) → waits_at a rows k ≡ true → (row : Row) × (k < length rows) ×
    (get_or rows k row ≡ row) × (row_waits_for a row ≡ true) × (after_keep k answer rows ≡ slice_set rows k (row_with_answer answer row))
waiting_row a k answer rows waits =
    elim (slice_get_cases rows k).1 [
      | inl found ↦
          let here : row_waits_for a found.0 ≡ true = sym (ap (λ o. option_map_or (row_waits_for a) o false) found.2) ∙ waits in (
            found.0,
            found.1,
            found.3,
            here,
            ap (after_keep_in k answer rows) found.2 ∙
                ap (λ b. if b then slice_set rows k (row_with_answer answer found.0) else rows) (last_of_two (found.0.actor == a) (is_open found.0) here),
          )
      | inr past ↦ let none : false ≡ true = sym (ap (λ o. option_map_or (row_waits_for a) o false) past.1) ∙ waits in absurd (cc none)
    ]

answered_waits : (a : ℕ) (answer : Result Value Fault) (row : Row) → row_waits_for a (row_with_answer answer row) ≡ false
answered_waits a answer row = elim (row.actor == a) as (λ b. (b && false) ≡ false) [ true ↦ refl | false ↦ refl ]

-- the death leaves the same once one of its futures has its answer
pub death-after_keep : (a k : ℕ) (rows : List Row) → waits_at a rows k ≡ true → rows_after_death a (after_keep k (Err ActorDied) rows) ≡ rows_after_death a rows
death-after_keep a k rows waits =
    let row = waiting_row a k (Err ActorDied) rows waits in let new = row_with_answer (Err ActorDied) row.0 in
    let stays : row_after_death a new ≡ new = ap (λ b. if b then row_with_answer (Err ActorDied) new else new) (answered_waits a (Err ActorDied) row.0) in
    let marked : row_after_death a row.0 ≡ new = ap (λ b. if b then row_with_answer (Err ActorDied) row.0 else row.0) row.3 in
    ap (rows_after_death a) row.4
    ∙ map-set_same (row_after_death a) rows k new row.0 (stays ∙ sym marked ∙ ap (row_after_death a) (sym row.2))

-- and one less waits for the actor
pub count-after_keep : (a k : ℕ) (answer : Result Value Fault) (rows : List Row) → waits_at a rows k ≡ true →
    count_by (row_waits_for a) (after_keep k answer rows) + 1 ≡ count_by (row_waits_for a) rows
count-after_keep a k answer rows waits =
    let row = waiting_row a k answer rows waits in
    ap (λ l. count_by (row_waits_for a) l + 1) row.4
    ∙ one_less (row_waits_for a) k rows row.0 (row_with_answer answer row.0) row.1 row.2 row.3 (answered_waits a answer row.0)

-- a death answers none where none waits
pub death-none : (a : ℕ) (rows : List Row) → count_by (row_waits_for a) rows ≡ 0 → rows_after_death a rows ≡ rows
death-none a [] none = refl
death-none a (row ∷ rows) none =
    elim (row_waits_for a row) as (λ b. cond b 1 0 + count_by (row_waits_for a) rows ≡ 0 →
    (if b then row_with_answer (Err ActorDied) row else row) ∷ rows_after_death a rows ≡ row ∷ rows) [
      | true ↦ λ some. absurd (omega (arith, some))
      | false ↦ λ rest. ap (λ l. row ∷ l) (death-none a rows (omega (arith, rest)))
    ] (sym (sum_by-cons (λ row. cond (row_waits_for a row) 1 0) row rows) ∙ none)
