-- Answers: what a first answer and a death leave in the futures.
use Rattle.act_owner.proofs.Common.{◌≡◌, ℕ, zero, suc, ◌+◌, ◌==◌, ◌&&◌, ◌||◌, ◌<◌, unwrap_or, Bool, true, false, not, cond, if◌then◌else◌, List, [], ◌∷◌, ◌++◌}
use Rattle.act_owner.proofs.Common.{length, map, drop, get_or, count_by, nat_lt, Option, Some, None, is_some, Err, refl, sym, ◌∙◌, ap, arith, slice_get}
use Rattle.act_owner.proofs.Common.{slice_set, zip, nat_eq, list_all, list_any, ne_eqb, lt-ltb, map-set, sum_by-cons, ActorDied, Answer, kept_at}
use Rattle.act_owner.proofs.Common.{slice_get_last, Handle, Row, Call, Reply, copies_in, First, Late, Stray, Died}
use Rattle.act_replies.specs.Table.{is_open, row_waits_for as row_waits_for, unanswered_row, row_with_answer, after_keep, after_keep_in, row_after_death}
use Rattle.act_replies.specs.Table.{rows_after_death as rows_after_death}
use Rattle.act_owner.specs.Owner.{OwnerView, is_death, is_sent, is_to, collected_reply, with_kept_answer as owner_with_answer, after_reply_that, after_reply}
use Rattle.act_owner.specs.Owner.{with_death, with_sent, collected_death, owner_after_death, submission_of, answers_of, answered_row, call_waits_for}
use Rattle.act_owner.specs.Owner.{answer_after_death, KnowsAnswers, IsOwner}
use Rattle.act_resolver.specs.Resolver.{Entered, with_told, with_mark as with_sent_entered}
use Rattle.act_owner.proofs.Calls.{set_last}
use Rattle.act_owner.proofs.Waiting.{seen, read_stays, read_set}

answered_cases : (answer : Option Answer) (n : ℕ) {rest : Bool} → nat_eq n 0 ≡ rest → nat_eq (cond (not (is_some answer)) 1 0 + n) 0 ≡ (is_some answer && rest)
answered_cases None n e = ne_eqb (1 + n) 0 (λ same. omega (arith, same))
answered_cases (Some answer) n e = let plain : 0 + n ≡ n = omega arith in ap (λ m. nat_eq m 0) plain ∙ e

-- no future is open where each has an answer
pub all_answered : (rows : List Row) → nat_eq (count_by is_open rows) 0 ≡ list_all is_some (answers_of rows)
all_answered [] = refl
all_answered (row ∷ rows) =
    ap (λ n. nat_eq n 0) (sum_by-cons (λ r. cond (is_open r) 1 0) row rows)
    ∙ answered_cases row.answer (count_by is_open rows) (all_answered rows)

-- a new future that is answered at once
pub keep_last : (rows : List Row) (a : ℕ) → after_keep (length rows) (Err ActorDied) (rows ++ unanswered_row a ∷ []) ≡ rows ++ answered_row a true ∷ []
keep_last rows a =
    ap (after_keep_in (length rows) (Err ActorDied) (rows ++ unanswered_row a ∷ [])) (slice_get_last rows (unanswered_row a))
    ∙ set_last rows (unanswered_row a) (answered_row a true)

-- an answer for a later future leaves the first one
after_keep-later : (k : ℕ) (answer : Answer) (row : Row) (rows : List Row) → after_keep (suc k) answer (row ∷ rows) ≡ row ∷ after_keep k answer rows
after_keep-later k answer row rows =
    elim (slice_get rows k) as (λ found. after_keep_in (suc k) answer (row ∷ rows) found ≡ row ∷ after_keep_in k answer rows found) [
      | None ↦ refl
      | Some r ↦ elim (is_open r) as (λ b. (if b then slice_set (row ∷ rows) (suc k) (row_with_answer answer r) else row ∷ rows) ≡
          row ∷ (if b then slice_set rows k (row_with_answer answer r) else rows)) [ true ↦ refl | false ↦ refl ]
    ]

keep_first : (answer : Answer) (row : Row) (rows : List Row) → is_some row.answer ≡ false →
    answers_of (if is_open row then row_with_answer answer row ∷ rows else row ∷ rows) ≡ Some answer ∷ answers_of rows
keep_first answer row rows none = rw none refl

-- the answers after a first answer
pub keep_open : (k : ℕ) (answer : Answer) (rows : List Row) → is_some (kept_at (answers_of rows) k) ≡ false →
    answers_of (after_keep k answer rows) ≡ slice_set (answers_of rows) k (Some answer)
keep_open k answer [] none = refl
keep_open zero answer (row ∷ rows) none = keep_first answer row rows none
keep_open (suc k) answer (row ∷ rows) none =
    ap answers_of (after_keep-later k answer row rows)
    ∙ ap (λ rest. row.answer ∷ rest) (keep_open k answer rows none)

-- the futures stay those of their actors
actors-after_keep : (k : ℕ) (answer : Answer) (rows : List Row) → map (λ row. row.actor) (after_keep k answer rows) ≡ map (λ row. row.actor) rows
actors-after_keep k answer [] = refl
actors-after_keep zero answer (row ∷ rows) =
    elim (is_open row) as (λ b. map (λ (r : Row). r.actor) (if b then row_with_answer answer row ∷ rows else row ∷ rows) ≡ map (λ (r : Row). r.actor)
    (row ∷ rows)) [ true ↦ refl | false ↦ refl ]
actors-after_keep (suc k) answer (row ∷ rows) =
    ap (map (λ (r : Row). r.actor)) (after_keep-later k answer row rows)
    ∙ ap (λ rest. row.actor ∷ rest) (actors-after_keep k answer rows)

actors-after_death : (a : ℕ) (rows : List Row) → map (λ row. row.actor) (rows_after_death a rows) ≡ map (λ row. row.actor) rows
actors-after_death a [] = refl
actors-after_death a (row ∷ rows) =
    ap (λ n. n ∷ map (λ (r : Row). r.actor) (rows_after_death a rows))
    (elim (row_waits_for a row) as (λ b. (if b then row_with_answer (Err ActorDied) row else row).actor ≡ row.actor) [ true ↦ refl | false ↦ refl ])
    ∙ ap (λ rest. row.actor ∷ rest) (actors-after_death a rows)

with_answers : {handles : List Handle} {calls : List Call} {rows : List Row} (new : List Row) {entered : List Entered} (entered2 : List Entered) →
    IsOwner handles calls rows entered → map (λ row. row.actor) new ≡ map (λ row. row.actor) rows →
    map (λ call. call.futures) entered2 ≡ map (λ call. call.futures) entered → KnowsAnswers entered2 new → IsOwner handles calls new entered2
with_answers new entered2 fine same waits told = record {
  numbered = fine.numbered;
  actors = same ∙ fine.actors;
  waits = waits ∙ fine.waits;
  told = told;
  given = fine.given;
  given_in_all = fine.given_in_all;
  few = fine.few;
}

is_answered-map : (rows : List Row) → map (λ row. is_some row.answer) rows ≡ map is_some (answers_of rows)
is_answered-map [] = refl
is_answered-map (row ∷ rows) = ap (λ rest. is_some row.answer ∷ rest) (is_answered-map rows)

-- a caller after a call was sent
pub sent_fine : (k : ℕ) {handles : List Handle} {calls : List Call} {rows : List Row} {entered entered2 : List Entered} → IsOwner handles calls rows entered →
    entered2 ≡ with_sent_entered entered k → IsOwner handles calls rows entered2
sent_fine k {handles} {calls} {rows} {entered} fine is =
    rw is (with_answers rows (with_sent_entered entered k) fine refl (read_stays (λ (call : Entered). call.futures) (λ call. record call { sent = true })
    (λ _. refl) entered k) (read_stays (λ (call : Entered). call.answered) (λ call. record call { sent = true }) (λ _. refl) entered k ∙ fine.told))

-- a caller after an answer
pub kept_fine : (k : ℕ) (answer : Answer) {handles : List Handle} {calls : List Call} {rows new : List Row} {entered entered2 : List Entered} →
    IsOwner handles calls rows entered → is_some (kept_at (answers_of rows) k) ≡ false → new ≡ after_keep k answer rows → entered2 ≡ with_told entered k →
    IsOwner handles calls new entered2
kept_fine k answer {handles} {calls} {rows} {entered} fine none is told =
    rw (is, told) (with_answers (after_keep k answer rows) (with_told entered k) fine (actors-after_keep k answer rows) (read_stays (λ (call : Entered).
    call.futures) (λ call. record call { answered = true }) (λ _. refl) entered k) (read_set (λ (call : Entered). call.answered) (λ call. record call
    { answered = true }) true (λ _. refl) entered k ∙ ap (λ flags. slice_set flags k true) (fine.told ∙ is_answered-map rows) ∙ sym (map-set is_some
    (answers_of rows) k (Some answer)) ∙ ap (map is_some) (sym (keep_open k answer rows none)) ∙ sym (is_answered-map (after_keep k answer rows))))

-- a caller after a death
pub died_fine : (a : ℕ) {handles : List Handle} {calls : List Call} {rows new : List Row} {entered : List Entered} (entered2 : List Entered) →
    IsOwner handles calls rows entered → new ≡ rows_after_death a rows → map (λ call. call.futures) entered2 ≡ map (λ call. call.futures) entered →
    KnowsAnswers entered2 (rows_after_death a rows) → IsOwner handles calls new entered2
died_fine a {handles} {calls} {rows} {entered} entered2 fine is waits told =
    rw is (with_answers (rows_after_death a rows) entered2 fine (actors-after_death a rows) waits told)

-- whether a future waits for its actor, by its call and by its row
waits_same : (a : ℕ) (row : Row) (call : Call) → row.actor ≡ call.actor → row_waits_for a row ≡ call_waits_for a (submission_of call, row.answer)
waits_same a row call same = ap (λ n. (n == a) && not (is_some row.answer)) same

row_answer : (a : ℕ) (row : Row) → (row_after_death a row).answer ≡ (if row_waits_for a row then Some (Err ActorDied) else row.answer)
row_answer a row = elim (row_waits_for a row) as
    (λ b. (if b then row_with_answer (Err ActorDied) row else row).answer ≡ (if b then Some (Err ActorDied) else row.answer)) [ true ↦ refl | false ↦ refl ]

-- the answers after a death
pub died_answers : (a : ℕ) (rows : List Row) (calls : List Call) → map (λ row. row.actor) rows ≡ map (λ call. call.actor) calls →
    answers_of (rows_after_death a rows) ≡ map (answer_after_death a) (zip (map submission_of calls) (answers_of rows))
died_answers a [] [] same = refl
died_answers a [] (call ∷ calls) same = refl
died_answers a (row ∷ rows) [] same = let none : length (map (λ (r : Row). r.actor) (row ∷ rows)) ≡ 0 = ap length same in absurd (omega (arith, none))
died_answers a (row ∷ rows) (call ∷ calls) same =
    ap (λ answer. answer ∷ answers_of (rows_after_death a rows))
    (row_answer a row ∙ ap (λ b. if b then Some (Err ActorDied) else row.answer) (waits_same a row call (ap (λ l. get_or l 0 0) same)))
    ∙ ap (λ rest. answer_after_death a (submission_of call, row.answer) ∷ rest) (died_answers a rows calls (ap (drop 1) same))

-- how many calls of an actor wait, by the rows and by the calls
pub pending_count : (a : ℕ) (rows : List Row) (calls : List Call) → map (λ row. row.actor) rows ≡ map (λ call. call.actor) calls →
    count_by (row_waits_for a) rows ≡ count_by (call_waits_for a) (zip (map submission_of calls) (answers_of rows))
pending_count a [] [] same = refl
pending_count a [] (call ∷ calls) same = refl
pending_count a (row ∷ rows) [] same = let none : length (map (λ (r : Row). r.actor) (row ∷ rows)) ≡ 0 = ap length same in absurd (omega (arith, none))
pending_count a (row ∷ rows) (call ∷ calls) same =
    let pairs = zip (map submission_of calls) (answers_of rows) in
    omega (
      arith,
      sum_by-cons (λ r. cond (row_waits_for a r) 1 0) row rows,
      sum_by-cons (λ pair. cond (call_waits_for a pair) 1 0) (submission_of call, row.answer) pairs,
      ap {B = ℕ} (λ b. cond b 1 0) (waits_same a row call (ap (λ l. get_or l 0 0) same)),
      pending_count a rows calls (ap (drop 1) same),
    )

-- what the first answer of a future tells of it
pub first_is : (owner : OwnerView) (reply : Reply) {k : ℕ} → First k ≡ collected_reply owner reply →
    (is_sent owner k ≡ true) × (is_some (kept_at owner.kept k) ≡ false)
first_is owner reply {k} is =
    go (reply.caller == owner.id) (is_to reply.actor (slice_get owner.calls reply.future)) (is_sent owner reply.future) (is_death reply.answer)
    (is_some (kept_at owner.kept reply.future)) refl refl is
  where
    go : (a b sent d known : Bool) → is_sent owner reply.future ≡ sent → is_some (kept_at owner.kept reply.future) ≡ known → First k ≡ (if a && b && sent &&
        not d then (if known then Late reply.future else First reply.future) else Stray) → (is_sent owner k ≡ true) × (is_some (kept_at owner.kept k) ≡ false)
    go true true true false false s u is = let same : k ≡ reply.future = cc is in rw same (s, u)
    go a b sent d known s u is = absurd (cc is)

-- a caller after the first answer of a future
pub reply_kept : (id : ℕ) (handles : List Handle) (calls : List Call) (rows : List Row) {new : List Row} (entered : List Entered) {entered2 : List Entered}
    (dead : List Bool) (limits : List (ℕ × Option ℕ)) {now : OwnerView} (reply : Reply) (k : ℕ) → seen id handles calls rows entered dead limits ≡ now →
    new ≡ after_keep k reply.answer rows → entered2 ≡ with_told entered k → First k ≡ collected_reply now reply →
    seen id handles calls new entered2 dead limits ≡ after_reply now reply
reply_kept id handles calls rows {new} entered dead limits {now} reply k same is told first =
    let before : is_some (kept_at (answers_of rows) k) ≡ false =
    ap (λ (owner : OwnerView). is_some (kept_at owner.kept k)) same ∙ (first_is now reply first).1 in
    ap (λ sent. record (seen id handles calls new entered dead limits) { sent = sent }) (ap (map (λ (call : Entered). call.sent)) told ∙
    read_stays (λ (call : Entered). call.sent) (λ call. record call { answered = true }) (λ _. refl) entered k)
    ∙ ap (λ kept. record (seen id handles calls rows entered dead limits) { kept = kept }) (ap answers_of is ∙ keep_open k reply.answer rows before)
    ∙ ap (λ owner. owner_with_answer owner k reply.answer) same
    ∙ ap (λ told. after_reply_that told now reply) first

-- a call that was sent was entered
pub sent_within : (entered : List Entered) (k : ℕ) → unwrap_or (slice_get (map (λ call. call.sent) entered) k) false ≡ true → k < length entered
sent_within [] k is = absurd (cc is)
sent_within (call ∷ entered) zero is = omega arith
sent_within (call ∷ entered) (suc k) is = let rest = sent_within entered k is in omega (arith, rest)

-- a caller after a call was sent
pub sent_marked : (id : ℕ) (handles : List Handle) (calls : List Call) (rows : List Row) (entered : List Entered) {entered2 : List Entered} (dead : List Bool)
    (limits : List (ℕ × Option ℕ)) {now : OwnerView} (k : ℕ) → seen id handles calls rows entered dead limits ≡ now → entered2 ≡ with_sent_entered entered k →
    seen id handles calls rows entered2 dead limits ≡ with_sent now k
sent_marked id handles calls rows entered dead limits k same is =
    ap (λ sent. record (seen id handles calls rows entered dead limits) { sent = sent }) (ap (map (λ (call : Entered). call.sent)) is ∙
    read_set (λ (call : Entered). call.sent) (λ call. record call { sent = true }) true (λ _. refl) entered k)
    ∙ ap (λ owner. with_sent owner k) same

-- a death answers calls of the caller's actors alone
pub died_listed : (owner : OwnerView) (a n : ℕ) → Died n ≡ collected_death owner a → is_some (copies_in a owner.handles) ≡ true
died_listed owner a n is = go (is_some (copies_in a owner.handles)) is
  where
    go : (listed : Bool) → Died n ≡ (if listed then Died (count_by (call_waits_for a) (zip owner.calls owner.kept)) else Stray) → listed ≡ true
    go true is = refl
    go false is = absurd (cc is)

-- a caller after the death of one of its actors
pub death_kept : (id : ℕ) (handles : List Handle) (calls : List Call) (rows : List Row) {new : List Row} (entered entered2 : List Entered) (dead : List Bool)
    (limits : List (ℕ × Option ℕ)) {now : OwnerView} (a : ℕ) {number : ℕ} → seen id handles calls rows entered dead limits ≡ now → map (λ row. row.actor) rows ≡
    map (λ call. call.actor) calls → is_some (copies_in a now.handles) ≡ true → new ≡ rows_after_death a rows → map (λ call. call.sent) entered2 ≡ map
    (λ call. call.sent) entered → number ≡ a → seen id handles calls new entered2 (slice_set dead number true) limits ≡ owner_after_death now a
death_kept id handles calls rows {new} entered entered2 dead limits {now} a {number} same actors listed is sent here =
    let before = seen id handles calls rows entered dead limits in
    ap (λ flags. record (seen id handles calls new entered (slice_set dead number true) limits) { sent = flags }) sent
    ∙ ap (λ rs. seen id handles calls rs entered (slice_set dead number true) limits) is
    ∙ ap (λ b. seen id handles calls (rows_after_death a rows) entered (slice_set dead b true) limits) here
    ∙ ap (λ kept. record before { kept = kept; dead = slice_set dead a true }) (died_answers a rows calls actors)
    ∙ ap (λ owner. with_death owner a) same
    ∙ sym (ap (λ b. if b then with_death now a else now) listed)

-- the flag that was set is read
pub dead_known : (dead : List Bool) (number a : ℕ) → number ≡ a → number < length dead → unwrap_or (slice_get (slice_set dead number true) a) false ≡ true
dead_known [] number a same below = absurd (omega arith)
dead_known (b ∷ dead) zero zero same below = refl
dead_known (b ∷ dead) zero (suc a) same below = absurd (omega (arith, same))
dead_known (b ∷ dead) (suc number) zero same below = absurd (omega (arith, same))
dead_known (b ∷ dead) (suc number) (suc a) same below = dead_known dead number a (omega (arith, same)) (omega arith)

-- something passes where more than none are counted
pub any_counted : {X : Type 0} (p : X → Bool) (xs : List X) → nat_lt 0 (count_by p xs) ≡ list_any p xs
any_counted p [] = refl
any_counted p (x ∷ xs) = by_first (p x) (count_by p xs) (sum_by-cons (λ y. cond (p y) 1 0) x xs) (any_counted p xs)
  where
    by_first : (b : Bool) (n : ℕ) {all : ℕ} {rest : Bool} → all ≡ cond b 1 0 + n → nat_lt 0 n ≡ rest → nat_lt 0 all ≡ (b || rest)
    by_first true n {all} sum tail = lt-ltb 0 all (omega arith)
    by_first false n {all} sum tail = let same : all ≡ n = omega arith in rw same tail
