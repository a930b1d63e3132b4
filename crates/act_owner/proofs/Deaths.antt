-- Telling the resolver the futures that a death answers, one by one.
use Rattle.act_owner.proofs.Common.{◌≡◌, ℕ, ◌<◌, true, List, length, map, is_some, refl, sym, ◌∙◌, ap, arith, slice_set, length-map, map-set, Answer, Row}
use Rattle.act_owner.proofs.Common.{waits_at, row_with_answer, after_keep, waiting_row, Entered, with_told, KnowsAnswers}
use Rattle.act_owner.proofs.Waiting.{read_set, read_stays}

-- a future that waits was entered
pub waits_within : (a k : ℕ) (answer : Answer) (rows : List Row) (entered : List Entered) → waits_at a rows k ≡ true → KnowsAnswers entered rows →
    k < length entered
waits_within a k answer rows entered waits told =
    omega (
      arith,
      (waiting_row a k answer rows waits).1,
      sym (length-map entered (λ (call : Entered). call.answered)) ∙ ap length told ∙ length-map rows (λ (row : Row). is_some row.answer),
    )

-- a future that is answered is told
pub told_step : (a k : ℕ) (answer : Answer) (rows : List Row) {new : List Row} (entered : List Entered) {entered2 : List Entered} → waits_at a rows k ≡ true →
    KnowsAnswers entered rows → new ≡ after_keep k answer rows → entered2 ≡ with_told entered k → KnowsAnswers entered2 new
told_step a k answer rows entered waits told is is2 =
    let row = waiting_row a k answer rows waits in
    ap (map (λ (call : Entered). call.answered)) is2
    ∙ read_set (λ (call : Entered). call.answered) (λ call. record call { answered = true }) true (λ _. refl) entered k
    ∙ ap (λ flags. slice_set flags k true) told
    ∙ sym (map-set (λ (row : Row). is_some row.answer) rows k (row_with_answer answer row.0))
    ∙ ap (map (λ (row : Row). is_some row.answer)) (sym row.4)
    ∙ ap (map (λ (row : Row). is_some row.answer)) (sym is)

-- nothing else of the calls is changed
pub futures_step : (k : ℕ) (entered : List Entered) {entered2 : List Entered} → entered2 ≡ with_told entered k →
    map (λ call. call.futures) entered2 ≡ map (λ call. call.futures) entered
futures_step k entered is =
    ap (map (λ (call : Entered). call.futures)) is
    ∙ read_stays (λ (call : Entered). call.futures) (λ call. record call { answered = true }) (λ _. refl) entered k

pub sent_step : (k : ℕ) (entered : List Entered) {entered2 : List Entered} → entered2 ≡ with_told entered k →
    map (λ call. call.sent) entered2 ≡ map (λ call. call.sent) entered
sent_step k entered is =
    ap (map (λ (call : Entered). call.sent)) is
    ∙ read_stays (λ (call : Entered). call.sent) (λ call. record call { answered = true }) (λ _. refl) entered k
