-- What happened so far: a front of each caller's calls and of each actor's runs.
use Rattle.act_order_plays.proofs.Common.{◌≡◌, ℕ, zero, suc, ◌<◌, ◌==◌, inl, inr, Bool, true, false, cond, List, [], ◌∷◌, length, filter, take, Option, Some}
use Rattle.act_order_plays.proofs.Common.{None, slice_get, refl, sym, ap, subst, ◌∙◌, arith, filter_map, option_map, Contains, eqb-true, eq-eqb, slice_get-map}
use Rattle.act_order_plays.proofs.Common.{IsPrefix, element, slice_get_front, slice_get-filter, IsPrefix-filter, filter-slice_get, map-slice_get, Happening}
use Rattle.act_order_plays.proofs.Common.{Submitted, Ran, Run, Told, call_of, calls_run, SameCaller, RunsInTurn, calls_by, future_of, runs_by, get_taken}
use Rattle.act_order_plays.proofs.Common.{place_in, stands_in, IsIn, in_filter, get_in_taken}
use Rattle.act_order_plays.proofs.Lists.{filter_has, has_filter_map, filter_map_has, Once, below, below_at, below_has}
use Rattle.act_order_plays.proofs.Lists.{below_differ, cases_le}

abbrev pub submitted_in : Happening → Option ℕ
submitted_in (Submitted n) = Some n
submitted_in happening = None

abbrev pub ran_in : Happening → Option ℕ
ran_in (Ran n) = Some n
ran_in happening = None

-- the calls that were submitted, in the order of the happenings
abbrev pub submits : List Happening → List ℕ
submits before = filter_map submitted_in before

-- the calls that ran, in the order of the happenings
abbrev pub rans : List Happening → List ℕ
rans before = filter_map ran_in before

-- whether a call is this caller's
abbrev pub is_by : Told → ℕ → ℕ → Bool
is_by told c n = (call_of told n).caller == c

-- whether a call is to this actor
abbrev pub is_to : Told → ℕ → ℕ → Bool
is_to told a n = (call_of told n).actor == a

-- those that one caller submitted
abbrev pub subs_of : Told → List Happening → ℕ → List ℕ
subs_of told before c = filter (is_by told c) (submits before)

-- those that ran at one actor
abbrev pub rans_of : Told → List Happening → ℕ → List ℕ
rans_of told before a = filter (is_to told a) (rans before)

-- ---- membership

submitted_is : (x : Happening) (n : ℕ) → submitted_in x ≡ Some n → x ≡ Submitted n
submitted_is (Submitted m) n e = let same : m ≡ n = cc in ap (λ k. Submitted k) same
submitted_is x n e = absurd (cc)

ran_is : (x : Happening) (n : ℕ) → ran_in x ≡ Some n → x ≡ Ran n
ran_is (Ran m) n e = let same : m ≡ n = cc in ap (λ k. Ran k) same
ran_is x n e = absurd (cc)

pub submits_has : (before : List Happening) (n : ℕ) → IsIn before (Submitted n) → IsIn (submits before) n
submits_has before n has = has_filter_map submitted_in before n has refl

pub has_submits : (before : List Happening) (n : ℕ) → IsIn (submits before) n → IsIn before (Submitted n)
has_submits before n has = let r = filter_map_has submitted_in before has in subst (λ x. IsIn before x) (submitted_is r.0 n r.2) r.1

pub rans_has : (before : List Happening) (n : ℕ) → IsIn before (Ran n) → IsIn (rans before) n
rans_has before n has = has_filter_map ran_in before n has refl

pub has_rans : (before : List Happening) (n : ℕ) → IsIn (rans before) n → IsIn before (Ran n)
has_rans before n has = let r = filter_map_has ran_in before has in subst (λ x. IsIn before x) (ran_is r.0 n r.2) r.1

-- where a call's submission is among what happened, it stands among those that its caller submitted
pub subs_of_has : (told : Told) (before : List Happening) (n : ℕ) {c : ℕ} → IsIn before (Submitted n) → (call_of told n).caller ≡ c →
    IsIn (subs_of told before c) n
subs_of_has told before n {c} has is = in_filter (is_by told c) (submits_has before n has) (eq-eqb (call_of told n).caller c is)

-- a call that stands among those that a caller submitted has its submission among what happened
pub has_subs_of : (told : Told) (before : List Happening) (n c : ℕ) → IsIn (subs_of told before c) n → IsIn before (Submitted n)
has_subs_of told before n c has = has_submits before n (filter_has (is_by told c) (submits before) has).0

-- where a call's run is among what happened, it stands among those to its actor that ran
pub rans_of_has : (told : Told) (before : List Happening) (n a : ℕ) → IsIn before (Ran n) → (call_of told n).actor ≡ a → IsIn (rans_of told before a) n
rans_of_has told before n a has is = in_filter (is_to told a) (rans_has before n has) (eq-eqb (call_of told n).actor a is)

-- a call that stands among those to an actor that ran has its run among what happened, and is to that actor
pub has_rans_of : (told : Told) (before : List Happening) (n a : ℕ) → IsIn (rans_of told before a) n → IsIn before (Ran n) × ((call_of told n).actor ≡ a)
has_rans_of told before n a has = let both = filter_has (is_to told a) (rans before) has in (has_rans before n both.0, eqb-true (call_of told n).actor a both.1)

-- ---- where calls and runs stand

-- a call stands at its future among its caller's calls
pub call_at : (told : Told) (n : ℕ) → n < length told.calls → slice_get (calls_by told (call_of told n).caller) (future_of told n) ≡ Some n
call_at told n lt = below_at (is_by told (call_of told n).caller) (length told.calls) n lt (eq-eqb (call_of told n).caller (call_of told n).caller refl)

-- those before it there are lower calls of its caller
pub call_before : (told : Told) (n j y : ℕ) → n < length told.calls → j < future_of told n → slice_get (calls_by told (call_of told n).caller) j ≡ Some y →
    (y < n) × SameCaller told y n
call_before told n j y lt less at =
    let p = is_by told (call_of told n).caller in let one = element (below p n) j less in let is = below_has p n j one.1 in let short = is.less in
    let there = below_at p (length told.calls) one.0 (omega arith) is.passes in
    let place : slice_get (below p (length told.calls)) j ≡ Some one.0 =
    subst (λ k. slice_get (below p (length told.calls)) k ≡ Some one.0) (sym is.place) there in
    let same : one.0 ≡ y = cc in subst (λ k. (k < n) × SameCaller told k n) same (short, eqb-true (call_of told one.0).caller (call_of told n).caller is.passes)

-- no call stands twice among those of a caller
pub calls_differ : (told : Told) (c : ℕ) → Once (calls_by told c)
calls_differ told c = below_differ (is_by told c) (length told.calls)

-- the run of a call
pub record IsRunAt (told : Told) (n p : ℕ) (run : Run) : Type 0 where
  pub at : slice_get told.runs p ≡ Some run
  pub call : run.call ≡ n

-- a call that is among those of the run lists has a run there, at a place
pub run_at : (told : Told) (n : ℕ) → Contains (calls_run told) n → (p : ℕ) × (run : Run) × IsRunAt told n p run
run_at told n has =
    let h = place_in (calls_run told) n has in let r = map-slice_get (λ (run : Run). run.call) told.runs h.0 h.1 in (h.0, r.0, record { at = r.1; call = r.2 })

-- whether a run is of this actor
abbrev pub is_run_of : ℕ → Run → Bool
is_run_of a run = run.actor == a

-- the first items of a list are a prefix of it
pub take_front : {A : Type 0} (i : ℕ) (xs : List A) → IsPrefix (take i xs) xs
take_front zero xs = (xs, refl)
take_front (suc i) [] = ([], refl)
take_front (suc i) (x ∷ xs) = let f = take_front i xs in (f.0, ap (λ l. x ∷ l) f.1)

-- the place among the actor's runs
abbrev pub rank : Told → ℕ → ℕ → ℕ
rank told a p = length (filter (is_run_of a) (take p told.runs))

-- a run's call stands among those of its actor's runs behind as many as the actor ran before it
pub run_ranks : (told : Told) (p : ℕ) {run : Run} → slice_get told.runs p ≡ Some run →
    slice_get (runs_by told run.actor) (rank told run.actor p) ≡ Some run.call
run_ranks told p {run} at =
    slice_get-map (λ (r : Run). r.call) (filter (is_run_of run.actor) told.runs) (rank told run.actor p)
    ∙ ap (option_map (λ (r : Run). r.call)) (slice_get-filter (is_run_of run.actor) told.runs p at (eq-eqb run.actor run.actor refl))

-- those before it there are earlier runs of the actor
pub run_before : (told : Told) (a p j y : ℕ) → j < rank told a p → slice_get (runs_by told a) j ≡ Some y →
    (q : ℕ) × (run : Run) × (q < p) × (run.actor ≡ a) × IsRunAt told y q run
run_before told a p j y less at =
    let one = element (filter (is_run_of a) (take p told.runs)) j less in let place = filter-slice_get (is_run_of a) (take p told.runs) j one.1 in
    let early = get_taken p told.runs place.place place.at in
    let there : slice_get (filter (is_run_of a) told.runs) j ≡ Some one.0 =
    slice_get_front _ _ j (IsPrefix-filter (is_run_of a) (take p told.runs) told.runs (take_front p told.runs)) one.1 in
    let call : slice_get (runs_by told a) j ≡ Some one.0.call =
    slice_get-map (λ (r : Run). r.call) (filter (is_run_of a) told.runs) j ∙ ap (option_map (λ (r : Run). r.call)) there in
    (place.place, one.0, early.0, eqb-true one.0.actor a place.passes, record { at = early.1; call = cc })

-- ---- no call ran twice

abbrev Apart : List Run → Type 0
Apart runs = (i j : ℕ) (one next : Run) → slice_get runs i ≡ Some one → slice_get runs j ≡ Some next → one.call ≡ next.call → i ≡ j

apart_tail : (run : Run) (runs : List Run) → Apart (run ∷ runs) → Apart runs
apart_tail run runs apart i j one next at there same = let e : suc i ≡ suc j = apart (suc i) (suc j) one next at there same in omega arith

apart_filter : (p : Run → Bool) (runs : List Run) → Apart runs → Apart (filter p runs)
apart_filter p [] apart i j one next at there same = absurd (cc)
apart_filter p (run ∷ runs) apart i j one next at there same = go (p run) i j (apart_filter p runs (apart_tail run runs apart)) at there
  where
    first : (k : ℕ) (other : Run) → slice_get (filter p runs) k ≡ Some other → run.call ≡ other.call → ⊥
    first k other at is =
        let place = filter-slice_get p runs k at in
        let e : 0 ≡ suc place.place = apart 0 (suc place.place) run other refl place.at is in absurd (omega arith)

    go : (b : Bool) (i j : ℕ) → Apart (filter p runs) → slice_get (cond b (run ∷ filter p runs) (filter p runs)) i ≡ Some one →
        slice_get (cond b (run ∷ filter p runs) (filter p runs)) j ≡ Some next → i ≡ j
    go false i j rest at there = rest i j one next at there same
    go true zero zero rest at there = refl
    go true zero (suc j) rest at there = let is : run ≡ one = cc in absurd (first j next there (ap (λ (r : Run). r.call) is ∙ same))
    go true (suc i) zero rest at there = let is : run ≡ next = cc in absurd (first i one at (ap (λ (r : Run). r.call) is ∙ sym same))
    go true (suc i) (suc j) rest at there = ap (λ k. suc k) (rest i j one next at there same)

-- a call in the run lists before a place ran there
pub ran_earlier : (told : Told) (i n : ℕ) → Contains (take i (calls_run told)) n → (j : ℕ) × (run : Run) × (j < i) × IsRunAt told n j run
ran_earlier told i n has =
    let h = place_in (take i (calls_run told)) n has in let early = get_taken i (calls_run told) h.0 h.1 in
    let r = map-slice_get (λ (run : Run). run.call) told.runs h.0 early.1 in (h.0, r.0, early.0, record { at = r.1; call = r.2 })

pub runs_earlier : (told : Told) (i j : ℕ) (run : Run) → j < i → slice_get told.runs j ≡ Some run → Contains (take i (calls_run told)) run.call
runs_earlier told i j run lt at = stands_in (take i (calls_run told)) j
    (get_in_taken i (calls_run told) j (slice_get-map (λ (r : Run). r.call) told.runs j ∙ ap (option_map (λ (r : Run). r.call)) at) lt)

apart : (told : Told) → RunsInTurn told → Apart told.runs
apart told turn i j one next at there same = elim (cases_le i j) [
  | inl a ↦ elim (cases_le j i) [
    | inl b ↦ omega arith
    | inr b ↦ absurd ((turn j next there).once (subst (λ k. Contains (take j (calls_run told)) k) same (runs_earlier told j i one b at)))
  ]
  | inr b ↦ absurd ((turn i one at).once (subst (λ k. Contains (take i (calls_run told)) k) (sym same) (runs_earlier told i j next b there)))
]

-- where runs are in turn, no call stands twice among those that an actor ran
pub runs_differ : (told : Told) (a : ℕ) → RunsInTurn told → Once (runs_by told a)
runs_differ told a turn i j x at there =
    let one = map-slice_get (λ (r : Run). r.call) (filter (is_run_of a) told.runs) i at in
    let next = map-slice_get (λ (r : Run). r.call) (filter (is_run_of a) told.runs) j there in
    apart_filter (is_run_of a) told.runs (apart told turn) i j one.0 next.0 one.1 next.1 (one.2 ∙ sym next.2)
