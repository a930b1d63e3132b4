-- What the resolver knows of a caller's calls: what each waits for, what was told, and which is ready.
use Rattle.act_owner.proofs.Common.{◌≡◌, ℕ, zero, suc, ◌<◌, ◌&&◌, Bool, true, false, not, cond, List, [], ◌∷◌, ◌++◌, length, map, Option, Some, None, is_some}
use Rattle.act_owner.proofs.Common.{inl, inr, refl, sym, ◌∙◌, ap, arith, slice_get, slice_set, find, unwrap_or, option_map, nat_lt, All}
use Rattle.act_owner.proofs.Common.{list_all, range_with_len, option_map_or, length-map, slice_get-map, leb_tells, and_parts, Arg, Plain, Fut, Answer}
use Rattle.act_owner.proofs.Common.{slice_get_last, Handle, Row, Entered, changed_at, new_call, with_told, is_answered, is_marked_sent, is_told, is_next_ready}
use Rattle.act_owner.proofs.Common.{least_ready, Call, Submission}
use Rattle.std.specs.Option.{option_and_then}
use Rattle.act_rules.specs.Submissions.{kept_at, is_earlier, is_known as is_known_arg}
use Rattle.act_owner.specs.Owner.{call_at, numbered_call, OwnerView, submission_of, answers_of, futures_of_args, entered_call, KnowsAnswers, IsOwner}
use Rattle.act_owner.specs.Owner.{is_known_call, is_sent as owner_is_sent, is_ready as owner_is_ready, first_ready as owner_first_ready}
use Rattle.act_owner.proofs.Calls.{set_last}
use Rattle.act_rules.proofs.Elements.{found_passes}

-- one caller, seen through its parts
abbrev pub seen : ℕ → List Handle → List Call → List Row → List Entered → List Bool → List (ℕ × Option ℕ) → OwnerView
seen id handles calls rows entered dead limits = record {
  id = id;
  handles = handles;
  calls = map submission_of calls;
  sent = map (λ call. call.sent) entered;
  kept = answers_of rows;
  dead = dead;
  limits = limits;
}

-- ---- a change of one call

changed-later : (first : Entered) (entered : List Entered) (k : ℕ) (change : Entered → Entered) →
    changed_at (first ∷ entered) (suc k) change ≡ first ∷ changed_at entered k change
changed-later first entered k change =
    elim (slice_get entered k) as (λ found. option_map_or (λ call. slice_set (first ∷ entered) (suc k) (change call)) found
    (first ∷ entered) ≡ first ∷ option_map_or (λ call. slice_set entered k (change call)) found entered) [ None ↦ refl | Some call ↦ refl ]

-- what the change leaves of a call
pub read_stays : {X : Type 0} (read : Entered → X) (change : Entered → Entered) → ((call : Entered) → read (change call) ≡ read call) →
    (entered : List Entered) (k : ℕ) → map read (changed_at entered k change) ≡ map read entered
read_stays read change same [] k = refl
read_stays read change same (first ∷ entered) zero = ap (λ x. x ∷ map read entered) (same first)
read_stays read change same (first ∷ entered) (suc k) =
    ap (map read) (changed-later first entered k change) ∙ ap (λ rest. read first ∷ rest) (read_stays read change same entered k)

-- what the change writes into it
pub read_set : {X : Type 0} (read : Entered → X) (change : Entered → Entered) (x : X) → ((call : Entered) → read (change call) ≡ x) →
    (entered : List Entered) (k : ℕ) → map read (changed_at entered k change) ≡ slice_set (map read entered) k x
read_set read change x writes [] k = refl
read_set read change x writes (first ∷ entered) zero = ap (λ y. y ∷ map read entered) (writes first)
read_set read change x writes (first ∷ entered) (suc k) =
    ap (map read) (changed-later first entered k change) ∙ ap (λ rest. read first ∷ rest) (read_set read change x writes entered k)

-- ---- what was told, and sent

is_told-read : (k : ℕ) (entered : List Entered) → is_answered entered k ≡ unwrap_or (slice_get (map (λ call. call.answered) entered) k) false
is_told-read k entered =
    rw (slice_get-map (λ (call : Entered). call.answered) entered k)
    (elim (slice_get entered k) as (λ found. option_map_or (λ (call : Entered). call.answered) found false ≡ unwrap_or
    (option_map (λ (call : Entered). call.answered) found) false) [ None ↦ refl | Some call ↦ refl ])

is_answered-read : (k : ℕ) (rows : List Row) → is_some (kept_at (answers_of rows) k) ≡ unwrap_or (slice_get (map (λ row. is_some row.answer) rows) k) false
is_answered-read k rows =
    rw (slice_get-map (λ (row : Row). row.answer) rows k, slice_get-map (λ (row : Row). is_some row.answer) rows k)
    (elim (slice_get rows k) as (λ found. is_some (option_and_then (λ answer. answer) (option_map (λ (row : Row). row.answer) found)) ≡ unwrap_or
    (option_map (λ (row : Row). is_some row.answer) found) false) [ None ↦ refl | Some row ↦ refl ])

told_same : (k : ℕ) (entered : List Entered) (rows : List Row) → KnowsAnswers entered rows → is_answered entered k ≡ is_some (kept_at (answers_of rows) k)
told_same k entered rows told = is_told-read k entered ∙ ap (λ flags. unwrap_or (slice_get flags k) false) told ∙ sym (is_answered-read k rows)

pub sent_same : (k : ℕ) (entered : List Entered) → is_marked_sent entered k ≡ unwrap_or (slice_get (map (λ call. call.sent) entered) k) false
sent_same k entered =
    rw (slice_get-map (λ (call : Entered). call.sent) entered k)
    (elim (slice_get entered k) as (λ found. option_map_or (λ (call : Entered). call.sent) found false ≡ unwrap_or
    (option_map (λ (call : Entered). call.sent) found) false) [ None ↦ refl | Some call ↦ refl ])

-- ---- what a call waits for

args_same : (entered : List Entered) (kept : List (Option Answer)) → ((k : ℕ) → is_answered entered k ≡ is_some (kept_at kept k)) → (args : List Arg) →
    list_all (is_answered entered) (futures_of_args args) ≡ list_all (is_known_arg kept) args
args_same entered kept same [] = refl
args_same entered kept same (Plain value ∷ args) = args_same entered kept same args
args_same entered kept same (Fut k ∷ args) =
    ap (λ told. told && list_all (is_answered entered) (futures_of_args args)) (same k)
    ∙ ap (λ rest. is_some (kept_at kept k) && rest) (args_same entered kept same args)

is_known-read : (k : ℕ) (entered : List Entered) →
    is_told entered k ≡ option_map_or (list_all (is_answered entered)) (slice_get (map (λ call. call.futures) entered) k) false
is_known-read k entered =
    rw (slice_get-map (λ (call : Entered). call.futures) entered k)
    (elim (slice_get entered k) as (λ found. option_map_or (λ (call : Entered). list_all (is_answered entered) call.futures) found false ≡ option_map_or
    (list_all (is_answered entered)) (option_map (λ (call : Entered). call.futures) found) false) [ None ↦ refl | Some call ↦ refl ])

-- the resolver knows a call exactly where all its future arguments have an answer
pub known_same : (k id : ℕ) (handles : List Handle) (calls : List Call) (rows : List Row) (entered : List Entered) (dead : List Bool)
    (limits : List (ℕ × Option ℕ)) → IsOwner handles calls rows entered →
    is_told entered k ≡ is_known_call (seen id handles calls rows entered dead limits) (slice_get (map submission_of calls) k)
known_same k id handles calls rows entered dead limits fine =
    let owner = seen id handles calls rows entered dead limits in
    is_known-read k entered
    ∙ ap (λ lists. option_map_or (list_all (is_answered entered)) (slice_get lists k) false) fine.waits
    ∙ rw (slice_get-map (λ (call : Call). futures_of_args call.args) calls k, slice_get-map submission_of calls k)
    (elim (slice_get calls k) as (λ found. option_map_or (list_all (is_answered entered))
    (option_map (λ (call : Call). futures_of_args call.args) found) false ≡ is_known_call owner (option_map submission_of found)) [
      | None ↦ refl
      | Some call ↦ args_same entered (answers_of rows) (λ j. told_same j entered rows fine.told) call.args
    ])

-- ---- the call that is ready

and_same : {a b c d e f : Bool} → a ≡ d → b ≡ e → c ≡ f → (a && not b && not c) ≡ (d && not e && not f)
and_same first second third = cc

ready_at_same : (k id : ℕ) (handles : List Handle) (calls : List Call) (rows : List Row) (entered : List Entered) (dead : List Bool) (limits : List
    (ℕ × Option ℕ)) → IsOwner handles calls rows entered → is_next_ready entered k ≡ owner_is_ready (seen id handles calls rows entered dead limits) k
ready_at_same k id handles calls rows entered dead limits fine =
    let owner = seen id handles calls rows entered dead limits in
    and_same
    (known_same k id handles calls rows entered dead limits fine) (sent_same k entered) (told_same k entered rows fine.told)

find_same : (p q : ℕ → Bool) → ((k : ℕ) → p k ≡ q k) → (ks : List ℕ) → find p ks ≡ find q ks
find_same p q same [] = refl
find_same p q same (k ∷ ks) = ap (λ here. cond here (Some k) (find p ks)) (same k) ∙ ap (λ rest. cond (q k) (Some k) rest) (find_same p q same ks)

-- as many calls were entered as submitted
entered_all : {handles : List Handle} (calls : List Call) (rows : List Row) (entered : List Entered) → IsOwner handles calls rows entered →
    length entered ≡ length calls
entered_all calls rows entered fine =
    sym (length-map entered (λ (call : Entered). call.futures)) ∙ ap length fine.waits ∙ length-map calls (λ (call : Call). futures_of_args call.args)

pub first_ready_same : (id : ℕ) {handles : List Handle} {calls : List Call} {rows : List Row} {entered : List Entered} (dead : List Bool) (limits : List
    (ℕ × Option ℕ)) → IsOwner handles calls rows entered → least_ready entered ≡ owner_first_ready (seen id handles calls rows entered dead limits)
first_ready_same id {handles} {calls} {rows} {entered} dead limits fine =
    let owner = seen id handles calls rows entered dead limits in
    find_same (is_next_ready entered) (owner_is_ready owner) (λ k. ready_at_same k id handles calls rows entered dead limits fine)
    (range_with_len 0 (length entered))
    ∙ ap (λ n. find (owner_is_ready owner) (range_with_len 0 n)) (entered_all calls rows entered fine ∙ sym (length-map calls submission_of))

-- ---- a call as it enters

-- the futures among the arguments are earlier ones
pub all_earlier : (count : ℕ) (args : List Arg) → list_all (is_earlier count) args ≡ true → All (λ future. future < count) (futures_of_args args)
all_earlier count [] earlier k d below = absurd (omega arith)
all_earlier count (Plain value ∷ args) earlier k d below = all_earlier count args earlier k d below
all_earlier count (Fut j ∷ args) earlier zero d below =
    let here = (and_parts (nat_lt j count) (list_all (is_earlier count) args) earlier).0 in
    elim (leb_tells (suc j) count) [ inl t ↦ t.1 | inr f ↦ absurd (cc (f.0, here)) ]
all_earlier count (Fut j ∷ args) earlier (suc k) d below =
    all_earlier count args (and_parts (nat_lt j count) (list_all (is_earlier count) args) earlier).1 k d (omega arith)

-- a call that is told as it enters
pub told_last : (k : ℕ) (args : List Arg) {is_dead : Bool} {futures : List ℕ} (entered : List Entered) {entered1 entered2 : List Entered} → k ≡ length entered →
    futures ≡ futures_of_args args → is_dead ≡ true → entered1 ≡ entered ++ new_call futures ∷ [] → entered2 ≡ with_told entered1 k →
    entered2 ≡ entered ++ entered_call args is_dead ∷ []
told_last k args {futures} entered last same dead one two =
    let first : Entered = new_call futures in
    let new : Entered = record { futures = futures; answered = true; sent = false } in
    two
    ∙ ap (λ calls. with_told calls k) one
    ∙ ap (with_told (entered ++ first ∷ [])) last
    ∙ ap (λ found. option_map_or (λ call. slice_set (entered ++ first ∷ []) (length entered) (record call { answered = true })) found (entered ++ first ∷ []))
    (slice_get_last entered first)
    ∙ set_last entered first new
    ∙ ap (λ fs. entered ++ record { futures = fs; answered = true; sent = false } ∷ []) same
    ∙ ap (λ b. entered ++ entered_call args b ∷ []) (sym dead)

-- ---- the least call that is ready

first_of_three : (a b c : Bool) → (a && not b && not c) ≡ true → a ≡ true
first_of_three true b c is = refl
first_of_three false b c is = absurd (cc is)

ready_is_known : (owner : OwnerView) (k : ℕ) → owner_first_ready owner ≡ Some k → is_known_call owner (slice_get owner.calls k) ≡ true
ready_is_known owner k ready =
    first_of_three (is_known_call owner (slice_get owner.calls k)) (owner_is_sent owner k) (is_some (kept_at owner.kept k))
    (found_passes (owner_is_ready owner) (range_with_len 0 (length owner.calls)) ready)

-- a call that is ready was submitted
pub ready_is_there : (owner : OwnerView) (k : ℕ) → owner_first_ready owner ≡ Some k → call_at owner.calls k ≡ None → ⊥
ready_is_there owner k ready none = go (slice_get owner.calls k) refl (ready_is_known owner k ready)
  where
    go : (found : Option Submission) → slice_get owner.calls k ≡ found → is_known_call owner found ≡ true → ⊥
    go None is known = cc known
    go (Some call) is known = cc (sym none ∙ ap (option_map (numbered_call owner.calls k)) is)
