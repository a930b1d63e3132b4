-- The early play ran the same call where the late one runs its next.
use Rattle.act_early.proofs.Common.{◌≡◌, ℕ, ◌+◌, true, List, length, Option, Some, refl, ap, sym, ◌∙◌, subst, arith, ◌==◌, map, filter, take, slice_get}
use Rattle.act_early.proofs.Common.{option_map, list_all, eq-eqb, slice_get-map, take-append_seam, RunItem, Submission, items_of, calls_to, is_known, settle}
use Rattle.act_early.proofs.Common.{IsPrefix, IsAsSubmitted, History, runs_of, calls_of, kept_of, ran_count, run_item, next_item, slice_get_front}
use Rattle.act_early.proofs.Common.{slice_get-filter, slice_get-enumerate_from, All_at, calls_to_grow, Extends, arguments_stay, IsSoundLetter, has_letter-sound}
use Rattle.act_early.proofs.Common.{IsNext, next_item_is, numbered, numbers, calls_to-at, IsSound, consistent, same_Some, CallLetter}

-- the call that runs next, with arguments that are known
pub record IsReady (a c : ℕ) (h : History) (item : RunItem) : Type 0 where
  pub next : IsNext a c h item
  pub known : list_all (is_known (kept_of c h)) next.call.1.args ≡ true

-- in a sound history the call that an actor runs next for a caller is ready: its arguments are known
pub ready : (a c : ℕ) (h : History) (item : RunItem) → IsSound h → next_item a c h ≡ Some item → IsReady a c h item
ready a c h item sound e =
    let next : IsNext a c h item = next_item_is a c h e in
    let letter : IsSoundLetter h (CallLetter c a (ran_count c a h)) =
    has_letter-sound (IsSoundLetter h) (CallLetter c a (ran_count c a h)) h.arrived sound.letters.arrived next.arrived in
    let same : letter.0 ≡ next.call = let e : Some letter.0 ≡ Some next.call = sym letter.1 ∙ next.at in cc in
    record { next = next; known = subst (λ (call : ℕ × Submission). list_all (is_known (kept_of c h)) call.1.args ≡ true) same letter.2 }

item_same : (x y : RunItem) → x.caller ≡ y.caller → x.number ≡ y.number → x.future ≡ y.future → x.method ≡ y.method → x.args ≡ y.args → x ≡ y
item_same x y c n f m s = λ i. record { caller = c i; number = n i; future = f i; method = m i; args = s i }

-- the first items of a list are its prefix of that length
pub take-front : {A : Type 0} (xs ys : List A) → IsPrefix xs ys → take (length xs) ys ≡ xs
take-front {A = A} xs ys f = sym (ap (λ l. take (length xs) l) f.1) ∙ take-append_seam xs f.0

-- the number and the future of the item that stands behind those of the play
stands_next : (a c : ℕ) (play early : History) (other : RunItem) → IsSound early → IsPrefix (runs_of a play) (runs_of a early) → slice_get (runs_of a early)
    (length (runs_of a play)) ≡ Some other → other.caller ≡ c → slice_get (numbers a (calls_of c early)) (ran_count c a play) ≡ Some (numbered other)
stands_next a c play early other sound front at caller =
    let n = length (runs_of a play) in
    let mine = slice_get-filter (λ (i : RunItem). i.caller == c) (runs_of a early) n at (eq-eqb other.caller c caller) in
    let rank : length (filter (λ (i : RunItem). i.caller == c) (take n (runs_of a early))) ≡ ran_count c a play =
    ap (λ items. length (filter (λ (i : RunItem). i.caller == c) items)) (take-front (runs_of a play) (runs_of a early) front) in
    let there : slice_get (items_of c (runs_of a early)) (ran_count c a play) ≡ Some other =
    subst (λ m. slice_get (items_of c (runs_of a early)) m ≡ Some other) rank mine in
    slice_get_front (map numbered (items_of c (runs_of a early))) (numbers a (calls_of c early)) (ran_count c a play) (sound.order a c)
    (slice_get-map numbered (items_of c (runs_of a early)) (ran_count c a play) ∙ ap (option_map numbered) there)

-- and of the play's next call
runs_next : (a c : ℕ) (play early : History) (call : ℕ × Submission) → IsPrefix (calls_of c play) (calls_of c early) → slice_get (calls_to a (calls_of c play))
    (ran_count c a play) ≡ Some call → slice_get (numbers a (calls_of c early)) (ran_count c a play) ≡ Some (ran_count c a play, call.0)
runs_next a c play early call front at =
    let n = ran_count c a play in
    let there : slice_get (calls_to a (calls_of c early)) n ≡ Some call =
    slice_get_front (calls_to a (calls_of c play)) (calls_to a (calls_of c early)) n (calls_to_grow a (calls_of c play) (calls_of c early) front) at in
    let first : slice_get (map (λ (call : ℕ × Submission). call.0) (calls_to a (calls_of c early))) n ≡ Some call.0 =
    slice_get-map (λ (call : ℕ × Submission). call.0) (calls_to a (calls_of c early)) n ∙ ap (option_map (λ (call : ℕ × Submission). call.0)) there in
    let zero_add : 0 + n ≡ n = omega arith in
    slice_get-enumerate_from 0 (map (λ (call : ℕ × Submission). call.0) (calls_to a (calls_of c early))) n ∙ rw (first, zero_add) refl

-- where the early play has the play's runs, and a caller's calls and answers, this caller's next run is the ready one
pub same_item : (a c : ℕ) (play early : History) (item other : RunItem) → IsSound early → IsReady a c play item → IsPrefix (runs_of a play) (runs_of a early)
    → IsPrefix (calls_of c play) (calls_of c early) → Extends (kept_of c play) (kept_of c early)
    → slice_get (runs_of a early) (length (runs_of a play)) ≡ Some other → other.caller ≡ c → other ≡ item
same_item a c play early item other sound is runs calls extends at caller =
    let n = ran_count c a play in let call : ℕ × Submission = is.next.call in
    let both : ◌≡◌ {A = Option (ℕ × ℕ)} (Some (numbered other)) (Some (n, call.0)) =
    sym (stands_next a c play early other sound runs at caller) ∙ runs_next a c play early call calls is.next.at in
    let pair : ◌≡◌ {A = ℕ × ℕ} (numbered other) (n, call.0) = same_Some (numbered other) (n, call.0) both in
    let number : other.number ≡ n = ap (λ (p : ℕ × ℕ). p.0) pair in let future : other.future ≡ call.0 = ap (λ (p : ℕ × ℕ). p.1) pair in
    let submitted : IsAsSubmitted (λ d. calls_of d early) (λ d. kept_of d early) other =
    All_at (IsAsSubmitted (λ d. calls_of d early) (λ d. kept_of d early)) (runs_of a early) (length (runs_of a play))
    ((consistent early sound).as_submitted a) at in
    let stands : slice_get (calls_of c early) call.0 ≡ Some call.1 =
    slice_get_front (calls_of c play) (calls_of c early) call.0 calls (calls_to-at a (calls_of c play) n is.next.at).at in
    let there : slice_get (calls_of c early) call.0 ≡ Some submitted.call =
    subst (λ d. slice_get (calls_of d early) call.0 ≡ Some submitted.call) caller
    (subst (λ k. slice_get (calls_of other.caller early) k ≡ Some submitted.call) future submitted.at) in
    let one : submitted.call ≡ call.1 = let e : Some submitted.call ≡ Some call.1 = sym there ∙ stands in cc in
    let method : other.method ≡ call.1.method = submitted.method ∙ ap (λ (s : Submission). s.method) one in
    let args : other.args ≡ map (settle (kept_of c play)) call.1.args =
    submitted.args ∙ ap (λ d. map (settle (kept_of d early)) submitted.call.args) caller
    ∙ ap (λ (s : Submission). map (settle (kept_of c early)) s.args) one
    ∙ (arguments_stay (kept_of c play) (kept_of c early) extends call.1.args is.known).1 in
    item_same other (run_item c n (kept_of c play) call) caller number future method args ∙ is.next.is
