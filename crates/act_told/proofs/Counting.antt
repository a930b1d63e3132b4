-- Places in lists of which some items are left out.
use Rattle.act_told.proofs.Common.{◌≡◌, ℕ, zero, suc, ◌+◌, ◌<◌, ◌≤◌, ◌⊎◌, ◌==◌, inl, inr, Bool, true, false, cond, List, [], ◌∷◌, ◌++◌, length, map, filter}
use Rattle.act_told.proofs.Common.{take, slice_get, Option, Some, None, option_map, refl, ap, sym, subst, ◌∙◌, arith, enumerate_from, eq-eqb, eqb-true}
use Rattle.act_told.proofs.Common.{cases_lt, length-append, slice_get_within, slice_get-map, one_to, RunItem, Submission, items_of, calls_to, IsPrefix}
use Rattle.act_told.proofs.Common.{slice_get_front, slice_get-filter, slice_get-enumerate_from, element, numbered, numbers, map-slice_get, enumerate-slice_get}
use Rattle.act_told.proofs.Common.{same_place, rank}
use Rattle.act_rules.proofs.AsSubmitted.{goes_to}

-- how many of the first items pass
abbrev pub passed : {A : Type 0} → (A → Bool) → ℕ → List A → ℕ
passed t n xs = length (filter t (take n xs))

-- ---- how many pass

pub passed_more : {A : Type 0} (t : A → Bool) (xs : List A) (m n : ℕ) → m ≤ n → passed t m xs ≤ passed t n xs
passed_more t xs zero n le = omega arith
passed_more t xs (suc m) zero le = absurd (omega arith)
passed_more t [] (suc m) (suc n) le = omega arith
passed_more {A = A} t (x ∷ xs) (suc m) (suc n) le = go (t x) (passed_more t xs m n (omega (arith, le)))
  where
    go : (b : Bool) → passed t m xs ≤ passed t n xs →
        length (cond b (x ∷ filter t (take m xs)) (filter t (take m xs))) ≤ length (cond b (x ∷ filter t (take n xs)) (filter t (take n xs)))
    go true h = omega (arith, h)
    go false h = h

-- one that passes counts from its place on
pub passed_past : {A : Type 0} (t : A → Bool) (xs : List A) (m n : ℕ) {x : A} → m < n → slice_get xs m ≡ Some x → t x ≡ true → passed t m xs < passed t n xs
passed_past t xs m zero lt at passes = absurd (omega arith)
passed_past t [] m (suc n) lt at passes = absurd (cc)
passed_past t (y ∷ xs) zero (suc n) {x} lt at passes = let is : y ≡ x = cc in let there : t y ≡ true = ap t is ∙ passes in rw there (omega arith)
passed_past {A = A} t (y ∷ xs) (suc m) (suc n) {x} lt at passes = go (t y) (passed_past t xs m n (omega (arith, lt)) at passes)
  where
    go : (b : Bool) → passed t m xs < passed t n xs →
        length (cond b (y ∷ filter t (take m xs)) (filter t (take m xs))) < length (cond b (y ∷ filter t (take n xs)) (filter t (take n xs)))
    go true h = omega (arith, h)
    go false h = h

-- the place of one that passes
pub record Stands {A : Type 0} (t : A → Bool) (xs : List A) (r : ℕ) (x : A) : Type 0 where
  pub place : ℕ
  pub at : slice_get xs place ≡ Some x
  pub passes : t x ≡ true
  pub count : passed t place xs ≡ r

pub stands : {A : Type 0} (t : A → Bool) (xs : List A) (r : ℕ) (x : A) → slice_get (filter t xs) r ≡ Some x → Stands t xs r x
stands t [] r x e = absurd (cc)
stands {A = A} t (y ∷ xs) r x e = go (t y) refl r (λ m. stands t xs m x) e
  where
    go : (b : Bool) → t y ≡ b → (r : ℕ) → ((m : ℕ) → slice_get (filter t xs) m ≡ Some x → Stands t xs m x) →
        slice_get (cond b (y ∷ filter t xs) (filter t xs)) r ≡ Some x → Stands t (y ∷ xs) r x
    go true passes zero rest e = let same : y ≡ x = cc in record { place = zero; at = e; passes = ap t (sym same) ∙ passes; count = refl }
    go true passes (suc m) rest e =
        let s = rest m e in record { place = suc s.place; at = s.at; passes = s.passes; count = rw passes (ap (λ n. suc n) s.count) }
    go false fails r rest e = let s = rest r e in record { place = suc s.place; at = s.at; passes = s.passes; count = rw fails s.count }

-- ---- the numbers from 1 on

pub two_parts : {A : Type 0} (xs ys : List A) (n : ℕ) {v : A} → slice_get (xs ++ ys) n ≡ Some v →
    ((n < length xs) × (slice_get xs n ≡ Some v)) ⊎ ((j : ℕ) × (n ≡ length xs + j) × (slice_get ys j ≡ Some v))
two_parts [] ys n e = inr (n, omega arith, e)
two_parts (x ∷ xs) ys zero e = inl (omega arith, e)
two_parts (x ∷ xs) ys (suc n) {v} e = elim (two_parts xs ys n e) [
  | inl h ↦ inl (omega (arith, h.0), h.1)
  | inr h ↦ inr (h.0, omega (arith, h.1), h.2)
]

length-one_to : (n : ℕ) → length (one_to n) ≡ n
length-one_to zero = refl
length-one_to (suc n) = length-append (one_to n) (suc n ∷ []) ∙ ap (λ k. k + 1) (length-one_to n) ∙ (let e : n + 1 ≡ suc n = omega arith in e)

one_to-at : (n p v : ℕ) → slice_get (one_to n) p ≡ Some v → v ≡ suc p
one_to-at zero p v e = absurd (cc)
one_to-at (suc n) p v e = elim (two_parts (one_to n) (suc n ∷ []) p e) [
  | inl h ↦ one_to-at n p v h.1
  | inr h ↦ last h.0 h.1 h.2
]
  where
    last : (j : ℕ) → p ≡ length (one_to n) + j → slice_get (suc n ∷ []) j ≡ Some v → v ≡ suc p
    last zero is at = let same : suc n ≡ v = cc in let size = length-one_to n in omega (arith, is, size, same)
    last (suc j) is at = absurd (cc)

-- of the numbers that pass each stands once
pub once_among : (t : ℕ → Bool) (n i j v : ℕ) → slice_get (filter t (one_to n)) i ≡ Some v → slice_get (filter t (one_to n)) j ≡ Some v → i ≡ j
once_among t n i j v at other =
    let one = stands t (one_to n) i v at in let two = stands t (one_to n) j v other in
    let first = one_to-at n one.place v one.at in let second = one_to-at n two.place v two.at in
    let same : one.place ≡ two.place = omega (arith, first, second) in sym one.count ∙ ap (λ k. passed t k (one_to n)) same ∙ two.count

-- ---- a run list beside its caller's calls

-- what ran at a place: the call, and how many before it went to the actor
pub record RanCall (log : List RunItem) (calls : List Submission) (a p : ℕ) (item : RunItem) : Type 0 where
  pub call : Submission
  pub at : slice_get calls item.future ≡ Some call
  pub actor : call.actor ≡ a
  pub count : rank item.caller p log ≡ passed (goes_to a) item.future (enumerate_from 0 calls)

numbered_at : (calls : List Submission) (q : ℕ) (pair : ℕ × Submission) (found : Option Submission) → slice_get calls q ≡ found →
    option_map (λ x. (0 + q, x)) found ≡ Some pair → (pair.0 ≡ q) × (slice_get calls q ≡ Some pair.1)
numbered_at calls q pair None is e = absurd (cc)
numbered_at calls q pair (Some x) is e =
    let same : (0 + q, x) ≡ pair = cc in
    let first : pair.0 ≡ 0 + q = sym (ap (λ (p : ℕ × Submission). p.0) same) in (omega (arith, first), is ∙ ap (λ (p : ℕ × Submission). Some p.1) same)

pub ran_call : (log : List RunItem) (calls : List Submission) (a p : ℕ) {item : RunItem} →
    IsPrefix (map numbered (items_of item.caller log)) (numbers a calls) → slice_get log p ≡ Some item → RanCall log calls a p item
ran_call log calls a p {item} order at =
    let c = item.caller in let m = rank c p log in
    let mine : slice_get (items_of c log) m ≡ Some item = slice_get-filter (λ (i : RunItem). i.caller == c) log p at (eq-eqb item.caller c refl) in
    let pair : slice_get (map numbered (items_of c log)) m ≡ Some (numbered item) = slice_get-map numbered (items_of c log) m ∙ ap (option_map numbered) mine in
    let all : slice_get (numbers a calls) m ≡ Some (numbered item) =
    slice_get_front (map numbered (items_of c log)) (numbers a calls) m order pair in
    let held = enumerate-slice_get (map (λ (call : ℕ × Submission). call.0) (calls_to a calls)) m all in
    let found = map-slice_get (λ (call : ℕ × Submission). call.0) (calls_to a calls) m held in
    let s = stands (goes_to a) (enumerate_from 0 calls) m found.0 found.1 in
    let here = numbered_at calls s.place found.0 (slice_get calls s.place) refl (sym (slice_get-enumerate_from 0 calls s.place) ∙ s.at) in
    let future : s.place ≡ item.future = sym here.0 ∙ found.2 in
    record {
      call = found.0.1;
      at = subst (λ k. slice_get calls k ≡ Some found.0.1) future here.1;
      actor = eqb-true found.0.1.actor a s.passes;
      count = sym s.count ∙ ap (λ k. passed (goes_to a) k (enumerate_from 0 calls)) future;
    }

-- two places that hold one call are one
pub one_place : (log : List RunItem) (calls : List Submission) (a p q : ℕ) (item other : RunItem) → IsPrefix (map numbered (items_of item.caller log))
    (numbers a calls) → slice_get log p ≡ Some item → slice_get log q ≡ Some other → other.caller ≡ item.caller → other.future ≡ item.future → p ≡ q
one_place log calls a p q item other order at at' caller future =
    let c = item.caller in let first = ran_call log calls a p order at in
    let second = ran_call log calls a q (subst (λ x. IsPrefix (map numbered (items_of x log)) (numbers a calls)) (sym caller) order) at' in
    let ranks : rank c p log ≡ rank c q log =
    first.count ∙ ap (λ k. passed (goes_to a) k (enumerate_from 0 calls)) (sym future) ∙ sym second.count ∙ ap (λ x. rank x q log) caller in
    same_place (λ (i : RunItem). i.caller == c) log p q at (eq-eqb item.caller c refl) at' (eq-eqb other.caller c caller) ranks

-- a call to the actor stands among the calls to it, behind those that went there before
pub call_among : (calls : List Submission) {a : ℕ} (k : ℕ) (call : Submission) → slice_get calls k ≡ Some call → call.actor ≡ a →
    slice_get (map (λ (x : ℕ × Submission). x.0) (calls_to a calls)) (passed (goes_to a) k (enumerate_from 0 calls)) ≡ Some k
call_among calls {a} k call has to =
    let all = enumerate_from 0 calls in
    let there : slice_get all k ≡ Some (0 + k, call) =
    slice_get-enumerate_from 0 calls k ∙ ap (option_map (λ x. (0 + k, x))) has in
    let e : 0 + k ≡ k = omega arith in
    slice_get-map (λ (x : ℕ × Submission). x.0) (calls_to a calls) (passed (goes_to a) k all)
    ∙ ap (option_map (λ (x : ℕ × Submission). x.0)) (slice_get-filter (goes_to a) all k there (eq-eqb call.actor a to))
    ∙ ap (λ n. Some n) e

-- an earlier call of the caller to the actor ran before
pub record RanBefore (log : List RunItem) (c k p : ℕ) : Type 0 where
  pub place : ℕ
  pub item : RunItem
  pub earlier : place < p
  pub at : slice_get log place ≡ Some item
  pub caller : item.caller ≡ c
  pub future : item.future ≡ k

pub ran_before : (log : List RunItem) (calls : List Submission) {a : ℕ} (p k : ℕ) (item : RunItem) (call : Submission) →
    IsPrefix (map numbered (items_of item.caller log)) (numbers a calls) → slice_get log p ≡ Some item → k < item.future →
    slice_get calls k ≡ Some call → call.actor ≡ a → RanBefore log item.caller k p
ran_before log calls {a} p k item call order at lt has to =
    let c = item.caller in let all = enumerate_from 0 calls in
    let there : slice_get all k ≡ Some (0 + k, call) =
    slice_get-enumerate_from 0 calls k ∙ ap (option_map (λ x. (0 + k, x))) has in
    let passes : goes_to a (0 + k, call) ≡ true = eq-eqb call.actor a to in let r = passed (goes_to a) k all in let ran = ran_call log calls a p order at in
    let below : r < passed (goes_to a) item.future all = passed_past (goes_to a) all k item.future lt there passes in
    let mine : slice_get (items_of c log) (rank c p log) ≡ Some item =
    slice_get-filter (λ (i : RunItem). i.caller == c) log p at (eq-eqb item.caller c refl) in
    let within : r < length (items_of c log) = let h = slice_get_within (items_of c log) (rank c p log) item mine in let g = ran.count in
    omega (arith, h, g, below) in
    let one = element (items_of c log) r within in
    let told : slice_get (numbers a calls) r ≡ Some (numbered one.0) =
    slice_get_front (map numbered (items_of c log)) (numbers a calls) r order (slice_get-map numbered (items_of c log) r ∙ ap (option_map numbered) one.1) in
    let held = enumerate-slice_get (map (λ (x : ℕ × Submission). x.0) (calls_to a calls)) r told in
    let both : Some one.0.future ≡ Some k = sym held ∙ call_among calls k call has to in
    let future : one.0.future ≡ k = cc in let s = stands (λ (i : RunItem). i.caller == c) log r one.0 one.1 in
    record {
      place = s.place;
      item = one.0;
      earlier = earlier s.place s.count ran.count below;
      at = s.at;
      caller = eqb-true one.0.caller c s.passes;
      future = future;
    }
  where
    earlier : (q : ℕ) → rank item.caller q log ≡ passed (goes_to a) k (enumerate_from 0 calls) → rank item.caller p log ≡ passed (goes_to a) item.future
        (enumerate_from 0 calls) → passed (goes_to a) k (enumerate_from 0 calls) < passed (goes_to a) item.future (enumerate_from 0 calls) → q < p
    earlier q count counted below = elim (cases_lt q p) [
      | inl lt ↦ lt
      | inr le ↦ let h = passed_more (λ (i : RunItem). i.caller == item.caller) log p q le in absurd (omega (arith, h, count, counted, below))
    ]
