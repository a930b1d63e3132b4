-- One place of the run lists holds a call.
use Rattle.act_rules.proofs.Common.{◌≡◌, ℕ, zero, suc, ◌+◌, ◌≤◌, Bool, true, false, cond, List, [], ◌∷◌, length, Some, None, refl, ap, sym, ◌∙◌, subst, arith}
use Rattle.act_rules.proofs.Common.{Option, ◌==◌, map, filter, take, slice_get, option_map, enumerate_from, eq-eqb, slice_get-map, RunItem, items_of}
use Rattle.act_rules.proofs.Common.{Submission, calls_to, History, runs_of, calls_of}
use Rattle.act_rules.proofs.Lists.{slice_get_front, slice_get-filter, slice_get-enumerate_from}
use Rattle.act_rules.proofs.Order.{InOrder, numbered, numbers}
use Rattle.act_rules.proofs.AsSubmitted.{calls_to-at}

-- an element of a mapped list comes from one of the list
pub map-slice_get : {A B : Type 0} (f : A → B) (xs : List A) (m : ℕ) {y : B} → slice_get (map f xs) m ≡ Some y → (x : A) × (slice_get xs m ≡ Some x) × (f x ≡ y)
map-slice_get f [] m e = cc
map-slice_get f (x ∷ xs) zero e = (x, refl, cc)
map-slice_get f (x ∷ xs) (suc m) {y} e = map-slice_get f xs m e

pub enumerate-slice_get : {A : Type 0} (xs : List A) (m : ℕ) {j : ℕ} {x : A} → slice_get (enumerate_from 0 xs) m ≡ Some (j, x) → slice_get xs m ≡ Some x
enumerate-slice_get {A = A} xs m {j} {x} e = go (slice_get xs m) (sym (slice_get-enumerate_from 0 xs m) ∙ e)
  where
    go : (o : Option A) → option_map {U = ℕ × A} (λ x. (0 + m, x)) o ≡ Some (j, x) → o ≡ Some x
    go None e = cc
    go (Some y) e = let pair : ◌≡◌ {A = ℕ × A} (0 + m, y) (j, x) = cc in ap (λ (p : ℕ × A). Some p.1) pair

-- two places of a list whose elements pass, behind as many that pass, are one
pub same_place : {A : Type 0} (t : A → Bool) (xs : List A) (p q : ℕ) {x y : A} → slice_get xs p ≡ Some x → t x ≡ true → slice_get xs q ≡ Some y → t y ≡ true →
    length (filter t (take p xs)) ≡ length (filter t (take q xs)) → p ≡ q
same_place t [] p q e passes f passes' same = cc
same_place t (z ∷ zs) zero zero e passes f passes' same = refl
same_place t (z ∷ zs) zero (suc q) {x} e passes f passes' same =
    let is : z ≡ x = cc in let there : t z ≡ true = ap t is ∙ passes in let bad : 0 ≡ suc (length (filter t (take q zs))) = rw there at same in
    absurd (omega arith)
same_place t (z ∷ zs) (suc p) zero {y} e passes f passes' same =
    let is : z ≡ y = cc in let there : t z ≡ true = ap t is ∙ passes' in let bad : suc (length (filter t (take p zs))) ≡ 0 = rw there at same in
    absurd (omega arith)
same_place {A = A} t (z ∷ zs) (suc p) (suc q) {x} {y} e passes f passes' same = go (t z) (λ s. same_place t zs p q e passes f passes' s) same
  where
    go : (b : Bool) → (length (filter t (take p zs)) ≡ length (filter t (take q zs)) → p ≡ q) →
        length (cond b (z ∷ filter t (take p zs)) (filter t (take p zs))) ≡ length (cond b (z ∷ filter t (take q zs)) (filter t (take q zs))) → suc p ≡ suc q
    go true rest same = ap suc (rest (omega arith))
    go false rest same = ap suc (rest same)

-- the places of the elements that pass, counted from n, are all different
abbrev pub places : {A : Type 0} → (ℕ × A → Bool) → ℕ → List A → List ℕ
places t n xs = map (λ e. e.0) (filter t (enumerate_from n xs))

-- no such place is before n
pub places_from : {A : Type 0} (t : ℕ × A → Bool) (n : ℕ) (xs : List A) (m k : ℕ) → slice_get (places t n xs) m ≡ Some k → n ≤ k
places_from t n [] m k e = cc
places_from {A = A} t n (x ∷ xs) m k e = go (t (n, x)) m (λ i. places_from t (n + 1) xs i k) e
  where
    go : (b : Bool) (m : ℕ) → ((i : ℕ) → slice_get (places t (n + 1) xs) i ≡ Some k → n + 1 ≤ k) →
        slice_get (map (λ (e : ℕ × A). e.0) (cond b ((n, x) ∷ filter t (enumerate_from (n + 1) xs)) (filter t (enumerate_from (n + 1) xs)))) m ≡ Some k → n ≤ k
    go true zero rest e = let same : n ≡ k = cc in omega arith
    go true (suc i) rest e = let more : n + 1 ≤ k = rest i e in omega arith
    go false m rest e = let more : n + 1 ≤ k = rest m e in omega arith

pub places_differ : {A : Type 0} (t : ℕ × A → Bool) (n : ℕ) (xs : List A) (m i k : ℕ) → slice_get (places t n xs) m ≡ Some k →
    slice_get (places t n xs) i ≡ Some k → m ≡ i
places_differ t n [] m i k e f = cc
places_differ {A = A} t n (x ∷ xs) m i k e f = go (t (n, x)) m i (λ p q. places_differ t (n + 1) xs p q k) (λ p. places_from t (n + 1) xs p k) e f
  where
    rest : List (ℕ × A)
    rest = filter t (enumerate_from (n + 1) xs)

    go : (b : Bool) (m i : ℕ) → ((p q : ℕ) → slice_get (places t (n + 1) xs) p ≡ Some k → slice_get (places t (n + 1) xs) q ≡ Some k → p ≡ q) →
        ((p : ℕ) → slice_get (places t (n + 1) xs) p ≡ Some k → n + 1 ≤ k) → slice_get (map (λ (e : ℕ × A). e.0) (cond b ((n, x) ∷ rest) rest)) m ≡ Some k →
        slice_get (map (λ (e : ℕ × A). e.0) (cond b ((n, x) ∷ rest) rest)) i ≡ Some k → m ≡ i
    go true zero zero same from e f = refl
    go true zero (suc i) same from e f = let is : n ≡ k = cc in let more : n + 1 ≤ k = from i f in absurd (omega arith)
    go true (suc m) zero same from e f = let is : n ≡ k = cc in let more : n + 1 ≤ k = from m e in absurd (omega arith)
    go true (suc m) (suc i) same from e f = ap suc (same m i e f)
    go false m i same from e f = same m i e f

-- ---- a place that holds a call

-- how many of the caller's calls ran before a place
abbrev pub rank : ℕ → ℕ → List RunItem → ℕ
rank c place items = length (filter (λ item. item.caller == c) (take place items))

-- the call's future is that of the caller's call by its rank
pub held_call : (h : History) (a : ℕ) {c k : ℕ} (place : ℕ) {item : RunItem} → InOrder h → slice_get (runs_of a h) place ≡ Some item → item.caller ≡ c →
    item.future ≡ k → slice_get (map (λ (call : ℕ × Submission). call.0) (calls_to a (calls_of c h))) (rank c place (runs_of a h)) ≡ Some k
held_call h a {c} place {item} order at caller future =
    let m = rank c place (runs_of a h) in
    let mine : slice_get (items_of c (runs_of a h)) m ≡ Some item =
    slice_get-filter (λ (i : RunItem). i.caller == c) (runs_of a h) place at (eq-eqb item.caller c caller) in
    let pair : slice_get (map numbered (items_of c (runs_of a h))) m ≡ Some (numbered item) =
    slice_get-map numbered (items_of c (runs_of a h)) m ∙ ap (option_map numbered) mine in
    let all : slice_get (numbers a (calls_of c h)) m ≡ Some (numbered item) =
    slice_get_front (map numbered (items_of c (runs_of a h))) (numbers a (calls_of c h)) m (order a c) pair in
    enumerate-slice_get (map (λ (call : ℕ × Submission). call.0) (calls_to a (calls_of c h))) m all ∙ ap (λ n. Some n) future

-- the call that a place holds stands, and went to that actor
pub held_submission : (h : History) (a : ℕ) {c : ℕ} (k place : ℕ) {item : RunItem} → InOrder h → slice_get (runs_of a h) place ≡ Some item → item.caller ≡ c →
    item.future ≡ k → (call : Submission) × (slice_get (calls_of c h) k ≡ Some call) × (call.actor ≡ a)
held_submission h a {c} k place {item} order at caller future =
    let found = map-slice_get (λ (call : ℕ × Submission). call.0) (calls_to a (calls_of c h)) (rank c place (runs_of a h))
    (held_call h a place order at caller future) in
    let call = calls_to-at a (calls_of c h) (rank c place (runs_of a h)) found.1 in
    (found.0.1, subst (λ j. slice_get (calls_of c h) j ≡ Some found.0.1) found.2 call.at, call.actor)

-- where calls ran in order, two places of run lists that hold the same call are one
pub one_place : (h : History) {c k : ℕ} (a place b q : ℕ) {item other : RunItem} → InOrder h → slice_get (runs_of a h) place ≡ Some item → item.caller ≡ c →
    item.future ≡ k → slice_get (runs_of b h) q ≡ Some other → other.caller ≡ c → other.future ≡ k → (b ≡ a) × (q ≡ place)
one_place h {c} {k} a place b q {item} {other} order at caller future at' caller' future' =
    let first = held_submission h a k place order at caller future in let second = held_submission h b k q order at' caller' future' in
    let calls : Some second.0 ≡ Some first.0 = sym second.1 ∙ first.1 in let call : second.0 ≡ first.0 = cc in
    let actor : b ≡ a = sym second.2 ∙ ap (λ (s : Submission). s.actor) call ∙ first.2 in
    let there : slice_get (runs_of a h) q ≡ Some other = subst (λ x. slice_get (runs_of x h) q ≡ Some other) actor at' in
    let ranks : rank c q (runs_of a h) ≡ rank c place (runs_of a h) = places_differ (λ (call : ℕ × Submission). call.1.actor == a) 0 (calls_of c h)
    (rank c q (runs_of a h)) (rank c place (runs_of a h)) k (held_call h a q order there caller' future') (held_call h a place order at caller future) in
    (actor, same_place (λ (i : RunItem). i.caller == c) (runs_of a h) q place there (eq-eqb other.caller c caller') at (eq-eqb item.caller c caller) ranks)
