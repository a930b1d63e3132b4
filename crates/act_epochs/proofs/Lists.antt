-- Laws of lists: prefixes of joined lists, lists in which no element stands twice, and runs one after another.
use Rattle.act_epochs.proofs.Common.{◌≡◌, ◌≢◌, ℕ, zero, suc, ◌+◌, ◌≤◌, List, [], ◌∷◌, ◌++◌, length, Option, Some, None, refl, ap, sym, ◌∙◌, arith, append_assoc}
use Rattle.act_epochs.proofs.Common.{append-nil, All, AllPairs, filter_map, slice_get, enumerate_from, cons_option, All-nil, All-cons, All-weaker}
use Rattle.act_epochs.proofs.Common.{AllPairs-cons, KindState, RunItem, after_item, answers_from, answer_at, state_after, IsPrefix, IsIn, place_behind}
use Rattle.act_rules.proofs.Kept.{answers_from-append, length-answers_from, answer_at-front}

-- ---- prefixes

-- a prefix, where nothing follows it and the whole goes on
pub front_before : {A : Type 0} (xs ys zs : List A) → IsPrefix xs ys → IsPrefix (xs ++ []) (ys ++ zs)
front_before {A} xs ys zs f = (
  f.0 ++ zs,
  ap (λ l. l ++ (f.0 ++ zs)) (append-nil xs) ∙ sym (append_assoc xs f.0 zs) ∙ ap (λ l. l ++ zs) f.1,
)

-- ---- what a list is made of

pub record CameFrom {A B : Type 0} (f : A → Option B) (xs : List A) (y : B) : Type 0 where
  pub one : A
  pub inside : IsIn xs one
  pub gives : f one ≡ Some y

pub came_from : {A B : Type 0} (f : A → Option B) (xs : List A) (k : ℕ) (y : B) → slice_get (filter_map f xs) k ≡ Some y → CameFrom f xs y
came_from f [] k y e = cc
came_from {A} {B} f (x ∷ xs) k y e = go (f x) refl k (λ m. came_from f xs m y) e
  where
    later : CameFrom f xs y → CameFrom f (x ∷ xs) y
    later r = record { one = r.one; inside = record { place = suc r.inside.place; at = r.inside.at }; gives = r.gives }

    go : (o : Option B) → f x ≡ o → (k : ℕ) → ((m : ℕ) → slice_get (filter_map f xs) m ≡ Some y → CameFrom f xs y)
        → slice_get (cons_option o (filter_map f xs)) k ≡ Some y → CameFrom f (x ∷ xs) y
    go None is k rest e = later (rest k e)
    go (Some z) is zero rest e = record { one = x; inside = record { place = 0; at = refl }; gives = is ∙ e }
    go (Some z) is (suc m) rest e = later (rest m e)

-- ---- no element stands twice

pub from_number : {A : Type 0} (n : ℕ) (xs : List A) → All (λ (p : ℕ × A). n ≤ p.0) (enumerate_from n xs)
from_number n [] = All-nil (λ p. n ≤ p.0)
from_number {A} n (x ∷ xs) =
    let here : n ≤ n = omega arith in
    All-cons (λ (p : ℕ × A). n ≤ p.0) (n, x) (enumerate_from (n + 1) xs) here
    (All-weaker (λ (p : ℕ × A). n + 1 ≤ p.0) (λ (p : ℕ × A). n ≤ p.0) (λ p more. omega (arith, more)) (enumerate_from (n + 1) xs) (from_number (n + 1) xs))

-- the places of a list differ
pub places_apart : {A : Type 0} (n : ℕ) (xs : List A) → AllPairs (λ (one other : ℕ × A). one.0 ≢ other.0) (enumerate_from n xs)
places_apart n [] = λ i j d lt below. absurd (omega arith)
places_apart {A} n (x ∷ xs) =
    AllPairs-cons (λ (one other : ℕ × A). one.0 ≢ other.0) (n, x) (enumerate_from (n + 1) xs)
    (All-weaker (λ (p : ℕ × A). n + 1 ≤ p.0) (λ (p : ℕ × A). n ≢ p.0) (λ p more same. omega (arith, more, same)) (enumerate_from (n + 1) xs)
    (from_number (n + 1) xs))
    (places_apart (n + 1) xs)

-- ---- runs, one after another

pub state_after-append : (state : KindState) (xs ys : List RunItem) → state_after state (xs ++ ys) ≡ state_after (state_after state xs) ys
state_after-append state [] ys = refl
state_after-append state (x ∷ xs) ys = state_after-append (after_item state x).0 xs ys

-- the answer at a place of runs that others precede and follow
pub answer_between : (state : KindState) (xs ys zs : List RunItem) (k : ℕ) (item : RunItem) → slice_get ys k ≡ Some item
    → answer_at state (xs ++ (ys ++ zs)) (length xs + k) ≡ answer_at (state_after state xs) ys k
answer_between state xs ys zs k item at =
    let long : length (answers_from state xs) ≡ length xs = length-answers_from state xs in
    ap (λ l. slice_get l (length xs + k)) (answers_from-append state xs (ys ++ zs))
    ∙ ap (λ n. slice_get (answers_from state xs ++ answers_from (state_after state xs) (ys ++ zs)) (n + k)) (sym long)
    ∙ place_behind (answers_from state xs) (answers_from (state_after state xs) (ys ++ zs)) k
    ∙ answer_at-front (state_after state xs) ys (ys ++ zs) k (zs, refl) at
