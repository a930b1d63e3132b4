-- Where each caller collects in line, no notice is collected twice.
use Rattle.act_executor.proofs.Common.{◌≡◌, ◌≢◌, ℕ, ◌+◌, ◌≤◌, ◌==◌, Bool, true, false, cond, List, [], ◌∷◌, ◌++◌, refl, ap, sym, ◌∙◌, subst, arith, AllPairs}
use Rattle.act_executor.proofs.Common.{◌&&◌, map, filter, AllByRecursion, enumerate_from, eq-eqb, All-from_recursion, AllPairs-cons, Post, RunItem, History}
use Rattle.act_executor.proofs.Common.{runs_of, is_between, CollectsInLine, ReplyPost, DeathPost}

-- no two are the same, by recursion
abbrev pub Differ : {A : Type 0} → List A → Type 0
Differ [] = Unit {0}
Differ (x ∷ xs) = AllByRecursion (λ y. x ≢ y) xs × Differ xs

pub differ_pairs : {A : Type 0} (xs : List A) → Differ xs → AllPairs (λ one other. one ≢ other) xs
differ_pairs [] differ = λ i j d below within. absurd (omega (arith, within))
differ_pairs {A = A} (x ∷ xs) differ = AllPairs-cons (λ one other. one ≢ other) x xs (All-from_recursion (λ y. x ≢ y) xs differ.0) (differ_pairs xs differ.1)

all_front : {A : Type 0} (P : A → Type 0) (xs ys : List A) → AllByRecursion P (xs ++ ys) → AllByRecursion P xs
all_front P [] ys all = tt
all_front P (x ∷ xs) ys all = (all.0, all_front P xs ys all.1)

pub front_differs : {A : Type 0} (xs ys : List A) → Differ (xs ++ ys) → Differ xs
front_differs [] ys differ = tt
front_differs {A = A} (x ∷ xs) ys differ = (all_front (λ y. x ≢ y) xs ys differ.0, front_differs xs ys differ.1)

-- ---- all of one kind, from those of each pair of a caller and an actor

-- what goes between some caller and some actor
pub record HasEnds {X : Type 0} (between : ℕ → ℕ → X → Bool) (x : X) : Type 0 where
  pub caller : ℕ
  pub actor : ℕ
  pub goes : between caller actor x ≡ true

pub both_same : (c a : ℕ) → ((c == c) && (a == a)) ≡ true
both_same c a = ap (λ b. b && (a == a)) (eq-eqb c c refl) ∙ eq-eqb a a refl

module _ {X : Type 0} (between : ℕ → ℕ → X → Bool) where
  rest_differs : (c a : ℕ) (x : X) (xs : List X) → Differ (filter (between c a) (x ∷ xs)) → Differ (filter (between c a) xs)
  rest_differs c a x xs differ = go (between c a x) differ
    where
      go : (b : Bool) → Differ (cond b (x ∷ filter (between c a) xs) (filter (between c a) xs)) → Differ (filter (between c a) xs)
      go true differ = differ.1
      go false differ = differ

  others : (c a : ℕ) (x : X) (xs : List X) → between c a x ≡ true → AllByRecursion (λ y. x ≢ y) (filter (between c a) xs) → AllByRecursion (λ y. x ≢ y) xs
  others c a x [] mine all = tt
  others c a x (y ∷ xs) mine all = go (between c a y) refl all (others c a x xs mine)
    where
      go : (b : Bool) → between c a y ≡ b → AllByRecursion (λ y. x ≢ y) (cond b (y ∷ filter (between c a) xs) (filter (between c a) xs)) →
          (AllByRecursion (λ y. x ≢ y) (filter (between c a) xs) → AllByRecursion (λ y. x ≢ y) xs) → AllByRecursion (λ y. x ≢ y) (y ∷ xs)
      go true is all rest = (all.0, rest all.1)
      go false is all rest = ((λ e. (let bad : true ≡ false = sym mine ∙ ap (between c a) e ∙ is in cc)), rest all)

  pub all_differ : ((x : X) → HasEnds between x) → (xs : List X) → ((c a : ℕ) → Differ (filter (between c a) xs)) → Differ xs
  all_differ ends [] each = tt
  all_differ ends (x ∷ xs) each =
      let e = ends x in
      let here : Differ (x ∷ filter (between e.caller e.actor) xs) =
      subst (λ b. Differ (cond b (x ∷ filter (between e.caller e.actor) xs) (filter (between e.caller e.actor) xs))) e.goes (each e.caller e.actor) in
      (others e.caller e.actor x xs e.goes here.0, all_differ ends xs (λ c a. rest_differs c a x xs (each c a)))

-- ---- one line

module _ (c a : ℕ) where
  abbrev places_from : ℕ → List RunItem → List ℕ
  places_from n log = map (λ ran. ran.0) (filter (λ ran. ran.1.caller == c) (enumerate_from n log))

  abbrev line : List ℕ → List Post
  line places = map (λ place. ReplyPost c a place) places ++ DeathPost c a ∷ []

  late : (n m : ℕ) (log : List RunItem) → n ≤ m → AllByRecursion (λ p. n ≤ p) (places_from m log)
  late n m [] below = tt
  late n m (x ∷ log) below = go (x.caller == c) (late n (m + 1) log (omega (arith, below)))
    where
      go : (b : Bool) → AllByRecursion (λ p. n ≤ p) (places_from (m + 1) log) → AllByRecursion (λ p. n ≤ p) (map (λ ran. ran.0)
          (cond b ((m, x) ∷ filter (λ ran. ran.1.caller == c) (enumerate_from (m + 1) log)) (filter (λ ran. ran.1.caller == c) (enumerate_from (m + 1) log))))
      go true rest = (below, rest)
      go false rest = rest

  abbrev place_in : Post → ℕ
  place_in (ReplyPost d b place) = place
  place_in (DeathPost d b) = 0

  apart : (n : ℕ) (places : List ℕ) → AllByRecursion (λ p. n + 1 ≤ p) places → AllByRecursion (λ x. ReplyPost c a n ≢ x) (line places)
  apart n [] all = ((λ e. cc), tt)
  apart n (p ∷ places) all = ((λ e. (let same : n ≡ p = ap place_in e in let past : n + 1 ≤ p = all.0 in omega (arith, same, past))), apart n places all.1)

  line_differs : (n : ℕ) (log : List RunItem) → Differ (line (places_from n log))
  line_differs n [] = (tt, tt)
  line_differs n (x ∷ log) = go (x.caller == c) (late (n + 1) (n + 1) log (omega arith)) (line_differs (n + 1) log)
    where
      go : (b : Bool) → AllByRecursion (λ p. n + 1 ≤ p) (places_from (n + 1) log) → Differ (line (places_from (n + 1) log)) → Differ (line (map (λ ran. ran.0)
          (cond b ((n, x) ∷ filter (λ ran. ran.1.caller == c) (enumerate_from (n + 1) log)) (filter (λ ran. ran.1.caller == c) (enumerate_from (n + 1) log)))))
      go true past rest = (apart n (places_from (n + 1) log) past, rest)
      go false past rest = rest

-- ---- all lines

ends_of : (x : Post) → HasEnds is_between x
ends_of (ReplyPost c a place) = record { caller = c; actor = a; goes = both_same c a }
ends_of (DeathPost c a) = record { caller = c; actor = a; goes = both_same c a }

pub collected_once : (h : History) → ((c a : ℕ) → CollectsInLine h c a) → AllPairs (λ one other. one ≢ other) h.collected
collected_once h lines = differ_pairs h.collected (all_differ is_between ends_of h.collected (λ c a.
    front_differs (filter (is_between c a) h.collected) (lines c a).0 (subst (λ l. Differ l) (sym (lines c a).1) (line_differs c a 0 (runs_of a h)))))
