-- What is gathered of those that pass a test.
use Rattle.act_plan_plays.proofs.Common.{◌≡◌, ℕ, ◌+◌, ◌<◌, ◌≤◌, Bool, true, false, List, [], ◌∷◌, ◌++◌, length, take, get_or, ap, sym, ◌∙◌, subst, Contains}
use Rattle.act_plan_plays.proofs.Common.{arith, ◌==◌, ◌||◌, eqb-true, take_more, take_all, Contains-append_left, Contains-append_right, IsPrefix, contains}
use Rattle.act_plan_plays.proofs.Common.{front_trans, contains_push, either_of}

-- each of these that passes was made
abbrev pub HasMade : {X : Type 0} → (ℕ → Bool) → (ℕ → X) → List ℕ → List X → Type 0
HasMade test make xs made = (a : ℕ) → contains a xs ≡ true → test a ≡ true → Contains made (make a)

further : (xs : List ℕ) (i a b : ℕ) → i < length xs → a ≡ get_or xs i a → contains b (take (i + 1) xs) ≡ (contains b (take i xs) || (a == b))
further xs i a b within is = ap (contains b) (take_more xs i a within ∙ ap (λ x. take i xs ++ x ∷ []) (sym is)) ∙ contains_push b a (take i xs)

-- where one was made of each number so far that passes, and one of the next, that holds up to the next
pub made_more : {X : Type 0} {test : ℕ → Bool} {make : ℕ → X} (xs : List ℕ) {i a : ℕ} (made : List X) {more : List X} → i < length xs → a ≡ get_or xs i a →
    more ≡ made ++ make a ∷ [] → HasMade test make (take i xs) made → HasMade test make (take (i + 1) xs) more
made_more {X = X} {make} xs {i} {a} made within is pushed so_far b there passes =
    subst (λ l. Contains l (make b)) (sym pushed)
    (either_of (contains b (take i xs)) (a == b) (Contains (made ++ make a ∷ []) (make b)) (sym (further xs i a b within is) ∙ there)
    (λ before. Contains-append_left made (make a ∷ []) (make b) (so_far b before passes))
    (λ same. Contains-append_right made (make a ∷ []) (make b) (0, omega arith, ap make (eqb-true a b same))))

-- where one was made of each number so far that passes, and the next fails, that holds up to the next
pub made_same : {X : Type 0} {test : ℕ → Bool} {make : ℕ → X} (xs : List ℕ) {i a : ℕ} {made more : List X} → i < length xs → a ≡ get_or xs i a → more ≡ made →
    test a ≡ false → HasMade test make (take i xs) made → HasMade test make (take (i + 1) xs) more
made_same {X = X} {test} {make} xs {i} {a} {made} within is same fails so_far b there passes =
    subst (λ l. Contains l (make b)) (sym same)
    (either_of (contains b (take i xs)) (a == b) (Contains made (make b)) (sym (further xs i a b within is) ∙ there) (λ before. so_far b before passes)
    (λ one. let bad : true ≡ false = sym passes ∙ ap test (sym (eqb-true a b one)) ∙ fails in cc))

-- where one was made of each number so far that passes, and none is left, that holds of the whole list
pub made_whole : {X : Type 0} {test : ℕ → Bool} {make : ℕ → X} (xs : List ℕ) {n : ℕ} (made : List X) → length xs ≤ n → HasMade test make (take n xs) made
    → HasMade test make xs made
made_whole {X = X} {test} {make} xs {n} made whole so_far = subst (λ l. HasMade test make l made) (take_all n xs whole) so_far

-- a prefix of a list is one of the list with one more item behind it
pub front_push : {X : Type 0} (old made : List X) {more : List X} (x : X) → more ≡ made ++ x ∷ [] → IsPrefix old made → IsPrefix old more
front_push old made {more} x pushed front = front_trans old made more front (x ∷ [], sym pushed)

-- a prefix of what was made is one of what is made now, where nothing was added
pub front_same : {X : Type 0} (old : List X) {made more : List X} → more ≡ made → IsPrefix old made → IsPrefix old more
front_same {X = X} old same front = subst (λ l. IsPrefix old l) (sym same) front

-- what a longer list has
pub has_front : {X : Type 0} (xs ys : List X) (x : X) → IsPrefix xs ys → Contains xs x → Contains ys x
has_front {X = X} xs ys x front has = subst (λ l. Contains l x) front.1 (Contains-append_left xs front.0 x has)
