-- Laws of clocks, and of all that an actor's thread did at one time.
use Rattle.act_serve.proofs.Common.{◌≡◌, ℕ, zero, suc, ◌<◌, ◌≤◌, List, [], ◌∷◌, ◌++◌, map, length, get_or, Option, Some, None, ◌⊎◌, inl, inr, refl, ap, sym}
use Rattle.act_serve.proofs.Common.{◌∙◌, subst, arith, append-nil, append_assoc, set, flat_map, filter_map, option_map, Contains, AllZip, cons_option}
use Rattle.act_serve.proofs.Common.{get_or-map, length-map, flat_map-cons, Contains-get_or, Contains-append_left, Contains-append_right, Contains-append_cases}
use Rattle.act_serve.proofs.Common.{max_bounds, max_least, greatest, clock, found_in, IsTimed, found_more, timed_later, timed_push}
use Rattle.act_lists.proofs.Lists.{contains_tail}

-- ---- elements

pub contains_head : {X : Type 0} (x : X) (xs : List X) → Contains (x ∷ xs) x
contains_head x xs = (0, omega arith, refl)

-- what a list contains, its image contains under the same function
pub contains_map : {A B : Type 0} (f : A → B) (xs : List A) (x : A) → Contains xs x → Contains (map f xs) (f x)
contains_map f xs x h = let lt = h.1 in (h.0, omega (arith, lt, length-map xs f), get_or-map f xs h.0 x (f x) lt ∙ ap f h.2)

pub contains_of_map : {A B : Type 0} (f : A → B) (xs : List A) (y : B) → Contains (map f xs) y → (x : A) × Contains xs x × (f x ≡ y)
contains_of_map {A} {B} f [] y h = let lt = h.1 in absurd (omega (arith, lt))
contains_of_map {A} {B} f (x ∷ xs) y h = go h.0 h.1 h.2 (contains_of_map f xs y)
  where
    go : (k : ℕ) → k < length (map f (x ∷ xs)) → get_or (map f (x ∷ xs)) k y ≡ y → (Contains (map f xs) y → (z : A) × Contains xs z × (f z ≡ y)) →
        (z : A) × Contains (x ∷ xs) z × (f z ≡ y)
    go zero lt e later = (x, contains_head x xs, e)
    go (suc k) lt e later = let one = later (k, omega (arith, lt), e) in (one.0, contains_tail x one.0 xs one.1, one.2)

-- ---- clocks

pub greatest_above : (ns : List ℕ) (n : ℕ) → Contains ns n → n ≤ greatest ns
greatest_above ns n h = subst (λ m. m ≤ greatest ns) h.2 (max_bounds greatest (λ x. x) refl (λ x xs. refl) ns h.0 n h.1)

pub greatest_least : (ns : List ℕ) (m : ℕ) → ((n : ℕ) → Contains ns n → n ≤ m) → greatest ns ≤ m
greatest_least ns m h = max_least greatest (λ x. x) refl (λ x xs. refl) ns 0 m (λ i lt. h (get_or ns i 0) (Contains-get_or ns i 0 lt))

-- the clock is no less than what was put with
pub clock_put : (put taken : List ℕ) (s : ℕ) → Contains put s → s ≤ clock put taken
clock_put put taken s h = greatest_above (put ++ map suc taken) s (Contains-append_left put (map suc taken) s h)

-- it is above that with which what was taken was put
pub clock_taken : (put taken : List ℕ) (s : ℕ) → Contains taken s → s < clock put taken
clock_taken put taken s h =
    let le : suc s ≤ clock put taken =
    greatest_above (put ++ map suc taken) (suc s) (Contains-append_right put (map suc taken) (suc s) (contains_map suc taken s h)) in
    omega (arith, le)

pub clock_least : (put taken : List ℕ) (n : ℕ) → ((s : ℕ) → Contains put s → s ≤ n) → ((s : ℕ) → Contains taken s → s < n) → clock put taken ≤ n
clock_least put taken n puts takes = greatest_least (put ++ map suc taken) n (λ m h. go m (Contains-append_cases put (map suc taken) m h))
  where
    go : (m : ℕ) → Contains put m ⊎ Contains (map suc taken) m → m ≤ n
    go m (inl h) = puts m h
    go m (inr h) = let one = contains_of_map suc taken m h in let lt = takes one.0 one.1 in let e = one.2 in omega (arith, lt, e)

-- the clock grows as the lists do
pub clock_within : (put more taken later : List ℕ) → ((s : ℕ) → Contains put s → Contains more s) → ((s : ℕ) → Contains taken s → Contains later s) →
    clock put taken ≤ clock more later
clock_within put more taken later puts takes =
    clock_least put taken (clock more later) (λ s h. clock_put more later s (puts s h)) (λ s h. clock_taken more later s (takes s h))

-- ---- what is found in steps

-- a step that holds something was among them
pub contains_of_found : {S X : Type 0} (part : S → Option X) (steps : List S) (x : X) → Contains (filter_map part steps) x →
    (step : S) × Contains steps step × (part step ≡ Some x)
contains_of_found {S} {X} part [] x h = let lt = h.1 in absurd (omega (arith, lt))
contains_of_found {S} {X} part (step ∷ steps) x h = go (part step) refl h (contains_of_found part steps x)
  where
    here : (k : ℕ) (y : X) → part step ≡ Some y → k < length (y ∷ filter_map part steps) → get_or (y ∷ filter_map part steps) k x ≡ x
        → (Contains (filter_map part steps) x → (s : S) × Contains steps s × (part s ≡ Some x)) → (s : S) × Contains (step ∷ steps) s × (part s ≡ Some x)
    here zero y e lt is later = (step, contains_head step steps, e ∙ ap (λ z. Some z) is)
    here (suc k) y e lt is later = let one = later (k, omega (arith, lt), is) in (one.0, contains_tail step one.0 steps one.1, one.2)

    go : (o : Option X) → part step ≡ o → Contains (cons_option o (filter_map part steps)) x
        → (Contains (filter_map part steps) x → (s : S) × Contains steps s × (part s ≡ Some x)) → (s : S) × Contains (step ∷ steps) s × (part s ≡ Some x)
    go None e g later = let one = later g in (one.0, contains_tail step one.0 steps one.1, one.2)
    go (Some y) e g later = here g.0 y e g.1 g.2 later

-- ---- stamps of several lists

flat_next : {X : Type 0} (f : X → List ℕ) (x : X) (xs : List X) (s : ℕ) → Contains (flat_map f (x ∷ xs)) s → Contains (f x) s ⊎ Contains (flat_map f xs) s
flat_next f x xs s h = Contains-append_cases (f x) (flat_map f xs) s (subst (λ l. Contains l s) (flat_map-cons f x xs) h)

flat_head : {X : Type 0} (f : X → List ℕ) (x : X) (xs : List X) (s : ℕ) → Contains (f x) s → Contains (flat_map f (x ∷ xs)) s
flat_head f x xs s h = subst (λ l. Contains l s) (sym (flat_map-cons f x xs)) (Contains-append_left (f x) (flat_map f xs) s h)

flat_tail : {X : Type 0} (f : X → List ℕ) (x : X) (xs : List X) (s : ℕ) → Contains (flat_map f xs) s → Contains (flat_map f (x ∷ xs)) s
flat_tail f x xs s h = subst (λ l. Contains l s) (sym (flat_map-cons f x xs)) (Contains-append_right (f x) (flat_map f xs) s h)

-- where each list holds at least the stamps that it held, so do all together
pub flat_within : {X : Type 0} (f : X → List ℕ) (xs ys : List X) → AllZip (λ x y. (s : ℕ) → Contains (f x) s → Contains (f y) s) xs ys
    → (s : ℕ) → Contains (flat_map f xs) s → Contains (flat_map f ys) s
flat_within f [] [] h s c = c
flat_within f [] (y ∷ ys) h s c = absurd h
flat_within f (x ∷ xs) [] h s c = absurd h
flat_within f (x ∷ xs) (y ∷ ys) h s c = go (flat_within f xs ys h.1 s) (flat_next f x xs s c)
  where
    go : (Contains (flat_map f xs) s → Contains (flat_map f ys) s) → Contains (f x) s ⊎ Contains (flat_map f xs) s → Contains (flat_map f (y ∷ ys)) s
    go later (inl one) = flat_head f y ys s (h.0 s one)
    go later (inr more) = flat_tail f y ys s (later more)

-- a list beside itself, with one element set or each changed
pub all_zip_same : {X : Type 0} (R : X → X → Type 0) (xs : List X) → ((x : X) → R x x) → AllZip R xs xs
all_zip_same R [] h = tt
all_zip_same R (x ∷ xs) h = (h x, all_zip_same R xs h)

pub all_zip_set : {X : Type 0} (R : X → X → Type 0) (xs : List X) (i : ℕ) (y : X) → ((x : X) → R x x) → ((d : X) → i < length xs → R (get_or xs i d) y) →
    AllZip R xs (set xs i y)
all_zip_set R [] i y h at = tt
all_zip_set R (x ∷ xs) zero y h at = (at x (omega arith), all_zip_same R xs h)
all_zip_set R (x ∷ xs) (suc i) y h at = (h x, all_zip_set R xs i y h (λ d lt. at d (omega (arith, lt))))

pub all_zip_map : {X : Type 0} (R : X → X → Type 0) (f : X → X) (xs : List X) → ((x : X) → R x (f x)) → AllZip R xs (map f xs)
all_zip_map R f [] h = tt
all_zip_map R f (x ∷ xs) h = (h x, all_zip_map R f xs h)

-- ---- many steps at one time

pub timed_all : {S E : Type 0} (f : E → S) (es : List E) (now : ℕ) {n later : ℕ} (trace : List (ℕ × S)) → now ≤ n → n ≤ later → IsTimed now trace →
    IsTimed later (trace ++ map (λ e. (n, f e)) es)
timed_all {S} {E} f [] now {later} trace le after h =
    subst (λ l. IsTimed later l) (sym (append-nil trace)) (timed_later {later = later} (omega (arith, le, after)) h)
timed_all {S} {E} f (e ∷ es) now {n} {later} trace le after h =
    subst (λ l. IsTimed later l) (append_assoc trace ((n, f e) ∷ []) (map (λ x. (n, f x)) es))
    (timed_all f es n (trace ++ (n, f e) ∷ []) (omega arith) after (timed_push n (f e) le (omega arith) h))

-- steps that hold nothing of a part
pub found_nothing : {S X E : Type 0} (part : S → Option X) (f : E → S) (es : List E) (n : ℕ) (trace : List (ℕ × S)) → ((e : E) → part (f e) ≡ None) →
    found_in part (trace ++ map (λ e. (n, f e)) es) ≡ found_in part trace
found_nothing {S} {X} {E} part f es n trace none =
    found_more part trace (map (λ e. (n, f e)) es) ∙ ap (λ l. found_in part trace ++ l) (go es) ∙ append-nil (found_in part trace)
  where
    go : (xs : List E) → found_in part (map (λ e. (n, f e)) xs) ≡ []
    go [] = refl
    go (x ∷ xs) = ap (λ p. cons_option (option_map (λ y. (n, y)) p) (found_in part (map (λ e. (n, f e)) xs))) (none x) ∙ go xs
