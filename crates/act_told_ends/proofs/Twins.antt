-- Calls that stand for others: to the same actors, with the arguments with which these ran.
use Rattle.act_told_ends.proofs.Common.{◌≡◌, ℕ, zero, suc, ◌+◌, Bool, true, false, cond, List, [], ◌∷◌, length, take, map, filter, Option, Some, None, refl, ap}
use Rattle.act_told_ends.proofs.Common.{sym, ◌∙◌, ◌==◌, slice_get, enumerate_from, list_all, length-map, and_parts, and_from, Arg, Submission, Answer, Ok, Err}
use Rattle.act_told_ends.proofs.Common.{calls_to, number_of, kept_at, is_known, settle, map-slice_get, slice_get-map, option_map, option_map-none, Plain, Fut}
use Rattle.act_told_ends.proofs.Common.{is_earlier, settled_future, head_same, tail_same, arg_as_run, filter_mapped, take-map}
use Rattle.act_types.specs.declared.call.Value.{Value}
use Rattle.act_rules.proofs.AsSubmitted.{goes_to}

-- ---- the same actors

abbrev pub actors : List Submission → List ℕ
actors calls = map (λ (call : Submission). call.actor) calls

-- lists of calls to the same actors, one by one, are of one length
pub length_same : (xs ys : List Submission) → actors xs ≡ actors ys → length xs ≡ length ys
length_same xs ys e = sym (length-map xs (λ (call : Submission). call.actor)) ∙ ap (λ l. length l) e ∙ length-map ys (λ (call : Submission). call.actor)

-- of lists that a function maps to the same, what stands at one place is mapped to the same
pub at_same : {A : Type 0} (f : A → ℕ) (xs ys : List A) (k : ℕ) {y : A} → map f xs ≡ map f ys → slice_get ys k ≡ Some y
    → (x : A) × (slice_get xs k ≡ Some x) × (f x ≡ f y)
at_same f xs ys k {y} e at = map-slice_get f xs k (ap (λ l. slice_get l k) e ∙ slice_get-map f ys k ∙ ap (option_map f) at)

pub none_same : {A : Type 0} (f : A → ℕ) (xs ys : List A) (k : ℕ) → map f xs ≡ map f ys → slice_get ys k ≡ None → slice_get xs k ≡ None
none_same f xs ys k e at = option_map-none f (slice_get xs k)
    (sym (slice_get-map f xs k) ∙ ap (λ l. slice_get l k) e ∙ slice_get-map f ys k ∙ ap (option_map f) at)

-- as many pass a test of what a function gives
passing : {A : Type 0} (f : A → ℕ) (q : ℕ → Bool) (xs : List A) → length (filter (λ x. q (f x)) xs) ≡ length (filter q (map f xs))
passing {A = A} f q xs = sym (length-map (filter (λ x. q (f x)) xs) f) ∙ ap (λ l. length l) (sym (filter_mapped q f xs))

pub map-take : (n : ℕ) (xs : List Submission) → actors (take n xs) ≡ take n (actors xs)
map-take n xs = sym (take-map (λ (call : Submission). call.actor) n xs)

pub number_same : (a k : ℕ) (xs ys : List Submission) → actors xs ≡ actors ys → number_of a k xs ≡ number_of a k ys
number_same a k xs ys e = passing (λ (call : Submission). call.actor) (λ n. n == a) (take k xs) ∙ ap (λ l. length (filter (λ n. n == a) l))
    (map-take k xs ∙ ap (take k) e ∙ sym (map-take k ys)) ∙ sym (passing (λ (call : Submission). call.actor) (λ n. n == a) (take k ys))

abbrev pub firsts : List (ℕ × Submission) → List ℕ
firsts calls = map (λ (call : ℕ × Submission). call.0) calls

firsts_same : (a m : ℕ) (xs ys : List Submission) → actors xs ≡ actors ys
    → firsts (filter (goes_to a) (enumerate_from m xs)) ≡ firsts (filter (goes_to a) (enumerate_from m ys))
firsts_same a m [] [] e = refl
firsts_same a m [] (y ∷ ys) e = cc
firsts_same a m (x ∷ xs) [] e = cc
firsts_same a m (x ∷ xs) (y ∷ ys) e =
    both (x.actor == a) (firsts_same a (m + 1) xs ys (tail_same x.actor y.actor (actors xs) (actors ys) e))
    ∙ ap (λ n. firsts (cond (n == a) ((m, y) ∷ filter (goes_to a) (enumerate_from (m + 1) ys)) (filter (goes_to a) (enumerate_from (m + 1) ys))))
    (head_same x.actor y.actor (actors xs) (actors ys) e)
  where
    both : (b : Bool) → firsts (filter (goes_to a) (enumerate_from (m + 1) xs)) ≡ firsts (filter (goes_to a) (enumerate_from (m + 1) ys))
        → firsts (cond b ((m, x) ∷ filter (goes_to a) (enumerate_from (m + 1) xs)) (filter (goes_to a) (enumerate_from (m + 1) xs)))
        ≡ firsts (cond b ((m, y) ∷ filter (goes_to a) (enumerate_from (m + 1) ys)) (filter (goes_to a) (enumerate_from (m + 1) ys)))
    both true e = ap (λ l. m ∷ l) e
    both false e = e

pub calls_to_same : (a : ℕ) (xs ys : List Submission) → actors xs ≡ actors ys → firsts (calls_to a xs) ≡ firsts (calls_to a ys)
calls_to_same a xs ys e = firsts_same a 0 xs ys e

pub count_same : (a : ℕ) (xs ys : List Submission) → actors xs ≡ actors ys → length (calls_to a xs) ≡ length (calls_to a ys)
count_same a xs ys e = sym (length-map (calls_to a xs) (λ (call : ℕ × Submission). call.0)) ∙ ap (λ l. length l) (calls_to_same a xs ys e)
    ∙ length-map (calls_to a ys) (λ (call : ℕ × Submission). call.0)

-- as many of two lists with the same numbers pass a test of the number
pub passing_same : (q : ℕ → Bool) (xs ys : List (ℕ × Submission)) → firsts xs ≡ firsts ys
    → length (filter (λ (call : ℕ × Submission). q call.0) xs) ≡ length (filter (λ (call : ℕ × Submission). q call.0) ys)
passing_same q xs ys e = passing (λ (call : ℕ × Submission). call.0) q xs ∙ ap (λ l. length (filter q l)) e
    ∙ sym (passing (λ (call : ℕ × Submission). call.0) q ys)

pub slice_get-take : {A : Type 0} (n k : ℕ) (xs : List A) {x : A} → slice_get (take n xs) k ≡ Some x → slice_get xs k ≡ Some x
slice_get-take zero k xs e = cc
slice_get-take (suc n) k [] e = cc
slice_get-take (suc n) zero (y ∷ xs) e = e
slice_get-take (suc n) (suc k) (y ∷ xs) {x} e = slice_get-take n k xs e

-- ---- arguments as they ran

abbrev pub as_run : List (Option Answer) → List Arg → List Arg
as_run kept args = map arg_as_run (map (settle kept) args)

pub as_run_length : (kept : List (Option Answer)) (args : List Arg) → length (as_run kept args) ≡ length args
as_run_length kept args = length-map (map (settle kept) args) arg_as_run ∙ length-map args (settle kept)

-- a test that values pass, and futures as they did, is passed by arguments as they ran
as_run_all : (p : Arg → Bool) (kept : List (Option Answer)) → ((value : Value) → p (Plain value) ≡ true) → (args : List Arg) → list_all p args ≡ true
    → list_all p (as_run kept args) ≡ true
as_run_all p kept plain [] e = refl
as_run_all p kept plain (arg ∷ args) e =
    let parts = and_parts (p arg) (list_all p args) e in
    and_from (p (arg_as_run (settle kept arg))) (list_all p (as_run kept args)) (one arg parts.0) (as_run_all p kept plain args parts.1)
  where
    one : (arg : Arg) → p arg ≡ true → p (arg_as_run (settle kept arg)) ≡ true
    one (Plain value) e = e
    one (Fut j) e = go (kept_at kept j)
      where
        go : (o : Option Answer) → p (arg_as_run (settled_future j o)) ≡ true
        go None = e
        go (Some (Ok value)) = plain value
        go (Some (Err fault)) = e

pub as_run_earlier : (count : ℕ) (kept : List (Option Answer)) (args : List Arg) → list_all (is_earlier count) args ≡ true
    → list_all (is_earlier count) (as_run kept args) ≡ true
as_run_earlier count kept args e = as_run_all (is_earlier count) kept (λ value. refl) args e

pub as_run_known : (now kept : List (Option Answer)) (args : List Arg) → list_all (is_known now) args ≡ true → list_all (is_known now) (as_run kept args) ≡ true
as_run_known now kept args e = as_run_all (is_known now) kept (λ value. refl) args e

-- they settle as the arguments did
pub as_run_settles : (now : List (Option Answer)) (args : List Arg) → map (settle now) (as_run now args) ≡ map (settle now) args
as_run_settles now [] = refl
as_run_settles now (arg ∷ args) = ap (λ s. s ∷ map (settle now) (as_run now args)) (one arg) ∙ ap (λ l. settle now arg ∷ l) (as_run_settles now args)
  where
    one : (arg : Arg) → settle now (arg_as_run (settle now arg)) ≡ settle now arg
    one (Plain value) = refl
    one (Fut j) = go (kept_at now j) refl
      where
        go : (o : Option Answer) → kept_at now j ≡ o → settle now (arg_as_run (settled_future j o)) ≡ settled_future j o
        go None e = ap (settled_future j) e
        go (Some (Ok value)) e = refl
        go (Some (Err fault)) e = ap (settled_future j) e
