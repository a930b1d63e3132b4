-- How many steps a caller is done with, and which.
use Rattle.act_early.proofs.Common.{◌≡◌, ℕ, zero, suc, ◌+◌, ◌≤◌, Bool, true, false, cond, List, [], ◌∷◌, ◌++◌, length, Some, refl, ap, sym, ◌∙◌, subst}
use Rattle.act_early.proofs.Common.{arith, length-append, ◌==◌, slice_get, take, eqb-true, append-nil, filter-append, Step, occurrences, IsPrefix, At, steps_of}
use Rattle.act_early.proofs.Common.{next_step, take_all, take_next}

-- a pushed list has a number as often as before, and once more where that is the number pushed
pub occurrences-push : (d c : ℕ) (xs : List ℕ) → occurrences d (xs ++ c ∷ []) ≡ occurrences d xs + cond (c == d) 1 0
occurrences-push d c xs = rw (filter-append (λ b. b == d) xs (c ∷ []), length-append) (go (c == d))
  where
    go : (same : Bool) → occurrences d xs + length {A = ℕ} (cond same (c ∷ []) []) ≡ occurrences d xs + cond same 1 0
    go true = refl
    go false = refl

-- the first n + 1 items of a list are the first n, and then the one at place n
pub take-at : {A : Type 0} (xs : List A) (n : ℕ) {x : A} → slice_get xs n ≡ Some x → take (n + 1) xs ≡ take n xs ++ x ∷ []
take-at {A = A} xs n {x} e = let one : n + 1 ≡ suc n = omega arith in ap (λ m. take m xs) one ∙ take_next xs n e

-- the steps that a caller is done with
abbrev pub done_steps : (ℕ → List Step) → ℕ → At → List Step
done_steps plans c at = take (steps_of c at) (plans c)

-- once a caller is done with its next step, this is the last of its done ones; another caller's stay as they are
pub done-push : (plans : ℕ → List Step) (c d : ℕ) (at : At) (step : Step) → next_step plans c at ≡ Some step
    → take (occurrences d (at.stepped ++ c ∷ [])) (plans d) ≡ done_steps plans d at ++ cond (c == d) (step ∷ []) []
done-push plans c d at step is = ap (λ n. take n (plans d)) (occurrences-push d c at.stepped) ∙ go (c == d) refl
  where
    go : (same : Bool) → (c == d) ≡ same → take (steps_of d at + cond same 1 0) (plans d) ≡ done_steps plans d at ++ cond same (step ∷ []) []
    go true e = take-at (plans d) (steps_of d at) (subst (λ x. slice_get (plans x) (steps_of x at) ≡ Some step) (eqb-true c d e) is)
    go false e = let same : steps_of d at + 0 ≡ steps_of d at = omega arith in rw same (sym (append-nil (done_steps plans d at)))

-- another caller's next step stays
pub other_next : (plans : ℕ → List Step) (c d : ℕ) (at : At) → (c == d) ≡ false
    → slice_get (plans d) (occurrences d (at.stepped ++ c ∷ [])) ≡ next_step plans d at
other_next plans c d at e = ap (λ n. slice_get (plans d) n)
    (occurrences-push d c at.stepped ∙ rw e (let same : steps_of d at + 0 ≡ steps_of d at = omega arith in same))

-- the first m items of a list are a prefix of its first n, where m is at most n
pub take-prefix : {A : Type 0} (xs : List A) (m n : ℕ) → m ≤ n → IsPrefix (take m xs) (take n xs)
take-prefix xs zero n le = (take n xs, refl)
take-prefix [] (suc m) zero le = ([], refl)
take-prefix [] (suc m) (suc n) le = ([], refl)
take-prefix (x ∷ xs) (suc m) zero le = absurd (omega arith)
take-prefix {A = A} (x ∷ xs) (suc m) (suc n) le = let rest = take-prefix xs m n (omega arith) in (rest.0, ap (λ l. x ∷ l) rest.1)

-- the first n items of a list that has no more than n are all of it
pub take-past : {A : Type 0} (xs : List A) (n : ℕ) → length xs ≤ n → take n xs ≡ xs
take-past xs n le = take_all n xs le
