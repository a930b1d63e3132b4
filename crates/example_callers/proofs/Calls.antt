-- The calls of a session, one after another.
use Rattle.example_callers.proofs.Common.{◌≡◌, ℕ, List, [], ◌∷◌, ◌++◌, Option, Some, None, is_some, true, refl, ap, sym, ◌∙◌, subst, Method, Arg, Submission}
use Rattle.example_callers.proofs.Common.{Answer, kept_at, SessionView, IsLater, Submits}

-- one call more, whose arguments are known
pub called : (a : ℕ) (method : Method) (args given : List Arg) (calls : List Submission) (old new : SessionView) → given ≡ args → old.calls ≡ calls
    → Submits (record { actor = a; method = method; args = given }) old new → new.calls ≡ calls ++ record { actor = a; method = method; args = args } ∷ []
called a method args given calls old new same is submits =
    submits.calls ∙ ap (λ l. l ++ record { actor = a; method = method; args = given } ∷ []) is
    ∙ ap (λ l. calls ++ record { actor = a; method = method; args = l } ∷ []) same

-- an answer that was kept is kept on
pub kept_on : (old new : SessionView) (k : ℕ) (answer : Answer) → IsLater old new → kept_at old.kept k ≡ Some answer → kept_at new.kept k ≡ Some answer
kept_on old new k answer on is = on.kept k answer is

-- the answer at a future that is known by its number
pub kept_here : (seen : SessionView) {k n : ℕ} {answer : Answer} → k ≡ n → kept_at seen.kept k ≡ Some answer → kept_at seen.kept n ≡ Some answer
kept_here seen {answer} same is = subst (λ m. kept_at seen.kept m ≡ Some answer) same is

-- an answer that is there is the same later
pub kept_same : {old new : SessionView} (k : ℕ) → IsLater old new → is_some (kept_at old.kept k) ≡ true → kept_at new.kept k ≡ kept_at old.kept k
kept_same {old} {new} k on some = go (kept_at old.kept k) refl some
  where
    go : (o : Option Answer) → kept_at old.kept k ≡ o → is_some o ≡ true → kept_at new.kept k ≡ kept_at old.kept k
    go None is none = cc
    go (Some answer) is there = on.kept k answer is ∙ sym is
