-- A retry, try by try.
use Rattle.example_callers.proofs.Common.{◌≡◌, ℕ, ◌+◌, ◌<◌, List, [], ◌∷◌, length, replicate, Option, Some, None, is_some, true, false, refl, ap, sym, ◌∙◌, inl}
use Rattle.example_callers.proofs.Common.{inr, ◌⊎◌, Int, Arg, Plain, Withdraw, Answer, kept_at, SessionView, IsLater, Submits, Retry, withdraw_try, is_lacking}
use Rattle.example_callers.proofs.Common.{HasFailed, HasTried}
use Rattle.example_callers.proofs.Calls.{called, kept_same}
use Rattle.example_callers.proofs.Works.{length_of, last_or_before}
use Rattle.std.proofs.lemmas.List.{replicate_more}

lacking_there : (o : Option Answer) → is_lacking o ≡ true → is_some o ≡ true
lacking_there None lacking = cc
lacking_there (Some answer) lacking = refl

-- one try more
module _ (r : Retry) (n : ℕ) (old new : SessionView) (k : ℕ) (args : List Arg) (so : HasFailed r n old) (amount : args ≡ Plain (Int r.amount) ∷ [])
    (future : k ≡ length old.calls) (submits : Submits (record { actor = r.account; method = Withdraw; args = args }) old new) (on : IsLater old new) where
  place : k ≡ n
  place = future ∙ length_of n (withdraw_try r) so.calls

  calls : new.calls ≡ replicate (n + 1) (withdraw_try r)
  calls = called r.account Withdraw (Plain (Int r.amount) ∷ []) args (replicate n (withdraw_try r)) old new amount so.calls submits ∙
      replicate_more n (withdraw_try r)

  still : (j : ℕ) → j < n → is_lacking (kept_at new.kept j) ≡ true
  still j below = ap is_lacking (kept_same j on (lacking_there (kept_at old.kept j) (so.failed j below))) ∙ so.failed j below

  pub fails_more : is_lacking (kept_at new.kept k) ≡ true → HasFailed r (n + 1) new
  fails_more lacking = record { calls = calls; failed = λ j below. go j (last_or_before j n below) }
    where
      go : (j : ℕ) → (j ≡ n) ⊎ (j < n) → is_lacking (kept_at new.kept j) ≡ true
      go j (inl same) = ap (λ m. is_lacking (kept_at new.kept m)) (same ∙ sym place) ∙ lacking
      go j (inr less) = still j less

  -- the last try is answered otherwise
  pub tried : n < r.most → is_some (kept_at new.kept k) ≡ true → is_lacking (kept_at new.kept k) ≡ false → HasTried r new
  tried few there other = record {
    before = n;
    few = few;
    calls = calls;
    failed = still;
    asked = ap (λ m. is_some (kept_at new.kept m)) (sym place) ∙ there;
    last = ap (λ m. is_lacking (kept_at new.kept m)) (sym place) ∙ other;
  }
