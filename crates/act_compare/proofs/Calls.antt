-- Calls that are the same one by one.
use Rattle.std.proofs.Common.{◌≡◌, ℕ, ◌+◌, ◌<◌, ◌≤◌, List, length, take, get_or, Option, Some, None, option_map, ◌⊎◌, inl, inr, refl, ap, sym, ◌∙◌, subst}
use Rattle.std.proofs.Common.{arith, slice_get}
use Rattle.std.proofs.lemmas.List.{take_more_same}
use Rattle.std.proofs.lemmas.Option.{get_or_from_slice_get, slice_get_cases}
use Rattle.act_rules.specs.declared.history.Submission.{Submission}
use Rattle.act_rules.specs.RunList.{Answer}
use Rattle.act_rules.specs.Submissions.{kept_at}
use Rattle.act_owner.specs.declared.owner.Call.{Call}
use Rattle.act_owner.specs.Owner.{OwnerView, numbered_call, call_at}

-- the first calls are the same, and so are their answers
pub record AreSameBelow (n : ℕ) (one other : OwnerView) : Type 0 where
  pub calls : take n one.calls ≡ take n other.calls
  pub answers : (k : ℕ) → k < n → kept_at one.kept k ≡ kept_at other.kept k

-- a call without its number
abbrev pub given : Call → Submission
given call = record { actor = call.actor; method = call.method; args = call.args }

-- a call that got a number is the same without it
pub given_back : (calls : List Submission) (k : ℕ) (call : Option Submission) → option_map given (option_map (numbered_call calls k) call) ≡ call
given_back calls k None = refl
given_back calls k (Some call) = refl

same_get : (one other : List Submission) (k : ℕ) → call_at one k ≡ call_at other k → slice_get one k ≡ slice_get other k
same_get one other k same = sym (given_back one k (slice_get one k)) ∙ ap (λ call. option_map given call) same ∙ given_back other k (slice_get other k)

-- the front with one call more is the same
same_more : (one other : List Submission) (n : ℕ) → n < length one → n < length other → take n one ≡ take n other → call_at one n ≡ call_at other n →
    take (n + 1) one ≡ take (n + 1) other
same_more one other n within within_other front same = go (slice_get_cases one n).1
  where
    go : ((x : Submission) × (n < length one) × (slice_get one n ≡ Some x) × (get_or one n x ≡ x)) ⊎ ((length one ≤ n) × (slice_get one n ≡ None)) →
        take (n + 1) one ≡ take (n + 1) other
    go (inl found) =
        take_more_same one other n found.0 within within_other front
        (get_or_from_slice_get one n found.0 found.0 found.2 ∙ sym (get_or_from_slice_get other n found.0 found.0 (sym (same_get one other n same) ∙ found.2)))
    go (inr past) = absurd (omega arith)

kept_more : (one other : List (Option Answer)) (n k : ℕ) → (k < n → kept_at one k ≡ kept_at other k) → kept_at one n ≡ kept_at other n → k < n + 1 →
    kept_at one k ≡ kept_at other k
kept_more one other n k front same below = grind arith

-- so it is of one call more
pub below_more : {one other : OwnerView} {n : ℕ} (k : ℕ) → k ≡ n → n < length one.calls → length one.calls ≡ length other.calls
    → (call_at one.calls k ≡ call_at other.calls k) × (kept_at one.kept k ≡ kept_at other.kept k) → AreSameBelow n one other → AreSameBelow (n + 1) one other
below_more {one} {other} {n} k is within long same front = record {
  calls = same_more one.calls other.calls n within (omega arith) front.calls (subst (λ k. call_at one.calls k ≡ call_at other.calls k) is same.0);
  answers = λ j. kept_more one.kept other.kept n j (front.answers j) (subst (λ k. kept_at one.kept k ≡ kept_at other.kept k) is same.1);
}
