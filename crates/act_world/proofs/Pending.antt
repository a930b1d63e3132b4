-- How many of a caller's calls are pending.
use Rattle.act_world.proofs.Common.{◌≡◌, ℕ, suc, ◌+◌, Bool, true, false, cond, List, [], ◌∷◌, length, Some, None, refl, ap, sym, ◌∙◌, arith, Option, ◌==◌, ◌&&◌}
use Rattle.act_world.proofs.Common.{not, filter, zip, slice_get, option_and_then, is_some, is_none, enumerate_from}
use Rattle.act_world.proofs.Common.{length-filter, Submission, Answer, kept_at, History, calls_of, kept_of, unanswered, OwnerView, call_waits_for}
use Rattle.act_world.proofs.Common.{pending, IsOwnerOf}
use Rattle.act_rules.proofs.Kept.{kept_size}

-- the calls that wait are those that have no answer
waiting_from : (a n : ℕ) (whole kept : List (Option Answer)) (calls : List Submission) → length kept ≡ length calls →
    ((i : ℕ) → slice_get kept i ≡ slice_get whole (n + i)) → length (filter (call_waits_for a) (zip calls kept)) ≡ length
    (filter (λ (call : ℕ × Submission). is_none (kept_at whole call.0)) (filter (λ (call : ℕ × Submission). call.1.actor == a) (enumerate_from n calls)))
waiting_from a n whole [] [] long h = refl
waiting_from a n whole (o ∷ kept) [] long h = absurd (cc)
waiting_from a n whole [] (x ∷ calls) long h = absurd (cc)
waiting_from a n whole (o ∷ kept) (x ∷ calls) long h =
    let none : n + 0 ≡ n = omega arith in
    let here : kept_at whole n ≡ o = sym (ap (λ m. kept_at whole m) none) ∙ ap (λ found. option_and_then (λ answer. answer) found) (sym (h 0)) in
    let rest = waiting_from a (n + 1) whole kept calls (omega arith)
    (λ i. let more : n + suc i ≡ (n + 1) + i = omega arith in h (suc i) ∙ ap (slice_get whole) more) in
    go (x.actor == a) o here rest
  where
    ahead : List (ℕ × Submission)
    ahead = filter (λ (call : ℕ × Submission). call.1.actor == a) (enumerate_from (n + 1) calls)

    behind : List (Submission × Option Answer)
    behind = filter (call_waits_for a) (zip calls kept)

    go : (b : Bool) (o : Option Answer) → kept_at whole n ≡ o → length behind ≡ length
        (filter (λ (call : ℕ × Submission). is_none (kept_at whole call.0)) ahead) → length (cond (b && not (is_some o)) ((x, o) ∷ behind) behind) ≡ length
        (filter (λ (call : ℕ × Submission). is_none (kept_at whole call.0)) (cond b ((n, x) ∷ ahead) ahead))
    go false o here rest = rest
    go true None here rest = rw here (ap suc rest)
    go true (Some answer) here rest = rw here rest

-- as many of a caller's calls are pending as the history says
pub unanswered_is : (h : History) (c a : ℕ) (owner : OwnerView) → IsOwnerOf h c owner → pending owner a ≡ unanswered c a h
unanswered_is h c a owner is =
    sym (length-filter (call_waits_for a) (zip owner.calls owner.kept))
    ∙ ap (λ calls. length (filter (call_waits_for a) (zip calls owner.kept))) is.calls
    ∙ ap (λ kept. length (filter (call_waits_for a) (zip (calls_of c h) kept))) is.kept
    ∙ waiting_from a 0 (kept_of c h) (kept_of c h) (calls_of c h) (kept_size c h) (λ i. let z : i ≡ 0 + i = omega arith in ap (slice_get (kept_of c h)) z)
