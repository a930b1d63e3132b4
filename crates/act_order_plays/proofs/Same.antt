-- What is kept depends on the casts, the submissions, the runs and what was collected, alone.
use Rattle.act_order_plays.proofs.Common.{◌≡◌, ℕ, Option, Some, None, slice_get, refl, sym, ap, ◌∙◌, filter_map, Post, Submission, kept_at, History, calls_of}
use Rattle.act_order_plays.proofs.Common.{kept_of, under, answer_in, kept_by, kept_at_is, filter_map_alike, ReplyPost, DeathPost}

pub record SameLists (h g : History) : Type 0 where
  pub casts : g.casts ≡ h.casts
  pub submitted : g.submitted ≡ h.submitted
  pub ran : g.ran ≡ h.ran
  pub collected : g.collected ≡ h.collected

same_answer : (h g : History) (c k b : ℕ) → SameLists h g → (post : Post) → answer_in g c k b post ≡ answer_in h c k b post
same_answer h g c k b same (ReplyPost d a place) = let ran = same.ran in let casts = same.casts in rw (ran, casts) refl
same_answer h g c k b same (DeathPost d a) = refl

same_kept : (h g : History) (c k : ℕ) → SameLists h g → (o : Option Submission) → kept_by g c k o ≡ kept_by h c k o
same_kept h g c k same None = refl
same_kept h g c k same (Some call) =
    ap (λ posts. slice_get (filter_map (answer_in g c k call.actor) posts) 0) same.collected
    ∙ ap (λ answers. slice_get answers 0)
    (filter_map_alike (answer_in g c k call.actor) (answer_in h c k call.actor) h.collected (same_answer h g c k call.actor same))

pub kept_same : (h g : History) (c k : ℕ) → SameLists h g → kept_at (kept_of c g) k ≡ kept_at (kept_of c h) k
kept_same h g c k same =
    kept_at_is g c k
    ∙ ap (λ all. kept_by g c k (slice_get (under c all) k)) same.submitted
    ∙ same_kept h g c k same (slice_get (calls_of c h) k)
    ∙ sym (kept_at_is h c k)
