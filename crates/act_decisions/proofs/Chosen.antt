-- Of answers that are left open, the one that the data takes each for.
use Rattle.act_decisions.proofs.Common.{◌≡◌, ℕ, zero, suc, ◌&&◌, not, Bool, true, false, cond, List, [], ◌∷◌, length, Option, Some, None, refl, ap, slice_get}
use Rattle.act_decisions.proofs.Common.{Answer, kept_at, History, is_reply, answer_of, Left, ToldCall}
use Rattle.act_walks.specs.declared.told.Left.TheVariants as left

-- whether a reply is told
abbrev pub wants_reply : Left → Bool
wants_reply left.Reply = true
wants_reply other = false

-- whether an answer is a death
abbrev pub is_death : Option Answer → Bool
is_death None = false
is_death (Some answer) = not (is_reply (Some answer))

-- the reply of the call that ran there
abbrev pub reply_there : History → Option Answer → Option (ℕ × ℕ) → Option Answer
reply_there h answer None = answer
reply_there h answer (Some (a, p)) = answer_of a p h

-- the answer that is taken for what is kept: where it is left open, and a death, the reply that the call gave
abbrev pub chosen : History → ToldCall → Option Answer → Option Answer
chosen h call answer = cond (is_death answer && call.is_open && wants_reply call.left) (reply_there h answer call.place) answer

abbrev pub chosen_all : History → List ToldCall → List (Option Answer) → List (Option Answer)
chosen_all h [] answers = answers
chosen_all h (call ∷ calls) [] = []
chosen_all h (call ∷ calls) (answer ∷ answers) = chosen h call answer ∷ chosen_all h calls answers

pub chosen_length : (h : History) (calls : List ToldCall) (answers : List (Option Answer)) → length (chosen_all h calls answers) ≡ length answers
chosen_length h [] answers = refl
chosen_length h (call ∷ calls) [] = refl
chosen_length h (call ∷ calls) (answer ∷ answers) = ap suc (chosen_length h calls answers)

-- at a call's place, the answer that is taken is the one chosen by the call and what is kept there
pub chosen_at : (h : History) (calls : List ToldCall) (answers : List (Option Answer)) (k : ℕ) {call : ToldCall} → slice_get calls k ≡ Some call
    → kept_at (chosen_all h calls answers) k ≡ chosen h call (kept_at answers k)
chosen_at h [] answers k e = cc
chosen_at h (one ∷ calls) [] k e = refl
chosen_at h (one ∷ calls) (answer ∷ answers) zero {call} e = let same : one ≡ call = cc in ap (λ c. chosen h c answer) same
chosen_at h (one ∷ calls) (answer ∷ answers) (suc k) {call} e = chosen_at h calls answers k e

-- where no call is told, the answer that is taken is the kept one
pub chosen_past : (h : History) (calls : List ToldCall) (answers : List (Option Answer)) (k : ℕ) → slice_get calls k ≡ None
    → kept_at (chosen_all h calls answers) k ≡ kept_at answers k
chosen_past h [] answers k e = refl
chosen_past h (one ∷ calls) [] k e = refl
chosen_past h (one ∷ calls) (answer ∷ answers) zero e = cc
chosen_past h (one ∷ calls) (answer ∷ answers) (suc k) e = chosen_past h calls answers k e
