-- What a caller was given: replies of places of the log, and the death of an actor that was killed.
use Rattle.act_executor.proofs.Common.{◌≡◌, ℕ, zero, suc, true, false, [], ◌∷◌, ◌++◌, Some, None, inl, inr, refl, slice_get, All-contains}
use Rattle.act_executor.proofs.Common.{Contains-append_cases, KindState, Reply, Notice, Answered, Death, EndView, Killed, Retired, Starved, end_log, replies_to}
use Rattle.act_executor.proofs.Common.{deaths, IsReplyOf, IsAnswerOf, replies_answer, is_killed, is_starved, IsIn, in_from_contains, contains_from_in}

one_death : (a k : ℕ) {notice : Notice} → slice_get (Death a ∷ []) k ≡ Some notice → Death a ≡ notice
one_death a zero e = cc
one_death a (suc k) e = cc

death_is : (a : ℕ) (end : EndView) {notice : Notice} → IsIn (deaths a end) notice → (Death a ≡ notice) × (is_starved end ≡ false → is_killed end ≡ true)
death_is a (Killed dead) {notice} i = (one_death a i.place i.at, λ fed. refl)
death_is a (Retired retired) {notice} i = let bad : None ≡ Some notice = i.at in cc
death_is a (Starved dead) {notice} i = (one_death a i.place i.at, λ fed. cc)

-- a reply among what an actor gives a caller is that of the caller's item at its place, with the answer there
pub reply_given : (opening : KindState) (a c : ℕ) (end : EndView) {reply : Reply} →
    IsIn (replies_to opening a (end_log end) c ++ deaths a end) (Answered reply) → IsAnswerOf opening a c (end_log end) reply
reply_given opening a c end {reply} i =
    elim (Contains-append_cases (replies_to opening a (end_log end) c) (deaths a end) (Answered reply) (contains_from_in i)) [
      | inl there ↦ All-contains (IsReplyOf opening a c (end_log end)) (replies_to opening a (end_log end) c) (Answered reply)
          (replies_answer opening a c (end_log end)) there
      | inr there ↦ let bad : Death a ≡ Answered reply = (death_is a end (in_from_contains (deaths a end) (Answered reply) there)).0 in absurd (cc bad)
    ]

pub death_given : (opening : KindState) (a c b : ℕ) (end : EndView) → IsIn (replies_to opening a (end_log end) c ++ deaths a end) (Death b) →
    is_starved end ≡ false → is_killed end ≡ true
death_given opening a c b end i fed = elim (Contains-append_cases (replies_to opening a (end_log end) c) (deaths a end) (Death b) (contains_from_in i)) [
  | inl there ↦ absurd
      (All-contains (IsReplyOf opening a c (end_log end)) (replies_to opening a (end_log end) c) (Death b) (replies_answer opening a c (end_log end)) there)
  | inr there ↦ (death_is a end (in_from_contains (deaths a end) (Death b) there)).1 fed
]
