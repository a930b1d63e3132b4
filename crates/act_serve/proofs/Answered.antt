-- Each reply that is due is the answer at its place.
use Rattle.act_serve.proofs.Common.{◌≡◌, ℕ, suc, ◌+◌, Bool, true, false, cond, List, [], ◌∷◌, Some, None, refl, ap, sym, subst, arith, All, ◌==◌, map, filter}
use Rattle.act_serve.proofs.Common.{slice_get, cons_option, enumerate_from, All-cons, KindState, Notice, Answered, RunItem, Answer, after_item, answers_from}
use Rattle.act_serve.proofs.Common.{answer_at, replies_to, IsReplyOf, place_of, RepliesAreDue}
use Rattle.act_serve.proofs.Logs.{Tells, same, other, tells, replies_from}

module _ (opening : KindState) (a c : ℕ) (log : List RunItem) where
  all_from : (n : ℕ) (state : KindState) (xs : List RunItem) → ((j : ℕ) (item : RunItem) → slice_get xs j ≡ Some item → slice_get log (n + j) ≡ Some item) →
      ((j : ℕ) (answer : Answer) → slice_get (answers_from state xs) j ≡ Some answer → answer_at opening log (n + j) ≡ Some answer) →
      All (IsReplyOf opening a c log) (replies_from a c n state xs)
  all_from n state [] items answers = λ k d lt. absurd (omega (arith, lt))
  all_from n state (x ∷ xs) items answers = go (tells x.caller c) (all_from (n + 1) (after_item state x).0 xs
      (λ j item e. let m : n + suc j ≡ (n + 1) + j = omega arith in subst (λ k. slice_get log k ≡ Some item) m (items (suc j) item e))
      (λ j answer e. let m : n + suc j ≡ (n + 1) + j = omega arith in subst (λ k. answer_at opening log k ≡ Some answer) m (answers (suc j) answer e)))
    where
      next : KindState
      next = (after_item state x).0

      notice : Notice
      notice = Answered (record { actor = a; caller = x.caller; future = x.future; place = n; answer = (after_item state x).1 })

      rest : List Notice
      rest = replies_from a c (n + 1) next xs

      here : x.caller ≡ c → IsReplyOf opening a c log notice
      here mine = let m : n + 0 ≡ n = omega arith in record {
        item = x;
        at = subst (λ k. slice_get log k ≡ Some x) m (items 0 x refl);
        of_caller = mine;
        names = (refl, refl, refl);
        answered = subst (λ k. answer_at opening log k ≡ Some (after_item state x).1) m (answers 0 (after_item state x).1 refl);
      }

      go : Tells x.caller c → All (IsReplyOf opening a c log) rest →
          All (IsReplyOf opening a c log) (cons_option (cond (x.caller == c) (Some notice) None) rest)
      go (same b e) more = subst (λ t. All (IsReplyOf opening a c log) (cons_option (cond t (Some notice) None) rest)) (sym b)
          (All-cons (IsReplyOf opening a c log) notice rest (here e) more)
      go (other b ne) more = subst (λ t. All (IsReplyOf opening a c log) (cons_option (cond t (Some notice) None) rest)) (sym b) more

  pub replies_answer : All (IsReplyOf opening a c log) (replies_to opening a log c)
  replies_answer = all_from 0 opening log (λ j item e. let m : 0 + j ≡ j = omega arith in subst (λ k. slice_get log k ≡ Some item) (sym m) e)
      (λ j answer e. let m : 0 + j ≡ j = omega arith in subst (λ k. answer_at opening log k ≡ Some answer) (sym m) e)

-- one for each place
places_from : (opening : KindState) (a c n : ℕ) (log : List RunItem) → map place_of (replies_from a c n opening log) ≡ map (λ place. Some place)
    (map (λ (ran : ℕ × RunItem). ran.0) (filter (λ (ran : ℕ × RunItem). ran.1.caller == c) (enumerate_from n log)))
places_from opening a c n [] = refl
places_from opening a c n (x ∷ xs) = by (x.caller == c) (places_from (after_item opening x).0 a c (n + 1) xs)
  where
    notice : Notice
    notice = Answered (record { actor = a; caller = x.caller; future = x.future; place = n; answer = (after_item opening x).1 })

    rest : List Notice
    rest = replies_from a c (n + 1) (after_item opening x).0 xs

    more : List (ℕ × RunItem)
    more = filter (λ (ran : ℕ × RunItem). ran.1.caller == c) (enumerate_from (n + 1) xs)

    by : (b : Bool) → map place_of rest ≡ map (λ place. Some place) (map (λ (ran : ℕ × RunItem). ran.0) more) → map place_of
        (cons_option (cond b (Some notice) None) rest) ≡ map (λ place. Some place) (map (λ (ran : ℕ × RunItem). ran.0) (cond b ((n, x) ∷ more) more))
    by true e = ap (λ l. Some n ∷ l) e
    by false e = e

pub replies_are_due : RepliesAreDue
replies_are_due opening a c log = record { places = places_from opening a c 0 log; answers = replies_answer opening a c log }
