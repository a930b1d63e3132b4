-- When opening states, submissions, run lists, kept answers and dead actors fit one another.
use Rattle.std.specs.Prelude.{ℕ, ◌≡◌, ◌≢◌, Bool, List, ◌++◌, map, slice_get, Option, Some, option_and_then, Err, IsTrue}
use Rattle.std.specs.List.{AllByRecursion, list_all, enumerate_from}
use Rattle.act_types.specs.declared.call.Fault.TheVariants.{ActorDied}
use Rattle.act_rules.specs.declared.history.RunItem.{RunItem}
use Rattle.act_types.specs.KindState.{KindState}
use Rattle.act_rules.specs.RunList.{Answer, answer_at, items_of}
use Rattle.act_rules.specs.declared.history.Submission.{Submission}
use Rattle.act_rules.specs.Submissions.{calls_to, kept_at, is_known, settle}

-- xs is a prefix of ys
abbrev pub IsPrefix : {A : Type 0} → List A → List A → Type 0
IsPrefix {A} xs ys = (rest : List A) × (xs ++ rest ≡ ys)

-- the item has the method of its submission, and its arguments as the caller's kept answers settle them
pub record IsAsSubmitted (calls : ℕ → List Submission) (kept : ℕ → List (Option Answer)) (item : RunItem) : Type 0 where
  pub call : Submission
  pub at : slice_get (calls item.caller) item.future ≡ Some call
  pub method : item.method ≡ call.method
  pub known : IsTrue (list_all (is_known (kept item.caller)) call.args)
  pub args : item.args ≡ map (settle (kept item.caller)) call.args

-- the answer is that of the one place of a run list that holds the caller's call k
pub record IsAnswerOfRun (opening : ℕ → Option KindState) (runs : ℕ → List RunItem) (c k : ℕ)
    (answer : Answer) : Type 0 where
  pub actor : ℕ
  pub place : ℕ
  pub item : RunItem
  pub at : slice_get (runs actor) place ≡ Some item
  pub caller : item.caller ≡ c
  pub future : item.future ≡ k
  pub answered : option_and_then (λ state. answer_at state (runs actor) place) (opening actor) ≡ Some answer
  pub only : (a p : ℕ) (other : RunItem) → slice_get (runs a) p ≡ Some other → other.caller ≡ c → other.future ≡ k →
      (a ≡ actor) × (p ≡ place)

-- the caller's call k went to a dead actor
pub record IsCallToDead (calls : ℕ → List Submission) (is_dead : ℕ → Bool) (c k : ℕ) : Type 0 where
  pub call : Submission
  pub at : slice_get (calls c) k ≡ Some call
  pub dead : IsTrue (is_dead call.actor)

pub record Consistent (opening : ℕ → Option KindState) (calls : ℕ → List Submission) (runs : ℕ → List RunItem)
    (kept : ℕ → List (Option Answer)) (is_dead : ℕ → Bool) : Type 0 where
  -- what an actor ran of a caller's calls is a prefix of the caller's calls to it, numbered from 0
  pub in_order : (a c : ℕ) →
      IsPrefix (map (λ item. (item.number, item.future)) (items_of c (runs a)))
      (enumerate_from 0 (map (λ call. call.0) (calls_to a (calls c))))
  -- each as it was submitted
  pub as_submitted : (a : ℕ) → AllByRecursion (IsAsSubmitted calls kept) (runs a)
  -- a kept answer other than a death is the answer of the call's place in a run list
  pub answers : (c k : ℕ) (answer : Answer) → kept_at (kept c) k ≡ Some answer → answer ≢ Err ActorDied →
      IsAnswerOfRun opening runs c k answer
  -- a death is kept only for a call to a dead actor
  pub deaths : (c k : ℕ) → kept_at (kept c) k ≡ Some (Err ActorDied) → IsCallToDead calls is_dead c k
