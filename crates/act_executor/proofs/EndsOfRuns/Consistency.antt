-- Opening states, submissions, run lists, kept answers and dead actors fit one another where each item is a call as it was sent, numbered in order.
use Rattle.act_executor.proofs.Common.{◌≡◌, ◌≢◌, ℕ, ◌+◌, Bool, List, length, Some, refl, ap, sym, ◌∙◌, subst, arith, Option, ◌==◌, map, filter, take, slice_get}
use Rattle.act_executor.proofs.Common.{option_map, option_and_then, Err, IsTrue, AllByRecursion, list_all, range_with_len, eq-eqb, eqb-true, slice_get-map}
use Rattle.act_executor.proofs.Common.{ActorDied, KindState, RunItem, Submission, Answer, answer_at, items_of, calls_to, number_of, kept_at, is_known, settle}
use Rattle.act_executor.proofs.Common.{IsPrefix, IsAsSubmitted, IsCallToDead, Consistent, slice_get-filter, slice_get-enumerate_from, filter-slice_get}
use Rattle.act_executor.proofs.Common.{calls_to-number, numbered, numbers, map-slice_get, same_place, all_from_places, front_by_places, range_at}

-- the item is a call to actor a, as it was sent
pub record IsSentItem (calls : ℕ → List Submission) (kept : ℕ → List (Option Answer)) (a : ℕ) (item : RunItem) : Type 0 where
  pub call : Submission
  pub at : slice_get (calls item.caller) item.future ≡ Some call
  pub actor : call.actor ≡ a
  pub number : item.number ≡ number_of a item.future (calls item.caller)
  pub method : item.method ≡ call.method
  pub known : IsTrue (list_all (is_known (kept item.caller)) call.args)
  pub args : item.args ≡ map (settle (kept item.caller)) call.args

-- the answer is that of a place of a run list which holds the caller's call k
pub record IsRunAnswer (opening : ℕ → Option KindState) (runs : ℕ → List RunItem) (c k : ℕ) (answer : Answer) : Type 0 where
  pub actor : ℕ
  pub place : ℕ
  pub item : RunItem
  pub at : slice_get (runs actor) place ≡ Some item
  pub caller : item.caller ≡ c
  pub future : item.future ≡ k
  pub answered : option_and_then (λ state. answer_at state (runs actor) place) (opening actor) ≡ Some answer

pub record IsFit (opening : ℕ → Option KindState) (calls : ℕ → List Submission) (runs : ℕ → List RunItem) (kept : ℕ → List (Option Answer)) (is_dead : ℕ → Bool)
    : Type 0 where
  pub sent : (a p : ℕ) (item : RunItem) → slice_get (runs a) p ≡ Some item → IsSentItem calls kept a item
  pub in_turn : (a c : ℕ) → map (λ item. item.number) (items_of c (runs a)) ≡ range_with_len 0 (length (items_of c (runs a)))
  pub answers : (c k : ℕ) (answer : Answer) → kept_at (kept c) k ≡ Some answer → answer ≢ Err ActorDied → IsRunAnswer opening runs c k answer
  pub deaths : (c k : ℕ) → kept_at (kept c) k ≡ Some (Err ActorDied) → IsCallToDead calls is_dead c k

-- where the numbers are in order, each item's is its place
pub number_at_place : (items : List RunItem) (m : ℕ) (item : RunItem) → map (λ item. item.number) items ≡ range_with_len 0 (length items) →
    slice_get items m ≡ Some item → item.number ≡ m
number_at_place items m item in_turn at =
    let there : slice_get (map (λ (i : RunItem). i.number) items) m ≡ Some item.number =
    slice_get-map (λ (i : RunItem). i.number) items m ∙ ap (option_map (λ (i : RunItem). i.number)) at in
    let same : item.number ≡ 0 + m = range_at 0 (length items) m (subst (λ ns. slice_get ns m ≡ Some item.number) in_turn there) in omega arith

module _ (opening : ℕ → Option KindState) (calls : ℕ → List Submission) (runs : ℕ → List RunItem) (kept : ℕ → List (Option Answer)) (is_dead : ℕ → Bool) where
  -- a sent item stands among the caller's calls to its actor at its number
  reached : (a : ℕ) (item : RunItem) → IsSentItem calls kept a item → slice_get (numbers a (calls item.caller)) item.number ≡ Some (numbered item)
  reached a item s =
      let n = number_of a item.future (calls item.caller) in let to = calls_to a (calls item.caller) in
      let found : slice_get to n ≡ Some (item.future, s.call) = calls_to-number a (calls item.caller) item.future s.at (eq-eqb s.call.actor a s.actor) in
      let first : slice_get (map (λ (call : ℕ × Submission). call.0) to) n ≡ Some item.future =
      slice_get-map (λ (call : ℕ × Submission). call.0) to n ∙ ap (option_map (λ (call : ℕ × Submission). call.0)) found in
      let zero_add : 0 + n ≡ n = omega arith in
      let all : slice_get (numbers a (calls item.caller)) n ≡ Some (n, item.future) =
      slice_get-enumerate_from 0 (map (λ (call : ℕ × Submission). call.0) to) n ∙ rw (first, zero_add) refl in
      subst (λ m. slice_get (numbers a (calls item.caller)) m ≡ Some (m, item.future)) (sym s.number) all

  -- an item's number is how many of its caller's stand before it
  ranked : IsFit opening calls runs kept is_dead → (a p : ℕ) (item : RunItem) → slice_get (runs a) p ≡ Some item →
      item.number ≡ length (filter (λ (i : RunItem). i.caller == item.caller) (take p (runs a)))
  ranked fit a p item at = number_at_place (items_of item.caller (runs a)) _ item (fit.in_turn a item.caller)
      (slice_get-filter (λ (i : RunItem). i.caller == item.caller) (runs a) p at (eq-eqb item.caller item.caller refl))

  -- what an actor ran of a caller's calls is a prefix of the caller's calls to it
  pub order_of : (a : ℕ) (log : List RunItem) (c : ℕ) → ((p : ℕ) (item : RunItem) → slice_get log p ≡ Some item → IsSentItem calls kept a item) →
      map (λ item. item.number) (items_of c log) ≡ range_with_len 0 (length (items_of c log)) → IsPrefix (map numbered (items_of c log)) (numbers a (calls c))
  order_of a log c sent in_turn = front_by_places _ _ go
    where
      go : (k : ℕ) (pair : ℕ × ℕ) → slice_get (map numbered (items_of c log)) k ≡ Some pair → slice_get (numbers a (calls c)) k ≡ Some pair
      go k pair e =
          let found = map-slice_get numbered (items_of c log) k e in let item = found.0 in
          let where_from = filter-slice_get (λ (i : RunItem). i.caller == c) log k found.1 in
          let mine : item.caller ≡ c = eqb-true item.caller c where_from.passes in
          let number : item.number ≡ k = number_at_place (items_of c log) k item in_turn found.1 in
          let there : slice_get (numbers a (calls item.caller)) item.number ≡ Some (numbered item) =
          reached a item (sent where_from.place item where_from.at) in
          subst (λ m. slice_get (numbers a (calls c)) m ≡ Some pair) number
          (subst (λ q. slice_get (numbers a (calls c)) item.number ≡ Some q) found.2
          (subst (λ d. slice_get (numbers a (calls d)) item.number ≡ Some (numbered item)) mine there))

  -- each item as it was submitted
  as_submitted : IsFit opening calls runs kept is_dead → (a : ℕ) → AllByRecursion (IsAsSubmitted calls kept) (runs a)
  as_submitted fit a = all_from_places (IsAsSubmitted calls kept) (runs a)
      (λ p item at. let s = fit.sent a p item at in record { call = s.call; at = s.at; method = s.method; known = s.known; args = s.args })

  -- a call stands at one place
  only_place : IsFit opening calls runs kept is_dead → (a p : ℕ) (item : RunItem) (b q : ℕ) (other : RunItem) → slice_get (runs a) p ≡ Some item →
      slice_get (runs b) q ≡ Some other → other.caller ≡ item.caller → other.future ≡ item.future → (b ≡ a) × (q ≡ p)
  only_place fit a p item b q other at at' caller future =
      let s = fit.sent a p item at in let t = fit.sent b q other at' in
      let moved : slice_get (calls item.caller) item.future ≡ Some t.call =
      subst (λ k. slice_get (calls item.caller) k ≡ Some t.call) future (subst (λ c. slice_get (calls c) other.future ≡ Some t.call) caller t.at) in
      let both : Some t.call ≡ Some s.call = sym moved ∙ s.at in let call : t.call ≡ s.call = cc in
      let actor : b ≡ a = sym t.actor ∙ ap (λ (x : Submission). x.actor) call ∙ s.actor in
      let there : slice_get (runs a) q ≡ Some other = subst (λ x. slice_get (runs x) q ≡ Some other) actor at' in
      let t2 : other.number ≡ number_of a item.future (calls item.caller) =
      t.number ∙ ap (λ x. number_of x other.future (calls other.caller)) actor ∙ ap (λ k. number_of a k (calls other.caller)) future ∙
      ap (λ c. number_of a item.future (calls c)) caller in
      let ranks : length (filter (λ (i : RunItem). i.caller == item.caller) (take q (runs a))) ≡ length
      (filter (λ (i : RunItem). i.caller == item.caller) (take p (runs a))) =
      sym (subst (λ c. other.number ≡ length (filter (λ (i : RunItem). i.caller == c) (take q (runs a)))) caller (ranked fit a q other there)) ∙ t2 ∙
      sym s.number ∙ ranked fit a p item at in (
        actor,
        same_place (λ (i : RunItem). i.caller == item.caller) (runs a) q p there (eq-eqb other.caller item.caller caller) at
            (eq-eqb item.caller item.caller refl) ranks,
      )

  pub fits : IsFit opening calls runs kept is_dead → Consistent opening calls runs kept is_dead
  fits fit = record {
    in_order = λ a c. order_of a (runs a) c (fit.sent a) (fit.in_turn a c);
    as_submitted = as_submitted fit;
    answers = λ c k answer e alive. let r = fit.answers c k answer e alive in record {
      actor = r.actor;
      place = r.place;
      item = r.item;
      at = r.at;
      caller = r.caller;
      future = r.future;
      answered = r.answered;
      only = λ b q other at caller future. only_place fit r.actor r.place r.item b q other r.at at (caller ∙ sym r.caller) (future ∙ sym r.future);
    };
    deaths = fit.deaths;
  }
