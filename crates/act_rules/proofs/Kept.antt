-- An answer that is kept stays.
use Rattle.act_rules.proofs.Common.{◌≡◌, ℕ, zero, suc, ◌+◌, List, [], ◌∷◌, ◌++◌, length, Some, None, refl, ap, sym, ◌∙◌, arith, Option, ◌==◌, filter_map, find}
use Rattle.act_rules.proofs.Common.{slice_get, option_map, option_and_then, enumerate_from, filter_map-append, slice_get-map, RunItem, KindState, Answer}
use Rattle.act_rules.proofs.Common.{after_item, answers_from, answer_at, state_after, Submission, kept_at, Post, ActorSpec, History, runs_of, calls_of, kept_of}
use Rattle.act_rules.proofs.Common.{opening_of, answer_of, answer_in, first_answer, IsPrefix, slice_get_more, ReplyPost, DeathPost, length-map}
use Rattle.act_rules.proofs.Common.{length-enumerate_from}
use Rattle.act_rules.proofs.Lists.{slice_get_front, slice_get-enumerate_from, filter_map-same, All_weaker}
use Rattle.act_rules.proofs.Growth.{Grows, added_grows, runs_grow, calls_grow}
use Rattle.act_rules.proofs.Steps.{IsKept}
use Rattle.act_rules.proofs.Posts.{IsSoundPost, PostsAreSound, posts_step}

-- each call has a place in the table of answers
pub kept_size : (c : ℕ) (h : History) → length (kept_of c h) ≡ length (calls_of c h)
kept_size c h = length-map (enumerate_from 0 (calls_of c h)) (first_answer h c) ∙ length-enumerate_from 0 (calls_of c h)

-- ---- the answers of a longer run list

-- a run list in two parts: the answers of the first, then of the second from the state after the first
pub answers_from-append : (state : KindState) (xs ys : List RunItem) →
    answers_from state (xs ++ ys) ≡ answers_from state xs ++ answers_from (state_after state xs) ys
answers_from-append state [] ys = refl
answers_from-append state (x ∷ xs) ys = ap (λ l. (after_item state x).1 ∷ l) (answers_from-append (after_item state x).0 xs ys)

pub slice_get-append_within : {A B : Type 0} (xs : List B) (zs ys : List A) (k : ℕ) (x : B) → length zs ≡ length xs → slice_get xs k ≡ Some x →
    slice_get (zs ++ ys) k ≡ slice_get zs k
slice_get-append_within [] zs ys k x e at = cc
slice_get-append_within (x ∷ xs) [] ys k y e at = absurd (omega arith)
slice_get-append_within (x ∷ xs) (z ∷ zs) ys zero y e at = refl
slice_get-append_within (x ∷ xs) (z ∷ zs) ys (suc k) y e at = slice_get-append_within xs zs ys k y (omega arith) at

-- a run list has as many answers as items
pub length-answers_from : (state : KindState) (xs : List RunItem) → length (answers_from state xs) ≡ length xs
length-answers_from state [] = refl
length-answers_from state (x ∷ xs) = ap suc (length-answers_from (after_item state x).0 xs)

-- where a run list gets longer, the answer of an item that was in it stays
pub answer_at-front : (state : KindState) (xs ys : List RunItem) (place : ℕ) {item : RunItem} → IsPrefix xs ys → slice_get xs place ≡ Some item →
    answer_at state ys place ≡ answer_at state xs place
answer_at-front state xs ys place {item} f at =
    rw (← f.1, answers_from-append)
    (slice_get-append_within xs (answers_from state xs) (answers_from (state_after state xs) f.0) place item (length-answers_from state xs) at)

-- ---- what a sound post answers stays

pub answer_of_stays : (h g : History) (a place : ℕ) (item : RunItem) → Grows h g → slice_get (runs_of a h) place ≡ Some item →
    answer_of a place g ≡ answer_of a place h
answer_of_stays h g a place item grows at = ap (answered (runs_of a g)) opening_stays ∙ go (opening_of a h)
  where
    answered : List RunItem → Option KindState → Option Answer
    answered items o = option_and_then (λ state. answer_at state items place) o

    opening_stays : opening_of a g ≡ opening_of a h
    opening_stays = ap (λ casts. option_map (λ (cast : ActorSpec). cast.opening) (find (λ (cast : ActorSpec). cast.actor == a) casts)) grows.casts

    go : (o : Option KindState) → answered (runs_of a g) o ≡ answered (runs_of a h) o
    go None = refl
    go (Some state) = answer_at-front state (runs_of a h) (runs_of a g) place (runs_grow a grows) at

-- what a sound post answers to a call stays as the history grows
pub answer_in_stays : (h : History) {g : History} (c k b : ℕ) → Grows h g → (post : Post) → IsSoundPost h post → answer_in g c k b post ≡ answer_in h c k b post
answer_in_stays h {g} c k b grows (ReplyPost d a place) s =
    let there : slice_get (runs_of a g) place ≡ slice_get (runs_of a h) place =
    slice_get_front (runs_of a h) (runs_of a g) place (runs_grow a grows) s.1 ∙ sym s.1 in
    let same : answer_of a place g ≡ answer_of a place h = answer_of_stays h g a place s.0 grows s.1 in rw (there, same) refl
answer_in_stays h c k b grows (DeathPost d a) s = refl

-- ---- what the first answer is

-- the answer of a call that stands
abbrev pub kept_by : History → ℕ → ℕ → Option Submission → Option Answer
kept_by h c k None = None
kept_by h c k (Some call) = first_answer h c (k, call)

-- what is kept for a future is the first answer of its call, where that call stands
pub kept_at_is : (h : History) (c k : ℕ) → kept_at (kept_of c h) k ≡ kept_by h c k (slice_get (calls_of c h) k)
kept_at_is h c k =
    rw (slice_get-map (first_answer h c) (enumerate_from 0 (calls_of c h)) k, slice_get-enumerate_from 0 (calls_of c h) k) (go (slice_get (calls_of c h) k))
  where
    zero_add : 0 + k ≡ k
    zero_add = omega arith

    go : (o : Option Submission) → option_and_then (λ answer. answer) (option_map (first_answer h c) (option_map (λ x. (0 + k, x)) o)) ≡ kept_by h c k o
    go None = refl
    go (Some call) = ap (λ n. first_answer h c (n, call)) zero_add

pub first_answer_stays : (h g : History) (c : ℕ) (call : ℕ × Submission) (answer : Answer) → Grows h g → PostsAreSound h → first_answer h c call ≡ Some answer →
    first_answer g c call ≡ Some answer
first_answer_stays h g c call answer grows s e =
    let f = answer_in h c call.0 call.1.actor in let f' = answer_in g c call.0 call.1.actor in
    let same : filter_map f' h.collected ≡ filter_map f h.collected = filter_map-same f' f h.collected
    (All_weaker (IsSoundPost h) (λ post. f' post ≡ f post) h.collected (answer_in_stays h c call.0 call.1.actor grows) s.collected) in
    rw (← grows.collected.1, filter_map-append f' h.collected grows.collected.0, same)
    (slice_get_more (filter_map f h.collected) (filter_map f' grows.collected.0) 0 e)

-- an answer that is kept stays as the history grows, where the posts are sound
pub kept_stays : (h : History) {g : History} (c k : ℕ) {answer : Answer} → Grows h g → PostsAreSound h → kept_at (kept_of c h) k ≡ Some answer →
    kept_at (kept_of c g) k ≡ Some answer
kept_stays h {g} c k {answer} grows s e = rw (kept_at_is g c k) (go (slice_get (calls_of c h) k) refl (sym (kept_at_is h c k) ∙ e))
  where
    go : (o : Option Submission) → slice_get (calls_of c h) k ≡ o → kept_by h c k o ≡ Some answer → kept_by g c k (slice_get (calls_of c g) k) ≡ Some answer
    go None at e = cc
    go (Some call) at e = rw (slice_get_front (calls_of c h) (calls_of c g) k (calls_grow c grows) at) (first_answer_stays h g c (k, call) answer grows s e)

-- this answer is kept for the caller's future k, and the posts are sound
pub record KeepsAnswer (c k : ℕ) (answer : Answer) (h : History) : Type 0 where
  pub sound : PostsAreSound h
  pub kept : kept_at (kept_of c h) k ≡ Some answer

-- each accepted event leaves a kept answer as it is, and the posts sound
pub kept_step : (c k : ℕ) (answer : Answer) → IsKept (KeepsAnswer c k answer)
kept_step c k answer h event held accepted = record {
  sound = posts_step h event held.sound accepted;
  kept = kept_stays h c k (added_grows h event) held.sound held.kept;
}
