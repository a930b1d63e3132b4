-- Every world is consistent.
use Rattle.act_rules.proofs.Common.{◌≡◌, ◌≢◌, ℕ, zero, suc, Bool, true, false, cond, List, [], ◌∷◌, Some, None, refl, sym, ◌∙◌, subst, Option, ◌==◌, ◌&&◌, map}
use Rattle.act_rules.proofs.Common.{filter, filter_map, slice_get, option_and_then, Err, AllByRecursion, cons_option, eqb-true, and_parts, ActorDied}
use Rattle.act_rules.proofs.Common.{Event, KindState, Answer, answer_at, Submission, kept_at, IsAsSubmitted, IsAnswerOfRun, IsCallToDead, Consistent, Post}
use Rattle.act_rules.proofs.Common.{ActorSpec, History, opening, opening_of, under, runs_of, calls_of, kept_of, is_dead, is_item_of, answer_of, answer_in}
use Rattle.act_rules.proofs.Common.{after_all, cond_gives, ReplyPost, DeathPost}
use Rattle.act_rules.proofs.Lists.{whole_front}
use Rattle.act_rules.proofs.Steps.{IsKept, after_all_keeps}
use Rattle.act_rules.proofs.Posts.{IsSoundPost, PostsAreSound, posts_step}
use Rattle.act_rules.proofs.Kept.{kept_by, kept_at_is}
use Rattle.act_rules.proofs.Letters.{LettersAreSound, letters_step}
use Rattle.act_rules.proofs.Order.{InOrder, order_step}
use Rattle.act_rules.proofs.AsSubmitted.{AreSubmitted, submitted_step}
use Rattle.act_rules.proofs.KindFaults.{IsAlive, answer_alive}
use Rattle.act_rules.proofs.Unique.{one_place}

-- what every world keeps
pub record IsSound (h : History) : Type 0 where
  pub posts : PostsAreSound h
  pub letters : LettersAreSound h
  pub order : InOrder h
  pub submitted : AreSubmitted h

-- each accepted event keeps a history sound
pub sound_step : IsKept IsSound
sound_step h event s accepted = record {
  posts = posts_step h event s.posts accepted;
  letters = letters_step h event s.posts s.letters accepted;
  order = order_step h event s.order;
  submitted = submitted_step h event s.posts s.letters s.submitted;
}

-- a history is sound after any events from an opening
pub world_sound : (casts : List ActorSpec) (events : List Event) → IsSound (after_all (opening casts) events)
world_sound casts events = after_all_keeps IsSound sound_step (opening casts) events (record {
  posts = record { posts = tt; collected = tt };
  letters = record { mail = tt; arrived = tt };
  order = λ a c. whole_front [];
  submitted = tt;
})

-- ---- the post that a kept answer comes from

pub record IsFrom (h : History) (c k b : ℕ) (answer : Answer) : Type 0 where
  pub post : Post
  pub sound : IsSoundPost h post
  pub gives : answer_in h c k b post ≡ Some answer

first_gives : (h : History) (c k b n : ℕ) (answer : Answer) (posts : List Post) → AllByRecursion (IsSoundPost h) posts →
    slice_get (filter_map (answer_in h c k b) posts) n ≡ Some answer → IsFrom h c k b answer
first_gives h c k b n answer [] sound e = cc
first_gives h c k b n answer (post ∷ posts) sound e = go (answer_in h c k b post) refl n (λ m. first_gives h c k b m answer posts sound.1) e
  where
    go : (o : Option Answer) → answer_in h c k b post ≡ o → (n : ℕ) → ((m : ℕ) → slice_get (filter_map (answer_in h c k b) posts) m ≡ Some answer →
        IsFrom h c k b answer) → slice_get (cons_option o (filter_map (answer_in h c k b) posts)) n ≡ Some answer → IsFrom h c k b answer
    go None is n rest e = rest n e
    go (Some first) is zero rest e = record { post = post; sound = sound.0; gives = is ∙ e }
    go (Some first) is (suc m) rest e = rest m e

-- a kept answer is that of a call that stands, and comes from a sound post
pub record IsKeptFrom (h : History) (c k : ℕ) (answer : Answer) : Type 0 where
  pub call : Submission
  pub at : slice_get (calls_of c h) k ≡ Some call
  pub from : IsFrom h c k call.actor answer

-- where the posts are sound, each kept answer has such a call and such a post
pub kept_from : (h : History) (c k : ℕ) {answer : Answer} → PostsAreSound h → kept_at (kept_of c h) k ≡ Some answer → IsKeptFrom h c k answer
kept_from h c k {answer} s e = go (slice_get (calls_of c h) k) refl (sym (kept_at_is h c k) ∙ e)
  where
    go : (o : Option Submission) → slice_get (calls_of c h) k ≡ o → kept_by h c k o ≡ Some answer → IsKeptFrom h c k answer
    go None at e = cc
    go (Some call) at e = record { call = call; at = at; from = first_gives h c k call.actor 0 answer h.collected s.collected e }

-- a reply that answers the call names its place
reply_place : (h : History) (c k b d a place : ℕ) (answer : Answer) → InOrder h → IsSoundPost h (ReplyPost d a place) →
    answer_in h c k b (ReplyPost d a place) ≡ Some answer → IsAnswerOfRun (λ x. opening_of x h) (λ x. runs_of x h) c k answer
reply_place h c k b d a place answer order s e =
    let parts = cond_gives ((d == c) && is_item_of c k (slice_get (runs_of a h) place)) (answer_of a place h) e in
    let tests = and_parts (d == c) (is_item_of c k (slice_get (runs_of a h) place)) parts.0 in
    let call = and_parts (s.0.caller == c) (s.0.future == k) (subst (λ o. is_item_of c k o ≡ true) s.1 tests.1) in
    let caller : s.0.caller ≡ c = eqb-true s.0.caller c call.0 in let future : s.0.future ≡ k = eqb-true s.0.future k call.1 in
    record {
      actor = a;
      place = place;
      item = s.0;
      at = s.1;
      caller = caller;
      future = future;
      answered = parts.1;
      only = λ x p other there is what. one_place h a place x p order s.1 caller future there is what;
    }

-- a reply never answers that the actor died
pub reply_alive : (h : History) (c k b d a place : ℕ) {answer : Answer} → answer_in h c k b (ReplyPost d a place) ≡ Some answer → IsAlive answer
reply_alive h c k b d a place {answer} e =
    go (opening_of a h) (cond_gives ((d == c) && is_item_of c k (slice_get (runs_of a h) place)) (answer_of a place h) e).1
  where
    go : (o : Option KindState) → option_and_then (λ state. answer_at state (runs_of a h) place) o ≡ Some answer → IsAlive answer
    go None e = cc
    go (Some state) e = answer_alive state (runs_of a h) place e

-- in a sound history a kept answer other than a death is that of the one run of its call
pub answers_are : {h : History} (c k : ℕ) {answer : Answer} → IsSound h → kept_at (kept_of c h) k ≡ Some answer → answer ≢ Err ActorDied →
    IsAnswerOfRun (λ x. opening_of x h) (λ x. runs_of x h) c k answer
answers_are {h} c k {answer} s e alive = let kept = kept_from h c k s.posts e in go kept.call.actor kept.from.post kept.from.sound kept.from.gives
  where
    go : (b : ℕ) (post : Post) → IsSoundPost h post → answer_in h c k b post ≡ Some answer → IsAnswerOfRun (λ x. opening_of x h) (λ x. runs_of x h) c k answer
    go b (ReplyPost d a place) sound gives = reply_place h c k b d a place answer s.order sound gives
    go b (DeathPost d a) sound gives =
        let died : Some (Err ActorDied) ≡ Some answer = (cond_gives ((d == c) && (a == b)) (Some (Err ActorDied)) gives).1 in
        absurd (alive (let same : Err ActorDied ≡ answer = cc in sym same))

-- in a sound history a death is kept only for a call to a dead actor
pub deaths_are : {h : History} (c k : ℕ) → IsSound h → kept_at (kept_of c h) k ≡ Some (Err ActorDied) → IsCallToDead (λ x. calls_of x h) (λ x. is_dead x h) c k
deaths_are {h} c k s e = let kept = kept_from h c k s.posts e in
    record { call = kept.call; at = kept.at; dead = go kept.call.actor kept.from.post kept.from.sound kept.from.gives }
  where
    go : (b : ℕ) (post : Post) → IsSoundPost h post → answer_in h c k b post ≡ Some (Err ActorDied) → is_dead b h ≡ true
    go b (ReplyPost d a place) sound gives = absurd (reply_alive h c k b d a place gives refl)
    go b (DeathPost d a) sound gives =
        let tests = and_parts (d == c) (a == b) (cond_gives ((d == c) && (a == b)) (Some (Err ActorDied)) gives).0 in
        subst (λ x. is_dead x h ≡ true) (eqb-true a b tests.1) sound

-- what holds of each numbered thing holds of those with one number
pub under_all : {A : Type 0} (P : A → Type 0) (n : ℕ) (pairs : List (ℕ × A)) → AllByRecursion (λ pair. P pair.1) pairs → AllByRecursion P (under n pairs)
under_all P n [] all = tt
under_all {A = A} P n (pair ∷ pairs) all = go (pair.0 == n) (under_all P n pairs all.1)
  where
    go : (b : Bool) → AllByRecursion P (under n pairs) →
        AllByRecursion P (map (λ (r : ℕ × A). r.1) (cond b (pair ∷ filter (λ (r : ℕ × A). r.0 == n) pairs) (filter (λ (r : ℕ × A). r.0 == n) pairs)))
    go true rest = (all.0, rest)
    go false rest = rest

-- a sound history is consistent
pub consistent : (h : History) → IsSound h → Consistent (λ a. opening_of a h) (λ c. calls_of c h) (λ a. runs_of a h) (λ c. kept_of c h) (λ a. is_dead a h)
consistent h s = record {
  in_order = s.order;
  as_submitted = λ a. under_all (IsAsSubmitted (λ c. calls_of c h) (λ c. kept_of c h)) a h.ran s.submitted;
  answers = λ c k answer e alive. answers_are c k s e alive;
  deaths = λ c k e. deaths_are c k s e;
}
