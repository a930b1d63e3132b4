-- A history after one of its posts was collected.
use Rattle.act_world.proofs.Common.{◌≡◌, ◌≢◌, ℕ, Bool, false, List, [], ◌∷◌, ◌++◌, Some, None, refl, ap, sym, ◌∙◌, subst, Ok, Option, ◌==◌, ◌||◌, slice_get}
use Rattle.act_world.proofs.Common.{slice_set, list_any, or-false, ne_eqb, list_any-append, Collect, Submission, Post, Answer, History, calls_of, kept_of}
use Rattle.act_world.proofs.Common.{answer_in, first_answer, did, Outcome, outcome_of, did_collect, add_event, after, and_also, was_sent, Grows, added_grows}
use Rattle.act_world.proofs.Common.{or_else, kept_of-collected, OwnerView, collect_result, after_collect, KnowsDeath, MailedNotice, NetworkView, told_collected}
use Rattle.act_world.proofs.Common.{SlotView, WorldView, IsOwnerOf, is_death_to, Refines, zero, true, arith, and_parts, eqb-true, Contains, collect_unrefused}
use Rattle.act_world.proofs.Common.{ReplyPost, DeathPost, contains_tail}
use Rattle.act_world.proofs.Changes.{accepted_follows}
use Rattle.act_world.proofs.Lawful.{IsLawful}
use Rattle.act_world.proofs.Frames.{SameCaller, owners_change, mail_stays, replies_stay, stages_stay}
use Rattle.act_world.proofs.Sending.{SeesOwner}
use Rattle.act_world.proofs.Tables.{table_is, kept_there}
use Rattle.act_rules.proofs.Kept.{kept_size}

-- ---- the history after the post was collected

-- the history with one post more that was collected
abbrev pub heard : History → Post → History
heard h post = record h { collected = h.collected ++ post ∷ [] }

abbrev pub caller_of : Post → ℕ
caller_of (ReplyPost c a place) = c
caller_of (DeathPost c a) = c

-- what a post answers is its own caller's
no_answer : (h : History) (d k b : ℕ) (post : Post) → caller_of post ≢ d → answer_in h d k b post ≡ None
no_answer h d k b (ReplyPost c a place) apart = let other : (c == d) ≡ false = ne_eqb c d apart in rw other refl
no_answer h d k b (DeathPost c a) apart = let other : (c == d) ≡ false = ne_eqb c d apart in rw other refl

no_death : (d b : ℕ) (post : Post) → caller_of post ≢ d → is_death_to d b post ≡ false
no_death d b (ReplyPost c a place) apart = refl
no_death d b (DeathPost c a) apart = let other : (c == d) ≡ false = ne_eqb c d apart in rw other refl

death_is : (c a : ℕ) (post : Post) → is_death_to c a post ≡ true → post ≡ DeathPost c a
death_is c a (ReplyPost d b place) e = cc
death_is c a (DeathPost d b) e =
    let parts = and_parts (d == c) (b == a) e in let one : d ≡ c = eqb-true d c parts.0 in let two : b ≡ a = eqb-true b a parts.1 in
    ap (λ x. DeathPost x b) one ∙ ap (λ x. DeathPost c x) two

-- a death that was collected is among the posts
pub death_listed : (c a : ℕ) (posts : List Post) → list_any (is_death_to c a) posts ≡ true → Contains posts (DeathPost c a)
death_listed c a [] e = cc
death_listed c a (post ∷ posts) e = go (is_death_to c a post) refl (death_listed c a posts) e
  where
    go : (b : Bool) → is_death_to c a post ≡ b → (list_any (is_death_to c a) posts ≡ true → Contains posts (DeathPost c a)) →
        (b || list_any (is_death_to c a) posts) ≡ true → Contains (post ∷ posts) (DeathPost c a)
    go true is rest e = (zero, omega arith, death_is c a post is)
    go false is rest e = contains_tail post (DeathPost c a) posts (rest e)

pub or_else_none : (o : Option Answer) → o ≡ or_else o None
or_else_none None = refl
or_else_none (Some answer) = refl

-- nothing of another caller changes
others : (h : History) (post : Post) (d : ℕ) → caller_of post ≢ d → SameCaller d h (heard h post)
others h post d apart = record {
  calls = refl;
  copies = λ b. refl;
  sent = λ k. same_sent k (slice_get (calls_of d h) k);
  kept = kept_of-collected h d post ∙ sym (table_is (kept_of d h) (calls_of d h)
      (λ (call : ℕ × Submission). or_else (first_answer h d call) (answer_in h d call.0 call.1.actor post)) (kept_size d h) (λ j x e. kept_there h d j x e ∙
      ap (λ o. Some o) (or_else_none (first_answer h d (j, x)) ∙ ap (λ o. or_else (first_answer h d (j, x)) o) (sym (no_answer h d j x.actor post apart)))));
  deaths = λ b. list_any-append (is_death_to d b) h.collected (post ∷ []) ∙
      ap (λ t. list_any (is_death_to d b) h.collected || (t || false)) (no_death d b post apart) ∙ or-false (list_any (is_death_to d b) h.collected);
}
  where
    same_sent : (k : ℕ) (call : Option Submission) → was_sent d k call (heard h post) ≡ was_sent d k call h
    same_sent k None = refl
    same_sent k (Some call) = refl

-- the world with a post's caller put back ties to the history with the post collected, where that caller does
pub heard_ties : (h : History) {network : NetworkView} (slots : List SlotView) (post : Post) {place : ℕ} {owner : OwnerView} (new : OwnerView) → IsLawful h →
    Grows h (heard h post) → Refines h (record { network = network; slots = slots }) → SeesOwner network (caller_of post) place owner → IsOwnerOf (heard h post)
    (caller_of post) new → Refines (heard h post) (record { network = record network { owners = slice_set network.owners place new }; slots = slots })
heard_ties h {network} slots post {place} new lawful grows refines sees is =
    let g = heard h post in
    record {
      owners = owners_change h network.owners refl refines.owners sees.place_is is (λ d apart. others h post d apart);
      actors = stages_stay h g slots lawful grows refl refl refl refl refines.actors;
      mail = mail_stays network.mail lawful grows refines.mail;
      mail_count = refines.mail_count;
      replies = replies_stay h g network.replies lawful grows refines.replies;
      reply_count = refines.reply_count;
      asked = refines.asked;
    }

collect_adds : (h : History) (j : ℕ) {post : Post} → slice_get h.posts j ≡ Some post → add_event h (Collect j) ≡ heard h post
collect_adds h j at = ap (λ o. record h { collected = and_also h.collected o }) at

-- a history grows where a post of it is collected
pub heard_grows : (h : History) (j : ℕ) {post : Post} → slice_get h.posts j ≡ Some post → Grows h (heard h post)
heard_grows h j {post} at = subst (Grows h) (collect_adds h j at) (added_grows h (Collect j))

-- the world of the history with a post of it collected, and what that history tells of it, follow the rules
pub finish : (h : History) (j : ℕ) (post : Post) (told : Outcome) (world : WorldView) → slice_get h.posts j ≡ Some post →
    told ≡ Ok (did_collect h (Some post)) → Refines (heard h post) world → (told ≡ outcome_of h (Collect j)) × Refines (after h (Collect j)) world
finish h j post told world at told_is refines =
    let both =
    accepted_follows h (Collect j) (did h (Collect j)) (collect_unrefused h j at) refl (subst (λ g. Refines g world) (sym (collect_adds h j at)) refines) in
    (told_is ∙ ap (λ o. Ok (did_collect h o)) (sym at) ∙ both.0, both.1)

-- ---- what is asked of each notice

-- where its caller collects this notice, what is told and the world with the caller put back follow the rules
abbrev pub Collects : History → NetworkView → List SlotView → ℕ → MailedNotice → Type 0
Collects h network slots j notice = (place : ℕ) (owner new : OwnerView) (told : Outcome) → SeesOwner network notice.caller place owner → told ≡ told_collected
    notice.caller (collect_result owner notice.notice) → new ≡ after_collect owner notice.notice → KnowsDeath notice.notice owner new → (told ≡ outcome_of h
    (Collect j)) × Refines (after h (Collect j)) (record { network = record network { owners = slice_set network.owners place new }; slots = slots })
