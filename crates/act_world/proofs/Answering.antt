-- A caller that collects a reply.
use Rattle.act_world.proofs.Common.{◌≡◌, ◌≢◌, ℕ, Bool, true, false, cond, List, [], ◌∷◌, Some, None, inl, inr, refl, ap, sym, ◌∙◌, subst, Ok, Err, length-set}
use Rattle.act_world.proofs.Common.{Option, ◌==◌, ◌&&◌, not, slice_get, slice_set, option_and_then, is_some, is_none, list_any, or-false, eq-eqb, eqb_tells}
use Rattle.act_world.proofs.Common.{list_any-append, ActorDied, Reply, Answered, KindState, Collect, RunItem, Submission, Answer, answer_at, kept_at, History}
use Rattle.act_world.proofs.Common.{calls_of, kept_of, runs_of, opening_of, answer_of, answer_in, is_item_of, first_answer, outcome_of, did_reply, did_collect}
use Rattle.act_world.proofs.Common.{after, was_sent, answer_alive, held_submission, or_else, kept_of-collected, First, Late, Stray, OwnerView, is_to, is_death}
use Rattle.act_world.proofs.Common.{is_of_call, collected_reply, after_reply_that, is_death-only, NetworkView, told_collected, SlotView, IsOwnerOf, is_death_to}
use Rattle.act_world.proofs.Common.{reply_as, Refines, ReplyPost, Kept, DidLate, get_set-same, get_set-other}
use Rattle.act_world.proofs.Lawful.{IsLawful}
use Rattle.act_world.proofs.Sending.{seen_owner}
use Rattle.act_world.proofs.Tables.{table_is, kept_there}
use Rattle.act_world.proofs.Heard.{heard, or_else_none, heard_ties, heard_grows, finish, Collects}
use Rattle.act_world.proofs.Numbered.{sent_before}
use Rattle.act_rules.proofs.Kept.{kept_size}

-- ---- a reply is of a call of its caller

-- an answer other than `ActorDied` is no death
pub alive_is : (answer : Answer) → answer ≢ Err ActorDied → is_death answer ≡ false
alive_is answer alive = go (is_death answer) refl
  where
    go : (b : Bool) → is_death answer ≡ b → is_death answer ≡ false
    go true e = absurd (alive (is_death-only answer e))
    go false e = e

no_run_dies : (h : History) (a place : ℕ) (answer : Answer) → answer_of a place h ≡ Some answer → is_death answer ≡ false
no_run_dies h a place answer e = alive_is answer (go (opening_of a h) e)
  where
    go : (o : Option KindState) → option_and_then (λ state. answer_at state (runs_of a h) place) o ≡ Some answer → answer ≢ Err ActorDied
    go None e = cc
    go (Some state) e = answer_alive state (runs_of a h) place e

all_four : {p q r s : Bool} → p ≡ true → q ≡ true → r ≡ true → s ≡ false → (p && q && r && not s) ≡ true
all_four e f g k = rw (e, f, g, k) refl

is_mine : (h : History) (c a place : ℕ) (item : RunItem) (answer : Answer) (owner : OwnerView) → IsLawful h → IsOwnerOf h c owner →
    slice_get (runs_of a h) place ≡ Some item → item.caller ≡ c → answer_of a place h ≡ Some answer → is_of_call owner (reply_as c a place item answer) ≡ true
is_mine h c a place item answer owner lawful is at caller answered =
    let call = held_submission h a item.future place lawful.sound.order at caller refl in
    let there : slice_get owner.calls item.future ≡ Some call.0 = ap (λ calls. slice_get calls item.future) is.calls ∙ call.1 in
    all_four
    (eq-eqb c owner.id (sym is.id))
    (ap (is_to a) there ∙ eq-eqb call.0.actor a call.2)
    (is.sent item.future ∙ sent_before h c a place item.future item call.0 lawful at caller refl call.1 call.2)
    (no_run_dies h a place answer answered)

-- ---- the table after a reply

-- what a reply answers of one call
answers_one : (h : History) (c a place j b : ℕ) (item : RunItem) {answer : Answer} → slice_get (runs_of a h) place ≡ Some item → item.caller ≡ c →
    answer_of a place h ≡ Some answer → answer_in h c j b (ReplyPost c a place) ≡ cond (item.future == j) (Some answer) None
answers_one h c a place j b item at caller answered =
    let mine : (c == c) ≡ true = eq-eqb c c refl in let his : (item.caller == c) ≡ true = eq-eqb item.caller c caller in
    ap (λ o. cond ((c == c) && is_item_of c j o) (answer_of a place h) None) at
    ∙ ap (λ o. cond ((c == c) && ((item.caller == c) && (item.future == j))) o None) answered
    ∙ rw (mine, his) refl

answers_same : (h : History) (c a place b : ℕ) (item : RunItem) (answer : Answer) → slice_get (runs_of a h) place ≡ Some item → item.caller ≡ c →
    answer_of a place h ≡ Some answer → answer_in h c item.future b (ReplyPost c a place) ≡ Some answer
answers_same h c a place b item answer at caller answered =
    let same : (item.future == item.future) ≡ true = eq-eqb item.future item.future refl in
    answers_one h c a place item.future b item at caller answered ∙ rw same refl

answers_other : (h : History) (c a place j b : ℕ) (item : RunItem) {answer : Answer} → slice_get (runs_of a h) place ≡ Some item → item.caller ≡ c →
    answer_of a place h ≡ Some answer → (item.future == j) ≡ false → answer_in h c j b (ReplyPost c a place) ≡ None
answers_other h c a place j b item {answer} at caller answered apart = answers_one h c a place j b item at caller answered ∙ rw apart refl

-- what is kept of a call is its first answer
kept_first : (h : History) (c k : ℕ) (x : Submission) {o : Option Answer} → slice_get (calls_of c h) k ≡ Some x → kept_at (kept_of c h) k ≡ o →
    first_answer h c (k, x) ≡ o
kept_first h c k x e kept = sym (ap (λ found. option_and_then (λ answer. answer) found) (kept_there h c k x e)) ∙ kept

-- the first answer fills its place
first_table : (h : History) (c a place : ℕ) (item : RunItem) (answer : Answer) → slice_get (runs_of a h) place ≡ Some item → item.caller ≡ c → answer_of a place
    h ≡ Some answer → kept_at (kept_of c h) item.future ≡ None → slice_set (kept_of c h) item.future (Some answer) ≡ kept_of c (heard h (ReplyPost c a place))
first_table h c a place item answer at caller answered empty =
    table_is (slice_set (kept_of c h) item.future (Some answer)) (calls_of c h)
    (λ (call : ℕ × Submission). or_else (first_answer h c call) (answer_in h c call.0 call.1.actor (ReplyPost c a place)))
    (length-set (kept_of c h) item.future (Some answer) ∙ kept_size c h) one
    ∙ sym (kept_of-collected h c (ReplyPost c a place))
  where
    itself : (x : Submission) → slice_get (calls_of c h) item.future ≡ Some x → slice_get (slice_set (kept_of c h) item.future (Some answer)) item.future ≡ Some
        (or_else (first_answer h c (item.future, x)) (answer_in h c item.future x.actor (ReplyPost c a place)))
    itself x e =
        get_set-same (kept_of c h) item.future (Some answer) (kept_there h c item.future x e)
        ∙ ap (λ o. Some o) (sym (ap (λ o. or_else o (answer_in h c item.future x.actor (ReplyPost c a place))) (kept_first h c item.future x e empty) ∙
        answers_same h c a place x.actor item answer at caller answered))

    one : (j : ℕ) (x : Submission) → slice_get (calls_of c h) j ≡ Some x → slice_get (slice_set (kept_of c h) item.future (Some answer)) j ≡ Some
        (or_else (first_answer h c (j, x)) (answer_in h c j x.actor (ReplyPost c a place)))
    one j x e = elim (eqb_tells item.future j) [
      | inl t ↦ subst (λ i. slice_get (calls_of c h) i ≡ Some x → slice_get (slice_set (kept_of c h) item.future (Some answer)) i ≡ Some
          (or_else (first_answer h c (i, x)) (answer_in h c i x.actor (ReplyPost c a place)))) t.1 (itself x) e
      | inr f ↦ get_set-other (kept_of c h) item.future j (Some answer) f.1 ∙ kept_there h c j x e ∙ ap (λ o. Some o) (or_else_none (first_answer h c (j, x)) ∙
          ap (λ o. or_else (first_answer h c (j, x)) o) (sym (answers_other h c a place j x.actor item at caller answered f.0)))
    ]

-- a later answer changes nothing
late_table : (h : History) (c a place : ℕ) (item : RunItem) (answer earlier : Answer) → slice_get (runs_of a h) place ≡ Some item → item.caller ≡ c →
    answer_of a place h ≡ Some answer → kept_at (kept_of c h) item.future ≡ Some earlier → kept_of c h ≡ kept_of c (heard h (ReplyPost c a place))
late_table h c a place item answer earlier at caller answered full =
    table_is (kept_of c h) (calls_of c h) (λ (call : ℕ × Submission). or_else (first_answer h c call) (answer_in h c call.0 call.1.actor (ReplyPost c a place)))
    (kept_size c h) one
    ∙ sym (kept_of-collected h c (ReplyPost c a place))
  where
    stays : (j : ℕ) (x : Submission) → slice_get (calls_of c h) j ≡ Some x →
        first_answer h c (j, x) ≡ or_else (first_answer h c (j, x)) (answer_in h c j x.actor (ReplyPost c a place))
    stays j x e = elim (eqb_tells item.future j) [
      | inl t ↦
          let first : first_answer h c (j, x) ≡ Some earlier = kept_first h c j x e (subst (λ i. kept_at (kept_of c h) i ≡ Some earlier) t.1 full) in
          first ∙ ap (λ o. or_else o (answer_in h c j x.actor (ReplyPost c a place))) (sym first)
      | inr f ↦ or_else_none (first_answer h c (j, x)) ∙
          ap (λ o. or_else (first_answer h c (j, x)) o) (sym (answers_other h c a place j x.actor item at caller answered f.0))
    ]

    one : (j : ℕ) (x : Submission) → slice_get (calls_of c h) j ≡ Some x →
        slice_get (kept_of c h) j ≡ Some (or_else (first_answer h c (j, x)) (answer_in h c j x.actor (ReplyPost c a place)))
    one j x e = kept_there h c j x e ∙ ap (λ o. Some o) (stays j x e)

-- ---- the caller after a reply

-- nothing but the table changes
answered_owner : (h : History) (c a place : ℕ) {owner : OwnerView} {kept : List (Option Answer)} → IsOwnerOf h c owner →
    kept ≡ kept_of c (heard h (ReplyPost c a place)) → IsOwnerOf (heard h (ReplyPost c a place)) c (record owner { kept = kept })
answered_owner h c a place {kept} is kept_is = record {
  id = is.id;
  copies = is.copies;
  limits = is.limits;
  given = is.given;
  calls = is.calls;
  marks = is.marks;
  sent = λ k. is.sent k ∙ same_sent k (slice_get (calls_of c h) k);
  kept = kept_is;
  deaths =
      λ b. is.deaths b ∙ sym (list_any-append (is_death_to c b) h.collected (ReplyPost c a place ∷ []) ∙ or-false (list_any (is_death_to c b) h.collected));
}
  where
    same_sent : (k : ℕ) (call : Option Submission) → was_sent c k call h ≡ was_sent c k call (heard h (ReplyPost c a place))
    same_sent k None = refl
    same_sent k (Some call) = refl

collected_as : (owner : OwnerView) (reply : Reply) (o : Option Answer) → is_of_call owner reply ≡ true → kept_at owner.kept reply.future ≡ o →
    collected_reply owner reply ≡ cond (is_some o) (Late reply.future) (First reply.future)
collected_as owner reply o mine kept =
    ap (λ b. cond b (cond (is_some (kept_at owner.kept reply.future)) (Late reply.future) (First reply.future)) Stray) mine
    ∙ ap (λ found. cond (is_some found) (Late reply.future) (First reply.future)) kept

did_reply_as : (h : History) (c a place : ℕ) (item : RunItem) {o : Option Answer} → slice_get (runs_of a h) place ≡ Some item →
    kept_at (kept_of c h) item.future ≡ o → did_collect h (Some (ReplyPost c a place)) ≡ cond (is_none o) (Kept c item.future) (DidLate c item.future)
did_reply_as h c a place item at kept = ap (did_reply c h) at ∙ ap (λ found. cond (is_none found) (Kept c item.future) (DidLate c item.future)) kept

pub reply_collects : (h : History) (network : NetworkView) (slots : List SlotView) (j c a place : ℕ) (item : RunItem) (answer : Answer) → IsLawful h →
    Refines h (record { network = network; slots = slots }) → slice_get h.posts j ≡ Some (ReplyPost c a place) → slice_get (runs_of a h) place ≡ Some item →
    item.caller ≡ c → answer_of a place h ≡ Some answer → Collects h network slots j (record { caller = c; notice = Answered (reply_as c a place item answer) })
reply_collects h network slots j c a place item answer lawful refines post_at at caller answered spot owner new told sees told_is new_is known =
    go (kept_at (kept_of c h) item.future) refl
  where
    reply : Reply
    reply = reply_as c a place item answer

    is : IsOwnerOf h c owner
    is = (seen_owner h slots c refines sees).1

    becomes : {o : Option Answer} → kept_at (kept_of c h) item.future ≡ o →
        collected_reply owner (reply_as c a place item answer) ≡ cond (is_some o) (Late item.future) (First item.future)
    becomes {o} kept = collected_as owner (reply_as c a place item answer) o (is_mine h c a place item answer owner lawful is at caller answered)
        (ap (λ answers. kept_at answers item.future) is.kept ∙ kept)

    after_as : {o : Option Answer} → kept_at (kept_of c h) item.future ≡ o →
        new ≡ after_reply_that (cond (is_some o) (Late item.future) (First item.future)) owner (reply_as c a place item answer)
    after_as {o} kept = new_is ∙ ap (λ what. after_reply_that what owner (reply_as c a place item answer)) (becomes kept)

    go : (o : Option Answer) → kept_at (kept_of c h) item.future ≡ o → (told ≡ outcome_of h (Collect j)) × Refines (after h (Collect j))
        (record { network = record network { owners = slice_set network.owners spot new }; slots = slots })
    go None kept = finish h j (ReplyPost c a place) told (record { network = record network { owners = slice_set network.owners spot new }; slots = slots })
        post_at (told_is ∙ ap (told_collected c) (becomes kept) ∙ ap (λ did. Ok did) (sym (did_reply_as h c a place item at kept)))
        (heard_ties h slots (ReplyPost c a place) new lawful (heard_grows h j post_at) refines sees
        (subst (IsOwnerOf (heard h (ReplyPost c a place)) c) (sym (after_as kept)) (answered_owner h c a place is
        (ap (λ answers. slice_set answers item.future (Some answer)) is.kept ∙ first_table h c a place item answer at caller answered kept))))
    go (Some earlier) kept =
        finish h j (ReplyPost c a place) told (record { network = record network { owners = slice_set network.owners spot new }; slots = slots }) post_at
        (told_is ∙ ap (told_collected c) (becomes kept) ∙ ap (λ did. Ok did) (sym (did_reply_as h c a place item at kept)))
        (heard_ties h slots (ReplyPost c a place) new lawful (heard_grows h j post_at) refines sees (subst (IsOwnerOf (heard h (ReplyPost c a place)) c)
        (sym (after_as kept)) (answered_owner h c a place is (is.kept ∙ late_table h c a place item answer earlier at caller answered kept))))
