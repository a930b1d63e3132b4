-- Each run has its reply posted; what is collected answers, and what is kept was collected.
use Rattle.act_told_ends.proofs.Common.{◌≡◌, ◌≢◌, ℕ, Bool, true, false, cond, List, [], ◌∷◌, ◌++◌, length, Option, Some, None, refl, ap, sym, ◌∙◌, subst, arith}
use Rattle.act_told_ends.proofs.Common.{inl, inr, Contains, ◌==◌, ◌&&◌, slice_get, option_map, option_and_then, Err, eqb-true, eq-eqb, and_parts, and_from}
use Rattle.act_told_ends.proofs.Common.{slice_get_within, append-nil, Contains-append_left, Contains-append_right, ActorDied, Event, RunItem, Post, Submission}
use Rattle.act_told_ends.proofs.Common.{Answer, answer_at, answers_from, KindState, kept_at, ActorSpec, History, opening, names, callers_in, cast_of, contains}
use Rattle.act_told_ends.proofs.Common.{runs_of, calls_of, kept_of, opening_of, answer_of, answer_in, is_item_of, next_item, add_event, after_run, under-push}
use Rattle.act_told_ends.proofs.Common.{kept_at_is, kept_by, length-answers_from, element, IsKept, after_all_keeps, history, IsPrefix, IsSound, IsSoundPost}
use Rattle.act_told_ends.proofs.Common.{held_submission, next_item_caller, is_reply, AllNamed, answer_alive, under, All_at, added_grows, ReplyPost, DeathPost}
use Rattle.act_told_ends.proofs.Common.{reply_died}
use Rattle.act_rules.specs.declared.event.Event.TheVariants as event
use Rattle.act_told_ends.proofs.Lists.{push_at, first_in, some_first}
use Rattle.act_lists.proofs.Options.{cond_gives}
use Rattle.act_rules.proofs.RanAll.{named_call}

-- ---- each run has its reply posted

-- of each call that an actor ran, the reply is posted to its caller
abbrev pub RunsPosted : History → Type 0
RunsPosted h = (a place : ℕ) (item : RunItem) → slice_get (runs_of a h) place ≡ Some item → Contains h.posts (ReplyPost item.caller a place)

-- more was posted, and nothing ran
more_posted : (h g : History) → RunsPosted h → g.ran ≡ h.ran → IsPrefix h.posts g.posts → RunsPosted g
more_posted h g posted ran more a place item at =
    subst (λ posts. Contains posts (ReplyPost item.caller a place)) more.1
    (Contains-append_left h.posts more.0 (ReplyPost item.caller a place) (posted a place item (subst (λ l. slice_get (under a l) place ≡ Some item) ran at)))

-- after a run, what holds of each call that ran before, and of this one, holds of each
pub ran_each : (P : ℕ → ℕ → RunItem → Type 0) (h : History) (b c : ℕ) (item : RunItem)
    → ((a place : ℕ) (other : RunItem) → slice_get (runs_of a h) place ≡ Some other → P a place other) → P b (length (runs_of b h)) item
    → (a place : ℕ) (other : RunItem) → slice_get (runs_of a (after_run b c h (Some item))) place ≡ Some other → P a place other
ran_each P h b c item old new a place other at = go (b == a) refl (sym (ap (λ l. slice_get l place) (under-push a b h.ran item)) ∙ at)
  where
    go : (same : Bool) → (b == a) ≡ same → slice_get (runs_of a h ++ cond same (item ∷ []) []) place ≡ Some other → P a place other
    go false is e = old a place other (ap (λ l. slice_get l place) (sym (append-nil (runs_of a h))) ∙ e)
    go true is e = elim (push_at (runs_of a h) item place e) [
      | inl there ↦ old a place other there
      | inr last ↦
          subst (λ i. P a place i) (sym last.1)
          (subst (λ n. P a n item) (sym last.0) (subst (λ x. P x (length (runs_of x h)) item) (eqb-true b a is) new))
    ]

run_posted : (h : History) (b c : ℕ) (item : RunItem) → RunsPosted h → item.caller ≡ c → RunsPosted (after_run b c h (Some item))
run_posted h b c item posted mine =
    let new = ReplyPost c b (length (runs_of b h)) in
    ran_each (λ a place (other : RunItem). Contains (h.posts ++ new ∷ []) (ReplyPost other.caller a place)) h b c item
    (λ a place other at. Contains-append_left h.posts (new ∷ []) (ReplyPost other.caller a place) (posted a place other at))
    (subst (λ d. Contains (h.posts ++ new ∷ []) (ReplyPost d b (length (runs_of b h)))) (sym mine)
    (Contains-append_right h.posts (new ∷ []) new (0, omega arith, refl)))

-- each accepted event keeps that of each call that ran the reply is posted
pub posted_step : IsKept RunsPosted
posted_step h (event.Run b c) posted may = go (next_item b c h) refl
  where
    go : (o : Option RunItem) → next_item b c h ≡ o → RunsPosted (after_run b c h o)
    go None e = posted
    go (Some item) e = run_posted h b c item posted (next_item_caller b c h e)
posted_step h (event.Tell a c) posted may = more_posted h (add_event h (event.Tell a c)) posted refl (added_grows h (event.Tell a c)).posts
posted_step h other posted may = posted

-- whatever events leave, of each call that ran the reply is posted
pub all_posted : (casts : List ActorSpec) (events : List Event) → RunsPosted (history casts events)
all_posted casts events = after_all_keeps RunsPosted posted_step (opening casts) events (λ a place item e. cc)

-- ---- a reply that was collected answers

named_cast : (c : ℕ) (o : Option ActorSpec) → contains c (callers_in o) ≡ true → (cast : ActorSpec) × (o ≡ Some cast)
named_cast c None e = cc
named_cast c (Some cast) e = (cast, refl)

-- in a sound history whose casts name all who call, a caller that collected its call's reply keeps an answer for it
pub reply_answers : (h : History) (c a place : ℕ) {item : RunItem} (i : ℕ) → IsSound h → AllNamed h → slice_get h.collected i ≡ Some (ReplyPost c a place)
    → slice_get (runs_of a h) place ≡ Some item → item.caller ≡ c → (answer : Answer) × (kept_at (kept_of c h) item.future ≡ Some answer)
reply_answers h c a place {item} i sound names_all has at mine =
    let held = held_submission h a item.future place sound.order at mine refl in
    let named : names c (cast_of a h) ≡ true =
    subst (λ b. names c (cast_of b h) ≡ true) held.2 (named_call h c item.future names_all held.1) in
    let cast = named_cast c (cast_of a h) named in let long = length-answers_from cast.0.opening (runs_of a h) in
    let within = slice_get_within (runs_of a h) place item at in
    let one = element (answers_from cast.0.opening (runs_of a h)) place (omega (arith, long, within)) in
    let gives : answer_of a place h ≡ Some one.0 =
    ap (λ o. option_and_then (λ state. answer_at state (runs_of a h) place) (option_map (λ (cast : ActorSpec). cast.opening) o)) cast.1
    ∙ one.1 in
    let mine_too : is_item_of c item.future (slice_get (runs_of a h) place) ≡ true =
    ap (λ o. is_item_of c item.future o) at
    ∙ and_from (item.caller == c) (item.future == item.future) (eq-eqb item.caller c mine) (eq-eqb item.future item.future refl) in
    let both : ((c == c) && is_item_of c item.future (slice_get (runs_of a h) place)) ≡ true =
    and_from (c == c) (is_item_of c item.future (slice_get (runs_of a h) place)) (eq-eqb c c refl) mine_too in
    let answers : answer_in h c item.future held.0.actor (ReplyPost c a place) ≡ Some one.0 =
    ap (λ b. cond b (answer_of a place h) None) both ∙ gives in
    let first = some_first (answer_in h c item.future held.0.actor) h.collected i one.0 has answers in
    (first.0, kept_at_is h c item.future ∙ ap (kept_by h c item.future) held.1 ∙ first.1)

-- ---- what is kept was collected

-- the answer of a call came by a reply, or by the death of its actor
pub data CameBy (h : History) (c k : ℕ) (answer : Answer) : Type 0 where
  Replied : (i a place : ℕ) (item : RunItem) → slice_get h.collected i ≡ Some (ReplyPost c a place) → slice_get (runs_of a h) place ≡ Some item
      → item.caller ≡ c → item.future ≡ k → is_reply (Some answer) ≡ true → CameBy h c k answer
  Died : (i : ℕ) (call : Submission) → slice_get h.collected i ≡ Some (DeathPost c call.actor) → slice_get (calls_of c h) k ≡ Some call
      → answer ≡ Err ActorDied → CameBy h c k answer

-- an answer that is no death is a reply
pub is_alive : (answer : Answer) → answer ≢ Err ActorDied → is_reply (Some answer) ≡ true
is_alive answer alive = go (is_reply (Some answer)) refl
  where
    go : (x : Bool) → is_reply (Some answer) ≡ x → is_reply (Some answer) ≡ true
    go true e = e
    go false e = absurd (alive (reply_died answer e))

replied : (h : History) (c k b i d a place : ℕ) (answer : Answer) → IsSoundPost h (ReplyPost d a place)
    → slice_get h.collected i ≡ Some (ReplyPost d a place) → answer_in h c k b (ReplyPost d a place) ≡ Some answer → CameBy h c k answer
replied h c k b i d a place answer s at gives =
    let parts = cond_gives ((d == c) && is_item_of c k (slice_get (runs_of a h) place)) (answer_of a place h) gives in
    let tests = and_parts (d == c) (is_item_of c k (slice_get (runs_of a h) place)) parts.0 in
    let call = and_parts (s.0.caller == c) (s.0.future == k) (subst (λ o. is_item_of c k o ≡ true) s.1 tests.1) in
    let who : d ≡ c = eqb-true d c tests.0 in
    Replied i a place s.0 (at ∙ ap (λ x. Some (ReplyPost x a place)) who) s.1 (eqb-true s.0.caller c call.0) (eqb-true s.0.future k call.1)
    (alive (opening_of a h) parts.1)
  where
    alive : (o : Option KindState) → option_and_then (λ state. answer_at state (runs_of a h) place) o ≡ Some answer → is_reply (Some answer) ≡ true
    alive None e = cc
    alive (Some state) e = is_alive answer (answer_alive state (runs_of a h) place e)

-- in a sound history an answer that is kept came by a collected reply, or by the collected death of the call's actor
pub came_by : {h : History} (c k : ℕ) {answer : Answer} → IsSound h → kept_at (kept_of c h) k ≡ Some answer → CameBy h c k answer
came_by {h} c k {answer} sound e = go (slice_get (calls_of c h) k) refl (sym (kept_at_is h c k) ∙ e)
  where
    post : (p : Post) (i : ℕ) (call : Submission) → slice_get (calls_of c h) k ≡ Some call → slice_get h.collected i ≡ Some p
        → answer_in h c k call.actor p ≡ Some answer → CameBy h c k answer
    post (ReplyPost d a place) i call there at gives = replied h c k call.actor i d a place answer
        (All_at (IsSoundPost h) h.collected i sound.posts.collected at) at gives
    post (DeathPost d a) i call there at gives =
        let parts = cond_gives ((d == c) && (a == call.actor)) (Some (Err ActorDied)) gives in
        let tests = and_parts (d == c) (a == call.actor) parts.0 in
        let same : Err ActorDied ≡ answer = let e : Some (Err ActorDied) ≡ Some answer = parts.1 in cc in
        Died i call (at ∙ ap (λ x. Some (DeathPost x a)) (eqb-true d c tests.0) ∙ ap (λ x. Some (DeathPost c x)) (eqb-true a call.actor tests.1))
        there (sym same)

    go : (o : Option Submission) → slice_get (calls_of c h) k ≡ o → kept_by h c k o ≡ Some answer → CameBy h c k answer
    go None there e = cc
    go (Some call) there e = let found = first_in (answer_in h c k call.actor) h.collected answer e in
        post found.0 found.1 call there found.2 found.3
