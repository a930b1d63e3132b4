-- A notice that its caller collects.
use Rattle.act_world.proofs.Common.{◌≡◌, ◌≢◌, ℕ, ◌<◌, Bool, true, false, cond, List, length, Some, None, refl, ap, sym, ◌∙◌, subst, Ok, Err, Option, OnErr, zip}
use Rattle.act_world.proofs.Common.{count_by, slice_get, slice_set, position, option_map, option_and_then, is_some, is_none, position-Some, slice_get-get_or}
use Rattle.act_world.proofs.Common.{on_err_weaker, Notice, Reply, Answered, Death, Collect, RunItem, Post, Answer, NoReply, history, needs, kept_at, History}
use Rattle.act_world.proofs.Common.{is_caller, runs_of, kept_of, answer_of, Outcome, did_reply, did_collect, outcome_by, outcome_of, after, All_at, IsSoundPost}
use Rattle.act_world.proofs.Common.{copies_in, Collected, Late, Stray, OwnerView, collected_reply, collect_result, after_collect, after_reply_that, with_death}
use Rattle.act_world.proofs.Common.{call_waits_for, pending, KnowsDeath, MailedNotice, NetworkView, is_owner, IsReplyNotice, told_collected, is_memory}
use Rattle.act_world.proofs.Common.{IsUnrefusedThere, takes_memory, StepsThere, SlotView, reply_as, reply_at, posted_notice, Refines, ReplyPost, DeathPost}
use Rattle.act_world.proofs.Common.{DidKeep, DidLate, collect_unrefused}
use Rattle.act_owner.specs.declared.owner.Collected.TheVariants.{Died}
use Rattle.act_world.proofs.Changes.{refused_follows, grown_none}
use Rattle.act_world.proofs.Lawful.{IsLawful, IsNamedPost, named_caller, world_lawful}
use Rattle.act_world.proofs.Frames.{owner_absent}
use Rattle.act_world.proofs.Sending.{SeesOwner}
use Rattle.act_world.proofs.Stepping.{FollowsThere}
use Rattle.act_world.proofs.Heard.{caller_of, Collects}
use Rattle.act_world.proofs.OneCaller.{put_back}
use Rattle.act_world.proofs.Bereaved.{death_collects}
use Rattle.act_world.proofs.Answering.{reply_collects}
use Rattle.act_world.proofs.Lists.{set-same, none_alike}

-- ---- each notice

record HasPost (h : History) (j : ℕ) (notice : MailedNotice) : Type 0 where
  post : Post
  at : slice_get h.posts j ≡ Some post
  is : posted_notice h post ≡ Some notice

has_post : {h : History} (network : NetworkView) (slots : List SlotView) (j : ℕ) {notice : MailedNotice} →
    Refines h (record { network = network; slots = slots }) → slice_get network.replies j ≡ Some notice → HasPost h j notice
has_post {h} network slots j {notice} refines e = go (slice_get h.posts j) refl (sym (refines.replies j) ∙ e)
  where
    go : (o : Option Post) → slice_get h.posts j ≡ o → option_and_then (posted_notice h) o ≡ Some notice → HasPost h j notice
    go None at e = cc
    go (Some post) at e = record { post = post; at = at; is = e }

-- a reply as it is mailed to a caller
abbrev pub told_to : ℕ → Reply → MailedNotice
told_to c reply = record { caller = c; notice = Answered reply }

by_reply : (h : History) (network : NetworkView) (slots : List SlotView) (j c a place : ℕ) (notice : MailedNotice) → IsLawful h →
    Refines h (record { network = network; slots = slots }) → slice_get h.posts j ≡ Some (ReplyPost c a place) → IsSoundPost h (ReplyPost c a place) →
    posted_notice h (ReplyPost c a place) ≡ Some notice → Collects h network slots j notice
by_reply h network slots j c a place notice lawful refines at sound is =
    go (answer_of a place h) refl (sym (ap (λ o. option_map (told_to c) (reply_at h c a place o)) sound.1) ∙ is)
  where
    go : (o : Option Answer) → answer_of a place h ≡ o → option_map (told_to c) (option_map (reply_as c a place sound.0) o) ≡ Some notice →
        Collects h network slots j notice
    go None answered e = cc
    go (Some answer) answered e =
        let same : told_to c (reply_as c a place sound.0 answer) ≡ notice = cc in
        subst (Collects h network slots j) same (reply_collects h network slots j c a place sound.0 answer lawful refines at sound.1 sound.2 answered)

by_post : (h : History) (network : NetworkView) (slots : List SlotView) (j : ℕ) (notice : MailedNotice) (post : Post) → IsLawful h → Refines h
    (record { network = network; slots = slots }) → slice_get h.posts j ≡ Some post → posted_notice h post ≡ Some notice → Collects h network slots j notice
by_post h network slots j notice (DeathPost c a) lawful refines at is =
    let same : ◌≡◌ {A = MailedNotice} (record { caller = c; notice = Death a }) notice = cc in
    subst (Collects h network slots j) same (death_collects h network slots j c a lawful refines at)
by_post h network slots j notice (ReplyPost c a place) lawful refines at is =
    by_reply h network slots j c a place notice lawful refines at (All_at (IsSoundPost h) h.posts j lawful.sound.posts.posts at) is

pub collect_follows : {h : History} (network : NetworkView) (slots : List SlotView) (j : ℕ) {notice : MailedNotice} → IsLawful h →
    Refines h (record { network = network; slots = slots }) → slice_get network.replies j ≡ Some notice → Collects h network slots j notice
collect_follows {h} network slots j {notice} lawful refines e =
    let found = has_post network slots j refines e in by_post h network slots j notice found.post lawful refines found.at found.is

-- ---- an answer that comes late

-- it leaves its caller as it was
late_same : (owner : OwnerView) (notice : Notice) (k : ℕ) → collect_result owner notice ≡ Late k →
    (after_collect owner notice ≡ owner) × KnowsDeath notice owner owner
late_same owner (Answered reply) k e = (ap (λ told. after_reply_that told owner reply) e, tt)
late_same owner (Death a) k e = go (is_some (copies_in a owner.handles)) e
  where
    go : (listed : Bool) → cond listed (Died (count_by (call_waits_for a) (zip owner.calls owner.kept))) Stray ≡ Late k →
        (after_collect owner (Death a) ≡ owner) × KnowsDeath (Death a) owner owner
    go true e = cc
    go false e = cc

pub late_follows : {h : History} (network : NetworkView) (slots : List SlotView) (j : ℕ) {notice : MailedNotice} (place k : ℕ) (owner : OwnerView) →
    IsLawful h → Refines h (record { network = network; slots = slots }) → slice_get network.replies j ≡ Some notice →
    SeesOwner network notice.caller place owner → collect_result owner notice.notice ≡ Late k →
    (Ok (DidLate notice.caller k) ≡ outcome_of h (Collect j)) × Refines (after h (Collect j)) (record { network = network; slots = slots })
late_follows {h} network slots j {notice} place k owner lawful refines e sees late =
    let same = late_same owner notice.notice k late in
    let follows = collect_follows network slots j lawful refines e place owner owner (Ok (DidLate notice.caller k)) sees
    (sym (ap (told_collected notice.caller) late)) (sym same.0) same.1 in
    (follows.0, subst (λ owners. Refines (after h (Collect j)) (record { network = record network { owners = owners }; slots = slots })) stays follows.1)
  where
    within : place < length network.owners
    within = (position-Some (is_owner notice.caller) network.owners place owner sees.place_is).0

    here : slice_get network.owners place ≡ Some owner
    here = slice_get-get_or network.owners place owner within ∙ ap (λ o. Some o) (sym sees.owner_is)

    stays : slice_set network.owners place owner ≡ network.owners
    stays = set-same network.owners place here

-- ---- a notice is for a caller

posted_caller : (h : History) (post : Post) (notice : MailedNotice) → posted_notice h post ≡ Some notice → notice.caller ≡ caller_of post
posted_caller h (DeathPost c a) notice e = let same : ◌≡◌ {A = MailedNotice} (record { caller = c; notice = Death a }) notice = cc in
    ap (λ (p : MailedNotice). p.caller) (sym same)
posted_caller h (ReplyPost c a place) notice e = go (reply_at h c a place (slice_get (runs_of a h) place)) e
  where
    go : (o : Option Reply) → option_map (told_to c) o ≡ Some notice → notice.caller ≡ c
    go None e = cc
    go (Some reply) e = let same : told_to c reply ≡ notice = cc in ap (λ (p : MailedNotice). p.caller) (sym same)

post_caller : (h : History) (post : Post) → IsNamedPost h post → is_caller (caller_of post) h ≡ true
post_caller h (ReplyPost c a place) named = named_caller c a h named
post_caller h (DeathPost c a) named = named_caller c a h named

pub collect_owned : {h : History} (network : NetworkView) (slots : List SlotView) (j : ℕ) {notice : MailedNotice} → IsLawful h → Refines h
    (record { network = network; slots = slots }) → slice_get network.replies j ≡ Some notice → position (is_owner notice.caller) network.owners ≡ None → ⊥
collect_owned {h} network slots j {notice} lawful refines e none =
    let found = has_post network slots j refines e in
    let caller : is_caller notice.caller h ≡ true = ap (λ c. is_caller c h) (posted_caller h found.post notice found.is) ∙
    post_caller h found.post (All_at (IsNamedPost h) h.posts j lawful.named.posts found.at) in
    let absent : is_caller notice.caller h ≡ false = owner_absent h network.owners notice.caller refines.owners none in
    let bad : true ≡ false = sym caller ∙ absent in cc

-- ---- an answer that comes first

-- a reply makes no death known
no_death_known : (notice : Notice) (owner new : OwnerView) → IsReplyNotice notice → KnowsDeath notice owner new
no_death_known (Answered reply) owner new is = tt
no_death_known (Death a) owner new is = absurd is

-- only a late answer is told as late
told_late : (to c k : ℕ) (what : Collected) → ((k : ℕ) → what ≢ Late k) → told_collected to what ≡ Ok (DidLate c k) → ⊥
told_late to c k (Late n) other e = other n refl
told_late to c k what other e = cc

-- a reply that isn't late takes memory
pub reply_takes : {h : History} (network : NetworkView) (slots : List SlotView) (j place : ℕ) {notice : MailedNotice} (owner : OwnerView) → IsLawful h →
    Refines h (record { network = network; slots = slots }) → slice_get network.replies j ≡ Some notice → SeesOwner network notice.caller place owner →
    IsReplyNotice notice.notice → ((k : ℕ) → collect_result owner notice.notice ≢ Late k) → takes_memory (Collect j) h ≡ true
reply_takes {h} network slots j place {notice} owner lawful refines e sees reply other =
    let found = has_post network slots j refines e in by_kind found.post found.at found.is
  where
    what : Collected
    what = collect_result owner notice.notice

    told : told_collected notice.caller (collect_result owner notice.notice) ≡ outcome_of h (Collect j)
    told = (collect_follows network slots j lawful refines e place owner (after_collect owner notice.notice) (told_collected notice.caller what) sees refl refl
        (no_death_known notice.notice owner (after_collect owner notice.notice) reply)).0

    by_item : (c a n : ℕ) (item : RunItem) → slice_get h.posts j ≡ Some (ReplyPost c a n) → slice_get (runs_of a h) n ≡ Some item → (first : Bool) →
        is_none (kept_at (kept_of c h) item.future) ≡ first → first ≡ true
    by_item c a n item at ran true is = refl
    by_item c a n item at ran false is =
        let accepted : outcome_of h (Collect j) ≡ Ok (did_collect h (slice_get h.posts j)) =
        ap (λ o. outcome_by h (Collect j) (needs (is_some o) NoReply None)) at in
        let of_post : ◌≡◌ {A = Outcome} (Ok (did_collect h (slice_get h.posts j))) (Ok (did_reply c h (slice_get (runs_of a h) n))) =
        ap (λ o. Ok (did_collect h o)) at in
        let of_item : ◌≡◌ {A = Outcome} (Ok (did_reply c h (slice_get (runs_of a h) n))) (Ok (DidLate c item.future)) =
        ap (λ o. Ok (did_reply c h o)) ran ∙ ap (λ b. Ok (cond b (DidKeep c item.future) (DidLate c item.future))) is in
        let late : outcome_of h (Collect j) ≡ Ok (DidLate c item.future) = accepted ∙ of_post ∙ of_item in
        absurd (told_late notice.caller c item.future what other (told ∙ late))

    by_kind : (post : Post) → slice_get h.posts j ≡ Some post → posted_notice h post ≡ Some notice → takes_memory (Collect j) h ≡ true
    by_kind (ReplyPost c a n) at is =
        let sound = All_at (IsSoundPost h) h.posts j lawful.sound.posts.posts at in
        let first = by_item c a n sound.0 at sound.1 (is_none (kept_at (kept_of c h) sound.0.future)) refl in rw (at, sound.1) first
    by_kind (DeathPost c a) at is =
        let same : ◌≡◌ {A = MailedNotice} (record { caller = c; notice = Death a }) notice = cc in
        absurd (subst (λ (p : MailedNotice). IsReplyNotice p.notice) (sym same) reply)

-- ---- the event as the network sees it

-- there is no notice at this place
pub no_notice_follows : (network : NetworkView) (j : ℕ) → None ≡ slice_get network.replies j → FollowsThere (Collect j) network network (Err NoReply)
no_notice_follows network j none slots casts before refines =
    let h = history casts before in
    let none_there : slice_get h.posts j ≡ None = none_alike network.replies h.posts j none refines.reply_count in
    refused_follows (Collect j) (ap (λ o. needs (is_some o) NoReply None) none_there) refines

-- nothing refuses to hand a notice over
pub notice_unrefused : (network : NetworkView) (j : ℕ) {notice : MailedNotice} → Some notice ≡ slice_get network.replies j →
    IsUnrefusedThere (Collect j) network
notice_unrefused network j {notice} here slots casts before refines =
    let found = has_post network slots j refines (sym here) in collect_unrefused (history casts before) j found.at

-- a stray notice leaves its caller as it was
stray_same : (to : ℕ) (owner : OwnerView) (notice : Notice) → OnErr (told_collected to (collect_result owner notice)) (after_collect owner notice ≡ owner)
stray_same to owner (Answered reply) = go (collected_reply owner reply)
  where
    go : (what : Collected) → OnErr (told_collected to what) (after_reply_that what owner reply ≡ owner)
    go Stray = refl
    go what = tt
stray_same to owner (Death a) = go (is_some (copies_in a owner.handles))
  where
    go : (listed : Bool) → OnErr (told_collected to (cond listed (Died (pending owner a)) Stray)) (cond listed (with_death owner a) owner ≡ owner)
    go true = tt
    go false = refl

-- a copy of the notice was handed over, and its caller is put back as the notice left it
pub collected : (network : NetworkView) (j place : ℕ) (notice : MailedNotice) (copy : Notice) (owner new : OwnerView) (what : Collected) (told : Outcome) →
    Some notice ≡ slice_get network.replies j → SeesOwner network notice.caller place owner → copy ≡ notice.notice → what ≡ collect_result owner copy →
    new ≡ after_collect owner copy → KnowsDeath copy owner new → told ≡ told_collected notice.caller what → is_memory told ≡ false →
    StepsThere (Collect j) network (record network { owners = slice_set network.owners place new }) (Ok told)
collected network j place notice copy owner new what told here sees copied what_is new_is knows told_is rules slots = record {
  ok = λ casts before refines. collect_follows network slots j (world_lawful casts before) refines (sym here) place owner new told sees
      (told_is ∙ ap (told_collected notice.caller) (what_is ∙ ap (collect_result owner) copied)) (new_is ∙ ap (after_collect owner) copied)
      (subst (λ one. KnowsDeath one owner new) copied knows);
  told = rules;
  refused = on_err_weaker told (λ same. put_back network place sees.owner_is (new_is ∙ same)) (subst (λ outcome. OnErr outcome
      (after_collect owner copy ≡ owner)) (sym (told_is ∙ ap (told_collected notice.caller) what_is)) (stray_same notice.caller owner copy));
  grown = grown_none network;
  memory_last = tt;
  memory = tt;
  err = tt;
}
