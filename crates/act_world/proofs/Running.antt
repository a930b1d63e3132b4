-- A call that is run.
use Rattle.act_world.proofs.Common.{◌≡◌, ℕ, ◌+◌, ◌<◌, Bool, true, false, List, [], ◌∷◌, ◌++◌, length, map, get_or, Some, None, refl, ap, sym, ◌∙◌, subst}
use Rattle.act_world.proofs.Common.{length-append, Option, Result, Ok, Err, IfSome, find, not, slice_get, slice_set, option_map, is_some, map-set, KindState}
use Rattle.act_world.proofs.Common.{Packet, Reply, Answered, Run, Ran, Gap, NoActor, WorldRefusal, NoCaller, Handle, ActorEnded, history, needs, History}
use Rattle.act_world.proofs.Common.{cast_of, names, is_caller, runs_of, is_ended, next_item, refusal_of, did, did_run, add_event, after_run, outcome_of, after}
use Rattle.act_world.proofs.Common.{Grows, after_run_grows, ActorView, item_of, reply_of_run, next_call, HasRunCall, MailedNotice, NetworkView, is_owner}
use Rattle.act_world.proofs.Common.{naming_refusal, Slot, SlotView, Runs, WorldView, slot_view, world_view, with_slots, has_next_in_slot, bury_ended}
use Rattle.act_world.proofs.Common.{HasRunNext, IsRun, posted_notice, IsLive, IsStage, Steps, is_memory, IsGrown, NoMemory, Outcome, OnErr, IfOk, on_err_weaker}
use Rattle.act_world.proofs.Common.{slice_get-map, slice_get-get_or, Refines, FollowsRules, ReplyPost, ran_on}
use Rattle.act_world.proofs.Lawful.{IsLawful, world_lawful}
use Rattle.act_world.proofs.Frames.{same_caller, owners_stay, mail_stays, replies_stay, go_together, stage_stays, dead_same}
use Rattle.act_world.proofs.Seeing.{refused, known}
use Rattle.act_world.proofs.Changes.{refused_follows, accepted_follows, refused_in_slot, stages_change, has_ended, named_cast, slot_kept, grown_none}
use Rattle.act_world.proofs.Changes.{grown_reply}
use Rattle.act_world.proofs.NextCall.{next_is, item_is}
use Rattle.act_world.proofs.RanOn.{runs_other, slot_ran}
use Rattle.act_world.proofs.Replying.{reply_posted}
use Rattle.act_world.proofs.Lists.{set-same}
use Rattle.act_world.proofs.Stepping.{wanting}

-- ---- what refuses it

abbrev refusal_by : Bool → Bool → Bool → Option WorldRefusal
refusal_by caller named ended = needs caller NoCaller (needs named (Handle NoActor) (needs (not ended) ActorEnded None))

run_refusal : (h : History) (a c : ℕ) {caller named ended : Bool} → is_caller c h ≡ caller → names c (cast_of a h) ≡ named → is_ended a h ≡ ended →
    refusal_of h (Run a c) ≡ refusal_by caller named ended
run_refusal h a c {caller} {named} e f g =
    ap (λ b. refusal_by b (names c (cast_of a h)) (is_ended a h)) e
    ∙ ap (λ b. refusal_by caller b (is_ended a h)) f
    ∙ ap (λ b. refusal_by caller named b) g

-- ---- the event

ran_ties : (h : History) (old : WorldView) (a c : ℕ) (packet : Packet) (live new : ActorView) → IsLawful h → Refines h old →
    slice_get old.slots a ≡ Some (Runs live) → IsLive h a live → HasRunCall c packet live new
    → Refines (ran_on h a c (item_of packet)) (record {
      network = record old.network { replies = old.network.replies ++ (record { caller = c; notice = Answered (reply_of_run live packet) }) ∷ [] };
      slots = slice_set old.slots a (bury_ended (Runs new));
    })
ran_ties h old a c packet live new lawful refines at is ran = record {
  owners = owners_stay h g old.network.owners refl (λ d. same_caller d h lawful grows refl refl refl refl refl) refines.owners;
  actors = stages_change h g old.slots a (bury_ended (Runs new)) refines.actors at (slot_ran h a c packet live new lawful is ran) (λ b stage apart was.
      let ran_else = runs_other h a b c (item_of packet) apart in stage_stays h g b stage lawful grows refl ran_else (dead_same h g b refl ran_else) refl was);
  mail = mail_stays old.network.mail lawful grows refines.mail;
  mail_count = refines.mail_count;
  replies = go_together (posted_notice g) old.network.replies h.posts (ReplyPost c a (length (runs_of a h)))
      (reply_posted h a c packet live is ran.taken.of_caller) refines.reply_count (replies_stay h g old.network.replies lawful grows refines.replies);
  reply_count = simp length-append (ap (λ n. n + 1) refines.reply_count);
  asked = refines.asked;
}
  where
    g : History
    g = ran_on h a c (item_of packet)

    grows : Grows h (ran_on h a c (item_of packet))
    grows = after_run_grows a c h (Some (item_of packet))

-- the actor ran the call, and its reply was posted
pub run_follows : (h : History) {old : WorldView} (a c : ℕ) {live new : ActorView} {reply : Reply} → IsLawful h → Refines h old → is_caller c h ≡ true →
    names c (cast_of a h) ≡ true → slice_get old.slots a ≡ Some (Runs live) → HasRunNext c (Some reply) live new
    → (Ok (Ran reply.place (length old.network.replies)) ≡ outcome_of h (Run a c)) × Refines (after h (Run a c)) (record {
      network = record old.network { replies = old.network.replies ++ (record { caller = c; notice = Answered reply }) ∷ [] };
      slots = slice_set old.slots a (bury_ended (Runs new));
    })
run_follows h {old} a c {live} {new} {reply} lawful refines caller named at next = go (next_call live.log live.inbox c) refl next.reply_is next.ran
  where
    is : IsLive h a live
    is = subst (IsStage h a) at (refines.actors a)

    world : Reply → WorldView
    world told = record {
      network = record old.network { replies = old.network.replies ++ (record { caller = c; notice = Answered told }) ∷ [] };
      slots = slice_set old.slots a (bury_ended (Runs new));
    }

    go : (found : Option Packet) → next_call live.log live.inbox c ≡ found → Some reply ≡ option_map (reply_of_run live) found → IfSome found (λ packet.
        HasRunCall c packet live new) → (Ok (Ran reply.place (length old.network.replies)) ≡ outcome_of h (Run a c)) × Refines (after h (Run a c)) (world reply)
    go None e told ran = cc
    go (Some packet) e told ran =
        let same : reply ≡ reply_of_run live packet = cc in
        let item : next_item a c h ≡ Some (item_of packet) = item_is h a c ∙ ap (option_map item_of) (sym (next_is h a c is named) ∙ e) in
        let place : reply.place ≡ length (runs_of a h) = ap (λ (r : Reply). r.place) same ∙ ap (λ items. length items) is.log in
        let did_it : Ran reply.place (length old.network.replies) ≡ did h (Run a c) =
        ap (λ p. Ran p (length old.network.replies)) place ∙ ap (λ j. Ran (length (runs_of a h)) j) refines.reply_count ∙ ap (did_run a h) (sym item) in
        accepted_follows h (Run a c) (Ran reply.place (length old.network.replies)) (run_refusal h a c caller named is.runs) did_it
        (subst (λ r. Refines (add_event h (Run a c)) (world r)) (sym same)
        (subst (λ o. Refines (after_run a c h o) (world (reply_of_run live packet))) (sym item) (ran_ties h old a c packet live new lawful refines at is ran)))

-- its next call has not come
no_next : (h : History) {old : WorldView} (a c : ℕ) (live : ActorView) → Refines h old → is_caller c h ≡ true → names c (cast_of a h) ≡ true → IsLive h a live →
    next_call live.log live.inbox c ≡ None → (Ok Gap ≡ outcome_of h (Run a c)) × Refines (after h (Run a c)) old
no_next h {old} a c live refines caller named is none =
    let item : next_item a c h ≡ None = item_is h a c ∙ ap (option_map item_of) (sym (next_is h a c is named) ∙ none) in
    accepted_follows h (Run a c) Gap (run_refusal h a c caller named is.runs) (ap (did_run a h) (sym item))
    (subst (λ o. Refines (after_run a c h o) old) (sym item) refines)

-- ---- whether the next call has come

item_came : (o : Option Packet) → is_some o ≡ true → is_some (option_map item_of o) ≡ true
item_came None e = cc
item_came (Some packet) e = refl

-- ---- the event as the world sees it

pub run_refused : (network : NetworkView) (slots : List SlotView) (a c : ℕ) {refusal : WorldRefusal} → naming_refusal (find (is_owner c) network.owners) a ≡
    Some refusal → FollowsRules (Run a c) (record { network = network; slots = slots }) (record { network = network; slots = slots }) (Err refusal)
run_refused network slots a c {refusal} refuses casts before refines =
    let h = history casts before in
    refused_follows (Run a c) (refused h network.owners c a refines.owners refusal (needs (not (is_ended a h)) ActorEnded None) refuses) refines

module _ (network : NetworkView) (slots : List SlotView) (a c : ℕ) (free : naming_refusal (find (is_owner c) network.owners) a ≡ None) where
  -- where the actor ran a call, had none to run, or has ended, the world goes on as the history does
  goes : (h : History) (slot new : SlotView) (posted : List MailedNotice) (told : Outcome) → IsLawful h → Refines h (with_slots slots network) →
      slice_get slots a ≡ Some slot → IsRun c slot new network.replies posted told →
      (told ≡ outcome_of h (Run a c)) × Refines (after h (Run a c)) (with_slots (slice_set slots a new) (record network { replies = posted }))
  goes h (Runs live) new posted (Ok (Ran place j)) lawful refines at went =
      let here = known h network.owners c a refines.owners free in
      rw (went.place_is, went.last, went.posted_is, went.slot_is) (run_follows h a c lawful refines here.0 here.1 at went.next)
  goes h (Runs live) new posted told lawful refines at went =
      let here = known h network.owners c a refines.owners free in
      rw (went.3, went.2, went.1, set-same slots a at)
      (no_next h a c live refines here.0 here.1 (subst (IsStage h a) at (refines.actors a)) went.0)
  goes h slot new posted told lawful refines at went =
      let here = known h network.owners c a refines.owners free in
      let ended = has_ended h a slot (subst (IsStage h a) at (refines.actors a)) refl (named_cast c a h here.1) in
      rw went.1 (refused_in_slot (Run a c) ActorEnded a new at went.0 went.2 (run_refusal h a c here.0 here.1 ended) refines)

  -- a call that the actor has to run is refused by nothing, and takes memory
  wants : (h : History) (slot : SlotView) → Refines h (with_slots slots network) → slice_get slots a ≡ Some slot → has_next_in_slot c slot ≡ true
      → (refusal_of h (Run a c) ≡ None) × (is_some (next_item a c h) ≡ true)
  wants h (Runs live) refines at some =
      let here = known h network.owners c a refines.owners free in let is = subst (IsStage h a) at (refines.actors a) in
      let item : next_item a c h ≡ option_map item_of (next_call live.log live.inbox c) =
      item_is h a c ∙ ap (option_map item_of) (sym (next_is h a c is here.1)) in (
        run_refusal h a c here.0 here.1 is.runs,
        ap (λ o. is_some o) item ∙ item_came (next_call live.log live.inbox c) some,
      )
  wants h slot refines at some = absurd (cc)

-- what is told is the rules', and there is one notice more at most
run_told : (network : NetworkView) (c : ℕ) (slot new : SlotView) (posted : List MailedNotice) (told : Outcome) → IsRun c slot new network.replies posted told
    → (is_memory told ≡ false) × IsGrown network (record network { replies = posted })
run_told network c (Runs live) new posted (Ok (Ran place j)) went = (refl, grown_reply _ _ _ _ went.posted_is)
run_told network c (Runs live) new posted told went = (ap is_memory went.3, rw went.2 (grown_none network))
run_told network c slot new posted told went = (ap is_memory went.2, rw went.1 (grown_none network))

-- the actor ran, in its slot
module _ {K : Type 0} (state : K → KindState) (network : NetworkView) (slots : List (Slot K)) (a c : ℕ) (x y : Slot K) (posted : List MailedNotice)
    (free : naming_refusal (find (is_owner c) network.owners) a ≡ None) (within : a < length slots) where
  there : slice_get (map (slot_view state) slots) a ≡ Some (slot_view state (get_or slots a x))
  there = slice_get-map (slot_view state) slots a ∙ ap (option_map (slot_view state)) (slice_get-get_or slots a x within)

  same : (y ≡ get_or slots a x) × (posted ≡ network.replies) → with_slots (slice_set slots a y) (record network { replies = posted }) ≡ with_slots slots network
  same kept = rw kept.1 (slot_kept network slots a x y kept.0)

  run_step : (result : Result Outcome NoMemory) → IfOk result (IsRun c (slot_view state (get_or slots a x)) (slot_view state y) network.replies posted)
      → IfOk result (λ told. OnErr told ((y ≡ get_or slots a x) × (posted ≡ network.replies)))
      → OnErr result (has_next_in_slot c (slot_view state (get_or slots a x)) ≡ true) → OnErr result ((y ≡ get_or slots a x) × (posted ≡ network.replies))
      → Steps (world_view state) (Run a c) (with_slots slots network) (with_slots (slice_set slots a y) (record network { replies = posted })) result
  run_step (Ok told) went kept takes err =
      let tells = run_told network c _ _ posted told went in
      record {
        ok = λ casts before refines. rw (map-set (slot_view state) slots a y)
            (goes network (map (slot_view state) slots) a c free (history casts before) _ _ posted told (world_lawful casts before) refines there went);
        told = tells.0;
        refused = on_err_weaker told same kept;
        grown = tells.1;
        memory_last = tt;
        memory = tt;
        err = tt;
      }
  run_step (Err error) went kept takes err = wanting (world_view state) (Run a c) (with_slots slots network) _ (Err error) (λ e. Unit {0}) tt (same err)
      (λ casts before refines. (wants network (map (slot_view state) slots) a c free (history casts before) _ refines there takes).0)
      (λ casts before refines. (wants network (map (slot_view state) slots) a c free (history casts before) _ refines there takes).1)

-- the same at a place that is the actor's number
pub run_put : {K : Type 0} (state : K → KindState) (network : NetworkView) (slots : List (Slot K)) (a : ℕ) {p : ℕ} (c : ℕ) (x y : Slot K)
    (posted : List MailedNotice) (result : Result Outcome NoMemory) → p ≡ a → naming_refusal (find (is_owner c) network.owners) a ≡ None → p < length slots →
    IfOk result (IsRun c (slot_view state (get_or slots p x)) (slot_view state y) network.replies posted) →
    IfOk result (λ told. OnErr told ((y ≡ get_or slots p x) × (posted ≡ network.replies))) →
    OnErr result (has_next_in_slot c (slot_view state (get_or slots p x)) ≡ true) → OnErr result ((y ≡ get_or slots p x) × (posted ≡ network.replies)) →
    Steps (world_view state) (Run a c) (with_slots slots network) (with_slots (slice_set slots p y) (record network { replies = posted })) result
run_put state network slots a {p} c x y posted result at free within went kept takes err =
    rw (← at) (run_step state network slots p c x y posted (rw (← at) at free) within result went kept takes err)
