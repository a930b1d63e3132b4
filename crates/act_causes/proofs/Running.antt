-- An actor that runs its caller's next call.
use Rattle.act_causes.proofs.Common.{◌≡◌, ℕ, Bool, true, false, cond, List, ◌∷◌, ◌++◌, length, Option, Some, None, refl, ap, sym, ◌∙◌, subst, IfSome, slice_get}
use Rattle.act_causes.proofs.Common.{slice_set, option_map, eq-eqb, Packet, Answered, Reply, Run, RunItem, Submission, after_item, items_of, has_terminated}
use Rattle.act_causes.proofs.Common.{calls_to, number_of, ActorSpec, History, cast_of, names, calls_of, kept_of, ran_count, has_letter, run_item, next_item}
use Rattle.act_causes.proofs.Common.{after_run, calls_to-number, Lane, IsInbox, InboxView, is_lane_of, lane_of, next_of, IsNextTaken, one_more, unlisted_next}
use Rattle.act_causes.proofs.Common.{listed_next, sound_then, next_taken, ActorView, cast_at, Runs, dead_slot, bury_ended, HasRunNext, IsOwnerOf, still_lives}
use Rattle.act_causes.proofs.Common.{next_is, item_is, run_follows, Site, Action, Actor, actions_of, ActorMayDo, CallRun, CallTaken, [], CallLetter, DidRun}
use Rattle.act_causes.proofs.Common.{OwnerView, packet_made, packet_at, item_made, packet_of_item, reply_of_run, next_call, HasRunCall, some_cast}
use Rattle.act_causes.proofs.Keeping.{Keeps, GoesOn, HasInbox, go_on, named_is, cast_is, owner_of}
use Rattle.act_causes.proofs.Made.{AreActorsOf, owner_same, actors_ran}
use Rattle.act_causes.proofs.Sites.{deed_of}
use Rattle.act_causes.proofs.Places.{found_at}
use Rattle.act_causes.proofs.Standing.{lives, inboxes_set}

-- ---- the actor

-- the inbox after the caller's next call was handed out
pub record HandsOut (caller : ℕ) (packet : Packet) (inbox : InboxView) : Type 0 where
  pub next : InboxView
  pub taken : IsNextTaken caller packet inbox next
  pub sound : IsInbox next.lanes next.held

hands_out : (caller : ℕ) (packet : Packet) (inbox : InboxView) → IsInbox inbox.lanes inbox.held → next_of inbox caller ≡ Some packet →
    HandsOut caller packet inbox
hands_out caller packet inbox sound is = go (lane_of inbox caller) refl
  where
    go : (o : Option Lane) → lane_of inbox caller ≡ o → HandsOut caller packet inbox
    go None none = let bad : None ≡ Some packet = sym (unlisted_next inbox caller none) ∙ is in cc
    go (Some lane) listed =
        let there = found_at (is_lane_of caller) inbox.lanes lane listed in let held = sym (listed_next inbox caller listed) ∙ is in
        let new : InboxView = record inbox { lanes = slice_set inbox.lanes there.place (one_more lane) } in
        record {
          next = new;
          taken = next_taken inbox caller there.place lane packet there.at there.is held sound new lane there.is refl
              (λ other number apart. refl) sound.numbered refl;
          sound = sound_then inbox caller there.place lane packet there.at there.is held sound new lane there.is refl
              (λ other number apart. refl) sound.numbered refl;
        }

-- the actor after it ran its caller's next call
pub record RunsNext (caller : ℕ) (item : RunItem) (live : ActorView) : Type 0 where
  pub reply : Reply
  pub new : ActorView
  pub next : HasRunNext caller (Some reply) live new
  pub inbox : IsInbox new.inbox.lanes new.inbox.held

runs_next : (caller : ℕ) (item : RunItem) (live : ActorView) → has_terminated live.log ≡ false → IsInbox live.inbox.lanes live.inbox.held →
    Some item ≡ option_map item_made (next_call live.log live.inbox caller) → RunsNext caller item live
runs_next caller item live on sound e = go (next_call live.log live.inbox caller) refl e
  where
    go : (o : Option Packet) → next_call live.log live.inbox caller ≡ o → Some item ≡ option_map item_made o → RunsNext caller item live
    go None is made = cc
    go (Some packet) is made =
        let next : next_of live.inbox caller ≡ Some packet = sym (ap (λ b. cond b None (next_of live.inbox caller)) on) ∙ is in
        let out = hands_out caller packet live.inbox sound next in
        let new : ActorView =
        record { id = live.id; inbox = out.next; log = live.log ++ item_made packet ∷ []; state = (after_item live.state (item_made packet)).0 } in
        let ran : HasRunCall caller packet live new = record { id = refl; taken = out.taken; log = refl; state = refl } in
        record {
          reply = reply_of_run live packet;
          new = new;
          next = record {
            reply_is = ap (option_map (reply_of_run live)) (sym is);
            gap = tt;
            ran = subst (λ o. IfSome o (λ p. HasRunCall caller p live new)) (sym is) ran;
          };
          inbox = out.sound;
        }

-- ---- the call

-- the caller's packet is what the history runs next
item_next : (h : History) (a c : ℕ) {owner : OwnerView} (item : RunItem) → IsOwnerOf h c owner → item.caller ≡ c → packet_at owner item.future ≡ Some
    (packet_of_item a item) → has_letter (CallLetter c a item.number) h.arrived ≡ true → item.number ≡ ran_count c a h → next_item a c h ≡ Some item
item_next h a c {owner} item is caller made came number = go (slice_get owner.calls item.future) refl made
  where
    go : (o : Option Submission) → slice_get owner.calls item.future ≡ o → option_map (packet_made owner item.future) o ≡ Some (packet_of_item a item) →
        next_item a c h ≡ Some item
    go None at e = cc
    go (Some call) at e =
        let same : packet_made owner item.future call ≡ packet_of_item a item = cc in
        let to : call.actor ≡ a = ap (λ (p : Packet). p.actor) same in
        let count : number_of call.actor item.future owner.calls ≡ ran_count c a h = ap (λ (p : Packet). p.number) same ∙ number in
        let there : slice_get (calls_of c h) item.future ≡ Some call = ap (λ calls. slice_get calls item.future) (sym is.calls) ∙ at in
        let found : slice_get (calls_to a (calls_of c h)) (number_of a item.future (calls_of c h)) ≡ Some (item.future, call) =
        calls_to-number a (calls_of c h) item.future there (eq-eqb call.actor a to) in
        let place : number_of a item.future (calls_of c h) ≡ ran_count c a h =
        ap (λ x. number_of x item.future (calls_of c h)) (sym to) ∙ ap (λ calls. number_of call.actor item.future calls) (sym is.calls) ∙ count in
        let here : slice_get (calls_to a (calls_of c h)) (ran_count c a h) ≡ Some (item.future, call) =
        ap (slice_get (calls_to a (calls_of c h))) (sym place) ∙ found in
        let letter : has_letter (CallLetter c a (ran_count c a h)) h.arrived ≡ true = ap (λ n. has_letter (CallLetter c a n) h.arrived) (sym number) ∙ came in
        let whole : run_item c (ran_count c a h) (kept_of c h) (item.future, call) ≡ item =
        ap (λ n. run_item c n (kept_of c h) (item.future, call)) (sym count)
        ∙ ap (λ kept. run_item c (number_of call.actor item.future owner.calls) kept (item.future, call)) (sym is.kept)
        ∙ ap (λ x. run_item x (number_of call.actor item.future owner.calls) owner.kept (item.future, call)) (sym is.id)
        ∙ ap item_made same in
        ap (λ b. cond b (option_map (run_item c (ran_count c a h) (kept_of c h)) (slice_get (calls_to a (calls_of c h)) (ran_count c a h))) None) letter
        ∙ ap (option_map (run_item c (ran_count c a h) (kept_of c h))) here
        ∙ ap (λ i. Some i) whole

module _ (casts : List ActorSpec) (deeds : List (Site × Action)) (h : History) (a : ℕ) (item : RunItem) (keeps : Keeps casts deeds h) where
  pub ran : (callers : List ℕ) → ActorMayDo a callers (actions_of (Actor a) deeds) (CallRun item) → GoesOn casts deeds h (Actor a, CallRun item)
  ran callers may =
      let c = item.caller in
      let came = keeps.left (Actor a, CallTaken (packet_of_item a item)) (deed_of (Actor a) deeds (CallTaken (packet_of_item a item)) may.1) in
      let is = owner_of casts deeds h c keeps came.named in
      let number : item.number ≡ ran_count c a h = may.2 ∙ ap (λ items. length (items_of c items)) (sym (keeps.actors.runs a)) in
      let next : next_item a c h ≡ Some item = item_next h a c item is refl came.is came.came number in
      let here = lives casts deeds h a keeps (some_cast c (cast_at a casts) came.listed) may.0 in
      let named : names c (cast_of a h) ≡ true = ap (names c) (cast_is casts h a keeps.casts_are) ∙ came.listed in
      let made : Some item ≡ option_map item_made (next_call here.live.log here.live.inbox c) =
      sym next ∙ item_is h a c ∙ ap (option_map item_made) (sym (next_is h a c here.is named)) in
      let inbox : IsInbox here.live.inbox.lanes here.live.inbox.held = subst HasInbox here.at (keeps.reached.inboxes a) in
      let runs = runs_next c item here.live (still_lives h a here.is) inbox made in
      go_on casts deeds h (Actor a, CallRun item) (Run a c) (DidRun runs.reply.place (length keeps.world.network.replies)) (record {
        network = record keeps.world.network { replies = keeps.world.network.replies ++ (record { caller = c; notice = Answered runs.reply }) ∷ [] };
        slots = slice_set keeps.world.slots a (bury_ended (Runs runs.new));
      }) keeps refl tt
      (run_follows h a c keeps.lawful keeps.reached.refines (named_is h c keeps.casts_are came.named) named here.at runs.next)
      (λ d other. keeps.reached.owners d other ∙ ap (λ o. Some o) (sym (owner_same casts d deeds (Actor a, CallRun item) refl)))
      (inboxes_set keeps.world.slots a (bury_ended (Runs runs.new)) here.at (buried_inbox runs.new runs.inbox) keeps.reached.inboxes) keeps.reached.room
      (subst (λ o. AreActorsOf (deeds ++ (Actor a, CallRun item) ∷ []) (after_run a c h o)) (sym next) (actors_ran deeds a c item h keeps.actors)) tt
    where
      buried_inbox : (new : ActorView) → IsInbox new.inbox.lanes new.inbox.held → HasInbox (Some (bury_ended (Runs new)))
      buried_inbox new sound = go (has_terminated new.log)
        where
          go : (b : Bool) → HasInbox (Some (cond b (dead_slot new) (Runs new)))
          go true = tt
          go false = sound
