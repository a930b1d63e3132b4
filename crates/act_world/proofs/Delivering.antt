-- A letter that is brought to its actor.
use Rattle.act_world.proofs.Common.{◌≡◌, ℕ, Bool, true, false, cond, List, map, get_or, Some, None, refl, ap, sym, ◌∙◌, subst, Option, Result, Ok, Err, IfOk}
use Rattle.act_world.proofs.Common.{OnErr, find, slice_get, slice_set, not, map-set, KindState, NoMemory, Submission, Letter, Deliver, Arrival, New, Repeat}
use Rattle.act_world.proofs.Common.{Arrived, ActorEnded, NoMail, history, needs, calls_to, History, cast_of, names, calls_of, is_ended, has_letter, Outcome}
use Rattle.act_world.proofs.Common.{letter_actor, deliver_refusal, refusal_of, did, did_deliver, outcome_of, after, and_also, was_sent, IsSoundLetter}
use Rattle.act_world.proofs.Common.{IsSoundNote, OwnerView, ActorView, MailEntry, NetworkView, is_owner, entry_actor, Slot, Steps, SlotView, Runs, WorldView}
use Rattle.act_world.proofs.Common.{slot_view, world_view, with_slots, is_live_slot, HasTakenPacket, HasTakenCall, HasNoted, HasArrived, IsNewCall, IsBrought}
use Rattle.act_world.proofs.Common.{IsOwnerAt, packet_as, call_key, mail_entry, IsLive, IsStage, Refines, is_memory, FollowsRules, is_new_call, takes_memory}
use Rattle.act_world.proofs.Common.{ActorSpec, Event, IsReachedBy, CallLetter, NoteLetter, CallEntry, NoteEntry}
use Rattle.act_world.proofs.Lawful.{IsLawful, world_lawful, IsNamedLetter}
use Rattle.act_world.proofs.Frames.{owners_stay}
use Rattle.act_world.proofs.Making.{made_there}
use Rattle.act_world.proofs.Changes.{refused_follows, accepted_follows, stages_change, has_ended, not_ended, slot_there, slot_kept}
use Rattle.act_world.proofs.Stepping.{refused, wanting, in_slot}
use Rattle.act_world.proofs.Mail.{IsLetterAt, letter_at, carried_to, letter_cast, brought, stage_past}
use Rattle.act_world.proofs.CallsBrought.{call_arrival, live_taken}
use Rattle.act_world.proofs.NotesBrought.{note_arrives, live_noted}
use Rattle.act_world.proofs.Lists.{set-same, none_alike}

-- ---- either letter

-- what the actor tells is what the history tells, and it goes on with it
pub record HasCome (h : History) (letter : Letter) (arrival : Arrival) (new : ActorView) : Type 0 where
  pub told : arrival ≡ cond (has_letter letter h.arrived) Repeat New
  pub live : IsLive (brought h letter) (letter_actor letter) new

letter_came : (h : History) (owners : List OwnerView) (letter : Letter) (m : MailEntry) (arrival : Arrival) (live new : ActorView) → IsLawful h →
    ((c : ℕ) → IsOwnerAt h c (find (is_owner c) owners)) → IsSoundLetter h letter → IsNamedLetter h letter → IsSoundNote h letter →
    mail_entry h letter ≡ Some m → IsLive h (letter_actor letter) live → HasArrived owners m arrival live new → HasCome h letter arrival new
letter_came h owners (CallLetter c a n) m arrival live new lawful all sound named note carries is arrived =
    let some : Some (CallEntry (call_key c a n sound.0)) ≡ Some m = rw sound.1 at carries in
    let same : CallEntry (call_key c a n sound.0) ≡ m = cc in
    let took : HasTakenCall owners (call_key c a n sound.0) arrival live new = subst (λ x. HasArrived owners x arrival live new) (sym same) arrived in
    let taken : HasTakenPacket (packet_as h c a n sound.0) arrival live new =
    took (packet_as h c a n sound.0) (made_there h owners c a n sound.0 all named sound.1) in
    let told : arrival ≡ cond (has_letter (CallLetter c a n) h.arrived) Repeat New =
    taken.arrival_is ∙ call_arrival h c a n sound.0 live lawful is named sound.1 in
    record { told = told; live = live_taken h c a n sound.0 live new lawful is sound.1 told taken }
letter_came h owners (NoteLetter c a n) m arrival live new lawful all sound named note carries is arrived =
    let same : NoteEntry (record { caller = c; actor = a; after = n }) ≡ m = cc in
    let noted : HasNoted (record { caller = c; actor = a; after = n }) arrival live new =
    subst (λ x. HasArrived owners x arrival live new) (sym same) arrived in
    let told : arrival ≡ cond (has_letter (NoteLetter c a n) h.arrived) Repeat New = noted.arrival_is ∙ note_arrives h c a n live lawful is named note in
    record { told = told; live = live_noted h c a n live new lawful is named note told noted }

brought_ties : (h : History) (letter : Letter) (old : WorldView) (slot new : SlotView) → Refines h old → slice_get old.slots (letter_actor letter) ≡ Some slot →
    IsStage (brought h letter) (letter_actor letter) (Some new) →
    Refines (brought h letter) (record { network = old.network; slots = slice_set old.slots (letter_actor letter) new })
brought_ties h letter old slot new refines at is = record {
  owners = owners_stay h (brought h letter) old.network.owners refl
      (λ c. record { calls = refl; copies = λ a. refl; sent = λ k. sent (slice_get (calls_of c h) k) c k; kept = refl; deaths = λ a. refl }) refines.owners;
  actors = stages_change h (brought h letter) old.slots (letter_actor letter) new refines.actors at is (stage_past h letter);
  mail = refines.mail;
  mail_count = refines.mail_count;
  replies = refines.replies;
  reply_count = refines.reply_count;
  asked = refines.asked;
}
  where
    sent : (call : Option Submission) (c k : ℕ) → was_sent c k call (brought h letter) ≡ was_sent c k call h
    sent None c k = refl
    sent (Some call) c k = refl

-- ---- the event

-- the letter's actor doesn't run
pub deliver_ended : (h : History) (world : WorldView) (i : ℕ) (m : MailEntry) (slot : SlotView) → IsLawful h → Refines h world →
    slice_get world.network.mail i ≡ Some m → slice_get world.slots (entry_actor m) ≡ Some slot → is_live_slot slot ≡ false →
    (Err ActorEnded ≡ outcome_of h (Deliver i)) × Refines (after h (Deliver i)) world
deliver_ended h world i m slot lawful refines is at off =
    let here = letter_at h i m lawful refines is in
    let to : letter_actor here.letter ≡ entry_actor m = carried_to h here.letter m here.sound here.carries in
    let there : slice_get world.slots (letter_actor here.letter) ≡ Some slot = ap (slice_get world.slots) to ∙ at in
    let stage : IsStage h (letter_actor here.letter) (Some slot) =
    subst (IsStage h (letter_actor here.letter)) there (refines.actors (letter_actor here.letter)) in
    let ended : is_ended (letter_actor here.letter) h ≡ true = has_ended h (letter_actor here.letter) slot stage off (letter_cast h here.letter here.named) in
    refused_follows (Deliver i) (ap (λ o. deliver_refusal o h) here.at ∙ ap (λ b. needs (not b) ActorEnded None) ended) refines

-- the letter was brought
pub deliver_follows : (h : History) {old : WorldView} (i : ℕ) (m : MailEntry) {slot : SlotView} (new : SlotView) (told : Outcome) → IsLawful h → Refines h old →
    slice_get old.network.mail i ≡ Some m → slice_get old.slots (entry_actor m) ≡ Some slot → IsBrought old.network.owners m slot new told →
    (told ≡ outcome_of h (Deliver i)) × Refines (after h (Deliver i)) (record { network = old.network; slots = slice_set old.slots (entry_actor m) new })
deliver_follows h {old} i m {slot} new told lawful refines is at went = go slot new told at went
  where
    here : IsLetterAt h i m
    here = letter_at h i m lawful refines is

    to : letter_actor here.letter ≡ entry_actor m
    to = carried_to h here.letter m here.sound here.carries

    by_live : (live new : ActorView) (arrival : Arrival) → slice_get old.slots (entry_actor m) ≡ Some (Runs live) →
        HasArrived old.network.owners m arrival live new → (Ok (Arrived arrival) ≡ outcome_of h (Deliver i)) × Refines (after h (Deliver i))
        (record { network = old.network; slots = slice_set old.slots (entry_actor m) (Runs new) })
    by_live live new arrival at arrived =
        let there : slice_get old.slots (letter_actor here.letter) ≡ Some (Runs live) = ap (slice_get old.slots) to ∙ at in
        let lives : IsLive h (letter_actor here.letter) live = subst (IsStage h (letter_actor here.letter)) there (refines.actors (letter_actor here.letter)) in
        let come =
        letter_came h old.network.owners here.letter m arrival live new lawful refines.owners here.sound here.named here.note here.carries lives arrived in
        let told : Arrived arrival ≡ did h (Deliver i) = ap (λ x. Arrived x) come.told ∙ ap (did_deliver h) (sym here.at) in
        let free : refusal_of h (Deliver i) ≡ None = ap (λ o. deliver_refusal o h) here.at ∙ ap (λ b. needs (not b) ActorEnded None) lives.runs in
        let after_it : Refines (brought h here.letter) (record { network = old.network; slots = slice_set old.slots (letter_actor here.letter) (Runs new) }) =
        brought_ties h here.letter old (Runs live) (Runs new) refines there come.live in
        accepted_follows h (Deliver i) (Arrived arrival) free told
        (subst (λ o. Refines (record h { arrived = and_also h.arrived o })
        (record { network = old.network; slots = slice_set old.slots (entry_actor m) (Runs new) })) (sym here.at)
        (subst (λ a. Refines (brought h here.letter) (record { network = old.network; slots = slice_set old.slots a (Runs new) })) to after_it))

    by_ended : (slot new : SlotView) (told : Outcome) → slice_get old.slots (entry_actor m) ≡ Some slot → is_live_slot slot ≡ false →
        (new ≡ slot) × (told ≡ Err ActorEnded) →
        (told ≡ outcome_of h (Deliver i)) × Refines (after h (Deliver i)) (record { network = old.network; slots = slice_set old.slots (entry_actor m) new })
    by_ended slot new told at off went = rw (went.1, went.0, set-same old.slots (entry_actor m) at) (deliver_ended h old i m slot lawful refines is at off)

    go : (slot new : SlotView) (told : Outcome) → slice_get old.slots (entry_actor m) ≡ Some slot → IsBrought old.network.owners m slot new told
        → (told ≡ outcome_of h (Deliver i)) × Refines (after h (Deliver i)) (record { network = old.network; slots = slice_set old.slots (entry_actor m) new })
    go (Runs live) (Runs next) (Ok (Arrived arrival)) at went = by_live live next arrival at went
    go (Runs live) next told at went = absurd went
    go slot next told at went = by_ended slot next told at refl went

-- nothing refuses the letter where its actor runs
pub deliver_free : (h : History) {world : WorldView} (i : ℕ) (m : MailEntry) (slot : SlotView) → IsLawful h → Refines h world →
    slice_get world.network.mail i ≡ Some m → slice_get world.slots (entry_actor m) ≡ Some slot → is_live_slot slot ≡ true → refusal_of h (Deliver i) ≡ None
deliver_free h {world} i m slot lawful refines is at on =
    let here = letter_at h i m lawful refines is in
    let to : letter_actor here.letter ≡ entry_actor m = carried_to h here.letter m here.sound here.carries in
    let there : slice_get world.slots (letter_actor here.letter) ≡ Some slot = ap (slice_get world.slots) to ∙ at in
    let stage : IsStage h (letter_actor here.letter) (Some slot) =
    subst (IsStage h (letter_actor here.letter)) there (refines.actors (letter_actor here.letter)) in
    ap (λ o. deliver_refusal o h) here.at ∙ ap (λ b. needs (not b) ActorEnded None) (not_ended h (letter_actor here.letter) slot stage on)

not_arrived : (b : Bool) → cond b Repeat New ≡ New → not b ≡ true
not_arrived true e = cc
not_arrived false e = refl

-- a letter that the actor takes in as a new call takes memory
pub deliver_takes : (h : History) {world : WorldView} (i : ℕ) (m : MailEntry) (slot : SlotView) → IsLawful h → Refines h world →
    slice_get world.network.mail i ≡ Some m → slice_get world.slots (entry_actor m) ≡ Some slot → IsNewCall m slot → takes_memory (Deliver i) h ≡ true
deliver_takes h {world} i m slot lawful refines is at new =
    let here = letter_at h i m lawful refines is in by_letter here.letter here.at here.carries here.sound here.named
  where
    by_call : (c a n : ℕ) (call : ℕ × Submission) (slot : SlotView) → slice_get h.mail i ≡ Some (CallLetter c a n) →
        slice_get (calls_to a (calls_of c h)) n ≡ Some call → names c (cast_of a h) ≡ true → slice_get world.slots a ≡ Some slot →
        IsNewCall (CallEntry (call_key c a n call)) slot → takes_memory (Deliver i) h ≡ true
    by_call c a n call (Runs live) found made named there new =
        let lives : IsLive h a live = subst (IsStage h a) there (refines.actors a) in
        let told : cond (has_letter (CallLetter c a n) h.arrived) Repeat New ≡ New = sym (call_arrival h c a n call live lawful lives named made) ∙ new in
        ap (λ o. is_new_call o h) found ∙ not_arrived (has_letter (CallLetter c a n) h.arrived) told
    by_call c a n call slot found made named there new = absurd new

    by_letter : (letter : Letter) → slice_get h.mail i ≡ Some letter → mail_entry h letter ≡ Some m → IsSoundLetter h letter → IsNamedLetter h letter →
        takes_memory (Deliver i) h ≡ true
    by_letter (CallLetter c a n) found carries sound named =
        let some : Some (CallEntry (call_key c a n sound.0)) ≡ Some m = rw sound.1 at carries in
        let same : CallEntry (call_key c a n sound.0) ≡ m = cc in
        by_call c a n sound.0 slot found sound.1 named
        (subst (λ x. slice_get world.slots (entry_actor x) ≡ Some slot) (sym same) at)
        (subst (λ x. IsNewCall x slot) (sym same) new)
    by_letter (NoteLetter c a n) found carries sound named =
        let same : NoteEntry (record { caller = c; actor = a; after = n }) ≡ m = cc in absurd (subst (λ x. IsNewCall x slot) (sym same) new)

-- ---- the same of what is seen of slots

addressed_cast : (h : History) {world : WorldView} (i : ℕ) (m : MailEntry) → IsLawful h → Refines h world → slice_get world.network.mail i ≡ Some m →
    cast_of (entry_actor m) h ≡ None → ⊥
addressed_cast h {world} i m lawful refines is none =
    let here = letter_at h i m lawful refines is in
    letter_cast h here.letter here.named (ap (λ a. cast_of a h) (carried_to h here.letter m here.sound here.carries) ∙ none)

-- an actor that takes a new call in runs
takes_lives : (letter : MailEntry) (slot : SlotView) → IsNewCall letter slot → is_live_slot slot ≡ true
takes_lives (CallEntry call) (Runs live) is = refl
takes_lives letter slot is = absurd is

module _ {S : Type 0} (f : S → SlotView) (network : NetworkView) (slots : List S) (i a : ℕ) (letter : MailEntry) (x : S)
    (at : Some letter ≡ slice_get network.mail i) (to : a ≡ entry_actor letter) (is : x ≡ get_or slots a x) where
  at_slot : (h : History) → IsLawful h → Refines h (record { network = network; slots = map f slots }) →
      slice_get (map f slots) (entry_actor letter) ≡ Some (f x)
  at_slot h lawful refines =
      slot_there f slots h (entry_actor letter) x refines.actors (addressed_cast h i letter lawful refines (sym at)) (subst (λ b. x ≡ get_or slots b x) to is)

  -- a call that the actor takes in is refused by nothing, and takes memory
  pub new_free : IsNewCall letter (f x) → (casts : List ActorSpec) (before : List Event) →
      IsReachedBy casts before (record { network = network; slots = map f slots }) →
      (refusal_of (history casts before) (Deliver i) ≡ None) × (takes_memory (Deliver i) (history casts before) ≡ true)
  new_free takes casts before refines =
      let h = history casts before in let lawful = world_lawful casts before in
      let there = at_slot h lawful refines in (
        deliver_free h i letter (f x) lawful refines (sym at) there (takes_lives letter (f x) takes),
        deliver_takes h i letter (f x) lawful refines (sym at) there takes,
      )

  pub brought_follows : (y : S) (told : Outcome) → IsBrought network.owners letter (f x) (f y) told
      → FollowsRules (Deliver i) (record { network = network; slots = map f slots }) (record { network = network; slots = map f (slice_set slots a y) }) told
  brought_follows y told went casts before refines =
      let h = history casts before in let lawful = world_lawful casts before in
      let follows = deliver_follows h i letter (f y) told lawful refines (sym at) (at_slot h lawful refines) went in
      let slots_are : slice_set (map f slots) (entry_actor letter) (f y) ≡ map f (slice_set slots a y) =
      ap (λ b. slice_set (map f slots) b (f y)) (sym to) ∙ sym (map-set f slots a y) in
      (follows.0, subst (λ seen. Refines (after h (Deliver i)) (record { network = network; slots = seen })) slots_are follows.1)

-- ---- no letter

-- there is no letter at this place
pub no_letter_follows : (world : WorldView) (i : ℕ) → None ≡ slice_get world.network.mail i → FollowsRules (Deliver i) world world (Err NoMail)
no_letter_follows world i none casts before refines =
    let h = history casts before in
    let none_there : slice_get h.mail i ≡ None = none_alike world.network.mail h.mail i none refines.mail_count in
    refused_follows (Deliver i) (ap (λ o. deliver_refusal o h) none_there) refines

-- ---- the event as the world sees it

pub no_letter_step : {K : Type 0} (state : K → KindState) (network : NetworkView) (slots : List (Slot K)) (i : ℕ) → None ≡ slice_get network.mail i
    → Steps (world_view state) (Deliver i) (with_slots slots network) (with_slots slots network) (Ok (Err NoMail))
no_letter_step state network slots i none = refused (world_view state) (Deliver i) (with_slots slots network) (with_slots slots network) NoMail refl refl
    (no_letter_follows (world_view state (with_slots slots network)) i none)

-- the letter was brought to its actor's slot
pub brought_step : {K : Type 0} (state : K → KindState) (network : NetworkView) (slots : List (Slot K)) (i : ℕ) {a : ℕ} {letter : MailEntry} {x : Slot K}
    (y : Slot K) (result : Result Outcome NoMemory) → Some letter ≡ slice_get network.mail i → a ≡ entry_actor letter → x ≡ get_or slots a x →
    IfOk result (IsBrought network.owners letter (slot_view state (get_or slots a x)) (slot_view state y)) → IfOk result (λ told. is_memory told ≡ false) →
    IfOk result (λ told. OnErr told (y ≡ get_or slots a x)) → OnErr result (IsNewCall letter (slot_view state (get_or slots a x))) →
    OnErr result (y ≡ get_or slots a x) → Steps (world_view state) (Deliver i) (with_slots slots network) (with_slots (slice_set slots a y) network) result
brought_step state network slots i {a} {letter} {x} y (Ok told) at to is went rules kept takes err =
    in_slot state (Deliver i) network slots a x y told rules kept (brought_follows (slot_view state) network slots i a letter x at to is y told
    (subst (λ s. IsBrought network.owners letter (slot_view state s) (slot_view state y) told) (sym is) went))
brought_step state network slots i {a} {letter} {x} y (Err error) at to is went rules kept takes err =
    let new = subst (λ s. IsNewCall letter (slot_view state s)) (sym is) takes in
    wanting (world_view state) (Deliver i) (with_slots slots network) _ (Err error) (λ e. Unit {0}) tt (slot_kept network slots a x y err)
    (λ casts before refines. (new_free (slot_view state) network slots i a letter x at to is new casts before refines).0)
    (λ casts before refines. (new_free (slot_view state) network slots i a letter x at to is new casts before refines).1)
