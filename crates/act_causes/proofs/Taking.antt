-- An actor that takes a letter.
use Rattle.act_causes.proofs.Common.{◌≡◌, ℕ, true, List, ◌∷◌, ◌++◌, length, Option, Some, None, Ok, refl, ap, sym, ◌∙◌, subst, slice_get, slice_set, option_map}
use Rattle.act_causes.proofs.Common.{option_and_then, is_some, Packet, ReleaseNote, Deliver, Letter, Submission, Arrival, Arrived, calls_to, number_of}
use Rattle.act_causes.proofs.Common.{ActorSpec, History, cast_of, names, calls_of, copies_of, has_letter, add_event, and_also, was_sent, All_at, IsSoundLetter}
use Rattle.act_causes.proofs.Common.{IsInbox, OwnerView, packet_for, packet_at, is_sent, Sent, is_known_at, ActorView, MailEntry, entry_actor, SlotView, Runs}
use Rattle.act_causes.proofs.Common.{HasArrived, IsOwnerOf, call_key, mail_entry, deliver_follows, IsNamedLetter, has_last, Site, Action, IsSentCall}
use Rattle.act_causes.proofs.Common.{IsLastNote, IsEventOf, Actor, Caller, actions_of, action_at, CallTaken, NoteTaken, has_ended_in, false, [], CallLetter}
use Rattle.act_causes.proofs.Common.{NoteLetter, CallEntry, NoteEntry, letter_place, some_cast}
use Rattle.act_causes.proofs.Inboxes.{takes_call, takes_note}
use Rattle.act_causes.proofs.Keeping.{Keeps, GoesOn, HasLeft, HasInbox, IsByNamed, go_on, cast_is, owner_of}
use Rattle.act_causes.proofs.Made.{owner_same, IsNoEnd, by_actor, actors_stay}
use Rattle.act_causes.proofs.Standing.{Lives, lives, inboxes_set}

-- the letter of a call that its caller sent is in the mail
sent_letter : (h : History) {c : ℕ} (k : ℕ) {owner : OwnerView} (packet : Packet) → IsOwnerOf h c owner → is_sent owner k ≡ true →
    packet_at owner k ≡ Some packet → has_letter (CallLetter c packet.actor packet.number) h.mail ≡ true
sent_letter h {c} k {owner} packet is sent at = go (slice_get owner.calls k) refl at
  where
    go : (o : Option Submission) → slice_get owner.calls k ≡ o → option_map (packet_for owner k) o ≡ Some packet →
        has_letter (CallLetter c packet.actor packet.number) h.mail ≡ true
    go None e made = cc
    go (Some call) e made =
        let same : packet_for owner k call ≡ packet = cc in
        let there : slice_get (calls_of c h) k ≡ Some call = ap (λ calls. slice_get calls k) (sym is.calls) ∙ e in
        let was : has_letter (CallLetter c call.actor (number_of call.actor k (calls_of c h))) h.mail ≡ true =
        ap (λ o. was_sent c k o h) (sym there) ∙ sym (is.sent k) ∙ sent in
        subst (λ (p : Packet). has_letter (CallLetter c p.actor p.number) h.mail ≡ true) same
        (subst (λ calls. has_letter (CallLetter c call.actor (number_of call.actor k calls)) h.mail ≡ true) (sym is.calls) was)

module _ (casts : List ActorSpec) (deeds : List (Site × Action)) (h : History) (keeps : Keeps casts deeds h) where
  abbrev slots : List SlotView
  slots = keeps.world.slots

  abbrev owners : List OwnerView
  owners = keeps.world.network.owners

  -- a letter of the mail that an actor takes in
  delivers : (deed : Site × Action) (i : ℕ) (letter : Letter) (m : MailEntry) (here : Lives h keeps.world.slots (entry_actor m)) (arrival : Arrival)
      (next : ActorView) → IsEventOf h deed (Deliver i) → IsByNamed casts deed → slice_get h.mail i ≡ Some letter → mail_entry h letter ≡ Some m →
      HasArrived keeps.world.network.owners m arrival here.live next → IsInbox next.inbox.lanes next.inbox.held → ((c : ℕ) → action_at (Caller c) deed ≡ None) →
      IsNoEnd deed → (has_letter letter (add_event h (Deliver i)).arrived ≡ true → HasLeft casts (deeds ++ deed ∷ []) (add_event h (Deliver i)) deed) →
      GoesOn casts deeds h deed
  delivers deed i letter m here arrival next is named at carries arrived inbox no_change no_end left =
      let there : slice_get keeps.world.network.mail i ≡ Some m = keeps.reached.refines.mail i ∙ ap (λ o. option_and_then (mail_entry h) o) at ∙ carries in
      let came : has_letter letter (and_also h.arrived (slice_get h.mail i)) ≡ true =
      ap (λ o. has_letter letter (and_also h.arrived o)) at ∙ has_last letter h.arrived in
      go_on casts deeds h deed (Deliver i) (Arrived arrival)
      (record { network = keeps.world.network; slots = slice_set slots (entry_actor m) (Runs next) }) keeps is named
      (deliver_follows h i m (Runs next) (Ok (Arrived arrival)) keeps.lawful keeps.reached.refines there here.at arrived)
      (λ d other. keeps.reached.owners d other ∙ ap (λ o. Some o) (sym (owner_same casts d deeds deed (no_change d))))
      (inboxes_set slots (entry_actor m) (Runs next) here.at inbox keeps.reached.inboxes) keeps.reached.room
      (actors_stay (add_event h (Deliver i)) no_end refl refl refl keeps.actors) (left came)

  -- the running actor's inbox is as any inbox is
  inbox_of : (a : ℕ) (here : Lives h keeps.world.slots a) → IsInbox here.live.inbox.lanes here.live.inbox.held
  inbox_of a here = subst HasInbox here.at (keeps.reached.inboxes a)

  pub took_call : (a : ℕ) (packet : Packet) → has_ended_in (actions_of (Actor a) deeds) ≡ false → IsSentCall casts deeds a packet →
      GoesOn casts deeds h (Actor a, CallTaken packet)
  took_call a packet living r =
      let was = keeps.left (Caller packet.caller, Sent packet.future) r.sent in
      let is = owner_of casts deeds h packet.caller keeps was.named in
      let has : has_letter (CallLetter packet.caller a packet.number) h.mail ≡ true =
      subst (λ x. has_letter (CallLetter packet.caller x packet.number) h.mail ≡ true) r.to (sent_letter h packet.future packet is was.sent r.is) in
      let letter : Letter = CallLetter packet.caller a packet.number in let place = letter_place letter h.mail has in
      let sound : IsSoundLetter h letter = All_at (IsSoundLetter h) h.mail place.0 keeps.lawful.sound.letters.mail place.1 in
      let named : names packet.caller (cast_of a h) ≡ true = All_at (IsNamedLetter h) h.mail place.0 keeps.lawful.named.mail place.1 in
      let here =
      lives casts deeds h a keeps (ap (λ o. is_some o) (sym (cast_is casts h a keeps.casts_are)) ∙ some_cast packet.caller (cast_of a h) named) living in
      let call = call_key packet.caller a packet.number sound.0 in
      let carries : mail_entry h letter ≡ Some (CallEntry call) = ap (option_map (λ one. CallEntry (call_key packet.caller a packet.number one))) sound.1 in
      let taken = takes_call owners call here.live (inbox_of a here) in
      delivers (Actor a, CallTaken packet) place.0 letter (CallEntry call) here taken.arrival taken.next
      (place.0, refl, place.1) tt place.1 carries taken.taken taken.inbox
      (λ c. refl) (by_actor a (CallTaken packet) refl refl refl)
      (λ came. record {
        to = r.to;
        named = was.named;
        known = subst (λ o. is_known_at o packet.future ≡ true) (sym (owner_same casts packet.caller deeds (Actor a, CallTaken packet) refl)) was.known;
        is = subst (λ o. packet_at o packet.future ≡ Some packet) (sym (owner_same casts packet.caller deeds (Actor a, CallTaken packet) refl)) r.is;
        came = came;
        listed = ap (names packet.caller) (sym (cast_is casts h a keeps.casts_are)) ∙ named;
      })

  pub took_note : (a : ℕ) (note : ReleaseNote) → has_ended_in (actions_of (Actor a) deeds) ≡ false → IsLastNote casts deeds a note →
      GoesOn casts deeds h (Actor a, NoteTaken note)
  took_note a note living r =
      let is = owner_of casts deeds h note.caller keeps r.named in
      let none : copies_of note.caller a h ≡ Some 0 = sym (is.copies a) ∙ r.gone in
      let counts : length (calls_to a (calls_of note.caller h)) ≡ note.after =
      ap (λ calls. length (calls_to a calls)) (sym is.calls) ∙ sym r.counts in
      let letter : Letter = NoteLetter note.caller a note.after in
      let has : has_letter letter h.mail ≡ true = subst (λ n. has_letter (NoteLetter note.caller a n) h.mail ≡ true) counts (keeps.noted note.caller a none) in
      let place = letter_place letter h.mail has in
      let named : names note.caller (cast_of a h) ≡ true = All_at (IsNamedLetter h) h.mail place.0 keeps.lawful.named.mail place.1 in
      let here =
      lives casts deeds h a keeps (ap (λ o. is_some o) (sym (cast_is casts h a keeps.casts_are)) ∙ some_cast note.caller (cast_of a h) named) living in
      let carried : ReleaseNote = record { caller = note.caller; actor = a; after = note.after } in
      let taken = takes_note here.live carried (inbox_of a here) in
      delivers (Actor a, NoteTaken note) place.0 letter (NoteEntry carried) here taken.arrival taken.next
      (place.0, refl, place.1) tt place.1 refl taken.noted taken.inbox
      (λ c. refl) (by_actor a (NoteTaken note) refl refl refl) (λ came. came)
