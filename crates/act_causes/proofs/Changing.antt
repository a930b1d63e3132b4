-- A caller that copies, releases, submits, sends, or asks a kill.
use Rattle.act_causes.proofs.Common.{◌≡◌, ℕ, ◌+◌, ◌<◌, ◌≤◌, Bool, true, false, cond, List, ◌∷◌, ◌++◌, length, Option, Some, None, Ok, All, inl, inr, refl, ap}
use Rattle.act_causes.proofs.Common.{sym, ◌∙◌, subst, arith, ◌==◌, find, slice_get, slice_set, unwrap_or, is_some, nat_lt, list_all, eqb-true, eqb_tells}
use Rattle.act_causes.proofs.Common.{get_or-set_same, length-set, slice_get_within, slice_get-get_or, Arg, Method, KillNote, Submit, Copy, Release, Send}
use Rattle.act_causes.proofs.Common.{AskKill, Submission, Future, Copies, Mail, Asked, NoActor, NoHandle, NotReady, needs, number_of, is_known, copies_held}
use Rattle.act_causes.proofs.Common.{copy_refusal, handle_refusal, send_refusal, ActorSpec, History, names, add_event, needs-none, find-tells, copies_in}
use Rattle.act_causes.proofs.Common.{or_else, with_copy, without_copy, OwnerView, is_sent, address_at, refusal_to_submit, sending_refusal, release_note}
use Rattle.act_causes.proofs.Common.{with_handles, with_submission, with_sent, Action, Copied, Released, Submitted, Sent, after_action, is_known_at, cast_at}
use Rattle.act_causes.proofs.Common.{NetworkView, is_owner, SlotView, ask_follows, copy_follows, contains-last, get_set-same, release_follows, last_follows}
use Rattle.act_causes.proofs.Common.{is_named, send_follows, submit_follows, Site, IsNamed, owner_by, Caller, KillAsked, [], CallEntry, NoteEntry}
use Rattle.act_causes.proofs.Made.{owner_changed, owner_other, owner_asked, owner_id, by_caller, actors_stay}
use Rattle.act_causes.proofs.Places.{IsFoundAt, found_at, written_here, written_other}
use Rattle.act_causes.proofs.Keeping.{Keeps, GoesOn, go_on, cast_is, owner_of}

-- ---- actors of a caller

-- an actor whose cast names somebody has one of the actors' numbers
pub actor_small : (casts : List ActorSpec) (c a : ℕ) → All (λ cast. cast.actor ≤ 8) casts → names c (cast_at a casts) ≡ true → a ≤ 8
actor_small casts c a small named = go (cast_at a casts) refl named
  where
    go : (o : Option ActorSpec) → cast_at a casts ≡ o → names c o ≡ true → a ≤ 8
    go None e is = cc
    go (Some cast) e is =
        let told = find-tells (λ (cast : ActorSpec). cast.actor ≤ 8) (λ (cast : ActorSpec). cast.actor == a) casts small e in
        let same : cast.actor ≡ a = eqb-true cast.actor a told.1 in subst (λ n. n ≤ 8) same told.0

-- a caller that may let a handle go has one of the actor, whose cast names it
pub holder_named : (casts : List ActorSpec) (deeds : List (Site × Action)) (h : History) (c a : ℕ) → Keeps casts deeds h → IsNamed casts c →
    is_some (copies_in a (owner_by casts c deeds).handles) ≡ true → names c (cast_at a casts) ≡ true
holder_named casts deeds h c a keeps named some =
    ap (names c) (sym (cast_is casts h a keeps.casts_are)) ∙ sym (is_named h c a (owner_by casts c deeds) (owner_of casts deeds h c keeps named)) ∙ some

handle_there : (copies : Option ℕ) → handle_refusal copies ≡ None → is_some copies ≡ true
handle_there copies e = (needs-none (is_some copies) NoActor (needs (nat_lt 0 (copies_held copies)) NoHandle None) e).0

-- ---- a caller that changes

module _ (casts : List ActorSpec) (deeds : List (Site × Action)) (h : History) (c : ℕ) (keeps : Keeps casts deeds h) (named : IsNamed casts c) where
  pub caller_at : IsFoundAt (is_owner c) keeps.world.network.owners (owner_by casts c deeds)
  caller_at = found_at (is_owner c) keeps.world.network.owners (owner_by casts c deeds) (keeps.reached.owners c named)

  -- the callers after a action of this one
  pub owners_after : (action : Action) (new : OwnerView) → new ≡ after_action (owner_by casts c deeds) action → (d : ℕ) → IsNamed casts d →
      find (is_owner d) (slice_set keeps.world.network.owners caller_at.place new) ≡ Some (owner_by casts d (deeds ++ (Caller c, action) ∷ []))
  owners_after action new new_is d other = elim (eqb_tells c d) [
    | inl t ↦ subst (λ x. find (is_owner x) (slice_set keeps.world.network.owners caller_at.place new) ≡ Some (owner_by casts x (deeds ++ (Caller c, action) ∷
        []))) t.1 (written_here keeps.world.network.owners c (owner_by casts c deeds) new caller_at id ∙ ap (λ o. Some o) changed)
    | inr f ↦ written_other keeps.world.network.owners c (owner_by casts c deeds) new caller_at id d f.1 ∙ keeps.reached.owners d other
        ∙ ap (λ o. Some o) (sym (owner_other casts c d deeds action f.1))
  ]
    where
      changed : new ≡ owner_by casts c (deeds ++ (Caller c, action) ∷ [])
      changed = new_is ∙ sym (owner_changed casts c deeds action)

      id : new.id ≡ c
      id = ap (λ (o : OwnerView). o.id) changed ∙ owner_id casts c (deeds ++ (Caller c, action) ∷ [])

  abbrev owner : OwnerView
  owner = owner_by casts c deeds

  abbrev network : NetworkView
  network = keeps.world.network

  abbrev slots : List SlotView
  slots = keeps.world.slots

  pub copied : (a : ℕ) → copy_refusal (copies_in a (owner_by casts c deeds).handles) ≡ None → GoesOn casts deeds h (Caller c, Copied a)
  copied a free =
      let copies = copies_held (copies_in a owner.handles) + 1 in let new = with_handles owner (with_copy a owner.handles) in
      let told : Ok copies ≡ or_else (copy_refusal (copies_in a owner.handles)) copies = ap (λ r. or_else r copies) (sym free) in
      go_on casts deeds h (Caller c, Copied a) (Copy c a) (Copies copies)
      (record { network = record network { owners = slice_set network.owners caller_at.place new }; slots = slots }) keeps refl named
      (copy_follows network slots c a new keeps.lawful keeps.reached.refines caller_at.at caller_at.is told refl)
      (owners_after (Copied a) new refl) keeps.reached.inboxes keeps.reached.room
      (actors_stay (add_event h (Copy c a)) (by_caller c (Copied a)) refl refl refl keeps.actors) tt

  pub submitted : (a : ℕ) (method : Method) (args : List Arg) → refusal_to_submit (owner_by casts c deeds) a args ≡ None →
      GoesOn casts deeds h (Caller c, Submitted a method args)
  submitted a method args free =
      let new = with_submission owner a method args in
      go_on casts deeds h (Caller c, Submitted a method args) (Submit c a method args) (Future c (length owner.calls))
      (record { network = record network { owners = slice_set network.owners caller_at.place new }; slots = slots }) keeps refl named
      (submit_follows network slots c a (length owner.calls) method args new keeps.lawful keeps.reached.refines caller_at.at caller_at.is free refl refl)
      (owners_after (Submitted a method args) new refl) keeps.reached.inboxes keeps.reached.room
      (actors_stay (add_event h (Submit c a method args)) (by_caller c (Submitted a method args)) refl refl refl keeps.actors) tt

  -- a release tells of the last copy, or of none
  release_told : (a : ℕ) (last : Bool) → handle_refusal (copies_in a (owner_by casts c deeds).handles) ≡ None → (copies_held (copies_in a (owner_by casts c
      deeds).handles) == 1) ≡ last → Ok (cond last (Some (release_note (owner_by casts c deeds) a)) None) ≡ or_else (handle_refusal (copies_in a (owner_by casts
      c deeds).handles)) (cond (copies_held (copies_in a (owner_by casts c deeds).handles) == 1) (Some (release_note (owner_by casts c deeds) a)) None)
  release_told a last free is =
      ap (λ r. or_else r (cond last (Some (release_note owner a)) None)) (sym free)
      ∙ ap (λ b. or_else (handle_refusal (copies_in a owner.handles)) (cond b (Some (release_note owner a)) None)) (sym is)

  pub released : (a : ℕ) → handle_refusal (copies_in a (owner_by casts c deeds).handles) ≡ None → GoesOn casts deeds h (Caller c, Released a)
  released a free = go (copies_held (copies_in a owner.handles) == 1) refl
    where
      new : OwnerView
      new = with_handles owner (without_copy a owner.handles)

      go : (last : Bool) → (copies_held (copies_in a (owner_by casts c deeds).handles) == 1) ≡ last → GoesOn casts deeds h (Caller c, Released a)
      go true is =
          go_on casts deeds h (Caller c, Released a) (Release c a) (Mail (length network.mail))
          (record {
            network = record network { owners = slice_set network.owners caller_at.place new; mail = network.mail ++ NoteEntry (release_note owner a) ∷ [] };
            slots = slots;
          }) keeps refl named
          (last_follows network (network.mail ++ NoteEntry (release_note owner a) ∷ []) slots c a (length network.mail) (release_note owner a) new
          keeps.lawful keeps.reached.refines caller_at.at caller_at.is (release_told a true free is) refl refl refl)
          (owners_after (Released a) new refl) keeps.reached.inboxes keeps.reached.room
          (actors_stay (add_event h (Release c a)) (by_caller c (Released a)) refl refl refl keeps.actors) tt
      go false is =
          go_on casts deeds h (Caller c, Released a) (Release c a) (Copies (copies_held (copies_in a new.handles)))
          (record { network = record network { owners = slice_set network.owners caller_at.place new }; slots = slots }) keeps refl named
          (release_follows network slots c a (copies_held (copies_in a new.handles)) new keeps.lawful keeps.reached.refines caller_at.at caller_at.is
          (release_told a false free is) refl (sym (get_or-set_same network.owners caller_at.place new new caller_at.below)) refl)
          (owners_after (Released a) new refl) keeps.reached.inboxes keeps.reached.room
          (actors_stay (add_event h (Release c a)) (by_caller c (Released a)) refl refl refl keeps.actors) tt

  pub sent : (k : ℕ) → sending_refusal (owner_by casts c deeds) k ≡ None → GoesOn casts deeds h (Caller c, Sent k)
  sent k free = go (slice_get owner.calls k) refl free
    where
      new : OwnerView
      new = with_sent owner k

      go : (o : Option Submission) → slice_get (owner_by casts c deeds).calls k ≡ o →
          send_refusal (owner_by casts c deeds).kept k (is_sent (owner_by casts c deeds) k) o ≡ None → GoesOn casts deeds h (Caller c, Sent k)
      go None at e = cc
      go (Some call) at e =
          let is = owner_of casts deeds h c keeps named in
          let address : ℕ × ℕ = (call.actor, number_of call.actor k owner.calls) in
          let address_is : address_at owner.calls k ≡ Some address = rw at refl in
          let known : is_known_at owner k ≡ true = rw at (needs-none (list_all (is_known owner.kept) call.args) NotReady _ e).0 in
          let below : k < length owner.calls = slice_get_within owner.calls k call at in
          let marks : length owner.sent ≡ length owner.calls = is.marks ∙ ap (λ calls. length calls) (sym is.calls) in
          let within : k < length owner.sent = omega arith in
          let marked : is_sent new k ≡ true = ap (λ o. unwrap_or o false) (get_set-same owner.sent k true (slice_get-get_or owner.sent k false within)) in
          let after_is : owner_by casts c (deeds ++ (Caller c, Sent k) ∷ []) ≡ new = owner_changed casts c deeds (Sent k) in
          go_on casts deeds h (Caller c, Sent k) (Send c k) (Mail (length network.mail))
          (record {
            network = record network {
              owners = slice_set network.owners caller_at.place new;
              mail = network.mail ++ CallEntry (record { caller = c; actor = address.0; number = address.1; future = k }) ∷ [];
            };
            slots = slots;
          }) keeps refl named
          (send_follows network slots c k caller_at.place (length network.mail) owner new
          (network.mail ++ CallEntry (record { caller = c; actor = address.0; number = address.1; future = k }) ∷ []) keeps.lawful keeps.reached.refines
          (record { place_is = caller_at.at; owner_is = caller_at.is }) free address_is refl refl refl)
          (owners_after (Sent k) new refl) keeps.reached.inboxes keeps.reached.room
          (actors_stay (add_event h (Send c k)) (by_caller c (Sent k)) refl refl refl keeps.actors)
          (record {
            named = named;
            known = subst (λ o. is_known_at o k ≡ true) (sym after_is) known;
            sent = subst (λ o. is_sent o k ≡ true) (sym after_is) marked;
          })

  -- ---- a kill

  pub asked : (a : ℕ) → All (λ cast. cast.actor ≤ 8) casts → handle_refusal (copies_in a (owner_by casts c deeds).handles) ≡ None →
      GoesOn casts deeds h (Caller c, KillAsked a)
  asked a small free =
      let note : KillNote = record { caller = owner.id; actor = a } in
      let told : Ok note ≡ or_else (handle_refusal (copies_in a owner.handles)) note = ap (λ r. or_else r note) (sym free) in
      let here = holder_named casts deeds h c a keeps named (handle_there (copies_in a owner.handles) free) in
      let most : a ≤ 8 = actor_small casts c a small here in let room : 9 ≤ length network.asked = keeps.reached.room in
      let within : a < length network.asked = omega arith in
      let long : length (slice_set network.asked a true) ≡ length network.asked = length-set network.asked a true in
      go_on casts deeds h (Caller c, KillAsked a) (AskKill c a) Asked
      (record { network = record network { asked = slice_set network.asked a true }; slots = slots }) keeps refl named
      (ask_follows network slots c a keeps.lawful keeps.reached.refines caller_at.at caller_at.is told within)
      (λ d other. keeps.reached.owners d other ∙ ap (λ o. Some o) (sym (owner_asked casts c d a deeds))) keeps.reached.inboxes (omega arith)
      (actors_stay (add_event h (AskKill c a)) (by_caller c (KillAsked a)) refl refl refl keeps.actors)
      (here, contains-last a h.asked)
