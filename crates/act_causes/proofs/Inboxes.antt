-- An inbox that a letter comes to.
use Rattle.act_causes.proofs.Common.{◌≡◌, ◌≢◌, ℕ, zero, suc, ◌<◌, Bool, true, false, cond, List, [], ◌∷◌, Option, Some, None, inl, inr, refl, ap, sym, ◌∙◌}
use Rattle.act_causes.proofs.Common.{subst, ◌==◌, slice_index_or, eqb_tells, All-cons, Packet, ReleaseNote, Arrival, New, Repeat, Stranger, IsInbox, InboxView}
use Rattle.act_causes.proofs.Common.{arrival_of, with_held, new_tells, waits_holding, OwnerView, ActorView, arrival_at, note_arrival_at, CallKey, packet_in}
use Rattle.act_causes.proofs.Common.{named_as, HasTakenPacket, HasTakenCall, HasNoted}

-- ---- a call

-- the actor after a packet came
pub record Takes (live : ActorView) (packet : Packet) : Type 0 where
  pub arrival : Arrival
  pub next : ActorView
  pub taken : HasTakenPacket packet arrival live next
  pub inbox : IsInbox next.inbox.lanes next.inbox.held

-- what is new to an actor is new to its inbox
new_inside : (id : ℕ) (inbox : InboxView) (packet : Packet) → arrival_at id inbox packet ≡ New → arrival_of inbox packet ≡ New
new_inside id inbox packet e = go (packet.actor == id) e
  where
    go : (b : Bool) → cond b (arrival_of inbox packet) Stranger ≡ New → arrival_of inbox packet ≡ New
    go true e = e
    go false e = cc

holds_more : (inbox : InboxView) (packet : Packet) → arrival_of inbox packet ≡ New → IsInbox inbox.lanes inbox.held → IsInbox inbox.lanes (packet ∷ inbox.held)
holds_more inbox packet is_new sound = record {
  distinct = sound.distinct;
  few = sound.few;
  counted = sound.counted;
  numbered = All-cons (λ (each : Packet). each.number < 65536) packet inbox.held (new_tells inbox packet is_new).0 sound.numbered;
}

takes : (live : ActorView) (packet : Packet) (arrival : Arrival) → arrival_at live.id live.inbox packet ≡ arrival → IsInbox live.inbox.lanes live.inbox.held →
    Takes live packet
takes live packet New is sound =
    let is_new = new_inside live.id live.inbox packet is in
    record {
      arrival = New;
      next = record live { inbox = with_held packet live.inbox };
      taken = record { arrival_is = sym is; same = refl; taken = record { lanes = refl; notes = refl; waits = waits_holding live.inbox packet is_new } };
      inbox = holds_more live.inbox packet is_new sound;
    }
takes live packet Repeat is sound = record {
  arrival = Repeat;
  next = live;
  taken = record { arrival_is = sym is; same = refl; taken = record { lanes = refl; notes = refl; waits = λ c n. refl } };
  inbox = sound;
}
takes live packet Stranger is sound = record {
  arrival = Stranger;
  next = live;
  taken = record { arrival_is = sym is; same = refl; taken = record { lanes = refl; notes = refl; waits = λ c n. refl } };
  inbox = sound;
}

-- the actor after a call came, of which its caller makes the packet
pub record TakesCall (owners : List OwnerView) (call : CallKey) (live : ActorView) : Type 0 where
  pub arrival : Arrival
  pub next : ActorView
  pub taken : HasTakenCall owners call arrival live next
  pub inbox : IsInbox next.inbox.lanes next.inbox.held

pub takes_call : (owners : List OwnerView) (call : CallKey) (live : ActorView) → IsInbox live.inbox.lanes live.inbox.held → TakesCall owners call live
takes_call owners call live sound = go (packet_in owners call) refl
  where
    go : (o : Option Packet) → packet_in owners call ≡ o → TakesCall owners call live
    go None none = record { arrival = Repeat; next = live; taken = λ packet e. let bad : None ≡ Some packet = sym none ∙ e in cc; inbox = sound }
    go (Some found) is =
        let t = takes live (named_as call found) (arrival_at live.id live.inbox (named_as call found)) refl sound in
        record {
          arrival = t.arrival;
          next = t.next;
          taken = λ packet e.
              let both : Some found ≡ Some packet = sym is ∙ e in let same : found ≡ packet = cc in
              subst (λ p. HasTakenPacket (named_as call p) t.arrival live t.next) same t.taken;
          inbox = t.inbox;
        }

-- ---- a note

-- the notes with that of one caller
abbrev put : ℕ → ℕ → List (Option ℕ) → List (Option ℕ)
put zero n [] = Some n ∷ []
put zero n (x ∷ xs) = Some n ∷ xs
put (suc c) n [] = None ∷ put c n []
put (suc c) n (x ∷ xs) = x ∷ put c n xs

put_same : (c n : ℕ) (xs : List (Option ℕ)) → slice_index_or (put c n xs) c None ≡ Some n
put_same zero n [] = refl
put_same zero n (x ∷ xs) = refl
put_same (suc c) n [] = put_same c n []
put_same (suc c) n (x ∷ xs) = put_same c n xs

put_other : (c n d : ℕ) (xs : List (Option ℕ)) → d ≢ c → slice_index_or (put c n xs) d None ≡ slice_index_or xs d None
put_other zero n zero [] apart = absurd (apart refl)
put_other zero n zero (x ∷ xs) apart = absurd (apart refl)
put_other zero n (suc d) [] apart = refl
put_other zero n (suc d) (x ∷ xs) apart = refl
put_other (suc c) n zero [] apart = refl
put_other (suc c) n zero (x ∷ xs) apart = refl
put_other (suc c) n (suc d) [] apart = put_other c n d [] (λ same. apart (ap suc same))
put_other (suc c) n (suc d) (x ∷ xs) apart = put_other c n d xs (λ same. apart (ap suc same))

put_is : (c n d : ℕ) (xs : List (Option ℕ)) → slice_index_or (put c n xs) d None ≡ cond (d == c) (Some n) (slice_index_or xs d None)
put_is c n d xs = elim (eqb_tells d c) [
  | inl t ↦ ap (λ x. slice_index_or (put c n xs) x None) t.1 ∙ put_same c n xs ∙ ap (λ b. cond b (Some n) (slice_index_or xs d None)) (sym t.0)
  | inr f ↦ put_other c n d xs f.1 ∙ ap (λ b. cond b (Some n) (slice_index_or xs d None)) (sym f.0)
]

-- the actor after a note came
pub record TakesNote (live : ActorView) (note : ReleaseNote) : Type 0 where
  pub arrival : Arrival
  pub next : ActorView
  pub noted : HasNoted note arrival live next
  pub inbox : IsInbox next.inbox.lanes next.inbox.held

notes : (live : ActorView) (note : ReleaseNote) (arrival : Arrival) → note_arrival_at live.id live.inbox note ≡ arrival →
    IsInbox live.inbox.lanes live.inbox.held → TakesNote live note
notes live note New is sound = record {
  arrival = New;
  next = record live { inbox = record live.inbox { notes = put note.caller note.after live.inbox.notes } };
  noted =
      record { arrival_is = sym is; same = refl; noted = record { lanes = refl; held = refl; notes = λ c. put_is note.caller note.after c live.inbox.notes } };
  inbox = sound;
}
notes live note Repeat is sound = record {
  arrival = Repeat;
  next = live;
  noted = record { arrival_is = sym is; same = refl; noted = record { lanes = refl; held = refl; notes = λ c. refl } };
  inbox = sound;
}
notes live note Stranger is sound = record {
  arrival = Stranger;
  next = live;
  noted = record { arrival_is = sym is; same = refl; noted = record { lanes = refl; held = refl; notes = λ c. refl } };
  inbox = sound;
}

pub takes_note : (live : ActorView) (note : ReleaseNote) → IsInbox live.inbox.lanes live.inbox.held → TakesNote live note
takes_note live note sound = notes live note (note_arrival_at live.id live.inbox note) refl sound
