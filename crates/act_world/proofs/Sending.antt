-- A call that its caller sends.
use Rattle.act_world.proofs.Common.{◌≡◌, ◌≢◌, ℕ, ◌+◌, ◌<◌, Bool, true, false, List, [], ◌∷◌, ◌++◌, length, Some, None, inl, inr, refl, ap, sym, ◌∙◌, subst}
use Rattle.act_world.proofs.Common.{arith, Ok, Err, length-append, length-set, get_or, Option, Result, IfOk, OnErr, ◌==◌, ◌||◌, slice_get, slice_set, position}
use Rattle.act_world.proofs.Common.{option_map, unwrap_or, or-true, or-false, eq-eqb, ne_eqb, eqb_tells, slice_get_within, slice_get-get_or, Send, Submission}
use Rattle.act_world.proofs.Common.{Letter, Mail, SendRefusal, Sending, calls_to, number_of, send_refusal, History, is_caller, calls_of, kept_of, has_letter}
use Rattle.act_world.proofs.Common.{is_letter, Outcome, did, refusal_of, outcome_of, add_event, after, and_also, call_letter, was_sent, Grows, added_grows}
use Rattle.act_world.proofs.Common.{calls_to-number, letter_is, kept_of-same, Call, OwnerView, is_sent, sending_refusal, numbered_call, address_at, with_sent}
use Rattle.act_world.proofs.Common.{CallKey, MailEntry, NetworkView, is_owner, SlotView, WorldView, StepsThere, IsOwnerOf, mail_entry, Refines, NoMemory}
use Rattle.act_world.proofs.Common.{CallLetter, CallEntry, is_letter-same, get_set-same, get_set-other}
use Rattle.act_world.proofs.Changes.{refused_follows, accepted_follows}
use Rattle.act_world.proofs.Stepping.{refused_there, wanting_there}
use Rattle.act_world.proofs.Lawful.{IsLawful, has_letter-last}
use Rattle.act_world.proofs.Frames.{SameCaller, owners_change, owner_here, mail_stays, replies_stay, go_together, stages_stay}

-- ---- the refusals

-- the caller at its place
pub record SeesOwner (network : NetworkView) (c place : ℕ) (owner : OwnerView) : Type 0 where
  pub place_is : position (is_owner c) network.owners ≡ Some place
  pub owner_is : owner ≡ get_or network.owners place owner

-- the caller that is seen at its place is one of the history's, and has what the history tells of it
pub seen_owner : (h : History) {network : NetworkView} (slots : List SlotView) (c : ℕ) {place : ℕ} {owner : OwnerView} →
    Refines h (record { network = network; slots = slots }) → SeesOwner network c place owner → (is_caller c h ≡ true) × IsOwnerOf h c owner
seen_owner h {network} slots c {place} {owner} refines sees =
    subst (λ o. (is_caller c h ≡ true) × IsOwnerOf h c o) (sym sees.owner_is) (owner_here h network.owners c owner refines.owners sees.place_is)

-- the caller refuses what the history does
send_refuses : (h : History) (c k : ℕ) (owner : OwnerView) → is_caller c h ≡ true → IsOwnerOf h c owner →
    refusal_of h (Send c k) ≡ option_map Sending (sending_refusal owner k)
send_refuses h c k owner caller is = rw caller (ap (λ refusal. option_map Sending refusal) (sym same))
  where
    same : sending_refusal owner k ≡ send_refusal (kept_of c h) k (was_sent c k (slice_get (calls_of c h) k) h) (slice_get (calls_of c h) k)
    same =
        ap (λ kept. send_refusal kept k (is_sent owner k) (slice_get owner.calls k)) is.kept
        ∙ ap (λ sent. send_refusal (kept_of c h) k sent (slice_get owner.calls k)) (is.sent k)
        ∙ ap (λ calls. send_refusal (kept_of c h) k (was_sent c k (slice_get (calls_of c h) k) h) (slice_get calls k)) is.calls

pub send_refused : {h : History} (network : NetworkView) (slots : List SlotView) (c k place : ℕ) (owner : OwnerView) {refusal : SendRefusal} →
    Refines h (record { network = network; slots = slots }) → SeesOwner network c place owner → sending_refusal owner k ≡ Some refusal →
    (Err (Sending refusal) ≡ outcome_of h (Send c k)) × Refines (after h (Send c k)) (record { network = network; slots = slots })
send_refused {h} network slots c k place owner {refusal} refines sees e =
    let here = seen_owner h slots c refines sees in
    refused_follows (Send c k) (send_refuses h c k owner here.0 here.1 ∙ ap (λ o. option_map Sending o) e) refines

pub send_unrefused : {h : History} {network : NetworkView} (slots : List SlotView) (c k place : ℕ) (owner : OwnerView) →
    Refines h (record { network = network; slots = slots }) → SeesOwner network c place owner → sending_refusal owner k ≡ None → refusal_of h (Send c k) ≡ None
send_unrefused {h} {network} slots c k place owner refines sees e =
    let here = seen_owner h slots c refines sees in send_refuses h c k owner here.0 here.1 ∙ ap (λ o. option_map Sending o) e

-- there is no room for the letter, and the caller says why it isn't sent
pub unsent : (network : NetworkView) (c k place : ℕ) (owner : OwnerView) (asked : Result Outcome NoMemory) → SeesOwner network c place owner →
    IfOk asked (λ told. (refusal : SendRefusal) × (told ≡ Err (Sending refusal)) × (sending_refusal owner k ≡ Some refusal)) →
    OnErr asked (sending_refusal owner k ≡ None) → StepsThere (Send c k) network network asked
unsent network c k place owner (Ok told) sees refused memory = rw refused.1 (refused_there (Send c k) network network (Sending refused.0) refl refl
    (λ slots casts before reached. send_refused network slots c k place owner reached sees refused.2))
unsent network c k place owner (Err error) sees refused memory = wanting_there (Send c k) network network (Err error) (λ e. Unit {0}) tt refl
    (λ slots casts before reached. send_unrefused slots c k place owner reached sees memory) (λ slots casts before reached. refl)

-- ---- one letter more

abbrev sent_more : History → Letter → History
sent_more h letter = record h { mail = h.mail ++ letter ∷ [] }

-- two calls of one caller have different letters
letters_differ : (c j k : ℕ) (calls : List Submission) (other call : Submission) → slice_get calls j ≡ Some other → slice_get calls k ≡ Some call → k ≢ j →
    is_letter (CallLetter c other.actor (number_of other.actor j calls)) (CallLetter c call.actor (number_of call.actor k calls)) ≡ false
letters_differ c j k calls other call at_j at_k apart =
    go (is_letter (CallLetter c other.actor (number_of other.actor j calls)) (CallLetter c call.actor (number_of call.actor k calls))) refl
  where
    go : (b : Bool) → is_letter (CallLetter c other.actor (number_of other.actor j calls)) (CallLetter c call.actor (number_of call.actor k calls)) ≡ b →
        b ≡ false
    go false e = refl
    go true e =
        let same = letter_is (CallLetter c other.actor (number_of other.actor j calls)) (CallLetter c call.actor (number_of call.actor k calls)) e in
        let actor : other.actor ≡ call.actor = cc in
        let number : number_of other.actor j calls ≡ number_of call.actor k calls = cc in
        let one : slice_get (calls_to other.actor calls) (number_of other.actor j calls) ≡ Some (j, other) =
        calls_to-number other.actor calls j at_j (eq-eqb other.actor other.actor refl) in
        let two : slice_get (calls_to call.actor calls) (number_of call.actor k calls) ≡ Some (k, call) =
        calls_to-number call.actor calls k at_k (eq-eqb call.actor call.actor refl) in
        let three : slice_get (calls_to other.actor calls) (number_of other.actor j calls) ≡ Some (k, call) =
        ap (slice_get (calls_to other.actor calls)) number ∙ ap (λ a. slice_get (calls_to a calls) (number_of call.actor k calls)) actor ∙ two in
        let pair : ◌≡◌ {A = ℕ × Submission} (j, other) (k, call) = let both : ◌≡◌ {A = Option (ℕ × Submission)} (Some (j, other)) (Some (k, call)) =
        sym one ∙ three in cc in
        absurd (apart (sym (ap (λ (p : ℕ × Submission). p.0) pair)))

-- the marks of other callers stay
other_marks : (h : History) (c d : ℕ) (a n : ℕ) → c ≢ d → (j : ℕ) (call : Option Submission) →
    was_sent d j call (sent_more h (CallLetter c a n)) ≡ was_sent d j call h
other_marks h c d a n apart j None = refl
other_marks h c d a n apart j (Some call) =
    let differs : (d == c) ≡ false = ne_eqb d c (λ same. apart (sym same)) in
    has_letter-last (call_letter d j call h) (CallLetter c a n) h.mail ∙ rw differs (or-false (has_letter (call_letter d j call h) h.mail))

-- the marks of the caller's other calls stay
call_marks : (h : History) (c k : ℕ) (call : Submission) → slice_get (calls_of c h) k ≡ Some call → (j : ℕ) → k ≢ j → (other : Option Submission) →
    slice_get (calls_of c h) j ≡ other → was_sent c j other (sent_more h (call_letter c k call h)) ≡ was_sent c j other h
call_marks h c k call at j apart None at_j = refl
call_marks h c k call at j apart (Some other) at_j =
    has_letter-last (call_letter c j other h) (call_letter c k call h) h.mail
    ∙ ap (λ b. has_letter (call_letter c j other h) h.mail || b) (letters_differ c j k (calls_of c h) other call at_j at apart)
    ∙ or-false (has_letter (call_letter c j other h) h.mail)

-- ---- the caller

marked : (h : History) (c k : ℕ) (call : Submission) (owner : OwnerView) → IsOwnerOf h c owner → slice_get (calls_of c h) k ≡ Some call → (j : ℕ) →
    is_sent (with_sent owner k) j ≡ was_sent c j (slice_get (calls_of c h) j) (sent_more h (call_letter c k call h))
marked h c k call owner is at j = elim (eqb_tells k j) [
  | inl t ↦ subst (λ x. is_sent (with_sent owner k) x ≡ was_sent c x (slice_get (calls_of c h) x) (sent_more h (call_letter c k call h))) t.1 itself
  | inr f ↦ ap (λ o. unwrap_or o false) (get_set-other owner.sent k j true f.1) ∙ is.sent j ∙
      sym (call_marks h c k call at j f.1 (slice_get (calls_of c h) j) refl)
]
  where
    within : k < length owner.sent
    within = let below = slice_get_within (calls_of c h) k call at in let marks = is.marks in omega arith

    written : slice_get (slice_set owner.sent k true) k ≡ Some true
    written = get_set-same owner.sent k true (slice_get-get_or owner.sent k false within)

    has : was_sent c k (Some call) (sent_more h (call_letter c k call h)) ≡ true
    has = has_letter-last (call_letter c k call h) (call_letter c k call h) h.mail ∙ ap (λ b. has_letter (call_letter c k call h) h.mail || b)
        (is_letter-same (call_letter c k call h)) ∙ or-true (has_letter (call_letter c k call h) h.mail)

    itself : is_sent (with_sent owner k) k ≡ was_sent c k (slice_get (calls_of c h) k) (sent_more h (call_letter c k call h))
    itself = ap (λ o. unwrap_or o false) written ∙ sym has ∙ ap (λ o. was_sent c k o (sent_more h (call_letter c k call h))) (sym at)

sender : (h : History) (c k : ℕ) (call : Submission) (owner : OwnerView) → IsLawful h → Grows h (sent_more h (call_letter c k call h)) → IsOwnerOf h c owner →
    slice_get (calls_of c h) k ≡ Some call → IsOwnerOf (sent_more h (call_letter c k call h)) c (with_sent owner k)
sender h c k call owner lawful grows is at = record {
  id = is.id;
  copies = is.copies;
  limits = is.limits;
  given = is.given;
  calls = is.calls;
  marks = length-set owner.sent k true ∙ is.marks;
  sent = marked h c k call owner is at;
  kept = is.kept ∙ sym (kept_of-same c grows lawful.sound.posts refl refl);
  deaths = is.deaths;
}

others : (h : History) (c a n d : ℕ) → IsLawful h → Grows h (sent_more h (CallLetter c a n)) → c ≢ d → SameCaller d h (sent_more h (CallLetter c a n))
others h c a n d lawful grows apart = record {
  calls = refl;
  copies = λ b. refl;
  sent = λ j. other_marks h c d a n apart j (slice_get (calls_of d h) j);
  kept = kept_of-same d grows lawful.sound.posts refl refl;
  deaths = λ b. refl;
}

-- ---- the letter

-- what a letter carries of the call that has this actor and this number
abbrev noted : ℕ → ℕ → ℕ × ℕ → CallKey
noted c k address = record { caller = c; actor = address.0; number = address.1; future = k }

-- the actor and the number that the history has of a call
abbrev address_in : History → ℕ → ℕ → Submission → ℕ × ℕ
address_in h c k call = (call.actor, number_of call.actor k (calls_of c h))

carries : (h : History) (c k : ℕ) (call : Submission) → slice_get (calls_of c h) k ≡ Some call
    → mail_entry (sent_more h (call_letter c k call h)) (call_letter c k call h) ≡ Some (CallEntry (noted c k (address_in h c k call)))
carries h c k call at = rw (calls_to-number call.actor (calls_of c h) k at (eq-eqb call.actor call.actor refl)) refl

-- ---- the world

sent_ties : (h : History) (network : NetworkView) (slots : List SlotView) (c k place : ℕ) (owner : OwnerView) (call : Submission) → IsLawful h →
    Grows h (sent_more h (call_letter c k call h)) → Refines h (record { network = network; slots = slots }) → SeesOwner network c place owner →
    slice_get (calls_of c h) k ≡ Some call → Refines (sent_more h (call_letter c k call h)) (record {
      network =
          record network
          { owners = slice_set network.owners place (with_sent owner k); mail = network.mail ++ CallEntry (noted c k (address_in h c k call)) ∷ [] };
      slots = slots;
    })
sent_ties h network slots c k place owner call lawful grows refines sees at =
    let letter = call_letter c k call h in let g = sent_more h letter in let is = (seen_owner h slots c refines sees).1 in
    record {
      owners = owners_change h network.owners refl refines.owners sees.place_is (sender h c k call owner lawful grows is at)
          (λ d apart. others h c call.actor (number_of call.actor k (calls_of c h)) d lawful grows apart);
      actors = stages_stay h g slots lawful grows refl refl refl refl refines.actors;
      mail =
          go_together (mail_entry g) network.mail h.mail letter (carries h c k call at) refines.mail_count (mail_stays network.mail lawful grows refines.mail);
      mail_count = length-append network.mail (CallEntry (noted c k (address_in h c k call)) ∷ []) ∙ ap (λ n. n + 1) refines.mail_count ∙
          sym (length-append h.mail (letter ∷ []));
      replies = replies_stay h g network.replies lawful grows refines.replies;
      reply_count = refines.reply_count;
      asked = refines.asked;
    }

-- where a caller sends a call unrefused, what is told and the world with its letter and mark follow the rules
pub send_follows : {h : History} (network : NetworkView) (slots : List SlotView) (c k place i : ℕ) (owner new : OwnerView) {address : ℕ × ℕ}
    (mail : List MailEntry) → IsLawful h → Refines h (record { network = network; slots = slots }) → SeesOwner network c place owner →
    sending_refusal owner k ≡ None → address_at owner.calls k ≡ Some address → new ≡ with_sent owner k → i ≡ length network.mail →
    mail ≡ network.mail ++ CallEntry (noted c k address) ∷ [] → (Ok (Mail i) ≡ outcome_of h (Send c k)) × Refines (after h (Send c k))
    (record { network = record network { owners = slice_set network.owners place new; mail = mail }; slots = slots })
send_follows {h} network slots c k place i owner new {address} mail lawful refines sees unrefused address_is new_is i_is mail_is =
    rw (i_is ∙ refines.mail_count, new_is, mail_is) (accepted_follows h (Send c k) (did h (Send c k))
    (send_unrefused slots c k place owner refines sees unrefused) refl (go (slice_get (calls_of c h) k) refl (sym found ∙ address_is)))
  where
    numbered : Option Submission → Option (ℕ × ℕ)
    numbered found = option_map (λ (call : Call). (call.actor, call.number)) (option_map (numbered_call (calls_of c h) k) found)

    found : address_at owner.calls k ≡ address_at (calls_of c h) k
    found = ap (λ calls. address_at calls k) (seen_owner h slots c refines sees).1.calls

    world : ℕ × ℕ → WorldView
    world there = record {
      network = record network { owners = slice_set network.owners place (with_sent owner k); mail = network.mail ++ CallEntry (noted c k there) ∷ [] };
      slots = slots;
    }

    go : (o : Option Submission) → slice_get (calls_of c h) k ≡ o → numbered o ≡ Some address → Refines (add_event h (Send c k)) (world address)
    go None at e = cc
    go (Some call) at e =
        let same : address_in h c k call ≡ address = cc in
        let more : add_event h (Send c k) ≡ sent_more h (call_letter c k call h) =
        ap (λ o. record h { mail = and_also h.mail (option_map (λ one. call_letter c k one h) o) }) at in
        let grows : Grows h (sent_more h (call_letter c k call h)) = subst (Grows h) more (added_grows h (Send c k)) in
        subst (λ g. Refines g (world address)) (sym more)
        (subst (λ there. Refines (sent_more h (call_letter c k call h)) (world there)) same
        (sent_ties h network slots c k place owner call lawful grows refines sees at))
