-- A handle that is copied.
use Rattle.act_world.proofs.Common.{◌≡◌, ◌≢◌, ℕ, ◌+◌, ◌-◌, ◌<◌, Bool, true, false, cond, List, Some, None, Ok, Err, inl, inr, refl, ap, sym, ◌∙◌, subst, arith}
use Rattle.act_world.proofs.Common.{get_or, Option, position, slice_get, slice_set, option_map, is_some, nat_lt, ltb-true, eqb_tells, Copy, Copies}
use Rattle.act_world.proofs.Common.{HandleRefusal, NoActor, NoHandle, TooManyCopies, NoCaller, Handle, needs, copies_held, copy_refusal, History, count_pairs}
use Rattle.act_world.proofs.Common.{cast_of, names, calls_of, copies_of, refusal_of, outcome_of, add_event, after, needs-none, added_grows, kept_of-same}
use Rattle.act_world.proofs.Common.{copies_in, copy_answer, with_copy, copies-with_copy, copies-with_copy-other, given-with_copy, OwnerView, with_handles}
use Rattle.act_world.proofs.Common.{NetworkView, is_owner, SlotView, Refines, IsOwnerOf}
use Rattle.act_world.proofs.Changes.{refused_follows, accepted_follows}
use Rattle.act_world.proofs.Lawful.{IsLawful}
use Rattle.act_world.proofs.Frames.{SameCaller, owners_change, mail_stays}
use Rattle.act_world.proofs.OneCaller.{needs_holds, or_else-Ok, or_else-Err, IsHere, caller_here, callers_tie, sent_stays, times-same, times-other_caller}
use Rattle.act_world.proofs.OneCaller.{times-other_actor}

-- a copy is refused as the handles say
copy_refused : (h : History) (c a : ℕ) {owner : OwnerView} {refusal : Option HandleRefusal} → IsHere h c owner →
    copy_refusal (copies_in a owner.handles) ≡ refusal → refusal_of h (Copy c a) ≡ option_map Handle refusal
copy_refused h c a here e =
    needs_holds NoCaller (option_map Handle (copy_refusal (copies_of c a h))) here.caller
    ∙ ap (λ copies. option_map Handle (copy_refusal copies)) (sym (here.is.copies a))
    ∙ ap (option_map Handle) e

copy_held : (copies : Option ℕ) → copy_refusal copies ≡ None → 0 < copies_held copies
copy_held copies e =
    let second = needs (nat_lt (copies_held copies) 65535) TooManyCopies None in
    let first = needs-none (is_some copies) NoActor (needs (nat_lt 0 (copies_held copies)) NoHandle second) e in
    ltb-true 0 (copies_held copies) (needs-none (nat_lt 0 (copies_held copies)) NoHandle second first.1).0

one_more : (named : Bool) (made gone : ℕ) → 0 < copies_held (cond named (Some ((1 + made) - gone)) None) →
    option_map (λ copies. copies + 1) (cond named (Some ((1 + made) - gone)) None) ≡ cond named (Some ((1 + (made + 1)) - gone)) None
one_more true made gone held = let less : 0 < (1 + made) - gone = held in let e : (1 + made) - gone + 1 ≡ (1 + (made + 1)) - gone = omega arith in ap Some e
one_more false made gone held = refl

-- the copies that the caller holds after one is made
copies_after : (h : History) (c a : ℕ) (owner : OwnerView) → IsOwnerOf h c owner → 0 < copies_held (copies_in a owner.handles) → (b : ℕ) →
    copies_in b (with_copy a owner.handles) ≡ copies_of c b (add_event h (Copy c a))
copies_after h c a owner is held b = elim (eqb_tells a b) [
  | inl t ↦ subst (λ x. copies_in x (with_copy a owner.handles) ≡ copies_of c x (add_event h (Copy c a))) t.1
      (copies-with_copy a owner.handles ∙ ap (option_map (λ copies. copies + 1)) (is.copies a)
      ∙ one_more (names c (cast_of a h)) (count_pairs c a h.copied) (count_pairs c a h.released) (subst (λ copies. 0 < copies_held copies) (is.copies a) held)
      ∙ ap (λ made. cond (names c (cast_of a h)) (Some ((1 + made) - count_pairs c a h.released)) None) (sym (times-same c a h.copied)))
  | inr f ↦ copies-with_copy-other a b owner.handles f.1 ∙ is.copies b
      ∙ ap (λ made. cond (names c (cast_of b h)) (Some ((1 + made) - count_pairs c b h.released)) None) (sym (times-other_actor c a b h.copied f.1))
]

copied_owner : (h : History) (c a : ℕ) (owner : OwnerView) → IsLawful h → IsOwnerOf h c owner → 0 < copies_held (copies_in a owner.handles) →
    IsOwnerOf (add_event h (Copy c a)) c (with_handles owner (with_copy a owner.handles))
copied_owner h c a owner lawful is held = record {
  id = is.id;
  copies = copies_after h c a owner is held;
  limits = is.limits;
  given = λ b. given-with_copy a b owner.handles ∙ is.given b;
  calls = is.calls;
  marks = is.marks;
  sent = λ k. is.sent k ∙ sym (sent_stays h (add_event h (Copy c a)) c k (slice_get (calls_of c h) k) refl (λ b n. refl));
  kept = is.kept ∙ sym (kept_of-same c (added_grows h (Copy c a)) lawful.sound.posts refl refl);
  deaths = is.deaths;
}

-- nothing of another caller's changes
others_stay : (h : History) (c a d : ℕ) → IsLawful h → c ≢ d → SameCaller d h (add_event h (Copy c a))
others_stay h c a d lawful apart = record {
  calls = refl;
  copies = λ b. ap (λ made. cond (names d (cast_of b h)) (Some ((1 + made) - count_pairs d b h.released)) None) (times-other_caller c a d b h.copied apart);
  sent = λ k. sent_stays h (add_event h (Copy c a)) d k (slice_get (calls_of d h) k) refl (λ b n. refl);
  kept = kept_of-same d (added_grows h (Copy c a)) lawful.sound.posts refl refl;
  deaths = λ b. refl;
}

-- where a caller copies a handle unrefused, what is told and the world with its copy follow the rules
pub copy_follows : {h : History} (old : NetworkView) (slots : List SlotView) (c a : ℕ) {place copies : ℕ} {owner : OwnerView} (new : OwnerView) → IsLawful h →
    Refines h (record { network = old; slots = slots }) → position (is_owner c) old.owners ≡ Some place → owner ≡ get_or old.owners place owner →
    Ok copies ≡ copy_answer a owner.handles → new ≡ with_handles owner (with_copy a owner.handles) → (Ok (Copies copies) ≡ outcome_of h (Copy c a)) × Refines
    (after h (Copy c a)) (record { network = record old { owners = slice_set old.owners place new }; slots = slots })
copy_follows {h} old slots c a {place} {copies} {owner} new lawful refines at owner_is told new_is =
    let here = caller_here old slots c refines at owner_is in
    let accepted = or_else-Ok (copy_refusal (copies_in a owner.handles)) (copies_held (copies_in a owner.handles) + 1) told in
    let held = copy_held (copies_in a owner.handles) accepted.0 in
    let now : IsOwnerOf (add_event h (Copy c a)) c new =
    subst (IsOwnerOf (add_event h (Copy c a)) c) (sym new_is) (copied_owner h c a owner lawful here.is held) in
    accepted_follows h (Copy c a) (Copies copies) (copy_refused h c a here accepted.0) (ap Copies (accepted.1 ∙ ap (λ o. copies_held o + 1) (here.is.copies a)))
    (callers_tie h (add_event h (Copy c a)) old _ slots lawful refines
    (record { grows = added_grows h (Copy c a); arrived = refl; ran = refl; posts = refl; killed = refl; retired = refl })
    (owners_change h old.owners refl refines.owners at now (λ d apart. others_stay h c a d lawful apart))
    (mail_stays old.mail lawful (added_grows h (Copy c a)) refines.mail) refines.mail_count refl refines.asked)

pub copy_refused_follows : {h : History} (old : NetworkView) (slots : List SlotView) (c a : ℕ) {place : ℕ} {refusal : HandleRefusal} {owner : OwnerView} →
    Refines h (record { network = old; slots = slots }) → position (is_owner c) old.owners ≡ Some place → owner ≡ get_or old.owners place owner → Err refusal ≡
    copy_answer a owner.handles → (Err (Handle refusal) ≡ outcome_of h (Copy c a)) × Refines (after h (Copy c a)) (record { network = old; slots = slots })
copy_refused_follows {h} old slots c a {place} {refusal} {owner} refines at owner_is told =
    let here = caller_here old slots c refines at owner_is in
    refused_follows (Copy c a)
    (copy_refused h c a here (or_else-Err (copy_refusal (copies_in a owner.handles)) (copies_held (copies_in a owner.handles) + 1) told)) refines
