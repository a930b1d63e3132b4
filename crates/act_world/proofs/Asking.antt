-- A kill that is asked.
use Rattle.act_world.proofs.Common.{◌≡◌, ℕ, ◌<◌, Bool, true, false, List, [], ◌∷◌, ◌++◌, length, Some, Ok, Err, inl, inr, refl, sym, ◌∙◌, subst, get_or}
use Rattle.act_world.proofs.Common.{position, slice_get, slice_set, unwrap_or, or-true, or-false, ne_eqb, eq-eqb, eqb_tells, get_or-set_same}
use Rattle.act_world.proofs.Common.{get_or-set_other, unwrap_or-slice_get, KillNote, AskKill, Asked, HandleRefusal, Handle, handle_refusal}
use Rattle.act_world.proofs.Common.{History, contains, outcome_of, add_event, after, added_grows, copies_in, OwnerView, kill_told, NetworkView, is_owner}
use Rattle.act_world.proofs.Common.{SlotView, Refines, contains_push}
use Rattle.act_world.proofs.Changes.{refused_follows, accepted_follows}
use Rattle.act_world.proofs.Lawful.{IsLawful}
use Rattle.act_world.proofs.Frames.{same_caller, owners_stay, mail_stays}
use Rattle.act_world.proofs.OneCaller.{or_else-Ok, or_else-Err, caller_here, handle_refused, callers_tie}

-- the mark that a kill of the actor was asked
asked_after : (asked : List Bool) (numbers : List ℕ) (a : ℕ) → a < length asked → ((b : ℕ) → unwrap_or (slice_get asked b) false ≡ contains b numbers)
    → (b : ℕ) → unwrap_or (slice_get (slice_set asked a true) b) false ≡ contains b (numbers ++ a ∷ [])
asked_after asked numbers a within all b = unwrap_or-slice_get (slice_set asked a true) b false ∙ elim (eqb_tells a b) [
  | inl t ↦ subst (λ x. get_or (slice_set asked a true) x false ≡ contains x (numbers ++ a ∷ [])) t.1
      (get_or-set_same asked a true false within ∙ sym (contains_push a a numbers ∙ rw (eq-eqb a a refl) (or-true (contains a numbers))))
  | inr f ↦ get_or-set_other asked a b true false (λ same. f.1 (sym same)) ∙ sym (unwrap_or-slice_get asked b false) ∙ all b
      ∙ sym (contains_push b a numbers ∙ rw (ne_eqb a b f.1) (or-false (contains b numbers)))
]

-- where a caller asks a kill unrefused, what is told and the world with this kill marked follow the rules
pub ask_follows : {h : History} (old : NetworkView) (slots : List SlotView) (c a : ℕ) {place : ℕ} {note : KillNote} {owner : OwnerView} → IsLawful h →
    Refines h (record { network = old; slots = slots }) → position (is_owner c) old.owners ≡ Some place → owner ≡ get_or old.owners place owner →
    Ok note ≡ kill_told owner a → a < length old.asked → (Ok Asked ≡ outcome_of h (AskKill c a)) × Refines (after h (AskKill c a))
    (record { network = record old { asked = slice_set old.asked a true }; slots = slots })
ask_follows {h} old slots c a {place} {note} {owner} lawful refines at owner_is told within =
    let here = caller_here old slots c refines at owner_is in
    let accepted = or_else-Ok (handle_refusal (copies_in a owner.handles)) (record { caller = owner.id; actor = a }) told in
    let grows = added_grows h (AskKill c a) in
    accepted_follows h (AskKill c a) Asked (handle_refused h c a here accepted.0) refl
    (callers_tie h (add_event h (AskKill c a)) old _ slots lawful refines
    (record { grows = grows; arrived = refl; ran = refl; posts = refl; killed = refl; retired = refl })
    (owners_stay h (add_event h (AskKill c a)) old.owners refl (λ d. same_caller d h lawful grows refl refl refl refl refl) refines.owners)
    (mail_stays old.mail lawful grows refines.mail) refines.mail_count refl (asked_after old.asked h.asked a within refines.asked))

pub ask_refused_follows : {h : History} (old : NetworkView) (slots : List SlotView) (c a : ℕ) {place : ℕ} {refusal : HandleRefusal} {owner : OwnerView} →
    Refines h (record { network = old; slots = slots }) → position (is_owner c) old.owners ≡ Some place → owner ≡ get_or old.owners place owner → Err refusal ≡
    kill_told owner a → (Err (Handle refusal) ≡ outcome_of h (AskKill c a)) × Refines (after h (AskKill c a)) (record { network = old; slots = slots })
ask_refused_follows {h} old slots c a {place} {refusal} {owner} refines at owner_is told =
    let here = caller_here old slots c refines at owner_is in
    refused_follows (AskKill c a)
    (handle_refused h c a here (or_else-Err (handle_refusal (copies_in a owner.handles)) (record { caller = owner.id; actor = a }) told)) refines
