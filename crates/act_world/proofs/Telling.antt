-- A dead actor that tells a caller its death.
use Rattle.act_world.proofs.Common.{◌≡◌, ℕ, ◌+◌, true, false, List, [], ◌∷◌, ◌++◌, length, Some, None, refl, ap, sym, ◌∙◌, subst, Ok, Err, length-append, find}
use Rattle.act_world.proofs.Common.{slice_get, or_parts, Death, Tell, Told, WorldRefusal, NotDead, needs, History, cast_of, names, is_caller, is_dead}
use Rattle.act_world.proofs.Common.{is_retired, did, refusal_of, outcome_of, add_event, after, added_grows, MailedNotice, NetworkView, is_owner, naming_refusal}
use Rattle.act_world.proofs.Common.{SlotView, Runs, Died, Ended, Vacant, is_dead_slot, IsStage, posted_notice, Refines, telling_unrefused, DeathPost}
use Rattle.act_world.proofs.Changes.{refused_follows, accepted_follows}
use Rattle.act_world.proofs.Lawful.{IsLawful}
use Rattle.act_world.proofs.Seeing.{refused, known}
use Rattle.act_world.proofs.Frames.{same_caller, owners_stay, mail_stays, replies_stay, go_together, stages_stay}

-- ---- what the caller and the slot tell

-- an actor that no cast has names no caller
pub unnamed : (h : History) (c a : ℕ) → cast_of a h ≡ None → names c (cast_of a h) ≡ false
unnamed h c a e = ap (names c) e

-- the slot shows whether its actor is dead
pub dead_is : (h : History) (c a : ℕ) (slot : SlotView) → IsStage h a (Some slot) → names c (cast_of a h) ≡ true → is_dead_slot slot ≡ is_dead a h
dead_is h c a (Runs live) is named = sym (or_parts (is_dead a h) (is_retired a h) is.runs).0
dead_is h c a (Died dead) is named = sym is.died
dead_is h c a (Ended retired) is named = sym is.lived
dead_is h c a Vacant is named = let none = unnamed h c a is in let bad : true ≡ false = sym named ∙ none in cc

-- ---- what refuses the event

refuses_living : (h : History) (a c : ℕ) → is_caller c h ≡ true → names c (cast_of a h) ≡ true → is_dead a h ≡ false → refusal_of h (Tell a c) ≡ Some NotDead
refuses_living h a c caller named dead = rw (caller, named, dead) refl

-- ---- the event that is refused, and that is not

pub tell_refused : {h : History} (network : NetworkView) (slots : List SlotView) (a c : ℕ) {refusal : WorldRefusal} →
    Refines h (record { network = network; slots = slots }) → naming_refusal (find (is_owner c) network.owners) a ≡ Some refusal →
    (Err refusal ≡ outcome_of h (Tell a c)) × Refines (after h (Tell a c)) (record { network = network; slots = slots })
tell_refused {h} network slots a c {refusal} refines refuses =
    refused_follows (Tell a c) (refused h network.owners c a refines.owners refusal (needs (is_dead a h) NotDead None) refuses) refines

pub tell_living : {h : History} (network : NetworkView) (slots : List SlotView) (a c : ℕ) (slot : SlotView) →
    Refines h (record { network = network; slots = slots }) → slice_get slots a ≡ Some slot → naming_refusal (find (is_owner c) network.owners) a ≡ None →
    is_dead_slot slot ≡ false → (Err NotDead ≡ outcome_of h (Tell a c)) × Refines (after h (Tell a c)) (record { network = network; slots = slots })
tell_living {h} network slots a c slot refines there free lives =
    let here = known h network.owners c a refines.owners free in
    refused_follows (Tell a c)
    (refuses_living h a c here.0 here.1 (sym (dead_is h c a slot (subst (IsStage h a) there (refines.actors a)) here.1) ∙ lives)) refines

pub tell_unrefused : {h : History} (network : NetworkView) (slots : List SlotView) (a c : ℕ) (slot : SlotView) →
    Refines h (record { network = network; slots = slots }) → slice_get slots a ≡ Some slot → naming_refusal (find (is_owner c) network.owners) a ≡ None →
    is_dead_slot slot ≡ true → refusal_of h (Tell a c) ≡ None
tell_unrefused {h} network slots a c slot refines there free dead =
    let here = known h network.owners c a refines.owners free in
    telling_unrefused h a c here.0 here.1 (sym (dead_is h c a slot (subst (IsStage h a) there (refines.actors a)) here.1) ∙ dead)

-- ---- the notice

told_ties : (h : History) (network : NetworkView) (slots : List SlotView) (a c : ℕ) → IsLawful h → Refines h (record { network = network; slots = slots }) →
    Refines (add_event h (Tell a c))
    (record { network = record network { replies = network.replies ++ record { caller = c; notice = Death a } ∷ [] }; slots = slots })
told_ties h network slots a c lawful refines =
    let g = add_event h (Tell a c) in let grows = added_grows h (Tell a c) in let notice : MailedNotice = record { caller = c; notice = Death a } in
    record {
      owners = owners_stay h g network.owners refl (λ d. same_caller d h lawful grows refl refl refl refl refl) refines.owners;
      actors = stages_stay h g slots lawful grows refl refl refl refl refines.actors;
      mail = mail_stays network.mail lawful grows refines.mail;
      mail_count = refines.mail_count;
      replies = go_together (posted_notice g) network.replies h.posts {x = notice} (DeathPost c a) refl refines.reply_count
          (replies_stay h g network.replies lawful grows refines.replies);
      reply_count = length-append network.replies (notice ∷ []) ∙ ap (λ n. n + 1) refines.reply_count ∙ sym (length-append h.posts (DeathPost c a ∷ []));
      asked = refines.asked;
    }

-- where a dead actor tells a caller its death, what is told and the world with the notice follow the rules
pub tell_follows : {h : History} (network : NetworkView) (slots : List SlotView) (a c j : ℕ) (slot : SlotView) (replies : List MailedNotice) → IsLawful h →
    Refines h (record { network = network; slots = slots }) → slice_get slots a ≡ Some slot → naming_refusal (find (is_owner c) network.owners) a ≡ None →
    is_dead_slot slot ≡ true → j ≡ length network.replies → replies ≡ network.replies ++ record { caller = c; notice = Death a } ∷ [] →
    (Ok (Told j) ≡ outcome_of h (Tell a c)) × Refines (after h (Tell a c)) (record { network = record network { replies = replies }; slots = slots })
tell_follows {h} network slots a c j slot replies lawful refines there free dead j_is replies_are =
    let unrefused = tell_unrefused network slots a c slot refines there free dead in
    let count : j ≡ length h.posts = j_is ∙ refines.reply_count in
    rw (count, replies_are) (accepted_follows h (Tell a c) (did h (Tell a c)) unrefused refl (told_ties h network slots a c lawful refines))
