-- What an event of a caller leaves in place.
use Rattle.act_world.proofs.Common.{◌≡◌, ◌≢◌, ℕ, ◌+◌, Bool, true, false, List, [], ◌∷◌, ◌++◌, length, Some, None, Ok, Err, refl, ap, sym, ◌∙◌, subst, arith}
use Rattle.act_world.proofs.Common.{get_or, Option, find, position, slice_get, slice_set, option_map, option_and_then, unwrap_or, eq-eqb, ne_eqb, set-get_or}
use Rattle.act_world.proofs.Common.{append-nil, Submission, Event, HandleRefusal, WorldRefusal, NoCaller, Handle, history, needs, number_of, handle_refusal}
use Rattle.act_world.proofs.Common.{History, contains, under, count_pairs, is_caller, calls_of, copies_of, has_letter, refusal_of, outcome_of, after, was_sent}
use Rattle.act_world.proofs.Common.{Grows, under-push, times-push, copies_in, OwnerView, NetworkView, is_owner, SlotView, Refines, IsOwnerOf, IsOwnerAt}
use Rattle.act_world.proofs.Common.{mail_entry, StepsThere, CallLetter}
use Rattle.act_handles.specs.Handles.{or_else}
use Rattle.act_world.proofs.Changes.{refused_follows}
use Rattle.act_world.proofs.Lawful.{IsLawful}
use Rattle.act_world.proofs.Frames.{owner_here, owner_absent, replies_stay, stages_stay}
use Rattle.act_world.proofs.Stepping.{refused_there}

-- ---- what refuses an event

-- the needed conditions that hold, and the first that fails
pub needs_holds : {R : Type 0} {b : Bool} (r : R) (next : Option R) → b ≡ true → needs b r next ≡ next
needs_holds r next e = rw e refl

pub needs_fails : {R : Type 0} {b : Bool} (r : R) (next : Option R) → b ≡ false → needs b r next ≡ Some r
needs_fails r next e = rw e refl

-- an answer of the handles: nothing refused it, or what did
pub or_else-Ok : {X : Type 0} (refusal : Option HandleRefusal) (value : X) {told : X} → Ok told ≡ or_else refusal value → (refusal ≡ None) × (told ≡ value)
or_else-Ok None value e = (refl, cc)
or_else-Ok (Some refusal) value e = cc

-- where the handles answer with a refusal, it is what refused
pub or_else-Err : {X : Type 0} (refusal : Option HandleRefusal) (value : X) {told : HandleRefusal} → Err told ≡ or_else refusal value → refusal ≡ Some told
or_else-Err None value e = cc
or_else-Err (Some refusal) value {told} e = let same : told ≡ refusal = cc in ap Some (sym same)

-- ---- the caller at its place

-- what the history tells of the caller at its place
pub record IsHere (h : History) (c : ℕ) (owner : OwnerView) : Type 0 where
  pub caller : is_caller c h ≡ true
  pub is : IsOwnerOf h c owner

-- the caller that stands at its place in the world has what the history tells of it
pub caller_here : {h : History} (network : NetworkView) (slots : List SlotView) (c : ℕ) {place : ℕ} {owner : OwnerView} →
    Refines h (record { network = network; slots = slots }) → position (is_owner c) network.owners ≡ Some place → owner ≡ get_or network.owners place owner →
    IsHere h c owner
caller_here {h} network slots c {place} {owner} refines at owner_is =
    let here = owner_here h network.owners c owner refines.owners at in record { caller = here.0; is = subst (IsOwnerOf h c) (sym owner_is) here.1 }

-- a release and the asking of a kill are refused as the handles say
pub handle_refused : (h : History) (c a : ℕ) {owner : OwnerView} {refusal : Option HandleRefusal} → IsHere h c owner → handle_refusal
    (copies_in a owner.handles) ≡ refusal → needs (is_caller c h) NoCaller (option_map Handle (handle_refusal (copies_of c a h))) ≡ option_map Handle refusal
handle_refused h c a here e =
    needs_holds NoCaller (option_map Handle (handle_refusal (copies_of c a h))) here.caller
    ∙ ap (λ copies. option_map Handle (handle_refusal copies)) (sym (here.is.copies a))
    ∙ ap (option_map Handle) e

-- where the caller is put back as it was, the network is as it was
pub put_back : (network : NetworkView) (place : ℕ) {owner new : OwnerView} → owner ≡ get_or network.owners place owner → new ≡ owner →
    record network { owners = slice_set network.owners place new } ≡ network
put_back network place {owner} owner_is same =
    ap (λ owners. record network { owners = owners }) (ap (slice_set network.owners place) (same ∙ owner_is) ∙ set-get_or network.owners place owner)

-- nothing that an unknown caller does is done
pub no_caller_follows : {h : History} (event : Event) (network : NetworkView) (slots : List SlotView) (c : ℕ) (rest : Option WorldRefusal) →
    refusal_of h event ≡ needs (is_caller c h) NoCaller rest → Refines h (record { network = network; slots = slots }) →
    position (is_owner c) network.owners ≡ None → (Err NoCaller ≡ outcome_of h event) × Refines (after h event) (record { network = network; slots = slots })
no_caller_follows {h} event network slots c rest first refines at =
    refused_follows event (first ∙ needs_fails NoCaller rest (owner_absent h network.owners c refines.owners at)) refines

-- the fields of the network are known, and none of its callers is this one
pub no_caller : (event : Event) {inside : NetworkView} (network : NetworkView) {owners : List OwnerView} (c : ℕ) (rest : History → Option WorldRefusal) →
    ((h : History) → refusal_of h event ≡ needs (is_caller c h) NoCaller (rest h)) → inside ≡ network → owners ≡ inside.owners →
    None ≡ position (is_owner c) owners → StepsThere event network network (Ok (Err NoCaller))
no_caller event network c rest first same is none = refused_there event network network NoCaller refl refl
    (λ slots casts before refines. no_caller_follows event network slots c (rest (history casts before)) (first (history casts before)) refines
    (ap (λ (n : NetworkView). position (is_owner c) n.owners) (sym same) ∙ ap (position (is_owner c)) (sym is) ∙ sym none))

-- ---- the other callers, and the rest of the world

-- the events after which actors and notices stand as before
pub record IsOfCallers (h g : History) : Type 0 where
  pub grows : Grows h g
  pub arrived : g.arrived ≡ h.arrived
  pub ran : g.ran ≡ h.ran
  pub posts : g.posts ≡ h.posts
  pub killed : g.killed ≡ h.killed
  pub retired : g.retired ≡ h.retired

-- the world ties to the history after such an event where its callers, its mail and what was asked do
pub callers_tie : (h g : History) (old new : NetworkView) (slots : List SlotView) → IsLawful h → Refines h (record { network = old; slots = slots }) →
    IsOfCallers h g → ((c : ℕ) → IsOwnerAt g c (find (is_owner c) new.owners)) →
    ((i : ℕ) → slice_get new.mail i ≡ option_and_then (mail_entry g) (slice_get g.mail i)) → length new.mail ≡ length g.mail → new.replies ≡ old.replies →
    ((a : ℕ) → unwrap_or (slice_get new.asked a) false ≡ contains a g.asked) → Refines g (record { network = new; slots = slots })
callers_tie h g old new slots lawful refines same owners mail count replies asked = record {
  owners = owners;
  actors = stages_stay h g slots lawful same.grows same.arrived same.ran same.killed same.retired refines.actors;
  mail = mail;
  mail_count = count;
  replies = rw (replies, same.posts) (replies_stay h g old.replies lawful same.grows refines.replies);
  reply_count = rw (replies, same.posts) refines.reply_count;
  asked = asked;
}

-- another caller's entry adds nothing to this one's
pub under-other : {A : Type 0} (c d : ℕ) (pairs : List (ℕ × A)) (x : A) → c ≢ d → under d (pairs ++ (c, x) ∷ []) ≡ under d pairs
under-other {A = A} c d pairs x apart = under-push d c pairs x ∙ rw (ne_eqb c d apart) (append-nil (under d pairs))

-- a call was sent before where it was, if no call's letter comes
pub sent_stays : (h g : History) (c k : ℕ) (call : Option Submission) → calls_of c g ≡ calls_of c h →
    ((a n : ℕ) → has_letter (CallLetter c a n) g.mail ≡ has_letter (CallLetter c a n) h.mail) → was_sent c k call g ≡ was_sent c k call h
sent_stays h g c k None calls mail = refl
sent_stays h g c k (Some call) calls mail = rw calls (mail call.actor (number_of call.actor k (calls_of c h)))

-- ---- the copies of one handle

-- with one pair more of a caller and an actor, these two are counted once more
pub times-same : (c a : ℕ) (pairs : List (ℕ × ℕ)) → count_pairs c a (pairs ++ (c, a) ∷ []) ≡ count_pairs c a pairs + 1
times-same c a pairs = times-push c a c a pairs ∙ rw (eq-eqb c c refl, eq-eqb a a refl) refl

-- with one pair more, another caller is counted as often as before, with any actor
pub times-other_caller : (c a d b : ℕ) (pairs : List (ℕ × ℕ)) → c ≢ d → count_pairs d b (pairs ++ (c, a) ∷ []) ≡ count_pairs d b pairs
times-other_caller c a d b pairs apart = times-push d b c a pairs ∙ rw (ne_eqb c d apart) (omega arith)

-- with one pair more, its caller is counted with another actor as often as before
pub times-other_actor : (c a b : ℕ) (pairs : List (ℕ × ℕ)) → a ≢ b → count_pairs c b (pairs ++ (c, a) ∷ []) ≡ count_pairs c b pairs
times-other_actor c a b pairs apart = times-push c b c a pairs ∙ rw (ne_eqb a b apart, eq-eqb c c refl) (omega arith)
