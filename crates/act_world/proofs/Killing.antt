-- An actor that takes a kill.
use Rattle.act_world.proofs.Common.{◌≡◌, ℕ, ◌<◌, Bool, true, false, List, [], ◌∷◌, ◌++◌, length, map, get_or, Some, refl, ap, sym, ◌∙◌, subst, ◌==◌, slice_get}
use Rattle.act_world.proofs.Common.{slice_set, unwrap_or, eq-eqb, or_right, or_left, map-set, TakeKill, NoActor, Handle}
use Rattle.act_world.proofs.Common.{ActorEnded, NoKill, has_terminated, history, History, contains, runs_of, is_dead, is_retired, Outcome, outcome_of, did}
use Rattle.act_world.proofs.Common.{add_event, after, added_grows, ActorView, NetworkView, SlotView, Runs, Died, Ended, Vacant, with_slots, take_kill}
use Rattle.act_world.proofs.Common.{FollowsRules, IsLive, IsDead, IsStage, Refines, ne_eqb, contains_push, contains_other}
use Rattle.act_world.proofs.Changes.{accepted_follows, refused_in_slot, stages_change, slot_within}
use Rattle.act_world.proofs.Lawful.{IsLawful, world_lawful}
use Rattle.act_world.proofs.Frames.{same_caller, owners_stay, mail_stays, replies_stay, stage_stays, dead_same}

-- ---- one number more in a list

-- a list that ends with a number contains it
pub contains-last : (a : ℕ) (ns : List ℕ) → contains a (ns ++ a ∷ []) ≡ true
contains-last a ns = contains_push a a ns ∙ or_right (contains a ns) (a == a) (eq-eqb a a refl)

-- ---- the actor dies

dead_now : (h : History) (a : ℕ) (live : ActorView) → IsLive h a live → IsDead (add_event h (TakeKill a)) a (record { id = live.id; log = live.log })
dead_now h a live is = record {
  cast = is.cast;
  cast_is = is.cast_is;
  died = or_left (contains a (h.killed ++ a ∷ [])) (has_terminated (runs_of a h)) (contains-last a h.killed);
  id = is.id;
  log = is.log;
}

dead_ties : (h : History) (network : NetworkView) (slots : List SlotView) (a : ℕ) (live : ActorView) → IsLawful h →
    Refines h (record { network = network; slots = slots }) → slice_get slots a ≡ Some (Runs live) → IsLive h a live →
    Refines (add_event h (TakeKill a)) (record { network = network; slots = slice_set slots a (Died (record { id = live.id; log = live.log })) })
dead_ties h network slots a live lawful refines at is =
    let g = add_event h (TakeKill a) in let grows = added_grows h (TakeKill a) in
    record {
      owners = owners_stay h g network.owners refl (λ c. same_caller c h lawful grows refl refl refl refl refl) refines.owners;
      actors = stages_change h g slots a (Died (record { id = live.id; log = live.log })) refines.actors at (dead_now h a live is) (λ b stage apart was.
          stage_stays h g b stage lawful grows refl refl (dead_same h g b (contains_other a b h.killed (ne_eqb a b apart)) refl) refl was);
      mail = mail_stays network.mail lawful grows refines.mail;
      mail_count = refines.mail_count;
      replies = replies_stay h g network.replies lawful grows refines.replies;
      reply_count = refines.reply_count;
      asked = refines.asked;
    }

-- ---- the cases

by_slot : (h : History) (network : NetworkView) (slots : List SlotView) (a : ℕ) (asked : Bool) (old : SlotView) → IsLawful h →
    Refines h (record { network = network; slots = slots }) → asked ≡ contains a h.asked → slice_get slots a ≡ Some old → IsStage h a (Some old) → ((take_kill
    asked old).1 ≡ outcome_of h (TakeKill a)) × Refines (after h (TakeKill a)) (record { network = network; slots = slice_set slots a (take_kill asked old).0 })
by_slot h network slots a true (Runs live) lawful refines asked at is = accepted_follows h (TakeKill a) (did h (TakeKill a))
    (rw (is.cast_is, is.runs, ← asked) refl) refl (dead_ties h network slots a live lawful refines at is)
by_slot h network slots a false (Runs live) lawful refines asked at is =
    refused_in_slot (TakeKill a) NoKill a (Runs live) at refl refl (rw (is.cast_is, is.runs, ← asked) refl) refines
by_slot h network slots a on Vacant lawful refines asked at is = refused_in_slot (TakeKill a) (Handle NoActor) a Vacant at refl refl (rw is refl) refines
by_slot h network slots a on (Died dead) lawful refines asked at is = refused_in_slot (TakeKill a) ActorEnded a (Died dead) at refl refl
    (rw (is.cast_is, or_left (is_dead a h) (is_retired a h) is.died) refl) refines
by_slot h network slots a on (Ended retired) lawful refines asked at is = refused_in_slot (TakeKill a) ActorEnded a (Ended retired) at refl refl
    (rw (is.cast_is, or_right (is_dead a h) (is_retired a h) is.ended) refl) refines

-- the slot's change is the definition's
pub kill_follows : (h : History) (network : NetworkView) (slots : List SlotView) (a : ℕ) (asked : Bool) {old : SlotView} (new : SlotView) (told : Outcome) →
    IsLawful h → Refines h (record { network = network; slots = slots }) → asked ≡ unwrap_or (slice_get network.asked a) false → slice_get slots a ≡ Some old →
    (new, told) ≡ take_kill asked old →
    (told ≡ outcome_of h (TakeKill a)) × Refines (after h (TakeKill a)) (record { network = network; slots = slice_set slots a new })
kill_follows h network slots a asked {old} new told lawful refines asked_is at e =
    subst (λ (p : SlotView × Outcome). (p.1 ≡ outcome_of h (TakeKill a)) × Refines (after h (TakeKill a))
    (record { network = network; slots = slice_set slots a p.0 })) (sym e)
    (by_slot h network slots a asked old lawful refines (asked_is ∙ refines.asked a) at (subst (IsStage h a) at (refines.actors a)))

-- the same of what is seen of slots
pub kill_view : {S : Type 0} (f : S → SlotView) (network : NetworkView) (slots : List S) (a : ℕ) {p : ℕ} {asked : Bool} {x : S} (y : S) {told : Outcome} →
    p ≡ a → p < length slots → x ≡ get_or slots p x → asked ≡ unwrap_or (slice_get network.asked a) false → (f y, told) ≡ take_kill asked
    (f (get_or slots p x)) → FollowsRules (TakeKill a) (with_slots (map f slots) network) (with_slots (map f (slice_set slots p y)) network) told
kill_view {S = S} f network slots a {p} {asked} {x} y {told} place within is asked_is killed = subst (λ b. asked ≡ unwrap_or (slice_get network.asked b) false →
    FollowsRules (TakeKill b) (with_slots (map f slots) network) (with_slots (map f (slice_set slots p y)) network) told) place
    (λ asked_here casts before refines. let h = history casts before in let follows = kill_follows h network (map f slots) p asked (f y) told
    (world_lawful casts before) refines asked_here (slot_within f slots within is) (killed ∙ ap (λ s. take_kill asked (f s)) (sym is)) in
    (follows.0, subst (λ seen. Refines (after h (TakeKill p)) (record { network = network; slots = seen })) (sym (map-set f slots p y)) follows.1)) asked_is
