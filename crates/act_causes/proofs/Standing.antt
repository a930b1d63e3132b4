-- Where an actor stands in the world of the deeds.
use Rattle.act_causes.proofs.Common.{◌≡◌, ℕ, true, false, List, Option, Some, None, inl, inr, refl, ap, sym, ◌∙◌, subst, find, slice_get, slice_set}
use Rattle.act_causes.proofs.Common.{is_some, eqb_tells, NoActor, Handle, ActorSpec, History, cast_of, names, is_caller, is_dead, is_retired, is_ended}
use Rattle.act_causes.proofs.Common.{copies_in, ActorView, cast_at, is_owner, naming_refusal, SlotView, Runs, Died, Ended, Vacant, IsLive, IsStage}
use Rattle.act_causes.proofs.Common.{named_caller, get_set-same, get_set-other, needs_holds, is_named, Site, Action, IsNamed, owner_by, actions_of}
use Rattle.act_causes.proofs.Common.{has_ended_in, Actor}
use Rattle.act_causes.proofs.Made.{ended_is}
use Rattle.act_causes.proofs.Keeping.{HasInbox, Keeps, cast_is, owner_of}
use Rattle.std.proofs.lemmas.Bool.{or_parts}

-- an actor that has a cast and hasn't ended runs
pub record Lives (h : History) (slots : List SlotView) (a : ℕ) : Type 0 where
  pub live : ActorView
  pub at : slice_get slots a ≡ Some (Runs live)
  pub is : IsLive h a live

lives_at : (h : History) (slots : List SlotView) (a : ℕ) → is_some (cast_of a h) ≡ true → is_ended a h ≡ false → IsStage h a (slice_get slots a) →
    Lives h slots a
lives_at h slots a cast on stage = go (slice_get slots a) refl stage
  where
    go : (o : Option SlotView) → slice_get slots a ≡ o → IsStage h a o → Lives h slots a
    go None at none = let bad : false ≡ true = sym (ap (λ o. is_some o) none) ∙ cast in cc
    go (Some Vacant) at none = let bad : false ≡ true = sym (ap (λ o. is_some o) none) ∙ cast in cc
    go (Some (Runs live)) at is = record { live = live; at = at; is = is }
    go (Some (Died dead)) at is = let bad : true ≡ false = sym is.died ∙ (or_parts (is_dead a h) (is_retired a h) on).0 in cc
    go (Some (Ended retired)) at is = let bad : true ≡ false = sym is.ended ∙ (or_parts (is_dead a h) (is_retired a h) on).1 in cc

-- one actor changes, and each inbox is as any inbox is
pub inboxes_set : (slots : List SlotView) (a : ℕ) {old : SlotView} (new : SlotView) → slice_get slots a ≡ Some old → HasInbox (Some new) →
    ((b : ℕ) → HasInbox (slice_get slots b)) → (b : ℕ) → HasInbox (slice_get (slice_set slots a new) b)
inboxes_set slots a {old} new at has all b = elim (eqb_tells a b) [
  | inl t ↦ subst (λ x. HasInbox (slice_get (slice_set slots a new) x)) t.1 (subst HasInbox (sym (get_set-same slots a new at)) has)
  | inr f ↦ subst HasInbox (sym (get_set-other slots a b new f.1)) (all b)
]

module _ (casts : List ActorSpec) (deeds : List (Site × Action)) (h : History) (a : ℕ) (keeps : Keeps casts deeds h) where
  -- an actor that has a cast and hasn't ended by the deeds runs in the world that stands for them
  pub lives : is_some (cast_at a casts) ≡ true → has_ended_in (actions_of (Actor a) deeds) ≡ false → Lives h keeps.world.slots a
  lives cast on =
      lives_at h keeps.world.slots a (ap (λ o. is_some o) (cast_is casts h a keeps.casts_are) ∙ cast)
      (ended_is deeds h a keeps.actors ∙ on) (keeps.reached.refines.actors a)

  -- a caller that an actor's cast names is named
  pub named_by_cast : (c : ℕ) → names c (cast_at a casts) ≡ true → IsNamed casts c
  named_by_cast c named =
      let caller : is_caller c h ≡ true = named_caller c a h (ap (names c) (cast_is casts h a keeps.casts_are) ∙ named) in
      subst (λ l. IsNamed l c) keeps.casts_are caller

  -- it may be told of by its actors
  pub naming_free : (c : ℕ) → names c (cast_at a casts) ≡ true → naming_refusal (find (is_owner c) keeps.world.network.owners) a ≡ None
  naming_free c named =
      let caller = named_by_cast c named in let owner = owner_by casts c deeds in
      let listed : is_some (copies_in a owner.handles) ≡ true =
      is_named h c a owner (owner_of casts deeds h c keeps caller) ∙ ap (names c) (cast_is casts h a keeps.casts_are) ∙ named in
      ap (λ o. naming_refusal o a) (keeps.reached.owners c caller)
      ∙ needs_holds (Handle NoActor) None listed
