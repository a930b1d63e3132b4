-- How a world goes on where one of its actors changes, or nothing does.
use Rattle.act_world.proofs.Common.{◌≡◌, ◌≢◌, ℕ, ◌+◌, ◌<◌, ◌≤◌, ◌++◌, ◌∷◌, [], true, false, List, length, map, arith, length-append, get_or, Some, None, inl}
use Rattle.act_world.proofs.Common.{inr, refl, ap, sym, ◌∙◌, subst, Option, Ok, Err, IfNone, slice_get, slice_set, option_map, eqb_tells}
use Rattle.act_world.proofs.Common.{set-get_or, slice_get-map, slice_get-get_or, get_or_from_slice_get, Event, Did, WorldRefusal, History, cast_of, names}
use Rattle.act_world.proofs.Common.{is_ended, refusal_of, did, add_event, outcome_of, after, MailEntry, MailedNotice, NetworkView, IsGrown, SlotView, Runs}
use Rattle.act_world.proofs.Common.{Died, Ended, Vacant, WorldOf, WorldView, is_live_slot, IsStage, Refines, Outcome, with_slots, get_set-same, get_set-other}
use Rattle.act_world.proofs.Lists.{set-same}

-- ---- what is told, and what stands after

-- an event that is refused leaves the world as it was
pub refused_follows : {h : History} (event : Event) {refusal : WorldRefusal} {world : WorldView} → refusal_of h event ≡ Some refusal → Refines h world
    → (Err refusal ≡ outcome_of h event) × Refines (after h event) world
refused_follows event refused refines = rw refused (refl, refines)

-- an event that nothing refuses
pub accepted_follows : (h : History) (event : Event) (told : Did) {world : WorldView} → refusal_of h event ≡ None → told ≡ did h event →
    Refines (add_event h event) world → (Ok told ≡ outcome_of h event) × Refines (after h event) world
accepted_follows h event told accepted same refines = rw accepted (ap Ok same, refines)

-- an event of one actor that is refused leaves the actor's slot as it was
pub refused_in_slot : {h : History} (event : Event) (refusal : WorldRefusal) {world : WorldView} (a : ℕ) {slot : SlotView} (new : SlotView) {told : Outcome} →
    slice_get world.slots a ≡ Some slot → new ≡ slot → told ≡ Err refusal → refusal_of h event ≡ Some refusal → Refines h world →
    (told ≡ outcome_of h event) × Refines (after h event) (with_slots (slice_set world.slots a new) world.network)
refused_in_slot {h} event refusal {world} a {slot} new at same told_is refused refines =
    rw (told_is, same, set-same world.slots a at) (refused_follows event refused refines)

-- what holds anyway holds where there is nothing
pub on_none : {A P : Type 0} (found : Option A) → P → IfNone found P
on_none (Some value) holds = tt
on_none None holds = holds

-- ---- letters and notices

-- a network that stays as it is has no more than one letter or notice more
pub grown_none : (network : NetworkView) → IsGrown network network
grown_none network = omega arith

-- with one notice more there is one letter or notice more, at most
pub grown_reply : (mail : List MailEntry) (old new : List MailedNotice) (notice : MailedNotice) → new ≡ old ++ notice ∷ [] →
    length mail + length new ≤ length mail + length old + 1
grown_reply mail old new notice is = omega (arith, ap (λ all. length all) is, length-append old (notice ∷ []))

-- with one letter more there is one letter or notice more, at most
pub grown_letter : (old new : List MailEntry) (replies : List MailedNotice) (letter : MailEntry) → new ≡ old ++ letter ∷ [] →
    length new + length replies ≤ length old + length replies + 1
grown_letter old new replies letter is = omega (arith, ap (λ all. length all) is, length-append old (letter ∷ []))

-- ---- slots

-- one actor changes, and none of the others
pub stages_change : (h g : History) (slots : List SlotView) (a : ℕ) {old : SlotView} (new : SlotView) → ((b : ℕ) → IsStage h b (slice_get slots b)) →
    slice_get slots a ≡ Some old → IsStage g a (Some new) → ((b : ℕ) (stage : Option SlotView) → a ≢ b → IsStage h b stage → IsStage g b stage) → (b : ℕ) →
    IsStage g b (slice_get (slice_set slots a new) b)
stages_change h g slots a {old} new all at is others b = elim (eqb_tells a b) [
  | inl t ↦ subst (λ x. IsStage g x (slice_get (slice_set slots a new) x)) t.1 (subst (IsStage g a) (sym (get_set-same slots a new at)) is)
  | inr f ↦ subst (IsStage g b) (sym (get_set-other slots a b new f.1)) (others b (slice_get slots b) f.1 (all b))
]

-- an actor with a cast that doesn't run has ended
pub has_ended : (h : History) (a : ℕ) (slot : SlotView) → IsStage h a (Some slot) → is_live_slot slot ≡ false → (cast_of a h ≡ None → ⊥) → is_ended a h ≡ true
has_ended h a (Runs live) is off cast = cc
has_ended h a (Died dead) is off cast = rw is.died refl
has_ended h a (Ended retired) is off cast = rw (is.lived, is.ended) refl
has_ended h a Vacant is off cast = absurd (cast is)

-- an actor that runs has not
pub not_ended : (h : History) (a : ℕ) (slot : SlotView) → IsStage h a (Some slot) → is_live_slot slot ≡ true → is_ended a h ≡ false
not_ended h a (Runs live) is on = is.runs
not_ended h a slot is on = cc

-- an actor whose cast names a caller has a cast
pub named_cast : (c a : ℕ) (h : History) → names c (cast_of a h) ≡ true → cast_of a h ≡ None → ⊥
named_cast c a h named none = let bad : names c None ≡ true = subst (λ o. names c o ≡ true) none named in cc

-- ---- what is seen of slots

-- the slot of an actor that has a cast
pub slot_there : {S : Type 0} (f : S → SlotView) (slots : List S) (h : History) (a : ℕ) (x : S) → ((b : ℕ) → IsStage h b (slice_get (map f slots) b)) →
    (cast_of a h ≡ None → ⊥) → x ≡ get_or slots a x → slice_get (map f slots) a ≡ Some (f x)
slot_there {S = S} f slots h a x all cast is = slice_get-map f slots a ∙ ap (option_map f) (there (slice_get slots a) refl)
  where
    there : (o : Option S) → slice_get slots a ≡ o → slice_get slots a ≡ Some x
    there None e = absurd (cast (subst (IsStage h a) (slice_get-map f slots a ∙ ap (option_map f) e) (all a)))
    there (Some y) e = e ∙ ap (λ z. Some z) (sym (get_or_from_slice_get slots a y x e) ∙ sym is)

-- the slot of an actor, in a list that is long enough
pub slot_within : {S : Type 0} (f : S → SlotView) (slots : List S) {a : ℕ} {x : S} → a < length slots → x ≡ get_or slots a x →
    slice_get (map f slots) a ≡ Some (f x)
slot_within {S = S} f slots {a} {x} within is = slice_get-map f slots a ∙ ap (option_map f) (slice_get-get_or slots a x within) ∙ ap (λ y. Some (f y)) (sym is)

-- where the slot of an actor is as it was, the world is
pub slot_kept : {S : Type 0} (network : NetworkView) (slots : List S) (a : ℕ) (d new : S) → new ≡ get_or slots a d →
    ◌≡◌ {A = WorldOf S} (record { network = network; slots = slice_set slots a new }) (record { network = network; slots = slots })
slot_kept {S = S} network slots a d new same = ap (λ l. record { network = network; slots = l }) (ap (slice_set slots a) same ∙ set-get_or slots a d)
