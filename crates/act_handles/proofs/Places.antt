-- Where an actor's handle stands, and what a change of it does.
use Rattle.act_handles.proofs.Common.{◌≡◌, ◌≢◌, ℕ, zero, suc, ◌+◌, ◌<◌, ◌≤◌, ◌==◌, List, [], ◌∷◌, length, map, AllPairs, get_or, if◌then◌else◌, refl, sym, ◌∙◌}
use Rattle.act_handles.proofs.Common.{ap, arith, eq-eqb, inl, inr, Option, None, MatchOption, position, subst, slice_set, find, position_or_len, eqb_tells}
use Rattle.act_handles.proofs.Common.{leb_tells, eqb-true, Handle, is_of, change_handle, new_handle, actors_in, given_of_all, IsHandles, IsAt}
use Rattle.std.proofs.lemmas.List.{get_or-map, length-map}
use Rattle.std.proofs.lemmas.List.Folds.{find_at}
use Rattle.std.proofs.lemmas.List.Sums.{sum_by-set, passes_at_first}
use Rattle.std.proofs.lemmas.Option.{slice_get-get_or, slice_get_past}
use Rattle.std.proofs.Math.Seq.{map-set_same}
use Rattle.act_handles.proofs.Lookups.{given_of_all-opened}
use Rattle.act_lists.proofs.Lists.{tail_apart}

if_same : {A : Type 0} (a b : ℕ) (x y : A) → a ≡ b → (if a == b then x else y) ≡ x
if_same a b x y e = rw (eq-eqb a b e) refl

if_other : {A : Type 0} (a b : ℕ) (x y : A) → a ≢ b → (if a == b then x else y) ≡ y
if_other a b x y ne = elim (eqb_tells a b) [ inl t ↦ absurd (ne t.1) | inr f ↦ rw f.0 refl ]

-- no later handle is of the first one's actor
rest_other : (a : ℕ) (handle : Handle) (handles : List Handle) → AllPairs (λ one other. one ≢ other) (actors_in (handle ∷ handles)) → handle.actor ≡ a →
    (k : ℕ) (d : Handle) → k < length handles → (get_or handles k d).actor ≢ a
rest_other a handle handles apart here k d lt same =
    apart 0 (suc k) d.actor (omega arith) (omega (arith, length-map handles (λ (h : Handle). h.actor)))
    (here ∙ sym same ∙ sym (get_or-map (λ (h : Handle). h.actor) handles k d d.actor lt))

-- a change of an actor that isn't there
unchanged : (a : ℕ) (change : Handle → Handle) (handles : List Handle) → ((k : ℕ) (d : Handle) → k < length handles → (get_or handles k d).actor ≢ a) →
    change_handle a change handles ≡ handles
unchanged a change [] other = refl
unchanged a change (handle ∷ handles) other =
    rw (if_other handle.actor a (change handle) handle (other 0 handle (omega arith)))
    (ap (λ rest. handle ∷ rest) (unchanged a change handles (λ k d lt. other (suc k) d (omega arith))))

-- a change of an actor's handle is a write at its place
pub changed_at : (a : ℕ) (change : Handle → Handle) (handles : List Handle) (place : ℕ) (d : Handle) → AllPairs (λ one other. one ≢ other) (actors_in handles) →
    place < length handles → (get_or handles place d).actor ≡ a → change_handle a change handles ≡ slice_set handles place (change (get_or handles place d))
changed_at a change [] place d apart below here = absurd (omega arith)
changed_at a change (handle ∷ handles) zero d apart below here =
    rw (if_same handle.actor a (change handle) handle here)
    (ap (λ rest. change handle ∷ rest) (unchanged a change handles (rest_other a handle handles apart here)))
changed_at a change (handle ∷ handles) (suc place) d apart below here =
    rw (if_other handle.actor a (change handle) handle (λ same. rest_other a handle handles apart same place d (omega arith) here))
    (ap (λ rest. handle ∷ rest) (changed_at a change handles place d (tail_apart handle.actor (actors_in handles) apart) (omega arith) here))

pub actors_opened : (actors : List ℕ) → actors_in (map new_handle actors) ≡ actors
actors_opened [] = refl
actors_opened (a ∷ actors) = ap (λ rest. a ∷ rest) (actors_opened actors)

-- the handles at the opening
pub opened_fine : (actors : List ℕ) → AllPairs (λ one other. one ≢ other) actors → IsHandles (map new_handle actors)
opened_fine actors apart = (rw (actors_opened actors) apart, omega (arith, given_of_all-opened actors))

-- the first handle of the actor stands where it is found
first_is : (a : ℕ) (handles : List Handle) → AllPairs (λ one other. one ≢ other) (actors_in handles) → position_or_len (is_of a) handles < length handles →
    IsAt a handles (position_or_len (is_of a) handles)
first_is a handles apart below =
    let place = position_or_len (is_of a) handles in
    let here = λ (d : Handle). eqb-true (get_or handles place d).actor a (passes_at_first (is_of a) handles d below) in
    record {
      below = below;
      found = λ d. find_at (is_of a) handles ∙ slice_get-get_or handles place d below;
      actor = here;
      changes = λ d change. changed_at a change handles place d apart below (here d);
    }

-- what a search for the actor's handle finds
pub place_is : (a : ℕ) (seen handles : List Handle) (found : Option ℕ) → handles ≡ seen → IsHandles handles → found ≡ position (is_of a) handles →
    MatchOption found (find (is_of a) seen ≡ None) (IsAt a seen)
place_is a seen handles found same fine is =
    rw (← same) (elim (leb_tells (suc (position_or_len (is_of a) handles)) (length handles)) [
      | inl t ↦ rw (is, t.0) (first_is a handles fine.0 t.1)
      | inr f ↦ rw (is, f.0) (find_at (is_of a) handles ∙ slice_get_past handles (position_or_len (is_of a) handles) (omega (arith, f.1)))
    ])

-- a handle of the same actor that is put at a place
pub put_fine : (handles : List Handle) (place : ℕ) (d new : Handle) → IsHandles handles → place < length handles → new.actor ≡ (get_or handles place d).actor →
    given_of_all handles + new.given ≤ 65536 + (get_or handles place d).given → IsHandles (slice_set handles place new)
put_fine handles place d new fine below same few =
    (rw (map-set_same (λ (h : Handle). h.actor) handles place new d same) fine.0, omega (arith, sum_by-set (λ (h : Handle). h.given) handles place new d below))

-- the same, where the handle was read at the place found
pub change_fine : {a : ℕ} {seen handles : List Handle} {place : ℕ} {now : Handle} (new : Handle) → handles ≡ seen → IsHandles handles → IsAt a seen place →
    now ≡ get_or handles place now → new.actor ≡ now.actor → given_of_all handles + new.given ≤ 65536 + now.given → IsHandles (slice_set handles place new)
change_fine {handles} {place} {now} new same fine at is actor few =
    put_fine handles place now new fine (subst (λ l. place < length l) (sym same) at.below) (actor ∙ ap (λ (h : Handle). h.actor) is)
    (omega (arith, ap (λ (h : Handle). h.given) is))

-- a change that was written at the place found
pub change_is : {a : ℕ} (change : Handle → Handle) {seen handles : List Handle} {place : ℕ} {now : Handle} → handles ≡ seen → IsAt a seen place →
    now ≡ get_or handles place now → slice_set handles place (change now) ≡ change_handle a change seen
change_is change {seen} {place} {now} same at is =
    rw same (sym (at.changes now change ∙ ap (λ h. slice_set seen place (change h)) (sym (subst (λ l. now ≡ get_or l place now) same is))))

-- one more number given, in all
pub counted : (seen handles : List Handle) (place : ℕ) (now new : Handle) → handles ≡ seen → place < length seen → now ≡ get_or handles place now →
    new.given ≡ now.given + 1 → given_of_all (slice_set handles place new) ≡ given_of_all seen + 1
counted seen handles place now new same below is more =
    let within : place < length handles = subst (λ l. place < length l) (sym same) below in
    omega (arith, sum_by-set (λ (h : Handle). h.given) handles place new now within, ap (λ (h : Handle). h.given) is, ap given_of_all same)
