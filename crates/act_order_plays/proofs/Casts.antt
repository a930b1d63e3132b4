-- The actors of the play: who may call whom.
use Rattle.act_order_plays.proofs.Common.{◌≡◌, ℕ, zero, suc, ◌+◌, ◌<◌, ◌==◌, inl, inr, true, List, [], ◌∷◌, length, find, Some, None}
use Rattle.act_order_plays.proofs.Common.{slice_get, refl, ap, subst, ◌∙◌, arith, option_map, Contains, enumerate_from, eq-eqb, ne_eqb}
use Rattle.act_order_plays.proofs.Common.{get_or_past, slice_get-map, slice_get-get_or, OwnAt, ActorSpec, History, contains, cast_of, names, is_caller}
use Rattle.act_order_plays.proofs.Common.{find-map, slice_get-enumerate_from, Actor, Told, actor_of, answers, cast_of_actor, casts_of, IsIn, any_in}
use Rattle.act_order_plays.proofs.Common.{is_contained}
use Rattle.act_order_plays.proofs.Lists.{cases_le}

-- ---- the cast of an actor

abbrev pub cast_at : Told → ℕ → ActorSpec
cast_at told a = record { actor = a; callers = (actor_of told a).callers; opening = OwnAt answers; pending = None }

find_at : {A : Type 0} (n k : ℕ) (xs : List A) {x : A} → slice_get xs k ≡ Some x → find (λ (p : ℕ × A). p.0 == (n + k)) (enumerate_from n xs) ≡ Some (n + k, x)
find_at n k [] e = absurd (cc)
find_at {A = A} n zero (y ∷ ys) {x} e =
    let z : n ≡ n + 0 = omega arith in let same : y ≡ x = cc in rw (eq-eqb n (n + 0) z) (ap (λ p. Some p) (rw (← z, same) refl))
find_at {A = A} n (suc k) (y ∷ ys) {x} e =
    let more : (n + 1) + k ≡ n + suc k = omega arith in
    rw (ne_eqb n (n + suc k) (λ same. omega arith))
    (subst (λ (m : ℕ). find (λ (p : ℕ × A). p.0 == m) (enumerate_from (n + 1) ys) ≡ Some (m, x)) more (find_at (n + 1) k ys e))

actor_at : (told : Told) (a : ℕ) → a < length told.actors → slice_get told.actors a ≡ Some (actor_of told a)
actor_at told a lt = slice_get-get_or told.actors a _ lt

pub find_cast : (told : Told) (a : ℕ) → a < length told.actors → find (λ (cast : ActorSpec). cast.actor == a) (casts_of told) ≡ Some (cast_at told a)
find_cast told a lt =
    let z : 0 + a ≡ a = omega arith in
    find-map (λ (cast : ActorSpec). cast.actor == a)
    cast_of_actor (enumerate_from 0 told.actors)
    ∙ ap (option_map cast_of_actor)
    (subst (λ (m : ℕ). find (λ (p : ℕ × Actor). p.0 == m) (enumerate_from 0 told.actors) ≡ Some (m, actor_of told a)) z
    (find_at 0 a told.actors (actor_at told a lt)))

-- in a history with the casts of what is told, each actor that is told has the cast made of it
pub cast_of_is : (told : Told) (h : History) {a : ℕ} → h.casts ≡ casts_of told → a < length told.actors → cast_of a h ≡ Some (cast_at told a)
cast_of_is told h {a} casts lt = ap (λ all. find (λ (cast : ActorSpec). cast.actor == a) all) casts ∙ find_cast told a lt

-- in a history with the casts of what is told, the casts of its actors name the callers that may call them
pub names_is : (told : Told) (h : History) (c a : ℕ) → h.casts ≡ casts_of told → a < length told.actors → IsIn (actor_of told a).callers c →
    names c (cast_of a h) ≡ true
names_is told h c a casts lt has = rw (cast_of_is told h casts lt) (is_contained c (actor_of told a).callers has)

casts_has : (told : Told) (a : ℕ) → a < length told.actors → IsIn (casts_of told) (cast_at told a)
casts_has told a lt =
    let z : 0 + a ≡ a = omega arith in let f : ℕ × Actor → ActorSpec = cast_of_actor in
    let there : slice_get (enumerate_from 0 told.actors) a ≡ Some (a, actor_of told a) =
    slice_get-enumerate_from 0 told.actors a ∙ ap (option_map (λ x. (0 + a, x))) (actor_at told a lt)
    ∙ ap (λ (m : ℕ). Some (m, actor_of told a)) z in
    record { place = a; at = slice_get-map f (enumerate_from 0 told.actors) a ∙ ap (option_map f) there }

-- in a history with the casts of what is told, who may call an actor that is told is a caller
pub is_caller_is : (told : Told) (h : History) {c a : ℕ} → h.casts ≡ casts_of told → a < length told.actors → IsIn (actor_of told a).callers c →
    is_caller c h ≡ true
is_caller_is told h {c} {a} casts lt has =
    rw casts (any_in (λ (cast : ActorSpec). contains c cast.callers) (casts_has told a lt) (is_contained c (actor_of told a).callers has))

-- no caller may call what is no actor
pub role_actor : (told : Told) (c a : ℕ) → Contains (actor_of told a).callers c → a < length told.actors
role_actor told c a has = elim (cases_le (length told.actors) a) [
  | inr b ↦ b
  | inl past ↦ absurd (let none : actor_of told a ≡ record { callers = []; end = _ } = get_or_past told.actors a _ past in
      no_item (subst (λ (actor : Actor). Contains actor.callers c) none has))
]
  where
    no_item : Contains [] c → ⊥
    no_item h = let lt = h.1 in omega arith
