-- What the world sees of a caller and of an actor before an event of both.
use Rattle.act_world.proofs.Common.{◌≡◌, ℕ, ◌+◌, ◌-◌, Bool, true, false, cond, List, Some, None, refl, ap, sym, ◌∙◌, Option, find, is_some, NoActor}
use Rattle.act_world.proofs.Common.{WorldRefusal, NoCaller, Handle, needs, History, count_pairs, cast_of, names, is_caller, copies_in, OwnerView, is_owner}
use Rattle.act_world.proofs.Common.{naming_refusal, IsOwnerOf, IsOwnerAt}

-- an actor is one of the caller's where its cast names the caller
pub is_named : (h : History) (c a : ℕ) (owner : OwnerView) → IsOwnerOf h c owner → is_some (copies_in a owner.handles) ≡ names c (cast_of a h)
is_named h c a owner is = ap (λ copies. is_some copies) (is.copies a) ∙ go (names c (cast_of a h)) ((1 + count_pairs c a h.copied) - count_pairs c a h.released)
  where
    go : (b : Bool) (n : ℕ) → is_some (cond b (Some n) None) ≡ b
    go true n = refl
    go false n = refl

-- ---- what refuses an event of both before the actor is looked at

module _ (h : History) (owners : List OwnerView) (c a : ℕ) (all : (d : ℕ) → IsOwnerAt h d (find (is_owner d) owners)) where
  refusal_is : (found : Option OwnerView) → IsOwnerAt h c found →
      naming_refusal found a ≡ needs (is_caller c h) NoCaller (needs (names c (cast_of a h)) (Handle NoActor) None)
  refusal_is None is = rw is refl
  refusal_is (Some owner) is =
      ap (λ b. needs b (Handle NoActor) None) (is_named h c a owner is.1)
      ∙ sym (ap (λ b. needs b NoCaller (needs (names c (cast_of a h)) (Handle NoActor) None)) is.0)

  -- it refuses, whatever else would
  pub refused : (refusal : WorldRefusal) (rest : Option WorldRefusal) → naming_refusal (find (is_owner c) owners) a ≡ Some refusal →
      needs (is_caller c h) NoCaller (needs (names c (cast_of a h)) (Handle NoActor) rest) ≡ Some refusal
  refused refusal rest refuses = go (is_caller c h) (names c (cast_of a h)) (sym (refusal_is (find (is_owner c) owners) (all c)) ∙ refuses)
    where
      go : (caller named : Bool) → needs caller NoCaller (needs named (Handle NoActor) None) ≡ Some refusal →
          needs caller NoCaller (needs named (Handle NoActor) rest) ≡ Some refusal
      go true true e = cc
      go true false e = e
      go false named e = e

  -- the caller is one of the history's, and the actor's cast names it
  pub known : naming_refusal (find (is_owner c) owners) a ≡ None → (is_caller c h ≡ true) × (names c (cast_of a h) ≡ true)
  known free = go (is_caller c h) (names c (cast_of a h)) (sym (refusal_is (find (is_owner c) owners) (all c)) ∙ free)
    where
      go : (caller named : Bool) → needs caller NoCaller (needs named (Handle NoActor) None) ≡ None → (caller ≡ true) × (named ≡ true)
      go true true e = (refl, refl)
      go true false e = cc
      go false named e = cc
