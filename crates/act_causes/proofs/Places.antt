-- Where something stands in a list, once it was found there.
use Rattle.act_causes.proofs.Common.{◌≡◌, ◌≢◌, ℕ, ◌<◌, Bool, List, length, Option, Some, None, refl, sym, ◌∙◌, get_or, find, position, slice_set, eqb-true}
use Rattle.act_causes.proofs.Common.{eq-eqb, find-set, find_past, position-Some, find-Some, find-None, position_or_len-Some, OwnerView, is_owner, not_owner}

-- what is found stands at its place
pub record IsFoundAt {X : Type 0} (p : X → Bool) (xs : List X) (x : X) : Type 0 where
  pub place : ℕ
  pub at : position p xs ≡ Some place
  pub is : x ≡ get_or xs place x
  pub below : place < length xs

-- an item that a search finds stands at the first place that passes the test
pub found_at : {X : Type 0} (p : X → Bool) (xs : List X) (x : X) → find p xs ≡ Some x → IsFoundAt p xs x
found_at {X = X} p xs x e = go (position p xs) refl
  where
    go : (o : Option ℕ) → position p xs ≡ o → IsFoundAt p xs x
    go None none = let bad : None ≡ Some x = sym (find-None p xs none) ∙ e in cc
    go (Some i) at = record {
      place = i;
      at = at;
      is = let same : Some x ≡ Some (get_or xs i x) = sym e ∙ find-Some p xs x at in cc;
      below = (position-Some p xs i x at).0;
    }

-- ---- a caller is written at its place

module _ (owners : List OwnerView) (c : ℕ) (old new : OwnerView) (there : IsFoundAt (is_owner c) owners old) (id : new.id ≡ c) where
  pub written_here : find (is_owner c) (slice_set owners there.place new) ≡ Some new
  written_here = find-set (is_owner c) owners there.place new (sym (position_or_len-Some (is_owner c) owners there.at)) there.below (eq-eqb new.id c id)

  pub written_other : (d : ℕ) → c ≢ d → find (is_owner d) (slice_set owners there.place new) ≡ find (is_owner d) owners
  written_other d apart =
      find_past (is_owner d) owners there.place new new (not_owner c d (get_or owners there.place new) apart
      (eqb-true (get_or owners there.place new).id c (position-Some (is_owner c) owners there.place new there.at).1))
      (not_owner c d new apart id)
