-- Laws of the first item that passes a test.
use Rattle.act_rules.proofs.Common.{◌≡◌, ℕ, List, [], ◌∷◌, length, Option, Some, None, Bool, true, false, cond, nat_lt, refl, ◌∙◌, subst, get_or, find}
use Rattle.act_rules.proofs.Common.{position, All, position_or_len, ltb-false, All-head, All-tail, find_at, position-Some, slice_get-get_or, slice_get_past}
use Rattle.act_rules.proofs.Common.{cond_none}

place_is : (b : Bool) (n i : ℕ) → cond b (Some n) None ≡ Some i → n ≡ i
place_is true n i e = cc
place_is false n i e = absurd (cc)

-- where a place was found, the search that gives the length for none gives that place
pub position_or_len-Some : {X : Type 0} (p : X → Bool) (xs : List X) {i : ℕ} → position p xs ≡ Some i → position_or_len p xs ≡ i
position_or_len-Some p xs {i} e = place_is (nat_lt (position_or_len p xs) (length xs)) (position_or_len p xs) i e

-- what stands at the first place is what is found
pub find-Some : {X : Type 0} (p : X → Bool) (xs : List X) {i : ℕ} (d : X) → position p xs ≡ Some i → find p xs ≡ Some (get_or xs i d)
find-Some p xs {i} d e = rw (find_at p xs, position_or_len-Some p xs e) (slice_get-get_or xs i d (position-Some p xs i d e).0)

-- where no place was found, no item is found
pub find-None : {X : Type 0} (p : X → Bool) (xs : List X) → position p xs ≡ None → find p xs ≡ None
find-None p xs e =
    find_at p xs ∙ slice_get_past xs (position_or_len p xs) (ltb-false _ _ (cond_none (nat_lt (position_or_len p xs) (length xs)) (position_or_len p xs) e))

-- what is found passes, and is as all are
found_by : {X : Type 0} (P : X → Type 0) (p : X → Bool) (b : Bool) (y x : X) (rest : Option X) → p y ≡ b → P y → (rest ≡ Some x → P x × (p x ≡ true)) →
    cond b (Some y) rest ≡ Some x → P x × (p x ≡ true)
found_by P p true y x rest passes holds later e = let same : y ≡ x = cc in (subst P same holds, subst (λ z. p z ≡ true) same passes)
found_by P p false y x rest passes holds later e = later e

-- what is found passes the test, and what holds of all items holds of it
pub find-tells : {X : Type 0} (P : X → Type 0) (p : X → Bool) (xs : List X) {x : X} → All P xs → find p xs ≡ Some x → P x × (p x ≡ true)
find-tells P p [] all e = absurd (cc)
find-tells P p (y ∷ xs) {x} all e = found_by P p (p y) y x (find p xs) refl (All-head P y xs all) (find-tells P p xs {x = x} (All-tail P y xs all)) e
