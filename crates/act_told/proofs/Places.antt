-- Where an actor stands.
use Rattle.act_told.proofs.Common.{◌≡◌, List, length, map, Bool, true, false, None, not, cond, refl, ◌+◌, nat_lt, arith, position, position_or_len}
use Rattle.act_told.proofs.Common.{is_position_or_len, ltb-false, prefix_len-le-length, cond_none}

flipped : {A : Type 0} (b : Bool) (x y : A) → cond (not b) x y ≡ cond b y x
flipped true x y = refl
flipped false x y = refl

-- the first place among what a list is mapped to
pub place_mapped : {X Y : Type 0} (f : X → Y) (p : Y → Bool) (xs : List X) → position_or_len p (map f xs) ≡ position_or_len (λ x. p (f x)) xs
place_mapped f p xs = is_position_or_len (λ ys. position_or_len p (map f ys)) (λ x. p (f x)) refl
    (λ x ys. flipped (p (f x)) (1 + position_or_len p (map f ys)) 0) xs

-- where there is none
pub place_missing : {X : Type 0} (p : X → Bool) (xs : List X) → position p xs ≡ None → position_or_len p xs ≡ length xs
place_missing p xs e =
    let past = ltb-false _ _ (cond_none (nat_lt (position_or_len p xs) (length xs)) (position_or_len p xs) e) in
    let within = prefix_len-le-length (λ x. not (p x)) xs in omega (arith, past, within)
