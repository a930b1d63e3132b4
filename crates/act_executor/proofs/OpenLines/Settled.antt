-- What the comparison of the lines leaves as it was.
use Rattle.act_executor.proofs.Common.{◌≡◌, zero, suc, Bool, true, false, ◌||◌, List, [], ◌∷◌, map, sym, ap, ◌∙◌, refl, arith, All, list_any, map-map, Finished}
use Rattle.act_executor.proofs.Common.{ActorLeft, left_of}

-- what shows of actors without the place of their lists is the same
pub seen_through : {K L Z : Type 0} (f : ActorLeft K L → Z) (new old : List (Finished K L)) → map left_of new ≡ map left_of old →
    map (λ a. f (left_of a)) new ≡ map (λ a. f (left_of a)) old
seen_through f new old same = sym (map-map f left_of new) ∙ ap (map f) same ∙ map-map f left_of old

pub none_any : {X : Type 0} (p : X → Bool) (xs : List X) → list_any p xs ≡ false → All (λ x. p x ≡ false) xs
none_any p [] none k d lt = absurd (omega (arith, lt))
none_any p (x ∷ xs) none zero d lt = elim (p x) as (λ b. (b || list_any p xs) ≡ false → b ≡ false) [ true ↦ λ e. e | false ↦ λ e. refl ] none
none_any p (x ∷ xs) none (suc k) d lt =
    none_any p xs (elim (p x) as (λ b. (b || list_any p xs) ≡ false → list_any p xs ≡ false) [ true ↦ λ e. cc | false ↦ λ e. e ] none) k d (omega arith)
