-- Lists of actors with their limits.
use Rattle.act_owner.proofs.Common.{◌≡◌, ◌≢◌, ℕ, List, length, Option, None, sym, ◌∙◌, get_or-map, length-map, map, AllPairs, arith}

abbrev pub Limit : Type 0
Limit = ℕ × Option ℕ

-- actors that differ in a list with their limits differ by themselves
pub names_differ : (limits : List Limit) {names : List ℕ} → names ≡ map (λ (limit : Limit). limit.0) limits →
    AllPairs (λ (one other : Limit). one.0 ≢ other.0) limits → AllPairs (λ one other. one ≢ other) names
names_differ limits is apart = rw is (λ i j d before below same. let e : Limit = (d, None) in let short : length (map (λ (limit : Limit). limit.0) limits) ≡
    length limits = length-map limits (λ (limit : Limit). limit.0) in apart i j e before (omega (arith, short)) (sym (get_or-map
    (λ (limit : Limit). limit.0) limits i e d (omega (arith, short))) ∙ same ∙ get_or-map (λ (limit : Limit). limit.0) limits j e d (omega (arith, short))))
