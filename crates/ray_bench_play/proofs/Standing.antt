-- Events after events.
use Rattle.ray_bench_play.proofs.Common.{◌≡◌, ℕ, ◌+◌, List, [], ◌∷◌, ◌++◌, ap, sym, ◌∙◌, subst, map, append_assoc, add-one, flat_map, append-nil, flat_map_more}
use Rattle.ray_bench_play.proofs.Common.{map-append, Event, WorldView, IsReachedBy, places, StandsAfter}

-- no event
pub stands_still : (world : WorldView) → StandsAfter [] world world
stands_still world casts before reached = subst (λ l. IsReachedBy casts l world) (sym (append-nil before)) reached

-- some events, and then others, which together are these
pub stands_on : (xs ys zs : List Event) (old mid new : WorldView) → xs ++ ys ≡ zs → StandsAfter xs old mid → StandsAfter ys mid new → StandsAfter zs old new
stands_on xs ys zs old mid new joined first then =
    subst (λ l. StandsAfter l old new) joined
    (λ casts before reached. subst (λ l. IsReachedBy casts l new) (append_assoc before xs ys) (then casts (before ++ xs) (first casts before reached)))

-- where a world stands after some events, and another after more from there, that one stands after both lists
pub stands_both : (xs ys : List Event) (old mid new : WorldView) → StandsAfter xs old mid → StandsAfter ys mid new → StandsAfter (xs ++ ys) old new
stands_both xs ys old mid new first then casts before reached =
    subst (λ l. IsReachedBy casts l new) (append_assoc before xs ys) (then casts (before ++ xs) (first casts before reached))

places_next : (n : ℕ) → places (n + 1) ≡ places n ++ n ∷ []
places_next n = ap places (add-one n)

-- an event of each place before one, and that of this place
pub each_next : (f : ℕ → Event) (n : ℕ) (old mid new : WorldView) → StandsAfter (map f (places n)) old mid → StandsAfter (f n ∷ []) mid new
    → StandsAfter (map f (places (n + 1))) old new
each_next f n old mid new first then = stands_on (map f (places n)) (f n ∷ []) (map f (places (n + 1))) old mid new joined first then
  where
    joined : map f (places n) ++ f n ∷ [] ≡ map f (places (n + 1))
    joined = sym (ap (map f) (places_next n) ∙ map-append f (places n) (n ∷ []))

-- several of each place before one, and those of this place
pub several_next : (f : ℕ → List Event) (n : ℕ) (old mid new : WorldView) → StandsAfter (flat_map f (places n)) old mid → StandsAfter (f n) mid new
    → StandsAfter (flat_map f (places (n + 1))) old new
several_next f n old mid new first then = stands_on (flat_map f (places n)) (f n) (flat_map f (places (n + 1))) old mid new joined first then
  where
    joined : flat_map f (places n) ++ f n ≡ flat_map f (places (n + 1))
    joined = flat_map_more f [] (places n) n ∙ sym (ap (flat_map f) (places_next n))
