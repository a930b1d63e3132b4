-- A list that grows by one member after the other, each seen by a function.
use Rattle.example_uses.proofs.Common.{◌≡◌, List, [], ◌∷◌, ◌++◌, map, ap, ◌∙◌, map-append}

-- one member more, and what is seen of it
pub one_more : {X Y : Type 0} (f : X → Y) (old new : List X) (x : X) (front : List Y) (y : Y) → map f old ≡ front → new ≡ old ++ x ∷ [] → f x ≡ y →
    map f new ≡ front ++ y ∷ []
one_more f old new x front y so_far is same =
    ap (map f) is ∙ map-append f old (x ∷ []) ∙ ap (λ ys. ys ++ f x ∷ []) so_far ∙ ap (λ one. front ++ one ∷ []) same
