-- The first that is found in a list.
use Rattle.act_plans.proofs.Common.{◌≡◌, ℕ, ◌+◌, ◌<◌, List, [], ◌∷◌, ◌++◌, length, take, drop, get_or, Option, Some, None, sym, ◌∙◌, ap, filter_map, slice_get}
use Rattle.act_plans.proofs.Common.{cons_option, take_more, drop_more, take-append-drop, filter_map-append}

-- the first that f gives, after elements of which it gives none
pub first_found : {X Y : Type 0} (f : X → Option Y) (xs : List X) {i : ℕ} {x : X} {y : Y} → i < length xs → x ≡ get_or xs i x → filter_map f (take i xs) ≡ [] →
    f x ≡ Some y → slice_get (filter_map f xs) 0 ≡ Some y
first_found f xs {i} {x} below is none found =
    ap (λ l. slice_get (filter_map f l) 0) (sym (take-append-drop i xs))
    ∙ ap (λ l. slice_get l 0) (filter_map-append f (take i xs) (drop i xs))
    ∙ ap (λ l. slice_get (l ++ filter_map f (drop i xs)) 0) none
    ∙ ap (λ l. slice_get (filter_map f l) 0) (drop_more xs i x below ∙ ap (λ z. z ∷ drop (i + 1) xs) (sym is))
    ∙ ap (λ o. slice_get (cons_option o (filter_map f (drop (i + 1) xs))) 0) found

-- one more of which it gives none
pub none_more : {X Y : Type 0} (f : X → Option Y) (xs : List X) {i : ℕ} {x : X} → i < length xs → x ≡ get_or xs i x → filter_map f (take i xs) ≡ [] →
    f x ≡ None → filter_map f (take (i + 1) xs) ≡ []
none_more f xs {i} {x} below is none found =
    ap (filter_map f) (take_more xs i x below)
    ∙ filter_map-append f (take i xs) (get_or xs i x ∷ [])
    ∙ ap (λ l. l ++ filter_map f (get_or xs i x ∷ [])) none
    ∙ ap (λ z. filter_map f (z ∷ [])) (sym is)
    ∙ ap (λ o. cons_option o []) found
