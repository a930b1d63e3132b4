-- Items beside their stamps, and what is found in steps.
use Rattle.act_executor.proofs.Common.{◌≡◌, ℕ, zero, suc, ◌<◌, List, [], ◌∷◌, map, zip, Some, None, refl, ap, sym, ◌∙◌, subst, Bool, ◌==◌, filter, filter_map}
use Rattle.act_executor.proofs.Common.{Option, option_map, slice_get, AllZip, cons_option, eq-eqb, slice_get-map, IsPrefix, found_in, AreTakenLater, IsIn}
use Rattle.act_executor.proofs.Common.{in_filter, in_front}

-- what holds side by side holds of each pair
zipped_at : {A B : Type 0} (R : A → B → Type 0) (xs : List A) (ys : List B) (k : ℕ) (x : A) (y : B) → AllZip R xs ys → slice_get (zip xs ys) k ≡ Some (x, y) →
    R x y
zipped_at R [] ys k x y all e = cc
zipped_at R (a ∷ xs) [] k x y all e = cc
zipped_at {A} {B} R (a ∷ xs) (b ∷ ys) zero x y all e = let same : ◌≡◌ {A = A × B} (a, b) (x, y) = cc in subst (λ (p : A × B). R p.0 p.1) same all.0
zipped_at R (a ∷ xs) (b ∷ ys) (suc k) x y all e = zipped_at R xs ys k x y all.1 e

-- what holds side by side of two lists holds of a pair that stands in both zipped
pub zipped : {A B : Type 0} (R : A → B → Type 0) (xs : List A) (ys : List B) {x : A} (y : B) → AllZip R xs ys → IsIn {A = A × B} (zip xs ys) (x, y) → R x y
zipped R xs ys {x} y all i = zipped_at R xs ys i.place x y all i.at

-- an item stands in its list with the stamp that it was put with, which is below m
pub record IsTakenFrom {X : Type 0} (taken : List X) (stamps : List ℕ) (x : X) (m : ℕ) : Type 0 where
  pub stamp : ℕ
  pub taken_is : IsIn taken x
  pub at : IsIn {A = X × ℕ} (zip taken stamps) (x, stamp)
  pub earlier : stamp < m

later_at : {X : Type 0} (found : List (ℕ × X)) (stamps : List ℕ) (k m : ℕ) (x : X) → AreTakenLater found stamps → slice_get found k ≡ Some (m, x) →
    (n : ℕ) × (slice_get (zip (map (λ (y : ℕ × X). y.1) found) stamps) k ≡ Some (x, n)) × (n < m)
later_at [] stamps k m x all e = cc
later_at (y ∷ found) [] k m x all e = absurd all
later_at {X} (y ∷ found) (n ∷ stamps) zero m x all e =
    let same : ◌≡◌ {A = ℕ × X} y (m, x) = cc in let beside : ℕ × X → Option (X × ℕ) = λ p. Some (p.1, n) in
    (n, ap beside same, subst (λ (p : ℕ × X). n < p.0) same all.0)
later_at (y ∷ found) (n ∷ stamps) (suc k) m x all e = later_at found stamps k m x all.1 e

-- what was found in a step was taken, with a stamp below the step's
pub found_taken : {X : Type 0} {found : List (ℕ × X)} {taken : List X} (stamps : List ℕ) (m : ℕ) {x : X} → map (λ y. y.1) found ≡ taken →
    AreTakenLater found stamps → IsIn {A = ℕ × X} found (m, x) → IsTakenFrom taken stamps x m
found_taken {X} {found} stamps m {x} same later i =
    let l = later_at found stamps i.place m x later i.at in
    let there : slice_get (map (λ (y : ℕ × X). y.1) found) i.place ≡ Some x =
    slice_get-map (λ (y : ℕ × X). y.1) found i.place ∙ ap (option_map (λ (y : ℕ × X). y.1)) i.at in
    record {
      stamp = l.0;
      taken_is = subst (λ xs. IsIn xs x) same (record { place = i.place; at = there });
      at = subst (λ xs. IsIn {A = X × ℕ} (zip xs stamps) (x, l.0)) same (record { place = i.place; at = l.1 });
      earlier = l.2;
    }

-- what stands in a list gives what its mapping gives
pub mapped_at : {A B : Type 0} (h : A → Option B) (xs : List A) (k : ℕ) {x : A} (y : B) → slice_get xs k ≡ Some x → h x ≡ Some y → IsIn (filter_map h xs) y
mapped_at h [] k y e gives = cc
mapped_at {A} {B} h (z ∷ xs) zero {x} y e gives =
    let same : z ≡ x = cc in let here : h z ≡ Some y = ap h same ∙ gives in
    subst (λ o. IsIn (cons_option o (filter_map h xs)) y) (sym here) (record { place = 0; at = refl })
mapped_at {A} {B} h (z ∷ xs) (suc k) {x} y e gives = go (h z) (mapped_at h xs k y e gives)
  where
    go : (o : Option B) → IsIn (filter_map h xs) y → IsIn (cons_option o (filter_map h xs)) y
    go None i = i
    go (Some w) i = record { place = suc i.place; at = i.at }

-- what a step has is found with its stamp
pub found_step : {S X : Type 0} (part : S → Option X) (trace : List (ℕ × S)) (m : ℕ) {step : S} (x : X) → part step ≡ Some x →
    IsIn {A = ℕ × S} trace (m, step) → IsIn {A = ℕ × X} (found_in part trace) (m, x)
found_step {S} {X} part trace m {step} x has i =
    mapped_at (λ (y : ℕ × S). option_map (λ found. (y.0, found)) (part y.1)) trace i.place (m, x) i.at (ap (option_map (λ found. (m, found))) has)

-- what was taken of a putter stands among what it put, with the same stamp
pub put_with : {X : Type 0} (putter_of : X → ℕ) (c : ℕ) (taken : List X) (stamps : List ℕ) (put : List X) (marks : List ℕ) {x : X} (n : ℕ) →
    IsPrefix (filter (λ y. putter_of y.0 == c) (zip taken stamps)) (zip put marks) → putter_of x ≡ c → IsIn {A = X × ℕ} (zip taken stamps) (x, n) →
    IsIn {A = X × ℕ} (zip put marks) (x, n)
put_with {X} putter_of c taken stamps put marks {x} n front of_c i =
    let mine : X × ℕ → Bool = λ y. putter_of y.0 == c in in_front (zip put marks) front (in_filter mine i (eq-eqb (putter_of x) c of_c))
