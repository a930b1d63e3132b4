-- What a loop knows that asks the same of each item of a list.
use Rattle.std.proofs.Common.{◌≡◌, ◌↔◌, ℕ, ◌+◌, ◌<◌, ◌≤◌, Bool, true, false, List, length, take, get_or, refl, sym, ◌∙◌, subst, true≢false, All, IsTrue}
use Rattle.std.proofs.lemmas.List.{take_all}
use Rattle.std.proofs.lemmas.List.Elements.{All-more, All-get_or}

module _ {X : Type 0} (P : X → Type 0) (xs : List X) where
  -- it holds of one item more
  pub each_more : {i : ℕ} {x : X} {r : Bool} → i < length xs → x ≡ get_or xs i x → (IsTrue r ↔ P x) → r ≡ true → All P (take i xs) → All P (take (i + 1) xs)
  each_more {i} {x} within is tells holds front = All-more P xs i x within front (subst P is (tells.0 holds))

  -- it doesn't hold of one item
  pub not_each : {i : ℕ} {x : X} {r : Bool} → i < length xs → x ≡ get_or xs i x → (IsTrue r ↔ P x) → r ≡ false → IsTrue false ↔ All P xs
  not_each {i} {x} within is tells fails = (
    λ wrong. absurd (true≢false (sym wrong)),
    λ all. absurd (true≢false (sym (tells.1 (subst P (sym is) (All-get_or P xs i x within all))) ∙ fails)),
  )

  -- it holds of all
  pub each : (n : ℕ) → length xs ≤ n → All P (take n xs) → IsTrue true ↔ All P xs
  each n whole front = (λ _. subst (All P) (take_all n xs whole) front, λ all. refl)
