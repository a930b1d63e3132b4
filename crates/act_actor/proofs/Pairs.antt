-- Lists of which no two elements are the same in something.
use Rattle.act_actor.proofs.Common.{◌≡◌, ◌≢◌, ℕ, ◌+◌, ◌<◌, ◌≤◌, ◌==◌, true, false, List, AllPairs, length, get_or, take, ap, sym, ◌∙◌, true≢false, eq-eqb}
use Rattle.act_actor.proofs.Common.{arith, take_more, take_all, get_or_default, get_or-take}
use Rattle.std.specs.List.{list_any}
use Rattle.std.proofs.lemmas.Bool.Decides.{Decides-eqb}
use Rattle.std.proofs.lemmas.Grind.{common_steps}
use Rattle.std.proofs.lemmas.List.Folds.{list_any_at, Any-from_list_any}
use Rattle.std.proofs.lemmas.List.Quantifiers.{all_pairs_push}

-- one more element, which is the same as none before it
pub differ_more : {X : Type 0} (f : X → ℕ) (xs : List X) {i : ℕ} {x : X} → i < length xs → x ≡ get_or xs i x → AllPairs (λ one other. f one ≢ f other)
    (take i xs) → list_any (λ other. f other == f x) (take i xs) ≡ false → AllPairs (λ one other. f one ≢ f other) (take (i + 1) xs)
differ_more f xs {i} {x} within is differ none =
    rw (take_more xs i x within, ← is)
    (all_pairs_push (λ one other. f one ≢ f other) (take i xs) x differ
    (λ k d below same. true≢false (sym (list_any_at (λ other. f other == f x) (take i xs) k d below (eq-eqb _ _ same)) ∙ none)))

-- an element that is the same as one before it
pub differ_not : {X : Type 0} (f : X → ℕ) (xs : List X) {i : ℕ} {x : X} → i < length xs → x ≡ get_or xs i x
    → list_any (λ other. f other == f x) (take i xs) ≡ true → AllPairs (λ one other. f one ≢ f other) xs → ⊥
differ_not f xs {i} {x} within is found differ =
    let any = Any-from_list_any (λ other. f other == f x) (take i xs) found in
    let earlier : any.0 < i = grind (arith, common_steps, any.2) in
    differ any.0 i x earlier within
    (ap f (get_or_default xs any.0 x any.1 (omega arith) ∙ sym (get_or-take i xs any.0 any.1 earlier) ∙ any.3) ∙ (Decides-eqb _ _).0 any.4 ∙ ap f is)

-- all of them
pub pairs_all : {X : Type 0} (R : X → X → Type 0) (xs : List X) {i : ℕ} → length xs ≤ i → AllPairs R (take i xs) → AllPairs R xs
pairs_all R xs {i} end pairs = rw (take_all i xs end) at pairs
