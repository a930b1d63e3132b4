-- Where the data leaves an answer open, so do the lines.
use Rattle.act_decisions.proofs.Common.{◌≡◌, ℕ, zero, suc, ◌+◌, ◌≤◌, not, List, [], ◌∷◌, ◌++◌, filter, slice_get, Some, Option, refl, sym, ap, subst, ◌∙◌}
use Rattle.act_decisions.proofs.Common.{arith, ◌⊎◌, inl, inr, AllZip, flat_map, flat_map-append, space, actor_text, is_skipped, lines_in, future_text, one_to}
use Rattle.act_decisions.proofs.Common.{End, Stem, OfCall, Any, placed, stems_of, stems_of_actor, Agrees, AgreesKept, AreAgreed, IsLeftOpen, open_line}
use Rattle.act_decisions.proofs.Common.{stands_in}
use Rattle.act_rules.proofs.AsSubmitted.{filter-slice_get}
use Rattle.act_rules.proofs.Elements.{IsIn, in_behind, in_front}
use Rattle.act_summaries.specs.Stems.{Call}

last_or_before : (c n : ℕ) → c ≤ suc n → (c ≤ n) ⊎ (c ≡ suc n)
last_or_before zero n below = inl (omega arith)
last_or_before (suc c) zero below = inr (omega (arith, below))
last_or_before (suc c) (suc n) below = go (last_or_before c n (omega (arith, below)))
  where
    go : (c ≤ n) ⊎ (c ≡ suc n) → (suc c ≤ suc n) ⊎ (suc c ≡ suc (suc n))
    go (inl e) = inl (omega (arith, e))
    go (inr e) = inr (ap suc e)

of_number : {A : Type 0} (f : ℕ → List A) (n c : ℕ) {x : A} → 1 ≤ c → c ≤ n → IsIn (f c) x → IsIn (flat_map f (one_to n)) x
of_number f zero c some few at = absurd (omega (arith, some, few))
of_number {A = A} f (suc n) c {x} some few at =
    subst (λ l. IsIn l x) (sym (flat_map-append f (one_to n) (suc n ∷ []))) (go (λ e. of_number f n c some e at) (last_or_before c n few))
  where
    go : (c ≤ n → IsIn (flat_map f (one_to n)) x) → (c ≤ n) ⊎ (c ≡ suc n) → IsIn (flat_map f (one_to n) ++ flat_map f (suc n ∷ [])) x
    go before (inl e) = in_front (flat_map f (one_to n) ++ flat_map f (suc n ∷ [])) (flat_map f (suc n ∷ []), refl) (before e)
    go before (inr e) = in_behind (flat_map f (one_to n)) (flat_map f (suc n ∷ [])) (in_front (f (suc n) ++ []) ([], refl) (subst (λ m. IsIn (f m) x) e at))

put : {X : Type 0} (stem_of : ℕ → X → Stem) (place : ℕ) (xs : List X) (k : ℕ) (x : X) → slice_get xs k ≡ Some x
    → IsIn (placed stem_of place xs) (stem_of (place + k) x)
put stem_of place [] k x e = cc
put stem_of place (y ∷ xs) zero x e =
    let same : place ≡ place + 0 = omega arith in let is : y ≡ x = cc in
    record { place = zero; at = ap (λ s. Some s) (ap (stem_of place) is ∙ ap (λ n. stem_of n x) same) }
put stem_of place (y ∷ xs) (suc k) x e =
    let same : (place + 1) + k ≡ place + suc k = omega arith in let more = put stem_of (place + 1) xs k x e in
    record { place = suc more.place; at = more.at ∙ ap (λ n. Some (stem_of n x)) same }

beside : {A B : Type 0} (R : A → B → Type 0) (xs : List A) (ys : List B) (i : ℕ) (x : A) → AllZip R xs ys → slice_get xs i ≡ Some x → (y : B)
    × (slice_get ys i ≡ Some y) × R x y
beside R [] ys i x all e = cc
beside R (x ∷ xs) [] i z all e = absurd all
beside R (x ∷ xs) (y ∷ ys) zero z all e = let same : x ≡ z = cc in (y, refl, subst (λ a. R a y) same all.0)
beside R (x ∷ xs) (y ∷ ys) (suc i) z all e = beside R xs ys i z all.1 e

pub left_open : (calls : ℕ → List Call) (ends : ℕ → Option End) (bytes : List ℕ) (c k : ℕ) {call : Call} → AreAgreed (stems_of calls ends) bytes → 1 ≤ c →
    c ≤ 16 → slice_get (calls c) k ≡ Some call → call.kept ≡ Any → IsLeftOpen bytes c k
left_open calls ends bytes c k {call} agreed some few at any =
    let there = filter-slice_get (λ line. not (is_skipped line)) (lines_in bytes) stem.place line.1 in
    (call.actor, stands_in (lines_in bytes) there.place (there.at ∙ ap (λ l. Some l) line_is))
  where
    same : 0 + k ≡ k
    same = omega arith

    stem : IsIn (stems_of calls ends) (OfCall c k call)
    stem = subst (λ n. IsIn (stems_of calls ends) (OfCall c n call)) same
        (in_front (stems_of calls ends) (flat_map (λ a. stems_of_actor a (ends a)) (one_to 8), refl)
        (of_number (λ c. placed (OfCall c) 0 (calls c)) 16 c some few (put (OfCall c) 0 (calls c) k call at)))

    line : (line : List ℕ) × (slice_get (filter (λ line. not (is_skipped line)) (lines_in bytes)) stem.place ≡ Some line) × Agrees (OfCall c k call) line
    line = beside Agrees (stems_of calls ends) (filter (λ line. not (is_skipped line)) (lines_in bytes)) stem.place (OfCall c k call) agreed stem.at

    line_is : line.0 ≡ open_line c k call.actor
    line_is = subst (λ kept. AgreesKept kept (future_text c k ++ space ++ actor_text call.actor) line.0) any line.2.1
