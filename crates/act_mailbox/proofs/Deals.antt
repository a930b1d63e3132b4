-- The next of several distinct putters has no pass yet.
use Rattle.std.proofs.Common.{◌≡◌, ◌≢◌, ℕ, ◌<◌, List, ◌++◌, length, take, get_or, sym, ◌∙◌, ⊎_elim, arith, Contains, AllPairs}
use Rattle.std.proofs.lemmas.List.{get_or-take, length-take-le}
use Rattle.std.proofs.lemmas.List.Elements.{Contains-append_cases}

pub fresh_next : (before numbers : List ℕ) {i : ℕ} (x : ℕ) → i < length numbers → x ≡ get_or numbers i x → AllPairs (λ one other. one ≢ other) numbers →
    (Contains before x → ⊥) → Contains (before ++ take i numbers) x → ⊥
fresh_next before numbers {i} x lt is distinct fresh has = ⊎_elim fresh within (Contains-append_cases before (take i numbers) x has)
  where
    within : Contains (take i numbers) x → ⊥
    within at =
        let long : length (take i numbers) ≡ i = length-take-le i numbers (omega arith) in
        let short : at.0 < i = omega (arith, at.1, long) in distinct at.0 i x short lt (sym (get_or-take i numbers at.0 x short) ∙ at.2 ∙ is)
