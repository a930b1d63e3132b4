-- What a history needs to be whole, as tests tell it.
use Rattle.act_orders.proofs.Common.{◌≡◌, ℕ, zero, suc, ◌+◌, ◌<◌, ◌≤◌, List, length, get_or, eqb, Bool, true, false, refl, sym, ◌∙◌, arith, Some, IsTrue}
use Rattle.act_orders.proofs.Common.{IsAllAdjacentAnswer, IsNonDecreasingBy, nat_cmp, is_le, is_some_and, nat_tests, false≢true}
use Rattle.act_orders.proofs.Common.{IsNonDecreasingBy-from_all_adjacent, non_decreasing_from_is_sorted, le_from_is_le, Told, IsWhole, Rises, NumbersFit}
use Rattle.act_orders.proofs.Common.{Rising}

pub some_items : (n : ℕ) → eqb n 0 ≡ false → 0 < n
some_items zero e = absurd (false≢true (sym e))
some_items (suc n) e = omega arith

le_told : (a b : ℕ) → a ≤ b → is_le (nat_cmp a b) ≡ true
le_told a b le = grind (arith, nat_tests)

-- whether a slice is sorted tells whether its numbers rise
pub rise_told : (xs : List ℕ) (r : Bool) → IsAllAdjacentAnswer (λ x y b. is_some_and is_le (Some (nat_cmp x y)) ≡ b) xs r →
    (IsTrue r → Rises xs) × (Rises xs → IsTrue r)
rise_told xs true told = let rises = non_decreasing_from_is_sorted xs true told in ((λ _ i j le lt. rises i j 0 le lt), (λ _. refl))
rise_told xs false told =
    let falls = non_decreasing_from_is_sorted xs false told in (
      (λ no. absurd (false≢true no)),
      (λ rises. absurd (let h = rises falls.0 (falls.0 + 1) (omega arith) falls.1 in omega (arith, h, falls.2 0))),
    )

-- the same by a number of each item
pub rise_told_by : {X : Type 0} (n : X → ℕ) (xs : List X) (d : X) (r : Bool) →
    IsAllAdjacentAnswer (λ x y b. b ≡ is_some_and is_le (Some (nat_cmp (n x) (n y)))) xs r → (IsTrue r → (i j : ℕ) → i ≤ j → j < length xs →
    n (get_or xs i d) ≤ n (get_or xs j d)) × (((i j : ℕ) → i ≤ j → j < length xs → n (get_or xs i d) ≤ n (get_or xs j d)) → IsTrue r)
rise_told_by {X} n xs d true told =
    let rises : IsNonDecreasingBy n xs =
    IsNonDecreasingBy-from_all_adjacent n xs (λ k e lt. le_from_is_le _ _ (sym (told k e lt))) in
    ((λ _ i j le lt. rises i j d le lt), (λ _. refl))
rise_told_by {X} n xs d false told = (
  (λ no. absurd (false≢true no)),
  (λ rises. absurd (let le = le_told _ _ (rises told.0 (told.0 + 1) (omega arith) told.1) in false≢true (told.2 d ∙ le))),
)

-- ---- the parts of a whole history

pub whole_from : (told : Told) → NumbersFit told → Rising told → IsWhole told
whole_from told fit rise = record {
  few = fit.count.few;
  waits = λ n lt. (fit.calls n lt).waits;
  takes = λ n lt. (fit.calls n lt).takes;
  last_waits = fit.count.waits;
  actors = λ n lt. (fit.calls n lt).actor;
  runs = λ i lt. (fit.runs i lt).call;
  runners = λ i lt. (fit.runs i lt).actor;
  callers = rise.callers;
  run_actors = rise.actors;
  named = λ a lt. (fit.roles a lt).named;
  roles = λ a lt. (fit.roles a lt).rises;
}

pub numbers_of : (told : Told) → IsWhole told → NumbersFit told
numbers_of told whole = record {
  count = record { few = whole.few; waits = whole.last_waits };
  calls = λ n lt. record { actor = whole.actors n lt; waits = whole.waits n lt; takes = whole.takes n lt };
  runs = λ i lt. record { call = whole.runs i lt; actor = whole.runners i lt };
  roles = λ a lt. record { named = whole.named a lt; rises = whole.roles a lt };
}

pub rising_of : (told : Told) → IsWhole told → Rising told
rising_of told whole = record { callers = whole.callers; actors = whole.run_actors }
