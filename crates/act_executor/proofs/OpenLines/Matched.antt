-- Two casts with three callers, and the parts of these, which the test opens.
use Rattle.act_executor.proofs.Common.{◌≡◌, ◌≢◌, ℕ, true, false, List, [], ◌∷◌, All, Contains, map, refl, sym, ◌∙◌, subst, arith, ◌==◌, ◌&&◌, ◌||◌, AllPairs}
use Rattle.act_executor.proofs.Common.{list_any, All-nil, All-cons, AllPairs-cons, contains, All-two, CallersDiffer, Cast, CallerSetup, AreMatched}
use Rattle.act_executor.proofs.Lists.Cuts.{pairs_one}

module _ {X : Type 0} (R : X → X → Type 0) where
  two_apart : (x y : X) → R x y → AllPairs R (x ∷ y ∷ [])
  two_apart x y apart = AllPairs-cons R x (y ∷ []) (All-cons (R x) y [] apart (All-nil (R x))) (pairs_one R y)

  three_apart : (x y z : X) → R x y → R x z → R y z → AllPairs R (x ∷ y ∷ z ∷ [])
  three_apart x y z one two three =
      AllPairs-cons R x (y ∷ z ∷ []) (All-cons (R x) y (z ∷ []) one (All-cons (R x) z [] two (All-nil (R x)))) (two_apart y z three)

all_three : {X : Type 0} (P : X → Type 0) (x y z : X) → P x → P y → P z → All P (x ∷ y ∷ z ∷ [])
all_three P x y z one two three = All-cons P x (y ∷ z ∷ []) one (All-two P y z two three)

-- who a cast and who a part names
pub record IsCast {K : Type 0} (a c d : ℕ) (cast : Cast K) : Type 0 where
  pub actor : cast.actor ≡ a
  pub callers : cast.callers ≡ c ∷ d ∷ []

pub record IsPart (c : ℕ) (actors : List ℕ) (setup : CallerSetup) : Type 0 where
  pub caller : setup.caller ≡ c
  pub actors_are : setup.actors.items ≡ actors

module _ {K : Type 0} (one two : Cast K) (is_one : IsCast 5 2 7 one) (is_two : IsCast 3 7 1 two) (both last first : CallerSetup)
    (is_both : IsPart 7 (5 ∷ 3 ∷ []) both) (is_last : IsPart 1 (3 ∷ []) last) (is_first : IsPart 2 (5 ∷ []) first) where
  abbrev casts : List (Cast K)
  casts = one ∷ two ∷ []

  abbrev setups : List CallerSetup
  setups = both ∷ last ∷ first ∷ []

  -- what a part is to know
  abbrev Knows : ℕ → List ℕ → Type 0
  Knows c actors = (a : ℕ) → contains a actors ≡ list_any (λ cast. (cast.actor == a) && contains c cast.callers) casts

  known_by : {setup : CallerSetup} (c : ℕ) {actors : List ℕ} → IsPart c actors setup → ((a : ℕ) → contains a actors ≡ list_any
      (λ (cast : ℕ × List ℕ). (cast.0 == a) && contains c cast.1) ((5, 2 ∷ 7 ∷ []) ∷ (3, 7 ∷ 1 ∷ []) ∷ [])) → Knows setup.caller setup.actors.items
  known_by c is known a = rw (is.caller, is.actors_are, is_one.actor, is_one.callers, is_two.actor, is_two.callers) (known a)

  pub are_matched : AreMatched casts setups
  are_matched = record {
    actors_differ =
        two_apart (λ (x y : Cast K). x.actor ≢ y.actor) one two (λ same. let bad : 5 ≡ 3 = sym is_one.actor ∙ same ∙ is_two.actor in absurd (omega arith));
    callers_differ = All-two (λ (cast : Cast K). CallersDiffer cast.callers) one two (subst CallersDiffer (sym is_one.callers) (two_apart (λ m n. m ≢ n) 2 7
        (λ same. absurd (omega arith)))) (subst CallersDiffer (sym is_two.callers) (two_apart (λ m n. m ≢ n) 7 1 (λ same. absurd (omega arith))));
    setups_differ = three_apart (λ (x y : CallerSetup). x.caller ≢ y.caller) both last first (λ same. let bad : 7 ≡ 1 = sym is_both.caller ∙ same ∙
        is_last.caller in absurd (omega arith)) (λ same. let bad : 7 ≡ 2 = sym is_both.caller ∙ same ∙ is_first.caller in absurd (omega arith))
        (λ same. let bad : 1 ≡ 2 = sym is_last.caller ∙ same ∙ is_first.caller in absurd (omega arith));
    taking_setup = All-two (λ (cast : Cast K). All (Contains (map (λ (setup : CallerSetup). setup.caller) setups)) cast.callers) one two
        (subst (λ l. All (Contains (map (λ (setup : CallerSetup). setup.caller) setups)) l) (sym is_one.callers)
        (All-two (Contains (map (λ (setup : CallerSetup). setup.caller) setups)) 2 7 (2, omega arith, is_first.caller) (0, omega arith, is_both.caller)))
        (subst (λ l. All (Contains (map (λ (setup : CallerSetup). setup.caller) setups)) l) (sym is_two.callers)
        (All-two (Contains (map (λ (setup : CallerSetup). setup.caller) setups)) 7 1 (0, omega arith, is_both.caller) (1, omega arith, is_last.caller)));
    own_differ = all_three (λ (setup : CallerSetup). CallersDiffer setup.actors.items) both last first (subst CallersDiffer (sym is_both.actors_are)
        (two_apart (λ m n. m ≢ n) 5 3 (λ same. absurd (omega arith)))) (subst CallersDiffer (sym is_last.actors_are) (pairs_one (λ m n. m ≢ n) 3))
        (subst CallersDiffer (sym is_first.actors_are) (pairs_one (λ m n. m ≢ n) 5));
    known = all_three (λ (setup : CallerSetup). Knows setup.caller setup.actors.items) both last first
        (known_by 7 is_both (λ a. elim (5 == a) as (λ x. (x || ((3 == a) || false)) ≡ ((x && true) || (((3 == a) && true) || false))) [
          | true ↦ refl
          | false ↦ elim (3 == a) as (λ y. (y || false) ≡ ((y && true) || false)) [ true ↦ refl | false ↦ refl ]
        ]))
        (known_by 1 is_last (λ a. elim (5 == a) as (λ x. ((3 == a) || false) ≡ ((x && false) || (((3 == a) && true) || false))) [
          | true ↦ elim (3 == a) as (λ y. (y || false) ≡ ((y && true) || false)) [ true ↦ refl | false ↦ refl ]
          | false ↦ elim (3 == a) as (λ y. (y || false) ≡ ((y && true) || false)) [ true ↦ refl | false ↦ refl ]
        ]))
        (known_by 2 is_first (λ a. elim (5 == a) as (λ x. (x || false) ≡ ((x && true) || (((3 == a) && false) || false))) [
          | true ↦ refl
          | false ↦ elim (3 == a) as (λ y. false ≡ ((y && false) || false)) [ true ↦ refl | false ↦ refl ]
        ]));
  }
