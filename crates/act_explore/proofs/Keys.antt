-- Paths with the same key have the same choices.
use Rattle.act_explore.proofs.Common.{◌≡◌, ℕ, zero, suc, ◌+◌, ◌<◌, ◌≤◌, ◌==◌, Bool, true, false, List, [], ◌∷◌, ◌++◌, map, if◌then◌else◌, refl, sym, ap, ◌∙◌}
use Rattle.act_explore.proofs.Common.{arith, All, Contains, inl, inr, ◌⊎◌, flat_map, append_assoc, ne_eqb, cases_lt, All-contains, All-nil, All-cons, All-head}
use Rattle.act_explore.proofs.Common.{All-tail, one_to, in_one_to, Choice, Run, Take, runs_in, takes_in, letter_of, part_of, HasNumber}
use Rattle.act_explore.specs.Paths.{key_of}
use Rattle.act_executor.proofs.OpenLines.SpecsFit.{within as in_limit}

-- the actor's choices are the same on both
pub record AreSame (p q : List Choice) (a : ℕ) : Type 0 where
  pub runs : runs_in a p ≡ runs_in a q
  pub takes : takes_in a p ≡ takes_in a q

-- letters up to the end of a line
record AreCut (xs ys : List ℕ) (r s : List ℕ) : Type 0 where
  front : xs ≡ ys
  back : r ≡ s

cut : (xs ys r s : List ℕ) → map letter_of xs ++ 10 ∷ r ≡ map letter_of ys ++ 10 ∷ s → AreCut xs ys r s
cut [] [] r s e = record { front = refl; back = cc }
cut [] (y ∷ ys) r s e = let apart : 10 ≡ 96 + y = cc in absurd (omega (arith, apart))
cut (x ∷ xs) [] r s e = let apart : 96 + x ≡ 10 = cc in absurd (omega (arith, apart))
cut (x ∷ xs) (y ∷ ys) r s e =
    let heads : 96 + x ≡ 96 + y = cc in let same : x ≡ y = omega (arith, heads) in
    let tails : map letter_of xs ++ 10 ∷ r ≡ map letter_of ys ++ 10 ∷ s = cc in
    let later = cut xs ys r s tails in let front = later.front in record { front = cc; back = later.back }

abbrev mark : Bool → ℕ
mark taken = if taken then 33 else 46

marks : (t u : Bool) → mark t ≡ mark u → t ≡ u
marks true true e = refl
marks true false e = absurd (omega (arith, e))
marks false true e = absurd (omega (arith, e))
marks false false e = refl

part : (p : List Choice) (a : ℕ) (r : List ℕ) → part_of p a ++ r ≡ mark (takes_in a p) ∷ map letter_of (runs_in a p) ++ 10 ∷ r
part p a r = ap (λ l. mark (takes_in a p) ∷ l) (append_assoc (map letter_of (runs_in a p)) (10 ∷ []) r)

-- one part after another
parts : (p q : List Choice) (actors : List ℕ) → flat_map (part_of p) actors ≡ flat_map (part_of q) actors → All (AreSame p q) actors
parts p q [] e = All-nil (AreSame p q)
parts p q (a ∷ actors) e =
    let m : ℕ = mark (takes_in a p) in let n : ℕ = mark (takes_in a q) in
    let whole : m ∷ (map letter_of (runs_in a p) ++ 10 ∷ flat_map (part_of p) actors) ≡ n ∷ (map letter_of (runs_in a q) ++ 10 ∷ flat_map (part_of q) actors) =
    sym (part p a (flat_map (part_of p) actors)) ∙ e ∙ part q a (flat_map (part_of q) actors) in
    let head : m ≡ n = cc in
    let tail : map letter_of (runs_in a p) ++ 10 ∷ flat_map (part_of p) actors ≡ map letter_of (runs_in a q) ++ 10 ∷ flat_map (part_of q) actors = cc in
    let apart = cut (runs_in a p) (runs_in a q) (flat_map (part_of p) actors) (flat_map (part_of q) actors) tail in
    All-cons (AreSame p q) a actors (record { runs = apart.front; takes = marks (takes_in a p) (takes_in a q) head }) (parts p q actors apart.back)

-- an actor beyond the limit has no choices
module _ (a : ℕ) (out : (b : ℕ) → Contains (one_to 8) b → (b == a) ≡ false) where
  none_run : (p : List Choice) → All HasNumber p → runs_in a p ≡ []
  none_run [] of = refl
  none_run (Run b c ∷ p) of = rw (out b (All-head HasNumber (Run b c) p of)) (none_run p (All-tail HasNumber (Run b c) p of))
  none_run (Take b ∷ p) of = none_run p (All-tail HasNumber (Take b) p of)

  none_take : (p : List Choice) → All HasNumber p → takes_in a p ≡ false
  none_take [] of = refl
  none_take (Run b c ∷ p) of = none_take p (All-tail HasNumber (Run b c) p of)
  none_take (Take b ∷ p) of = rw (out b (All-head HasNumber (Take b) p of)) (none_take p (All-tail HasNumber (Take b) p of))

beyond : (p q : List Choice) (a : ℕ) → All HasNumber p → All HasNumber q → ((b : ℕ) → Contains (one_to 8) b → (b == a) ≡ false) → AreSame p q a
beyond p q a of by out = record { runs = none_run a out p of ∙ sym (none_run a out q by); takes = none_take a out p of ∙ sym (none_take a out q by) }

pub same_key : (p q : List Choice) → All HasNumber p → All HasNumber q → key_of p ≡ key_of q → (a : ℕ) → AreSame p q a
unfolding key_of
same_key p q of by e zero = beyond p q zero of by (λ b at. let in_it = in_limit 8 b at in ne_eqb b zero (λ same. omega (arith, in_it.0, same)))
same_key p q of by e (suc n) = go (cases_lt 8 (suc n))
  where
    go : (8 < suc n) ⊎ (suc n ≤ 8) → AreSame p q (suc n)
    go (inl above) = beyond p q (suc n) of by (λ b at. let in_it = in_limit 8 b at in ne_eqb b (suc n) (λ same. omega (arith, in_it.1, same)))
    go (inr within) = All-contains (AreSame p q) (one_to 8) (suc n) (parts p q (one_to 8) e) (in_one_to 8 (omega arith) within)
