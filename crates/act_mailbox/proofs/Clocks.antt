-- Laws of steps in time, and of what is found in the steps of a trace.
use Rattle.std.proofs.Common.{◌≡◌, ℕ, ◌<◌, ◌≤◌, List, [], ◌∷◌, ◌++◌, map, Option, Some, None, refl, ap, sym, ◌∙◌, subst, arith, append-nil}
use Rattle.std.specs.Prelude.{filter_map, option_map}
use Rattle.std.specs.List.{AllZip, cons_option}
use Rattle.std.proofs.lemmas.List.{map-append}
use Rattle.std.proofs.lemmas.List.Elements.{All-push, filter_map-append}
use Rattle.std.proofs.lemmas.List.Quantifiers.{all_pairs_push}
use Rattle.std.proofs.lemmas.Slice.Zip.{all_zipped_more}
use Rattle.act_mailbox.specs.Traces.{steps_in, found_in, IsTimed, AreTakenLater}

-- ---- items and their stamps

-- where one relation gives another, two lists paired by the first are paired by the second
pub all_zip_weaker : {A B : Type 0} (R Q : A → B → Type 0) (xs : List A) (ys : List B) → ((x : A) (y : B) → R x y → Q x y) → AllZip R xs ys → AllZip Q xs ys
all_zip_weaker R Q [] [] f h = tt
all_zip_weaker R Q [] (b ∷ ys) f h = absurd h
all_zip_weaker R Q (a ∷ xs) [] f h = absurd h
all_zip_weaker R Q (a ∷ xs) (b ∷ ys) f h = (f a b h.0, all_zip_weaker R Q xs ys f h.1)

-- ---- what is found in steps

module _ {S X : Type 0} (part : S → Option X) where
  found_next : (n : ℕ) (o : Option X) (found : List (ℕ × X)) {others : List X} → map (λ (x : ℕ × X). x.1) found ≡ others
      → map (λ (x : ℕ × X). x.1) (cons_option (option_map (λ x. (n, x)) o) found) ≡ cons_option o others
  found_next n None found e = e
  found_next n (Some x) found e = ap (λ l. x ∷ l) e

  -- without the stamps, it is what is found in the steps alone
  pub found_alone : (trace : List (ℕ × S)) → map (λ (x : ℕ × X). x.1) (found_in part trace) ≡ filter_map part (steps_in trace)
  found_alone [] = refl
  found_alone (x ∷ trace) = found_next x.0 (part x.1) (found_in part trace) (found_alone trace)

  -- what is found in a trace with more behind: what is found in it, then what in the rest
  pub found_more : (trace more : List (ℕ × S)) → found_in part (trace ++ more) ≡ found_in part trace ++ found_in part more
  found_more trace more = filter_map-append (λ (x : ℕ × S). option_map (λ found. (x.0, found)) (part x.1)) trace more

  found_last : (n : ℕ) (step : S) {o : Option X} → part step ≡ o → found_in part ((n, step) ∷ []) ≡ cons_option (option_map (λ x. (n, x)) o) []
  found_last n step e = ap (λ p. cons_option (option_map (λ x. (n, x)) p) []) e

  pub found_one : (trace : List (ℕ × S)) (n : ℕ) (step : S) (x : X) → part step ≡ Some x →
      found_in part (trace ++ (n, step) ∷ []) ≡ found_in part trace ++ (n, x) ∷ []
  found_one trace n step x e = found_more trace ((n, step) ∷ []) ∙ ap (λ l. found_in part trace ++ l) (found_last n step e)

  pub found_none : (trace : List (ℕ × S)) (n : ℕ) (step : S) → part step ≡ None → found_in part (trace ++ (n, step) ∷ []) ≡ found_in part trace
  found_none trace n step e = found_more trace ((n, step) ∷ []) ∙ ap (λ l. found_in part trace ++ l) (found_last n step e) ∙ append-nil (found_in part trace)

-- the steps of a trace with more behind are its own, then those of the rest
pub steps_more : {S : Type 0} (trace more : List (ℕ × S)) → steps_in (trace ++ more) ≡ steps_in trace ++ steps_in more
steps_more {S} trace more = map-append (λ (x : ℕ × S). x.1) trace more

-- ---- steps in time

-- a trace that is in time stays so where the clock shows more
pub timed_later : {S : Type 0} {now later : ℕ} {trace : List (ℕ × S)} → now ≤ later → IsTimed now trace → IsTimed later trace
timed_later le h = record { rising = h.rising; past = λ k d lt. let was = h.past k d lt in omega (arith, was, le) }

-- one step more, at a time that the clock shows by then
pub timed_push : {S : Type 0} {now n : ℕ} (later : ℕ) {trace : List (ℕ × S)} (step : S) → now ≤ n → n ≤ later → IsTimed now trace →
    IsTimed later (trace ++ (n, step) ∷ [])
timed_push {S} {n} later {trace} step le after h = record {
  rising =
      all_pairs_push (λ (one : ℕ × S) (other : ℕ × S). one.0 ≤ other.0) trace (n, step) h.rising (λ k d lt. let was = h.past k d lt in omega (arith, was, le));
  past = All-push (λ (x : ℕ × S). x.0 ≤ later) trace (n, step) (λ k d lt. let was = h.past k d lt in omega (arith, was, le, after)) after;
}

-- one more was taken, at a time after it was put
pub later_push : {X : Type 0} (taken : List (ℕ × X)) (stamps : List ℕ) (n stamp : ℕ) (x : X) → stamp < n → AreTakenLater taken stamps →
    AreTakenLater (taken ++ (n, x) ∷ []) (stamps ++ stamp ∷ [])
later_push {X} taken stamps n stamp x lt h = all_zipped_more (λ (y : ℕ × X) s. s < y.0) taken stamps (n, x) stamp h lt

-- ---- what was taken, after one step more

module _ {S X : Type 0} (part : S → Option X) (trace : List (ℕ × S)) (n : ℕ) (step : S) where
  -- where x is found in the step, it comes behind what was found before
  pub part_one : (x : X) {taken more : List X} → part step ≡ Some x → map (λ (y : ℕ × X). y.1) (found_in part trace) ≡ taken → more ≡ taken ++ x ∷ []
      → map (λ (y : ℕ × X). y.1) (found_in part (trace ++ (n, step) ∷ [])) ≡ more
  part_one x e was is =
      ap (map (λ (y : ℕ × X). y.1)) (found_one part trace n step x e)
      ∙ map-append (λ (y : ℕ × X). y.1) (found_in part trace) ((n, x) ∷ [])
      ∙ ap (λ l. l ++ x ∷ []) was
      ∙ sym is

  -- where nothing is found in the step, what was found stays
  pub part_none : {taken : List X} (more : List X) → part step ≡ None → map (λ (y : ℕ × X). y.1) (found_in part trace) ≡ taken → more ≡ taken
      → map (λ (y : ℕ × X). y.1) (found_in part (trace ++ (n, step) ∷ [])) ≡ more
  part_none more e was is = ap (map (λ (y : ℕ × X). y.1)) (found_none part trace n step e) ∙ was ∙ sym is

  -- where x is found in the step, at a time above its stamp, all are taken later than they were put
  pub later_one : (x : X) {stamp : ℕ} (stamps : List ℕ) {more : List ℕ} → part step ≡ Some x → stamp < n → AreTakenLater (found_in part trace) stamps →
      more ≡ stamps ++ stamp ∷ [] → AreTakenLater (found_in part (trace ++ (n, step) ∷ [])) more
  later_one x {stamp} stamps e lt was is =
      subst (λ (y : List (ℕ × X) × List ℕ). AreTakenLater y.0 y.1) (λ i. (sym (found_one part trace n step x e) i, sym is i))
      (later_push (found_in part trace) stamps n stamp x lt was)

  -- where nothing is found in the step, all stay taken later than they were put
  pub later_none : (stamps more : List ℕ) → part step ≡ None → AreTakenLater (found_in part trace) stamps → more ≡ stamps →
      AreTakenLater (found_in part (trace ++ (n, step) ∷ [])) more
  later_none stamps more e was is = subst (λ (y : List (ℕ × X) × List ℕ). AreTakenLater y.0 y.1) (λ i. (sym (found_none part trace n step e) i, sym is i)) was
