-- What stays of a list that loses some elements, none of which gives anything.
use Rattle.act_executor.proofs.Common.{◌≡◌, ℕ, Bool, true, false, cond, List, [], ◌∷◌, ◌++◌, Some, None, refl, ap, sym, ◌∙◌, append-nil, ◌||◌, filter}
use Rattle.act_executor.proofs.Common.{filter_map, Option, option_map, list_any, cons_option, filter-append, steps_in, found_in}

module _ {S : Type 0} (keep : S → Bool) where
  -- whether a step is kept, with its stamp
  abbrev pub keep_stamped : ℕ × S → Bool
  keep_stamped x = keep x.1

  -- the steps of what is kept of a trace are what is kept of its steps
  pub kept_steps : (trace : List (ℕ × S)) → steps_in (filter keep_stamped trace) ≡ filter keep (steps_in trace)
  kept_steps [] = refl
  kept_steps (x ∷ trace) = go (keep x.1) (kept_steps trace)
    where
      go : (b : Bool) → steps_in (filter keep_stamped trace) ≡ filter keep (steps_in trace) → steps_in
          (cond b (x ∷ filter keep_stamped trace) (filter keep_stamped trace)) ≡ cond b (x.1 ∷ filter keep (steps_in trace)) (filter keep (steps_in trace))
      go true rest = ap (λ l. x.1 ∷ l) rest
      go false rest = rest

  pub kept_any : (p : S → Bool) → ((x : S) → keep x ≡ false → p x ≡ false) → (xs : List S) → list_any p (filter keep xs) ≡ list_any p xs
  kept_any p none [] = refl
  kept_any p none (x ∷ xs) = go (keep x) refl (kept_any p none xs)
    where
      go : (b : Bool) → keep x ≡ b → list_any p (filter keep xs) ≡ list_any p xs →
          list_any p (cond b (x ∷ filter keep xs) (filter keep xs)) ≡ (p x || list_any p xs)
      go true is rest = ap (λ b. p x || b) rest
      go false is rest = rest ∙ sym (ap (λ b. b || list_any p xs) (none x is))

  -- what is found in a list is found in what is kept of it, where the rest gives nothing
  pub kept_found : {X : Type 0} (part : S → Option X) → ((x : S) → keep x ≡ false → part x ≡ None) → (xs : List S) →
      filter_map part (filter keep xs) ≡ filter_map part xs
  kept_found part none [] = refl
  kept_found {X} part none (x ∷ xs) = go (keep x) refl (kept_found part none xs)
    where
      go : (b : Bool) → keep x ≡ b → filter_map part (filter keep xs) ≡ filter_map part xs →
          filter_map part (cond b (x ∷ filter keep xs) (filter keep xs)) ≡ cons_option (part x) (filter_map part xs)
      go true is rest = ap (cons_option (part x)) rest
      go false is rest = rest ∙ sym (ap (λ o. cons_option o (filter_map part xs)) (none x is))

  -- a step more that is kept, and one that is not
  pub kept_more : (before : List S) (x : S) → keep x ≡ true → filter keep (before ++ x ∷ []) ≡ filter keep before ++ x ∷ []
  kept_more before x is = filter-append keep before (x ∷ []) ∙ ap (λ b. filter keep before ++ cond b (x ∷ []) []) is

  pub lost_more : (before : List S) (x : S) → keep x ≡ false → filter keep (before ++ x ∷ []) ≡ filter keep before
  lost_more before x is = filter-append keep before (x ∷ []) ∙ ap (λ b. filter keep before ++ cond b (x ∷ []) []) is ∙ append-nil (filter keep before)

  -- a first element that is kept stays first
  pub kept_first : (x : S) (xs : List S) → keep x ≡ true → filter keep (x ∷ xs) ≡ x ∷ filter keep xs
  kept_first x xs is = ap (λ b. cond b (x ∷ filter keep xs) (filter keep xs)) is

  -- a first element that isn't kept leaves what is kept of those behind it
  pub lost_first : (x : S) (xs : List S) → keep x ≡ false → filter keep (x ∷ xs) ≡ filter keep xs
  lost_first x xs is = ap (λ b. cond b (x ∷ filter keep xs) (filter keep xs)) is

-- what is found in steps with stamps
pub kept_in : {S X : Type 0} (keep : S → Bool) (part : S → Option X) → ((x : S) → keep x ≡ false → part x ≡ None) → (trace : List (ℕ × S)) →
    found_in part (filter (keep_stamped keep) trace) ≡ found_in part trace
kept_in {S} {X} keep part none trace = kept_found (keep_stamped keep) (λ (y : ℕ × S). option_map (λ found. (y.0, found)) (part y.1))
    (λ y lost. ap (option_map (λ found. (y.0, found))) (none y.1 lost)) trace

-- one element more that gives nothing, where there is one
pub gives_none : {A B : Type 0} (f : A → Option B) (b : Bool) (x : A) (xs : List A) → f x ≡ None
    → filter_map f (cons_option (cond b (Some x) None) xs) ≡ filter_map f xs
gives_none {B = B} f true x xs none = ap (λ o. cons_option o (filter_map f xs)) none
gives_none f false x xs none = refl
