-- What threads did, merged by stamps.
use Rattle.act_causes.proofs.Common.{◌≡◌, ◌≢◌, ℕ, zero, suc, ◌≤◌, ◌<◌, Bool, true, false, cond, List, ◌∷◌, ◌++◌, Option, Some, None, refl, sym, ap, subst, ◌∙◌}
use Rattle.act_causes.proofs.Common.{arith, map, nat_le, AllPairs, cons_option, option_map, leb-true, leb-false, append-nil, leb_tells, eqb_tells, inl, inr}
use Rattle.act_causes.proofs.Common.{All-from_recursion, recursion_from_All, AllPairs-cons, Site, Caller, Actor, Action, action_at, found_in, Threads}
use Rattle.act_causes.proofs.Common.{site_number, AreBelow, NeverFall, IsFrontBelow, IsMergeOf, []}
pub use Rattle.act_causes.proofs.Found.{IsLeast, place_in_front}
use Rattle.act_causes.proofs.Found.{found_from}
use Rattle.act_mailbox.proofs.Clocks.{found_more}
use Rattle.act_causes.proofs.Sites.{action_here, action_elsewhere}

-- ---- one step more, before the first with no lower stamp

abbrev put : {D : Type 0} → ℕ × D → List (ℕ × D) → List (ℕ × D)
put x [] = x ∷ []
put x (y ∷ ys) = cond (nat_le x.0 y.0) (x ∷ y ∷ ys) (y ∷ put x ys)

abbrev ordered : {D : Type 0} → List (ℕ × D) → List (ℕ × D)
ordered [] = []
ordered (x ∷ xs) = put x (ordered xs)

-- stamps that never fall
abbrev Rises : {S : Type 0} → List (ℕ × S) → Type 0
Rises [] = Unit {0}
Rises (x ∷ xs) = IsLeast x.0 xs × Rises xs

rises : {S : Type 0} (xs : List (ℕ × S)) → AllPairs (λ one other. one.0 ≤ other.0) xs → Rises xs
rises [] all = tt
rises (x ∷ xs) all = (
  recursion_from_All (λ other. x.0 ≤ other.0) xs (λ k d below. all 0 (suc k) d (omega arith) (omega (arith, below))),
  rises xs (λ i j d lt below. all (suc i) (suc j) d (omega (arith, lt)) (omega (arith, below))),
)

pairs : {D : Type 0} (xs : List (ℕ × D)) → Rises xs → AllPairs (λ one other. one.0 ≤ other.0) xs
pairs [] order = λ i j d lt below. absurd (omega (arith, below))
pairs (x ∷ xs) order = AllPairs-cons (λ one other. one.0 ≤ other.0) x xs (All-from_recursion (λ y. x.0 ≤ y.0) xs order.0) (pairs xs order.1)

least_lower : {D : Type 0} (m n : ℕ) (xs : List (ℕ × D)) → m ≤ n → IsLeast n xs → IsLeast m xs
least_lower m n [] le from = tt
least_lower m n (x ∷ xs) le from = (omega (arith, le, from.0), least_lower m n xs le from.1)

put_least : {D : Type 0} (m : ℕ) (x : ℕ × D) (xs : List (ℕ × D)) → m ≤ x.0 → IsLeast m xs → IsLeast m (put x xs)
put_least m x [] le from = (le, tt)
put_least m x (y ∷ ys) le from = go (nat_le x.0 y.0) (put_least m x ys le from.1)
  where
    go : (b : Bool) → IsLeast m (put x ys) → IsLeast m (cond b (x ∷ y ∷ ys) (y ∷ put x ys))
    go true rest = (le, from)
    go false rest = (from.0, rest)

put_rises : {D : Type 0} (x : ℕ × D) (xs : List (ℕ × D)) → Rises xs → Rises (put x xs)
put_rises x [] order = (tt, tt)
put_rises x (y ∷ ys) order = go (nat_le x.0 y.0) refl (put_rises x ys order.1)
  where
    go : (b : Bool) → nat_le x.0 y.0 ≡ b → Rises (put x ys) → Rises (cond b (x ∷ y ∷ ys) (y ∷ put x ys))
    go true e rest = let le : x.0 ≤ y.0 = leb-true x.0 y.0 e in ((le, least_lower x.0 y.0 ys le order.0), order)
    go false e rest = let lt : y.0 < x.0 = leb-false x.0 y.0 e in (put_least y.0 x ys (omega (arith, lt)) order.0, rest)

ordered_rises : {D : Type 0} (xs : List (ℕ × D)) → Rises (ordered xs)
ordered_rises [] = tt
ordered_rises (x ∷ xs) = put_rises x (ordered xs) (ordered_rises xs)

-- ---- each part of what is ordered stays in its order

module _ {D S : Type 0} (part : D → Option S) where
  -- one element more, by its part
  abbrev more : ℕ → Option S → List (ℕ × S) → List (ℕ × S)
  more n o xs = cons_option (option_map (λ found. (n, found)) o) xs

  -- where something of the part is put, nothing of it has a lower stamp
  abbrev IsFirst : ℕ → Option S → List (ℕ × S) → Type 0
  IsFirst n None xs = Unit {0}
  IsFirst n (Some found) xs = IsLeast n xs

  found_put : (x : ℕ × D) (xs : List (ℕ × D)) → IsFirst x.0 (part x.1) (found_in part xs) → found_in part (put x xs) ≡ more x.0 (part x.1) (found_in part xs)
  found_put x [] first = refl
  found_put x (y ∷ ys) first = go (nat_le x.0 y.0) refl (found_put x ys)
    where
      swapped : (o p : Option S) → y.0 < x.0 → (IsFirst x.0 o (found_in part ys) → found_in part (put x ys) ≡ more x.0 o (found_in part ys)) →
          IsFirst x.0 o (more y.0 p (found_in part ys)) → more y.0 p (found_in part (put x ys)) ≡ more x.0 o (more y.0 p (found_in part ys))
      swapped None p lt rest first = ap (more y.0 p) (rest tt)
      swapped (Some found) None lt rest first = rest first
      swapped (Some found) (Some other) lt rest first = absurd (omega (arith, lt, first.0))

      go : (b : Bool) → nat_le x.0 y.0 ≡ b → (IsFirst x.0 (part x.1) (found_in part ys) → found_in part (put x ys) ≡ more x.0 (part x.1) (found_in part ys))
          → found_in part (cond b (x ∷ y ∷ ys) (y ∷ put x ys)) ≡ more x.0 (part x.1) (more y.0 (part y.1) (found_in part ys))
      go true e rest = refl
      go false e rest = swapped (part x.1) (part y.1) (leb-false x.0 y.0 e) rest first

  rest_rises : (n : ℕ) (o : Option S) (xs : List (ℕ × S)) → Rises (more n o xs) → Rises xs
  rest_rises n None xs rise = rise
  rest_rises n (Some found) xs rise = rise.1

  is_first : (n : ℕ) (o : Option S) (xs ys : List (ℕ × S)) → ys ≡ xs → Rises (more n o xs) → IsFirst n o ys
  is_first n None xs ys same rise = tt
  is_first n (Some found) xs ys same rise = subst (IsLeast n) (sym same) rise.0

  found_ordered : (xs : List (ℕ × D)) → Rises (found_in part xs) → found_in part (ordered xs) ≡ found_in part xs
  found_ordered [] rise = refl
  found_ordered (x ∷ xs) rise =
      let same : found_in part (ordered xs) ≡ found_in part xs = found_ordered xs (rest_rises x.0 (part x.1) (found_in part xs) rise) in
      found_put x (ordered xs) (is_first x.0 (part x.1) (found_in part xs) (found_in part (ordered xs)) same rise) ∙ ap (more x.0 (part x.1)) same

-- ---- the deeds of all threads, one thread after another

abbrev as_deeds : Site → List (ℕ × Action) → List (ℕ × (Site × Action))
as_deeds site trace = map (λ x. (x.0, (site, x.1))) trace

-- of the callers and actors with numbers below n
abbrev all_deeds : Threads → ℕ → List (ℕ × (Site × Action))
all_deeds threads zero = []
all_deeds threads (suc n) = as_deeds (Caller n) (threads (Caller n)) ++ (as_deeds (Actor n) (threads (Actor n)) ++ all_deeds threads n)

found_here : (site : Site) (trace : List (ℕ × Action)) → found_in (action_at site) (as_deeds site trace) ≡ trace
found_here site [] = refl
found_here site (x ∷ trace) =
    ap (λ o. cons_option (option_map (λ found. (x.0, found)) o) (found_in (action_at site) (as_deeds site trace))) (action_here site x.1)
    ∙ ap (λ l. x ∷ l) (found_here site trace)

found_elsewhere : (site other : Site) → other ≢ site → (trace : List (ℕ × Action)) → found_in (action_at site) (as_deeds other trace) ≡ []
found_elsewhere site other apart [] = refl
found_elsewhere site other apart (x ∷ trace) =
    ap (λ o. cons_option (option_map (λ found. (x.0, found)) o) (found_in (action_at site) (as_deeds other trace))) (action_elsewhere site other x.1 apart)
    ∙ found_elsewhere site other apart trace

module _ (threads : Threads) (site : Site) where
  -- what is found in those of number n, and below
  found_two : (n : ℕ) {one two rest : List (ℕ × Action)} → found_in (action_at site) (as_deeds (Caller n) (threads (Caller n))) ≡ one →
      found_in (action_at site) (as_deeds (Actor n) (threads (Actor n))) ≡ two → found_in (action_at site) (all_deeds threads n) ≡ rest →
      found_in (action_at site) (all_deeds threads (suc n)) ≡ one ++ (two ++ rest)
  found_two n first second behind =
      found_more (action_at site) (as_deeds (Caller n) (threads (Caller n))) (as_deeds (Actor n) (threads (Actor n)) ++ all_deeds threads n)
      ∙ ap (λ l. found_in (action_at site) (as_deeds (Caller n) (threads (Caller n))) ++ l)
      (found_more (action_at site) (as_deeds (Actor n) (threads (Actor n))) (all_deeds threads n))
      ∙ (λ i. first i ++ (second i ++ behind i))

  other_number : (n : ℕ) (other : Site) → site_number other ≡ n → n ≢ site_number site → other ≢ site
  other_number n other is apart same = apart (sym is ∙ ap site_number same)

  found_none : (n : ℕ) → n ≤ site_number site → found_in (action_at site) (all_deeds threads n) ≡ []
  found_none zero past = refl
  found_none (suc n) past =
      let apart : n ≢ site_number site = λ same. omega (arith, past, same) in
      found_two n (found_elsewhere site (Caller n) (other_number n (Caller n) refl apart) (threads (Caller n)))
      (found_elsewhere site (Actor n) (other_number n (Actor n) refl apart) (threads (Actor n))) (found_none n (omega (arith, past)))

found_last : (threads : Threads) (site : Site) → found_in (action_at site) (all_deeds threads (suc (site_number site))) ≡ threads site
found_last threads (Caller c) =
    found_two threads (Caller c) c (found_here (Caller c) (threads (Caller c))) (found_elsewhere (Caller c) (Actor c) (λ same. cc) (threads (Actor c)))
    (found_none threads (Caller c) c (omega arith))
    ∙ append-nil (threads (Caller c))
found_last threads (Actor a) =
    found_two threads (Actor a) a (found_elsewhere (Actor a) (Caller a) (λ same. cc) (threads (Caller a))) (found_here (Actor a) (threads (Actor a)))
    (found_none threads (Actor a) a (omega arith))
    ∙ append-nil (threads (Actor a))

found_below : (threads : Threads) (site : Site) (n : ℕ) → site_number site < n → found_in (action_at site) (all_deeds threads n) ≡ threads site
found_below threads site zero below = absurd (omega (arith, below))
found_below threads site (suc n) below = elim (eqb_tells n (site_number site)) [
  | inl t ↦ subst (λ k. found_in (action_at site) (all_deeds threads (suc k)) ≡ threads site) (sym t.1) (found_last threads site)
  | inr f ↦
      let apart = f.1 in
      found_two threads site n (found_elsewhere site (Caller n) (other_number threads site n (Caller n) refl f.1) (threads (Caller n)))
      (found_elsewhere site (Actor n) (other_number threads site n (Actor n) refl f.1) (threads (Actor n))) (found_below threads site n (lower n below f.1))
]
  where
    lower : (n : ℕ) {k : ℕ} → k < suc n → n ≢ k → k < n
    lower n {k} below apart = elim (leb_tells (suc k) n) [ inl t ↦ t.1 | inr f ↦ let past = f.1 in absurd (apart (omega (arith, past, below))) ]

found_all : (n : ℕ) (threads : Threads) (site : Site) → AreBelow n threads → found_in (action_at site) (all_deeds threads n) ≡ threads site
found_all n threads site below = elim (leb_tells n (site_number site)) [
  | inl t ↦ found_none threads site n t.1 ∙ sym (below site t.1)
  | inr f ↦ let past = f.1 in found_below threads site n (omega (arith, past))
]

-- ---- the merge

least_from : {D : Type 0} (before later : List (ℕ × D)) (x : ℕ × D) → Rises (before ++ x ∷ later) → IsLeast x.0 (x ∷ later)
least_from [] later x order = (omega arith, order.0)
least_from (y ∷ before) later x order = least_from before later x order.1

-- what somebody did before a deed is the first of its trace, with all that has a lower stamp
front_below : (site : Site) {merged : List (ℕ × (Site × Action))} (before later : List (ℕ × (Site × Action))) (m : ℕ) (deed : Site × Action)
    {trace : List (ℕ × Action)} → Rises merged → merged ≡ before ++ (m, deed) ∷ later → found_in (action_at site) merged ≡ trace →
    IsFrontBelow m trace (found_in (action_at site) before)
front_below site before later m deed order e is = record {
  later = found_in (action_at site) ((m, deed) ∷ later);
  cut = sym is ∙ ap (found_in (action_at site)) e ∙ found_more (action_at site) before ((m, deed) ∷ later);
  from = All-from_recursion (λ (x : ℕ × Action). m ≤ x.0) (found_in (action_at site) ((m, deed) ∷ later))
      (found_from (action_at site) m ((m, deed) ∷ later) (least_from before later (m, deed) (subst Rises e order)));
}

-- what threads did, where no stamp falls in any, can be merged into one order by stamp
pub merge_of : (n : ℕ) (threads : Threads) → AreBelow n threads → NeverFall threads → (merged : List (ℕ × (Site × Action))) × IsMergeOf threads merged
merge_of n threads below rise = (
  ordered (all_deeds threads n),
  record {
    of = of;
    rising = pairs (ordered (all_deeds threads n)) (ordered_rises (all_deeds threads n));
    fronts = λ before later m deed e site. front_below site before later m deed (ordered_rises (all_deeds threads n)) e (of site);
  },
)
  where
    of : (site : Site) → found_in (action_at site) (ordered (all_deeds threads n)) ≡ threads site
    of site =
        let same : found_in (action_at site) (all_deeds threads n) ≡ threads site = found_all n threads site below in
        found_ordered (action_at site) (all_deeds threads n) (subst Rises (sym same) (rises (threads site) (rise site))) ∙ same
