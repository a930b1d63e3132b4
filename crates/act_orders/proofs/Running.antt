-- Runs: where calls ran, and whether each is its caller's next.
use Rattle.act_orders.proofs.Common.{◌≡◌, ◌≢◌, ℕ, ◌+◌, ◌<◌, ◌≤◌, ◌⊎◌, inl, inr, List, [], ◌∷◌, ◌++◌, length, map, take, get_or, refl, sym, ap, subst}
use Rattle.act_orders.proofs.Common.{◌∙◌, arith, Option, Some, None, slice_get, set, Contains, All, MatchOption, option_to_list, get_or-append_seam, All-push}
use Rattle.act_orders.proofs.Common.{Fault, IsFault, take-map, get_or-set_same, get_or-set_other, length-set, get_or_append_left, append-nil, length-append}
use Rattle.act_orders.proofs.Common.{slice_get-get_or, Run, Told, call_of, calls_run, SameWay, IsPlace, IsBefore, IsLast, HasBefore, HasPlaces, TurnTo}
use Rattle.act_orders.proofs.Common.{place_of, run_of, cases_lt}
use Rattle.act_orders.specs.Order.{IsNext}
use Rattle.act_orders.proofs.Lists.{same_or_not, get_taken, get_in_taken, found_before, has_before}
use Rattle.act_orders.proofs.Breaking.{call_at}

-- a call without a place is none of those that ran
unplaced : (told : Told) (runs : List Run) (n : ℕ) (place : Option ℕ) → IsPlace runs n place → place ≡ None → Contains (map (λ run. run.call) runs) n → ⊥
unplaced told runs n None at e = at
unplaced told runs n (Some i) at e = absurd (cc)

-- one with a place stands there
pub placed_at : (runs : List Run) (n i : ℕ) (place : Option ℕ) → IsPlace runs n place → place ≡ Some i →
    (a : ℕ) × (slice_get runs i ≡ Some (record { actor = a; call = n }))
placed_at runs n i None at e = absurd (cc)
placed_at runs n i (Some j) at e = let same : j ≡ i = cc in (at.0, subst (λ k. slice_get runs k ≡ Some (record { actor = at.0; call = n })) same at.1)

-- of two numbers that differ one is less
pub less_or_more : (m p : ℕ) → m ≢ p → (m < p) ⊎ (p < m)
less_or_more m p differ = elim (cases_lt m p) [ inl less ↦ inl less | inr least ↦ inr (omega (arith, least, differ)) ]

-- where the caller has no call before, or that one ran
pub in_turn : (told : Told) (places : List (Option ℕ)) (i n : ℕ) (before : Option ℕ) → TurnTo told i → IsBefore told n before →
    ((p : ℕ) → before ≡ Some p → (j a : ℕ) × (slice_get (take i told.runs) j ≡ Some (record { actor = a; call = p }))) → (m : ℕ) → m < n → SameWay told m n →
    Contains (take i (calls_run told)) m
in_turn told places i n None turn is ran m lt way = absurd (is m lt way)
in_turn told places i n (Some p) turn is ran m lt way =
    let at = ran p refl in let run : Run = record { actor = at.1; call = p } in let here = get_taken i told.runs at.0 at.2 in
    elim (same_or_not m p) [
      | inl e ↦ subst (Contains (take i (calls_run told))) (sym e) (has_before i (calls_run told) at.0 (call_at told at.0 run here.1) here.0)
      | inr d ↦ elim (less_or_more m p d) [
        | inl less ↦
            let before = found_before at.0 (calls_run told) m
            ((turn at.0 run here.0 here.1).in_turn m less (way.0 ∙ sym is.1.0, way.1 ∙ sym is.1.1)) in
            has_before i (calls_run told) before.0 before.2 (omega (arith, before.1, here.0))
        | inr more ↦ absurd (is.2 m lt more way)
      ]
    ]

-- the run at i is its caller's next call
pub next_run : (told : Told) (places before : List (Option ℕ)) (i : ℕ) → HasPlaces told (take i told.runs) places → HasBefore told before → (run_of told i).call
    < length told.calls → (call_of told (run_of told i).call).actor ≡ (run_of told i).actor → place_of places (run_of told i).call ≡ None → ((p : ℕ) → place_of
    before (run_of told i).call ≡ Some p → (j : ℕ) × (place_of places p ≡ Some j)) → TurnTo told i → IsNext told (take i (calls_run told)) (run_of told i)
next_run told places before i at has lt here fresh ran turn =
    let n = (run_of told i).call in
    record {
      here = here;
      once = λ in'. unplaced told (take i told.runs) n (place_of places n) (at.place n lt) fresh
          (subst (λ ns. Contains ns n) (take-map (λ run. run.call) i told.runs) in');
      in_turn = in_turn told places i n (place_of before n) turn (has.call n lt)
          (λ p e. let j = ran p e in let less : p < length told.calls = before_less (place_of before n) p (has.call n lt) e in let there =
          placed_at (take i told.runs) p j.0 (place_of places p) (at.place p less) j.1 in (j.0, there.0, there.1));
    }
  where
    before_less : (o : Option ℕ) (p : ℕ) → IsBefore told (run_of told i).call o → o ≡ Some p → p < length told.calls
    before_less None p is e = absurd (cc)
    before_less (Some q) p is e = let same : q ≡ p = cc in omega (arith, is.0, same, lt)

-- the earlier call didn't run before
pub not_run : (told : Told) (places : List (Option ℕ)) (i p : ℕ) → HasPlaces told (take i told.runs) places →
    p < length told.calls → place_of places p ≡ None → Contains (take i (calls_run told)) p → ⊥
not_run told places i p at lt e in' = unplaced told (take i told.runs) p (place_of places p) (at.place p lt) e
    (subst (λ ns. Contains ns p) (take-map (λ run. run.call) i told.runs) in')

-- a call with a place ran before
pub ran_at : (told : Told) (places : List (Option ℕ)) (i n j : ℕ) → HasPlaces told (take i told.runs) places → n < length told.calls →
    place_of places n ≡ Some j → (j < i) × (a : ℕ) × (slice_get told.runs j ≡ Some (record { actor = a; call = n }))
ran_at told places i n j has lt e =
    let at = placed_at (take i told.runs) n j (place_of places n) (has.place n lt) e in
    let there = get_taken i told.runs j at.1 in (there.0, at.0, there.1)

-- ---- one run more

-- a call that the next run isn't of keeps its place
kept_place : (told : Told) (i k : ℕ) (o : Option ℕ) → i < length told.runs → k ≢ (run_of told i).call →
    IsPlace (take i told.runs) k o → IsPlace (take (i + 1) told.runs) k o
kept_place told i k None lt d is = λ has.
    let f = found_before (i + 1) (calls_run told) k
    (subst (λ ns. Contains ns k) (sym (take-map (λ run. run.call) (i + 1) told.runs)) has) in
    elim (same_or_not f.0 i) [
      | inl e ↦ d (let at = slice_get-get_or told.runs i (record { actor = 0; call = 0 }) lt in let g = call_at told i (run_of told i) at in
          let h : slice_get (calls_run told) i ≡ Some k = ap (λ j. slice_get (calls_run told) j) (sym e) ∙ f.2 in cc)
      | inr other ↦ is (subst (λ ns. Contains ns k) (take-map (λ run. run.call) i told.runs)
          (has_before i (calls_run told) f.0 f.2 (omega (arith, f.1, other))))
    ]
kept_place told i k (Some j) lt d is = let g = get_taken i told.runs j is.1 in (is.0, get_in_taken (i + 1) told.runs j g.1 (omega (arith, g.0)))

pub places_more : (told : Told) (places : List (Option ℕ)) (i : ℕ) → i < length told.runs → HasPlaces told (take i told.runs) places →
    (run_of told i).call < length told.calls → HasPlaces told (take (i + 1) told.runs) (set places (run_of told i).call (Some i))
places_more told places i lt at in' = record {
  each = length-set places (run_of told i).call (Some i) ∙ at.each;
  place = λ k less. elim (same_or_not k (run_of told i).call) [
    | inl e ↦ subst (λ o. IsPlace (take (i + 1) told.runs) k o)
        (sym (ap (λ j. get_or (set places (run_of told i).call (Some i)) j None) e ∙
        get_or-set_same places (run_of told i).call (Some i) None (omega (arith, at.each, in')))) (
          (run_of told i).actor,
          get_in_taken (i + 1) told.runs i (slice_get-get_or told.runs i (record { actor = 0; call = 0 }) lt ∙
              ap (λ j. Some (record { actor = (run_of told i).actor; call = j })) (sym e)) (omega arith),
        )
    | inr d ↦ subst (λ o. IsPlace (take (i + 1) told.runs) k o) (sym (get_or-set_other places (run_of told i).call k (Some i) None d))
        (kept_place told i k (place_of places k) lt d (at.place k less))
  ];
}

pub turn_more : (told : Told) (i : ℕ) → i < length told.runs → TurnTo told i → IsNext told (take i (calls_run told)) (run_of told i) → TurnTo told (i + 1)
turn_more told i lt turn next k run less at = elim (same_or_not k i) [
  | inl e ↦
      let same : Some (run_of told i) ≡ Some run =
      sym (slice_get-get_or told.runs i (record { actor = 0; call = 0 }) lt) ∙ ap (λ j. slice_get told.runs j) (sym e) ∙ at in
      let is : run_of told i ≡ run = cc in
      subst (λ j. IsNext told (take j (calls_run told)) run) (sym e)
      (subst (λ r. IsNext told (take i (calls_run told)) r) is next)
  | inr d ↦ turn k run (omega (arith, less, d)) at
]

-- ---- the calls before

pub last_none : (told : Told) (a : ℕ) → IsLast told 0 a None
last_none told a m lt e = omega (arith, lt)

-- another actor keeps its last call
kept_last : (told : Told) (n a : ℕ) (o : Option ℕ) → a ≢ (call_of told n).actor → IsLast told n a o → IsLast told (n + 1) a o
kept_last told n a None d is = λ m less same. elim (same_or_not m n) [
  | inl e ↦ d (sym same ∙ ap (λ j. (call_of told j).actor) e)
  | inr other ↦ is m (omega (arith, less, other)) same
]
kept_last told n a (Some p) d is = (
  omega (arith, is.0),
  is.1,
  λ m less more same. elim (same_or_not m n) [
    | inl e ↦ d (sym same ∙ ap (λ j. (call_of told j).actor) e)
    | inr other ↦ is.2 m (omega (arith, less, other)) more same
  ],
)

pub last_more : (told : Told) (n a : ℕ) (last : List (Option ℕ)) → (call_of told n).actor < length last → ((b : ℕ) → b < length last →
    IsLast told n b (place_of last b)) → a < length last → IsLast told (n + 1) a (place_of (set last (call_of told n).actor (Some n)) a)
last_more told n a last in' all lt = elim (same_or_not a (call_of told n).actor) [
  | inl e ↦ subst (λ o. IsLast told (n + 1) a o) (sym (ap (λ j. get_or (set last (call_of told n).actor (Some n)) j None) e ∙
      get_or-set_same last (call_of told n).actor (Some n) None in')) (omega arith, sym e, λ m less more same. omega (arith, less, more))
  | inr d ↦ subst (λ o. IsLast told (n + 1) a o) (sym (get_or-set_other last (call_of told n).actor a (Some n) None d))
      (kept_last told n a (place_of last a) d (all a lt))
]

-- the call before is an earlier one of the same way
pub before_is : (told : Told) (n p : ℕ) (o : Option ℕ) → IsBefore told n o → o ≡ Some p → (p < n) × SameWay told p n
before_is told n p None is e = absurd (cc)
before_is told n p (Some q) is e = let same : q ≡ p = cc in
    (subst (λ k. k < n) same is.0, subst (λ k. SameWay told k n) same is.1)

-- at each place below the number of runs stands its run
pub run_at : (told : Told) (i : ℕ) → i < length told.runs → slice_get told.runs i ≡ Some (run_of told i)
run_at told i lt = slice_get-get_or told.runs i (record { actor = 0; call = 0 }) lt

-- one call more
pub before_more : (told : Told) (n : ℕ) (before : List (Option ℕ)) {after : List (Option ℕ)} (o : Option ℕ) → after ≡ before ++ o ∷ [] → length before ≡ n →
    ((k : ℕ) → k < n → IsBefore told k (place_of before k)) → IsBefore told n o → (k : ℕ) → k < n + 1 → IsBefore told k (place_of after k)
before_more told n before {after} o e count all here k lt = elim (same_or_not k n) [
  | inl same ↦
      let there : place_of after k ≡ o = ap (λ os. place_of os k) e ∙
      ap (λ j. place_of (before ++ o ∷ []) j) (same ∙ sym count) ∙ get_or-append_seam before o [] None in
      subst (λ j. IsBefore told j (place_of after k)) (sym same) (subst (λ p. IsBefore told n p) (sym there) here)
  | inr d ↦
      let there : place_of after k ≡ place_of before k = ap (λ os. place_of os k) e ∙
      get_or_append_left before (o ∷ []) None k (omega (arith, lt, d, count)) in
      subst (λ p. IsBefore told k p) (sym there) (all k (omega (arith, lt, d)))
]

-- what is known once what was found at a run is noted
pub record Noted (told : Told) (i : ℕ) (old new : List Fault) : Type 0 where
  pub all : All (IsFault told) new
  pub more : length old ≤ length new
  pub turn : length new ≡ 0 → TurnTo told (i + 1)

pub noted : (told : Told) (i : ℕ) (old new : List Fault) (found : Option Fault) → new ≡ old ++ option_to_list found →
    MatchOption found (TurnTo told i → IsNext told (take i (calls_run told)) (run_of told i)) (IsFault told) →
    All (IsFault told) old → (length old ≡ 0 → TurnTo told i) → i < length told.runs → Noted told i old new
noted told i old new None e here all turn lt =
    let same : new ≡ old = e ∙ append-nil old in
    record {
      all = subst (All (IsFault told)) (sym same) all;
      more = subst (λ fs. length old ≤ length fs) (sym same) (omega arith);
      turn = λ none. let before : TurnTo told i = turn (ap length (sym same) ∙ none) in turn_more told i lt before (here before);
    }
noted told i old new (Some fault) e here all turn lt = record {
  all = subst (All (IsFault told)) (sym e) (All-push (IsFault told) old fault all here);
  more = omega (arith, ap length e, length-append old (fault ∷ []));
  turn = λ none. absurd (let l : length (fault ∷ []) ≡ 1 = refl in omega (arith, none, ap length e, length-append old (fault ∷ []), l));
}
