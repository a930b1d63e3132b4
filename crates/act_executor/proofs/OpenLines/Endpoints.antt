-- The endpoints that a list of lines deals, and those of one name among them.
use Rattle.act_executor.proofs.Common.{◌≡◌, ◌≢◌, ℕ, zero, suc, ◌+◌, ◌<◌, Bool, true, false, cond, List, [], ◌∷◌, ◌++◌, Some, All, Contains, length, map, take}
use Rattle.act_executor.proofs.Common.{get_or, inl, inr, refl, ap, sym, ◌∙◌, subst, arith, append_assoc, append-nil, ◌==◌, slice_get, option_map, AllPairs}
use Rattle.act_executor.proofs.Common.{eqb_tells, map-append, map_more, All-nil, All-cons, All-tail, All-map, filter-append, slice_get-map, AllPairs-cons}
use Rattle.act_executor.proofs.Common.{TableId, contains, map-slice_get, CallersDiffer, Endpoint, endpoint_at, group_of, endpoints_from}
use Rattle.act_lists.proofs.Lists.{contains_tail}

-- ---- one line more

-- one more of each of two lists that agree
pub one_more : {X Z : Type 0} (f : X → Z) (xs longer : List X) (x : X) (zs more : List Z) (z : Z) → map f xs ≡ zs → longer ≡ xs ++ x ∷ [] →
    more ≡ zs ++ z ∷ [] → f x ≡ z → map f longer ≡ more
one_more f xs longer x zs more z were pushed also same = ap (map f) pushed ∙ map-append f xs (x ∷ []) ∙ (λ i. were i ++ same i ∷ []) ∙ sym also

-- the next of those that are taken of a list
pub next_taken : {Y Z : Type 0} (g : Y → Z) (ys : List Y) (place : ℕ) (y : Y) → place < length ys → y ≡ get_or ys place y →
    map g (take (place + 1) ys) ≡ map g (take place ys) ++ g y ∷ []
next_taken g ys place y below at = map_more g ys place y below ∙ (λ i. map g (take place ys) ++ g (sym at i) ∷ [])

-- the next of those that are pushed
pub next_pushed : {Y Z : Type 0} (g : Y → Z) (ys : List Y) {longer : List Y} (y : Y) → longer ≡ ys ++ y ∷ [] → map g longer ≡ map g ys ++ g y ∷ []
next_pushed g ys y pushed = ap (map g) pushed ∙ map-append g ys (y ∷ [])

module _ {P : Type 0} (new : TableId → ℕ → P) where
  pub endpoints_push : (n : ℕ) (lines : List TableId) (names : List (List ℕ)) (line : TableId) (here : List ℕ) → length names ≡ length lines → endpoints_from
      new n (lines ++ line ∷ []) (names ++ here ∷ []) ≡ endpoints_from new n lines names ++ map (λ c. endpoint_at (n + length lines) (new line c)) here
  endpoints_push n [] [] line here long =
      let e : n ≡ n + 0 = omega arith in append-nil (map (λ c. endpoint_at n (new line c)) here) ∙ ap (λ k. map (λ c. endpoint_at k (new line c)) here) e
  endpoints_push n [] (other ∷ names) line here long = absurd (omega arith)
  endpoints_push n (first ∷ lines) [] line here long = absurd (omega arith)
  endpoints_push n (first ∷ lines) (other ∷ names) line here long =
      let short : length names ≡ length lines = omega arith in let e : n + 1 + length lines ≡ n + suc (length lines) = omega arith in
      ap (λ l. map (λ c. endpoint_at n (new first c)) other ++ l) (endpoints_push (n + 1) lines names line here short ∙
      ap (λ k. endpoints_from new (n + 1) lines names ++ map (λ c. endpoint_at k (new line c)) here) e)
      ∙ sym (append_assoc (map (λ c. endpoint_at n (new first c)) other) (endpoints_from new (n + 1) lines names)
      (map (λ c. endpoint_at (n + suc (length lines)) (new line c)) here))

-- ---- the endpoints of one name

absent : (c : ℕ) (ns : List ℕ) → All (λ n. c ≢ n) ns → contains c ns ≡ false
absent c [] all = refl
absent c (n ∷ ns) all = elim (eqb_tells n c) [
  | inl t ↦ absurd (all 0 n (omega arith) (sym t.1))
  | inr f ↦ rw f.0 (absent c ns (All-tail (λ m. c ≢ m) n ns all))
]

differ_tail : (n : ℕ) (ns : List ℕ) → CallersDiffer (n ∷ ns) → CallersDiffer ns
differ_tail n ns differ i j d below within = differ (suc i) (suc j) d (omega arith) (omega arith)

differ_head : (n : ℕ) (ns : List ℕ) → CallersDiffer (n ∷ ns) → All (λ other. n ≢ other) ns
differ_head n ns differ k d within = differ 0 (suc k) d (omega arith) (omega arith)

module _ {P : Type 0} (new : TableId → ℕ → P) (number : P → ℕ) (named : (line : TableId) (c : ℕ) → number (new line c) ≡ c) where
  -- the endpoints of a name: one on each line that names it
  abbrev endpoints_named : ℕ → ℕ → List TableId → List (List ℕ) → List (Endpoint P)
  endpoints_named c place [] names = []
  endpoints_named c place (line ∷ lines) [] = []
  endpoints_named c place (line ∷ lines) (here ∷ names) =
      cond (contains c here) (endpoint_at place (new line c) ∷ endpoints_named c (place + 1) lines names) (endpoints_named c (place + 1) lines names)

  at_most_one : (c place : ℕ) (line : TableId) (here : List ℕ) → CallersDiffer here →
      group_of number c (map (λ d. endpoint_at place (new line d)) here) ≡ cond (contains c here) (endpoint_at place (new line c) ∷ []) []
  at_most_one c place line [] differ = refl
  at_most_one c place line (d ∷ here) differ =
      let rest = at_most_one c place line here (differ_tail d here differ) in
      let head : (number (new line d) == c) ≡ (d == c) = ap (λ n. n == c) (named line d) in
      elim (eqb_tells d c) [
        | inl t ↦
            let none : contains c here ≡ false = subst (λ e. contains e here ≡ false) t.1 (absent d here (differ_head d here differ)) in
            let empty : group_of number c (map (λ e. endpoint_at place (new line e)) here) ≡ [] =
            rest ∙ ap (λ b. cond b (endpoint_at place (new line c) ∷ []) []) none in
            let passes : (number (new line d) == c) ≡ true = head ∙ t.0 in
            rw passes (rw t.0 (ap (λ l. endpoint_at place (new line d) ∷ l) empty ∙ ap (λ e. endpoint_at place (new line e) ∷ []) t.1))
        | inr f ↦
            let fails : (number (new line d) == c) ≡ false = head ∙ f.0 in rw fails (rw f.0 rest)
      ]

  group_is : (c n : ℕ) (lines : List TableId) (names : List (List ℕ)) → All CallersDiffer names →
      group_of number c (endpoints_from new n lines names) ≡ endpoints_named c n lines names
  group_is c n [] names differ = refl
  group_is c n (line ∷ lines) [] differ = refl
  group_is c n (line ∷ lines) (here ∷ names) differ =
      let rest = group_is c (n + 1) lines names (All-tail CallersDiffer here names differ) in
      let one = at_most_one c n line here (differ 0 here (omega arith)) in
      filter-append (λ (endpoint : Endpoint P). number endpoint.pass == c) (map (λ d. endpoint_at n (new line d)) here) (endpoints_from new (n + 1) lines names)
      ∙ ap (λ l. l ++ group_of number c (endpoints_from new (n + 1) lines names)) one
      ∙ ap (λ l. cond (contains c here) (endpoint_at n (new line c) ∷ []) [] ++ l) rest
      ∙ elim (contains c here) as (λ b. cond b (endpoint_at n (new line c) ∷ []) [] ++ endpoints_named c (n + 1) lines names ≡ cond b
      (endpoint_at n (new line c) ∷ endpoints_named c (n + 1) lines names) (endpoints_named c (n + 1) lines names)) [ true ↦ refl | false ↦ refl ]

  -- what holds of each new endpoint of the name
  each_named : (c : ℕ) (Q : Endpoint P → Type 0) (n : ℕ) (lines : List TableId) (names : List (List ℕ)) → ((i : ℕ) (line : TableId) (here : List ℕ) →
      slice_get lines i ≡ Some line → slice_get names i ≡ Some here → contains c here ≡ true → Q (endpoint_at (n + i) (new line c))) →
      All Q (endpoints_named c n lines names)
  each_named c Q n [] names each = All-nil Q
  each_named c Q n (line ∷ lines) [] each = All-nil Q
  each_named c Q n (line ∷ lines) (here ∷ names) each = go (contains c here) refl (each_named c Q (n + 1) lines names (λ i other these at there has.
      let e : n + suc i ≡ n + 1 + i = omega arith in subst (λ k. Q (endpoint_at k (new other c))) e (each (suc i) other these at there has)))
    where
      go : (b : Bool) → contains c here ≡ b → All Q (endpoints_named c (n + 1) lines names) →
          All Q (cond b (endpoint_at n (new line c) ∷ endpoints_named c (n + 1) lines names) (endpoints_named c (n + 1) lines names))
      go true is rest = let e : n + 0 ≡ n = omega arith in All-cons Q (endpoint_at n (new line c)) (endpoints_named c (n + 1) lines names)
          (subst (λ k. Q (endpoint_at k (new line c))) e (each 0 line here refl refl is)) rest
      go false is rest = rest

  -- the name has its endpoint on each line that names it
  has_named : (c n : ℕ) (lines : List TableId) (names : List (List ℕ)) (i : ℕ) {line : TableId} {here : List ℕ} → slice_get lines i ≡ Some line →
      slice_get names i ≡ Some here → contains c here ≡ true → Contains (endpoints_named c n lines names) (endpoint_at (n + i) (new line c))
  has_named c n [] names i at there has = cc
  has_named c n (first ∷ lines) [] i at there has = cc
  has_named c n (first ∷ lines) (these ∷ names) zero {line} {here} at there has =
      let e : n ≡ n + 0 = omega arith in let l : first ≡ line = cc in let h : these ≡ here = cc in
      let has_it : contains c these ≡ true = ap (contains c) h ∙ has in
      rw has_it (0, omega arith, ap (λ k. endpoint_at k (new first c)) e ∙ ap (λ t. endpoint_at (n + 0) (new t c)) l)
  has_named c n (first ∷ lines) (these ∷ names) (suc i) {line} {here} at there has =
      let e : n + 1 + i ≡ n + suc i = omega arith in
      let more : Contains (endpoints_named c (n + 1) lines names) (endpoint_at (n + suc i) (new line c)) =
      subst (λ k. Contains (endpoints_named c (n + 1) lines names) (endpoint_at k (new line c))) e (has_named c (n + 1) lines names i at there has) in
      elim (contains c these) as (λ b. Contains (cond b (endpoint_at n (new first c) ∷ endpoints_named c (n + 1) lines names)
      (endpoints_named c (n + 1) lines names)) (endpoint_at (n + suc i) (new line c))) [
        | true ↦ contains_tail (endpoint_at n (new first c)) (endpoint_at (n + suc i) (new line c)) (endpoints_named c (n + 1) lines names) more
        | false ↦ more
      ]

  abbrev IsBefore : Endpoint P → Endpoint P → Type 0
  IsBefore one other = one.place < other.place

  rising : (c n : ℕ) (lines : List TableId) (names : List (List ℕ)) → AllPairs IsBefore (endpoints_named c n lines names)
  rising c n [] names i j d below within = absurd (omega arith)
  rising c n (line ∷ lines) [] i j d below within = absurd (omega arith)
  rising c n (line ∷ lines) (here ∷ names) i j d below within =
      let rest = rising c (n + 1) lines names in
      let later : All (IsBefore (endpoint_at n (new line c))) (endpoints_named c (n + 1) lines names) =
      each_named c (IsBefore (endpoint_at n (new line c))) (n + 1) lines names (λ k other these at there has. omega arith) in
      let all : AllPairs IsBefore (endpoints_named c n (line ∷ lines) (here ∷ names)) = elim (contains c here) as
      (λ b. AllPairs IsBefore (cond b (endpoint_at n (new line c) ∷ endpoints_named c (n + 1) lines names) (endpoints_named c (n + 1) lines
      names))) [ true ↦ AllPairs-cons IsBefore (endpoint_at n (new line c)) (endpoints_named c (n + 1) lines names) later rest | false ↦ rest ] in
      all i j d below within

  -- ---- the same, over lists that have the lines and the names

  module _ {X Y : Type 0} (line_of : X → TableId) (names_of : Y → List ℕ) (xs : List X) (ys : List Y) (differ : All (λ y. CallersDiffer (names_of y)) ys) where
    abbrev of_name : ℕ → List (Endpoint P)
    of_name c = group_of number c (endpoints_from new 0 (map line_of xs) (map names_of ys))

    name_is : (c : ℕ) → of_name c ≡ endpoints_named c 0 (map line_of xs) (map names_of ys)
    name_is c = group_is c 0 (map line_of xs) (map names_of ys) (All-map CallersDiffer names_of ys differ)

    pub each_of : (c : ℕ) (Q : Endpoint P → Type 0) → ((i : ℕ) (x : X) (y : Y) → slice_get xs i ≡ Some x → slice_get ys i ≡ Some y →
        contains c (names_of y) ≡ true → Q (endpoint_at i (new (line_of x) c))) → All Q (of_name c)
    each_of c Q each = subst (λ l. All Q l) (sym (name_is c))
        (each_named c Q 0 (map line_of xs) (map names_of ys) (λ i line here at there has. let x = map-slice_get line_of xs i at in let y =
        map-slice_get names_of ys i there in let e : i ≡ 0 + i = omega arith in let q : Q (endpoint_at i (new (line_of x.0) c)) =
        each i x.0 y.0 x.1 y.1 (ap (contains c) y.2 ∙ has) in subst (λ k. Q (endpoint_at k (new line c))) e (subst (λ t. Q (endpoint_at i (new t c))) x.2 q)))

    pub has_of : (c i : ℕ) {x : X} {y : Y} → slice_get xs i ≡ Some x → slice_get ys i ≡ Some y → contains c (names_of y) ≡ true →
        Contains (of_name c) (endpoint_at i (new (line_of x) c))
    has_of c i {x} {y} at there has =
        let line : slice_get (map line_of xs) i ≡ Some (line_of x) = slice_get-map line_of xs i ∙ ap (option_map line_of) at in
        let here : slice_get (map names_of ys) i ≡ Some (names_of y) = slice_get-map names_of ys i ∙ ap (option_map names_of) there in
        let e : 0 + i ≡ i = omega arith in
        subst (λ l. Contains l (endpoint_at i (new (line_of x) c))) (sym (name_is c))
        (subst (λ k. Contains (endpoints_named c 0 (map line_of xs) (map names_of ys)) (endpoint_at k (new (line_of x) c))) e
        (has_named c 0 (map line_of xs) (map names_of ys) i line here has))

    pub rising_of : (c : ℕ) → AllPairs IsBefore (of_name c)
    rising_of c = subst (λ l. AllPairs IsBefore l) (sym (name_is c)) (rising c 0 (map line_of xs) (map names_of ys))
