-- From the bytes to the texts that their lines tell.
use Rattle.act_summaries.proofs.Common.{◌≡◌, ◌≢◌, ℕ, ◌-◌, ◌==◌, ◌||◌, inl, inr, Bool, true, false, cond, not, List, [], ◌∷◌, ◌++◌, codes, length, take}
use Rattle.act_summaries.proofs.Common.{drop, refl, sym, ap, ◌∙◌, subst, arith, append_assoc, length-append, map, filter, Contains, AllByRecursion, AllZip}
use Rattle.act_summaries.proofs.Common.{flat_map, onto_first, pointwise, take-append-drop, recursion_from_All, eqb-true, eq-eqb, and_parts, or_cases}
use Rattle.act_summaries.proofs.Common.{take-append_seam, is_skipped, lines_in, line, AreTold, IsToldAs, is_open, ends_in, told_line}
use Rattle.act_summaries.proofs.Bytes.{Lacks, Each-append, cut, Each-take}
use Rattle.act_summaries.proofs.Marks.{Mark, Equals, Live, Retired, word_of, end_of, TellsBoth}
use Rattle.act_lists.proofs.Lists.{contains_tail}

-- ---- a line that is open

pointwise_same : (xs ys : List ℕ) → pointwise (λ a b. a == b) xs ys ≡ true → xs ≡ ys
pointwise_same [] [] e = refl
pointwise_same (x ∷ xs) (y ∷ ys) e =
    let parts = and_parts (x == y) (pointwise (λ a b. a == b) xs ys) e in let rest = pointwise_same xs ys parts.1 in (λ i. eqb-true x y parts.0 i ∷ rest i)
pointwise_same xs ys e = cc

ends_so : (end text : List ℕ) → ends_in end text ≡ true → text ≡ take (length text - length end) text ++ end
ends_so end text e =
    sym (take-append-drop (length text - length end) text)
    ∙ ap (λ l. take (length text - length end) text ++ l) (sym (pointwise_same end (drop (length text - length end) text) e))

record IsOpenAt (text : List ℕ) : Type 0 where
  front : List ℕ
  mark : Mark
  is : text ≡ front ++ 32 ∷ (word_of mark ++ 32 ∷ end_of mark ∷ [])

open_at : (text : List ℕ) → is_open text ≡ true → IsOpenAt text
open_at text e = elim (or_cases (ends_in (codes " = *") text || ends_in (codes " live ?") text) (ends_in (codes " retired ?") text) e) [
  | inl front ↦ elim (or_cases (ends_in (codes " = *") text) (ends_in (codes " live ?") text) front) [
    | inl is ↦ record { front = take (length text - 4) text; mark = Equals; is = ends_so (codes " = *") text is }
    | inr is ↦ record { front = take (length text - 7) text; mark = Live; is = ends_so (codes " live ?") text is }
  ]
  | inr is ↦ record { front = take (length text - 10) text; mark = Retired; is = ends_so (codes " retired ?") text is }
]

-- all but the last byte
take_front : (xs : List ℕ) (x : ℕ) → take (length (xs ++ x ∷ []) - 1) (xs ++ x ∷ []) ≡ xs
take_front xs x = let short : length (xs ++ x ∷ []) - 1 ≡ length xs = omega (arith, length-append xs (x ∷ [])) in rw short (take-append_seam xs (x ∷ []))

-- the front of an open line, and what is filled in behind it
pub filled_in : (text front : List ℕ) (mark : Mark) (what : List ℕ) → text ≡ front ++ 32 ∷ (word_of mark ++ 32 ∷ end_of mark ∷ []) →
    take (length text - 1) text ++ what ≡ front ++ 32 ∷ (word_of mark ++ 32 ∷ what)
filled_in text front mark what is =
    let kept : List ℕ = front ++ 32 ∷ (word_of mark ++ 32 ∷ []) in
    let whole : text ≡ kept ++ end_of mark ∷ [] =
    is ∙ sym (append_assoc front (32 ∷ (word_of mark ++ 32 ∷ [])) (end_of mark ∷ []) ∙
    ap (λ l. front ++ 32 ∷ l) (append_assoc (word_of mark) (32 ∷ []) (end_of mark ∷ []))) in
    let front_is : take (length text - 1) text ≡ kept = ap (λ l. take (length l - 1) l) whole ∙ take_front kept (end_of mark) in
    ap (λ l. l ++ what) front_is
    ∙ append_assoc front (32 ∷ (word_of mark ++ 32 ∷ [])) what
    ∙ ap (λ l. front ++ 32 ∷ l) (append_assoc (word_of mark) (32 ∷ []) what)

-- what an open line tells has something in the place of the mark
pub told_at : (text told front : List ℕ) (mark : Mark) → text ≡ front ++ 32 ∷ (word_of mark ++ 32 ∷ end_of mark ∷ []) → IsToldAs text told →
    (what : List ℕ) × (told ≡ front ++ 32 ∷ (word_of mark ++ 32 ∷ what))
told_at text told front mark is (inl same) = (end_of mark ∷ [], same ∙ is)
told_at text told front mark is (inr filled) = (filled.what, filled.filled ∙ filled_in text front mark filled.what is)

open_tells : (text x y : List ℕ) → is_open text ≡ true → IsToldAs text x → IsToldAs text y → TellsBoth text x y
open_tells text x y e p q =
    let o = open_at text e in let left = told_at text x o.front o.mark o.is p in let right = told_at text y o.front o.mark o.is q in
    inr (record { front = o.front; mark = o.mark; left = left.0; right = right.0; line_is = o.is; left_is = left.1; right_is = right.1 })

-- a line that is told as one text, and as another, tells both
pub tells_both : (text x y : List ℕ) → IsToldAs text x → IsToldAs text y → TellsBoth text x y
tells_both text x y (inl p) (inl q) = inl (p, q)
tells_both text x y (inl p) (inr q) = open_tells text x y q.marked (inl p) (inr q)
tells_both text x y (inr p) q = open_tells text x y p.marked (inr p) q

-- ---- line ends

onto_lacks : (x : ℕ) (parts : List (List ℕ)) → x ≢ 10 → AllByRecursion (Lacks 10) parts → AllByRecursion (Lacks 10) (onto_first x parts)
onto_lacks x [] differs h = ((differs, tt), tt)
onto_lacks x (part ∷ parts) differs h = ((differs, h.0), h.1)

pub lines_lack : (bytes : List ℕ) → AllByRecursion (Lacks 10) (lines_in bytes)
lines_lack [] = (tt, tt)
lines_lack (x ∷ bytes) = go (x == 10) refl (lines_lack bytes)
  where
    go : (b : Bool) → (x == 10) ≡ b → AllByRecursion (Lacks 10) (lines_in bytes) →
        AllByRecursion (Lacks 10) (cond b ([] ∷ lines_in bytes) (onto_first x (lines_in bytes)))
    go true e rest = (tt, rest)
    go false e rest = onto_lacks x (lines_in bytes) (λ same. let bad : true ≡ false = sym (eq-eqb x 10 same) ∙ e in cc) rest

told_lacks : (text told : List ℕ) → Lacks 10 text → IsToldAs text told → Lacks 10 told
told_lacks text told lack (inl same) = subst (Lacks 10) (sym same) lack
told_lacks text told lack (inr filled) =
    subst (Lacks 10) (sym filled.filled)
    (Each-append (λ x. x ≢ 10) (take (length text - 1) text) filled.what (Each-take (λ x. x ≢ 10) (length text - 1) text lack)
    (recursion_from_All (λ x. x ≢ 10) filled.what filled.of_one_line))

-- ---- the lines that are not skipped

-- the lines that are not skipped
abbrev pub shown : List (List ℕ) → List (List ℕ)
shown texts = filter (λ text. not (is_skipped text)) texts

pub shown_is : (texts : List (List ℕ)) → flat_map told_line texts ≡ flat_map line (shown texts)
shown_is [] = refl
shown_is (text ∷ texts) = go (is_skipped text) (shown_is texts)
  where
    go : (b : Bool) → flat_map told_line texts ≡ flat_map line (shown texts) →
        cond b [] (line text) ++ flat_map told_line texts ≡ flat_map line (cond (not b) (text ∷ shown texts) (shown texts))
    go true e = e
    go false e = ap (λ l. line text ++ l) e

shown_lack : (texts : List (List ℕ)) → AllByRecursion (Lacks 10) texts → AllByRecursion (Lacks 10) (shown texts)
shown_lack [] h = tt
shown_lack (text ∷ texts) h = go (is_skipped text) (shown_lack texts h.1)
  where
    go : (b : Bool) → AllByRecursion (Lacks 10) (shown texts) → AllByRecursion (Lacks 10) (cond (not b) (text ∷ shown texts) (shown texts))
    go true rest = rest
    go false rest = (h.0, rest)

-- one line is skipped as both texts that it tells
pub skipped_alike : (text x y : List ℕ) → TellsBoth text x y → is_skipped x ≡ is_skipped y
skipped_alike text x y (inl same) = ap is_skipped (same.0 ∙ sym same.1)
skipped_alike text x y (inr opened) = ap is_skipped opened.left_is ∙ go opened.front ∙ sym (ap is_skipped opened.right_is)
  where
    go : (front : List ℕ) →
        is_skipped (front ++ 32 ∷ (word_of opened.mark ++ 32 ∷ opened.left)) ≡ is_skipped (front ++ 32 ∷ (word_of opened.mark ++ 32 ∷ opened.right))
    go [] = refl
    go (b ∷ front) = refl

-- ---- lines, one after another

line_more : (x : List ℕ) (xs : List (List ℕ)) → flat_map line (x ∷ xs) ≡ x ++ 10 ∷ flat_map line xs
line_more x xs = append_assoc x (10 ∷ []) (flat_map line xs)

not_empty : (x rest : List ℕ) → [] ≡ x ++ 10 ∷ rest → ⊥
not_empty [] rest e = cc
not_empty (b ∷ x) rest e = cc

-- texts without line ends are told apart by them
pub lines_same : (xs ys : List (List ℕ)) → AllByRecursion (Lacks 10) xs → AllByRecursion (Lacks 10) ys → flat_map line xs ≡ flat_map line ys → xs ≡ ys
lines_same [] [] p q e = refl
lines_same [] (y ∷ ys) p q e = absurd (not_empty y (flat_map line ys) (e ∙ line_more y ys))
lines_same (x ∷ xs) [] p q e = absurd (not_empty x (flat_map line xs) (sym e ∙ line_more x xs))
lines_same (x ∷ xs) (y ∷ ys) p q e =
    let both = cut 10 x y (flat_map line xs) (flat_map line ys) p.0 q.0 (sym (line_more x xs) ∙ e ∙ line_more y ys) in
    let rest = lines_same xs ys p.1 q.1 both.1 in (λ i. both.0 i ∷ rest i)

-- ---- both texts

-- some line of these tells both
pub record IsToldTwice (lines : List (List ℕ)) (x y : List ℕ) : Type 0 where
  pub text : List ℕ
  pub stands : Contains lines text
  pub tells : TellsBoth text x y

abbrev Pair : Type 0
Pair = List ℕ × List ℕ

module _ (all : List (List ℕ)) where
  zipped : (ps qs : List Pair) → map (λ (p : Pair). p.0) ps ≡ map (λ (q : Pair). q.0) qs → AllByRecursion (λ (p : Pair). IsToldAs p.0 p.1) ps →
      AllByRecursion (λ (q : Pair). IsToldAs q.0 q.1) qs → ((text : List ℕ) → Contains (map (λ (p : Pair). p.0) ps) text → Contains all text) →
      AllZip (IsToldTwice all) (shown (map (λ (p : Pair). p.1) ps)) (shown (map (λ (q : Pair). q.1) qs))
  zipped [] [] e p q stands = tt
  zipped (x ∷ xs) (y ∷ ys) e p q stands =
      let head : x.0 ≡ y.0 = cc in
      let tail : map (λ (p : Pair). p.0) xs ≡ map (λ (q : Pair). q.0) ys = cc in
      let both = tells_both x.0 x.1 y.1 p.0 (subst (λ t. IsToldAs t y.1) (sym head) q.0) in
      go (is_skipped x.1) (is_skipped y.1) (skipped_alike x.0 x.1 y.1 both)
      (record { text = x.0; stands = stands x.0 (0, omega arith, refl); tells = both })
      (zipped xs ys tail p.1 q.1 (λ text has. stands text (contains_tail x.0 text (map (λ (p : Pair). p.0) xs) has)))
    where
      go : (a b : Bool) → a ≡ b → IsToldTwice all x.1 y.1 → AllZip (IsToldTwice all) (shown (map (λ (p : Pair). p.1) xs)) (shown (map (λ (q : Pair). q.1) ys)) →
          AllZip (IsToldTwice all) (cond (not a) (x.1 ∷ shown (map (λ (p : Pair). p.1) xs)) (shown (map (λ (p : Pair). p.1) xs)))
          (cond (not b) (y.1 ∷ shown (map (λ (q : Pair). q.1) ys)) (shown (map (λ (q : Pair). q.1) ys)))
      go true true e one rest = rest
      go false false e one rest = (one, rest)
      go more other e one rest = cc
  zipped xs ys e p q stands = cc

told_lack : (ps : List Pair) → AllByRecursion (Lacks 10) (map (λ (p : Pair). p.0) ps) → AllByRecursion (λ (p : Pair). IsToldAs p.0 p.1) ps →
    AllByRecursion (Lacks 10) (map (λ (p : Pair). p.1) ps)
told_lack [] h t = tt
told_lack (p ∷ ps) h t = (told_lacks p.0 p.1 h.0 t.0, told_lack ps h.1 t.1)

pub flat_map-pairs : (ps : List Pair) → flat_map (λ (p : Pair). told_line p.1) ps ≡ flat_map told_line (map (λ (p : Pair). p.1) ps)
flat_map-pairs [] = refl
flat_map-pairs (p ∷ ps) = ap (λ l. told_line p.1 ++ l) (flat_map-pairs ps)

-- the texts that the lines tell are those of the pairs that are not skipped
pub told_texts : (bytes : List ℕ) (xs : List (List ℕ)) → AllByRecursion (Lacks 10) xs → (make : AreTold bytes (flat_map line xs)) →
    shown (map (λ (p : Pair). p.1) make.pairs) ≡ xs
told_texts bytes xs lack make =
    let told = recursion_from_All (λ (p : Pair). IsToldAs p.0 p.1) make.pairs make.told in
    let lacking = told_lack make.pairs (subst (AllByRecursion (Lacks 10)) (sym make.given) (lines_lack bytes)) told in
    lines_same (shown (map (λ (p : Pair). p.1) make.pairs)) xs (shown_lack (map (λ (p : Pair). p.1) make.pairs) lacking) lack
    (sym (make.whole ∙ flat_map-pairs make.pairs ∙ shown_is (map (λ (p : Pair). p.1) make.pairs)))

-- where the same bytes tell two lists of texts, their lines tell these two by two
pub told_twice : (bytes : List ℕ) (xs ys : List (List ℕ)) → AllByRecursion (Lacks 10) xs → AllByRecursion (Lacks 10) ys →
    AreTold bytes (flat_map line xs) → AreTold bytes (flat_map line ys) → AllZip (IsToldTwice (lines_in bytes)) xs ys
told_twice bytes xs ys p q one two =
    let lines = zipped (lines_in bytes) one.pairs two.pairs (one.given ∙ sym two.given)
    (recursion_from_All (λ (p : Pair). IsToldAs p.0 p.1) one.pairs one.told)
    (recursion_from_All (λ (p : Pair). IsToldAs p.0 p.1) two.pairs two.told)
    (λ text has. subst (λ l. Contains l text) one.given has) in
    subst (λ l. AllZip (IsToldTwice (lines_in bytes)) l ys) (told_texts bytes xs p one)
    (subst (λ l. AllZip (IsToldTwice (lines_in bytes)) (shown (map (λ (p : Pair). p.1) one.pairs)) l) (told_texts bytes ys q two) lines)
