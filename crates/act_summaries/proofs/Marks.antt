-- Two texts that one line tells: they agree up to the mark.
use Rattle.act_summaries.proofs.Common.{◌≡◌, ◌≢◌, ℕ, ◌⊎◌, inl, inr, List, [], ◌∷◌, ◌++◌, codes, refl, sym, ap, ◌∙◌, subst, AllByRecursion, append-nil}
use Rattle.act_summaries.proofs.Bytes.{Lacks, lacks_from, spaced, before, before_cut, before_all, cut, lacks_not}

-- ---- marks

pub data Mark : Type 0 where
  Equals : Mark
  Live : Mark
  Retired : Mark

-- the word in front of what a mark leaves open, and the mark's last byte
abbrev pub word_of : Mark → List ℕ
word_of Equals = codes "="
word_of Live = codes "live"
word_of Retired = codes "retired"

-- the last byte of a mark: `*` for an answer, and `?` for a state
abbrev pub end_of : Mark → ℕ
end_of Equals = 42
end_of mark = 63

pub mark_lacks : (mark : Mark) → Lacks 32 (word_of mark)
mark_lacks Equals = lacks_from 32 (codes "=") refl
mark_lacks Live = lacks_from 32 (codes "live") refl
mark_lacks Retired = lacks_from 32 (codes "retired") refl

-- from the mark's word on: the line, and two texts that have something else in the place of the mark
pub record Marked (line x y : List ℕ) : Type 0 where
  pub mark : Mark
  pub left : List ℕ
  pub right : List ℕ
  pub line_is : line ≡ word_of mark ++ 32 ∷ end_of mark ∷ []
  pub left_is : x ≡ word_of mark ++ 32 ∷ left
  pub right_is : y ≡ word_of mark ++ 32 ∷ right

-- the same behind a front
pub record Opened (line x y : List ℕ) : Type 0 where
  pub front : List ℕ
  pub mark : Mark
  pub left : List ℕ
  pub right : List ℕ
  pub line_is : line ≡ front ++ 32 ∷ (word_of mark ++ 32 ∷ end_of mark ∷ [])
  pub left_is : x ≡ front ++ 32 ∷ (word_of mark ++ 32 ∷ left)
  pub right_is : y ≡ front ++ 32 ∷ (word_of mark ++ 32 ∷ right)

-- the line tells both texts
abbrev pub TellsBoth : List ℕ → List ℕ → List ℕ → Type 0
TellsBoth line x y = ((x ≡ line) × (y ≡ line)) ⊎ Opened line x y

-- what is left of a line behind a word
abbrev pub TellsRest : List ℕ → List ℕ → List ℕ → Type 0
TellsRest line x y = TellsBoth line x y ⊎ Marked line x y

-- ---- word by word

pub record Step (line : List ℕ) (a b : ℕ) (x y : List ℕ) : Type 0 where
  pub rest : List ℕ
  pub line_is : line ≡ a ∷ rest
  pub same : a ≡ b
  pub tells : TellsBoth rest x y ⊎ ((a ≡ 32) × Marked rest x y)

step : (line : List ℕ) (a b : ℕ) (x y : List ℕ) → TellsBoth line (a ∷ x) (b ∷ y) → Step line a b x y
step line a b x y (inl same) = record {
  rest = x;
  line_is = sym same.0;
  same = (let e : a ∷ x ≡ b ∷ y = same.0 ∙ sym same.1 in cc);
  tells = inl (inl (refl, (let e : a ∷ x ≡ b ∷ y = same.0 ∙ sym same.1 in cc)));
}
step line a b x y (inr opened) = go opened.front opened.mark opened.left opened.right opened.line_is opened.left_is opened.right_is
  where
    go : (front : List ℕ) (mark : Mark) (left right : List ℕ) → line ≡ front ++ 32 ∷ (word_of mark ++ 32 ∷ end_of mark ∷ []) →
        a ∷ x ≡ front ++ 32 ∷ (word_of mark ++ 32 ∷ left) → b ∷ y ≡ front ++ 32 ∷ (word_of mark ++ 32 ∷ right) → Step line a b x y
    go [] mark left right l e f =
        let first : a ≡ 32 = cc in let second : b ≡ 32 = cc in
        record {
          rest = word_of mark ++ 32 ∷ end_of mark ∷ [];
          line_is = l ∙ ap (λ n. n ∷ (word_of mark ++ 32 ∷ end_of mark ∷ [])) (sym first);
          same = first ∙ sym second;
          tells = inr (first, record { mark = mark; left = left; right = right; line_is = refl; left_is = cc; right_is = cc });
        }
    go (n ∷ front) mark left right l e f =
        let first : a ≡ n = cc in let second : b ≡ n = cc in
        record {
          rest = front ++ 32 ∷ (word_of mark ++ 32 ∷ end_of mark ∷ []);
          line_is = l ∙ ap (λ m. m ∷ (front ++ 32 ∷ (word_of mark ++ 32 ∷ end_of mark ∷ []))) (sym first);
          same = first ∙ sym second;
          tells = inl (inr (record { front = front; mark = mark; left = left; right = right; line_is = refl; left_is = cc; right_is = cc }));
        }

pub record Peeled (line u v x y : List ℕ) : Type 0 where
  pub same : u ≡ v
  pub rest : List ℕ
  pub line_is : line ≡ u ++ 32 ∷ rest
  pub tells : TellsRest rest x y

-- the first words of the two texts are one
pub peel : (u v x y line : List ℕ) → Lacks 32 u → Lacks 32 v → TellsBoth line (u ++ 32 ∷ x) (v ++ 32 ∷ y) → Peeled line u v x y
peel [] [] x y line nu nv t =
    let s = step line 32 32 x y t in
    record { same = refl; rest = s.rest; line_is = s.line_is; tells = elim s.tells [ inl both ↦ inl both | inr marked ↦ inr marked.1 ] }
peel [] (c ∷ v) x y line nu nv t = let s = step line 32 c x (v ++ 32 ∷ y) t in absurd (nv.0 (sym s.same))
peel (c ∷ u) [] x y line nu nv t = let s = step line c 32 (u ++ 32 ∷ x) y t in absurd (nu.0 s.same)
peel (c ∷ u) (d ∷ v) x y line nu nv t =
    let s = step line c d (u ++ 32 ∷ x) (v ++ 32 ∷ y) t in
    elim s.tells [
      | inl both ↦
          let rest = peel u v x y s.rest nu.1 nv.1 both in
          record { same = (λ i. s.same i ∷ rest.same i); rest = rest.rest; line_is = s.line_is ∙ ap (λ l. c ∷ l) rest.line_is; tells = rest.tells }
      | inr marked ↦ absurd (nu.0 marked.0)
    ]

-- and so are their first bytes, where one is no space
pub head_same : (line : List ℕ) (a b : ℕ) (x y : List ℕ) → TellsRest line (a ∷ x) (b ∷ y) → a ≡ b
head_same line a b x y (inl both) = (step line a b x y both).same
head_same line a b x y (inr marked) = go marked.mark marked.left marked.right marked.left_is marked.right_is
  where
    go : (mark : Mark) (left right : List ℕ) → a ∷ x ≡ word_of mark ++ 32 ∷ left → b ∷ y ≡ word_of mark ++ 32 ∷ right → a ≡ b
    go Equals left right e f = let one : a ≡ 61 = cc in let two : b ≡ 61 = cc in one ∙ sym two
    go Live left right e f = let one : a ≡ 108 = cc in let two : b ≡ 108 = cc in one ∙ sym two
    go Retired left right e f = let one : a ≡ 114 = cc in let two : b ≡ 114 = cc in one ∙ sym two

-- a text that begins otherwise than each mark's word is told without one here
pub told_both : (line : List ℕ) (a : ℕ) (x y : List ℕ) → TellsRest line (a ∷ x) y → a ≢ 61 → a ≢ 108 → a ≢ 114 → TellsBoth line (a ∷ x) y
told_both line a x y (inl both) e l r = both
told_both line a x y (inr marked) e l r = absurd (go marked.mark marked.left marked.left_is)
  where
    go : (mark : Mark) (left : List ℕ) → a ∷ x ≡ word_of mark ++ 32 ∷ left → ⊥
    go Equals left is = e (let one : a ≡ 61 = cc in one)
    go Live left is = l (let one : a ≡ 108 = cc in one)
    go Retired left is = r (let one : a ≡ 114 = cc in one)

-- ---- texts that have no mark

-- no word of these is a mark's
abbrev pub IsNoMark : List ℕ → Type 0
IsNoMark word = (mark : Mark) → word ≢ word_of mark

abbrev pub AreLacking : List (List ℕ) → Type 0
AreLacking words = AllByRecursion (Lacks 32) words

pub first_word : (u : List ℕ) (us : List (List ℕ)) → Lacks 32 u → before 32 (u ++ spaced us) ≡ u
first_word u [] lacks = ap (before 32) (append-nil u) ∙ before_all 32 u lacks
first_word u (v ∷ us) lacks = before_cut 32 u (v ++ spaced us) lacks

marked_word : (u : List ℕ) (us : List (List ℕ)) (mark : Mark) (rest : List ℕ) → Lacks 32 u → u ++ spaced us ≡ word_of mark ++ 32 ∷ rest → u ≡ word_of mark
marked_word u us mark rest lacks e = sym (first_word u us lacks) ∙ ap (before 32) e ∙ before_cut 32 (word_of mark) rest (mark_lacks mark)

pub unmarked : (first : List ℕ) (words : List (List ℕ)) (front : List ℕ) (mark : Mark) (rest : List ℕ) → Lacks 32 first → AreLacking words →
    AllByRecursion IsNoMark words → first ++ spaced words ≡ front ++ 32 ∷ (word_of mark ++ 32 ∷ rest) → ⊥
unmarked [] [] [] mark rest lacks lack none e = cc
unmarked [] [] (c ∷ front) mark rest lacks lack none e = cc
unmarked [] (u ∷ us) [] mark rest lacks lack none e =
    let tail : u ++ spaced us ≡ word_of mark ++ 32 ∷ rest = cc in none.0 mark (marked_word u us mark rest lack.0 tail)
unmarked [] (u ∷ us) (c ∷ front) mark rest lacks lack none e =
    let tail : u ++ spaced us ≡ front ++ 32 ∷ (word_of mark ++ 32 ∷ rest) = cc in unmarked u us front mark rest lack.0 lack.1 none.1 tail
unmarked (b ∷ first) words [] mark rest lacks lack none e = let same : b ≡ 32 = cc in lacks.0 same
unmarked (b ∷ first) words (c ∷ front) mark rest lacks lack none e =
    let tail : first ++ spaced words ≡ front ++ 32 ∷ (word_of mark ++ 32 ∷ rest) = cc in unmarked first words front mark rest lacks.1 lack none tail

-- a text whose words are none of a mark is told as it stands
pub told_same : (line : List ℕ) {first : List ℕ} (words : List (List ℕ)) (y : List ℕ) → Lacks 32 first → AreLacking words → IsNoMark first →
    AllByRecursion IsNoMark words → TellsRest line (first ++ spaced words) y → first ++ spaced words ≡ y
told_same line words y lacks lack own none (inl (inl same)) = same.0 ∙ sym same.1
told_same line {first} words y lacks lack own none (inl (inr opened)) =
    absurd (unmarked first words opened.front opened.mark opened.left lacks lack none opened.left_is)
told_same line {first} words y lacks lack own none (inr marked) =
    absurd (own marked.mark (marked_word first words marked.mark marked.left lacks marked.left_is))

-- the words of one text are the same
pub words_same : (u v : List ℕ) (us vs : List (List ℕ)) → Lacks 32 u → Lacks 32 v → AreLacking us → AreLacking vs →
    u ++ spaced us ≡ v ++ spaced vs → (u ≡ v) × (us ≡ vs)
words_same u v [] [] nu nv lu lv e = (sym (append-nil u) ∙ e ∙ append-nil v, refl)
words_same u v [] (w ∷ ws) nu nv lu lv e =
    let is : u ≡ v ++ 32 ∷ (w ++ spaced ws) = sym (append-nil u) ∙ e in absurd (lacks_not 32 v (w ++ spaced ws) (subst (Lacks 32) is nu))
words_same u v (w ∷ ws) [] nu nv lu lv e =
    let is : v ≡ u ++ 32 ∷ (w ++ spaced ws) = sym (append-nil v) ∙ sym e in absurd (lacks_not 32 u (w ++ spaced ws) (subst (Lacks 32) is nv))
words_same u v (w ∷ ws) (z ∷ zs) nu nv lu lv e =
    let first = cut 32 u v (w ++ spaced ws) (z ++ spaced zs) nu nv e in let rest = words_same w z ws zs lu.0 lv.0 lu.1 lv.1 first.1 in
    (first.0, (λ i. rest.0 i ∷ rest.1 i))
