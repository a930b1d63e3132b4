-- Words: how they end, and what numbers are written with.
use Rattle.act_summaries.proofs.Common.{◌≡◌, ◌≢◌, ℕ, zero, suc, ◌+◌, ◌<◌, ◌≤◌, ◌/◌, ◌%◌, ◌==◌, Bool, true, false, cond, List, [], ◌∷◌, ◌++◌, decimal, not}
use Rattle.act_summaries.proofs.Common.{bytes_eq, refl, sym, ap, ◌∙◌, subst, arith, ℤ, pos, negsuc, take, eq-eqb, ne_eqb, lt-ltb, and_parts, not-true}
use Rattle.act_summaries.proofs.Common.{bytes_decides, signed_decimal, digits_onto, digit_glyph, AllByRecursion, list_all, space, with_spaces, All_weaker}
use Rattle.std.specs.Fmt.{digits}

-- ---- what each byte of a text is

-- what holds of each item of two lists holds of each of both joined
pub Each-append : {A : Type 0} (P : A → Type 0) (xs ys : List A) → AllByRecursion P xs → AllByRecursion P ys → AllByRecursion P (xs ++ ys)
Each-append P [] ys p q = q
Each-append P (x ∷ xs) ys p q = (p.0, Each-append P xs ys p.1 q)

-- what holds of each item of a list holds of each of its first ones
pub Each-take : {A : Type 0} (P : A → Type 0) (n : ℕ) (xs : List A) → AllByRecursion P xs → AllByRecursion P (take n xs)
Each-take P zero xs h = tt
Each-take P (suc n) [] h = tt
Each-take P (suc n) (x ∷ xs) h = (h.0, Each-take P n xs h.1)

-- the text has no such byte
abbrev pub Lacks : ℕ → List ℕ → Type 0
Lacks b text = AllByRecursion (λ x. x ≢ b) text

-- each byte is above a space
abbrev pub IsWord : List ℕ → Type 0
IsWord text = AllByRecursion (λ x. 32 < x) text

-- no byte is below a space
abbrev pub IsPlain : List ℕ → Type 0
IsPlain text = AllByRecursion (λ x. 32 ≤ x) text

-- each of these texts is a word
abbrev pub AreWords : List (List ℕ) → Type 0
AreWords words = AllByRecursion IsWord words

-- a word has no space, and no byte below one
pub word_lacks : (b : ℕ) (text : List ℕ) → b ≤ 32 → IsWord text → Lacks b text
word_lacks b text low word = All_weaker (λ x. 32 < x) (λ x. x ≢ b) text (λ x above same. omega (arith, above, same)) word

-- a word has no byte below a space
pub word_plain : (text : List ℕ) → IsWord text → IsPlain text
word_plain text word = All_weaker (λ x. 32 < x) (λ x. 32 ≤ x) text (λ x above. omega (arith, above)) word

pub plain_lacks : (b : ℕ) (text : List ℕ) → b < 32 → IsPlain text → Lacks b text
plain_lacks b text low plain = All_weaker (λ x. 32 ≤ x) (λ x. x ≢ b) text (λ x above same. omega (arith, above, same)) plain

-- numerals that a test tells apart differ
pub differ : (m n : ℕ) → (m == n) ≡ false → m ≢ n
differ m n e same = let bad : true ≡ false = sym (eq-eqb m n same) ∙ e in cc

-- texts that are equal begin with the same byte
pub heads : {a b : ℕ} {x y : List ℕ} → a ∷ x ≡ b ∷ y → a ≡ b
heads e = cc

-- and go on alike
pub tails : {a b : ℕ} {x y : List ℕ} → a ∷ x ≡ b ∷ y → x ≡ y
tails e = cc

-- texts whose first bytes a test tells apart differ
pub apart : (a b : ℕ) (x y : List ℕ) → (a == b) ≡ false → a ∷ x ≢ b ∷ y
apart a b x y ne e = differ a b ne (heads e)

-- texts that a comparison tells apart differ
pub texts_apart : (xs ys : List ℕ) → bytes_eq xs ys ≡ false → xs ≢ ys
texts_apart xs ys ne same = let bad : true ≡ false = sym ((bytes_decides xs ys).1 same) ∙ ne in cc

pub lacks_from : (b : ℕ) (text : List ℕ) → list_all (λ x. not (x == b)) text ≡ true → Lacks b text
lacks_from b [] e = tt
lacks_from b (x ∷ text) e =
    let parts = and_parts (not (x == b)) (list_all (λ x. not (x == b)) text) e in (differ x b (not-true (x == b) parts.0), lacks_from b text parts.1)

-- ---- numbers

-- each byte is a digit
abbrev pub AreDigits : List ℕ → Type 0
AreDigits text = AllByRecursion (λ x. (48 ≤ x) × (x ≤ 57)) text

glyph : (d : ℕ) → d < 10 → (48 ≤ digit_glyph false d) × (digit_glyph false d ≤ 57)
glyph d small =
    let is : digit_glyph false d ≡ 48 + d = ap (λ b. cond b (48 + d) (87 + d)) (lt-ltb d 10 small) in
    let low : 48 ≤ 48 + d = omega arith in let high : 48 + d ≤ 57 = omega arith in subst (λ n. (48 ≤ n) × (n ≤ 57)) (sym is) (low, high)

onto_digits : (k n : ℕ) (acc : List ℕ) → AreDigits acc → AreDigits (digits_onto k 10 false n acc)
onto_digits zero n acc more = more
onto_digits (suc k) n acc more =
    let first = glyph (n % 10) (omega arith) in
    either (n / 10 == 0) (digit_glyph false (n % 10) ∷ acc) (digits_onto k 10 false (n / 10) (digit_glyph false (n % 10) ∷ acc)) (first, more)
    (onto_digits k (n / 10) (digit_glyph false (n % 10) ∷ acc) (first, more))
  where
    either : (b : Bool) (xs ys : List ℕ) → AreDigits xs → AreDigits ys → AreDigits (cond b xs ys)
    either true xs ys p q = p
    either false xs ys p q = q

-- a number is written in digits alone
pub decimal_digits : (n : ℕ) → AreDigits (decimal n)
unfolding digits
decimal_digits n = onto_digits 64 n [] tt

-- a number is written as a word
pub decimal_word : (n : ℕ) → IsWord (decimal n)
decimal_word n = All_weaker (λ x. (48 ≤ x) × (x ≤ 57)) (λ x. 32 < x) (decimal n) (λ x d. omega (arith, d.0)) (decimal_digits n)

-- a number has no dot
pub decimal_lacks : (n b : ℕ) → b < 48 → Lacks b (decimal n)
decimal_lacks n b low = All_weaker (λ x. (48 ≤ x) × (x ≤ 57)) (λ x. x ≢ b) (decimal n) (λ x d same. omega (arith, d.0, same)) (decimal_digits n)

pub signed_word : (n : ℤ) → IsWord (signed_decimal n)
signed_word (pos n) = decimal_word n
signed_word (negsuc n) = (omega arith, decimal_word (suc n))

-- ---- how a word ends

-- the text in front of the first such byte
abbrev pub before : ℕ → List ℕ → List ℕ
before b [] = []
before b (x ∷ xs) = cond (x == b) [] (x ∷ before b xs)

-- where a text has no such byte and one follows it, the text in front of the first one is that text
pub before_cut : (b : ℕ) (word rest : List ℕ) → Lacks b word → before b (word ++ b ∷ rest) ≡ word
before_cut b [] rest lacks = ap (λ t. cond t [] (b ∷ before b rest)) (eq-eqb b b refl)
before_cut b (x ∷ word) rest lacks =
    ap (λ t. cond t [] (x ∷ before b (word ++ b ∷ rest))) (ne_eqb x b lacks.0) ∙ ap (λ l. x ∷ l) (before_cut b word rest lacks.1)

-- where a text has no such byte, the text in front of the first one is all of it
pub before_all : (b : ℕ) (word : List ℕ) → Lacks b word → before b word ≡ word
before_all b [] lacks = refl
before_all b (x ∷ word) lacks = ap (λ t. cond t [] (x ∷ before b word)) (ne_eqb x b lacks.0) ∙ ap (λ l. x ∷ l) (before_all b word lacks.1)

-- what stands behind such a byte makes no difference
pub before_same : (b : ℕ) (front xs ys : List ℕ) → before b (front ++ b ∷ xs) ≡ before b (front ++ b ∷ ys)
before_same b [] xs ys = before_cut b [] xs tt ∙ sym (before_cut b [] ys tt)
before_same b (x ∷ front) xs ys = ap (λ l. cond (x == b) [] (x ∷ l)) (before_same b front xs ys)

-- two words that end at the first such byte
pub cut : (b : ℕ) (u v x y : List ℕ) → Lacks b u → Lacks b v → u ++ b ∷ x ≡ v ++ b ∷ y → (u ≡ v) × (x ≡ y)
cut b [] [] x y nu nv e = (refl, cc)
cut b [] (c ∷ v) x y nu nv e = let same : b ≡ c = cc in absurd (nv.0 (sym same))
cut b (c ∷ u) [] x y nu nv e = let same : c ≡ b = cc in absurd (nu.0 same)
cut b (c ∷ u) (d ∷ v) x y nu nv e =
    let head : c ≡ d = cc in let tail : u ++ b ∷ x ≡ v ++ b ∷ y = cc in let rest = cut b u v x y nu.1 nv.1 tail in ((let same : u ≡ v = rest.0 in cc), rest.1)

-- a line begins with one word, and has one rest behind it
pub begins_once : (u v : List ℕ) {x y line : List ℕ} → Lacks 32 u → Lacks 32 v → line ≡ u ++ 32 ∷ x → line ≡ v ++ 32 ∷ y → (u ≡ v) × (x ≡ y)
begins_once u v {x} {y} nu nv p q = cut 32 u v x y nu nv (sym p ∙ q)

pub lacks_not : (b : ℕ) (front rest : List ℕ) → Lacks b (front ++ b ∷ rest) → ⊥
lacks_not b [] rest lacks = lacks.0 refl
lacks_not b (x ∷ front) rest lacks = lacks_not b front rest lacks.1

-- ---- words with a space before each

-- the words one after another, each behind a space
abbrev pub spaced : List (List ℕ) → List ℕ
spaced [] = []
spaced (word ∷ words) = 32 ∷ (word ++ spaced words)

pub space_is : (text : List ℕ) → space ++ text ≡ 32 ∷ text
space_is text = refl

-- `with_spaces` gives the words one after another, each behind a space
pub spaced_is : (words : List (List ℕ)) → with_spaces words ≡ spaced words
spaced_is [] = refl
spaced_is (word ∷ words) = (λ i. space_is word i ++ spaced_is words i)
