-- The first line of a text, byte by byte, and its words.
use Rattle.act_scripts.proofs.Common.{◌≡◌, ℕ, ◌+◌, ◌-◌, ◌<◌, ◌≤◌, ◌==◌, Bool, true, false, List, [], ◌∷◌, ◌++◌, length, take, drop, get_or, nat_lt}
use Rattle.act_scripts.proofs.Common.{if◌then◌else◌, Err, refl, sym, ap, ◌∙◌, arith, append-nil, length-append, length-take, take-append-drop, eq-eqb, list_all}
use Rattle.act_scripts.proofs.Common.{onto_first, slice_split, at_drop_more, take_more, drop_all, drop-take, drop-append-le, slice_split-cons_yes}
use Rattle.act_scripts.proofs.Common.{slice_split-cons_no, length-slice_split, list_all-append, list_all_more, and_parts, lt-ltb, nat_tests, MAX_LINE_BYTES}
use Rattle.act_scripts.proofs.Common.{BadLine, is_plain_byte, plain_at, words_in, lines_in}

-- ---- parts, with one element more

abbrev onto_last : {X : Type 0} → X → List (List X) → List (List X)
onto_last x [] = []
onto_last x (part ∷ []) = (part ++ x ∷ []) ∷ []
onto_last x (part ∷ next ∷ parts) = part ∷ onto_last x (next ∷ parts)

onto_last-push : {X : Type 0} (x : X) (parts : List (List X)) (last : List X) → onto_last x (parts ++ last ∷ []) ≡ parts ++ (last ++ x ∷ []) ∷ []
onto_last-push x [] last = refl
onto_last-push x (part ∷ []) last = refl
onto_last-push x (part ∷ next ∷ parts) last = ap (λ l. part ∷ l) (onto_last-push x (next ∷ parts) last)

yes_commutes : {X : Type 0} (y : X) (b : Bool) (parts : List (List X)) → 0 < length parts →
    (if b then [] ∷ (parts ++ [] ∷ []) else onto_first y (parts ++ [] ∷ [])) ≡ (if b then [] ∷ parts else onto_first y parts) ++ [] ∷ []
yes_commutes y b [] some = absurd (omega arith)
yes_commutes y true (part ∷ parts) some = refl
yes_commutes y false (part ∷ parts) some = refl

no_commutes : {X : Type 0} (x y : X) (b : Bool) (parts : List (List X)) → 0 < length parts →
    (if b then [] ∷ onto_last x parts else onto_first y (onto_last x parts)) ≡ onto_last x (if b then [] ∷ parts else onto_first y parts)
no_commutes x y b [] some = absurd (omega arith)
no_commutes x y true (part ∷ []) some = refl
no_commutes x y false (part ∷ []) some = refl
no_commutes x y true (part ∷ next ∷ parts) some = refl
no_commutes x y false (part ∷ next ∷ parts) some = refl

module _ {X : Type 0} (p : X → Bool) where
  some_part : (xs : List X) → 0 < length (slice_split p xs)
  some_part xs = omega (arith, length-slice_split p xs)

  split_yes : (xs : List X) (x : X) → p x ≡ true → slice_split p (xs ++ x ∷ []) ≡ slice_split p xs ++ [] ∷ []
  split_yes [] x e = slice_split-cons_yes p x [] e
  split_yes (y ∷ ys) x e = rw (split_yes ys x e) (yes_commutes y (p y) (slice_split p ys) (some_part ys))

  split_no : (xs : List X) (x : X) → p x ≡ false → slice_split p (xs ++ x ∷ []) ≡ onto_last x (slice_split p xs)
  split_no [] x e = slice_split-cons_no p x [] e
  split_no (y ∷ ys) x e = rw (split_no ys x e) (no_commutes x y (p y) (slice_split p ys) (some_part ys))

-- a space ends a word, and any other byte goes on with it
pub words-space : (seen : List ℕ) (words : List (List ℕ)) (word : List ℕ) (b : ℕ) → (b == 32) ≡ true → words_in seen ≡ words ++ word ∷ [] →
    words_in (seen ++ b ∷ []) ≡ (words ++ word ∷ []) ++ [] ∷ []
words-space seen words word b e so_far = split_yes (λ b. b == 32) seen b e ∙ ap (λ l. l ++ [] ∷ []) so_far

pub words-byte : (seen : List ℕ) (words : List (List ℕ)) (word : List ℕ) (b : ℕ) → (b == 32) ≡ false → words_in seen ≡ words ++ word ∷ [] →
    words_in (seen ++ b ∷ []) ≡ words ++ (word ++ b ∷ []) ∷ []
words-byte seen words word b e so_far = split_no (λ b. b == 32) seen b e ∙ ap (onto_last b) so_far ∙ onto_last-push b words word

-- ---- the first line

not_end : (b : ℕ) → is_plain_byte b ≡ true → (b == 10) ≡ false
not_end b h = grind (arith, nat_tests)

-- plain bytes begin the first line
pub lines_on : (front back : List ℕ) {tail : List ℕ} {lines : List (List ℕ)} → list_all is_plain_byte front ≡ true → lines_in back ≡ tail ∷ lines →
    lines_in (front ++ back) ≡ (front ++ tail) ∷ lines
lines_on [] back plain is = is
lines_on (b ∷ bs) back {tail} {lines} plain is =
    let p = and_parts (is_plain_byte b) (list_all is_plain_byte bs) plain in
    slice_split-cons_no (λ b. b == 10) b (bs ++ back) (not_end b p.0) ∙ ap (onto_first b) (lines_on bs back p.1 is)

pub lines_last : (front : List ℕ) → list_all is_plain_byte front ≡ true → lines_in front ≡ front ∷ []
lines_last front plain = let on = lines_on front [] {tail = []} {lines = []} plain refl in rw (append-nil front) at on

pub lines_more : (front back : List ℕ) (b : ℕ) → list_all is_plain_byte front ≡ true → (b == 10) ≡ true → lines_in (front ++ b ∷ back) ≡ front ∷ lines_in back
lines_more front back b plain e =
    lines_on front (b ∷ back) plain (slice_split-cons_yes (λ b. b == 10) b back e) ∙ ap (λ l. l ∷ lines_in back) (append-nil front)

-- each text has a first line
pub first_of : (bs : List ℕ) → (line : List ℕ) × (lines : List (List ℕ)) × (lines_in bs ≡ line ∷ lines)
first_of bs = go (lines_in bs) (some_part (λ b. b == 10) bs) refl
  where
    go : (parts : List (List ℕ)) → 0 < length parts → lines_in bs ≡ parts → (line : List ℕ) × (lines : List (List ℕ)) × (lines_in bs ≡ line ∷ lines)
    go [] some is = absurd (omega arith)
    go (part ∷ parts) some is = (part, parts, is)

-- a byte that is not plain and ends no line makes the first line one that is not plain
pub bad_line : (front back line : List ℕ) (b : ℕ) (lines : List (List ℕ)) → list_all is_plain_byte front ≡ true → is_plain_byte b ≡ false → (b == 10) ≡ false →
    lines_in (front ++ b ∷ back) ≡ line ∷ lines → list_all is_plain_byte line ≡ false
bad_line front back line b lines plain bad other is =
    let after = first_of back in
    let on : lines_in (front ++ b ∷ back) ≡ (front ++ b ∷ after.0) ∷ after.1 =
    lines_on front (b ∷ back) plain (slice_split-cons_no (λ b. b == 10) b back other ∙ ap (onto_first b) after.2) in
    let same : line ≡ front ++ b ∷ after.0 = (let e : line ∷ lines ≡ (front ++ b ∷ after.0) ∷ after.1 = sym is ∙ on in cc) in
    rw (same, list_all-append is_plain_byte front (b ∷ after.0), plain, bad) refl

-- and many plain bytes a long one
pub long_line : (front back line : List ℕ) (lines : List (List ℕ)) → list_all is_plain_byte front ≡ true → lines_in (front ++ back) ≡ line ∷ lines →
    length front ≤ length line
long_line front back line lines plain is =
    let after = first_of back in
    let on : lines_in (front ++ back) ≡ (front ++ after.0) ∷ after.1 = lines_on front back plain after.2 in
    let same : line ≡ front ++ after.0 = (let e : line ∷ lines ≡ (front ++ after.0) ∷ after.1 = sym is ∙ on in cc) in
    rw same (omega (arith, length-append front after.0))

-- ---- the bytes of a line so far

all_dropped : (n : ℕ) (bs : List ℕ) → list_all is_plain_byte bs ≡ true → list_all is_plain_byte (drop n bs) ≡ true
all_dropped n bs plain = (and_parts (list_all is_plain_byte (take n bs)) (list_all is_plain_byte (drop n bs))
    (sym (list_all-append is_plain_byte (take n bs) (drop n bs)) ∙ ap (list_all is_plain_byte) (take-append-drop n bs) ∙ plain)).1

-- the word that the bytes so far end in
pub seen_word : (bs : List ℕ) {word at : ℕ} → word ≤ at → drop word (take at bs) ≡ take (at - word) (drop word bs)
seen_word bs {word} {at} le = let on : at ≡ word + (at - word) = omega arith in ap (λ n. drop word (take n bs)) on ∙ drop-take word (at - word) bs

pub word_plain : (bs : List ℕ) {word at : ℕ} → word ≤ at → list_all is_plain_byte (take at bs) ≡ true →
    list_all is_plain_byte (take (at - word) (drop word bs)) ≡ true
word_plain bs {word} {at} le plain = rw (← seen_word bs le) (all_dropped word (take at bs) plain)

either_way : {X : Type 0} (b : Bool) (x : X) → (if b then x else x) ≡ x
either_way true x = refl
either_way false x = refl

pub unplain_at : (line : List ℕ) → list_all is_plain_byte line ≡ false → plain_at line ≡ Err BadLine
unplain_at line e = rw e (either_way (nat_lt MAX_LINE_BYTES (length line)) (Err BadLine))

pub long_at : (line : List ℕ) → MAX_LINE_BYTES < length line → plain_at line ≡ Err BadLine
long_at line long = rw (lt-ltb MAX_LINE_BYTES (length line) long) refl

module _ (bs : List ℕ) (at : ℕ) (lt : at < length bs) (plain : list_all is_plain_byte (take at bs) ≡ true) where
  parts : bs ≡ take at bs ++ get_or bs at 0 ∷ drop (at + 1) bs
  parts = sym (take-append-drop at bs) ∙ at_drop_more (λ l. take at bs ++ l) bs at 0 lt

  pub line_ends : get_or bs at 0 ≡ 10 → lines_in bs ≡ take at bs ∷ lines_in (drop (at + 1) bs)
  line_ends e = ap lines_in parts ∙ lines_more (take at bs) (drop (at + 1) bs) (get_or bs at 0) plain (eq-eqb _ 10 e)

  pub line_fails : is_plain_byte (get_or bs at 0) ≡ false → (get_or bs at 0 == 10) ≡ false → (line : List ℕ) (lines : List (List ℕ)) →
      lines_in bs ≡ line ∷ lines → plain_at line ≡ Err BadLine
  line_fails bad other line lines is =
      unplain_at line (bad_line (take at bs) (drop (at + 1) bs) line (get_or bs at 0) lines plain bad other (sym (ap lines_in parts) ∙ is))

  pub plain_more : is_plain_byte (get_or bs at 0) ≡ true → list_all is_plain_byte (take (at + 1) bs) ≡ true
  plain_more good = list_all_more is_plain_byte bs at 0 lt ∙ rw (plain, good) refl

  pub word_ends : (words : List (List ℕ)) (word : List ℕ) → get_or bs at 0 ≡ 32 → words_in (take at bs) ≡ words ++ word ∷ [] →
      words_in (take (at + 1) bs) ≡ (words ++ word ∷ []) ++ drop (at + 1) (take (at + 1) bs) ∷ []
  word_ends words word e so_far =
      let none : drop (at + 1) (take (at + 1) bs) ≡ [] = drop_all (at + 1) (take (at + 1) bs) (omega (arith, length-take (at + 1) bs)) in
      ap words_in (take_more bs at 0 lt) ∙ words-space (take at bs) words word (get_or bs at 0) (eq-eqb _ 32 e) so_far ∙
      ap (λ l. (words ++ word ∷ []) ++ l ∷ []) (sym none)

  pub word_goes_on : (words : List (List ℕ)) {word : ℕ} → word ≤ at → (get_or bs at 0 == 32) ≡ false →
      words_in (take at bs) ≡ words ++ drop word (take at bs) ∷ [] → words_in (take (at + 1) bs) ≡ words ++ drop word (take (at + 1) bs) ∷ []
  word_goes_on words {word} le e so_far =
      let within : word ≤ length (take at bs) = omega (arith, length-take at bs) in
      ap words_in (take_more bs at 0 lt) ∙ words-byte (take at bs) words (drop word (take at bs)) (get_or bs at 0) e so_far
      ∙ ap (λ l. words ++ l ∷ []) (sym (ap (drop word) (take_more bs at 0 lt) ∙ drop-append-le word (take at bs) (get_or bs at 0 ∷ []) within))

-- more plain bytes than a line may have
pub too_long : (bs : List ℕ) (at : ℕ) → at ≤ length bs → MAX_LINE_BYTES < at → list_all is_plain_byte (take at bs) ≡ true →
    (line : List ℕ) (lines : List (List ℕ)) → lines_in bs ≡ line ∷ lines → plain_at line ≡ Err BadLine
too_long bs at le long plain line lines is =
    let on : lines_in (take at bs ++ drop at bs) ≡ line ∷ lines = ap lines_in (take-append-drop at bs) ∙ is in
    long_at line (omega (arith, length-take at bs, long_line (take at bs) (drop at bs) line lines plain on))
