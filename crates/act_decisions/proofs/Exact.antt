-- Lines beside the text that they tell: what is read off the text is what they tell.
use Rattle.act_decisions.proofs.Common.{◌≡◌, ◌⊎◌, ℕ, suc, ◌+◌, ◌-◌, ◌<◌, ◌≤◌, ◌==◌, ◌||◌, Bool, true, false, List, [], ◌∷◌, ◌++◌, length, map, take, inl, inr}
use Rattle.act_decisions.proofs.Common.{refl, sym, ap, ◌∙◌, subst, arith, append_assoc, append-nil, All, flat_map, flat_map-append, if◌then◌else◌, get_or}
use Rattle.act_decisions.proofs.Common.{eq-eqb, eqb-true, told_line, IsToldAs, Make, is_skipped, lines_in, codes, drop, None, Some, position, ◌≢◌, add-one}
use Rattle.act_decisions.proofs.Common.{get_or-take, length-take, take-append-drop, All-cons, All-from_get_or, All-head, All-nil, All-tail, drop-cons}
use Rattle.act_decisions.proofs.Common.{position_or_len, starts_with, length-append, length-drop, take_all, All-append, All-take, line, ends_in, is_open}
use Rattle.act_decisions.proofs.Common.{onto_first, slice_split-cons_yes, slice_split-cons_no}
use Rattle.std.proofs.lemmas.Bool.Decides.{leb_tells}
use Rattle.std.proofs.lemmas.List.Quantifiers.{position-Some}
use Rattle.std.proofs.lemmas.List.Sums.{fails_before_first}
use Rattle.std.specs.Bool.{Decides}
use Rattle.std.proofs.lemmas.Slice.Eq.{starts_is, ends_is}
use Rattle.act_summaries.proofs.Bytes.{heads, tails}
use Rattle.act_summaries.proofs.AsTheyStand.{told_of}

-- the text ends no line
abbrev pub IsOfOneLine : List ℕ → Type 0
IsOfOneLine text = All (λ b. b ≢ 10) text

-- ---- where a text is cut

-- two texts that are cut at the end of their first line are cut alike
pub cut_alike : (one other front back : List ℕ) → IsOfOneLine one → IsOfOneLine other → one ++ 10 ∷ front ≡ other ++ 10 ∷ back → (one ≡ other) × (front ≡ back)
cut_alike [] [] front back plain same e = (refl, tails e)
cut_alike [] (b ∷ other) front back plain same e = absurd (All-head (λ b. b ≢ 10) b other same (sym (heads e)))
cut_alike (b ∷ one) [] front back plain same e = absurd (All-head (λ b. b ≢ 10) b one plain (heads e))
cut_alike (a ∷ one) (b ∷ other) front back plain same e =
    let rest = cut_alike one other front back (All-tail (λ b. b ≢ 10) a one plain) (All-tail (λ b. b ≢ 10) b other same)
    (tails e) in
    let first = heads e in ((λ i. first i ∷ rest.0 i), rest.1)

-- a text that ends no line isn't cut
pub uncut : (one other back : List ℕ) → IsOfOneLine one → one ≡ other ++ 10 ∷ back → ⊥
uncut one [] back plain e = All-head (λ b. b ≢ 10) 10 back (subst IsOfOneLine e plain) refl
uncut [] (b ∷ other) back plain e = cc
uncut (a ∷ one) (b ∷ other) back plain e = uncut one other back (All-tail (λ b. b ≢ 10) a one plain) (tails e)

-- a first line that was cut off, or is all
abbrev pub IsCut : List ℕ → List ℕ → List ℕ → Type 0
IsCut text first left = (text ≡ first ++ 10 ∷ left) ⊎ ((text ≡ first) × (left ≡ []))

-- what begins with a line is cut behind it
pub cut_behind : {text : List ℕ} (first left line more : List ℕ) → IsOfOneLine first → IsOfOneLine line → IsCut text first left → text ≡ line ++ 10 ∷ more →
    (first ≡ line) × (left ≡ more)
cut_behind first left line more plain same (inl cut) is = cut_alike first line left more plain same (sym cut ∙ is)
cut_behind first left line more plain same (inr (all, none)) is = absurd (uncut first line more plain (sym all ∙ is))

-- ---- where the end of a line is looked for

abbrev ends_line : ℕ → Bool
ends_line b = b == 10

-- it is found
pub before_end : (text : List ℕ) (at : ℕ) → position ends_line text ≡ Some at → IsOfOneLine (take at text)
before_end text at found =
    let is = position-Some ends_line text at 0 found in
    All-from_get_or (λ b. b ≢ 10) (take at text) 0
    (λ k within same. let below : k < at = omega (arith, within, length-take at text) in let no_is : ends_line (get_or text k 0) ≡ false = is.2 k below in
    let yes_is : ends_line (get_or text k 0) ≡ true = eq-eqb (get_or text k 0) 10 (sym (get_or-take at text k 0 below) ∙ same) in cc (no_is, yes_is))

drop_here : (text : List ℕ) (at : ℕ) → at < length text → drop at text ≡ get_or text at 0 ∷ drop (at + 1) text
drop_here text at within = rw add-one (drop-cons text at 0 within)

pub end_found : (text : List ℕ) (at : ℕ) → position ends_line text ≡ Some at → text ≡ take at text ++ 10 ∷ take (length text - (at + 1)) (drop (at + 1) text)
end_found text at found =
    let is = position-Some ends_line text at 0 found in
    let here : get_or text at 0 ≡ 10 = eqb-true (get_or text at 0) 10 is.1 in
    sym (take-append-drop at text) ∙ ap (λ l. take at text ++ l) (drop_here text at is.0 ∙ ap (λ b. b ∷ drop (at + 1) text) here
    ∙ ap (λ l. 10 ∷ l) (sym (take_all (length text - (at + 1)) (drop (at + 1) text) (omega (arith, length-drop (at + 1) text)))))

-- or there is none
pub no_end : (text : List ℕ) → position ends_line text ≡ None → IsOfOneLine text
no_end text none = elim (leb_tells (suc (position_or_len ends_line text)) (length text)) [
  | inl t ↦ absurd (cc (none, t.0))
  | inr f ↦ All-from_get_or (λ b. b ≢ 10) text 0 (λ k within same. let past = f.1 in let no_is : ends_line (get_or text k 0) ≡ false = fails_before_first
      ends_line text k 0 (omega arith) in let yes_is : ends_line (get_or text k 0) ≡ true = eq-eqb (get_or text k 0) 10 same in cc (no_is, yes_is))
]

-- ---- one line, beside what is shown

-- whether two numbers are the same is decided
nat_decides : (a b : ℕ) → Decides (a == b) (a ≡ b)
nat_decides a b = (eqb-true a b, eq-eqb a b)

-- what is made of a front begins with it
pub begins : (front what text : List ℕ) → text ≡ front ++ what → starts_with (λ a b. a == b) text front ≡ true
begins front what text is = (starts_is nat_decides text front (starts_with (λ a b. a == b) text front) refl).1 what is

-- a text that ends in another is as long at least
ended : (end text : List ℕ) → ends_in end text ≡ true → length end ≤ length text
ended end text is =
    let front = take (length text - length end) text in
    let e : length text ≡ length front + length end = ap (λ l. length l) ((ends_is nat_decides text end (ends_in end text) refl).0 is)
    ∙ length-append front end in
    omega arith

open_long : (text : List ℕ) → is_open text ≡ true → 4 ≤ length text
open_long text is = go (ends_in (codes " = *") text) (ends_in (codes " live ?") text) (ends_in (codes " retired ?") text) refl refl refl is
  where
    go : (a b c : Bool) → ends_in (codes " = *") text ≡ a → ends_in (codes " live ?") text ≡ b → ends_in (codes " retired ?") text ≡ c → (a || b || c) ≡ true
        → 4 ≤ length text
    go true b c one two three any = let n = ended (codes " = *") text one in omega arith
    go false true c one two three any = let n = ended (codes " live ?") text two in omega arith
    go false false true one two three any = let n = ended (codes " retired ?") text three in omega arith
    go false false false one two three any = cc

-- a line that is filled in is skipped where it was
pub told_skipped : (text told : List ℕ) → IsToldAs text told → is_skipped told ≡ is_skipped text
told_skipped text told (inl same) = ap is_skipped same
told_skipped [] told (inr filled) = absurd (let long = open_long [] filled.marked in omega arith)
told_skipped (b ∷ text) told (inr filled) =
    let long = open_long (b ∷ text) filled.marked in let n : length (b ∷ text) - 1 ≡ suc (length text - 1) = omega arith in
    ap is_skipped (filled.filled ∙ ap (λ n. take n (b ∷ text) ++ filled.what) n)

-- and is of one line, too
pub told_plain : (text told : List ℕ) → IsOfOneLine text → IsToldAs text told → IsOfOneLine told
told_plain text told plain (inl same) = subst IsOfOneLine (sym same) plain
told_plain text told plain (inr filled) =
    let front = take (length text - 1) text in
    let begun : IsOfOneLine front = All-take (λ b. b ≢ 10) (length text - 1) text plain in
    subst IsOfOneLine (sym filled.filled) (All-append (λ b. b ≢ 10) front filled.what begun filled.of_one_line)

-- a line that is skipped adds nothing
pub nothing_told : (line old : List ℕ) → is_skipped line ≡ true → old ≡ old ++ told_line line
nothing_told text old is = sym (ap (λ b. old ++ (if b then [] else line text)) is ∙ append-nil old)

pub beside_skipped : (text told more : List ℕ) {shown : List ℕ} (old : List ℕ) → is_skipped text ≡ true → IsToldAs text told → shown ≡ told_line told ++ more
    → (old ≡ old ++ told_line told) × (shown ≡ more)
beside_skipped text told more old is as_told begun =
    let so = told_skipped text told as_told ∙ is in (nothing_told told old so, begun ∙ ap (λ b. (if b then [] else line told) ++ more) so)

-- another is what is shown first
pub beside_told : (text told more : List ℕ) {shown : List ℕ} (first left old new : List ℕ) → is_skipped text ≡ false → IsOfOneLine text → IsToldAs text told
    → shown ≡ told_line told ++ more → IsOfOneLine first → IsCut shown first left
    → (IsToldAs text first → new ≡ old ++ told_line first) → (new ≡ old ++ told_line told) × (left ≡ more)
beside_told text told more {shown} first left old new is plain as_told begun first_plain cut adds =
    let so = told_skipped text told as_told ∙ is in
    let whole : shown ≡ told ++ 10 ∷ more = begun ∙ ap (λ b. (if b then [] else line told) ++ more) so ∙ append_assoc told (10 ∷ []) more in
    let same = cut_behind first left told more first_plain (told_plain text told plain as_told) cut whole in
    (subst (λ t. new ≡ old ++ told_line t) same.0 (adds (subst (IsToldAs text) (sym same.0) as_told)), same.1)

-- ---- all lines, beside what is shown

abbrev IsTold : List ℕ × List ℕ → Type 0
IsTold pair = IsToldAs pair.0 pair.1

-- where what is shown begins with what these lines tell, this is the text so far, and the rest is left
abbrev pub Follows : List (List ℕ) → List ℕ → List ℕ → List ℕ → Type 0
Follows lines shown text left = (pairs : List (List ℕ × List ℕ)) (more : List ℕ) → map (λ pair. pair.0) pairs ≡ lines → All IsOfOneLine lines →
    All IsTold pairs → shown ≡ flat_map told_of pairs ++ more → (text ≡ flat_map told_of pairs) × (left ≡ more)

All-split : {X : Type 0} (P : X → Type 0) (xs ys : List X) → All P (xs ++ ys) → All P xs × All P ys
All-split P [] ys all = (All-nil P, all)
All-split P (x ∷ xs) ys all = let rest = All-split P xs ys (All-tail P x (xs ++ ys) all) in (All-cons P x xs (All-head P x (xs ++ ys) all) rest.0, rest.1)

-- the last of a list that ends in one
split_last : {X : Type 0} (pairs : List (X × X)) (front : List X) (last : X) → map (λ pair. pair.0) pairs ≡ front ++ last ∷ [] →
    (before : List (X × X)) × (other : X) × (pairs ≡ before ++ (last, other) ∷ []) × (map (λ pair. pair.0) before ≡ front)
split_last [] [] last e = cc
split_last [] (x ∷ front) last e = cc
split_last (pair ∷ []) [] last e = ([], pair.1, (λ i. (head_is e i, pair.1) ∷ []), refl)
  where
    head_is : pair.0 ∷ [] ≡ last ∷ [] → pair.0 ≡ last
    head_is e = cc
split_last (pair ∷ other ∷ pairs) [] last e = cc
split_last {X = X} (pair ∷ pairs) (x ∷ front) last e =
    let tail : map (λ (pair : X × X). pair.0) pairs ≡ front ++ last ∷ [] = cc in
    let head : pair.0 ≡ x = cc in let rest = split_last pairs front last tail in (pair ∷ rest.0, rest.1, (λ i. pair ∷ rest.2 i), (λ i. head i ∷ rest.3 i))

-- one line more
pub follows_more : (lines : List (List ℕ)) (text_line : List ℕ) {shown old : List ℕ} (new : List ℕ) {left : List ℕ} (after : List ℕ) →
    Follows lines shown old left → ((told more : List ℕ) → IsOfOneLine text_line → IsToldAs text_line told → left ≡ told_line told ++ more →
    (new ≡ old ++ told_line told) × (after ≡ more)) → Follows (lines ++ text_line ∷ []) shown new after
follows_more lines text_line new after so_far one pairs more same plain told is =
    let at = split_last pairs lines text_line same in let before = at.0 in let last = at.1 in
    let each : All IsTold (before ++ (text_line, last) ∷ []) = subst (All IsTold) at.2 told in
    let lines_split = All-split IsOfOneLine lines (text_line ∷ []) plain in
    let pairs_split = All-split IsTold before ((text_line, last) ∷ []) each in
    let whole : flat_map told_of pairs ≡ flat_map told_of before ++ told_line last =
    ap (flat_map told_of) at.2 ∙ flat_map-append told_of before ((text_line, last) ∷ [])
    ∙ ap (λ l. flat_map told_of before ++ l) (append-nil (told_line last)) in
    let was = so_far before (told_line last ++ more) at.3 lines_split.0 pairs_split.0 (is ∙ ap (λ l. l ++ more) whole
    ∙ append_assoc (flat_map told_of before) (told_line last) more) in
    let now = one last more (All-head IsOfOneLine text_line [] lines_split.1) (All-head IsTold (text_line, last) [] pairs_split.1) was.1 in
    (now.0 ∙ ap (λ l. l ++ told_line last) was.0 ∙ sym whole, now.1)

-- the lines of a text are each of one line
plain_onto : (c : ℕ) (lines : List (List ℕ)) → c ≢ 10 → All IsOfOneLine lines → All IsOfOneLine (onto_first c lines)
plain_onto c [] differs plain = All-cons IsOfOneLine (c ∷ []) [] (All-cons (λ b. b ≢ 10) c [] differs (All-nil (λ b. b ≢ 10))) (All-nil IsOfOneLine)
plain_onto c (text ∷ lines) differs plain =
    All-cons IsOfOneLine (c ∷ text) lines (All-cons (λ b. b ≢ 10) c text differs (All-head IsOfOneLine text lines plain))
    (All-tail IsOfOneLine text lines plain)

plain_more : (b : ℕ) (bytes : List ℕ) (is : Bool) → (b == 10) ≡ is → All IsOfOneLine (lines_in bytes) → All IsOfOneLine (lines_in (b ∷ bytes))
plain_more b bytes true is plain = subst (All IsOfOneLine) (sym (slice_split-cons_yes (λ b. b == 10) b bytes is))
    (All-cons IsOfOneLine [] (lines_in bytes) (All-nil (λ b. b ≢ 10)) plain)
plain_more b bytes false is plain =
    subst (All IsOfOneLine) (sym (slice_split-cons_no (λ b. b == 10) b bytes is)) (plain_onto b (lines_in bytes) (λ same. cc (eq-eqb b 10 same, is)) plain)

pub lines_plain : (bytes : List ℕ) → All IsOfOneLine (lines_in bytes)
lines_plain [] = All-cons IsOfOneLine [] [] (All-nil (λ b. b ≢ 10)) (All-nil IsOfOneLine)
lines_plain (b ∷ bytes) = plain_more b bytes (b == 10) refl (lines_plain bytes)

-- the text is what the lines tell, where that is shown
pub follows_whole : (bytes : List ℕ) {shown text left : List ℕ} → Follows (lines_in bytes) shown text left → Make (lines_in bytes) shown → text ≡ shown
follows_whole bytes so_far make =
    (so_far make.pairs [] make.given (lines_plain bytes) make.told (make.whole ∙ sym (append-nil (flat_map told_of make.pairs)))).0 ∙ sym make.whole
