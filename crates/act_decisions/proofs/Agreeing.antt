-- Lines that agree with stems, one after the other.
use Rattle.act_decisions.proofs.Common.{◌≡◌, ℕ, suc, ◌+◌, ◌<◌, ◌≤◌, ◌==◌, Bool, true, false, List, [], ◌∷◌, ◌++◌, length, map, take, inl, inr, Some, Option}
use Rattle.act_decisions.proofs.Common.{refl, sym, ap, ◌∙◌, subst, arith, append_assoc, append-nil, All, filter, flat_map, flat_map-append, if◌then◌else◌}
use Rattle.act_decisions.proofs.Common.{get_or, is_skipped, lines_in, map-append, take_more, ◌≢◌, Bor, IfSome, None, not, add-one, codes, AllZip}
use Rattle.act_decisions.proofs.Common.{length-map, length-take-le, take_all, All-cons, All-head, All-nil, All-tail, filter-append, slice_split_none}
use Rattle.act_decisions.proofs.Common.{slice_split_at, space, with_spaces, settled_text, Settled, one_to, Stem, End, OfEnd, OfRun, IsReply, Agrees, placed}
use Rattle.act_decisions.proofs.Common.{stems_of_actor, of_role, lines_told, AgreeUpTo, ne_eqb}
use Rattle.act_decisions.proofs.Exact.{IsOfOneLine, IsCut}

-- ---- the lines of a text

-- the first byte of one line ends none
pub other_byte : (b : ℕ) (line : List ℕ) → IsOfOneLine (b ∷ line) → (b == 10) ≡ false
other_byte b line plain = ne_eqb b 10 (All-head (λ b. b ≢ 10) b line plain)

other_bytes : (text : List ℕ) → IsOfOneLine text → All (λ b. (b == 10) ≡ false) text
other_bytes [] plain = All-nil (λ b. (b == 10) ≡ false)
other_bytes (b ∷ text) plain = All-cons (λ b. (b == 10) ≡ false) b text (other_byte b text plain) (other_bytes text (All-tail (λ b. b ≢ 10) b text plain))

-- the first line, and those below it
cut_lines : (text first left : List ℕ) → IsOfOneLine first → IsCut text first left → lines_told text ≡ lines_told first ++ lines_told left
cut_lines text first left plain (inl cut) =
    let bytes = other_bytes first plain in
    ap lines_told cut
    ∙ ap (filter (λ line. not (is_skipped line))) (slice_split_at (λ b. b == 10) first 10 left bytes refl)
    ∙ filter-append (λ line. not (is_skipped line)) (first ∷ []) (lines_in left)
    ∙ ap (λ lines. filter (λ line. not (is_skipped line)) lines ++ lines_told left)
    (sym (slice_split_none (λ b. b == 10) first bytes))
cut_lines text first left plain (inr (all, none)) =
    ap lines_told all ∙ sym (append-nil (lines_told first)) ∙ ap (λ l. lines_told first ++ lines_told l) (sym none)

one_line : (first : List ℕ) → IsOfOneLine first → lines_told first ≡ (if not (is_skipped first) then first ∷ [] else [])
one_line first plain = ap (filter (λ line. not (is_skipped line))) (slice_split_none (λ b. b == 10) first (other_bytes first plain))

-- a line that is skipped
pub skipped_line : (text first left : List ℕ) → IsOfOneLine first → IsCut text first left → is_skipped first ≡ true → lines_told text ≡ lines_told left
skipped_line text first left plain cut is =
    cut_lines text first left plain cut
    ∙ ap (λ lines. lines ++ lines_told left) (one_line first plain ∙ ap (λ b. if not b then first ∷ [] else []) is)

-- a line that tells something
pub told_line_first : (text first left : List ℕ) → IsOfOneLine first → IsCut text first left → is_skipped first ≡ false
    → lines_told text ≡ first ∷ lines_told left
told_line_first text first left plain cut is =
    cut_lines text first left plain cut
    ∙ ap (λ lines. lines ++ lines_told left) (one_line first plain ∙ ap (λ b. if not b then first ∷ [] else []) is)

-- ---- stems, one after the other

all_append : (xs ys : List Stem) (us vs : List (List ℕ)) → AllZip Agrees xs us → AllZip Agrees ys vs → AllZip Agrees (xs ++ ys) (us ++ vs)
all_append [] ys [] vs none more = more
all_append [] ys (u ∷ us) vs none more = absurd none
all_append (x ∷ xs) ys [] vs none more = absurd none
all_append (x ∷ xs) ys (u ∷ us) vs (one, rest) more = (one, all_append xs ys us vs rest more)

-- one stem
pub agree_one : {stem : Stem} (bytes left : List ℕ) {line : List ℕ} → lines_told bytes ≡ line ∷ lines_told left → Agrees stem line →
    AgreeUpTo (stem ∷ []) bytes left
agree_one bytes left {line} is agrees = record { front = line ∷ []; lines = is; agree = (agrees, tt) }

-- some stems, and then others
pub agree_on : {one other : List Stem} {bytes mid left : List ℕ} → AgreeUpTo one bytes mid → AgreeUpTo other mid left → AgreeUpTo (one ++ other) bytes left
agree_on {one} {other} {left} first second = record {
  front = first.front ++ second.front;
  lines = first.lines ∙ ap (λ l. first.front ++ l) second.lines ∙ sym (append_assoc first.front second.front (lines_told left));
  agree = all_append one other first.front second.front first.agree second.agree;
}

-- all lines
pub agree_all : (stems : List Stem) {bytes : List ℕ} (left : List ℕ) → AgreeUpTo stems bytes left → lines_told left ≡ [] →
    AllZip Agrees stems (lines_told bytes)
agree_all stems left agree none = subst (AllZip Agrees stems) (sym (agree.lines ∙ ap (λ l. agree.front ++ l) none ∙ append-nil agree.front)) agree.agree

-- ---- the stems of lists

placed_last : {X : Type 0} (stem_of : ℕ → X → Stem) (n : ℕ) (xs : List X) (x : X)
    → placed stem_of n (xs ++ x ∷ []) ≡ placed stem_of n xs ++ stem_of (n + length xs) x ∷ []
placed_last stem_of n [] x = ap (λ m. stem_of m x ∷ []) (let e : n ≡ n + 0 = omega arith in e)
placed_last stem_of n (y ∷ xs) x =
    ap (λ l. stem_of n y ∷ l)
    (placed_last stem_of (n + 1) xs x ∙ ap (λ m. placed stem_of (n + 1) xs ++ stem_of m x ∷ [])
    (let e : (n + 1) + length xs ≡ n + suc (length xs) = omega arith in e))

-- those of one member more
placed_more : {X Y : Type 0} (seen : X → Y) (stem_of : ℕ → Y → Stem) (xs : List X) (i : ℕ) (x : X) → i < length xs → x ≡ get_or xs i x
    → placed stem_of 0 (map seen (take (i + 1) xs)) ≡ placed stem_of 0 (map seen (take i xs)) ++ stem_of i (seen x) ∷ []
placed_more {X = X} {Y = Y} seen stem_of xs i x within is =
    let long : 0 + length (map seen (take i xs)) ≡ i = (let one : length (map seen (take i xs)) ≡ length (take i xs) = length-map (take i xs) seen in let two =
    length-take-le i xs (omega arith) in omega arith) in
    ap (λ l. placed stem_of 0 (map seen l)) (take_more xs i x within ∙ ap (λ y. take i xs ++ y ∷ []) (sym is))
    ∙ ap (placed stem_of 0) (map-append seen (take i xs) (x ∷ []))
    ∙ placed_last stem_of 0 (map seen (take i xs)) (seen x)
    ∙ ap (λ n. placed stem_of 0 (map seen (take i xs)) ++ stem_of n (seen x) ∷ []) long

-- one line more
pub member_more : {X Y : Type 0} (seen : X → Y) (stem_of : ℕ → Y → Stem) (xs : List X) {i : ℕ} (x : X) {bytes mid left : List ℕ} → i < length xs →
    x ≡ get_or xs i x → AgreeUpTo (placed stem_of 0 (map seen (take i xs))) bytes mid → AgreeUpTo (stem_of i (seen x) ∷ []) mid left →
    AgreeUpTo (placed stem_of 0 (map seen (take (i + 1) xs))) bytes left
member_more seen stem_of xs {i} x {bytes} {mid} {left} within is so_far one =
    subst (λ stems. AgreeUpTo stems bytes left) (sym (placed_more seen stem_of xs i x within is))
    (agree_on so_far one)

-- all of them
pub members_all : {X Y : Type 0} (seen : X → Y) (stem_of : ℕ → Y → Stem) (xs : List X) {i : ℕ} {bytes left : List ℕ} → length xs ≤ i
    → AgreeUpTo (placed stem_of 0 (map seen (take i xs))) bytes left → AgreeUpTo (placed stem_of 0 (map seen xs)) bytes left
members_all seen stem_of xs {i} {bytes} {left} whole so_far = subst (λ l. AgreeUpTo (placed stem_of 0 (map seen l)) bytes left) (take_all i xs whole) so_far

-- those of one number more
pub number_more : (stems_at : ℕ → List Stem) (n : ℕ) {bytes mid left : List ℕ} → AgreeUpTo (flat_map stems_at (one_to n)) bytes mid
    → AgreeUpTo (stems_at (n + 1)) mid left → AgreeUpTo (flat_map stems_at (one_to (n + 1))) bytes left
number_more stems_at n {bytes} {mid} {left} so_far one = subst (λ stems. AgreeUpTo stems bytes left) (sym more) (agree_on so_far one)
  where
    more : flat_map stems_at (one_to (n + 1)) ≡ flat_map stems_at (one_to n) ++ stems_at (n + 1)
    more =
        ap (λ m. flat_map stems_at (one_to m)) (add-one n)
        ∙ flat_map-append stems_at (one_to n) (suc n ∷ [])
        ∙ ap (λ l. flat_map stems_at (one_to n) ++ l) (append-nil (stems_at (suc n)))
        ∙ ap (λ m. flat_map stems_at (one_to n) ++ stems_at m) (sym (add-one n))

-- those of an actor that somebody may call
pub actor_more : (a : ℕ) (callers : List ℕ) (end : End) (bytes mid left : List ℕ) → 0 < length callers → AgreeUpTo (OfEnd a end.dead end.retired ∷ []) bytes
    mid → AgreeUpTo (placed (OfRun a) 0 end.runs) mid left → AgreeUpTo (stems_of_actor a (of_role callers end)) bytes left
actor_more a [] end bytes mid left some one more = absurd (omega arith)
actor_more a (c ∷ callers) end bytes mid left some one more = agree_on one more

-- ---- the words of a line

pub replies : (front words what : List ℕ) → words ≡ codes " = " ++ what → what ≢ codes "*" → what ≢ codes "ActorDied" → IsReply front (front ++ words)
replies front words what is told alive = record
    { what = what; is = ap (λ l. front ++ l) is ∙ sym (append_assoc front (codes " = ") what); told = told; alive = alive }

-- arguments, a space before each
pub spaced : (args : List Settled) → flat_map (λ arg. space ++ settled_text arg) args ≡ with_spaces (map settled_text args)
spaced [] = refl
spaced (arg ∷ args) = ap (λ l. (space ++ settled_text arg) ++ l) (spaced args)

-- ---- what a test told

-- what is left of some lines, where something is
pub some_left : (o : Option (Bor (List ℕ))) (P Q : List ℕ → Type 0) → ((left : List ℕ) → P left → Q left) → IfSome o (λ left. P left.now)
    → IfSome o (λ left. Q left.now)
some_left None P Q weaker is = tt
some_left (Some left) P Q weaker is = weaker left.now is

pub told_not : {b : Bool} → b ≡ true → not b ≡ true → ⊥
told_not yes_is no_is = let e : not true ≡ true = ap not (sym yes_is) ∙ no_is in cc
