-- What two texts of one line say alike: a future's line, and an item's.
use Rattle.act_summaries.proofs.Common.{◌≡◌, ◌≢◌, ℕ, zero, suc, ◌+◌, ◌<◌, ◌^◌, ◌≤◌, ◌⊎◌, inl, inr, true, List, [], ◌∷◌, ◌++◌, codes, length, decimal, refl, sym}
use Rattle.act_summaries.proofs.Common.{ap, ◌∙◌, subst, arith, append_assoc, map, Option, Some, None, is_some, Result, Ok, pos, negsuc, Contains}
use Rattle.act_summaries.proofs.Common.{AllByRecursion, AllZip, append-nil, decimal_injective, space, caller_text, actor_text, method_text, value_text}
use Rattle.act_summaries.proofs.Common.{settled_text, answer_text, Value, Method, Settled, Good, Bad, RunItem, Submission, Wrong, Answer, kept_at, is_sayable}
use Rattle.act_summaries.proofs.Common.{is_sayable_method, method_at, value_at, future_text, All_weaker, IsReadable, open_line}
use Rattle.act_types.specs.declared.call.Value.TheVariants as value
use Rattle.act_rules.proofs.ReadingBack.{method_reads_back, value_reads_back}
use Rattle.act_summaries.proofs.Bytes.{differ, tails, apart, spaced, IsWord, AreWords, AreDigits, Lacks, word_lacks, cut, decimal_digits}
use Rattle.act_summaries.proofs.Marks.{Mark, Equals, Live, Retired, word_of, end_of, TellsRest, peel, head_same, told_both, unmarked, told_same, words_same}
use Rattle.act_summaries.proofs.Marks.{AreLacking}
use Rattle.act_summaries.proofs.Reading.{IsToldTwice}
use Rattle.act_summaries.proofs.Texts.{numbered, kept_word, future_as, item_as, place_text, future_name, name_is, actor_word, future_word, place_word}
use Rattle.act_summaries.proofs.Texts.{caller_dots}
use Rattle.act_summaries.proofs.Words.{IsGoodArg, IsGoodAnswer, answer_word, answer_no_mark, method_word, method_no_mark, args_words, args_no_marks}

-- ---- a future's line

-- nothing is kept, or a good answer
abbrev pub IsGoodKept : Option Answer → Type 0
IsGoodKept None = Unit {0}
IsGoodKept (Some answer) = IsGoodAnswer answer

pub kept_words : (rest : List ℕ) (answer : Answer) (other : List ℕ) → IsGoodAnswer answer → TellsRest rest (61 ∷ 32 ∷ answer_text answer) (61 ∷ 32 ∷ other) →
    (answer_text answer ≡ other) ⊎ (rest ≡ 61 ∷ 32 ∷ 42 ∷ [])
kept_words rest answer other good (inl (inl same)) = inl (tails (tails (same.0 ∙ sym same.1)))
kept_words rest answer other good (inl (inr opened)) =
    absurd (unmarked (61 ∷ []) (answer_text answer ∷ []) opened.front opened.mark opened.left (differ 61 32 refl, tt)
    (word_lacks 32 (answer_text answer) (omega arith) (answer_word answer good), tt) (answer_no_mark answer good, tt)
    (ap (λ l. 61 ∷ 32 ∷ l) (append-nil (answer_text answer)) ∙ opened.left_is))
kept_words rest answer other good (inr marked) = inr (go marked.mark marked.left marked.line_is marked.left_is)
  where
    go : (mark : Mark) (left : List ℕ) → rest ≡ word_of mark ++ 32 ∷ end_of mark ∷ [] → 61 ∷ 32 ∷ answer_text answer ≡ word_of mark ++ 32 ∷ left →
        rest ≡ 61 ∷ 32 ∷ 42 ∷ []
    go Equals left line is = line
    go Live left line is = absurd (apart 61 108 (32 ∷ answer_text answer) (codes "ive" ++ 32 ∷ left) refl is)
    go Retired left line is = absurd (apart 61 114 (32 ∷ answer_text answer) (codes "etired" ++ 32 ∷ left) refl is)

abbrev IsKeptSame : List ℕ → Option Answer → Option Answer → Type 0
IsKeptSame rest o p = (is_some o ≡ is_some p) × ((kept_word o ≡ kept_word p) ⊎ (rest ≡ 61 ∷ 32 ∷ 42 ∷ []))

kept_same : (rest : List ℕ) (o p : Option Answer) → IsGoodKept o → TellsRest rest (kept_word o) (kept_word p) → IsKeptSame rest o p
kept_same rest None None good tells = (refl, inl refl)
kept_same rest None (Some answer) good tells = absurd (let bad = head_same rest 63 61 [] (32 ∷ answer_text answer) tells in omega (arith, bad))
kept_same rest (Some answer) None good tells = absurd (let bad = head_same rest 61 63 (32 ∷ answer_text answer) [] tells in omega (arith, bad))
kept_same rest (Some answer) (Some other) good tells =
    (refl, elim (kept_words rest answer (answer_text other) good tells) [ inl same ↦ inl (ap (λ l. 61 ∷ 32 ∷ l) same) | inr opened ↦ inr opened ])

-- what both lines of a future say: whether an answer is kept, and which, unless it is left open
pub record AreKeptAlike (lines : List (List ℕ)) (c k : ℕ) (o p : Option Answer) : Type 0 where
  pub kept : is_some o ≡ is_some p
  pub answer : (kept_word o ≡ kept_word p) ⊎ ((a : ℕ) × Contains lines (open_line c k a))

pub open_is : (c k a : ℕ) → open_line c k a ≡ future_name c k ++ 32 ∷ (actor_text a ++ 32 ∷ 61 ∷ 32 ∷ 42 ∷ [])
open_is c k a =
    append_assoc (future_text c k ++ space) (actor_text a) (codes " = *")
    ∙ append_assoc (future_text c k) space (actor_text a ++ codes " = *")
    ∙ ap (λ l. l ++ 32 ∷ (actor_text a ++ 32 ∷ 61 ∷ 32 ∷ 42 ∷ [])) (name_is c k)

-- a line of these parts leaves the answer open
left_open : {text rest end : List ℕ} (c k a : ℕ) → text ≡ future_name c k ++ 32 ∷ rest → rest ≡ actor_text a ++ 32 ∷ end →
    end ≡ 61 ∷ 32 ∷ 42 ∷ [] → text ≡ open_line c k a
left_open c k a whole back mark = whole ∙ ap (λ l. future_name c k ++ 32 ∷ l) (back ∙ ap (λ l. actor_text a ++ 32 ∷ l) mark) ∙ sym (open_is c k a)

actor_is : (a b : ℕ) → a ≤ 8 → b ≤ 8 → actor_text a ≡ actor_text b → a ≡ b
actor_is a b p q e = decimal_injective a b (omega (arith, p)) (omega (arith, q)) (tails e)

module _ (lines : List (List ℕ)) (c : ℕ) (kept others : List (Option Answer)) (good : (k : ℕ) → IsGoodKept (kept_at kept k)) where
  future_alike : (k : ℕ) (call other : Submission) → call.actor ≤ 8 → other.actor ≤ 8 → IsToldTwice lines (future_as c kept k call)
      (future_as c others k other) → (call.actor ≡ other.actor) × AreKeptAlike lines c k (kept_at kept k) (kept_at others k)
  future_alike k call other few small told =
      let a = call.actor in let b = other.actor in let o = kept_at kept k in let p = kept_at others k in
      let word = word_lacks 32 (future_name c k) (omega arith) (future_word c k) in
      let first =
      peel (future_name c k) (future_name c k) (actor_text a ++ 32 ∷ kept_word o) (actor_text b ++ 32 ∷ kept_word p) told.text word word told.tells in
      let both = told_both first.rest 97 (decimal a ++ 32 ∷ kept_word o) (actor_text b ++ 32 ∷ kept_word p) first.tells (differ 97 61 refl) (differ 97 108 refl)
      (differ 97 114 refl) in
      let second = peel (actor_text a) (actor_text b) (kept_word o) (kept_word p) first.rest
      (word_lacks 32 (actor_text a) (omega arith) (actor_word a)) (word_lacks 32 (actor_text b) (omega arith) (actor_word b)) both in
      let same = kept_same second.rest o p (good k) second.tells in (
        actor_is a b few small second.same,
        record {
          kept = same.0;
          answer = elim same.1 [
            | inl text ↦ inl text
            | inr opened ↦ inr (a, subst (Contains lines) (left_open c k a first.line_is second.line_is opened) told.stands)
          ];
        },
      )

  -- all futures of a caller
  pub futures_alike : (k : ℕ) (xs ys : List Submission) → AllByRecursion (λ (call : Submission). call.actor ≤ 8) xs → AllByRecursion
      (λ (call : Submission). call.actor ≤ 8) ys → AllZip (IsToldTwice lines) (numbered (future_as c kept) k xs) (numbered (future_as c others) k ys) →
      (map (λ (call : Submission). call.actor) xs ≡ map (λ (call : Submission). call.actor) ys) ×
      ((j : ℕ) → j < length xs → AreKeptAlike lines c (k + j) (kept_at kept (k + j)) (kept_at others (k + j)))
  futures_alike k [] [] p q told = (refl, λ j less. absurd (omega (arith, less)))
  futures_alike k (x ∷ xs) (y ∷ ys) p q told =
      let one = future_alike k x y p.0 q.0 told.0 in let rest = futures_alike (k + 1) xs ys p.1 q.1 told.1 in
      ((λ i. one.0 i ∷ rest.0 i), λ j less. at j less one.1 rest.1)
    where
      at : (j : ℕ) → j < suc (length xs) → AreKeptAlike lines c k (kept_at kept k) (kept_at others k) → ((i : ℕ) → i < length xs → AreKeptAlike lines c ((k +
          1) + i) (kept_at kept ((k + 1) + i)) (kept_at others ((k + 1) + i))) → AreKeptAlike lines c (k + j) (kept_at kept (k + j)) (kept_at others (k + j))
      at zero less one rest = let same : k ≡ k + 0 = omega arith in subst (λ n. AreKeptAlike lines c n (kept_at kept n) (kept_at others n)) same one
      at (suc i) less one rest =
          let same : (k + 1) + i ≡ k + suc i = omega arith in
          subst (λ n. AreKeptAlike lines c n (kept_at kept n) (kept_at others n)) same (rest i (omega (arith, less)))
  futures_alike k xs ys p q told = absurd told

-- ---- an item's line

-- the item is sayable, and its numbers are small
pub record IsGoodItem (item : RunItem) : Type 0 where
  pub method : is_sayable_method item.method ≡ true
  pub args : AllByRecursion IsGoodArg item.args
  pub caller : item.caller ≤ 16
  pub future : item.future < 65536

-- the items are of one call, by all but the call's number
pub record IsSameItem (x y : RunItem) : Type 0 where
  pub caller : x.caller ≡ y.caller
  pub future : x.future ≡ y.future
  pub method : x.method ≡ y.method
  pub args : x.args ≡ y.args

said_same : {A : Type 0} (x y : A) {r : Result A Wrong} → r ≡ Ok x → r ≡ Ok y → x ≡ y
said_same x y p q = let both = sym p ∙ q in cc

pub method_same : (m n : Method) → is_sayable_method m ≡ true → is_sayable_method n ≡ true → method_text m ≡ method_text n → m ≡ n
method_same m n p q e = said_same m n (method_reads_back m p) (ap method_at e ∙ method_reads_back n q)

value_same : (v w : Value) → is_sayable v ≡ true → is_sayable w ≡ true → value_text v ≡ value_text w → v ≡ w
value_same v w p q e = said_same v w (value_reads_back v p) (ap value_at e ∙ value_reads_back w q)

-- no value is written as a future that failed
value_good : (v : Value) (k : ℕ) → value_text v ≢ 33 ∷ decimal k
value_good value.Unit k e = apart 117 33 (codes "nit") (decimal k) refl e
value_good (value.Text text) k e = apart 34 33 (text ++ 34 ∷ []) (decimal k) refl e
value_good (value.Int (pos n)) k e = let bad : AreDigits (33 ∷ decimal k) = subst AreDigits e (decimal_digits n) in omega (arith, bad.0.0)
value_good (value.Int (negsuc n)) k e = apart 45 33 (decimal (suc n)) (decimal k) refl e

pub readable : (arg : Settled) → IsGoodArg arg → IsReadable arg
readable (Good v) h = h
readable (Bad k) h = omega (arith, h)

arg_same : (x y : Settled) → IsReadable x → IsReadable y → settled_text x ≡ settled_text y → x ≡ y
arg_same (Good v) (Good w) p q e = ap (λ u. Good u) (value_same v w p q e)
arg_same (Good v) (Bad k) p q e = absurd (value_good v k e)
arg_same (Bad k) (Good w) p q e = absurd (value_good w k (sym e))
arg_same (Bad j) (Bad k) p q e = ap (λ n. Bad n) (decimal_injective j k p q (tails e))

pub args_same : (xs ys : List Settled) → AllByRecursion IsReadable xs → AllByRecursion IsReadable ys → map settled_text xs ≡ map settled_text ys → xs ≡ ys
args_same [] [] p q e = refl
args_same (x ∷ xs) (y ∷ ys) p q e =
    let head : settled_text x ≡ settled_text y = cc in let tail : map settled_text xs ≡ map settled_text ys = cc in
    (λ i. arg_same x y p.0 q.0 head i ∷ args_same xs ys p.1 q.1 tail i)
args_same xs ys p q e = cc

pub words_lack : (words : List (List ℕ)) → AreWords words → AreLacking words
words_lack words all = All_weaker IsWord (Lacks 32) words (λ word is. word_lacks 32 word (omega arith) is) all

-- two futures of one name are the same, where the numbers of callers and futures are below 2^64
pub future_is : (c d j k : ℕ) → c < 2 ^ 64 → d < 2 ^ 64 → j < 2 ^ 64 → k < 2 ^ 64 → future_name c j ≡ future_name d k → (c ≡ d) × (j ≡ k)
future_is c d j k p q r s e =
    let both = cut 46 (caller_text c) (caller_text d) (decimal j) (decimal k) (caller_dots c) (caller_dots d) e in
    (decimal_injective c d p q (tails both.0), decimal_injective j k r s both.1)

module _ (lines : List (List ℕ)) (a : ℕ) where
  item_alike : (place : ℕ) (x y : RunItem) → IsGoodItem x → IsGoodItem y → IsToldTwice lines (item_as a place x) (item_as a place y) → IsSameItem x y
  item_alike place x y p q told =
      let xs = method_text x.method ++ spaced (map settled_text x.args) in let ys = method_text y.method ++ spaced (map settled_text y.args) in
      let u = future_name x.caller x.future in let v = future_name y.caller y.future in
      let word = word_lacks 32 (place_text a place) (omega arith) (place_word a place) in
      let first = peel (place_text a place) (place_text a place) (u ++ 32 ∷ xs) (v ++ 32 ∷ ys) told.text word word told.tells in
      let both = told_both first.rest 99 ((decimal x.caller ++ 46 ∷ decimal x.future) ++ 32 ∷ xs) (v ++ 32 ∷ ys) first.tells (differ 99 61 refl)
      (differ 99 108 refl) (differ 99 114 refl) in
      let second = peel u v xs ys first.rest (word_lacks 32 u (omega arith) (future_word x.caller x.future))
      (word_lacks 32 v (omega arith) (future_word y.caller y.future)) both in
      let lack = word_lacks 32 (method_text x.method) (omega arith) (method_word x.method p.method) in
      let lacks = word_lacks 32 (method_text y.method) (omega arith) (method_word y.method q.method) in
      let same : xs ≡ ys =
      told_same second.rest (map settled_text x.args) ys lack (words_lack (map settled_text x.args) (args_words x.args p.args))
      (method_no_mark x.method p.method) (args_no_marks x.args) second.tells in
      let words = words_same (method_text x.method) (method_text y.method) (map settled_text x.args) (map settled_text y.args) lack lacks
      (words_lack (map settled_text x.args) (args_words x.args p.args)) (words_lack (map settled_text y.args) (args_words y.args q.args)) same in
      let call = future_is x.caller y.caller x.future y.future (omega (arith, p.caller)) (omega (arith, q.caller)) (omega (arith, p.future))
      (omega (arith, q.future)) second.same in
      record {
        caller = call.0;
        future = call.1;
        method = method_same x.method y.method p.method q.method words.0;
        args =
            args_same x.args y.args (All_weaker IsGoodArg IsReadable x.args readable p.args) (All_weaker IsGoodArg IsReadable y.args readable q.args) words.1;
      }

  -- all items of a run list
  pub items_alike : (place : ℕ) (xs ys : List RunItem) → AllByRecursion IsGoodItem xs → AllByRecursion IsGoodItem ys →
      AllZip (IsToldTwice lines) (numbered (item_as a) place xs) (numbered (item_as a) place ys) → AllZip IsSameItem xs ys
  items_alike place [] [] p q told = tt
  items_alike place [] (y ∷ ys) p q told = told
  items_alike place (x ∷ xs) [] p q told = told
  items_alike place (x ∷ xs) (y ∷ ys) p q told = (item_alike place x y p.0 q.0 told.0, items_alike (place + 1) xs ys p.1 q.1 told.1)
