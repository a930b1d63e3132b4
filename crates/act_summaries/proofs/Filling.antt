-- Where two histories end alike, but for answers that lines leave open, lines that tell one tell the other.
use Rattle.act_summaries.proofs.Common.{◌≡◌, ◌≢◌, inl, inr, ℕ, zero, suc, ◌+◌, ◌-◌, ◌<◌, ◌==◌, ◌||◌, Bool, true, false, cond, not, List, [], ◌∷◌, ◌++◌, length}
use Rattle.act_summaries.proofs.Common.{map, filter, slice_get, Some, option_map, refl, sym, ap, subst, ◌∙◌, arith, codes, append_assoc, eq-eqb, slice_get-map}
use Rattle.act_summaries.proofs.Common.{AllByRecursion, History, ActorSpec, calls_of, kept_of, actor_spec_of, length-append, drop, decimal, AllZip, flat_map}
use Rattle.act_summaries.proofs.Common.{bytes_decides, pointwise, or_left, and_from, recursion_from_All, All-from_recursion, same_Some, drop-append_seam}
use Rattle.act_summaries.proofs.Common.{caller_text, actor_text, is_skipped, lines_in, line, history, AreTold, IsToldAs, is_open, ends_in, told_line}
use Rattle.act_summaries.proofs.Common.{IsLeftOpen, open_line, AreToldAlike, All_at, map-slice_get, place_in, filter_mapped}
use Rattle.act_rules.proofs.Elements.{IsIn, in_filter}
use Rattle.act_summaries.proofs.Bytes.{cut, begins_once, word_lacks, before_cut, before}
use Rattle.act_summaries.proofs.Marks.{Equals}
use Rattle.act_summaries.proofs.Reading.{shown, tells_both, skipped_alike, told_at, filled_in, told_texts}
use Rattle.act_summaries.proofs.Texts.{numbered, future_as, futures, lines_of, summary_is, is_of, of_caller, owner, future_name, future_word, actor_word}
use Rattle.act_summaries.proofs.Texts.{caller_dots}
use Rattle.act_summaries.proofs.Facts.{Facts, facts, IsCallerNumber}
use Rattle.act_summaries.proofs.Decoding.{future_is, open_is}
use Rattle.act_summaries.proofs.Alike.{lines_lack_ends}
use Rattle.act_summaries.proofs.Near.{AreNear, lines_near}

-- ---- lists

numbered_at : {X : Type 0} (text_of : ℕ → X → List ℕ) (place : ℕ) (xs : List X) (i : ℕ) (text : List ℕ) → slice_get (numbered text_of place xs) i ≡ Some text →
    (x : X) × (i < length xs) × (text ≡ text_of (place + i) x)
numbered_at text_of place [] i text e = absurd (cc)
numbered_at text_of place (x ∷ xs) zero text e =
    let same : place ≡ place + 0 = omega arith in let is : text_of place x ≡ text = cc in (x, omega arith, sym is ∙ ap (λ n. text_of n x) same)
numbered_at text_of place (x ∷ xs) (suc i) text e =
    let rest = numbered_at text_of (place + 1) xs i text e in let same : (place + 1) + i ≡ place + suc i = omega arith in
    (rest.0, omega (arith, rest.1), rest.2 ∙ ap (λ n. text_of n rest.0) same)

-- ---- a line that is open

pointwise_itself : (xs : List ℕ) → pointwise (λ a b. a == b) xs xs ≡ true
pointwise_itself [] = refl
pointwise_itself (x ∷ xs) = and_from (x == x) (pointwise (λ a b. a == b) xs xs) (eq-eqb x x refl) (pointwise_itself xs)

is_marked : (front : List ℕ) → is_open (front ++ codes " = *") ≡ true
is_marked front =
    let text : List ℕ = front ++ codes " = *" in
    let count : length text - length (codes " = *") ≡ length front = omega (arith, length-append front (codes " = *")) in
    let end : ends_in (codes " = *") text ≡ true =
    ap (λ n. pointwise (λ a b. a == b) (codes " = *") (drop n text)) count
    ∙ ap (pointwise (λ a b. a == b) (codes " = *")) (drop-append_seam front (codes " = *"))
    ∙ pointwise_itself (codes " = *") in
    or_left (ends_in (codes " = *") text || ends_in (codes " live ?") text) (ends_in (codes " retired ?") text)
    (or_left (ends_in (codes " = *") text) (ends_in (codes " live ?") text) end)

-- ---- the lines that tell

abbrev Pair : Type 0
Pair = List ℕ × List ℕ

-- those that are not skipped, of one name
abbrev pairs_of : List ℕ → List Pair → List Pair
pairs_of name ps = filter (λ (p : Pair). is_of name p.1) (filter (λ (p : Pair). not (is_skipped p.1)) ps)

module _ (casts : List ActorSpec) (g : History) (t : Facts casts g) (bytes : List ℕ) (ps : List Pair) (given : map (λ (p : Pair). p.0) ps ≡ lines_in bytes)
    (told : AllByRecursion (λ (p : Pair). IsToldAs p.0 p.1) ps) (texts : shown (map (λ (p : Pair). p.1) ps) ≡ lines_of g) where
  texts_of : (c : ℕ) → IsCallerNumber c → map (λ (p : Pair). p.1) (pairs_of (caller_text c) ps) ≡ futures g c
  texts_of c number =
      sym (filter_mapped (is_of (caller_text c)) (λ (p : Pair). p.1) (filter (λ (p : Pair). not (is_skipped p.1)) ps))
      ∙ ap (filter (is_of (caller_text c))) (sym (filter_mapped (λ text. not (is_skipped text)) (λ (p : Pair). p.1) ps) ∙ texts)
      ∙ of_caller g c number.0 number.1

  -- a pair of future k is the k-th one of its caller
  pair_at : (c k : ℕ) (p : Pair) (rest : List ℕ) → IsCallerNumber c → k < 65536 → IsIn ps p → p.1 ≡ future_name c k ++ 32 ∷ rest →
      slice_get (pairs_of (caller_text c) ps) k ≡ Some p
  pair_at c k p rest number few at is =
      let word = word_lacks 32 (future_name c k) (omega arith) (future_word c k) in
      let name : owner p.1 ≡ caller_text c = ap owner is ∙ ap (before 46) (before_cut 32 (future_name c k) rest word) ∙ before_cut 46 (caller_text c)
      (decimal k) (caller_dots c) in
      let inner = in_filter (λ (p : Pair). not (is_skipped p.1)) at (ap (λ l. not (is_skipped l)) is) in
      let outer = in_filter (λ (p : Pair). is_of (caller_text c) p.1) inner
      ((bytes_decides (owner p.1) (caller_text c)).1 name) in
      let text : slice_get (futures g c) outer.place ≡ Some p.1 =
      ap (λ l. slice_get l outer.place) (sym (texts_of c number)) ∙ slice_get-map (λ (p : Pair). p.1) (pairs_of (caller_text c) ps) outer.place
      ∙ ap (option_map (λ (p : Pair). p.1)) outer.at in
      let call = numbered_at (future_as c (kept_of c g)) 0 (calls_of c g) outer.place p.1 text in
      let other = word_lacks 32 (future_name c (0 + outer.place)) (omega arith) (future_word c (0 + outer.place)) in
      let names = begins_once (future_name c k) (future_name c (0 + outer.place)) word other is call.2 in
      let place = future_is c c k (0 + outer.place) (omega (arith, number.1)) (omega (arith, number.1)) (omega (arith, few))
      (omega (arith, call.1, t.few c)) names.0 in
      let same : outer.place ≡ k = omega (arith, place.1) in subst (λ n. slice_get (pairs_of (caller_text c) ps) n ≡ Some p) same outer.at

  -- the line of a future that is left open
  front_is : (c k b : ℕ) (rest : List ℕ) → (future_name c k ++ 32 ∷ actor_text b) ++ rest ≡ future_name c k ++ 32 ∷ (actor_text b ++ rest)
  front_is c k b rest = append_assoc (future_name c k) (32 ∷ actor_text b) rest

  left_is : (c k b : ℕ) → open_line c k b ≡ (future_name c k ++ 32 ∷ actor_text b) ++ 32 ∷ (61 ∷ 32 ∷ 42 ∷ [])
  left_is c k b = open_is c k b ∙ sym (front_is c k b (32 ∷ 61 ∷ 32 ∷ 42 ∷ []))

  open_pair : (c k : ℕ) (p : Pair) (rest : List ℕ) → IsCallerNumber c → k < 65536 → IsIn ps p → p.1 ≡ future_name c k ++ 32 ∷ rest → IsLeftOpen bytes c k →
      (b : ℕ) × (p.0 ≡ open_line c k b)
  open_pair c k p rest number few at is opened =
      let b = opened.0 in let line = place_in (lines_in bytes) (open_line c k b) opened.1 in
      let q = map-slice_get (λ (p : Pair). p.0) ps line.0 (ap (λ l. slice_get l line.0) given ∙ line.1) in
      let front : List ℕ = future_name c k ++ 32 ∷ actor_text b in
      let text = told_at q.0.0 q.0.1 front Equals (q.2 ∙ left_is c k b) (All_at (λ (p : Pair). IsToldAs p.0 p.1) ps line.0 told q.1) in
      let mine = pair_at c k p rest number few at is in
      let theirs = pair_at c k q.0 (actor_text b ++ 32 ∷ (61 ∷ 32 ∷ text.0)) number few (record { place = line.0; at = q.1 })
      (text.1 ∙ front_is c k b (32 ∷ (61 ∷ 32 ∷ text.0))) in
      (b, ap (λ (p : Pair). p.0) (same_Some p q.0 (sym mine ∙ theirs)) ∙ q.2)

  -- such a line tells each text that is near
  pub tells_near : (p : Pair) → IsIn ps p → IsToldAs p.0 p.1 → (y : List ℕ) → AreNear bytes p.1 y → IsToldAs p.0 y
  tells_near p at as_told y (inl same) = subst (IsToldAs p.0) (sym same) as_told
  tells_near p at as_told y (inr d) =
      let opened = open_pair d.c d.k p (actor_text d.a ++ 32 ∷ 61 ∷ 32 ∷ d.what) d.number d.few at d.one d.opened in
      let b = opened.0 in let front : List ℕ = future_name d.c d.k ++ 32 ∷ actor_text b in
      let is : p.0 ≡ front ++ 32 ∷ (61 ∷ 32 ∷ 42 ∷ []) = opened.1 ∙ left_is d.c d.k b in
      let text = told_at p.0 p.1 front Equals is as_told in
      let word = word_lacks 32 (future_name d.c d.k) (omega arith) (future_word d.c d.k) in
      let rest = begins_once (future_name d.c d.k) (future_name d.c d.k) word word
      d.one (text.1 ∙ front_is d.c d.k b (32 ∷ (61 ∷ 32 ∷ text.0))) in
      let actor = cut 32 (actor_text d.a) (actor_text b) (61 ∷ 32 ∷ d.what) (61 ∷ 32 ∷ text.0)
      (word_lacks 32 (actor_text d.a) (omega arith) (actor_word d.a)) (word_lacks 32 (actor_text b) (omega arith) (actor_word b)) rest.1 in
      inr (record {
        marked = ap is_open is ∙ is_marked front;
        what = d.other;
        of_one_line = All-from_recursion (λ x. x ≢ 10) d.other d.lack;
        filled =
            d.two
            ∙ ap (λ l. future_name d.c d.k ++ 32 ∷ (l ++ 32 ∷ 61 ∷ 32 ∷ d.other)) actor.0
            ∙ sym (front_is d.c d.k b (32 ∷ 61 ∷ 32 ∷ d.other))
            ∙ sym (filled_in p.0 front Equals d.other is);
      })

-- ---- all lines

record Remade (qs : List Pair) (ys : List (List ℕ)) : Type 0 where
  pairs : List Pair
  given : map (λ (p : Pair). p.0) pairs ≡ map (λ (p : Pair). p.0) qs
  told : AllByRecursion (λ (p : Pair). IsToldAs p.0 p.1) pairs
  whole : flat_map (λ (p : Pair). told_line p.1) pairs ≡ flat_map line ys

module _ (bytes : List ℕ) where
  abbrev TellsEach : List Pair → Type 0
  TellsEach qs = (q : Pair) → IsIn qs q → (y : List ℕ) → AreNear bytes q.1 y → IsToldAs q.0 y

  remade : (qs : List Pair) (ys : List (List ℕ)) → AllByRecursion (λ (p : Pair). IsToldAs p.0 p.1) qs → TellsEach qs →
      AllZip (AreNear bytes) (shown (map (λ (p : Pair). p.1) qs)) ys → Remade qs ys
  remade [] [] told each all = record { pairs = []; given = refl; told = tt; whole = refl }
  remade [] (y ∷ ys) told each all = absurd all
  remade (p ∷ qs) ys told each all = go (is_skipped p.1) refl ys all
      (λ rest z. remade qs rest told.1 (λ q at. each q (record { place = suc at.place; at = at.at })) z)
    where
      texts : List (List ℕ)
      texts = shown (map (λ (p : Pair). p.1) qs)

      go : (b : Bool) → is_skipped p.1 ≡ b → (rest : List (List ℕ)) → AllZip (AreNear bytes) (cond (not b) (p.1 ∷ texts) texts) rest →
          ((more : List (List ℕ)) → AllZip (AreNear bytes) texts more → Remade qs more) → Remade (p ∷ qs) rest
      go true e rest zip more =
          let r = more rest zip in
          record {
            pairs = p ∷ r.pairs;
            given = ap (λ l. p.0 ∷ l) r.given;
            told = (told.0, r.told);
            whole = ap (λ b. cond b [] (line p.1) ++ flat_map (λ (p : Pair). told_line p.1) r.pairs) e ∙ r.whole;
          }
      go false e [] zip more = absurd zip
      go false e (y ∷ rest) zip more =
          let r = more rest zip.1 in let tell = each p (record { place = 0; at = refl }) y zip.0 in
          let skip : is_skipped y ≡ false = sym (skipped_alike p.0 p.1 y (tells_both p.0 p.1 y told.0 tell)) ∙ e in
          record { pairs = (p.0, y) ∷ r.pairs; given = ap (λ l. p.0 ∷ l) r.given; told = (tell, r.told); whole = (λ i. cond (skip i) [] (line y) ++ r.whole i) }

-- where two histories of the same roles that scripts can write end alike, lines that tell one tell the other
pub told_alike : AreToldAlike
told_alike roles events others bytes said first second alike make =
    let casts = map actor_spec_of roles in let h = history casts events in let g = history casts others in let f = facts roles events said first in
    let t = facts roles others said second in let whole = subst (AreTold bytes) (summary_is g) make in
    let texts = told_texts bytes (lines_of g) (lines_lack_ends casts g t) whole in
    let told = recursion_from_All (λ (p : Pair). IsToldAs p.0 p.1) whole.pairs whole.told in
    let near = subst (λ l. AllZip (AreNear bytes) l (lines_of h)) (sym texts) (lines_near casts h g f t bytes alike) in
    let made = remade bytes whole.pairs (lines_of h) told
    (λ q at. tells_near casts g t bytes whole.pairs whole.given told texts q at
    (All_at (λ (p : Pair). IsToldAs p.0 p.1) whole.pairs at.place told at.at)) near in
    record {
      pairs = made.pairs;
      given = made.given ∙ whole.given;
      told = All-from_recursion (λ (p : Pair). IsToldAs p.0 p.1) made.pairs made.told;
      whole = summary_is h ∙ sym made.whole;
    }
