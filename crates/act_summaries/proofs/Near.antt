-- Histories that end alike, but for answers that lines leave open, have the same lines but for these.
use Rattle.act_summaries.proofs.Common.{◌≡◌, ◌⊎◌, inl, inr, ℕ, ◌+◌, ◌<◌, ◌≤◌, ◌==◌, true, false, List, [], ◌∷◌, ◌++◌, length, map, find, Some, None, Option}
use Rattle.act_summaries.proofs.Common.{is_some, option_map, refl, sym, ap, subst, ◌∙◌, arith, History, ActorSpec, calls_of, kept_of, opening_of, Answer}
use Rattle.act_summaries.proofs.Common.{Submission, AllZip, flat_map, actor_text, answer_text, state_after, kept_at, one_to, stage_text, EndAlike, IsLeftOpen}
use Rattle.act_summaries.proofs.Bytes.{Lacks, word_lacks}
use Rattle.act_summaries.proofs.Texts.{numbered, kept_word, future_as, actor_as, futures, actors, lines_of, future_name}
use Rattle.act_summaries.proofs.Words.{answer_word}
use Rattle.act_summaries.proofs.Facts.{Facts, IsCallerNumber}
use Rattle.act_summaries.proofs.Decoding.{IsGoodKept}
use Rattle.act_summaries.proofs.Alike.{kept_fine, valid_or_none}

-- ---- lists

zip-append : {A B : Type 0} (R : A → B → Type 0) (xs zs : List A) (ys ws : List B) → AllZip R xs ys → AllZip R zs ws → AllZip R (xs ++ zs) (ys ++ ws)
zip-append R [] zs [] ws p q = q
zip-append R (x ∷ xs) zs (y ∷ ys) ws p q = (p.0, zip-append R xs zs ys ws p.1 q)
zip-append R xs zs ys ws p q = absurd p

zip-flat_map : {A B : Type 0} (R : A → B → Type 0) (f : ℕ → List A) (g : ℕ → List B) → ((n : ℕ) → AllZip R (f n) (g n)) → (ns : List ℕ) →
    AllZip R (flat_map f ns) (flat_map g ns)
zip-flat_map R f g each [] = tt
zip-flat_map R f g each (n ∷ ns) = zip-append R (f n) (flat_map f ns) (g n) (flat_map g ns) (each n) (zip-flat_map R f g each ns)

-- ---- lines that differ where one is left open

-- both are of one future, and differ in an answer that is left open
pub record DifferOpen (bytes x y : List ℕ) : Type 0 where
  pub c : ℕ
  pub k : ℕ
  pub a : ℕ
  pub what : List ℕ
  pub other : List ℕ
  pub number : IsCallerNumber c
  pub few : k < 65536
  pub opened : IsLeftOpen bytes c k
  pub one : x ≡ future_name c k ++ 32 ∷ (actor_text a ++ 32 ∷ 61 ∷ 32 ∷ what)
  pub two : y ≡ future_name c k ++ 32 ∷ (actor_text a ++ 32 ∷ 61 ∷ 32 ∷ other)
  pub lack : Lacks 10 other

abbrev pub AreNear : List ℕ → List ℕ → List ℕ → Type 0
AreNear bytes x y = (y ≡ x) ⊎ DifferOpen bytes x y

zip-same : (bytes : List ℕ) (xs : List (List ℕ)) {ys : List (List ℕ)} → ys ≡ xs → AllZip (AreNear bytes) xs ys
zip-same bytes xs e = subst (λ l. AllZip (AreNear bytes) xs l) (sym e) (go xs)
  where
    go : (l : List (List ℕ)) → AllZip (AreNear bytes) l l
    go [] = tt
    go (x ∷ l) = (inl refl, go l)

module _ (casts : List ActorSpec) (h g : History) (f : Facts casts h) (t : Facts casts g) (bytes : List ℕ)
    (alike : EndAlike bytes h g) where
  answer_lacks : (c k : ℕ) (answer : Answer) → kept_at (kept_of c h) k ≡ Some answer → Lacks 10 (answer_text answer)
  answer_lacks c k answer e = word_lacks 10 (answer_text answer) (omega arith) (answer_word answer (subst IsGoodKept e (kept_fine casts h f c k)))

  future_near : (c k : ℕ) (call other : Submission) → IsCallerNumber c → k < 65536 → other.actor ≡ call.actor →
      AreNear bytes (future_as c (kept_of c g) k call) (future_as c (kept_of c h) k other)
  future_near c k call other number few same = elim (alike.answers c k) [
    | inl is ↦ inl (λ i. future_name c k ++ 32 ∷ (actor_text (same i) ++ 32 ∷ kept_word (is i)))
    | inr opened ↦ go opened (kept_at (kept_of c g) k) (kept_at (kept_of c h) k) refl refl (alike.kept c k)
  ]
    where
      text : ℕ → Option Answer → List ℕ
      text a o = future_name c k ++ 32 ∷ (actor_text a ++ 32 ∷ kept_word o)

      go : IsLeftOpen bytes c k → (o p : Option Answer) → kept_at (kept_of c g) k ≡ o → kept_at (kept_of c h) k ≡ p → is_some
          (kept_at (kept_of c h) k) ≡ is_some (kept_at (kept_of c g) k) → AreNear bytes (future_as c (kept_of c g) k call) (future_as c (kept_of c h) k other)
      go opened None None e d some = inl (λ i. future_name c k ++ 32 ∷ (actor_text (same i) ++ 32 ∷ kept_word ((d ∙ sym e) i)))
      go opened None (Some answer) e d some = absurd (let bad : true ≡ false = sym (ap (λ o. is_some o) d) ∙ some ∙ ap (λ o. is_some o) e in cc)
      go opened (Some was) None e d some = absurd (let bad : false ≡ true = sym (ap (λ o. is_some o) d) ∙ some ∙ ap (λ o. is_some o) e in cc)
      go opened (Some was) (Some answer) e d some = inr (record {
        c = c;
        k = k;
        a = call.actor;
        what = answer_text was;
        other = answer_text answer;
        number = number;
        few = few;
        opened = opened;
        one = λ i. future_name c k ++ 32 ∷ (actor_text call.actor ++ 32 ∷ kept_word (e i));
        two = λ i. future_name c k ++ 32 ∷ (actor_text (same i) ++ 32 ∷ kept_word (d i));
        lack = answer_lacks c k answer d;
      })

  futures_near : (c k : ℕ) (calls others : List Submission) → IsCallerNumber c → k + length calls ≤ 65536 →
      map (λ (call : Submission). call.actor) others ≡ map (λ (call : Submission). call.actor) calls →
      AllZip (AreNear bytes) (numbered (future_as c (kept_of c g)) k calls) (numbered (future_as c (kept_of c h)) k others)
  futures_near c k [] [] number few same = tt
  futures_near c k (call ∷ calls) (other ∷ others) number few same =
      let head : other.actor ≡ call.actor = cc in
      let tail : map (λ (call : Submission). call.actor) others ≡ map (λ (call : Submission). call.actor) calls = cc in
      (future_near c k call other number (omega (arith, few)) head, futures_near c (k + 1) calls others number (omega (arith, few)) tail)
  futures_near c k calls others number few same = cc

  caller_near : (c : ℕ) → AllZip (AreNear bytes) (futures g c) (futures h c)
  caller_near c = elim (valid_or_none casts g t c) [
    | inl number ↦ futures_near c 0 (calls_of c g) (calls_of c h) number (omega (arith, t.few c)) (alike.calls c)
    | inr none ↦ elim (valid_or_none casts h f c) [
      | inl number ↦ futures_near c 0 (calls_of c g) (calls_of c h) number (omega (arith, t.few c)) (alike.calls c)
      | inr nothing ↦ subst (λ l. AllZip (AreNear bytes) (numbered (future_as c (kept_of c g)) 0 l) (futures h c)) (sym none)
          (subst (λ l. AllZip (AreNear bytes) [] (numbered (future_as c (kept_of c h)) 0 l)) (sym nothing) tt)
    ]
  ]

  opening_same : (a : ℕ) → opening_of a h ≡ opening_of a g
  opening_same a = ap (λ all. option_map (λ (cast : ActorSpec). cast.opening) (find (λ (cast : ActorSpec). cast.actor == a) all)) (f.same ∙ sym t.same)

  actors_same : (a : ℕ) → actors h a ≡ actors g a
  actors_same a =
      λ i. actor_as a (alike.runs a i) (option_map (λ state. stage_text (alike.dead a i) (alike.retired a i)
      (state_after state (alike.runs a i))) (opening_same a i))

  pub lines_near : AllZip (AreNear bytes) (lines_of g) (lines_of h)
  lines_near =
      zip-append (AreNear bytes) (flat_map (futures g) (one_to 16)) (flat_map (actors g) (one_to 8)) (flat_map (futures h) (one_to 16))
      (flat_map (actors h) (one_to 8))
      (zip-flat_map (AreNear bytes) (futures g) (futures h) caller_near (one_to 16))
      (zip-flat_map (AreNear bytes) (actors g) (actors h) (λ a. zip-same bytes (actors g a) (actors_same a)) (one_to 8))
