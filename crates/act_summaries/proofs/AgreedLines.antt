-- What a line says that agrees with a stem.
use Rattle.act_summaries.proofs.Common.{◌≡◌, inl, inr, ℕ, zero, suc, ◌+◌, ◌≤◌, Bool, true, false, List, [], ◌∷◌, ◌++◌, codes, decimal, map, slice_get, refl}
use Rattle.act_summaries.proofs.Common.{sym, ap, ◌∙◌, subst, arith, Option, Some, None, Err, AllByRecursion, AllZip, decimal_injective, actor_text, method_text}
use Rattle.act_summaries.proofs.Common.{answer_text, settled_text, state_text, KindState, ActorDied, Method, Settled, Good, Bad, RunItem, Submission, Answer}
use Rattle.act_summaries.proofs.Common.{kept_at, stage_text, All_weaker, Kept, Nothing, Reply, Death, Any, Call, Ran, OfCall, OfEnd, OfRun, placed, IsReadable}
use Rattle.act_summaries.proofs.Common.{IsKeptSo, HasWords, IsRanSo, same_Some}
use Rattle.act_summaries.proofs.Bytes.{differ, tails, texts_apart, begins_once, spaced, IsWord, AreWords, word_lacks, decimal_word}
use Rattle.act_summaries.proofs.Marks.{TellsBoth, TellsRest, peel, head_same, told_both, told_same, words_same}
use Rattle.act_summaries.proofs.Texts.{numbered, kept_word, future_as, item_as, place_text, future_name, actor_word, future_word, place_word}
use Rattle.act_summaries.proofs.Words.{IsGoodArg, dead_alike, value_word, method_word, method_no_mark, args_words, args_no_marks}
use Rattle.act_summaries.proofs.Decoding.{IsGoodKept, IsGoodItem, kept_words, future_is, method_same, args_same, words_lack, readable}
use Rattle.act_summaries.proofs.Agreed.{IsToldOf, IsTail, call_line, IsStage, end_line, HasTail, run_line}

-- ---- what is kept

kept_told : (kept : Kept) (tail : List ℕ) (o : Option Answer) → IsGoodKept o → IsTail kept tail → TellsRest tail (kept_word o) tail → IsKeptSo kept o
kept_told Nothing tail None good is tells = refl
kept_told Nothing tail (Some answer) good is tells =
    absurd (let bad = head_same tail 61 63 (32 ∷ answer_text answer) [] (subst (λ y. TellsRest tail
    (61 ∷ 32 ∷ answer_text answer) y) is tells) in omega (arith, bad))
kept_told Reply tail None good says tells =
    absurd (let bad = head_same tail 63 61 [] (32 ∷ says.0) (subst (λ y. TellsRest tail (63 ∷ []) y) says.1 tells) in omega (arith, bad))
kept_told Reply tail (Some answer) good says tells =
    elim (kept_words tail answer says.0 good (subst (λ y. TellsRest tail (61 ∷ 32 ∷ answer_text answer) y) says.1 tells)) [
      | inl same ↦ (refl, λ died. says.3 (sym same ∙ ap answer_text (same_Some answer (Err ActorDied) died)))
      | inr opened ↦ absurd (says.2 (tails (tails (sym says.1 ∙ opened))))
    ]
kept_told Death tail None good is tells =
    absurd (let bad = head_same tail 63 61 [] (32 ∷ codes "ActorDied") (subst (λ y. TellsRest tail (63 ∷ []) y) is tells) in omega (arith, bad))
kept_told Death tail (Some answer) good is tells =
    elim (kept_words tail answer (codes "ActorDied") good (subst (λ y. TellsRest tail (61 ∷ 32 ∷ answer_text answer) y) is tells)) [
      | inl same ↦ ap (λ a. Some a) (dead_alike answer good same)
      | inr opened ↦ absurd (texts_apart (61 ∷ 32 ∷ codes "ActorDied") (61 ∷ 32 ∷ 42 ∷ []) refl (sym is ∙ opened))
    ]
kept_told Any tail None good is tells =
    absurd (let bad = head_same tail 63 61 [] (32 ∷ 42 ∷ []) (subst (λ y. TellsRest tail (63 ∷ []) y) is tells) in omega (arith, bad))
kept_told Any tail (Some answer) good is tells = refl

kept_so : (kept : Kept) {rest : List ℕ} (tail : List ℕ) (o : Option Answer) → IsGoodKept o → IsTail kept tail → rest ≡ tail →
    TellsRest rest (kept_word o) tail → IsKeptSo kept o
kept_so kept tail o good says same tells = kept_told kept tail o good says (subst (λ r. TellsRest r (kept_word o) tail) same tells)

-- ---- calls

module _ (c : ℕ) (kept : List (Option Answer)) (good : (k : ℕ) → IsGoodKept (kept_at kept k)) where
  call_told : (k : ℕ) (call : Call) (sub : Submission) → sub.actor ≤ 8 → IsToldOf (OfCall c k call) (future_as c kept k sub) →
      (sub.actor ≡ call.actor) × IsKeptSo call.kept (kept_at kept k)
  call_told k call sub few told =
      let a = call.actor in let b = sub.actor in let o = kept_at kept k in let u = future_name c k in let l = call_line c k call told.line told.agrees.1 in
      let both = subst (λ y. TellsBoth told.line (future_as c kept k sub) y) l.is told.tells in
      let word = word_lacks 32 u (omega arith) (future_word c k) in let one = word_lacks 32 (actor_text b) (omega arith) (actor_word b) in
      let other = word_lacks 32 (actor_text a) (omega arith) (actor_word a) in
      let first = peel u u (actor_text b ++ 32 ∷ kept_word o) (actor_text a ++ 32 ∷ l.tail) told.line word word both in
      let both_rest = told_both first.rest 97 (decimal b ++ 32 ∷ kept_word o) (actor_text a ++ 32 ∷ l.tail) first.tells (differ 97 61 refl)
      (differ 97 108 refl) (differ 97 114 refl) in
      let second = peel (actor_text b) (actor_text a) (kept_word o) l.tail first.rest one other both_rest in
      let rest = begins_once u u word word first.line_is l.is in
      let last = begins_once (actor_text b) (actor_text a) one other second.line_is rest.1 in (
        decimal_injective b a (omega (arith, few)) told.agrees.0 (tails second.same),
        kept_so call.kept l.tail o (good k) l.says last.1 second.tells,
      )

  -- all calls of a caller
  pub calls_told : (k : ℕ) (calls : List Call) (subs : List Submission) → AllByRecursion (λ (sub : Submission). sub.actor ≤ 8) subs →
      AllZip IsToldOf (placed (OfCall c) k calls) (numbered (future_as c kept) k subs) → (map (λ (sub : Submission). sub.actor) subs ≡ map
      (λ (call : Call). call.actor) calls) × ((j : ℕ) (call : Call) → slice_get calls j ≡ Some call → IsKeptSo call.kept (kept_at kept (k + j)))
  calls_told k [] [] few told = (refl, λ j call e. cc)
  calls_told k (call ∷ calls) (sub ∷ subs) few told =
      let one = call_told k call sub few.0 told.0 in let rest = calls_told (k + 1) calls subs few.1 told.1 in
      ((λ i. one.0 i ∷ rest.0 i), λ j other e. at j other e one.1 rest.1)
    where
      at : (j : ℕ) (other : Call) → slice_get (call ∷ calls) j ≡ Some other → IsKeptSo call.kept (kept_at kept k) → ((i : ℕ) (later : Call) →
          slice_get calls i ≡ Some later → IsKeptSo later.kept (kept_at kept ((k + 1) + i))) → IsKeptSo other.kept (kept_at kept (k + j))
      at zero other e one rest =
          let same : k ≡ k + 0 = omega arith in let is : call ≡ other = cc in
          subst (λ n. IsKeptSo other.kept (kept_at kept n)) same (subst (λ (x : Call). IsKeptSo x.kept (kept_at kept k)) is one)
      at (suc i) other e one rest = let same : (k + 1) + i ≡ k + suc i = omega arith in subst (λ n. IsKeptSo other.kept (kept_at kept n)) same (rest i other e)
  calls_told k calls subs few told = absurd told

-- ---- ends

pub stage_told : (line tail : List ℕ) (dead retired d r : Bool) (state : KindState) → IsStage dead retired tail → TellsRest line (stage_text d r state) tail →
    (d ≡ dead) × (d ≡ false → r ≡ retired)
stage_told line tail true true d r state says tells = absurd says
stage_told line tail true false true r state says tells = (refl, λ e. cc)
stage_told line tail true false false true state says tells =
    absurd (let bad = head_same line 114 100 (codes "etired " ++ state_text state) (codes "ead")
    (subst (λ y. TellsRest line (stage_text false true state) y) says tells) in omega (arith, bad))
stage_told line tail true false false false state says tells =
    absurd (let bad = head_same line 108 100 (codes "ive " ++ state_text state) (codes "ead")
    (subst (λ y. TellsRest line (stage_text false false state) y) says tells) in omega (arith, bad))
stage_told line tail false true true r state says tells =
    absurd (let bad = head_same line 100 114 (codes "ead") (codes "etired " ++ says.0) (subst
    (λ y. TellsRest line (codes "dead") y) says.1 tells) in omega (arith, bad))
stage_told line tail false true false true state says tells = (refl, λ e. refl)
stage_told line tail false true false false state says tells =
    absurd (let bad = head_same line 108 114 (codes "ive " ++ state_text state) (codes "etired " ++ says.0)
    (subst (λ y. TellsRest line (stage_text false false state) y) says.1 tells) in omega (arith, bad))
stage_told line tail false false true r state says tells =
    absurd (let bad = head_same line 100 108 (codes "ead") (codes "ive " ++ says.0) (subst (λ y. TellsRest line
    (codes "dead") y) says.1 tells) in omega (arith, bad))
stage_told line tail false false false true state says tells =
    absurd (let bad = head_same line 114 108 (codes "etired " ++ state_text state) (codes "ive " ++ says.0)
    (subst (λ y. TellsRest line (stage_text false true state) y) says.1 tells) in omega (arith, bad))
stage_told line tail false false false false state says tells = (refl, λ e. refl)

pub end_told : (a : ℕ) (dead retired d r : Bool) (state : KindState) → IsToldOf (OfEnd a dead retired) (actor_text a ++ 32 ∷ stage_text d r state) →
    (d ≡ dead) × (d ≡ false → r ≡ retired)
end_told a dead retired d r state told =
    let l = end_line a dead retired told.line told.agrees in
    let both = subst (λ y. TellsBoth told.line (actor_text a ++ 32 ∷ stage_text d r state) y) l.is told.tells in
    let word = word_lacks 32 (actor_text a) (omega arith) (actor_word a) in
    let first = peel (actor_text a) (actor_text a) (stage_text d r state) l.tail told.line word word both in
    stage_told first.rest l.tail dead retired d r state l.says first.tells

-- a dead actor isn't retired
pub not_both : (a : ℕ) (retired : Bool) {text : List ℕ} → IsToldOf (OfEnd a true retired) text → retired ≡ false
not_both a true told = absurd told.agrees
not_both a false told = refl

-- ---- items

readable_word : (arg : Settled) → IsReadable arg → IsWord (settled_text arg)
readable_word (Good v) h = value_word v h
readable_word (Bad k) h = (omega arith, decimal_word k)

readable_words : (args : List Settled) → AllByRecursion IsReadable args → AreWords (map settled_text args)
readable_words [] h = tt
readable_words (arg ∷ args) h = (readable_word arg h.0, readable_words args h.1)

has_words : (words : Option (Method × List Settled)) (item : RunItem) (line tail : List ℕ) → IsGoodItem item → HasTail words tail →
    TellsRest line (method_text item.method ++ spaced (map settled_text item.args)) tail → HasWords words item
has_words None item line tail good says tells = tt
has_words (Some (method, args)) item line tail good says tells =
    let mine = method_text item.method in
    let lack = word_lacks 32 mine (omega arith) (method_word item.method good.method) in
    let lacks = word_lacks 32 (method_text method) (omega arith) (method_word method says.1) in
    let args_lack = words_lack (map settled_text item.args) (args_words item.args good.args) in
    let same = told_same line (map settled_text item.args) tail lack args_lack (method_no_mark item.method good.method) (args_no_marks item.args) tells in
    let both = words_same mine (method_text method) (map settled_text item.args) (map settled_text args) lack lacks args_lack
    (words_lack (map settled_text args) (readable_words args says.2)) (same ∙ says.0) in (
      method_same item.method method good.method says.1 both.0,
      args_same item.args args (All_weaker IsGoodArg IsReadable item.args readable good.args) says.2 both.1,
    )

module _ (a : ℕ) where
  run_told : (place : ℕ) (ran : Ran) (item : RunItem) → IsGoodItem item → IsToldOf (OfRun a place ran) (item_as a place item) → IsRanSo ran item
  run_told place ran item good told =
      let u = future_name item.caller item.future in let v = future_name ran.caller ran.future in
      let xs = method_text item.method ++ spaced (map settled_text item.args) in
      let l = run_line a place ran told.line told.agrees.2 in
      let both = subst (λ y. TellsBoth told.line (item_as a place item) y) l.is told.tells in
      let word = word_lacks 32 (place_text a place) (omega arith) (place_word a place) in
      let first = peel (place_text a place) (place_text a place) (u ++ 32 ∷ xs) (v ++ 32 ∷ l.tail) told.line word word both in
      let both_rest = told_both first.rest 99 ((decimal item.caller ++ 46 ∷ decimal item.future) ++ 32 ∷ xs) (v ++ 32 ∷ l.tail) first.tells
      (differ 99 61 refl) (differ 99 108 refl) (differ 99 114 refl) in
      let second = peel u v xs l.tail first.rest (word_lacks 32 u (omega arith) (future_word item.caller item.future))
      (word_lacks 32 v (omega arith) (future_word ran.caller ran.future)) both_rest in
      let call = future_is item.caller ran.caller item.future ran.future (omega (arith, good.caller)) told.agrees.0
      (omega (arith, good.future)) told.agrees.1 second.same in
      record { caller = call.0; future = call.1; words = has_words ran.words item second.rest l.tail good l.says second.tells }

  -- all items of a run list
  pub runs_told : (place : ℕ) (runs : List Ran) (items : List RunItem) → AllByRecursion IsGoodItem items →
      AllZip IsToldOf (placed (OfRun a) place runs) (numbered (item_as a) place items) → AllZip IsRanSo runs items
  runs_told place [] [] good told = tt
  runs_told place (ran ∷ runs) (item ∷ items) good told = (run_told place ran item good.0 told.0, runs_told (place + 1) runs items good.1 told.1)
  runs_told place runs items good told = absurd told
