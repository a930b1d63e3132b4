-- Two histories that the same lines tell end alike.
use Rattle.act_summaries.proofs.Common.{◌≡◌, ◌⊎◌, inl, inr, ℕ, zero, suc, ◌+◌, ◌<◌, ◌≤◌, ◌==◌, ◌||◌, Bool, true, false, cond, List, [], ◌∷◌, ◌++◌, length, map}
use Rattle.act_summaries.proofs.Common.{filter, take, find, slice_get, Some, None, Option, is_some, option_map, option_and_then, refl, sym, ap, subst, ◌∙◌}
use Rattle.act_summaries.proofs.Common.{arith, codes, eq-eqb, slice_get-map, slice_get_within, AllByRecursion, enumerate_from, History, ActorSpec, cast_of}
use Rattle.act_summaries.proofs.Common.{calls_of, runs_of, kept_of, opening_of, calls_to, items_of, is_dead, is_retired, is_ended, Answer, answer_at, KindState}
use Rattle.act_summaries.proofs.Common.{kept_at, actor_spec_of, IsAsSubmitted, IsAnswerOfRun, RunItem, Submission, AllZip, flat_map, Contains, caller_text}
use Rattle.act_summaries.proofs.Common.{actor_text, answer_text, settled_text, method_text, state_text, state_after, lines_in, one_to, stage_text, history}
use Rattle.act_summaries.proofs.Common.{is_sayable_method, slice_get-filter, slice_get-enumerate_from, slice_get_front, option_map-none, All_at, All_weaker}
use Rattle.act_summaries.proofs.Common.{kept_by, kept_at_is, numbers, keyed, held_submission, rank, answers_are, consistent, AreTold, AreReadOneWay, open_line}
use Rattle.act_summaries.proofs.Common.{KeepsDeath, all_from_places, same_Some}
use Rattle.act_summaries.proofs.Bytes.{tails, spaced, IsWord, IsPlain, Lacks, AreWords, word_plain, word_lacks, plain_lacks, Each-append}
use Rattle.act_summaries.proofs.Marks.{TellsRest, peel, head_same}
use Rattle.act_summaries.proofs.Reading.{IsToldTwice, told_twice}
use Rattle.act_summaries.proofs.Texts.{numbered, kept_word, future_as, item_as, actor_as, futures, actors, lines_of, summary_is, actor_word, future_name}
use Rattle.act_summaries.proofs.Texts.{future_word, place_text, place_word, is_of, of_caller, of_actor, filtered}
use Rattle.act_summaries.proofs.Words.{IsGoodArg, IsGoodState, answer_word, method_word, args_words, state_plain, plain_from, spaced_plain, dead_alike}
use Rattle.act_summaries.proofs.Facts.{Facts, facts, IsGoodCall, IsCallerNumber, call_numbers, cast_good, calls_good, items_good, opened_good, kept_good}
use Rattle.act_summaries.proofs.Facts.{died_or_not}
use Rattle.act_summaries.proofs.Decoding.{IsGoodKept, AreKeptAlike, futures_alike, IsGoodItem, IsSameItem, items_alike}

-- ---- what the facts say of items and answers

both : {A : Type 0} (P Q R : A → Type 0) (xs : List A) → ((x : A) → P x → Q x → R x) → AllByRecursion P xs → AllByRecursion Q xs → AllByRecursion R xs
both P Q R [] f p q = tt
both P Q R (x ∷ xs) f p q = (f x p.0 q.0, both P Q R xs f p.1 q.1)

module _ (casts : List ActorSpec) (h : History) (f : Facts casts h) where
  abbrev IsSubmittedHere : RunItem → Type 0
  IsSubmittedHere item = IsAsSubmitted (λ c. calls_of c h) (λ c. kept_of c h) item

  pub items_fine : (a : ℕ) → AllByRecursion IsGoodItem (runs_of a h)
  items_fine a =
      let one : (item : RunItem) → IsSubmittedHere item → AllByRecursion IsGoodArg item.args → IsGoodItem item =
      λ item sub good. let call = All_at IsGoodCall (calls_of item.caller h) item.future (calls_good h item.caller f.good) sub.at in
      let number = call_numbers casts h item.caller item.future sub.call f sub.at in
      let within = slice_get_within (calls_of item.caller h) item.future sub.call sub.at in
      record { method = ap is_sayable_method sub.method ∙ call.0; args = good; caller = number.caller.1; future = omega (arith, within, f.few item.caller) } in
      both IsSubmittedHere (λ item. AllByRecursion IsGoodArg item.args) IsGoodItem (runs_of a h) one ((consistent h f.sound).as_submitted a)
      (items_good h a f.good)

  -- what a caller keeps for a future is good: nothing, a sayable value, or a fault that is no kind's own
  pub kept_fine : (c k : ℕ) → IsGoodKept (kept_at (kept_of c h) k)
  kept_fine c k = go (kept_at (kept_of c h) k) refl
    where
      go : (o : Option Answer) → kept_at (kept_of c h) k ≡ o → IsGoodKept o
      go None e = tt
      go (Some answer) e = kept_good h c k f.good f.sound e

  pub few_actors : (c : ℕ) → AllByRecursion (λ (call : Submission). call.actor ≤ 8) (calls_of c h)
  few_actors c = all_from_places (λ (call : Submission). call.actor ≤ 8) (calls_of c h) (λ k call e. (call_numbers casts h c k call f e).few)

  -- a number is one that a caller can have, or has no calls
  pub valid_or_none : (c : ℕ) → IsCallerNumber c ⊎ (calls_of c h ≡ [])
  valid_or_none c = go (calls_of c h) refl
    where
      go : (calls : List Submission) → calls_of c h ≡ calls → IsCallerNumber c ⊎ (calls_of c h ≡ [])
      go [] e = inr e
      go (call ∷ calls) e = inl (call_numbers casts h c 0 call f (ap (λ l. slice_get l 0) e)).caller

  -- where no cast is of the actor, it ran nothing, and didn't end
  pub nothing_ran : (a : ℕ) → cast_of a h ≡ None → runs_of a h ≡ []
  nothing_ran a none = go (runs_of a h) refl
    where
      go : (items : List RunItem) → runs_of a h ≡ items → runs_of a h ≡ []
      go [] e = e
      go (item ∷ items) e =
          let held = held_submission h a {c = item.caller} item.future 0 f.sound.order (ap (λ l. slice_get l 0) e) refl refl in
          let there = (call_numbers casts h item.caller item.future held.0 f held.1).cast in
          let bad : false ≡ true = sym (ap (λ o. is_some o) none) ∙ subst (λ n. is_some (cast_of n h) ≡ true) held.2 there in cc

  pub not_ended : (a : ℕ) → cast_of a h ≡ None → (is_dead a h ≡ false) × (is_retired a h ≡ false)
  not_ended a none = go (is_dead a h) (is_retired a h) refl refl
    where
      ended : is_ended a h ≡ true → ⊥
      ended e = let bad : false ≡ true = sym (ap (λ o. is_some o) none) ∙ f.once.cast a e in cc

      go : (d r : Bool) → is_dead a h ≡ d → is_retired a h ≡ r → (is_dead a h ≡ false) × (is_retired a h ≡ false)
      go true r e g = absurd (ended (ap (λ b. b || is_retired a h) e))
      go false true e g = absurd (ended ((λ i. e i || g i)))
      go false false e g = (e, g)

  -- an item's number is how many calls of its caller ran before it
  pub number_is : (a place : ℕ) (item : RunItem) → slice_get (runs_of a h) place ≡ Some item → item.number ≡ rank item.caller place (runs_of a h)
  number_is a place item at =
      let c = item.caller in let m = rank c place (runs_of a h) in
      let mine : slice_get (items_of c (runs_of a h)) m ≡ Some item =
      slice_get-filter (λ (i : RunItem). i.caller == c) (runs_of a h) place at (eq-eqb item.caller c refl) in
      let pair : slice_get (map keyed (items_of c (runs_of a h))) m ≡ Some (keyed item) =
      slice_get-map keyed (items_of c (runs_of a h)) m ∙ ap (option_map keyed) mine in
      let all : slice_get (numbers a (calls_of c h)) m ≡ Some (keyed item) =
      slice_get_front (map keyed (items_of c (runs_of a h))) (numbers a (calls_of c h)) m (f.sound.order a c) pair in
      first (map (λ (call : ℕ × Submission). call.0) (calls_to a (calls_of c h))) m item.number item.future all
    where
      first : (ks : List ℕ) (m n k : ℕ) → slice_get (enumerate_from 0 ks) m ≡ Some (n, k) → n ≡ m
      first ks m n k e = go (slice_get ks m) (sym (slice_get-enumerate_from 0 ks m) ∙ e)
        where
          go : (o : Option ℕ) → option_map {U = ℕ × ℕ} (λ x. (0 + m, x)) o ≡ Some (n, k) → n ≡ m
          go None e = absurd (cc)
          go (Some x) e = let same : 0 + m ≡ n = ap (λ (p : ℕ × ℕ). p.0) (same_Some (0 + m, x) (n, k) e) in omega (arith, same)

  -- ---- no line of the summary has a line end

  flat : (P : List ℕ → Type 0) (texts : ℕ → List (List ℕ)) → ((n : ℕ) → AllByRecursion P (texts n)) → (ns : List ℕ) → AllByRecursion P (flat_map texts ns)
  flat P texts each [] = tt
  flat P texts each (n ∷ ns) = Each-append P (texts n) (flat_map texts ns) (each n) (flat P texts each ns)

  numbered_each : {X : Type 0} (P : List ℕ → Type 0) (Q : X → Type 0) (text_of : ℕ → X → List ℕ) (place : ℕ) (xs : List X) →
      ((k : ℕ) (x : X) → Q x → P (text_of k x)) → AllByRecursion Q xs → AllByRecursion P (numbered text_of place xs)
  numbered_each P Q text_of place [] each all = tt
  numbered_each P Q text_of place (x ∷ xs) each all = (each place x all.0, numbered_each P Q text_of (place + 1) xs each all.1)

  append_plain : (xs ys : List ℕ) → IsPlain xs → IsPlain ys → IsPlain (xs ++ ys)
  append_plain = Each-append (λ x. 32 ≤ x)

  kept_plain : (o : Option Answer) → IsGoodKept o → IsPlain (kept_word o)
  kept_plain None good = (omega arith, tt)
  kept_plain (Some answer) good = (omega arith, (omega arith, word_plain (answer_text answer) (answer_word answer good)))

  future_plain : (c k : ℕ) (call : Submission) → IsPlain (future_as c (kept_of c h) k call)
  future_plain c k call =
      append_plain (future_name c k) (32 ∷ (actor_text call.actor ++ 32 ∷ kept_word (kept_at (kept_of c h) k)))
      (word_plain (future_name c k) (future_word c k)) (
        omega arith,
        append_plain (actor_text call.actor) (32 ∷ kept_word (kept_at (kept_of c h) k)) (word_plain (actor_text call.actor) (actor_word call.actor))
            (omega arith, kept_plain (kept_at (kept_of c h) k) (kept_fine c k)),
      )

  words_plain : (words : List (List ℕ)) → AreWords words → AllByRecursion IsPlain words
  words_plain words all = All_weaker IsWord IsPlain words word_plain all

  item_plain : (a place : ℕ) (item : RunItem) → IsGoodItem item → IsPlain (item_as a place item)
  item_plain a place item good =
      let u : List ℕ = future_name item.caller item.future in
      append_plain (place_text a place) (32 ∷ (u ++ 32 ∷ (method_text item.method ++ spaced (map settled_text item.args))))
      (word_plain (place_text a place) (place_word a place)) (
        omega arith,
        append_plain u (32 ∷ (method_text item.method ++ spaced (map settled_text item.args))) (word_plain u (future_word item.caller item.future)) (
          omega arith,
          append_plain (method_text item.method) (spaced (map settled_text item.args)) (word_plain (method_text item.method) (method_word item.method
              good.method)) (spaced_plain (map settled_text item.args) (words_plain (map settled_text item.args) (args_words item.args good.args))),
        ),
      )

  stage_plain : (dead retired : Bool) (state : KindState) → IsGoodState state → IsPlain (stage_text dead retired state)
  stage_plain true retired state good = plain_from (codes "dead") refl
  stage_plain false true state good = append_plain (codes "retired ") (state_text state) (plain_from (codes "retired ") refl) (state_plain state good)
  stage_plain false false state good = append_plain (codes "live ") (state_text state) (plain_from (codes "live ") refl) (state_plain state good)

  actors_plain : (a : ℕ) → AllByRecursion IsPlain (actors h a)
  actors_plain a = go (opening_of a h) refl
    where
      go : (o : Option KindState) → opening_of a h ≡ o → AllByRecursion IsPlain
          (actor_as a (runs_of a h) (option_map (λ state. stage_text (is_dead a h) (is_retired a h) (state_after state (runs_of a h))) o))
      go None e = tt
      go (Some state) e = (
        append_plain (actor_text a) (32 ∷ stage_text (is_dead a h) (is_retired a h) (state_after state (runs_of a h))) (word_plain (actor_text a)
            (actor_word a)) (omega arith, stage_plain (is_dead a h) (is_retired a h) (state_after state (runs_of a h)) (opened_good h a state f.good e).0),
        numbered_each IsPlain IsGoodItem (item_as a) 0 (runs_of a h) (item_plain a) (items_fine a),
      )

  -- no line of a summary has a line end in it
  pub lines_lack_ends : AllByRecursion (Lacks 10) (lines_of h)
  lines_lack_ends =
      All_weaker IsPlain (Lacks 10) (lines_of h) (λ text is. plain_lacks 10 text (omega arith) is)
      (Each-append IsPlain (flat_map (futures h) (one_to 16)) (flat_map (actors h) (one_to 8))
      (flat IsPlain (futures h) (λ c. numbered_each IsPlain (λ (call : Submission). call.actor ≤ 8) (future_as c (kept_of c h)) 0 (calls_of c h)
      (λ k call few. future_plain c k call) (few_actors c)) (one_to 16)) (flat IsPlain (actors h) actors_plain (one_to 8)))

-- ---- run lists

zip_at : {A : Type 0} (R : A → A → Type 0) (xs ys : List A) (k : ℕ) → AllZip R xs ys →
    ((slice_get xs k ≡ None) × (slice_get ys k ≡ None)) ⊎ ((x : A) × (y : A) × (slice_get xs k ≡ Some x) × (slice_get ys k ≡ Some y) × R x y)
zip_at R [] [] k all = inl (refl, refl)
zip_at R (x ∷ xs) (y ∷ ys) zero all = inr (x, y, refl, refl, all.0)
zip_at R (x ∷ xs) (y ∷ ys) (suc k) all = zip_at R xs ys k all.1
zip_at R xs ys k all = absurd all

lists_same : {A : Type 0} (xs ys : List A) → ((k : ℕ) → slice_get xs k ≡ slice_get ys k) → xs ≡ ys
lists_same [] [] same = refl
lists_same [] (y ∷ ys) same = let bad = same 0 in cc
lists_same (x ∷ xs) [] same = let bad = same 0 in cc
lists_same (x ∷ xs) (y ∷ ys) same = let first : Some x ≡ Some y = same 0 in let head : x ≡ y = cc in (λ i. head i ∷ lists_same xs ys (λ k. same (suc k)) i)

rank_same : (xs ys : List RunItem) (c place : ℕ) → AllZip IsSameItem xs ys → rank c place xs ≡ rank c place ys
rank_same xs ys c zero all = refl
rank_same [] [] c (suc place) all = refl
rank_same (x ∷ xs) (y ∷ ys) c (suc place) all =
    ap (λ d. length (cond (d == c) (x ∷ filter (λ (i : RunItem). i.caller == c) (take place xs)) (filter (λ (i : RunItem). i.caller == c) (take place xs))))
    all.0.caller
    ∙ go (y.caller == c) (rank_same xs ys c place all.1)
  where
    go : (b : Bool) → rank c place xs ≡ rank c place ys →
        length (cond b (x ∷ filter (λ (i : RunItem). i.caller == c) (take place xs)) (filter (λ (i : RunItem). i.caller == c) (take place xs)))
        ≡ length (cond b (y ∷ filter (λ (i : RunItem). i.caller == c) (take place ys)) (filter (λ (i : RunItem). i.caller == c) (take place ys)))
    go true e = ap suc e
    go false e = e
rank_same xs ys c (suc place) all = absurd all

item_same : (x y : RunItem) → IsSameItem x y → x.number ≡ y.number → x ≡ y
item_same x y same number = λ i. record { caller = same.caller i; number = number i; future = same.future i; method = same.method i; args = same.args i }

-- run lists whose items have their places as numbers
runs_same : (xs ys : List RunItem) → AllZip IsSameItem xs ys → ((k : ℕ) (x : RunItem) → slice_get xs k ≡ Some x → x.number ≡ rank x.caller k xs) →
    ((k : ℕ) (y : RunItem) → slice_get ys k ≡ Some y → y.number ≡ rank y.caller k ys) → xs ≡ ys
runs_same xs ys all one other = lists_same xs ys at
  where
    at : (k : ℕ) → slice_get xs k ≡ slice_get ys k
    at k = elim (zip_at IsSameItem xs ys k all) [
      | inl none ↦ none.0 ∙ sym none.1
      | inr some ↦
          let x = some.0 in let y = some.1 in
          let number : x.number ≡ y.number =
          one k x some.2 ∙ ap (λ c. rank c k xs) some.4.caller ∙ rank_same xs ys y.caller k all ∙ sym (other k y some.3) in
          some.2 ∙ ap (λ i. Some i) (item_same x y some.4 number) ∙ sym some.3
    ]

-- ---- stages

stage_head : (rest : List ℕ) (d r e s : Bool) (state other : KindState) → TellsRest rest (stage_text d r state) (stage_text e s other) →
    (d ≡ e) × (d ≡ false → r ≡ s)
stage_head rest true r true s state other tells = (refl, λ bad. cc)
stage_head rest true r false true state other tells =
    absurd (let bad = head_same rest 100 114 (codes "ead") (codes "etired " ++ state_text other) tells in omega (arith, bad))
stage_head rest true r false false state other tells =
    absurd (let bad = head_same rest 100 108 (codes "ead") (codes "ive " ++ state_text other) tells in omega (arith, bad))
stage_head rest false true true s state other tells =
    absurd (let bad = head_same rest 114 100 (codes "etired " ++ state_text state) (codes "ead") tells in omega (arith, bad))
stage_head rest false false true s state other tells =
    absurd (let bad = head_same rest 108 100 (codes "ive " ++ state_text state) (codes "ead") tells in omega (arith, bad))
stage_head rest false true false true state other tells = (refl, λ is. refl)
stage_head rest false true false false state other tells =
    absurd (let bad = head_same rest 114 108 (codes "etired " ++ state_text state) (codes "ive " ++ state_text other) tells in omega (arith, bad))
stage_head rest false false false true state other tells =
    absurd (let bad = head_same rest 108 114 (codes "ive " ++ state_text state) (codes "etired " ++ state_text other) tells in omega (arith, bad))
stage_head rest false false false false state other tells = (refl, λ is. refl)

-- ---- the two histories

record IsActorAlike (h g : History) (a : ℕ) : Type 0 where
  runs : runs_of a h ≡ runs_of a g
  dead : is_dead a h ≡ is_dead a g
  retired : is_retired a h ≡ is_retired a g

record IsCallerAlike (lines : List (List ℕ)) (h g : History) (c : ℕ) : Type 0 where
  calls : map (λ (call : Submission). call.actor) (calls_of c h) ≡ map (λ (call : Submission). call.actor) (calls_of c g)
  kept : (k : ℕ) → AreKeptAlike lines c k (kept_at (kept_of c h) k) (kept_at (kept_of c g) k)

module _ (casts : List ActorSpec) (h g : History) (f : Facts casts h) (t : Facts casts g) (lines : List (List ℕ))
    (told : AllZip (IsToldTwice lines) (lines_of h) (lines_of g)) where
  cast_same : (a : ℕ) → cast_of a h ≡ cast_of a g
  cast_same a = ap (λ all. find (λ (cast : ActorSpec). cast.actor == a) all) (f.same ∙ sym t.same)

  opening_same : (a : ℕ) → opening_of a h ≡ opening_of a g
  opening_same a = ap (option_map (λ (cast : ActorSpec). cast.opening)) (cast_same a)

  -- of an actor that is cast
  cast_alike : (a : ℕ) (state : KindState) → 1 ≤ a → a ≤ 8 → opening_of a h ≡ Some state → opening_of a g ≡ Some state → IsActorAlike h g a
  cast_alike a state some few here there =
      let staged : History → KindState → List ℕ = λ w state. stage_text (is_dead a w) (is_retired a w) (state_after state (runs_of a w)) in
      let mine = subst (λ l. AllZip (IsToldTwice lines) l (actors g a)) (of_actor h a some few)
      (subst (λ l. AllZip (IsToldTwice lines) (filter (is_of (actor_text a)) (lines_of h)) l) (of_actor g a some few)
      (filtered lines (actor_text a) (lines_of h) (lines_of g) told)) in
      let both = subst (λ o. AllZip (IsToldTwice lines) (actor_as a (runs_of a h) (option_map (staged h) o))
      (actor_as a (runs_of a g) (option_map (staged g) (Some state)))) here
      (subst (λ o. AllZip (IsToldTwice lines) (actors h a) (actor_as a (runs_of a g) (option_map (staged g) o))) there mine) in
      let word = word_lacks 32 (actor_text a) (omega arith) (actor_word a) in
      let first = peel (actor_text a) (actor_text a) (staged h state) (staged g state) both.0.text word word both.0.tells in
      let ends = stage_head first.rest (is_dead a h) (is_retired a h) (is_dead a g) (is_retired a g) (state_after state (runs_of a h))
      (state_after state (runs_of a g)) first.tells in
      record {
        runs = runs_same (runs_of a h) (runs_of a g) (items_alike lines a 0 (runs_of a h) (runs_of a g) (items_fine casts h f a)
            (items_fine casts g t a) both.1) (λ k x e. number_is casts h f a k x e) (λ k y e. number_is casts g t a k y e);
        dead = ends.0;
        retired = retires (is_dead a h) refl ends.0 ends.1;
      }
    where
      retires : (d : Bool) → is_dead a h ≡ d → is_dead a h ≡ is_dead a g → (is_dead a h ≡ false → is_retired a h ≡ is_retired a g) →
          is_retired a h ≡ is_retired a g
      retires true e dead live = f.once.apart a e ∙ sym (t.once.apart a (sym dead ∙ e))
      retires false e dead live = live e

  actor_alike : (a : ℕ) → IsActorAlike h g a
  actor_alike a = go (cast_of a h) refl
    where
      go : (o : Option ActorSpec) → cast_of a h ≡ o → IsActorAlike h g a
      go None e =
          let none : cast_of a g ≡ None = sym (cast_same a) ∙ e in let here = not_ended casts h f a e in let there = not_ended casts g t a none in
          record { runs = nothing_ran casts h f a e ∙ sym (nothing_ran casts g t a none); dead = here.0 ∙ sym there.0; retired = here.1 ∙ sym there.1 }
      go (Some cast) e =
          let number = cast_good h a f.good (ap (λ o. is_some o) e) in
          let here : opening_of a h ≡ Some cast.opening = ap (option_map (λ (cast : ActorSpec). cast.opening)) e in
          cast_alike a cast.opening number.0 number.1 here (sym (opening_same a) ∙ here)

  runs_alike : (a : ℕ) → runs_of a h ≡ runs_of a g
  runs_alike a = (actor_alike a).runs

  -- a caller that has calls
  calls_alike : (c : ℕ) → IsCallerNumber c → IsCallerAlike lines h g c
  calls_alike c number =
      let mine = subst (λ l. AllZip (IsToldTwice lines) l (futures g c)) (of_caller h c number.0 number.1)
      (subst (λ l. AllZip (IsToldTwice lines) (filter (is_of (caller_text c)) (lines_of h)) l) (of_caller g c number.0 number.1)
      (filtered lines (caller_text c) (lines_of h) (lines_of g) told)) in
      let all = futures_alike lines c (kept_of c h) (kept_of c g) (kept_fine casts h f c) 0 (calls_of c h) (calls_of c g) (few_actors casts h f c)
      (few_actors casts g t c) mine in
      record { calls = all.0; kept = λ k. at k (slice_get (calls_of c h) k) refl all.0 all.1 }
    where
      at : (k : ℕ) (o : Option Submission) → slice_get (calls_of c h) k ≡ o → map (λ (call : Submission). call.actor) (calls_of c h) ≡ map
          (λ (call : Submission). call.actor) (calls_of c g) → ((j : ℕ) → j < length (calls_of c h) → AreKeptAlike lines c (0 + j)
          (kept_at (kept_of c h) (0 + j)) (kept_at (kept_of c g) (0 + j))) → AreKeptAlike lines c k (kept_at (kept_of c h) k) (kept_at (kept_of c g) k)
      at k None e same all =
          let other : option_map (λ (call : Submission). call.actor) (slice_get (calls_of c g) k) ≡ None =
          sym (slice_get-map (λ (call : Submission). call.actor) (calls_of c g) k)
          ∙ ap (λ l. slice_get l k) (sym same) ∙ slice_get-map (λ (call : Submission). call.actor) (calls_of c h) k ∙
          ap (option_map (λ (call : Submission). call.actor)) e in
          let there = option_map-none (λ (call : Submission). call.actor) (slice_get (calls_of c g) k) other in
          let none : kept_at (kept_of c h) k ≡ None = kept_at_is h c k ∙ ap (kept_by h c k) e in
          let nothing : kept_at (kept_of c g) k ≡ None = kept_at_is g c k ∙ ap (kept_by g c k) there in
          record { kept = ap (λ o. is_some o) (none ∙ sym nothing); answer = inl (ap kept_word (none ∙ sym nothing)) }
      at k (Some call) e same all =
          let zero_add : 0 + k ≡ k = omega arith in
          subst (λ n. AreKeptAlike lines c n (kept_at (kept_of c h) n) (kept_at (kept_of c g) n)) zero_add (all k (slice_get_within (calls_of c h) k call e))

  caller_alike : (c : ℕ) → IsCallerAlike lines h g c
  caller_alike c = elim (valid_or_none casts h f c) [
    | inl number ↦ calls_alike c number
    | inr none ↦ elim (valid_or_none casts g t c) [
      | inl number ↦ calls_alike c number
      | inr nothing ↦ record {
        calls = ap (map (λ (call : Submission). call.actor)) (none ∙ sym nothing);
        kept = λ k.
            let here : kept_at (kept_of c h) k ≡ None = kept_at_is h c k ∙ ap (λ l. kept_by h c k (slice_get l k)) none in
            let there : kept_at (kept_of c g) k ≡ None = kept_at_is g c k ∙ ap (λ l. kept_by g c k (slice_get l k)) nothing in
            record { kept = ap (λ o. is_some o) (here ∙ sym there); answer = inl (ap kept_word (here ∙ sym there)) };
      }
    ]
  ]

  -- ---- answers

  abbrev answered : ℕ → List RunItem → Option KindState → Option Answer
  answered place items o = option_and_then (λ state. answer_at state items place) o

  -- two answers of runs to one call are one, since the run lists are
  ran_same : (c k : ℕ) {answer : Answer} (other : Answer) → IsAnswerOfRun (λ a. opening_of a h) (λ a. runs_of a h) c k answer →
      IsAnswerOfRun (λ a. opening_of a g) (λ a. runs_of a g) c k other → answer ≡ other
  ran_same c k {answer} other p q =
      let at : slice_get (runs_of p.actor g) p.place ≡ Some p.item = subst (λ l. slice_get l p.place ≡ Some p.item) (runs_alike p.actor) p.at in
      let same = q.only p.actor p.place p.item at p.caller p.future in
      let both : Some answer ≡ Some other =
      sym p.answered
      ∙ (λ i. answered p.place (runs_alike p.actor i) (opening_same p.actor i))
      ∙ (λ i. answered (same.1 i) (runs_of (same.0 i) g) (opening_of (same.0 i) g))
      ∙ q.answered in
      cc

  answer_same : (c k : ℕ) (answer other : Answer) → kept_at (kept_of c h) k ≡ Some answer → kept_at (kept_of c g) k ≡ Some other →
      answer_text answer ≡ answer_text other → answer ≡ other
  answer_same c k answer other p q e = elim (died_or_not answer) [
    | inl died ↦ died ∙ sym (dead_alike other (kept_good g c k t.good t.sound q) (sym e ∙ ap answer_text died))
    | inr alive ↦ elim (died_or_not other) [
      | inl died ↦ dead_alike answer (kept_good h c k f.good f.sound p) (e ∙ ap answer_text died) ∙ sym died
      | inr lives ↦ ran_same c k other (answers_are c k f.sound p alive) (answers_are c k t.sound q lives)
    ]
  ]

  kept_alike : (c k : ℕ) → (kept_at (kept_of c h) k ≡ kept_at (kept_of c g) k) ⊎ ((a : ℕ) × Contains lines (open_line c k a))
  kept_alike c k = go (kept_at (kept_of c h) k) (kept_at (kept_of c g) k) refl refl ((caller_alike c).kept k).kept ((caller_alike c).kept k).answer
    where
      go : (o p : Option Answer) → kept_at (kept_of c h) k ≡ o → kept_at (kept_of c g) k ≡ p →
          is_some (kept_at (kept_of c h) k) ≡ is_some (kept_at (kept_of c g) k) → (kept_word (kept_at (kept_of c h) k) ≡ kept_word (kept_at (kept_of c g) k)) ⊎
          ((a : ℕ) × Contains lines (open_line c k a)) → (kept_at (kept_of c h) k ≡ kept_at (kept_of c g) k) ⊎ ((a : ℕ) × Contains lines (open_line c k a))
      go o p e d same (inr opened) = inr opened
      go None None e d same (inl text) = inl (e ∙ sym d)
      go None (Some other) e d same (inl text) = absurd (let bad : false ≡ true = sym (ap (λ o. is_some o) e) ∙ same ∙ ap (λ o. is_some o) d in cc)
      go (Some answer) None e d same (inl text) = absurd (let bad : true ≡ false = sym (ap (λ o. is_some o) e) ∙ same ∙ ap (λ o. is_some o) d in cc)
      go (Some answer) (Some other) e d same (inl text) =
          let words : 61 ∷ 32 ∷ answer_text answer ≡ 61 ∷ 32 ∷ answer_text other = sym (ap kept_word e) ∙ text ∙ ap kept_word d in
          let texts = tails (tails words) in inl (e ∙ ap (λ a. Some a) (answer_same c k answer other e d texts) ∙ sym d)

  -- answers that are both of runs are one
  deaths_differ : (c k : ℕ) → (kept_at (kept_of c h) k ≡ kept_at (kept_of c g) k) ⊎ (KeepsDeath c k h ⊎ KeepsDeath c k g)
  deaths_differ c k = go (kept_at (kept_of c h) k) (kept_at (kept_of c g) k) refl refl ((caller_alike c).kept k).kept
    where
      go : (o p : Option Answer) → kept_at (kept_of c h) k ≡ o → kept_at (kept_of c g) k ≡ p → is_some (kept_at (kept_of c h) k) ≡ is_some
          (kept_at (kept_of c g) k) → (kept_at (kept_of c h) k ≡ kept_at (kept_of c g) k) ⊎ (KeepsDeath c k h ⊎ KeepsDeath c k g)
      go None None e d same = inl (e ∙ sym d)
      go None (Some other) e d same = absurd (let bad : false ≡ true = sym (ap (λ o. is_some o) e) ∙ same ∙ ap (λ o. is_some o) d in cc)
      go (Some answer) None e d same = absurd (let bad : true ≡ false = sym (ap (λ o. is_some o) e) ∙ same ∙ ap (λ o. is_some o) d in cc)
      go (Some answer) (Some other) e d same = elim (died_or_not answer) [
        | inl died ↦ inr (inl (e ∙ ap (λ a. Some a) died))
        | inr alive ↦ elim (died_or_not other) [
          | inl died ↦ inr (inr (d ∙ ap (λ a. Some a) died))
          | inr lives ↦
              let one = ran_same c k other (answers_are c k f.sound e alive) (answers_are c k t.sound d lives) in inl (e ∙ ap (λ a. Some a) one ∙ sym d)
        ]
      ]

-- two histories of the same roles that scripts can write end alike, but for what the lines that tell both leave open
pub read_one_way : AreReadOneWay
read_one_way roles events others said first second bytes one two =
    let casts = map actor_spec_of roles in let h = history casts events in let g = history casts others in let f = facts roles events said first in
    let t = facts roles others said second in
    let told = told_twice bytes (lines_of h) (lines_of g) (lines_lack_ends casts h f) (lines_lack_ends casts g t)
    (subst (AreTold bytes) (summary_is h) one) (subst (AreTold bytes) (summary_is g) two) in
    record {
      runs = λ a. (actor_alike casts h g f t (lines_in bytes) told a).runs;
      dead = λ a. (actor_alike casts h g f t (lines_in bytes) told a).dead;
      retired = λ a. (actor_alike casts h g f t (lines_in bytes) told a).retired;
      calls = λ c. (caller_alike casts h g f t (lines_in bytes) told c).calls;
      kept = λ c k. ((caller_alike casts h g f t (lines_in bytes) told c).kept k).kept;
      answers = λ c k. kept_alike casts h g f t (lines_in bytes) told c k;
      deaths = λ c k. deaths_differ casts h g f t (lines_in bytes) told c k;
    }
