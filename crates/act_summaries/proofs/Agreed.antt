-- From the bytes to the stems with which their lines agree, and how such lines are written.
use Rattle.act_summaries.proofs.Common.{◌≡◌, ◌≢◌, ℕ, Bool, true, false, cond, not, List, [], ◌∷◌, ◌++◌, codes, decimal, refl, sym, ap, ◌∙◌, subst, arith}
use Rattle.act_summaries.proofs.Common.{append_assoc, map, Option, Some, None, inl, AllByRecursion, AllZip, flat_map, recursion_from_All, space, with_spaces}
use Rattle.act_summaries.proofs.Common.{caller_text, actor_text, method_text, settled_text, Method, Settled, is_skipped, is_sayable_method, line, future_text}
use Rattle.act_summaries.proofs.Common.{AreTold, IsToldAs, Kept, Nothing, Reply, Death, Any, Call, Ran, Stem, OfCall, OfEnd, OfRun, IsReadable, AgreesKept}
use Rattle.act_summaries.proofs.Common.{AgreesEnd, AgreesRan, Agrees, AreAgreed}
use Rattle.act_summaries.proofs.Bytes.{spaced, spaced_is, Lacks, before, before_cut, before_all, word_lacks}
use Rattle.act_summaries.proofs.Marks.{TellsBoth}
use Rattle.act_summaries.proofs.Reading.{shown, tells_both, skipped_alike, told_texts}
use Rattle.act_summaries.proofs.Texts.{future_name, place_text, name_is, owner, future_word, place_word, actor_word, caller_dots, actor_dots, place_is}

-- ---- lines and their stems

-- a line that agrees with the stem tells the text
pub record IsToldOf (stem : Stem) (text : List ℕ) : Type 0 where
  pub line : List ℕ
  pub agrees : Agrees stem line
  pub tells : TellsBoth line text line

abbrev Pair : Type 0
Pair = List ℕ × List ℕ

stems_told : (stems : List Stem) (ps : List Pair) → AllByRecursion (λ (p : Pair). IsToldAs p.0 p.1) ps →
    AllZip Agrees stems (shown (map (λ (p : Pair). p.0) ps)) → AllZip IsToldOf stems (shown (map (λ (p : Pair). p.1) ps))
stems_told [] [] told all = tt
stems_told (stem ∷ stems) [] told all = absurd all
stems_told stems (p ∷ ps) told all = go (is_skipped p.0) (is_skipped p.1) (sym (skipped_alike p.0 p.1 p.0 both)) stems all
    (λ rest each. stems_told rest ps told.1 each)
  where
    both : TellsBoth p.0 p.1 p.0
    both = tells_both p.0 p.1 p.0 told.0 (inl refl)

    given : List (List ℕ)
    given = shown (map (λ (p : Pair). p.0) ps)

    texts : List (List ℕ)
    texts = shown (map (λ (p : Pair). p.1) ps)

    go : (a b : Bool) → a ≡ b → (rest : List Stem) → AllZip Agrees rest (cond (not a) (p.0 ∷ given) given) →
        ((rest : List Stem) → AllZip Agrees rest given → AllZip IsToldOf rest texts) → AllZip IsToldOf rest (cond (not b) (p.1 ∷ texts) texts)
    go true true e rest each more = more rest each
    go false false e [] each more = absurd each
    go false false e (stem ∷ rest) each more = (record { line = p.0; agrees = each.0; tells = both }, more rest each.1)
    go other some e rest each more = cc

-- where lines agree with stems, each stem is that of a text that the lines tell
pub agreed_lines : (bytes : List ℕ) (stems : List Stem) (xs : List (List ℕ)) → AllByRecursion (Lacks 10) xs → AreTold bytes (flat_map line xs) →
    AreAgreed stems bytes → AllZip IsToldOf stems xs
agreed_lines bytes stems xs lack make agreed =
    subst (λ l. AllZip IsToldOf stems l) (told_texts bytes xs lack make)
    (stems_told stems make.pairs (recursion_from_All (λ (p : Pair). IsToldAs p.0 p.1) make.pairs make.told)
    (subst (λ l. AllZip Agrees stems (shown l)) (sym make.given) agreed))

-- ---- a future's line

-- what is kept, behind the space in front of it
abbrev pub IsTail : Kept → List ℕ → Type 0
IsTail Nothing tail = tail ≡ 63 ∷ []
IsTail Reply tail = (what : List ℕ) × (tail ≡ 61 ∷ 32 ∷ what) × (what ≢ codes "*") × (what ≢ codes "ActorDied")
IsTail Death tail = tail ≡ 61 ∷ 32 ∷ codes "ActorDied"
IsTail Any tail = tail ≡ 61 ∷ 32 ∷ 42 ∷ []

pub record CallLine (c k : ℕ) (call : Call) (line : List ℕ) : Type 0 where
  pub tail : List ℕ
  pub is : line ≡ future_name c k ++ 32 ∷ (actor_text call.actor ++ 32 ∷ tail)
  pub says : IsTail call.kept tail

front_is : (c k a : ℕ) (end : List ℕ) → future_text c k ++ space ++ actor_text a ++ end ≡ future_name c k ++ 32 ∷ (actor_text a ++ end)
front_is c k a end =
    append_assoc (future_text c k ++ space) (actor_text a) end
    ∙ append_assoc (future_text c k) space (actor_text a ++ end)
    ∙ ap (λ l. l ++ 32 ∷ (actor_text a ++ end)) (name_is c k)

pub call_line : (c k : ℕ) (call : Call) (line : List ℕ) → AgreesKept call.kept (future_text c k ++ space ++ actor_text call.actor) line → CallLine c k call line
call_line c k call line agrees = go call.kept agrees
  where
    front : List ℕ
    front = future_text c k ++ space ++ actor_text call.actor

    go : (kept : Kept) → AgreesKept kept front line → CallLine c k (record { actor = call.actor; kept = kept }) line
    go Nothing is = record { tail = 63 ∷ []; is = is ∙ front_is c k call.actor (32 ∷ 63 ∷ []); says = refl }
    go Reply reply = record {
      tail = 61 ∷ 32 ∷ reply.what;
      is = reply.is ∙ append_assoc front (codes " = ") reply.what ∙ front_is c k call.actor (32 ∷ 61 ∷ 32 ∷ reply.what);
      says = (reply.what, refl, reply.told, reply.alive);
    }
    go Death is = record { tail = 61 ∷ 32 ∷ codes "ActorDied"; is = is ∙ front_is c k call.actor (32 ∷ 61 ∷ 32 ∷ codes "ActorDied"); says = refl }
    go Any is = record { tail = 61 ∷ 32 ∷ 42 ∷ []; is = is ∙ front_is c k call.actor (32 ∷ 61 ∷ 32 ∷ 42 ∷ []); says = refl }

-- ---- the line of an actor's end

abbrev pub IsStage : Bool → Bool → List ℕ → Type 0
IsStage true true tail = ⊥
IsStage true false tail = tail ≡ codes "dead"
IsStage false true tail = (rest : List ℕ) × (tail ≡ codes "retired " ++ rest)
IsStage false false tail = (rest : List ℕ) × (tail ≡ codes "live " ++ rest)

pub record EndLine (a : ℕ) (dead retired : Bool) (line : List ℕ) : Type 0 where
  pub tail : List ℕ
  pub is : line ≡ actor_text a ++ 32 ∷ tail
  pub says : IsStage dead retired tail

pub end_line : (a : ℕ) (dead retired : Bool) (line : List ℕ) → AgreesEnd dead retired (actor_text a) line → EndLine a dead retired line
end_line a true true line agrees = absurd agrees
end_line a true false line agrees = record { tail = codes "dead"; is = agrees; says = refl }
end_line a false true line agrees = record {
  tail = codes "retired " ++ agrees.0;
  is = agrees.1 ∙ append_assoc (actor_text a) (codes " retired ") agrees.0;
  says = (agrees.0, refl);
}
end_line a false false line agrees = record {
  tail = codes "live " ++ agrees.0;
  is = agrees.1 ∙ append_assoc (actor_text a) (codes " live ") agrees.0;
  says = (agrees.0, refl);
}

-- ---- an item's line

abbrev pub HasTail : Option (Method × List Settled) → List ℕ → Type 0
HasTail None tail = Unit {0}
HasTail (Some (method, args)) tail = (tail ≡ method_text method ++ spaced (map settled_text args)) ×
    (is_sayable_method method ≡ true) × AllByRecursion IsReadable args

pub record RunLine (a place : ℕ) (ran : Ran) (line : List ℕ) : Type 0 where
  pub tail : List ℕ
  pub is : line ≡ place_text a place ++ 32 ∷ (future_name ran.caller ran.future ++ 32 ∷ tail)
  pub says : HasTail ran.words tail

abbrev run_front : ℕ → ℕ → ℕ → ℕ → List ℕ
run_front a place c k = actor_text a ++ codes "." ++ decimal place ++ space ++ future_text c k ++ space

run_front_is : (a place c k : ℕ) (end : List ℕ) → run_front a place c k ++ end ≡ place_text a place ++ 32 ∷ (future_name c k ++ 32 ∷ end)
run_front_is a place c k end =
    let at : List ℕ = actor_text a ++ codes "." ++ decimal place in
    append_assoc (at ++ space ++ future_text c k) space end
    ∙ append_assoc (at ++ space) (future_text c k) (32 ∷ end)
    ∙ append_assoc at space (future_text c k ++ 32 ∷ end)
    ∙ (λ i. place_is a place i ++ 32 ∷ (name_is c k i ++ 32 ∷ end))

pub run_line : (a place : ℕ) (ran : Ran) (line : List ℕ) →
    AgreesRan ran.words (actor_text a ++ codes "." ++ decimal place ++ space ++ future_text ran.caller ran.future ++ space) line → RunLine a place ran line
run_line a place ran line agrees = go ran.words agrees
  where
    front : List ℕ
    front = actor_text a ++ codes "." ++ decimal place ++ space ++ future_text ran.caller ran.future ++ space

    go : (words : Option (Method × List Settled)) → AgreesRan words front line →
        RunLine a place (record { caller = ran.caller; future = ran.future; words = words }) line
    go None begins = record { tail = begins.0; is = begins.1 ∙ run_front_is a place ran.caller ran.future begins.0; says = tt }
    go (Some (method, args)) whole = record {
      tail = method_text method ++ spaced (map settled_text args);
      is =
          whole.0
          ∙ append_assoc front (method_text method) (with_spaces (map settled_text args))
          ∙ run_front_is a place ran.caller ran.future (method_text method ++ with_spaces (map settled_text args))
          ∙ ap (λ l. place_text a place ++ 32 ∷ (future_name ran.caller ran.future ++ 32 ∷ (method_text method ++ l)))
          (spaced_is (map settled_text args));
      says = (refl, whole.1, recursion_from_All IsReadable args whole.2);
    }

-- ---- whose a stem is

-- the caller or the actor of a stem
abbrev pub stem_name : Stem → List ℕ
stem_name (OfCall c k call) = caller_text c
stem_name (OfEnd a dead retired) = actor_text a
stem_name (OfRun a place ran) = actor_text a

pub line_name : (stem : Stem) (line : List ℕ) → Agrees stem line → owner line ≡ stem_name stem
line_name (OfCall c k call) line agrees =
    let l = call_line c k call line agrees.1 in
    ap owner l.is
    ∙ ap (before 46) (before_cut 32 (future_name c k) (actor_text call.actor ++ 32 ∷ l.tail) (word_lacks 32 (future_name c k) (omega arith) (future_word c k)))
    ∙ before_cut 46 (caller_text c) (decimal k) (caller_dots c)
line_name (OfEnd a dead retired) line agrees =
    let l = end_line a dead retired line agrees in
    ap owner l.is ∙ ap (before 46) (before_cut 32 (actor_text a) l.tail (word_lacks 32 (actor_text a) (omega arith) (actor_word a))) ∙ before_all 46
    (actor_text a) (actor_dots a)
line_name (OfRun a place ran) line agrees =
    let l = run_line a place ran line agrees.2 in
    ap owner l.is
    ∙ ap (before 46)
    (before_cut 32 (place_text a place) (future_name ran.caller ran.future ++ 32 ∷ l.tail) (word_lacks 32 (place_text a place) (omega arith)
    (place_word a place)))
    ∙ before_cut 46 (actor_text a) (decimal place) (actor_dots a)
