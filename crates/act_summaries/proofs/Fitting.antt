-- Calls and ends with which lines agree fit the history that the lines tell.
use Rattle.act_summaries.proofs.Common.{◌≡◌, ℕ, ◌+◌, ◌≤◌, Bool, true, false, cond, List, [], ◌∷◌, ◌++◌, map, filter, slice_get, Some, None, Option, is_some}
use Rattle.act_summaries.proofs.Common.{option_map, refl, sym, ap, subst, ◌∙◌, arith, History, ActorSpec, cast_of, calls_of, runs_of, kept_of, is_dead}
use Rattle.act_summaries.proofs.Common.{is_retired, actor_spec_of, append-nil, Submission, bytes_eq, AllZip, flat_map, filter-append, caller_text, actor_text}
use Rattle.act_summaries.proofs.Common.{state_after, kept_at, one_to, stage_text, history, AreTold, Call, End, Stem, OfCall, OfEnd, OfRun, placed}
use Rattle.act_summaries.proofs.Common.{stems_of_actor, stems_of, IsKeptSo, IsActorSo, AgreedLinesFit}
use Rattle.act_summaries.proofs.Owned.{belongs, AreOwned, others, one_of}
use Rattle.act_summaries.proofs.Texts.{actor_as, futures, actors, lines_of, summary_is, is_of, of_caller, of_actor, owner_same, callers_differ, actors_differ}
use Rattle.act_summaries.proofs.Texts.{kinds_differ}
use Rattle.act_summaries.proofs.Facts.{Facts, facts}
use Rattle.act_summaries.proofs.Alike.{items_fine, kept_fine, few_actors, lines_lack_ends}
use Rattle.act_summaries.proofs.Agreed.{IsToldOf, agreed_lines, stem_name, line_name}
use Rattle.act_summaries.proofs.AgreedLines.{calls_told, end_told, not_both, runs_told}

-- ---- the stems of one caller or actor

filtered_stems : (name : List ℕ) (stems : List Stem) (xs : List (List ℕ)) → AllZip IsToldOf stems xs →
    AllZip IsToldOf (filter (belongs stem_name name) stems) (filter (is_of name) xs)
filtered_stems name [] [] all = tt
filtered_stems name (stem ∷ stems) (x ∷ xs) all =
    go (bytes_eq (stem_name stem) name) (is_of name x) (ap (λ o. bytes_eq o name)
    (sym (line_name stem all.0.line all.0.agrees) ∙ sym (owner_same all.0.line x all.0.line all.0.tells)))
    (filtered_stems name stems xs all.1)
  where
    go : (a b : Bool) → a ≡ b → AllZip IsToldOf (filter (belongs stem_name name) stems) (filter (is_of name) xs) → AllZip IsToldOf (cond a
        (stem ∷ filter (belongs stem_name name) stems) (filter (belongs stem_name name) stems)) (cond b (x ∷ filter (is_of name) xs) (filter (is_of name) xs))
    go true true e rest = (all.0, rest)
    go false false e rest = rest
    go more other e rest = cc
filtered_stems name stems xs all = absurd all

placed_own : {X : Type 0} (name : List ℕ) (stem_of : ℕ → X → Stem) (place : ℕ) (xs : List X) → ((k : ℕ) (x : X) → stem_name (stem_of k x) ≡ name) →
    AreOwned stem_name name (placed stem_of place xs)
placed_own name stem_of place [] own = tt
placed_own name stem_of place (x ∷ xs) own = (own place x, placed_own name stem_of (place + 1) xs own)

module _ (calls : ℕ → List Call) (ends : ℕ → Option End) where
  abbrev stems_of_caller : ℕ → List Stem
  stems_of_caller c = placed (OfCall c) 0 (calls c)

  abbrev ends_of : ℕ → List Stem
  ends_of a = stems_of_actor a (ends a)

  callers_own : (c : ℕ) → AreOwned stem_name (caller_text c) (stems_of_caller c)
  callers_own c = placed_own (caller_text c) (OfCall c) 0 (calls c) (λ k call. refl)

  actors_own : (a : ℕ) → AreOwned stem_name (actor_text a) (ends_of a)
  actors_own a = go (ends a)
    where
      go : (o : Option End) → AreOwned stem_name (actor_text a) (stems_of_actor a o)
      go None = tt
      go (Some end) = (refl, placed_own (actor_text a) (OfRun a) 0 end.runs (λ k ran. refl))

  of_one_caller : (c : ℕ) → 1 ≤ c → c ≤ 16 → filter (belongs stem_name (caller_text c)) (stems_of calls ends) ≡ stems_of_caller c
  of_one_caller c some few =
      filter-append (belongs stem_name (caller_text c)) (flat_map stems_of_caller (one_to 16)) (flat_map ends_of (one_to 8))
      ∙ (λ i. one_of stem_name caller_text stems_of_caller callers_own callers_differ c 16 some few (omega arith) i
      ++ others stem_name actor_text ends_of actors_own (caller_text c) 8 (λ k below e. kinds_differ c k (sym e)) i)
      ∙ append-nil (stems_of_caller c)

  of_one_actor : (a : ℕ) → 1 ≤ a → a ≤ 8 → filter (belongs stem_name (actor_text a)) (stems_of calls ends) ≡ ends_of a
  of_one_actor a some few =
      filter-append (belongs stem_name (actor_text a)) (flat_map stems_of_caller (one_to 16)) (flat_map ends_of (one_to 8))
      ∙ (λ i. others stem_name caller_text stems_of_caller callers_own (actor_text a) 16 (λ k below. kinds_differ k a) i
      ++ one_of stem_name actor_text ends_of actors_own actors_differ a 8 some few (omega arith) i)

  -- ---- the history

  module _ (casts : List ActorSpec) (h : History) (f : Facts casts h) (told : AllZip IsToldOf (stems_of calls ends) (lines_of h)) where
    caller_fits : (c : ℕ) → 1 ≤ c → c ≤ 16 → (map (λ (sub : Submission). sub.actor) (calls_of c h) ≡ map (λ (call : Call). call.actor) (calls c))
        × ((j : ℕ) (call : Call) → slice_get (calls c) j ≡ Some call → IsKeptSo call.kept (kept_at (kept_of c h) (0 + j)))
    caller_fits c some few =
        calls_told c (kept_of c h) (kept_fine casts h f c) 0 (calls c) (calls_of c h) (few_actors casts h f c)
        (subst (λ l. AllZip IsToldOf l (futures h c)) (of_one_caller c some few) (subst (λ l. AllZip IsToldOf (filter (belongs stem_name (caller_text c))
        (stems_of calls ends)) l) (of_caller h c some few) (filtered_stems (caller_text c) (stems_of calls ends) (lines_of h) told)))

    abbrev staged : ℕ → Option ActorSpec → Option (List ℕ)
    staged a o = option_map (λ state. stage_text (is_dead a h) (is_retired a h) (state_after state (runs_of a h)))
        (option_map (λ (cast : ActorSpec). cast.opening) o)

    actor_fits : (a : ℕ) → 1 ≤ a → a ≤ 8 → IsActorSo a h (ends a)
    actor_fits a some few = go (ends a) (cast_of a h) refl (subst (λ l. AllZip IsToldOf l (actors h a)) (of_one_actor a some few)
        (subst (λ l. AllZip IsToldOf (filter (belongs stem_name (actor_text a)) (stems_of calls ends)) l) (of_actor h a some few)
        (filtered_stems (actor_text a) (stems_of calls ends) (lines_of h) told)))
      where
        retires : (dead retired : Bool) {d : Bool} → d ≡ dead → is_dead a h ≡ d → (dead ≡ true → retired ≡ false) → (d ≡ false → is_retired a h ≡ retired) →
            is_retired a h ≡ retired
        retires true retired same is apart live = f.once.apart a (is ∙ same) ∙ sym (apart refl)
        retires false retired same is apart live = live same

        apart : (dead : Bool) {retired : Bool} {text : List ℕ} → IsToldOf (OfEnd a dead retired) text → dead ≡ true → retired ≡ false
        apart true {retired} {text} is e = not_both a retired is
        apart false is e = cc

        go : (o : Option End) (p : Option ActorSpec) → cast_of a h ≡ p → AllZip IsToldOf (stems_of_actor a o) (actor_as a (runs_of a h) (staged a p)) →
            IsActorSo a h o
        go None None e all = e
        go (Some end) (Some cast) e all =
            let state = state_after cast.opening (runs_of a h) in
            let stage = end_told a end.dead end.retired (is_dead a h) (is_retired a h) state all.0 in
            record {
              cast = ap (λ o. is_some o) e;
              dead = stage.0;
              retired = retires end.dead end.retired stage.0 refl (apart end.dead all.0) stage.1;
              runs = runs_told a 0 end.runs (runs_of a h) (items_fine casts h f a) all.1;
            }
        go more other e all = absurd all

-- where lines agree with calls and ends, these fit each history that a script can write and the lines tell
pub agreed_lines_fit : AgreedLinesFit
agreed_lines_fit calls ends bytes roles events said sayable agreed told =
    let casts = map actor_spec_of roles in let h = history casts events in let f = facts roles events said sayable in
    let zipped = agreed_lines bytes (stems_of calls ends) (lines_of h) (lines_lack_ends casts h f) (subst (AreTold bytes) (summary_is h) told) agreed in
    record {
      called = λ c some few. (caller_fits calls ends casts h f zipped c some few).0;
      kept = λ c k call some few at.
          let same : 0 + k ≡ k = omega arith in
          subst (λ n. IsKeptSo call.kept (kept_at (kept_of c h) n)) same ((caller_fits calls ends casts h f zipped c some few).1 k call at);
      ended = λ a some few. actor_fits calls ends casts h f zipped a some few;
    }
