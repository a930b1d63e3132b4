-- That each end was told.
use Rattle.ray_explore.proofs.Common.{◌≡◌, ℕ, true, false, List, [], Option, Result, Ok, Err, refl, ap, sym, ◌∙◌, subst, Contains, IfOk, BTreeSet}
use Rattle.ray_explore.proofs.Common.{contains_text, Global, String, history, told_at_rest, HasToldSome, TellsEach}
use Rattle.act_rules.specs.declared.script.Step.{Step}
use Rattle.act_rules.specs.History.{ActorSpec, History}
use Rattle.act_early.proofs.Told.{alike_told}
use Rattle.act_explore.specs.Ends.{HasPassed, EachEndHas}
use Rattle.ray_explore.specs.declared.telling.Told.{Told}

-- nothing is known at first
pub none_told : (script : List ℕ) (ends : BTreeSet (String Global)) (old : Option (List ℕ)) → ends.keys ≡ [] → HasToldSome script ends old old
none_told script ends old none = (
  [],
  record {
    tells = refl;
    known = λ lines is.
        let bad : true ≡ false = sym is ∙ ap (λ (keys : List (String Global)). contains_text (record { keys = keys }) lines) none in cc;
  },
)

pub each_told : (casts : List ActorSpec) (plans : List (ℕ × List Step)) (script : List ℕ) (ends : BTreeSet (String Global)) (old new : Option (List ℕ))
    → EachEndHas casts plans (HasPassed casts (λ events. contains_text ends (told_at_rest (history casts events)) ≡ true)) → HasToldSome script ends old new
    → TellsEach casts plans script old new
each_told casts plans script ends old new each (told, has) = record {
  ends = told;
  told = has.tells;
  all = λ late is ended loses.
      let so = each late is ended loses in
      let same : told_at_rest so.early.history ≡ _ = alike_told casts late so.play is ended so.ends in
      subst (Contains told) same (has.known (told_at_rest so.early.history)
      (subst (λ (h : History). contains_text ends (told_at_rest h) ≡ true) (sym so.holds.history_is) so.holds.passed));
}

-- what holds where a result is good, of one that is known
pub when_ok : {X E : Type 0} (r : Result X E) (x : X) (K : Type 0) → IfOk r (λ _. K) → r ≡ Ok x → K
when_ok (Ok y) x K k e = k
when_ok (Err error) x K k e = cc

-- what is said where all was searched
pub where_whole : {E : Type 0} (r : Result Told E) (Q T : Type 0) → IfOk r (λ told. told.is_whole ≡ true → Q) → (Q → T)
    → IfOk r (λ told. told.is_whole ≡ true → T)
where_whole (Ok told) Q T f next = λ whole. next (f whole)
where_whole (Err error) Q T f next = tt
