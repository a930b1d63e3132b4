-- What fits a history fits it at every number, where nothing is said of others than it can have.
use Rattle.act_summaries.proofs.Common.{◌≡◌, ◌⊎◌, inl, inr, ℕ, ◌≤◌, Bool, false, List, [], map, slice_get, Some, None, Option, is_some, refl, sym, ap, subst}
use Rattle.act_summaries.proofs.Common.{◌∙◌, History, ActorSpec, cast_of, calls_of, runs_of, is_dead, is_retired, AllZip, Submission, kept_for, Call, Ran, End}
use Rattle.act_summaries.proofs.Common.{IsKeptSo, IsRanSo, IsActorSo, FitHistory}
use Rattle.act_summaries.proofs.Facts.{Facts, IsCallerNumber, cast_good}
use Rattle.act_summaries.proofs.Alike.{valid_or_none, nothing_ran, not_ended}

-- what is said of an actor that may not be there
abbrev pub runs_said : Option End → List Ran
runs_said None = []
runs_said (Some end) = end.runs

abbrev pub dead_said : Option End → Bool
dead_said None = false
dead_said (Some end) = end.dead

abbrev pub retired_said : Option End → Bool
retired_said None = false
retired_said (Some end) = end.retired

module _ (casts : List ActorSpec) (h : History) (f : Facts casts h) (calls : ℕ → List Call) (ends : ℕ → Option End) (fit : FitHistory calls ends h)
    (callers : (c : ℕ) → (calls c ≡ []) ⊎ IsCallerNumber c) (actors : (a : ℕ) → (ends a ≡ None) ⊎ ((1 ≤ a) × (a ≤ 8))) where
  pub called : (c : ℕ) → map (λ (sub : Submission). sub.actor) (calls_of c h) ≡ map (λ (call : Call). call.actor) (calls c)
  called c = elim (callers c) [
    | inr number ↦ fit.called c number.0 number.1
    | inl none ↦ elim (valid_or_none casts h f c) [
      | inl number ↦ fit.called c number.0 number.1
      | inr nothing ↦ ap (map (λ (sub : Submission). sub.actor)) nothing ∙ sym (ap (map (λ (call : Call). call.actor)) none)
    ]
  ]

  pub kept : (c k : ℕ) (call : Call) → slice_get (calls c) k ≡ Some call → IsKeptSo call.kept (kept_for c k h)
  kept c k call at = elim (callers c) [
    | inr number ↦ fit.kept c k call number.0 number.1 at
    | inl none ↦ absurd (let bad : None ≡ Some call = ap (λ l. slice_get l k) (sym none) ∙ at in cc)
  ]

  pub ended : (a : ℕ) → IsActorSo a h (ends a)
  ended a = elim (actors a) [
    | inr number ↦ fit.ended a number.0 number.1
    | inl none ↦ go (cast_of a h) refl
  ]
    where
      go : (o : Option ActorSpec) → cast_of a h ≡ o → IsActorSo a h (ends a)
      go None e = elim (actors a) [
        | inr number ↦ fit.ended a number.0 number.1
        | inl none ↦ subst (IsActorSo a h) (sym none) e
      ]
      go (Some cast) e = let number = cast_good h a f.good (ap (λ o. is_some o) e) in fit.ended a number.0 number.1

  pub ran : (a : ℕ) → AllZip IsRanSo (runs_said (ends a)) (runs_of a h)
  ran a = go (ends a) (ended a)
    where
      go : (o : Option End) → IsActorSo a h o → AllZip IsRanSo (runs_said o) (runs_of a h)
      go None none = subst (λ l. AllZip IsRanSo [] l) (sym (nothing_ran casts h f a none)) tt
      go (Some end) is = is.runs

  pub dead : (a : ℕ) → is_dead a h ≡ dead_said (ends a)
  dead a = go (ends a) (ended a)
    where
      go : (o : Option End) → IsActorSo a h o → is_dead a h ≡ dead_said o
      go None none = (not_ended casts h f a none).0
      go (Some end) is = is.dead

  pub retired : (a : ℕ) → is_retired a h ≡ retired_said (ends a)
  retired a = go (ends a) (ended a)
    where
      go : (o : Option End) → IsActorSo a h o → is_retired a h ≡ retired_said o
      go None none = (not_ended casts h f a none).1
      go (Some end) is = is.retired
