-- A plan is done as well without the notices of strangers.
use Rattle.act_executor.proofs.Common.{ℕ, Bool, List, [], ◌∷◌, ◌++◌, inl, inr, refl, ap, sym, ◌∙◌, subst, filter, is_some, All-filter, filter-append, Step}
use Rattle.act_executor.proofs.Common.{Submit, Copy, Release, Kill, Await, kept_at, OwnerView, is_known_dead, Copied, Released, Submitted, after_action, Action}
use Rattle.act_executor.proofs.Common.{KillAsked, after_actions, CallerMayDoAll, IsMeanwhile, DoesStep, DoesPlan}
use Rattle.act_executor.proofs.Lists.Kept.{kept_more}
use Rattle.act_executor.proofs.PlaysOfThreads.Allowed.{may_front, may_rest}
use Rattle.act_executor.proofs.PlaysOfThreads.CallerWork.{is_by_these, HoldsThese, step_holds, IsStill, still}

module _ (actors : List ℕ) where
  abbrev keep : Action → Bool
  keep = is_by_these actors

  holds_on : (owner : OwnerView) (steps : List Action) → HoldsThese actors owner → CallerMayDoAll owner steps → HoldsThese actors (after_actions owner steps)
  holds_on owner [] holds may = holds
  holds_on owner (step ∷ steps) holds may = holds_on (after_action owner step) steps (step_holds actors owner step holds may.0) may.1

  step_kept : {owner : OwnerView} (step : Step) (before steps : List Action) → IsStill actors owner before → DoesStep owner step before steps →
      DoesStep owner step (filter keep before) (filter keep steps)
  step_kept (Submit a method args) before steps is does = ap (filter keep) does ∙ kept_more keep before (Submitted a method args) refl
  step_kept (Copy a) before steps is does = ap (filter keep) does ∙ kept_more keep before (Copied a) refl
  step_kept (Release a) before steps is does = ap (filter keep) does ∙ kept_more keep before (Released a) refl
  step_kept (Kill a) before steps is does = elim does [
    | inl unasked ↦ inl (ap (filter keep) unasked.0, ap (λ o. is_known_dead o a) is.same ∙ unasked.1)
    | inr asked ↦ inr (ap (filter keep) asked ∙ kept_more keep before (KillAsked a) refl)
  ]
  step_kept (Await k) before steps is does = (ap (filter keep) does.0, ap (λ (o : OwnerView). is_some (kept_at o.kept k)) is.same ∙ does.1)

  -- the steps before a plan's step are some of those with it
  before_may : (owner : OwnerView) (step : Step) (before steps later : List Action) → DoesStep owner step before steps → CallerMayDoAll owner (steps ++ later) →
      CallerMayDoAll owner before
  before_may owner (Kill a) before steps later does may = elim does [
    | inl unasked ↦ subst (CallerMayDoAll owner) unasked.0 (may_front owner steps later may)
    | inr asked ↦ may_front owner before _ (subst (CallerMayDoAll owner) asked (may_front owner steps later may))
  ]
  before_may owner (Await k) before steps later does may = subst (CallerMayDoAll owner) does.0 (may_front owner steps later may)
  before_may owner step before steps later does may = may_front owner before _ (subst (CallerMayDoAll owner) does (may_front owner steps later may))

  pub plan_kept : (plan : List Step) (owner : OwnerView) (steps : List Action) → HoldsThese actors owner → CallerMayDoAll owner steps →
      DoesPlan owner plan steps → DoesPlan owner plan (filter keep steps)
  plan_kept [] owner steps holds may does = All-filter keep IsMeanwhile steps does
  plan_kept (step ∷ plan) owner steps holds may (before, done, later, quiet, does, whole, more) =
      let all : CallerMayDoAll owner (done ++ later) = subst (CallerMayDoAll owner) whole may in
      let done_may = may_front owner done later all in
      let same = (still actors owner done holds done_may).same in (
        filter keep before,
        filter keep done,
        filter keep later,
        All-filter keep IsMeanwhile before quiet,
        step_kept step before done (still actors owner before holds (before_may owner step before done later does all)) does,
        ap (filter keep) whole ∙ filter-append keep done later,
        subst (λ o. DoesPlan o plan (filter keep later)) (sym same)
            (plan_kept plan (after_actions owner done) later (holds_on owner done holds done_may) (may_rest owner done later all) more),
      )
