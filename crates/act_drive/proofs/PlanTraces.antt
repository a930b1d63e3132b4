-- The steps of a plan in a trace, one after another.
use Rattle.act_drive.proofs.Common.{◌≡◌, List, ◌∷◌, ◌++◌, refl, sym, ◌∙◌, ap, arith, append_assoc, append-nil, All-push, Step, OwnerView, Action, after_actions}
use Rattle.act_drive.proofs.Common.{IsMeanwhile, DoesStep, DoesPlan, [], after_all-append}

-- a step more that is none of the plan's
pub meanwhile_more : (owner : OwnerView) (plan : List Step) (steps : List Action) (x : Action) → IsMeanwhile x → DoesPlan owner plan steps →
    DoesPlan owner plan (steps ++ x ∷ [])
meanwhile_more owner [] steps x is does = All-push IsMeanwhile steps x does is
meanwhile_more owner (step ∷ plan) steps x is does = (
  does.0,
  does.1,
  does.2 ++ x ∷ [],
  does.3,
  does.4,
  ap (λ l. l ++ x ∷ []) does.5 ∙ append_assoc does.1 does.2 (x ∷ []),
  meanwhile_more (after_actions owner does.1) plan does.2 x is does.6,
)

-- the plan's next step
pub plan_more : (owner : OwnerView) (plan : List Step) (steps : List Action) (step : Step) (more : List Action) →
    ((o : OwnerView) (before : List Action) → after_actions o before ≡ after_actions owner steps → DoesStep o step before (before ++ more)) →
    DoesPlan owner plan steps → DoesPlan owner (plan ++ step ∷ []) (steps ++ more)
plan_more owner [] steps step more mine does =
    (steps, steps ++ more, [], does, mine owner steps refl, sym (append-nil (steps ++ more)), λ k e below. absurd (omega (arith, below)))
plan_more owner (one ∷ plan) steps step more mine does = (
  does.0,
  does.1,
  does.2 ++ more,
  does.3,
  does.4,
  ap (λ l. l ++ more) does.5 ∙ append_assoc does.1 does.2 more,
  plan_more (after_actions owner does.1) plan does.2 step more
      (λ o before is. mine o before (is ∙ sym (after_all-append owner does.1 does.2) ∙ ap (after_actions owner) (sym does.5))) does.6,
)
