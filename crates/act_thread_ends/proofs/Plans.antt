-- Whoever does its plan in the events keeps to it as the law of lists asks.
use Rattle.act_thread_ends.proofs.Common.{◌≡◌, ℕ, suc, ◌==◌, Bool, true, false, List, [], ◌∷◌, ◌++◌, Option, Some, None, refl, sym, ◌∙◌, subst, arith}
use Rattle.act_thread_ends.proofs.Common.{All, find, IsOk, eqb-true, All-cons, All-weaker, Event, Step, Submit, Copy, Release, Kill, handle_refusal}
use Rattle.act_thread_ends.proofs.Common.{copy_refusal, ActorSpec, History, is_caller, copies_of, is_step_by, AreOthers, DoesStepBy, DoesStepsBy}
use Rattle.act_thread_ends.proofs.Common.{steps_of_plan, plan_of, step_of, IsMeanwhile, DoesStepIn, DoesPlanIn, all_in, found_is}
use Rattle.std.specs.Option.{option_map}
use Rattle.act_rules.specs.declared.event.Event.TheVariants as event
use Rattle.act_rules.specs.declared.outcome.WorldRefusal.TheVariants.{Submit as SubmitRefused, Handle, NoCaller}
use Rattle.act_rules.specs.Rules.{refusal_of, submission_refusal, outcome_of, outcomes, after}
use Rattle.act_rules.proofs.Ended.{needs-none}
use Rattle.act_rules.proofs.Growth.{added_grows}
use Rattle.act_rules.proofs.Steps.{after_keeps}
use Rattle.act_early.proofs.Shifting.{none_others}
use Rattle.act_early.proofs.Listing.{accepted_none}
use Rattle.act_rules.proofs.Callers.{is_named}
use Rattle.act_rules.proofs.Common.{cond_none}

-- ---- the steps of a plan

other_event : (c : ℕ) (other : Event) → step_of c other ≡ None → is_step_by c other ≡ false
other_event c (event.Submit d a method args) e = cond_none (d == c) (Submit a method args) e
other_event c (event.Copy d a) e = cond_none (d == c) (Copy a) e
other_event c (event.Release d a) e = cond_none (d == c) (Release a) e
other_event c (event.AskKill d a) e = cond_none (d == c) (Kill a) e
other_event c other e = refl

others : (c : ℕ) (events : List Event) → IsMeanwhile c events → AreOthers c events
others c events all = All-weaker (λ other. step_of c other ≡ None) (λ other. is_step_by c other ≡ false) (other_event c) events all

step_by : (casts : List ActorSpec) (c : ℕ) (step : Step) (before done : List Event) → DoesStepIn casts c step before done → DoesStepBy casts c step before done
step_by casts c (Submit a method args) before done does = does
step_by casts c step before done does = does

-- who does a plan in some events does its steps in them as the law of lists asks
pub steps_by : (casts : List ActorSpec) (c : ℕ) (plan : List Step) (before events : List Event) → DoesPlanIn casts c plan before events
    → DoesStepsBy casts c plan before events
steps_by casts c [] before events does = others c events does
steps_by casts c (step ∷ plan) before events (first, done, later, split, meanwhile, does, rest) = (
  first,
  done,
  later,
  split,
  others c first meanwhile,
  step_by casts c step (before ++ first) done does,
  steps_by casts c plan (before ++ first ++ done) later rest,
)

-- ---- whom no cast names does nothing, and has no plan

same_caller : (c d : ℕ) (h : History) → (d == c) ≡ true → is_caller d h ≡ true → is_caller c h ≡ true
same_caller c d h is caller = subst (λ x. is_caller x h ≡ true) (eqb-true d c is) caller

step_caller : (c : ℕ) (h : History) (other : Event) → refusal_of h other ≡ None → is_step_by c other ≡ true → is_caller c h ≡ true
step_caller c h (event.Submit d a method args) e is =
    same_caller c d h is (needs-none (is_caller d h) NoCaller (option_map SubmitRefused (submission_refusal d a args h)) e).0
step_caller c h (event.Copy d a) e is = same_caller c d h is (needs-none (is_caller d h) NoCaller (option_map Handle (copy_refusal (copies_of d a h))) e).0
step_caller c h (event.Release d a) e is = same_caller c d h is (needs-none (is_caller d h) NoCaller (option_map Handle (handle_refusal (copies_of d a h))) e).0
step_caller c h (event.AskKill d a) e is = same_caller c d h is (needs-none (is_caller d h) NoCaller (option_map Handle (handle_refusal (copies_of d a h))) e).0
step_caller c h other e is = cc

pub strangers : (casts : List ActorSpec) (c : ℕ) (h : History) (events : List Event) → h.casts ≡ casts → is_named casts c ≡ false
    → All IsOk (outcomes h events) → AreOthers c events
strangers casts c h [] same none ok = none_others c
strangers casts c h (other ∷ events) same none ok =
    let first : IsOk (outcome_of h other) = ok 0 (outcome_of h other) (omega arith) in
    let rest : All IsOk (outcomes (after h other) events) = λ i d within. ok (suc i) d (omega arith) in
    let stay = after_keeps (λ (g : History). g.casts ≡ casts) h other same (λ _. (added_grows h other).casts ∙ same) in
    All-cons (λ x. is_step_by c x ≡ false) other events (go (is_step_by c other) refl (accepted_none h other first))
    (strangers casts c (after h other) events stay none rest)
  where
    go : (b : Bool) → is_step_by c other ≡ b → refusal_of h other ≡ None → is_step_by c other ≡ false
    go false is e = is
    go true is e =
        let caller : is_named casts c ≡ true = subst (λ l. is_named l c ≡ true) same (step_caller c h other e is) in
        let bad : true ≡ false = sym caller ∙ none in cc

-- a caller that no cast names has an empty plan, where each plan is of one that some cast names
pub no_plan : (casts : List ActorSpec) (c : ℕ) (plans : List (ℕ × List Step)) → All (λ plan. is_named casts plan.0 ≡ true) plans
    → is_named casts c ≡ false → plan_of c plans ≡ []
no_plan casts c plans all none = go (find (λ (plan : ℕ × List Step). plan.0 == c) plans) refl
  where
    go : (o : Option (ℕ × List Step)) → find (λ (plan : ℕ × List Step). plan.0 == c) plans ≡ o → steps_of_plan o ≡ []
    go None e = refl
    go (Some plan) e =
        let found = found_is (λ (p : ℕ × List Step). p.0 == c) plans e in
        let named = all_in (λ (p : ℕ × List Step). is_named casts p.0 ≡ true) all found.inside in
        let here : is_named casts c ≡ true = subst (λ n. is_named casts n ≡ true) (eqb-true plan.0 c found.passes) named in
        let bad : true ≡ false = sym here ∙ none in cc
