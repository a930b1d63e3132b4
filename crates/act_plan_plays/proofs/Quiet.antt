-- Nothing is left of any caller: the play is quiescent.
use Rattle.act_plan_plays.proofs.Common.{◌≡◌, ℕ, ◌<◌, Bool, true, false, List, [], length, Some, None, All, refl, ap, sym, ◌∙◌, subst, Contains, get_or, arith}
use Rattle.act_plan_plays.proofs.Common.{map, slice_get, list_any, length-map, get_or-map, get_or_from_slice_get, element, Step, calls_to, ActorSpec, History}
use Rattle.act_plan_plays.proofs.Common.{contains, is_caller, calls_of, CallerSetup, At, steps_of, next_step, IsQuiescent, IsWorld, world}
use Rattle.act_plan_plays.proofs.Common.{named_call, named_among, notes_sent, Parts, Stands, HoldPlans, IsDone, NoteLetter}

-- ---- what holds of each setup's caller holds of each caller that has a setup

-- what holds of the caller of each setup holds of any caller that has a setup
pub part_of : (P : ℕ → Type 0) (setups : List CallerSetup) (c : ℕ) → All (λ (setup : CallerSetup). P setup.caller) setups
    → Contains (map (λ (setup : CallerSetup). setup.caller) setups) c → P c
part_of P setups c all (i, below, is) =
    let within : i < length setups = omega (arith, below, length-map setups (λ (setup : CallerSetup). setup.caller)) in
    let found = element setups i within in
    let here : get_or setups i found.0 ≡ found.0 = get_or_from_slice_get setups i found.0 found.0 found.1 in
    let own : found.0.caller ≡ c = sym (ap (λ (setup : CallerSetup). setup.caller) here)
    ∙ sym (get_or-map (λ (setup : CallerSetup). setup.caller) setups i found.0 c within) ∙ is in
    subst P own (subst (λ (setup : CallerSetup). P setup.caller) here (all i found.0 within))

-- ---- the callers without a part

pub quiet : (casts : List ActorSpec) (plans : ℕ → List Step) (at : At) {parts : Parts} {setups : List CallerSetup} → Stands casts plans at parts →
    HoldPlans casts plans setups → All (λ (setup : CallerSetup). IsDone plans setup.caller at) setups → IsQuiescent plans at
quiet casts plans at {setups} stands hold all = record {
  waits = λ c step is may. (own c (go c step is)).waits step is may;
  needs = λ c a is named. (own c (named_among c a h.casts named)).needs a is named;
  closed = λ c a is named. (own c (named_among c a h.casts named)).closed a is named;
  sent = λ c k call is none known live. (own c (named_among c call.actor h.casts (named_call h c k w.retires.named is))).sent k call is none known live;
  noted = λ c a gone live. stands.brought (NoteLetter c a (length (calls_to a (calls_of c h)))) (notes_sent stands.play c a gone) live;
  told = λ c a dead named. (own c (named_among c a h.casts named)).told a dead named;
  live = stands.live;
}
  where
    h : History
    h = at.history

    w : IsWorld casts h
    w = world casts plans at stands.play

    own : (c : ℕ) → is_caller c h ≡ true → IsDone plans c at
    own c is = part_of (λ c. IsDone plans c at) setups c all
        (hold.named c (ap (λ l. list_any (λ (cast : ActorSpec). contains c cast.callers) l) (sym w.casts) ∙ is))

    -- who has a next step is a caller
    go : (c : ℕ) (step : Step) → next_step plans c at ≡ Some step → is_caller c h ≡ true
    go c step is = named (is_caller c h) refl
      where
        named : (b : Bool) → is_caller c h ≡ b → b ≡ true
        named true e = refl
        named false e =
            let none : plans c ≡ [] = hold.others c (ap (λ l. list_any (λ (cast : ActorSpec). contains c cast.callers) l) (sym w.casts) ∙ e) in
            let bad : Some step ≡ None = sym is ∙ ap (λ l. slice_get l (steps_of c at)) none in cc
