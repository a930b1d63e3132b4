-- Whether each caller is through.
use Rattle.act_plan_plays.proofs.Common.{◌≡◌, ℕ, zero, suc, ◌<◌, Bool, true, false, List, [], ◌∷◌, length, Option, Some, None, All, refl, ap, sym, ◌∙◌, subst}
use Rattle.act_plan_plays.proofs.Common.{arith, slice_get, is_some, list_all, list_any, slice_get_within, Event, Step, Answer, kept_at, ActorSpec, History}
use Rattle.act_plan_plays.proofs.Common.{contains, is_caller, calls_of, kept_of, element, Retires, world_retires, OwnerView, CallerSetup, WorldView, IsHere, At}
use Rattle.act_plan_plays.proofs.Common.{steps_of, world, named_call, named_among, Parts, IsBehind, Stands, HoldPlans, HasAnswers, IsThrough, AllThrough}
use Rattle.act_plan_plays.proofs.Quiet.{part_of}
use Rattle.act_plan_plays.proofs.Moving.{next_is}
use Rattle.act_rules.proofs.Kept.{kept_size}

-- ---- the answers

all_kept : (xs : List (Option Answer)) → list_all (λ o. is_some o) xs ≡ true → (k : ℕ) → k < length xs → is_some (kept_at xs k) ≡ true
all_kept [] e k below = absurd (omega arith)
all_kept (None ∷ xs) e k below = cc
all_kept (Some x ∷ xs) e zero below = refl
all_kept (Some x ∷ xs) e (suc k) below = all_kept xs e k (omega arith)

kept_all : (xs : List (Option Answer)) → ((k : ℕ) → k < length xs → is_some (kept_at xs k) ≡ true) → list_all (λ o. is_some o) xs ≡ true
kept_all [] all = refl
kept_all (None ∷ xs) all = let none : false ≡ true = all 0 (omega arith) in cc
kept_all (Some x ∷ xs) all = kept_all xs (λ k below. all (suc k) (omega arith))

pub answers_tell : (h : History) (c : ℕ) {owner : OwnerView} → IsHere h c owner →
    (list_all (λ o. is_some o) owner.kept ≡ true → HasAnswers c h) × (HasAnswers c h → list_all (λ o. is_some o) owner.kept ≡ true)
answers_tell h c here = (
  (λ e k call at. let within : k < length (kept_of c h) = omega (arith, slice_get_within (calls_of c h) k call at, kept_size c h) in
      all_kept (kept_of c h) (subst (λ l. list_all (λ o. is_some o) l ≡ true) here.is.kept e) k within),
  λ all. subst (λ l. list_all (λ o. is_some o) l ≡ true) (sym here.is.kept)
      (kept_all (kept_of c h) (λ k below. let found = element (calls_of c h) k (omega (arith, below, kept_size c h)) in all k found.0 found.1)),
)

-- a stranger has no calls
pub stranger : (casts : List ActorSpec) (h : History) (c : ℕ) (world : WorldView) (events : List Event) → IsBehind casts h world events → is_caller c h ≡ false
    → HasAnswers c h
stranger casts h c world events behind none k call at =
    let retires : Retires h = subst Retires (sym behind.is) (world_retires casts events) in
    let bad : true ≡ false = sym (named_among c call.actor h.casts (named_call h c k retires.named at)) ∙ none in cc

-- ---- all callers

pub through_all : (casts : List ActorSpec) (plans : ℕ → List Step) (at : At) {parts : Parts} {setups : List CallerSetup} → Stands casts plans at parts →
    HoldPlans casts plans setups → All (λ (setup : CallerSetup). IsThrough plans setup.caller at) setups → AllThrough plans at
through_all casts plans at {parts} {setups} stands hold all c = go (list_any (λ (cast : ActorSpec). contains c cast.callers) casts) refl
  where
    go : (b : Bool) → list_any (λ (cast : ActorSpec). contains c cast.callers) casts ≡ b → IsThrough plans c at
    go true e = part_of (λ c. IsThrough plans c at) setups c all (hold.named c e)
    go false e = (
      ap (λ l. slice_get l (steps_of c at)) (hold.others c e),
      stranger casts at.history c parts.world parts.events stands.behind
          (ap (λ l. list_any (λ (cast : ActorSpec). contains c cast.callers) l) (world casts plans at stands.play).casts ∙ e),
    )

-- a caller with a step left isn't
pub not_through : (plans : ℕ → List Step) (c : ℕ) {n : ℕ} (at : At) {plan : List Step} → plans c ≡ plan → n ≡ steps_of c at → n < length plan →
    IsThrough plans c at → ⊥
not_through plans c {n} at {plan} holds count left through =
    let step = element plan n left in
    let bad : Some step.0 ≡ None = sym (next_is plans c at holds count step.1) ∙ through.0 in cc
