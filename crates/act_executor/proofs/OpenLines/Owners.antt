-- Owners that were just opened.
use Rattle.act_executor.proofs.Common.{◌≡◌, ◌≢◌, ℕ, List, None, Option, ap, sym, ◌∙◌, subst, AllPairs, Step, first_bad, actors_in, actors_opened, OwnerView}
use Rattle.act_executor.proofs.Common.{opened_under, opened_with, CallerLines, CallerPasses, IsUnusedCaller, IsFreshCaller, CallerSetup, HasLimits}
use Rattle.act_executor.proofs.Common.{pairs_of_map}

pub own_actors : (limits : List (ℕ × Option ℕ)) (id : ℕ) (actors : List ℕ) → actors_in (opened_under limits id actors).handles ≡ actors
own_actors limits id actors = actors_opened actors

-- an owner that is opened with the limits of a part has the part's actors
pub opened_for_setup : {setup : CallerSetup} → HasLimits setup →
    opened_with setup.caller setup.limits.items ≡ opened_under setup.limits.items setup.caller setup.actors.items
opened_for_setup {setup} has = ap (opened_under setup.limits.items setup.caller) has.names

pub limits_differ : (setup : CallerSetup) → HasLimits setup → AllPairs (λ one other. one ≢ other) setup.actors.items →
    AllPairs (λ (one other : ℕ × Option ℕ). one.0 ≢ other.0) setup.limits.items
limits_differ setup has differ =
    pairs_of_map (λ (limit : ℕ × Option ℕ). limit.0) setup.limits.items (subst (AllPairs (λ one other. one ≢ other)) (sym has.names) differ)

-- an owner that was opened may drive a plan whose steps are good
pub can_drive : (lines : CallerLines) {owner : OwnerView} (limits : List (ℕ × Option ℕ)) {id : ℕ} (actors : List ℕ) {passes : CallerPasses} (plan : List Step) →
    owner ≡ opened_under limits id actors → IsUnusedCaller lines.mails.now lines.controls.now lines.replies.now id passes → first_bad actors plan ≡ None →
    IsFreshCaller lines owner passes × (first_bad (actors_in owner.handles) plan ≡ None)
can_drive lines limits {id} actors {passes} plan is unused fits =
    let known = own_actors limits id actors in
    let fresh : IsFreshCaller lines (opened_under limits id actors) passes = record { owner_is = ap (opened_under limits id) (sym known); unused = unused } in
    subst (λ (o : OwnerView). IsFreshCaller lines o passes × (first_bad (actors_in o.handles) plan ≡ None)) (sym is)
    (fresh, ap (λ l. first_bad l plan) known ∙ fits)
