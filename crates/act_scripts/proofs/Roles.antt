-- Roles of distinct actors.
use Rattle.act_scripts.proofs.Common.{◌≡◌, ◌≢◌, ℕ, ◌<◌, ◌≤◌, ◌==◌, ◌||◌, true, false, List, [], ◌∷◌, ◌++◌, length, map, get_or, Bool, All, AllPairs, ap, sym}
use Rattle.act_scripts.proofs.Common.{◌∙◌, refl, subst, true≢false, eq-eqb, Some, None, not, inl, inr, arith, if◌then◌else◌, list_any, IsDistinct, eqb}
use Rattle.act_scripts.proofs.Common.{eqb-true, or_parts, eqb_tells, Decides-eqb, get_or-map, length-map, map-append, All-cons, All-map, All-push}
use Rattle.act_scripts.proofs.Common.{recursion_from_All, Any-from_list_any, list_any_at, AllPairs-cons, all_pairs_push, IsDistinct-cons}
use Rattle.act_scripts.proofs.Common.{IsDistinct-from_AllPairs, length-le_from_distinct_below, Role, ActorSpec, LateActor, TwiceActor, TwiceCaller, Script}
use Rattle.act_scripts.proofs.Common.{has_twice, IsLimit, actor_spec_of, AllPairs-map, AreFitting, AreSound}
use Rattle.act_rules.specs.Grammar.{role_fault}

-- ---- no more actors than there are numbers for them

pub few_actors : (casts : List ActorSpec) → AreSound casts → length casts ≤ 8
few_actors casts sound =
    let numbers = map (λ (cast : ActorSpec). cast.actor) casts in
    let pairs : AllPairs (λ one other. one ≢ other) numbers = AllPairs-map (λ one other. one ≢ other) (λ (cast : ActorSpec). cast.actor) casts sound.actors in
    let valid : All (λ actor. (1 ≤ actor) × (actor ≤ 8)) numbers =
    All-map (λ actor. (1 ≤ actor) × (actor ≤ 8)) (λ (cast : ActorSpec). cast.actor) casts sound.valid in
    let apart : All (λ actor. eqb 0 actor ≡ false) numbers = λ k d within. let ok = valid k d within in
    elim (eqb_tells 0 (get_or numbers k d)) [ inl t ↦ absurd (omega arith) | inr f ↦ f.0 ] in
    let distinct : IsDistinct eqb (0 ∷ numbers) =
    IsDistinct-cons eqb 0 numbers (recursion_from_All (λ actor. eqb 0 actor ≡ false) numbers apart) (IsDistinct-from_AllPairs Decides-eqb numbers pairs) in
    let below : All (λ actor. actor < 9) (0 ∷ numbers) =
    All-cons (λ actor. actor < 9) 0 numbers (omega arith) (λ k d within. let ok = valid k d within in omega arith) in
    let most : length (0 ∷ numbers) ≤ 9 = length-le_from_distinct_below (0 ∷ numbers) 9 distinct
    (λ q is. let any = Any-from_list_any (eqb q) (0 ∷ numbers) is in let same : q ≡ any.1 = eqb-true q any.1 any.4 in let there : get_or
    (0 ∷ numbers) any.0 any.1 ≡ any.1 = any.3 in let small : get_or (0 ∷ numbers) any.0 any.1 < 9 = below any.0 any.1 any.2 in omega arith) in
    let counted : length numbers ≡ length casts = length-map casts (λ (cast : ActorSpec). cast.actor) in omega arith

pub sound_fit : (casts : List ActorSpec) → AreSound casts → AreFitting casts
sound_fit casts sound = record { actors = sound.actors; callers = sound.callers; few = few_actors casts sound; limits = sound.limits }

-- ---- one role more

-- what nothing refuses about a role
pub unrefused : (script : Script) (role : Role) → role_fault script role ≡ None →
    (list_any (λ other. other.actor == role.actor) script.roles ≡ false) × (has_twice role.callers ≡ false)
unfolding role_fault
unrefused script role none = go (not (length script.events == 0) || not (length script.steps == 0)) (list_any (λ other. other.actor == role.actor) script.roles)
    (has_twice role.callers) none
  where
    go : (late twice caller : Bool) → (if late then Some LateActor else (if twice then Some TwiceActor else (if caller then Some TwiceCaller else None))) ≡
        None → (twice ≡ false) × (caller ≡ false)
    go true twice caller e = cc
    go false true caller e = cc
    go false false true e = cc
    go false false false e = (refl, refl)

-- callers of whom none stands twice
differ : (callers : List ℕ) → has_twice callers ≡ false → AllPairs (λ one other. one ≢ other) callers
differ [] none = λ i j d before within. absurd (omega arith)
differ (c ∷ cs) none =
    let p = or_parts (list_any (λ m. m == c) cs) (has_twice cs) none in
    AllPairs-cons (λ one other. one ≢ other) c cs (λ k d within same. true≢false (sym (list_any_at (λ m. m == c) cs k d within (eq-eqb _ _ (sym same))) ∙ p.0))
    (differ cs p.1)

no_other : (roles : List Role) (a k : ℕ) (d : ActorSpec) → list_any (λ other. other.actor == a) roles ≡ false → k < length (map actor_spec_of roles) →
    (get_or (map actor_spec_of roles) k d).actor ≢ a
no_other [] a k d none within = absurd (omega arith)
no_other (role ∷ roles) a k d none within = λ same.
    let all : List Role = role ∷ roles in
    let inside : k < length all = subst (λ n. k < n) (length-map all actor_spec_of) within in
    true≢false (sym (list_any_at (λ other. other.actor == a) all k role inside
    (eq-eqb _ _ (ap (λ (cast : ActorSpec). cast.actor) (sym (get_or-map actor_spec_of all k role d inside)) ∙ same))) ∙ none)

pub one_role_more : (roles : List Role) (role : Role) → list_any (λ other. other.actor == role.actor) roles ≡ false → has_twice role.callers ≡ false →
    (1 ≤ role.actor) × (role.actor ≤ 8) → IsLimit role.pending → AreSound (map actor_spec_of roles) → AreSound (map actor_spec_of (roles ++ role ∷ []))
one_role_more roles role none once valid limit sound =
    let actor_specs = map actor_spec_of roles in
    subst AreSound (sym (map-append actor_spec_of roles (role ∷ [])))
    (record {
      actors = all_pairs_push (λ one other. one.actor ≢ other.actor) actor_specs (actor_spec_of role) sound.actors
          (λ k d within. no_other roles role.actor k d none within);
      callers = All-push (λ cast. AllPairs (λ one other. one ≢ other) cast.callers) actor_specs (actor_spec_of role) sound.callers (differ role.callers once);
      valid = All-push (λ cast. (1 ≤ cast.actor) × (cast.actor ≤ 8)) actor_specs (actor_spec_of role) sound.valid valid;
      limits = All-push (λ cast. IsLimit cast.pending) actor_specs (actor_spec_of role) sound.limits limit;
    })
