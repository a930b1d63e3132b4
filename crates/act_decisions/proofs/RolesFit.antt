-- What fits the roles of a script fits their casts.
use Rattle.act_decisions.proofs.Common.{◌≡◌, ◌≢◌, ◌⊎◌, inl, inr, ℕ, ◌<◌, ◌≤◌, ◌==◌, ◌||◌, Bool, true, false, cond, List, [], ◌∷◌, length, map, find, Some, None}
use Rattle.act_decisions.proofs.Common.{Option, refl, sym, ap, subst, ◌∙◌, arith, nat_le, eqb-true, and_parts, list_all, ActorSpec, contains, names, cast_of}
use Rattle.act_decisions.proofs.Common.{opening, is_actor_number, is_caller_number, actor_spec_of, Role, Step, actors_naming, callers_in, first_bad, AreFitting}
use Rattle.act_decisions.proofs.Common.{ToldEnd, is_sayable_role, FitsCasts, bound_of, callers_of, calls_in, AllFitRoles, HasGoodPlans, IsOfNumbers, cases_lt}
use Rattle.act_decisions.proofs.Common.{leb-true, ne_eqb}
use Rattle.act_decisions.proofs.Fitting.{unsaid}

caller_number : (c : ℕ) → is_caller_number c ≡ true → (1 ≤ c) × (c ≤ 16)
caller_number c e = let parts = and_parts (nat_le 1 c) (nat_le c 16) e in (leb-true 1 c parts.0, leb-true c 16 parts.1)

actor_number : (a : ℕ) → is_actor_number a ≡ true → (1 ≤ a) × (a ≤ 8)
actor_number a e = let parts = and_parts (nat_le 1 a) (nat_le a 8) e in (leb-true 1 a parts.0, leb-true a 8 parts.1)

-- a caller that a role names
named : (c : ℕ) (callers : List ℕ) → list_all is_caller_number callers ≡ true → contains c callers ≡ true → (1 ≤ c) × (c ≤ 16)
named c [] good has = absurd (cc)
named c (d ∷ callers) good has =
    let both = and_parts (is_caller_number d) (list_all is_caller_number callers) good in go (d == c) refl both.0 (named c callers both.1) has
  where
    go : (b : Bool) → (d == c) ≡ b → is_caller_number d ≡ true → (contains c callers ≡ true → (1 ≤ c) × (c ≤ 16))
        → (b || contains c callers) ≡ true → (1 ≤ c) × (c ≤ 16)
    go true is own later has = caller_number c (subst (λ n. is_caller_number n ≡ true) (eqb-true d c is) own)
    go false is own later has = later has

-- the cast of the actor, where one of these roles is its
abbrev pub cast_in : ℕ → List Role → Option ActorSpec
cast_in a roles = find (λ cast. cast.actor == a) (map actor_spec_of roles)

parts_of : (role : Role) (roles : List Role) → list_all is_sayable_role (role ∷ roles) ≡ true
    → (is_actor_number role.actor ≡ true) × (list_all is_caller_number role.callers ≡ true) × (list_all is_sayable_role roles ≡ true)
parts_of role roles good =
    let both = and_parts (is_sayable_role role) (list_all is_sayable_role roles) good in
    let own = and_parts (is_actor_number role.actor) (list_all is_caller_number role.callers) both.0 in (own.0, own.1, both.1)

-- the numbers of an actor and of a caller that its cast names
numbers_in : (c a : ℕ) (roles : List Role) → list_all is_sayable_role roles ≡ true → names c (cast_in a roles) ≡ true → (1 ≤ a) × (a ≤ 8) × (1 ≤ c) × (c ≤ 16)
numbers_in c a [] good e = absurd (cc)
numbers_in c a (role ∷ roles) good e = go (role.actor == a) refl (numbers_in c a roles (parts_of role roles good).2) e
  where
    parts : (is_actor_number role.actor ≡ true) × (list_all is_caller_number role.callers ≡ true) × (list_all is_sayable_role roles ≡ true)
    parts = parts_of role roles good

    go : (b : Bool) → (role.actor == a) ≡ b → (names c (cast_in a roles) ≡ true → (1 ≤ a) × (a ≤ 8) × (1 ≤ c) × (c ≤ 16))
        → names c (cond b (Some (actor_spec_of role)) (cast_in a roles)) ≡ true → (1 ≤ a) × (a ≤ 8) × (1 ≤ c) × (c ≤ 16)
    go true is later e =
        let actor = actor_number a (subst (λ n. is_actor_number n ≡ true) (eqb-true role.actor a is) parts.0) in
        let caller = named c role.callers parts.1 e in (actor.0, actor.1, caller.0, caller.1)
    go false is later e = later e

-- an actor whose number is too large has no cast
none_in : (a : ℕ) (roles : List Role) → list_all is_sayable_role roles ≡ true → 9 ≤ a → callers_in (cast_in a roles) ≡ []
none_in a [] good large = refl
none_in a (role ∷ roles) good large =
    let parts = parts_of role roles good in let small = actor_number role.actor parts.0 in let apart : role.actor ≢ a = λ e. omega (arith, small.1, large, e) in
    ap (λ b. callers_in (cond b (Some (actor_spec_of role)) (cast_in a roles))) (ne_eqb role.actor a apart)
    ∙ none_in a roles parts.2 large

module _ (end : ToldEnd) (roles : List Role) (fits : AllFitRoles end roles) (good : list_all is_sayable_role roles ≡ true) where
  abbrev Casts : List ActorSpec
  Casts = map actor_spec_of roles

  same_callers : (a : ℕ) → callers_of end a ≡ callers_in (cast_of a (opening Casts))
  same_callers a = go (cases_lt a 9)
    where
      go : (a < 9) ⊎ (9 ≤ a) → callers_of end a ≡ callers_in (cast_of a (opening Casts))
      go (inl below) = fits.1 a below
      go (inr large) = unsaid end a (let few : length end.actors.items ≤ 9 = fits.0 in omega arith) ∙ sym (none_in a roles good large)

  -- no step of a bound caller is refused
  good_plan : HasGoodPlans end roles → IsOfNumbers end → (c : ℕ) (plan : List Step) → bound_of end c ≡ Some plan → first_bad (actors_naming c Casts) plan ≡ None
  good_plan plans within c plan bound = go (within.callers c)
    where
      go : (1 ≤ c) × (c ≤ 16) ⊎ (calls_in end c ≡ []) × (bound_of end c ≡ None) → first_bad (actors_naming c Casts) plan ≡ None
      go (inl (some, few)) = plans c plan some few bound
      go (inr (none, free)) = absurd (let bad : None ≡ Some plan = sym free ∙ bound in cc)

  pub fits_casts : HasGoodPlans end roles → AreFitting Casts → IsOfNumbers end → FitsCasts end Casts
  fits_casts plans fitting within = record {
    callers = same_callers;
    actors_differ = fitting.actors;
    numbers = λ c a named. numbers_in c a roles good named;
    good = good_plan plans within;
  }
