-- The plans of a script, and the line of its first step that is refused.
use Rattle.act_console.proofs.Common.{◌≡◌, ℕ, suc, ◌+◌, ◌<◌, ◌==◌, Bool, true, false, not, ◌||◌, if◌then◌else◌, List, [], ◌∷◌, ◌++◌, length, map, Option, Some}
use Rattle.act_console.proofs.Common.{None, refl, sym, ◌∙◌, ap, arith, eq-eqb, inl, inr, filter, filter_map, find, slice_get, option_map, option_and_then}
use Rattle.act_console.proofs.Common.{list_any, AllByRecursion, eqb_tells, length-map, filter_agree, or-true, filter_map-same, element, Step, Role, ActorSpec}
use Rattle.act_console.proofs.Common.{contains, Script, Progress, nothing_done, is_refused, do_step, first_bad, first_bad_from, one_to}
use Rattle.act_console.proofs.Common.{actor_spec_of, callers_of_roles, actors_of_roles, plan_in_script, bad_line, bad_lines, plans_in, callers_cast, plan_among}
use Rattle.act_console.proofs.Common.{bad_step_of, first_bad_plan, steps_of_plan}
use Rattle.act_rules.proofs.Planned.{actors_of-actor_spec}

-- ---- the first refused step stands in its plan

refused_step : (n : ℕ) (actors : List ℕ) (p : Progress) (step : Step) (steps : List Step) (i : ℕ) (b : Bool) → is_refused actors p step ≡ b → (first_bad_from (n
    + 1) actors (do_step p step) steps ≡ Some i → i < (n + 1) + length steps) → first_bad_from n actors p (step ∷ steps) ≡ Some i → i < n + suc (length steps)
refused_step n actors p step steps i true here rest is = let same : n ≡ i = cc (rw here at is) in omega (arith, same)
refused_step n actors p step steps i false here rest is = let below = rest (rw here at is) in omega (arith, below)

first_within : (n : ℕ) (actors : List ℕ) (p : Progress) (steps : List Step) (i : ℕ) → first_bad_from n actors p steps ≡ Some i → i < n + length steps
first_within n actors p [] i is = absurd (cc is)
first_within n actors p (step ∷ steps) i is =
    refused_step n actors p step steps i (is_refused actors p step) refl (first_within (n + 1) actors (do_step p step) steps i) is

bad_within : (actors : List ℕ) (steps : List Step) (i : ℕ) → first_bad actors steps ≡ Some i → i < length steps
bad_within actors steps i is = let below = first_within 0 actors nothing_done steps i is in omega (arith, below)

-- ---- lists

after_none : {X : Type 0} (xs ys : List X) → slice_get xs 0 ≡ None → slice_get (xs ++ ys) 0 ≡ slice_get ys 0
after_none [] ys none = refl
after_none (x ∷ xs) ys none = absurd (cc none)

-- what holds of each number that a list contains
all_contained : (P : ℕ → Type 0) (ns : List ℕ) → ((n : ℕ) → contains n ns ≡ true → P n) → AllByRecursion P ns
all_contained P [] each = tt
all_contained P (n ∷ ns) each = (
  each n (ap (λ b. b || contains n ns) (eq-eqb n n refl)),
  all_contained P ns (λ m has. each m (ap (λ b. (n == m) || b) has ∙ or-true (n == m))),
)

-- ---- the plans of a script, told as those of a run

any_cast : (c : ℕ) (roles : List Role) →
    list_any (λ (cast : ActorSpec). contains c cast.callers) (map actor_spec_of roles) ≡ list_any (λ (role : Role). contains c role.callers) roles
any_cast c [] = refl
any_cast c (role ∷ roles) = ap (λ b. contains c role.callers || b) (any_cast c roles)

callers_same : (roles : List Role) → callers_cast (map actor_spec_of roles) ≡ callers_of_roles roles
callers_same roles = filter_agree (λ c. list_any (λ (cast : ActorSpec). contains c cast.callers) (map actor_spec_of roles))
    (λ c. list_any (λ (role : Role). contains c role.callers) roles) (λ c. any_cast c roles) (one_to 16)

-- a caller and what it plans
abbrev pair_of : (ℕ → List Step) → ℕ → ℕ × List Step
pair_of steps c = (c, steps c)

-- a caller and the place of its first bad step
abbrev with_caller : ℕ → Option ℕ → Option (ℕ × ℕ)
with_caller c o = option_map (λ place. (c, place)) o

-- the plan of a caller among those of all callers
found_own : (steps : ℕ → List Step) (c : ℕ) (ns : List ℕ) → contains c ns ≡ true → plan_among c (map (λ n. pair_of steps n) ns) ≡ steps c
found_own steps c [] has = absurd (cc has)
found_own steps c (n ∷ ns) has = elim (eqb_tells n c) [
  | inl t ↦ ap (λ b. steps_of_plan (if b then Some (pair_of steps n) else find (λ (plan : ℕ × List Step). plan.0 == c) (map (λ n. pair_of steps n) ns))) t.0 ∙
      ap steps t.1
  | inr f ↦
      ap (λ b. steps_of_plan (if b then Some (pair_of steps n) else find (λ (plan : ℕ × List Step). plan.0 == c) (map (λ n. pair_of steps n) ns))) f.0
      ∙ found_own steps c ns (sym (ap (λ b. b || contains c ns) f.0) ∙ has)
]

plan_found : (script : Script) (c : ℕ) → contains c (callers_of_roles script.roles) ≡ true →
    plan_among c (plans_in script) ≡ map (λ (s : ℕ × Step × ℕ). s.1) (plan_in_script c script)
plan_found script c has = found_own (λ n. map (λ (s : ℕ × Step × ℕ). s.1) (plan_in_script n script)) c (callers_of_roles script.roles) has

-- ---- the first caller with a bad plan

-- the place of the first bad step of a caller
abbrev bad_place : Script → ℕ → Option ℕ
bad_place script c = first_bad (actors_of_roles c script.roles) (map (λ (s : ℕ × Step × ℕ). s.1) (plan_in_script c script))

-- the line of a caller's step
abbrev line_at : Script → ℕ → ℕ → Option ℕ
line_at script c place = option_map (λ (s : ℕ × Step × ℕ). s.2) (slice_get (plan_in_script c script) place)

bad_same : (script : Script) (c : ℕ) → contains c (callers_of_roles script.roles) ≡ true →
    bad_step_of (map actor_spec_of script.roles) (plans_in script) c ≡ with_caller c (bad_place script c)
bad_same script c has =
    ap (λ actors. with_caller c (first_bad actors (plan_among c (plans_in script)))) (sym (actors_of-actor_spec c script.roles))
    ∙ ap (λ steps. with_caller c (first_bad (actors_of_roles c script.roles) steps)) (plan_found script c has)

-- all callers in a row
rows_same : (script : Script) → filter_map (bad_step_of (map actor_spec_of script.roles) (plans_in script))
    (callers_cast (map actor_spec_of script.roles)) ≡ filter_map (λ c. with_caller c (bad_place script c)) (callers_of_roles script.roles)
rows_same script =
    ap (filter_map (bad_step_of (map actor_spec_of script.roles) (plans_in script))) (callers_same script.roles)
    ∙ filter_map-same (bad_step_of (map actor_spec_of script.roles) (plans_in script)) (λ c. with_caller c (bad_place script c)) (callers_of_roles script.roles)
    (all_contained (λ c. bad_step_of (map actor_spec_of script.roles) (plans_in script) c ≡ with_caller c (bad_place script c)) (callers_of_roles script.roles)
    (bad_same script))

has_line : (script : Script) (c place : ℕ) → bad_place script c ≡ Some place → (line : ℕ) × (line_at script c place ≡ Some line)
has_line script c place is =
    let below : place < length (plan_in_script c script) =
    omega (
      arith,
      bad_within (actors_of_roles c script.roles) (map (λ (s : ℕ × Step × ℕ). s.1) (plan_in_script c script)) place is,
      length-map (plan_in_script c script) (λ (s : ℕ × Step × ℕ). s.1),
    ) in
    let step = element (plan_in_script c script) place below in (step.0.2, ap (option_map (λ (s : ℕ × Step × ℕ). s.2)) step.1)

module _ (bad : ℕ → Option ℕ) (line : ℕ → ℕ → Option ℕ) (has : (c place : ℕ) → bad c ≡ Some place → (n : ℕ) × (line c place ≡ Some n)) where
  line_of_bad : ℕ → Option ℕ
  line_of_bad c = option_and_then (line c) (bad c)

  head_step : (c d place : ℕ) (cs : List ℕ) (o : Option ℕ) → bad c ≡ o → (slice_get (filter_map (λ c. with_caller c (bad c)) cs) 0 ≡ Some (d, place) →
      (n : ℕ) × (slice_get (filter_map line_of_bad cs) 0 ≡ Some n) × (line d place ≡ Some n)) → slice_get (filter_map (λ c. with_caller c (bad c)) (c ∷ cs)) 0 ≡
      Some (d, place) → (n : ℕ) × (slice_get (filter_map line_of_bad (c ∷ cs)) 0 ≡ Some n) × (line d place ≡ Some n)
  unfolding line_of_bad
  head_step c d place cs None here rest is = rw here (rest (rw here at is))
  head_step c d place cs (Some i) here rest is =
      let same = rw here at is in let pair : (c, i) ≡ (d, place) = cc same in let own = has c i here in
      (own.0, rw (here, own.1) refl, ap (λ (p : ℕ × ℕ). line p.0 p.1) (sym pair) ∙ own.1)

  head_found : (d place : ℕ) (cs : List ℕ) → slice_get (filter_map (λ c. with_caller c (bad c)) cs) 0 ≡ Some (d, place) →
      (n : ℕ) × (slice_get (filter_map line_of_bad cs) 0 ≡ Some n) × (line d place ≡ Some n)
  head_found d place [] is = absurd (cc is)
  head_found d place (c ∷ cs) is = head_step c d place cs (bad c) refl (head_found d place cs) is

  none_step : (c : ℕ) (cs : List ℕ) (o : Option ℕ) → bad c ≡ o → (slice_get (filter_map (λ c. with_caller c (bad c)) cs) 0 ≡ None → slice_get (filter_map
      line_of_bad cs) 0 ≡ None) → slice_get (filter_map (λ c. with_caller c (bad c)) (c ∷ cs)) 0 ≡ None → slice_get (filter_map line_of_bad (c ∷ cs)) 0 ≡ None
  unfolding line_of_bad
  none_step c cs None here rest is = rw here (rest (rw here at is))
  none_step c cs (Some i) here rest is = absurd (cc (rw here at is))

  none_found : (cs : List ℕ) → slice_get (filter_map (λ c. with_caller c (bad c)) cs) 0 ≡ None → slice_get (filter_map line_of_bad cs) 0 ≡ None
  none_found [] is = refl
  none_found (c ∷ cs) is = none_step c cs (bad c) refl (none_found cs) is

-- ---- the line of the first bad plan

pub bad_plan_line : (script : Script) (c place : ℕ) → first_bad_plan (map actor_spec_of script.roles) (plans_in script) ≡ Some (c, place) →
    slice_get (map (λ (s : ℕ × Step × ℕ). s.2) (filter (λ (s : ℕ × Step × ℕ). not (contains s.0 (callers_of_roles script.roles))) script.steps)) 0 ≡ None →
    (line : ℕ) × (slice_get (bad_lines script) 0 ≡ Some line) × (option_map (λ (s : ℕ × Step × ℕ). s.2) (slice_get (plan_in_script c script) place) ≡ Some line)
unfolding line_of_bad
bad_plan_line script c place is known =
    let found = head_found (bad_place script) (line_at script) (has_line script) c place (callers_of_roles script.roles)
    (ap (λ l. slice_get l 0) (sym (rows_same script)) ∙ is) in (
      found.0,
      after_none (map (λ (s : ℕ × Step × ℕ). s.2) (filter (λ (s : ℕ × Step × ℕ). not (contains s.0 (callers_of_roles script.roles))) script.steps))
          (filter_map (λ c. bad_line c script) (callers_of_roles script.roles)) known ∙ found.1,
      found.2,
    )

-- a script has no bad line where each step is of a caller that a role names, and no plan has a step that is refused
pub no_bad_line : (script : Script) → first_bad_plan (map actor_spec_of script.roles) (plans_in script) ≡ None → slice_get (map (λ (s : ℕ × Step × ℕ). s.2)
    (filter (λ (s : ℕ × Step × ℕ). not (contains s.0 (callers_of_roles script.roles))) script.steps)) 0 ≡ None → slice_get (bad_lines script) 0 ≡ None
unfolding line_of_bad
no_bad_line script is known =
    after_none (map (λ (s : ℕ × Step × ℕ). s.2) (filter (λ (s : ℕ × Step × ℕ). not (contains s.0 (callers_of_roles script.roles))) script.steps))
    (filter_map (λ c. bad_line c script) (callers_of_roles script.roles)) known
    ∙ none_found (bad_place script) (line_at script) (has_line script) (callers_of_roles script.roles) (ap (λ l. slice_get l 0) (sym (rows_same script)) ∙ is)
