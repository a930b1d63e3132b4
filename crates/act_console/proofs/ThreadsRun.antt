-- A script's roles and plans as a run takes them, and what the run tells of the script.
use Rattle.act_console.proofs.Common.{◌≡◌, ◌≢◌, ℕ, ◌<◌, ◌≤◌, ◌==◌, Bool, true, false, not, ◌||◌, if◌then◌else◌, List, [], ◌∷◌, ◌++◌, length, map, get_or}
use Rattle.act_console.proofs.Common.{Option, Some, None, Result, Ok, Err, All, AllPairs, refl, sym, ◌∙◌, ap, subst, arith, filter, slice_get, nat_lt}
use Rattle.act_console.proofs.Common.{option_map, IsSome, Vec, list_any, nat_tests, length-map, All-cons, All-map, filter_passes, slice_get-map, KindState}
use Rattle.act_console.proofs.Common.{Role, Step, Wrong, TooMany, BadPlan, ActorSpec, contains, one_to, Threads, actor_spec_of, callers_of_roles}
use Rattle.act_console.proofs.Common.{plan_in_script, is_too_many, bad_lines, or_fault, with_good_plans, list_any-map, length-filter_least, Cast, actor_spec}
use Rattle.act_console.proofs.Common.{OwnerView, EndView, PlansFit, pairs_of_map, first_bad_plan, IsJoined, IsPlayedAsPlanned, RunFault, plan_view, IsFault}
use Rattle.act_console.proofs.Common.{Steps, AreFitting, StepAt, plan_from, script_of, step_line_view, step_view, line_in, first_stranger, HasLine, Explains}
use Rattle.act_console.proofs.Common.{plans_in, joined_summary, IsSummary, all_of_map, Sorted, AreSorted, Spelled, spelled, events_among, items_steps}
use Rattle.act_console.proofs.Common.{spelled_script}
use Rattle.act_executor.specs.declared.run.RunFault.TheVariants as faults
use Rattle.act_scripts.specs.declared.script.Script.{Script}
use Rattle.act_console.specs.Threads.{spelled_threads}
use Rattle.act_console.proofs.Ended.{summary_same}
use Rattle.act_console.proofs.Sorting.{callers_differ}
use Rattle.act_console.proofs.PlansOf.{bad_plan_line, no_bad_line}

-- ---- lists

map_both : {X Y Z : Type 0} (g : Y → Z) (f : X → Y) (xs : List X) → map g (map f xs) ≡ map (λ x. g (f x)) xs
map_both g f [] = refl
map_both g f (x ∷ xs) = ap (λ ys. g (f x) ∷ ys) (map_both g f xs)

map_same : {X : Type 0} (xs : List X) → map (λ x. x) xs ≡ xs
map_same [] = refl
map_same (x ∷ xs) = ap (λ ys. x ∷ ys) (map_same xs)

kept_step : {X : Type 0} (p : X → Bool) (x : X) (kept : List X) (b : Bool) → p x ≡ b → All (λ y. p y ≡ true) kept →
    All (λ y. p y ≡ true) (if b then x ∷ kept else kept)
kept_step p x kept true is all = All-cons (λ y. p y ≡ true) x kept is all
kept_step p x kept false is all = all

-- ---- roles and plans

-- whether some role names a caller
abbrev names : List Role → ℕ → Bool
names roles c = list_any (λ role. contains c role.callers) roles

module _ {K : Type 0} (state : K → KindState) (casts : List (Cast K)) (roles : List Role) (same : map (actor_spec state) casts ≡ map actor_spec_of roles) where
  -- the casts name the callers that the roles name
  named_same : (c : ℕ) → list_any (λ (cast : Cast K). contains c cast.callers) casts ≡ names roles c
  named_same c =
      sym (list_any-map (λ (cast : ActorSpec). contains c cast.callers) (actor_spec state) casts)
      ∙ ap (list_any (λ (cast : ActorSpec). contains c cast.callers)) same
      ∙ list_any-map (λ (cast : ActorSpec). contains c cast.callers) actor_spec_of roles

  module _ (steps : List (ℕ × Step × ℕ)) (plans : List (ℕ × Vec Step)) (sorted : map plan_view plans ≡ map (plan_from steps) (callers_of_roles roles)) where
    -- the plans' callers are those that the roles name
    callers_are : map (λ (plan : ℕ × Vec Step). plan.0) plans ≡ callers_of_roles roles
    callers_are =
        sym (map_both (λ (plan : ℕ × List Step). plan.0) plan_view plans)
        ∙ ap (map (λ (plan : ℕ × List Step). plan.0)) sorted
        ∙ map_both (λ (plan : ℕ × List Step). plan.0) (plan_from steps) (callers_of_roles roles)
        ∙ map_same (callers_of_roles roles)

    are_short : length steps < 4294967296 → All (λ (plan : ℕ × Vec Step). length plan.1.items < 4294967296) plans
    are_short few =
        all_of_map (λ (plan : ℕ × List Step). length plan.1 < 4294967296) plan_view plans
        (subst (All (λ (plan : ℕ × List Step). length plan.1 < 4294967296)) (sym sorted) (All-map (λ (plan : ℕ × List Step). length plan.1 < 4294967296)
        (plan_from steps) (callers_of_roles roles) (λ k d within. let c : ℕ = get_or (callers_of_roles roles) k d in omega (
          arith,
          length-map (filter (λ (s : ℕ × Step × ℕ). s.0 == c) steps) (λ (s : ℕ × Step × ℕ). s.1),
          length-filter_least (λ (s : ℕ × Step × ℕ). s.0 == c) steps,
        ))))

    -- the plans can be run with the casts
    pub plans_fit : length steps < 4294967296 → PlansFit casts plans
    plans_fit few = record {
      differ = pairs_of_map (λ (plan : ℕ × Vec Step). plan.0) plans (subst (AllPairs (λ one other. one ≢ other)) (sym callers_are) (callers_differ roles));
      named = all_of_map (λ c. list_any (λ (cast : Cast K). contains c cast.callers) casts ≡ true) (λ (plan : ℕ × Vec Step). plan.0) plans
          (subst (All (λ c. list_any (λ (cast : Cast K). contains c cast.callers) casts ≡ true)) (sym callers_are)
          (λ k d within. named_same (get_or (callers_of_roles roles) k d) ∙ filter_passes (names roles) (one_to 16) k d within));
      short = are_short few;
    }

    -- a run of casts and plans is one of roles and steps
    pub joined_same : {owners : List OwnerView} (ends : List EndView) → IsJoined (map (actor_spec state) casts) (map plan_view plans) owners ends →
        IsJoined (map actor_spec_of roles) (plans_in (script_of roles steps)) owners ends
    joined_same {owners} ends joined =
        subst (λ casts. IsJoined casts (plans_in (script_of roles steps)) owners ends) same
        (subst (λ plans. IsJoined (map (actor_spec state) casts) plans owners ends) sorted joined)

    -- and a play of its plans is one of theirs
    pub planned_same : (owners : List OwnerView) (ends : List EndView) → IsPlayedAsPlanned (map (actor_spec state) casts) (map plan_view plans) owners ends
        → IsPlayedAsPlanned (map actor_spec_of roles) (plans_in (script_of roles steps)) owners ends
    planned_same owners ends planned =
        subst (λ casts. IsPlayedAsPlanned casts (plans_in (script_of roles steps)) owners ends) same
        (subst (λ plans. IsPlayedAsPlanned (map (actor_spec state) casts) plans owners ends) sorted planned)

    -- so the text that shows it is a summary of theirs
    pub is_summary : (owners : List OwnerView) (ends : List EndView) (text : List ℕ) → IsJoined (map (actor_spec state) casts)
        (map plan_view plans) owners ends → IsPlayedAsPlanned (map (actor_spec state) casts) (map plan_view plans) owners ends →
        text ≡ joined_summary owners ends → IsSummary (script_of roles steps) text
    is_summary owners ends text joined planned shown =
        let run : IsJoined (map actor_spec_of roles) (plans_in (script_of roles steps)) owners ends = joined_same ends joined in
        let play : IsPlayedAsPlanned (map actor_spec_of roles) (plans_in (script_of roles steps)) owners ends = planned_same owners ends planned in
        record {
          owners = owners;
          ends = ends;
          joined = run;
          shown = shown;
          events = play.0;
          played = play.1.play;
          told = shown ∙ sym (summary_same (map actor_spec_of roles) (plans_in (script_of roles steps)) owners ends play.0 run play.1.play);
          planned = play;
        }

    -- and has the same first bad step
    pub bad_same : first_bad_plan (map (actor_spec state) casts) (map plan_view plans) ≡ first_bad_plan (map actor_spec_of roles)
        (plans_in (script_of roles steps))
    bad_same =
        ap (λ casts. first_bad_plan casts (map plan_view plans)) same
        ∙ ap (λ plans. first_bad_plan (map actor_spec_of roles) plans) sorted

-- ---- what is spelled

few_named : (roles : List Role) → length (callers_of_roles roles) ≤ 16
few_named roles = length-filter_least (names roles) (one_to 16)

-- threads serve as many actors and callers as a script can name
not_too_many : (roles : List Role) (steps : List (ℕ × Step × ℕ)) → AreFitting (map actor_spec_of roles) → is_too_many 16 8 (script_of roles steps) ≡ false
not_too_many roles steps fit =
    let few : length (map actor_spec_of roles) ≤ 8 = fit.few in
    let actors : length roles ≤ 8 = omega (arith, length-map roles actor_spec_of) in
    let named : length (callers_of_roles roles) ≤ 16 = few_named roles in go actors named
  where
    go : {a c : ℕ} → a ≤ 8 → c ≤ 16 → (nat_lt 8 a || nat_lt 16 c) ≡ false
    go below under = grind (arith, nat_tests)

-- a script whose plans are good
pub good_script : (roles : List Role) (steps : List (ℕ × Step × ℕ)) → AreFitting (map actor_spec_of roles)
    → slice_get (bad_lines (script_of roles steps)) 0 ≡ None → with_good_plans 16 8 (Ok (script_of roles steps)) ≡ Ok (script_of roles steps)
good_script roles steps fit none =
    let script : Spelled = script_of roles steps in
    ap (λ b. or_fault (if b then Some (0, TooMany) else option_map (λ n. (n, BadPlan)) (slice_get (bad_lines script) 0)) script) (not_too_many roles steps fit)
    ∙ ap (λ line. or_fault (option_map (λ n. (n, BadPlan)) line) script) none

-- a script with a bad line
pub bad_script : (roles : List Role) (steps : List (ℕ × Step × ℕ)) {line : ℕ} → AreFitting (map actor_spec_of roles)
    → slice_get (bad_lines (script_of roles steps)) 0 ≡ Some line → with_good_plans 16 8 (Ok (script_of roles steps)) ≡ Err (line, BadPlan)
bad_script roles steps fit bad =
    let script : Spelled = script_of roles steps in
    ap (λ b. or_fault (if b then Some (0, TooMany) else option_map (λ n. (n, BadPlan)) (slice_get (bad_lines script) 0)) script) (not_too_many roles steps fit)
    ∙ ap (λ found. or_fault (option_map (λ n. (n, BadPlan)) found) script) bad

some_first : {X : Type 0} (xs ys : List X) (x : X) → slice_get xs 0 ≡ Some x → slice_get (xs ++ ys) 0 ≡ Some x
some_first [] ys x is = absurd (cc is)
some_first (first ∷ xs) ys x is = is

-- a script with a caller that no role names
pub strange_script : (script : Script) {steps : List (ℕ × Step × ℕ)} {line : ℕ} → script.items ≡ Steps steps → first_stranger script.casts steps ≡ Some line
    → AreFitting (map actor_spec_of script.casts) → with_good_plans 16 8 (Ok (spelled_script script)) ≡ Err (line, BadPlan)
strange_script script {steps} {line} is strange fit =
    ap (λ items. with_good_plans 16 8 (Ok (record { roles = script.casts; events = events_among items; steps = items_steps items }))) is
    ∙ bad_script script.casts steps fit
    (some_first (map (λ (s : ℕ × Step × ℕ). s.2) (filter (λ (s : ℕ × Step × ℕ). not (contains s.0 (callers_of_roles script.casts))) steps)) _ line strange)

-- whether such a caller was found
pub told_stranger : {roles seen : List Role} {steps shown : List (ℕ × Step × ℕ)} {result found : Option ℕ} → seen ≡ roles → shown ≡ steps →
    result ≡ first_stranger seen shown → result ≡ found → first_stranger roles steps ≡ found
told_stranger {roles} {shown} same_roles same_steps told is =
    sym (told ∙ ap (λ roles. first_stranger roles shown) same_roles ∙ ap (first_stranger roles) same_steps) ∙ is

-- what bytes spell for threads, by what their lines spell
pub checked_spelling : (bytes : List ℕ) {read : Result Spelled (ℕ × Wrong)} → spelled Threads bytes ≡ read → spelled_threads bytes ≡ with_good_plans 16 8 read
unfolding spelled_threads
checked_spelling bytes is = ap (with_good_plans 16 8) is

-- ---- what a fault of a run tells

kept_mapped : {X Y Z : Type 0} (g : Y → Z) (p : Y → Bool) (f : X → Y) (xs : List X) →
    map g (filter p (map f xs)) ≡ map (λ x. g (f x)) (filter (λ x. p (f x)) xs)
kept_mapped g p f [] = refl
kept_mapped {X} g p f (x ∷ xs) = go (p (f x)) (kept_mapped g p f xs)
  where
    go : (b : Bool) → map g (filter p (map f xs)) ≡ map (λ x. g (f x)) (filter (λ x. p (f x)) xs) → map g (if b then f x ∷ filter p (map f xs) else filter p
        (map f xs)) ≡ map (λ x. g (f x)) (if b then x ∷ filter (λ x. p (f x)) xs else filter (λ x. p (f x)) xs)
    go true same = ap (λ rest. g (f x) ∷ rest) same
    go false same = same

-- the line of a caller's step is that of its place
line_of_step : (roles : List Role) (steps : List (ℕ × Step × ℕ)) (step_lines : List StepAt) (c place : ℕ) → map step_line_view step_lines ≡
    map step_view steps → line_in c place step_lines ≡ option_map (λ (s : ℕ × Step × ℕ). s.2) (slice_get (plan_in_script c (script_of roles steps)) place)
line_of_step roles steps step_lines c place same =
    ap (λ lines. slice_get lines place)
    (sym (kept_mapped (λ (m : ℕ × ℕ). m.1) (λ (m : ℕ × ℕ). m.0 == c) step_line_view step_lines) ∙ ap (λ seen. map (λ (m : ℕ × ℕ). m.1)
    (filter (λ (m : ℕ × ℕ). m.0 == c) seen)) same ∙ kept_mapped (λ (m : ℕ × ℕ). m.1) (λ (m : ℕ × ℕ). m.0 == c) step_view steps)
    ∙ slice_get-map (λ (s : ℕ × Step × ℕ). s.2) (plan_in_script c (script_of roles steps)) place

module _ (roles : List Role) (steps : List (ℕ × Step × ℕ)) (step_lines : List StepAt) (listed : map step_line_view step_lines ≡ map step_view steps)
    (known : first_stranger roles steps ≡ None) (casts : List ActorSpec) (plans : List (ℕ × List Step))
    (same : first_bad_plan casts plans ≡ first_bad_plan (map actor_spec_of roles) (plans_in (script_of roles steps))) where
  bad_line_of : (c place : ℕ) → first_bad_plan casts plans ≡ Some (c, place) →
      (line : ℕ) × (slice_get (bad_lines (script_of roles steps)) 0 ≡ Some line) × (line_in c place step_lines ≡ Some line)
  bad_line_of c place is =
      let bad = bad_plan_line (script_of roles steps) c place (sym same ∙ is) known in
      (bad.0, bad.1, line_of_step roles steps step_lines c place listed ∙ bad.2)

  -- the step of a bad plan has a line
  pub has_line : (fault : RunFault) → IsFault casts plans fault → HasLine step_lines fault
  has_line (faults.BadPlan c place) told = let bad = bad_line_of c place told in subst IsSome (sym bad.2) refl
  has_line fault told = tt

  -- what a run's fault tells is so of its script, if the roles fit: the line of the first fault, or that plans are good
  pub explains : (fault : RunFault) → AreFitting (map actor_spec_of roles) → IsFault casts plans fault →
      Explains step_lines fault (with_good_plans 16 8 (Ok (script_of roles steps)))
  explains faults.TooMany fit told = absurd told
  explains (faults.BadPlan c place) fit told = let bad = bad_line_of c place told in (bad.0, bad.2, bad_script roles steps fit bad.1)
  explains faults.NoThread fit told = (script_of roles steps, good_script roles steps fit (no_bad_line (script_of roles steps) (sym same ∙ told) known))
  explains faults.NoMemory fit told = tt

-- the plans are those of the roles' callers
pub sorted_plans : {roles seen : List Role} {steps : List (ℕ × Step × ℕ)} {sorted : Sorted} → seen ≡ roles → AreSorted (callers_of_roles seen) steps sorted →
    map plan_view sorted.plans.items ≡ map (plan_from steps) (callers_of_roles roles)
sorted_plans {roles} {steps} same are = are.plans ∙ ap (λ roles. map (plan_from steps) (callers_of_roles roles)) same
