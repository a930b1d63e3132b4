-- What a script plays, from bytes to bytes, and the faults that only threads have.
use Rattle.std.specs.Prelude.{ℕ, ◌==◌, not, ◌||◌, if◌then◌else◌, nat_lt, Bool, List, [], ◌++◌, length, map, filter, filter_map, slice_get, Option, Some, None}
use Rattle.std.specs.Prelude.{option_map, option_and_then, Result, Ok, Err, pos}
use Rattle.std.specs.List.{list_any}
use Rattle.act_types.specs.declared.limits.TheConstants.{MAX_CALLERS}
use Rattle.act_types.specs.KindState.{KindState, CounterAt, TableOf, AccountAt, ItemsOf}
use Rattle.act_rules.specs.declared.history.Submission.{Submission}
use Rattle.act_rules.specs.declared.script.Step.{Step}
use Rattle.act_rules.specs.declared.script.Mode.TheVariants.{Play, Threads}
use Rattle.act_rules.specs.declared.script.KindName.{KindName}
use Rattle.act_rules.specs.declared.script.KindName.TheVariants as kind
use Rattle.act_rules.specs.declared.script.Role.{Role}
use Rattle.act_rules.specs.declared.script.Wrong.{Wrong}
use Rattle.act_rules.specs.declared.script.Wrong.TheVariants.{TooMany, BadPlan}
use Rattle.act_rules.specs.History.{ActorSpec, History, opening, contains}
use Rattle.act_rules.specs.Report.{one_to, report, fault_line}
use Rattle.act_rules.specs.Grammar.{Script, spelled}
use Rattle.act_rules.specs.Plans.{planned, first_bad}

-- the opening state of a kind
abbrev pub opening_state : KindName → KindState
opening_state kind.Counter = CounterAt (pos 0)
opening_state kind.Table = TableOf []
opening_state kind.Account = AccountAt (pos 0)
opening_state kind.ListKind = ItemsOf []

abbrev pub actor_spec_of : Role → ActorSpec
actor_spec_of role = record {
  actor = role.actor;
  callers = role.callers;
  opening = opening_state role.kind;
  pending = role.pending;
}

-- the world of these roles, as it is opened
abbrev pub world_of : List Role → History
world_of roles = opening (map actor_spec_of roles)

-- what a script of events is to write: its report, or the line of its fault
abbrev pub text_of : Result Script (ℕ × Wrong) → List ℕ
text_of (Ok script) = report (world_of script.roles) script.events
text_of (Err fault) = fault_line fault

-- what these bytes are to write
abbrev pub output_of : List ℕ → List ℕ
output_of bytes = text_of (spelled Play bytes)

-- ---- threads

-- the callers that some role names
abbrev pub callers_of_roles : List Role → List ℕ
callers_of_roles roles = filter (λ c. list_any (λ role. contains c role.callers) roles) (one_to MAX_CALLERS)

-- the actors whose roles name a caller
abbrev pub actors_of_roles : ℕ → List Role → List ℕ
actors_of_roles c roles = map (λ role. role.actor) (filter (λ role. contains c role.callers) roles)

-- the caller's steps, each with its line
abbrev pub plan_in_script : ℕ → Script → List (ℕ × Step × ℕ)
plan_in_script c script = filter (λ s. s.0 == c) script.steps

-- what the caller's plan submits
abbrev pub submissions_of : ℕ → Script → List Submission
submissions_of c script = planned (actors_of_roles c script.roles) (map (λ s. s.1) (plan_in_script c script))

-- the line of the first step of a caller's plan that is refused
abbrev pub bad_line : ℕ → Script → Option ℕ
bad_line c script =
    option_and_then (λ i. option_map (λ s. s.2) (slice_get (plan_in_script c script) i))
    (first_bad (actors_of_roles c script.roles) (map (λ s. s.1) (plan_in_script c script)))

-- the lines of callers that no role names, and then the first bad steps, callers by rising number
abbrev pub bad_lines : Script → List ℕ
bad_lines script =
    map (λ s. s.2) (filter (λ s. not (contains s.0 (callers_of_roles script.roles))) script.steps)
    ++ filter_map (λ c. bad_line c script) (callers_of_roles script.roles)

-- whether there are more callers or actors than threads serve
abbrev pub is_too_many : ℕ → ℕ → Script → Bool
is_too_many callers actors script = nat_lt actors (length script.roles)
    || nat_lt callers (length (callers_of_roles script.roles))

-- the fault of a script for threads that serve so many callers and actors
abbrev pub plan_fault : ℕ → ℕ → Script → Option (ℕ × Wrong)
plan_fault callers actors script =
    if is_too_many callers actors script then Some (0, TooMany) else
    option_map (λ n. (n, BadPlan)) (slice_get (bad_lines script) 0)

abbrev pub or_fault : Option (ℕ × Wrong) → Script → Result Script (ℕ × Wrong)
or_fault None script = Ok script
or_fault (Some fault) script = Err fault

abbrev pub with_good_plans : ℕ → ℕ → Result Script (ℕ × Wrong) → Result Script (ℕ × Wrong)
with_good_plans callers actors (Ok script) = or_fault (plan_fault callers actors script) script
with_good_plans callers actors (Err fault) = Err fault

-- what a script for threads spells
abbrev pub spelled_plans : ℕ → ℕ → List ℕ → Result Script (ℕ × Wrong)
spelled_plans callers actors bytes = with_good_plans callers actors (spelled Threads bytes)
