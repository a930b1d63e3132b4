-- What the data of a told end says, and what is told that fits it.
use Rattle.std.specs.Prelude.{◌≡◌, ◌≢◌, ◌≤◌, ℕ, Bool, true, false, List, [], map, slice_get, AllPairs, Option, Some, None, is_some, option_map, option_and_then}
use Rattle.std.specs.Option.{option_map_or}
use Rattle.act_types.specs.declared.limits.TheConstants.{MAX_ACTORS, MAX_CALLERS}
use Rattle.act_rules.specs.declared.history.RunItem.{RunItem}
use Rattle.act_rules.specs.declared.history.Submission.{Submission}
use Rattle.act_rules.specs.declared.script.Step.{Step}
use Rattle.act_rules.specs.History.{ActorSpec, actors_naming, callers_in, opening, cast_of, names}
use Rattle.act_rules.specs.Plans.{first_bad}
use Rattle.act_rules.specs.RunList.{Answer}
use Rattle.act_rules.specs.Submissions.{kept_at}
use Rattle.act_early.specs.Early.{is_reply}
use Rattle.act_told_ends.specs.Told.{Told}
use Rattle.act_walks.specs.declared.told.Left.{Left}
use Rattle.act_walks.specs.declared.told.Left.TheVariants.{Open, Reply, Death}
use Rattle.act_walks.specs.declared.told.ToldActor.{ToldActor}
use Rattle.act_walks.specs.declared.told.ToldCall.{ToldCall}
use Rattle.act_walks.specs.declared.told.ToldCaller.{ToldCaller}
use Rattle.act_walks.specs.declared.told.ToldEnd.{ToldEnd}
use Rattle.act_walks.specs.declared.told.ToldRun.{ToldRun}

-- ---- what the data says

-- what is said of a caller, if anything is
abbrev pub caller_in : ToldEnd → ℕ → Option ToldCaller
caller_in end c = slice_get end.callers.items c

-- its calls
abbrev pub calls_in : ToldEnd → ℕ → List ToldCall
calls_in end c = option_map_or (λ caller. caller.calls.items) (caller_in end c) []

-- the steps that it is bound to, if it is
abbrev pub steps_in : ToldCaller → Option (List Step)
steps_in caller = option_map (λ steps. steps.items) caller.steps

abbrev pub bound_of : ToldEnd → ℕ → Option (List Step)
bound_of end c = option_and_then steps_in (caller_in end c)

-- what is said of the answer to its call k: where there is no such call, that it has none
abbrev pub left_of : ToldEnd → ℕ → ℕ → Left
left_of end c k = option_map_or (λ call. call.left) (slice_get (calls_in end c) k) Open

-- what is said of an actor, if anything is
abbrev pub actor_in : ToldEnd → ℕ → Option ToldActor
actor_in end a = slice_get end.actors.items a

-- the callers that its cast names, the calls that it ran, and how it ended
abbrev pub callers_of : ToldEnd → ℕ → List ℕ
callers_of end a = option_map_or (λ actor. actor.callers.items) (actor_in end a) []

abbrev pub rans_in : ToldEnd → ℕ → List ToldRun
rans_in end a = option_map_or (λ actor. actor.runs.items) (actor_in end a) []

-- the callers and the futures of these calls
abbrev pub call_of_run : ToldRun → ℕ × ℕ
call_of_run run = (run.caller, run.future)

abbrev pub runs_in : ToldEnd → ℕ → List (ℕ × ℕ)
runs_in end a = map call_of_run (rans_in end a)

abbrev pub is_dead_in : ToldEnd → ℕ → Bool
is_dead_in end a = option_map_or (λ actor. actor.is_dead) (actor_in end a) false

abbrev pub is_retired_in : ToldEnd → ℕ → Bool
is_retired_in end a = option_map_or (λ actor. actor.is_retired) (actor_in end a) false

-- ---- what fits it

-- the call that is submitted
abbrev pub submission_of_call : ToldCall → Submission
submission_of_call call = record { actor = call.actor; method = call.method; args = call.args }

-- the caller and the future of a call that ran
abbrev pub call_of_item : RunItem → ℕ × ℕ
call_of_item item = (item.caller, item.future)

-- the answer that is kept is of this sort
abbrev pub FitsLeft : Left → Option Answer → Type 0
FitsLeft Open answer = answer ≡ None
FitsLeft Reply answer = is_reply answer ≡ true
FitsLeft Death answer = (is_some answer ≡ true) × (is_reply answer ≡ false)

-- the data says what is told
pub record Fits (end : ToldEnd) (told : Told) : Type 0 where
  pub calls : (c : ℕ) → map submission_of_call (calls_in end c) ≡ told.calls c
  pub left : (c k : ℕ) → FitsLeft (left_of end c k) (kept_at (told.kept c) k)
  pub runs : (a : ℕ) → runs_in end a ≡ map call_of_item (told.runs a)
  pub dead : (a : ℕ) → is_dead_in end a ≡ told.dead a
  pub retired : (a : ℕ) → is_retired_in end a ≡ told.retired a

-- each actor has the callers of its cast, all numbers are within the limits, and no step of a bound caller is refused
pub record FitsCasts (end : ToldEnd) (casts : List ActorSpec) : Type 0 where
  pub callers : (a : ℕ) → callers_of end a ≡ callers_in (cast_of a (opening casts))
  pub actors_differ : AllPairs (λ one other. one.actor ≢ other.actor) casts
  pub numbers : (c a : ℕ) → names c (cast_of a (opening casts)) ≡ true →
      (1 ≤ a) × (a ≤ MAX_ACTORS) × (1 ≤ c) × (c ≤ MAX_CALLERS)
  pub good : (c : ℕ) (steps : List Step) → bound_of end c ≡ Some steps →
      first_bad (actors_naming c casts) steps ≡ None
