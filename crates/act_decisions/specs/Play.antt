-- When a list of events ends as a history tells.
use Rattle.std.specs.Prelude.{◌≡◌, ◌≢◌, ℕ, ◌≤◌, ◌<◌, ◌==◌, ◌&&◌, Bool, true, false, if◌then◌else◌, List, [], ◌∷◌, ◌++◌, length, map, take, slice_get, Some, Ok}
use Rattle.std.specs.Prelude.{IsOk, All}
use Rattle.std.specs.List.{flat_map, list_any}
use Rattle.act_types.specs.declared.limits.TheConstants.{MAX_CALLERS, MAX_SCRIPT_BYTES}
use Rattle.act_types.specs.declared.call.Method.{Method}
use Rattle.act_types.specs.declared.call.Arg.{Arg}
use Rattle.act_rules.specs.declared.event.Event.{Event}
use Rattle.act_rules.specs.declared.history.Submission.{Submission}
use Rattle.act_rules.specs.declared.script.Role.{Role}
use Rattle.act_rules.specs.declared.script.Step.{Step}
use Rattle.act_rules.specs.declared.script.Step.TheVariants as step
use Rattle.act_rules.specs.declared.script.Mode.TheVariants.{Play}
use Rattle.act_rules.specs.History.{ActorSpec, History, opening, calls_of}
use Rattle.act_rules.specs.Laws.{history}
use Rattle.act_rules.specs.Rules.{outcomes}
use Rattle.act_rules.specs.Report.{summary}
use Rattle.act_rules.specs.Grammar.{Script, spelled}
use Rattle.act_rules.specs.Scripts.{actor_spec_of}
use Rattle.act_console.specs.Plans.{steps_of_caller}
use Rattle.act_executor.specs.PlanPlays.{DoesPlanIn}
use Rattle.act_summaries.specs.Lines.{AreTold}

-- the call that a step submits, where it is one of the caller
abbrev pub call_of : ℕ → ℕ × Step × ℕ → List Submission
call_of c (d, step.Submit a m args, line) = if d == c then record { actor = a; method = m; args = args } ∷ [] else []
call_of c (d, other, line) = []

-- the calls that a caller's steps submit
abbrev pub calls_of_steps : ℕ → List (ℕ × Step × ℕ) → List Submission
calls_of_steps c steps = flat_map (call_of c) steps

-- where steps tell a caller's calls, it has these
abbrev pub HasCalls : ℕ → List (ℕ × Step × ℕ) → History → Type 0
HasCalls c steps h = calls_of_steps c steps ≢ [] → calls_of c h ≡ calls_of_steps c steps

-- a list begins with these calls, so many
pub record BeginsWith (count : ℕ) (front calls : List Submission) : Type 0 where
  pub within : count ≤ length calls
  pub same : take count calls ≡ front

-- call k goes to this actor, with this method and these arguments
pub record IsNext (k actor : ℕ) (method : Method) (args : List Arg) (calls : List Submission) : Type 0 where
  pub within : k < length calls
  pub call : slice_get calls k ≡ Some (record { actor = actor; method = method; args = args })

-- whether the step awaits an answer
abbrev pub is_await : Step → Bool
is_await (step.Await k) = true
is_await other = false

-- whether the caller has a step that awaits an answer
abbrev pub awaits : ℕ → List (ℕ × Step × ℕ) → Bool
awaits c steps = list_any (λ s. (s.0 == c) && is_await s.1) steps

-- the caller does its steps in their order, and no others, and then lets some handles go
abbrev pub DoesSteps : List ActorSpec → ℕ → List (ℕ × Step × ℕ) → List Event → Type 0
DoesSteps casts c steps events = (closing : List ℕ)
    × DoesPlanIn casts c (steps_of_caller c steps ++ map (λ a. step.Release a) closing) [] events

-- all events are accepted in a world of these casts, which then shows the lines that these bytes tell; each caller has
-- the calls that steps tell, and one that awaits an answer does its steps in their order
pub record EndsSo (casts : List ActorSpec) (steps : List (ℕ × Step × ℕ)) (events : List Event)
    (bytes : List ℕ) : Type 0 where
  pub accepted : All IsOk (outcomes (opening casts) events)
  pub shown : AreTold bytes (summary (history casts events))
  pub calls : (c : ℕ) → 1 ≤ c → c ≤ MAX_CALLERS → HasCalls c steps (history casts events)
  pub does : (c : ℕ) → 1 ≤ c → c ≤ MAX_CALLERS → awaits c steps ≡ true → DoesSteps casts c steps events

-- a script of roles and events
abbrev pub play_of : List Role → List Event → Script
play_of roles events = record { roles = roles; events = events; steps = [] }

-- the text is a play with the roles of the script, and ends as its steps and the lines tell; one that is longer than a
-- script may be can't be read, so only its events are spoken of
pub record IsPlayText (script : Script) (rest text : List ℕ) : Type 0 where
  pub events : List Event
  pub ends : EndsSo (map actor_spec_of script.roles) script.steps events rest
  pub written : length text ≤ MAX_SCRIPT_BYTES → spelled Play text ≡ Ok (play_of script.roles events)
