-- What a run of a script for threads reads and writes.
use Rattle.std.specs.Prelude.{◌≡◌, ℕ, ◌+◌, List, ◌++◌, codes, map, Option, option_map, Result, Ok, Err, string_bytes}
use Rattle.std.specs.Io.KnownBytes.{Keeps, Appends}
use Rattle.act_types.specs.declared.limits.TheConstants.{MAX_ACTORS, MAX_CALLERS, MAX_SCRIPT_BYTES}
use Rattle.act_types.specs.Texts.{state_text}
use Rattle.act_rules.specs.declared.event.Event.{Event}
use Rattle.act_rules.specs.declared.script.Step.{Step}
use Rattle.act_rules.specs.declared.script.Wrong.{Wrong}
use Rattle.act_rules.specs.Laws.{history}
use Rattle.act_rules.specs.Report.{future_lines, actor_lines, summary_of, summary, fault_line}
use Rattle.act_rules.specs.Grammar.{Script}
use Rattle.act_rules.specs.Scripts.{actor_spec_of, callers_of_roles, plan_in_script, spelled_plans}
use Rattle.act_owner.specs.Owner.{OwnerView}
use Rattle.act_serve.specs.Served.{EndView, Retired}
use Rattle.act_executor.specs.Joined.{IsJoined, end_of, calls_in, kept_in, log_in}
use Rattle.act_executor.specs.Plays.{IsPlayOf}
use Rattle.act_executor.specs.PlanPlays.{IsPlayedAsPlanned}
use Rattle.act_console.specs.declared.streams.Output.{Output}
use Rattle.act_console.specs.declared.streams.Output.TheVariants as outputs
use Rattle.act_console.specs.declared.fault.ConsoleFault.{ConsoleFault}
use Rattle.act_console.specs.declared.fault.ConsoleFault.TheVariants as faults
use Rattle.act_console.specs.Input.{IsWholeInput}
use Rattle.act_console.specs.Output.{AppendsPrefix}

-- ---- the summary of a joined run

-- how an actor ended
abbrev pub end_text : EndView → List ℕ
end_text (Retired retired) = codes "retired " ++ state_text retired.state
end_text view = codes "dead"

-- how the actor of this number ended, if it is there
abbrev pub end_text_in : List EndView → ℕ → Option (List ℕ)
end_text_in ends a = option_map end_text (end_of a ends)

-- the lines of a caller's futures
unfoldable pub owner_lines_in : List OwnerView → ℕ → List ℕ
owner_lines_in owners c = future_lines c (calls_in owners c) (kept_in owners c)

-- the lines of an actor and of the calls that it ran
unfoldable pub end_lines_in : List EndView → ℕ → List ℕ
end_lines_in ends a = actor_lines a (log_in ends a) (end_text_in ends a)

-- what a run of threads shows: the futures of each caller, and each actor with its run list
unfoldable pub joined_summary : List OwnerView → List EndView → List ℕ
joined_summary owners ends = summary_of (calls_in owners) (kept_in owners) (end_text_in ends) (log_in ends)

-- ---- a script's run

-- the plans of the callers that some role names, by rising number
abbrev pub plans_in : Script → List (ℕ × List Step)
plans_in script = map (λ c. (c, map (λ s. s.1) (plan_in_script c script))) (callers_of_roles script.roles)

-- the text is the summary of a run of the script's plans that the rules allow, and that of a play which ends so; and a
-- play of the script's plans ends so
pub record IsSummary (script : Script) (text : List ℕ) : Type 0 where
  pub owners : List OwnerView
  pub ends : List EndView
  pub joined : IsJoined (map actor_spec_of script.roles) (plans_in script) owners ends
  pub shown : text ≡ joined_summary owners ends
  pub events : List Event
  pub played : IsPlayOf (map actor_spec_of script.roles) events owners ends
  pub told : text ≡ summary (history (map actor_spec_of script.roles) events)
  pub planned : IsPlayedAsPlanned (map actor_spec_of script.roles) (plans_in script) owners ends

-- what bytes spell for threads: a script with good plans, or the first fault
unfoldable pub spelled_threads : List ℕ → Result Script (ℕ × Wrong)
spelled_threads bytes = spelled_plans MAX_CALLERS MAX_ACTORS bytes

-- the text is to be written of a script for threads: the summary of a run, or the line of its first fault
abbrev pub IsToldOf : Result Script (ℕ × Wrong) → List ℕ → Type 0
IsToldOf (Ok script) text = IsSummary script text
IsToldOf (Err fault) text = text ≡ fault_line fault

-- what is to be written of a script for threads, or why nothing is: a thread is missed only where the plans are good
abbrev pub IsThreadsOutput : Result Output ConsoleFault → Result Script (ℕ × Wrong) → Type 0
IsThreadsOutput (Ok (outputs.Report text)) read = (script : Script) × (read ≡ Ok script)
    × IsSummary script (string_bytes text)
IsThreadsOutput (Ok (outputs.Refusal text)) read = (fault : ℕ × Wrong) × (read ≡ Err fault)
    × (string_bytes text ≡ fault_line fault)
IsThreadsOutput (Err faults.Memory) read = Unit {0}
IsThreadsOutput (Err faults.Thread) read = (script : Script) × (read ≡ Ok script)
IsThreadsOutput (Err other) read = ⊥

-- what a run in threads read and wrote, by its answer
abbrev pub Threaded : Option (List ℕ) → Option (List ℕ) → Option (List ℕ) → Option (List ℕ) →
    Result (Unit {0}) ConsoleFault → Type 0
Threaded had left old new (Ok done) =
    (bytes : List ℕ) × IsWholeInput (MAX_SCRIPT_BYTES + 1) had left bytes
    × (script : Script) × (spelled_threads bytes ≡ Ok script) × (text : List ℕ) × IsSummary script text
    × Appends old new text
Threaded had left old new (Err faults.Script) =
    (bytes : List ℕ) × IsWholeInput (MAX_SCRIPT_BYTES + 1) had left bytes
    × (fault : ℕ × Wrong) × (spelled_threads bytes ≡ Err fault) × Appends old new (fault_line fault)
Threaded had left old new (Err faults.Memory) = Keeps old new
Threaded had left old new (Err faults.Thread) =
    (bytes : List ℕ) × IsWholeInput (MAX_SCRIPT_BYTES + 1) had left bytes × (script : Script)
    × (spelled_threads bytes ≡ Ok script) × Keeps old new
Threaded had left old new (Err faults.Reading) = Keeps old new
Threaded had left old new (Err faults.Writing) =
    (bytes : List ℕ) × IsWholeInput (MAX_SCRIPT_BYTES + 1) had left bytes × (text : List ℕ)
    × IsToldOf (spelled_threads bytes) text × AppendsPrefix old new text
