-- How what a world shows grows by what is told: a caller's calls by the futures, and a run list by the runs.
use Rattle.std.specs.Prelude.{◌≡◌, ℕ, ◌==◌, if◌then◌else◌, List, [], ◌∷◌, ◌++◌, map, zip, flat_map, Ok}
use Rattle.std.specs.List.{enumerate_from}
use Rattle.act_rules.specs.declared.event.Event.{Event}
use Rattle.act_rules.specs.declared.event.Event.TheVariants.{Submit, Run}
use Rattle.act_rules.specs.declared.outcome.Did.{Did}
use Rattle.act_rules.specs.declared.outcome.Did.TheVariants.{Future, Ran}
use Rattle.act_rules.specs.declared.history.RunItem.{RunItem}
use Rattle.act_rules.specs.declared.history.Submission.{Submission}
use Rattle.act_rules.specs.Consistent.{IsPrefix}
use Rattle.act_rules.specs.Rules.{Outcome}
use Rattle.act_world.specs.View.{WorldView}
use Rattle.act_world.specs.Headline.{world_calls, world_log}

-- a caller's calls, each under what is told of it: call k under the caller's future k
abbrev pub calls_told : ℕ → List Submission → List (Did × Submission)
calls_told c calls = map (λ call. (Future c call.0, call.1)) (enumerate_from 0 calls)

-- a run list's places, each with the caller whose call ran there
abbrev pub runs_told : List RunItem → List (ℕ × ℕ)
runs_told items = map (λ run. (run.0, run.1.caller)) (enumerate_from 0 items)

-- what an event adds to a caller's calls: a submission that is taken, under what is told of it
abbrev pub new_calls : ℕ → Event → Outcome → List (Did × Submission)
new_calls c (Submit d a method args) (Ok did) =
    if d == c then (did, record { actor = a; method = method; args = args }) ∷ [] else []
new_calls c event told = []

-- what an event adds to an actor's run list: a run that is told, at the place that is told
abbrev pub new_runs : ℕ → Event → Outcome → List (ℕ × ℕ)
new_runs a (Run b c) (Ok (Ran place j)) = if b == a then (place, c) ∷ [] else []
new_runs a event told = []

-- what all events add, of which something is told, one after another
abbrev pub all_new : {A : Type 0} → (Event → Outcome → List A) → List Event → List Outcome → List A
all_new new events told = flat_map (λ done. new done.0 done.1) (zip events told)

-- each caller's calls and each actor's run list are those of before, and then what is told
pub record ShowsWhatIsTold (events : List Event) (told : List Outcome) (old new : WorldView) : Type 0 where
  pub submitted : (c : ℕ) →
      calls_told c (world_calls new c) ≡ calls_told c (world_calls old c) ++ all_new (new_calls c) events told
  pub ran : (a : ℕ) → runs_told (world_log new a) ≡ runs_told (world_log old a) ++ all_new (new_runs a) events told
  pub stays : (a : ℕ) → IsPrefix (world_log old a) (world_log new a)

-- nothing was submitted yet, and nothing ran
pub record ShowsNothing (world : WorldView) : Type 0 where
  pub calls : (c : ℕ) → world_calls world c ≡ []
  pub runs : (a : ℕ) → world_log world a ≡ []
