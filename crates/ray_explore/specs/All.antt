-- All ends of a script's plans.
use Rattle.std.specs.Prelude.{◌≡◌, ℕ, false, List, map, Option, Ok, Contains}
use Rattle.std.specs.Io.KnownBytes.{Appends}
use Rattle.act_rules.specs.declared.script.Mode.TheVariants.{Threads}
use Rattle.act_rules.specs.declared.script.Step.{Step}
use Rattle.act_rules.specs.Grammar.{Script, spelled}
use Rattle.act_rules.specs.History.{ActorSpec}
use Rattle.act_rules.specs.Report.{summary}
use Rattle.act_rules.specs.Scripts.{actor_spec_of}
use Rattle.act_early.specs.Plays.{At, IsPlay}
use Rattle.act_early.specs.Early.{IsEnded, LosesOnly}
use Rattle.act_plans.specs.Runs.{plan_of}
use Rattle.act_console.specs.Threads.{plans_in}
use Rattle.act_ends.specs.Frontier.{Extends}
use Rattle.ray_explore.specs.Told.{TellsEnds}

-- each end of a play of the plans that loses no reply, as threads lose none, has its summary among these texts
abbrev pub HaveAllEnds : List ActorSpec → (ℕ → List Step) → List (List ℕ) → Type 0
HaveAllEnds casts plans ends = (late : At) → IsPlay casts plans late → IsEnded plans late →
    LosesOnly (λ a. false) late.history → Contains ends (summary late.history)

-- ends were written, all of them
pub record TellsEach (casts : List ActorSpec) (plans : List (ℕ × List Step)) (script : List ℕ)
    (old new : Option (List ℕ)) : Type 0 where
  pub ends : List (List ℕ)
  pub told : TellsEnds script ends old new
  pub all : HaveAllEnds casts (λ c. plan_of c plans) ends

-- the same, and then a last line
pub record TellsEachAndCloses (casts : List ActorSpec) (plans : List (ℕ × List Step)) (script : List ℕ)
    (old new : Option (List ℕ)) : Type 0 where
  pub mid : Option (List ℕ)
  pub each : TellsEach casts plans script old mid
  pub last : List ℕ
  pub closing : Appends mid new last

-- all ends of the script that the bytes spell were written, each with a play of the script, or of one that has more
-- lines at its end; and then a last line
pub record TellsAll (bytes : List ℕ) (old new : Option (List ℕ)) : Type 0 where
  pub script : Script
  pub read : spelled Threads bytes ≡ Ok script
  pub closed : List ℕ
  pub extends : Extends bytes closed
  pub each : TellsEachAndCloses (map actor_spec_of script.roles) (plans_in script) closed old new
