-- What is told of a play's end, when events end so, and when a play did nothing else so far.
use Rattle.std.specs.Prelude.{◌≡◌, ◌<◌, ◌==◌, ◌⊎◌, ℕ, Bool, true, false, List, [], ◌++◌, map, filter, filter_map, length, take, Option, Some, None, IsOk, All}
use Rattle.std.specs.List.{list_any}
use Rattle.act_rules.specs.declared.event.Event.{Event}
use Rattle.act_rules.specs.declared.history.RunItem.{RunItem}
use Rattle.act_rules.specs.declared.history.Submission.{Submission}
use Rattle.act_rules.specs.declared.script.Step.{Step}
use Rattle.act_rules.specs.declared.script.Step.TheVariants.{Submit, Copy, Release}
use Rattle.act_rules.specs.Consistent.{IsPrefix}
use Rattle.act_rules.specs.History.{ActorSpec, History, opening, contains, count_pairs, calls_of, copies_of, kept_of, runs_of, is_dead, is_retired}
use Rattle.act_rules.specs.Laws.{history}
use Rattle.act_rules.specs.Plans.{is_kill_of}
use Rattle.act_rules.specs.RunList.{Answer}
use Rattle.act_rules.specs.Rules.{outcomes}
use Rattle.act_rules.specs.Submissions.{kept_at}
use Rattle.act_early.specs.Lists.{DoesStepsBy}

-- what is told of an end: each caller's calls, and the answers that it keeps; each actor's run list, and how it ended
pub record Told : Type 0 where
  pub calls : ℕ → List Submission
  pub kept : ℕ → List (Option Answer)
  pub runs : ℕ → List RunItem
  pub dead : ℕ → Bool
  pub retired : ℕ → Bool

-- a history leaves what is told, but for who retired
pub record Leaves (told : Told) (h : History) : Type 0 where
  pub calls : (c : ℕ) → calls_of c h ≡ told.calls c
  pub kept : (c : ℕ) → kept_of c h ≡ told.kept c
  pub runs : (a : ℕ) → runs_of a h ≡ told.runs a
  pub dead : (a : ℕ) → is_dead a h ≡ told.dead a

-- accepted events leave what is told; each caller that is bound to steps does these in their order, and then lets some
-- handles go, and any other does what it likes
pub record EndsAsTold (casts : List ActorSpec) (bound : ℕ → Option (List Step)) (told : Told)
    (events : List Event) : Type 0 where
  pub accepted : All IsOk (outcomes (opening casts) events)
  pub leaves : Leaves told (history casts events)
  pub retired : (a : ℕ) → is_retired a (history casts events) ≡ told.retired a
  pub does : (c : ℕ) (steps : List Step) → bound c ≡ Some steps →
      (closing : List ℕ) × DoesStepsBy casts c (steps ++ map (λ a. Release a) closing) [] events

-- what a history leaves, as it is told
abbrev pub told_of : History → Told
told_of h = record {
  calls = λ c. calls_of c h;
  kept = λ c. kept_of c h;
  runs = λ a. runs_of a h;
  dead = λ a. is_dead a h;
  retired = λ a. is_retired a h;
}

-- any accepted events end as what they leave is told, where no caller is bound
abbrev pub EachEndIsTold : Type 0
EachEndIsTold = (casts : List ActorSpec) (events : List Event) → All IsOk (outcomes (opening casts) events) →
    EndsAsTold casts (λ c. None) (told_of (history casts events)) events

-- ---- a play so far

-- the call that a step submits
abbrev pub submission_of : Step → Option Submission
submission_of (Submit a method args) = Some (record { actor = a; method = method; args = args })
submission_of step = None

-- whether a step copies the actor's handle
abbrev pub copies : ℕ → Step → Bool
copies a (Copy b) = b == a
copies a step = false

-- whether a step releases it
abbrev pub releases : ℕ → Step → Bool
releases a (Release b) = b == a
releases a step = false

-- the caller did the first of these steps, so many; once it did them all it may have let more handles go
pub record DidFirst (c count : ℕ) (steps : List Step) (h : History) : Type 0 where
  pub calls : calls_of c h ≡ filter_map submission_of (take count steps)
  pub copied : (a : ℕ) → count_pairs c a h.copied ≡ length (filter (copies a) (take count steps))
  pub released : (a : ℕ) → count < length steps →
      count_pairs c a h.released ≡ length (filter (releases a) (take count steps))
  pub asked : (a : ℕ) → list_any (is_kill_of a) (take count steps) ≡ true →
      (contains a h.asked ≡ true) ⊎ (is_dead a h ≡ true)

-- a play did only what is told, and no actor retired yet; done says how many of its steps a bound caller did
pub record IsWalk (bound : ℕ → Option (List Step)) (told : Told) (done : ℕ → ℕ) (h : History) : Type 0 where
  -- calls and run lists are the first of those told
  pub calls : (c : ℕ) → IsPrefix (calls_of c h) (told.calls c)
  pub runs : (a : ℕ) → IsPrefix (runs_of a h) (told.runs a)
  -- an answer that is kept is the one that is told
  pub kept : (c k : ℕ) (answer : Answer) → kept_at (kept_of c h) k ≡ Some answer →
      kept_at (told.kept c) k ≡ Some answer
  -- an actor that took a kill is told dead, and ran its run list to the end
  pub dead : (a : ℕ) → contains a h.killed ≡ true → told.dead a ≡ true
  pub last : (a : ℕ) → contains a h.killed ≡ true → runs_of a h ≡ told.runs a
  -- a bound caller did the first of its steps
  pub steps : (c : ℕ) (steps : List Step) → bound c ≡ Some steps → DidFirst c (done c) steps h
  -- any other let no handle go before it made its calls, and before the kill was asked of an actor that is told dead
  pub holds : (c a : ℕ) → bound c ≡ None → copies_of c a h ≡ Some 0 → calls_of c h ≡ told.calls c
  pub asks : (c a : ℕ) → bound c ≡ None → copies_of c a h ≡ Some 0 → told.dead a ≡ true → contains a h.asked ≡ true
  pub live : h.retired ≡ []
