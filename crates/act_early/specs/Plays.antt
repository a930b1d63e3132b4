-- A play of plans: each caller takes its plan's steps in order, and all else stands where it likes.
use Rattle.std.specs.Prelude.{◌≡◌, ℕ, Bool, true, false, List, [], ◌∷◌, ◌++◌, slice_get, Option, Some, None, is_some, IsOk, All}
use Rattle.act_rules.specs.declared.event.Event.{Event}
use Rattle.act_rules.specs.declared.event.Event.TheVariants as event
use Rattle.act_rules.specs.declared.script.Step.{Step}
use Rattle.act_rules.specs.declared.script.Step.TheVariants.{Submit, Copy, Release, Kill, Await}
use Rattle.act_rules.specs.History.{ActorSpec, History, opening, cast_of, names, kept_of, is_dead}
use Rattle.act_rules.specs.Laws.{history}
use Rattle.act_rules.specs.Plans.{occurrences}
use Rattle.act_rules.specs.Rules.{refusal_of, add_event, outcomes}
use Rattle.act_rules.specs.Submissions.{kept_at}

-- where a play is: what its events left, and which caller went on in its plan, step by step
pub record At : Type 0 where
  pub history : History
  pub stepped : List ℕ

abbrev pub opened : List ActorSpec → At
opened casts = record { history = opening casts; stepped = [] }

-- how many steps of its plan the caller is done with
abbrev pub steps_of : ℕ → At → ℕ
steps_of c at = occurrences c at.stepped

-- the caller's next step, if its plan isn't done
abbrev pub next_step : (ℕ → List Step) → ℕ → At → Option Step
next_step plans c at = slice_get (plans c) (steps_of c at)

-- ---- a step

-- what a caller's step adds: an await adds nothing
abbrev pub after_step : ℕ → Step → History → History
after_step c (Submit a method args) h = add_event h (event.Submit c a method args)
after_step c (Copy a) h = add_event h (event.Copy c a)
after_step c (Release a) h = add_event h (event.Release c a)
after_step c (Kill a) h = add_event h (event.AskKill c a)
after_step c (Await k) h = h

-- the caller may take the step: the rules accept its event; an await waits until its answer is kept
abbrev pub MayTake : ℕ → Step → History → Type 0
MayTake c (Submit a method args) h = refusal_of h (event.Submit c a method args) ≡ None
MayTake c (Copy a) h = refusal_of h (event.Copy c a) ≡ None
MayTake c (Release a) h = refusal_of h (event.Release c a) ≡ None
MayTake c (Kill a) h = refusal_of h (event.AskKill c a) ≡ None
MayTake c (Await k) h = is_some (kept_at (kept_of c h) k) ≡ true

-- the caller took the step
abbrev pub taken : ℕ → Step → At → At
taken c step at = record { history = after_step c step at.history; stepped = at.stepped ++ c ∷ [] }

-- the caller left the step out
abbrev pub skipped : ℕ → At → At
skipped c at = record { history = at.history; stepped = at.stepped ++ c ∷ [] }

-- ---- what is no step

abbrev pub with_event : Event → At → At
with_event other at = record { history = add_event at.history other; stepped = at.stepped }

-- whether an event is no caller's step
abbrev pub is_free : Event → Bool
is_free (event.Submit c a method args) = false
is_free (event.Copy c a) = false
is_free (event.Release c a) = false
is_free (event.AskKill c a) = false
is_free other = true

-- ---- all of it

-- a play of the plans leads there
pub data IsPlay (casts : List ActorSpec) (plans : ℕ → List Step) : At → Type 0 where
  Opens : IsPlay casts plans (opened casts)
  -- a caller takes the next step of its plan
  Takes : (at : At) (c : ℕ) (step : Step) → IsPlay casts plans at → next_step plans c at ≡ Some step →
      MayTake c step at.history → IsPlay casts plans (taken c step at)
  -- or leaves it out, where it is the kill of an actor of its own that is dead
  Skips : (at : At) (c a : ℕ) → IsPlay casts plans at → next_step plans c at ≡ Some (Kill a) →
      names c (cast_of a at.history) ≡ true → is_dead a at.history ≡ true → IsPlay casts plans (skipped c at)
  -- a caller whose plan is done lets a handle go
  Closes : (at : At) (c a : ℕ) → IsPlay casts plans at → next_step plans c at ≡ None →
      refusal_of at.history (event.Release c a) ≡ None → IsPlay casts plans (with_event (event.Release c a) at)
  -- any other event happens that the rules accept
  Happens : (at : At) (other : Event) → IsPlay casts plans at → is_free other ≡ true →
      refusal_of at.history other ≡ None → IsPlay casts plans (with_event other at)

-- where a play is, a list of events leads that the rules accept, each of them
abbrev pub PlaysAreAccepted : Type 0
PlaysAreAccepted = (casts : List ActorSpec) (plans : ℕ → List Step) (at : At) → IsPlay casts plans at →
    (events : List Event) × All IsOk (outcomes (opening casts) events) × (at.history ≡ history casts events)
