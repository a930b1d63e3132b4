-- What a caller's plan submits, its first step that would be refused, and its events in a world.
use Rattle.std.specs.Prelude.{ℕ, ◌+◌, ◌-◌, ◌==◌, Bool, true, false, if◌then◌else◌, nat_lt, List, [], ◌∷◌, ◌++◌, length, filter, flat_map, Option, Some, None}
use Rattle.std.specs.Prelude.{is_some}
use Rattle.std.specs.List.{list_any}
use Rattle.act_rules.specs.declared.event.Event.{Event}
use Rattle.act_rules.specs.declared.event.Event.TheVariants as event
use Rattle.act_rules.specs.declared.script.Step.{Step}
use Rattle.act_rules.specs.declared.script.Step.TheVariants.{Submit, Copy, Release, Kill, Await}
use Rattle.act_rules.specs.declared.history.Submission.{Submission}
use Rattle.act_rules.specs.declared.outcome.SubmitRefusal.TheVariants.{PendingLimit}
use Rattle.act_rules.specs.declared.outcome.WorldRefusal.{WorldRefusal}
use Rattle.act_rules.specs.declared.outcome.WorldRefusal.TheVariants.{Submit as SubmitRefused}
use Rattle.act_rules.specs.Submissions.{handle_refusal, copy_refusal, submit_refusal}
use Rattle.act_rules.specs.History.{History}
use Rattle.act_rules.specs.Rules.{refusal_of, after}

-- what a caller did so far: its submissions, and the actors whose handles it copied and released
pub record Progress : Type 0 where
  pub submitted : List Submission
  pub copied : List ℕ
  pub released : List ℕ

abbrev pub nothing_done : Progress
nothing_done = record { submitted = []; copied = []; released = [] }

abbrev pub occurrences : ℕ → List ℕ → ℕ
occurrences a actors = length (filter (λ b. b == a) actors)

-- the copies of a handle that the caller holds, among those of its actors
abbrev pub holds : ℕ → List ℕ → Progress → Option ℕ
holds a actors p = if list_any (λ b. b == a) actors then Some ((1 + occurrences a p.copied) - occurrences a p.released)
    else None

-- whether a step is refused
abbrev pub is_refused : List ℕ → Progress → Step → Bool
is_refused actors p (Submit a method args) = is_some (submit_refusal (holds a actors p) (length p.submitted) args)
is_refused actors p (Copy a) = is_some (copy_refusal (holds a actors p))
is_refused actors p (Release a) = is_some (handle_refusal (holds a actors p))
is_refused actors p (Kill a) = is_some (handle_refusal (holds a actors p))
is_refused actors p (Await k) = if nat_lt k (length p.submitted) then false else true

-- what a step adds
abbrev pub do_step : Progress → Step → Progress
do_step p (Submit a method args) = record p {
  submitted = p.submitted
      ++ record { actor = a; method = method; args = args } ∷ [];
}
do_step p (Copy a) = record p { copied = p.copied ++ a ∷ [] }
do_step p (Release a) = record p { released = p.released ++ a ∷ [] }
do_step p step = p

-- what a plan leaves: a refused step adds nothing
abbrev pub done_by : List ℕ → Progress → List Step → Progress
done_by actors p [] = p
done_by actors p (step ∷ steps) = done_by actors (if is_refused actors p step then p else do_step p step) steps

-- the submissions of the plan of a caller that these actors know
abbrev pub planned : List ℕ → List Step → List Submission
planned actors plan = (done_by actors nothing_done plan).submitted

-- the place of the first step that is refused, from n
abbrev pub first_bad_from : ℕ → List ℕ → Progress → List Step → Option ℕ
first_bad_from n actors p [] = None
first_bad_from n actors p (step ∷ steps) = if is_refused actors p step then Some n
    else first_bad_from (n + 1) actors (do_step p step) steps

abbrev pub first_bad : List ℕ → List Step → Option ℕ
first_bad actors plan = first_bad_from 0 actors nothing_done plan

-- whether a step asks for the actor's kill
abbrev pub is_kill_of : ℕ → Step → Bool
is_kill_of a (Kill b) = b == a
is_kill_of a step = false

-- how many steps ask for the actor's kill
abbrev pub kills_to : ℕ → List Step → ℕ
kills_to a plan = length (filter (is_kill_of a) plan)

-- ---- a plan in a world

-- a step as an event of the caller, where it submits, copies or releases
abbrev pub events_for : ℕ → Step → List Event
events_for c (Submit a method args) = event.Submit c a method args ∷ []
events_for c (Copy a) = event.Copy c a ∷ []
events_for c (Release a) = event.Release c a ∷ []
events_for c step = []

-- the events of a caller's plan
abbrev pub events_of : ℕ → List Step → List Event
events_of c plan = flat_map (events_for c) plan

-- whether a refusal is that of a limit
abbrev pub is_limit : Option WorldRefusal → Bool
is_limit (Some (SubmitRefused PendingLimit)) = true
is_limit refusal = false

-- whether an event is a submission that only its actor's limit refuses
abbrev pub is_held_back : History → Event → Bool
is_held_back h event = is_limit (refusal_of h event)

-- these events, without the submissions that a limit held back
abbrev pub let_through : History → List Event → List Event
let_through h [] = []
let_through h (event ∷ events) = if is_held_back h event then let_through (after h event) events
    else event ∷ let_through (after h event) events

-- whether an event is a submission, a copy or a release by the caller
abbrev pub is_planned_by : ℕ → Event → Bool
is_planned_by c (event.Submit d a method args) = d == c
is_planned_by c (event.Copy d a) = d == c
is_planned_by c (event.Release d a) = d == c
is_planned_by c other = false
