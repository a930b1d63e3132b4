-- What a run of threads is, once all are joined.
use Rattle.std.specs.Prelude.{◌≡◌, ◌≢◌, ℕ, ◌<◌, ◌==◌, Bool, true, false, List, [], length, map, find, slice_get, Option, Some, None, is_some, Err, All}
use Rattle.act_types.specs.declared.call.Fault.TheVariants.{ActorDied}
use Rattle.act_rules.specs.declared.history.RunItem.{RunItem}
use Rattle.act_rules.specs.declared.history.Submission.{Submission}
use Rattle.act_rules.specs.declared.script.Step.{Step}
use Rattle.act_rules.specs.RunList.{Answer, items_of, state_after, has_terminated, NothingFollowsAnEnd}
use Rattle.act_rules.specs.Submissions.{calls_to, kept_at}
use Rattle.act_rules.specs.Consistent.{Consistent}
use Rattle.act_rules.specs.History.{ActorSpec, opening, opening_of, actors_naming}
use Rattle.act_rules.specs.Plans.{planned, kills_to}
use Rattle.act_owner.specs.Owner.{OwnerView}
use Rattle.act_actor.specs.View.{RetiredView}
use Rattle.act_serve.specs.Served.{EndView, Killed, Starved, end_id, end_log, IfRetired}
use Rattle.act_plans.specs.Runs.{limits_naming, callers_of_casts, actors_of_casts, cast_at, plan_of}

-- ---- what the callers and the actors leave, by number

abbrev pub is_killed : EndView → Bool
is_killed (Killed dead) = true
is_killed end = false

abbrev pub is_starved : EndView → Bool
is_starved (Starved dead) = true
is_starved end = false

abbrev pub owner_of : ℕ → List OwnerView → Option OwnerView
owner_of c owners = find (λ owner. owner.id == c) owners

abbrev pub end_of : ℕ → List EndView → Option EndView
end_of a ends = find (λ end. end_id end == a) ends

abbrev pub calls_of_owner : Option OwnerView → List Submission
calls_of_owner None = []
calls_of_owner (Some owner) = owner.calls

abbrev pub kept_of_owner : Option OwnerView → List (Option Answer)
kept_of_owner None = []
kept_of_owner (Some owner) = owner.kept

abbrev pub log_of_end : Option EndView → List RunItem
log_of_end None = []
log_of_end (Some end) = end_log end

abbrev pub is_killed_end : Option EndView → Bool
is_killed_end None = false
is_killed_end (Some end) = is_killed end

-- the calls of a caller, and the answers that it keeps
abbrev pub calls_in : List OwnerView → ℕ → List Submission
calls_in owners c = calls_of_owner (owner_of c owners)

abbrev pub kept_in : List OwnerView → ℕ → List (Option Answer)
kept_in owners c = kept_of_owner (owner_of c owners)

-- the log of an actor, and whether it was killed
abbrev pub log_in : List EndView → ℕ → List RunItem
log_in ends a = log_of_end (end_of a ends)

abbrev pub killed_in : List EndView → ℕ → Bool
killed_in ends a = is_killed_end (end_of a ends)

-- ---- a joined run

-- a call whose kept answer is a death was run by no actor
abbrev pub CallsThatDiedNeverRan : (ℕ → List (Option Answer)) → (ℕ → List RunItem) → Type 0
CallsThatDiedNeverRan kept logs = (c k : ℕ) → kept_at (kept c) k ≡ Some (Err ActorDied) →
    (a place : ℕ) (item : RunItem) → slice_get (logs a) place ≡ Some item → item.caller ≡ c → item.future ≢ k

-- the actor ran every call of every caller to it, in order, and is in the state after its log
pub record RanAll (casts : List ActorSpec) (owners : List OwnerView) (retired : RetiredView) : Type 0 where
  pub calls : (c : ℕ) → map (λ item. item.future) (items_of c retired.log)
      ≡ map (λ call. call.0) (calls_to retired.id (calls_in owners c))
  pub cast : ActorSpec
  pub at : cast_at retired.id casts ≡ Some cast
  pub state : retired.state ≡ state_after cast.opening retired.log

-- the plans were run with these casts: each caller is left, and each actor, by rising number; each caller was opened
-- with the limits of the casts; each submitted what was planned and all is answered; calls, logs and answers fit one
-- another as in any run of the rules; an actor is dead that ran a `terminate`, after which it ran nothing, and any
-- other only where some plan asks for its kill; one that retired ran all; nobody was refused memory; a call that died
-- never ran
pub record IsJoined (casts : List ActorSpec) (plans : List (ℕ × List Step)) (owners : List OwnerView)
    (ends : List EndView) : Type 0 where
  pub callers : map (λ owner. owner.id) owners ≡ callers_of_casts casts
  pub actors : map end_id ends ≡ actors_of_casts casts
  pub limits : All (λ owner. owner.limits ≡ limits_naming owner.id casts) owners
  pub submitted : (c : ℕ) → calls_in owners c ≡ planned (actors_naming c casts) (plan_of c plans)
  pub answered : (c k : ℕ) → k < length (calls_in owners c) → is_some (kept_at (kept_in owners c) k) ≡ true
  pub consistent : Consistent (λ a. opening_of a (opening casts)) (calls_in owners) (log_in ends) (kept_in owners)
      (killed_in ends)
  pub killed : (a : ℕ) → killed_in ends a ≡ true → has_terminated (log_in ends a) ≡ false →
      (c : ℕ) × (0 < kills_to a (plan_of c plans))
  pub terminated : (a : ℕ) → has_terminated (log_in ends a) ≡ true → killed_in ends a ≡ true
  pub last : (a : ℕ) → NothingFollowsAnEnd (log_in ends a)
  pub retired : All (λ end. IfRetired end (RanAll casts owners)) ends
  pub fed : All (λ end. is_starved end ≡ false) ends
  pub ran : CallsThatDiedNeverRan (kept_in owners) (log_in ends)
