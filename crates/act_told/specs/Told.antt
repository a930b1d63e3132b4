-- The history that callers and actors leave, by its order alone.
use Rattle.std.specs.Prelude.{ℕ, ◌+◌, ◌==◌, if◌then◌else◌, List, [], ◌∷◌, ◌++◌, length, map, filter, Option, Some, None, is_some, Ok, Err}
use Rattle.std.specs.List.{position_or_len}
use Rattle.act_types.specs.declared.call.Arg.{Arg}
use Rattle.act_rules.specs.RunList.{Answer}
use Rattle.act_rules.specs.declared.history.RunItem.{RunItem}
use Rattle.act_rules.specs.declared.history.Submission.{Submission}
use Rattle.act_rules.specs.Submissions.{kept_at}
use Rattle.act_handles.specs.Handles.{copies_in}
use Rattle.act_owner.specs.Owner.{OwnerView, is_death, futures_of_args}
use Rattle.act_serve.specs.Served.{EndView, Killed, Retired, Starved, end_id, end_log}
use Rattle.act_orders.specs.declared.told.Actor.{Actor as ActorTold}
use Rattle.act_orders.specs.declared.told.Call.{Call}
use Rattle.act_orders.specs.declared.told.End.{End}
use Rattle.act_orders.specs.declared.told.End.TheVariants as ends
use Rattle.act_orders.specs.declared.told.Outcome.{Outcome}
use Rattle.act_orders.specs.declared.told.Outcome.TheVariants.{Answered, Failed, Died, Open}
use Rattle.act_orders.specs.declared.told.Run.{Run}
use Rattle.act_orders.specs.declared.told.Told.{Told}

-- ---- places

-- the place of a caller's first call among the calls of all callers, behind the first `before` ones; past the last
-- call where it is none of these callers
abbrev pub start_of : ℕ → ℕ → List OwnerView → ℕ
start_of before c [] = before
start_of before c (owner ∷ owners) =
    if owner.id == c then before else start_of (before + length owner.calls) c owners

-- the place of an actor; past the last one where it is none of these
abbrev pub actor_place : List EndView → ℕ → ℕ
actor_place ends a = position_or_len (λ end. end_id end == a) ends

-- ---- calls

-- what an answer is for the caller that keeps it
abbrev pub outcome_by : Answer → Outcome
outcome_by (Ok value) = Answered
outcome_by (Err fault) = if is_death (Err fault) then Died else Failed

abbrev pub outcome_of : Option Answer → Outcome
outcome_of None = Open
outcome_of (Some answer) = outcome_by answer

-- the places of the calls whose answers are among the arguments
abbrev pub takes_told : ℕ → List Arg → List ℕ
takes_told start args = map (λ j. start + j) (futures_of_args args)

-- call k of a caller whose calls begin at a place
abbrev pub call_told : List EndView → OwnerView → ℕ → ℕ → Submission → Call
call_told ends owner start k call = record {
  caller = owner.id;
  actor = actor_place ends call.actor;
  waits = [];
  takes = takes_told start call.args;
  outcome = outcome_of (kept_at owner.kept k);
}

-- the calls of a caller from call k on
abbrev pub calls_from : List EndView → OwnerView → ℕ → ℕ → List Submission → List Call
calls_from ends owner start k [] = []
calls_from ends owner start k (call ∷ calls) =
    call_told ends owner start k call ∷ calls_from ends owner start (k + 1) calls

-- the calls of callers, behind so many calls
abbrev pub calls_told : List EndView → ℕ → List OwnerView → List Call
calls_told ends before [] = []
calls_told ends before (owner ∷ owners) =
    calls_from ends owner before 0 owner.calls ++ calls_told ends (before + length owner.calls) owners

-- ---- runs

-- a call that the actor at a place ran
abbrev pub run_told : List OwnerView → ℕ → RunItem → Run
run_told owners a item = record { actor = a; call = start_of 0 item.caller owners + item.future }

-- the run lists of actors, the first of which is at a place
abbrev pub runs_told : List OwnerView → ℕ → List EndView → List Run
runs_told owners a [] = []
runs_told owners a (end ∷ ends) = map (run_told owners a) (end_log end) ++ runs_told owners (a + 1) ends

-- ---- actors

-- the callers that have a handle of an actor, also one that they let go
abbrev pub callers_told : List OwnerView → ℕ → List ℕ
callers_told owners a = map (λ owner. owner.id) (filter (λ owner. is_some (copies_in a owner.handles)) owners)

abbrev pub end_told : EndView → End
end_told (Killed dead) = ends.Dead
end_told (Retired retired) = ends.Retired
end_told (Starved dead) = ends.Dead

abbrev pub actor_told : List OwnerView → EndView → ActorTold
actor_told owners end = record { callers = callers_told owners (end_id end); end = end_told end }

-- ---- all of it

-- calls by rising callers, run lists, and actors; for which answers callers waited isn't told
abbrev pub told_by : List OwnerView → List EndView → Told
told_by owners ends = record {
  calls = calls_told ends 0 owners;
  runs = runs_told owners 0 ends;
  actors = map (actor_told owners) ends;
  waits = [];
}
