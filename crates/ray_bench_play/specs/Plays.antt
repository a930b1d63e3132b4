-- The calls of a measured play, the events of each, and what a world stands after.
use Rattle.std.specs.Prelude.{ℕ, ◌+◌, ◌*◌, ◌/◌, ◌%◌, ◌==◌, ◌&&◌, Bool, false, List, [], ◌∷◌, ◌++◌, flat_map, find, length, map, is_some}
use Rattle.std.specs.List.{list_all}
use Rattle.std.specs.Option.{option_map_or}
use Rattle.act_types.specs.declared.call.Arg.{Arg}
use Rattle.act_types.specs.declared.call.Method.TheVariants.{Add}
use Rattle.act_rules.specs.History.{ActorSpec}
use Rattle.act_rules.specs.declared.event.Event.{Event}
use Rattle.act_rules.specs.declared.event.Event.TheVariants as event
use Rattle.act_world.specs.IsReachedBy.{IsReachedBy}
use Rattle.act_world.specs.View.{WorldView, NetworkView, is_owner}
use Rattle.ray_bench_work.specs.Work.{actor_at, one_more, places}
use Rattle.ray_bench_work.specs.declared.work.Style.{Style}
use Rattle.ray_bench_work.specs.declared.work.Style.TheVariants.{Wait, Future}
use Rattle.ray_bench_work.specs.declared.work.Work.{Work}
use Rattle.ray_bench_play.specs.declared.calls.Call.{Call}
use Rattle.ray_bench_play.specs.declared.calls.Leg.{Leg}
use Rattle.ray_bench_play.specs.declared.calls.Leg.TheVariants.{Send, Deliver, Run, Collect}

-- the caller of a call by its number, where callers take turns, and the call's place among that caller's
abbrev pub turn_at : Work → ℕ → ℕ
turn_at work number = number % work.callers + 1

abbrev pub place_at : Work → ℕ → ℕ
place_at work number = number / work.callers

-- the call of a number
abbrev pub call_at : Work → ℕ → Call
call_at work number = record {
  number = number;
  caller = turn_at work number;
  actor = actor_at work (turn_at work number) (place_at work number);
  future = place_at work number;
}

-- what submits a call, with these arguments
abbrev pub submission_of : Call → List Arg → Event
submission_of call args = event.Submit call.caller call.actor Add args

-- what takes a call one leg further
abbrev pub event_of : Leg → Call → Event
event_of Send call = event.Send call.caller call.future
event_of Deliver call = event.Deliver call.number
event_of Run call = event.Run call.actor call.caller
event_of Collect call = event.Collect call.number

-- all that happens to a call
abbrev pub way_of : Call → List Event
way_of call = submission_of call one_more ∷ event_of Send call ∷ event_of Deliver call ∷ event_of Run call ∷ event_of Collect call ∷ []

-- the submissions of so many calls, a leg of each, and all the way of each
abbrev pub submissions : Work → ℕ → List Event
submissions work calls = map (λ number. submission_of (call_at work number) one_more) (places calls)

abbrev pub legs : Leg → Work → ℕ → List Event
legs leg work calls = map (λ number. event_of leg (call_at work number)) (places calls)

abbrev pub ways : Work → ℕ → List Event
ways work calls = flat_map (λ number. way_of (call_at work number)) (places calls)

abbrev pub all_legs : Work → ℕ → List Event
all_legs work calls = submissions work calls ++ (legs Send work calls ++ (legs Deliver work calls ++ (legs Run work calls ++ legs Collect work calls)))

-- the events of so many calls: one call after another where answers are awaited, else one leg after another
abbrev pub events_in : Style → Work → ℕ → List Event
events_in Wait work calls = ways work calls
events_in Future work calls = all_legs work calls

-- the events of the whole work
abbrev pub bench_events : Work → List Event
bench_events work = events_in work.style work (work.callers * work.calls)

-- whatever events the world stood after: it stands after these, too
abbrev pub StandsAfter : List Event → WorldView → WorldView → Type 0
StandsAfter events old new = (casts : List ActorSpec) (before : List Event) →
    IsReachedBy casts before old → IsReachedBy casts (before ++ events) new

-- whether a caller made so many calls, and each was answered
abbrev pub is_served_in : NetworkView → ℕ → ℕ → Bool
is_served_in network calls c = option_map_or (λ owner. (length owner.calls == calls) && list_all is_some owner.kept) (find (is_owner c) network.owners) false
