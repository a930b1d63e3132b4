-- What contracts say of one caller.
use Rattle.std.specs.Prelude.{◌≡◌, ℕ, ◌≤◌, ◌==◌, Bool, true, false, not, ◌&&◌, if◌then◌else◌, List, [], ◌∷◌, ◌++◌, length, map, zip, replicate, filter}
use Rattle.std.specs.Prelude.{filter_map, find, count_by, slice_get, slice_set, Option, Some, None, is_some, option_map, option_and_then, unwrap_or, Result}
use Rattle.std.specs.Prelude.{Err}
use Rattle.std.specs.Option.{option_or}
use Rattle.std.specs.List.{list_all, range_with_len}
use Rattle.act_types.specs.declared.limits.TheConstants.{MAX_CALLS}
use Rattle.act_types.specs.declared.call.Fault.TheVariants.{ActorDied}
use Rattle.act_types.specs.declared.call.Method.{Method}
use Rattle.act_types.specs.declared.call.Arg.{Arg}
use Rattle.act_types.specs.declared.call.Arg.TheVariants.{Plain, Fut}
use Rattle.act_types.specs.declared.call.Packet.{Packet}
use Rattle.act_types.specs.declared.call.Reply.{Reply}
use Rattle.act_types.specs.declared.call.ReleaseNote.{ReleaseNote}
use Rattle.act_types.specs.declared.call.KillNote.{KillNote}
use Rattle.act_types.specs.declared.call.Notice.{Notice}
use Rattle.act_types.specs.declared.call.Notice.TheVariants.{Answered, Death}
use Rattle.act_rules.specs.declared.history.Submission.{Submission}
use Rattle.act_rules.specs.declared.outcome.HandleRefusal.{HandleRefusal}
use Rattle.act_rules.specs.declared.outcome.SubmitRefusal.{SubmitRefusal}
use Rattle.act_rules.specs.declared.outcome.SendRefusal.{SendRefusal}
use Rattle.act_rules.specs.RunList.{Answer}
use Rattle.act_rules.specs.Submissions.{number_of, kept_at, settle, is_known, copies_held, handle_refusal, submit_refusal, limit_refusal, send_refusal}
use Rattle.act_handles.specs.declared.handles.Handle.{Handle}
use Rattle.act_handles.specs.Handles.{copies_in, given_in, given_of_all, with_number, or_else, new_handle as opened_handle}
use Rattle.act_replies.specs.declared.table.Row.{Row}
use Rattle.act_resolver.specs.Resolver.{Entered}
use Rattle.act_owner.specs.declared.owner.Call.{Call}
use Rattle.act_owner.specs.declared.owner.Collected.{Collected}
use Rattle.act_owner.specs.declared.owner.Collected.TheVariants.{First, Late, Stray, Died}

-- one caller; its calls, what was sent and the answers kept stand in the order of the futures
pub record OwnerView : Type 0 where
  pub id : ℕ
  pub handles : List Handle
  pub calls : List Submission
  pub sent : List Bool
  pub kept : List (Option Answer)
  -- whether each actor, by its number, is known to be dead
  pub dead : List Bool
  -- actors with their limits, as they were given at the opening
  pub limits : List (ℕ × Option ℕ)

-- a caller of these actors that submitted nothing yet, with these limits
abbrev pub opened_under : List (ℕ × Option ℕ) → ℕ → List ℕ → OwnerView
opened_under limits id actors = record {
  id = id;
  handles = map opened_handle actors;
  calls = [];
  sent = [];
  kept = [];
  dead = replicate 9 false;
  limits = limits;
}

-- the same without limits
abbrev pub open_owner : ℕ → List ℕ → OwnerView
open_owner id actors = opened_under [] id actors

-- the same of actors that are given with their limits
abbrev pub opened_with : ℕ → List (ℕ × Option ℕ) → OwnerView
opened_with id limits = opened_under limits id (map (λ limit. limit.0) limits)

-- how many calls of an actor may have no answer, where the caller was opened with a limit of it
abbrev pub owner_limit : OwnerView → ℕ → Option ℕ
owner_limit owner a = option_and_then (λ limit. limit.1) (find (λ limit. limit.0 == a) owner.limits)

abbrev pub with_handles : OwnerView → List Handle → OwnerView
with_handles owner handles = record owner { handles = handles }

-- what the release of a handle tells: after the last copy, the number of calls to the actor
abbrev pub release_note : OwnerView → ℕ → ReleaseNote
release_note owner a = record { caller = owner.id; actor = a; after = given_in a owner.handles }

abbrev pub release_told : OwnerView → ℕ → Result (Option ReleaseNote) HandleRefusal
release_told owner a =
    or_else (handle_refusal (copies_in a owner.handles))
    (if copies_held (copies_in a owner.handles) == 1 then Some (release_note owner a) else None)

-- what the asking of a kill tells
abbrev pub kill_told : OwnerView → ℕ → Result KillNote HandleRefusal
kill_told owner a = or_else (handle_refusal (copies_in a owner.handles)) (record { caller = owner.id; actor = a })

-- whether call k was submitted and sent
abbrev pub is_sent : OwnerView → ℕ → Bool
is_sent owner k = unwrap_or (slice_get owner.sent k) false

-- whether the actor is known to be dead
abbrev pub is_known_dead : OwnerView → ℕ → Bool
is_known_dead owner a = unwrap_or (slice_get owner.dead a) false

-- the answer of a new call, which it has where its actor is dead
abbrev pub answer_of_new_call : Bool → Option Answer
answer_of_new_call is_dead = if is_dead then Some (Err ActorDied) else None

-- the caller after a call is submitted
abbrev pub with_submission : OwnerView → ℕ → Method → List Arg → OwnerView
with_submission owner a method args = record owner {
  handles = with_number a owner.handles;
  calls = owner.calls ++ record { actor = a; method = method; args = args } ∷ [];
  sent = owner.sent ++ false ∷ [];
  kept = owner.kept ++ answer_of_new_call (is_known_dead owner a) ∷ [];
}

-- a call with its number
abbrev pub numbered_call : List Submission → ℕ → Submission → Call
numbered_call calls k call = record {
  actor = call.actor;
  number = number_of call.actor k calls;
  method = call.method;
  args = call.args;
}

-- call k
abbrev pub call_at : List Submission → ℕ → Option Call
call_at calls k = option_map (numbered_call calls k) (slice_get calls k)

-- the actor that call k goes to, and its number among the calls to that actor
abbrev pub address_at : List Submission → ℕ → Option (ℕ × ℕ)
address_at calls k = option_map (λ call. (call.actor, call.number)) (call_at calls k)

-- why call k is not sent, memory apart
abbrev pub sending_refusal : OwnerView → ℕ → Option SendRefusal
sending_refusal owner k = send_refusal owner.kept k (is_sent owner k) (slice_get owner.calls k)

-- what is sent for a call: its arguments are settled by the answers kept
abbrev pub packet_for : OwnerView → ℕ → Submission → Packet
packet_for owner k call = record {
  caller = owner.id;
  actor = call.actor;
  number = number_of call.actor k owner.calls;
  future = k;
  method = call.method;
  args = map (settle owner.kept) call.args;
}

-- what is sent for call k
abbrev pub packet_at : OwnerView → ℕ → Option Packet
packet_at owner k = option_map (packet_for owner k) (slice_get owner.calls k)

abbrev pub with_sent : OwnerView → ℕ → OwnerView
with_sent owner k = record owner { sent = slice_set owner.sent k true }

-- whether all future arguments of the call have an answer
abbrev pub is_known_call : OwnerView → Option Submission → Bool
is_known_call owner None = false
is_known_call owner (Some call) = list_all (is_known owner.kept) call.args

-- whether call k may be sent next: it is known, and neither sent nor answered
abbrev pub is_ready : OwnerView → ℕ → Bool
is_ready owner k = is_known_call owner (slice_get owner.calls k) && not (is_sent owner k)
    && not (is_some (kept_at owner.kept k))

-- the least call that may be sent next
abbrev pub first_ready : OwnerView → Option ℕ
first_ready owner = find (is_ready owner) (range_with_len 0 (length owner.calls))

abbrev pub is_to : ℕ → Option Submission → Bool
is_to a None = false
is_to a (Some call) = call.actor == a

abbrev pub is_death : Answer → Bool
is_death (Err ActorDied) = true
is_death answer = false

-- whether a reply is that of a call which this caller sent
abbrev pub is_of_call : OwnerView → Reply → Bool
is_of_call owner reply =
    (reply.caller == owner.id)
    && is_to reply.actor (slice_get owner.calls reply.future)
    && is_sent owner reply.future
    && not (is_death reply.answer)

-- what becomes of a reply
abbrev pub collected_reply : OwnerView → Reply → Collected
collected_reply owner reply =
    if is_of_call owner reply
    then (if is_some (kept_at owner.kept reply.future) then Late reply.future else First reply.future)
    else Stray

abbrev pub with_kept_answer : OwnerView → ℕ → Answer → OwnerView
with_kept_answer owner k answer = record owner { kept = slice_set owner.kept k (Some answer) }

-- the caller after a reply, of which only a first answer is kept
abbrev pub after_reply_that : Collected → OwnerView → Reply → OwnerView
after_reply_that (First k) owner reply = with_kept_answer owner k reply.answer
after_reply_that told owner reply = owner

abbrev pub after_reply : OwnerView → Reply → OwnerView
after_reply owner reply = after_reply_that (collected_reply owner reply) owner reply

-- whether a call is of this actor and has no answer yet
abbrev pub call_waits_for : ℕ → Submission × Option Answer → Bool
call_waits_for a call = (call.0.actor == a) && not (is_some call.1)

-- how many calls of the actor have no answer yet
abbrev pub pending : OwnerView → ℕ → ℕ
pending owner a = count_by (call_waits_for a) (zip owner.calls owner.kept)

-- why a call is not submitted, memory apart
abbrev pub refusal_to_submit : OwnerView → ℕ → List Arg → Option SubmitRefusal
refusal_to_submit owner a args =
    option_or (submit_refusal (copies_in a owner.handles) (length owner.calls) args)
    (limit_refusal (owner_limit owner a) (pending owner a))

-- the answer of a call after the death of an actor
abbrev pub answer_after_death : ℕ → Submission × Option Answer → Option Answer
answer_after_death a call = if call_waits_for a call then Some (Err ActorDied) else call.1

-- what becomes of the notice that an actor died
abbrev pub collected_death : OwnerView → ℕ → Collected
collected_death owner a =
    if is_some (copies_in a owner.handles)
    then Died (pending owner a)
    else Stray

abbrev pub with_death : OwnerView → ℕ → OwnerView
with_death owner a = record owner {
  kept = map (answer_after_death a) (zip owner.calls owner.kept);
  dead = slice_set owner.dead a true;
}

-- the caller after the notice that an actor died
abbrev pub owner_after_death : OwnerView → ℕ → OwnerView
owner_after_death owner a = if is_some (copies_in a owner.handles) then with_death owner a else owner

-- what becomes of a notice
abbrev pub collect_result : OwnerView → Notice → Collected
collect_result owner (Answered reply) = collected_reply owner reply
collect_result owner (Death a) = collected_death owner a

-- the caller after a notice
abbrev pub after_collect : OwnerView → Notice → OwnerView
after_collect owner (Answered reply) = after_reply owner reply
after_collect owner (Death a) = owner_after_death owner a

-- a caller that is told the death of one of its actors knows it from then on
abbrev pub KnowsDeath : Notice → OwnerView → OwnerView → Type 0
KnowsDeath (Answered reply) old new = Unit {0}
KnowsDeath (Death a) old new = is_some (copies_in a old.handles) ≡ true → is_known_dead new a ≡ true

-- the answers in the table of futures
abbrev pub answers_of : List Row → List (Option Answer)
answers_of rows = map (λ row. row.answer) rows

-- a new future, which is answered where its actor is dead
abbrev pub answered_row : ℕ → Bool → Row
answered_row a is_dead = record { actor = a; answer = answer_of_new_call is_dead }

-- a call without its number
abbrev pub submission_of : Call → Submission
submission_of call = record { actor = call.actor; method = call.method; args = call.args }

-- the future of an argument, where it is one
abbrev pub future_of_arg : Arg → Option ℕ
future_of_arg (Plain value) = None
future_of_arg (Fut k) = Some k

-- the futures among the arguments of a call
abbrev pub futures_of_args : List Arg → List ℕ
futures_of_args args = filter_map future_of_arg args

-- a call as the resolver enters it: it is answered at once where its actor is dead
abbrev pub entered_call : List Arg → Bool → Entered
entered_call args is_dead = record { futures = futures_of_args args; answered = is_dead; sent = false }

-- the resolver was told of exactly the futures that have an answer
abbrev pub KnowsAnswers : List Entered → List Row → Type 0
KnowsAnswers entered rows = map (λ call. call.answered) entered ≡ map (λ row. is_some row.answer) rows

-- how the handles, the calls, the futures and what the resolver knows of one caller belong together
pub record IsOwner (handles : List Handle) (calls : List Call) (rows : List Row) (entered : List Entered) : Type 0 where
  pub numbered : (k : ℕ) → slice_get calls k ≡ call_at (map submission_of calls) k
  pub actors : map (λ row. row.actor) rows ≡ map (λ call. call.actor) calls
  -- each call waits for the futures among its arguments
  pub waits : map (λ call. call.futures) entered ≡ map (λ call. futures_of_args call.args) calls
  pub told : KnowsAnswers entered rows
  -- as many numbers were given for each actor as it has calls
  pub given : (a : ℕ) → given_in a handles ≡ length (filter (λ call. call.actor == a) (map submission_of calls))
  pub given_in_all : given_of_all handles ≡ length calls
  pub few : length calls ≤ MAX_CALLS
