-- What each event of a world tells, and what it adds.
use Rattle.std.specs.Prelude.{ℕ, ◌+◌, ◌-◌, ◌==◌, Bool, false, not, if◌then◌else◌, List, [], ◌∷◌, ◌++◌, length, filter, slice_get, Option, Some, None}
use Rattle.std.specs.Prelude.{option_map, is_some, is_none, Result, Ok, Err}
use Rattle.std.specs.Option.{option_or}
use Rattle.act_types.specs.declared.call.Arg.{Arg}
use Rattle.act_rules.specs.declared.history.RunItem.{RunItem}
use Rattle.act_rules.specs.declared.event.Event.{Event}
use Rattle.act_rules.specs.declared.event.Event.TheVariants.{Submit, Copy, Release, Send, Deliver, Run, Collect, AskKill, TakeKill, Tell, Retire}
use Rattle.act_rules.specs.declared.outcome.Arrival.TheVariants.{New, Repeat}
use Rattle.act_rules.specs.declared.outcome.Did.{Did}
use Rattle.act_rules.specs.declared.outcome.Did.TheVariants.{Future, Copies, Mail, Arrived, Ran, Gap, Kept, Late, Died, Asked, Dead, Told, Retired}
use Rattle.act_rules.specs.declared.outcome.HandleRefusal.TheVariants.{NoActor}
use Rattle.act_rules.specs.declared.outcome.SubmitRefusal.{SubmitRefusal}
use Rattle.act_rules.specs.declared.outcome.WorldRefusal.{WorldRefusal}
use Rattle.act_rules.specs.declared.outcome.WorldRefusal.TheVariants.{Submit as SubmitRefused, Handle, Sending, NoCaller, NoMail, NoReply, ActorEnded, NoKill}
use Rattle.act_rules.specs.declared.outcome.WorldRefusal.TheVariants.{NotDead, NotDrained}
use Rattle.act_rules.specs.declared.history.Submission.{Submission}
use Rattle.act_rules.specs.Submissions.{needs, calls_to, number_of, kept_at, copies_held, handle_refusal, copy_refusal, submit_refusal, limit_refusal}
use Rattle.act_rules.specs.Submissions.{send_refusal}
use Rattle.act_rules.specs.declared.history.Letter.{Letter}
use Rattle.act_rules.specs.declared.history.Letter.TheVariants.{Call as CallLetter, Note as NoteLetter}
use Rattle.act_rules.specs.declared.history.Post.{Post}
use Rattle.act_rules.specs.declared.history.Post.TheVariants.{Reply as ReplyPost, Death as DeathPost}
use Rattle.act_rules.specs.History.{History, contains, cast_of, names, is_caller, calls_of, copies_of, limit_of, runs_of, kept_of, is_dead, is_ended}
use Rattle.act_rules.specs.History.{has_letter, next_item, is_drained}

abbrev pub Outcome : Type 0
Outcome = Result Did WorldRefusal

-- the actor of a letter
abbrev pub letter_actor : Letter → ℕ
letter_actor (CallLetter c a n) = a
letter_actor (NoteLetter c a n) = a

-- the letter of the caller's call k
abbrev pub call_letter : ℕ → ℕ → Submission → History → Letter
call_letter c k call h = CallLetter c call.actor (number_of call.actor k (calls_of c h))

-- whether call k of the caller was sent before
abbrev pub was_sent : ℕ → ℕ → Option Submission → History → Bool
was_sent c k None h = false
was_sent c k (Some call) h = has_letter (call_letter c k call h) h.mail

-- a letter is refused once its actor has ended
abbrev pub deliver_refusal : Option Letter → History → Option WorldRefusal
deliver_refusal None h = Some NoMail
deliver_refusal (Some letter) h = needs (not (is_ended (letter_actor letter) h)) ActorEnded None

-- how many of the caller's calls to an actor have no answer
abbrev pub unanswered : ℕ → ℕ → History → ℕ
unanswered c a h = length (filter (λ call. is_none (kept_at (kept_of c h) call.0)) (calls_to a (calls_of c h)))

-- the first refusal that meets a submission; that of a limit is the last
abbrev pub submission_refusal : ℕ → ℕ → List Arg → History → Option SubmitRefusal
submission_refusal c a args h =
    option_or (submit_refusal (copies_of c a h) (length (calls_of c h)) args)
    (limit_refusal (limit_of c a h) (unanswered c a h))

-- the first refusal that meets an event
abbrev pub refusal_of : History → Event → Option WorldRefusal
refusal_of h (Submit c a method args) =
    needs (is_caller c h) NoCaller (option_map SubmitRefused (submission_refusal c a args h))
refusal_of h (Copy c a) = needs (is_caller c h) NoCaller (option_map Handle (copy_refusal (copies_of c a h)))
refusal_of h (Release c a) = needs (is_caller c h) NoCaller (option_map Handle (handle_refusal (copies_of c a h)))
refusal_of h (Send c k) =
    let call = slice_get (calls_of c h) k in
    needs (is_caller c h) NoCaller (option_map Sending (send_refusal (kept_of c h) k (was_sent c k call h) call))
refusal_of h (Deliver i) = deliver_refusal (slice_get h.mail i) h
refusal_of h (Run a c) =
    needs (is_caller c h) NoCaller (
    needs (names c (cast_of a h)) (Handle NoActor) (
    needs (not (is_ended a h)) ActorEnded None))
refusal_of h (Collect j) = needs (is_some (slice_get h.posts j)) NoReply None
refusal_of h (AskKill c a) = needs (is_caller c h) NoCaller (option_map Handle (handle_refusal (copies_of c a h)))
refusal_of h (TakeKill a) =
    needs (is_some (cast_of a h)) (Handle NoActor) (
    needs (not (is_ended a h)) ActorEnded (
    needs (contains a h.asked) NoKill None))
refusal_of h (Tell a c) =
    needs (is_caller c h) NoCaller (
    needs (names c (cast_of a h)) (Handle NoActor) (
    needs (is_dead a h) NotDead None))
refusal_of h (Retire a) =
    needs (is_some (cast_of a h)) (Handle NoActor) (
    needs (not (is_ended a h)) ActorEnded (
    needs (is_drained a h) NotDrained None))

-- whether a release leaves no copy
abbrev pub is_last : ℕ → ℕ → History → Bool
is_last c a h = copies_held (copies_of c a h) == 1

-- the reply for call k is kept where the call has no answer
abbrev pub did_reply : ℕ → History → Option RunItem → Did
did_reply c h None = Gap
did_reply c h (Some item) = if is_none (kept_at (kept_of c h) item.future) then Kept c item.future
    else Late c item.future

abbrev pub did_collect : History → Option Post → Did
did_collect h None = Gap
did_collect h (Some (ReplyPost c a place)) = did_reply c h (slice_get (runs_of a h) place)
did_collect h (Some (DeathPost c a)) = Died (unanswered c a h)

abbrev pub did_deliver : History → Option Letter → Did
did_deliver h None = Gap
did_deliver h (Some letter) = Arrived (if has_letter letter h.arrived then Repeat else New)

abbrev pub did_run : ℕ → History → Option RunItem → Did
did_run a h None = Gap
did_run a h (Some item) = Ran (length (runs_of a h)) (length h.posts)

-- what an accepted event tells
abbrev pub did : History → Event → Did
did h (Submit c a method args) = Future c (length (calls_of c h))
did h (Copy c a) = Copies (copies_held (copies_of c a h) + 1)
did h (Release c a) = if is_last c a h then Mail (length h.mail) else Copies (copies_held (copies_of c a h) - 1)
did h (Send c k) = Mail (length h.mail)
did h (Deliver i) = did_deliver h (slice_get h.mail i)
did h (Run a c) = did_run a h (next_item a c h)
did h (Collect j) = did_collect h (slice_get h.posts j)
did h (AskKill c a) = Asked
did h (TakeKill a) = Dead
did h (Tell a c) = Told (length h.posts)
did h (Retire a) = Retired

-- one letter or post more, where there is one
abbrev pub and_also : {A : Type 0} → List A → Option A → List A
and_also xs None = xs
and_also xs (Some x) = xs ++ x ∷ []

-- a run adds its item to the run list, and tells the caller
abbrev pub after_run : ℕ → ℕ → History → Option RunItem → History
after_run a c h None = h
after_run a c h (Some item) = record h {
  ran = h.ran ++ (a, item) ∷ [];
  posts = h.posts ++ ReplyPost c a (length (runs_of a h)) ∷ [];
}

-- what an accepted event adds
abbrev pub add_event : History → Event → History
add_event h (Submit c a method args) = record h {
  submitted = h.submitted
      ++ (c, record { actor = a; method = method; args = args }) ∷ [];
}
add_event h (Copy c a) = record h { copied = h.copied ++ (c, a) ∷ [] }
add_event h (Release c a) = record h {
  released = h.released ++ (c, a) ∷ [];
  mail = and_also h.mail (if is_last c a h then Some (NoteLetter c a (length (calls_to a (calls_of c h)))) else None);
}
add_event h (Send c k) = record h {
  mail = and_also h.mail
      (option_map (λ call. call_letter c k call h) (slice_get (calls_of c h) k));
}
add_event h (Deliver i) = record h { arrived = and_also h.arrived (slice_get h.mail i) }
add_event h (Run a c) = after_run a c h (next_item a c h)
add_event h (Collect j) = record h { collected = and_also h.collected (slice_get h.posts j) }
add_event h (AskKill c a) = record h { asked = h.asked ++ a ∷ [] }
add_event h (TakeKill a) = record h { killed = h.killed ++ a ∷ [] }
add_event h (Tell a c) = record h { posts = h.posts ++ DeathPost c a ∷ [] }
add_event h (Retire a) = record h { retired = h.retired ++ a ∷ [] }

abbrev pub outcome_by : History → Event → Option WorldRefusal → Outcome
outcome_by h event None = Ok (did h event)
outcome_by h event (Some refusal) = Err refusal

abbrev pub after_by : History → Event → Option WorldRefusal → History
after_by h event None = add_event h event
after_by h event (Some refusal) = h

-- what is told of an event
abbrev pub outcome_of : History → Event → Outcome
outcome_of h event = outcome_by h event (refusal_of h event)

-- what an event leaves: a refused event adds nothing
abbrev pub after : History → Event → History
after h event = after_by h event (refusal_of h event)

-- what a list of events leaves
abbrev pub after_all : History → List Event → History
after_all h [] = h
after_all h (event ∷ events) = after_all (after h event) events

-- what is told of a list of events
abbrev pub outcomes : History → List Event → List Outcome
outcomes h [] = []
outcomes h (event ∷ events) = outcome_of h event ∷ outcomes (after h event) events
