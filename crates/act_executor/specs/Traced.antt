-- That what all threads did, each step after its cause, is a play.
use Rattle.std.specs.Prelude.{◌≡◌, ℕ, ◌<◌, List, [], ◌++◌, length, slice_get, Some, All, Contains}
use Rattle.act_types.specs.declared.call.Packet.{Packet}
use Rattle.act_types.specs.declared.call.ReleaseNote.{ReleaseNote}
use Rattle.act_types.specs.declared.call.Reply.{Reply}
use Rattle.act_types.specs.declared.call.Notice.TheVariants.{Answered, Death}
use Rattle.act_rules.specs.declared.event.Event.{Event}
use Rattle.act_rules.specs.declared.history.RunItem.{RunItem}
use Rattle.act_rules.specs.Actions.{Site, Caller, Actor, Action, Sent, Noticed, KillAsked, CallTaken, NoteTaken, KillTaken, DeathTold}
use Rattle.act_rules.specs.History.{ActorSpec}
use Rattle.act_rules.specs.RunList.{answer_at}
use Rattle.act_rules.specs.Submissions.{calls_to}
use Rattle.act_handles.specs.Handles.{copies_in}
use Rattle.act_owner.specs.Owner.{packet_at}
use Rattle.act_actor.specs.Life.{call_run, log_of}
use Rattle.act_mailbox.specs.Traces.{steps_in, found_in}
use Rattle.act_plans.specs.Runs.{cast_at}
use Rattle.act_causes.specs.Deeds.{IsNamed, left_by, MayDoAll}
use Rattle.act_causes.specs.Merge.{Threads, NeverFall}
use Rattle.act_causes.specs.Plays.{SpecsFit, IsPlayOfRun}

-- an actor took this call's letter later than its caller sent it, and the letter is the call's packet
pub record IsCallPosted (casts : List ActorSpec) (threads : Threads) (a m : ℕ) (packet : Packet) : Type 0 where
  pub to : packet.actor ≡ a
  pub stamp : ℕ
  pub sent : Contains (threads (Caller packet.caller)) (stamp, Sent packet.future)
  pub earlier : stamp < m
  pub is : packet_at (left_by casts packet.caller (steps_in (threads (Caller packet.caller)))) packet.future
      ≡ Some packet

-- the same of the note of a caller's last handle of the actor, which counts its calls
pub record IsNotePosted (casts : List ActorSpec) (threads : Threads) (a m : ℕ) (note : ReleaseNote) : Type 0 where
  pub to : note.actor ≡ a
  pub named : IsNamed casts note.caller
  pub before : List (ℕ × Action)
  pub later : List (ℕ × Action)
  pub cut : threads (Caller note.caller) ≡ before ++ later
  pub earlier : All (λ x. x.0 < m) before
  pub gone : copies_in a (left_by casts note.caller (steps_in before)).handles ≡ Some 0
  pub counts : note.after
      ≡ length (calls_to a (left_by casts note.caller (steps_in (threads (Caller note.caller)))).calls)

-- the caller collected this reply later than its actor ran the call at its place
pub record IsReplyGivenBy (casts : List ActorSpec) (threads : Threads) (c m : ℕ) (reply : Reply) : Type 0 where
  pub caller : reply.caller ≡ c
  pub cast : ActorSpec
  pub at : cast_at reply.actor casts ≡ Some cast
  pub stamp : ℕ
  pub item : RunItem
  pub ran : slice_get (found_in call_run (threads (Actor reply.actor))) reply.place ≡ Some (stamp, item)
  pub earlier : stamp < m
  pub for_caller : item.caller ≡ c
  pub future : item.future ≡ reply.future
  pub answered : answer_at cast.opening (log_of (steps_in (threads (Actor reply.actor)))) reply.place
      ≡ Some reply.answer

-- this was done earlier
pub record WasDone (threads : Threads) (m : ℕ) (site : Site) (action : Action) : Type 0 where
  pub stamp : ℕ
  pub done : Contains (threads site) (stamp, action)
  pub earlier : stamp < m

-- what is collected or taken with stamp m was given, sent or asked earlier
abbrev pub WasGiven : List ActorSpec → Threads → ℕ → Site × Action → Type 0
WasGiven casts threads m (Caller c, Noticed (Answered reply)) = IsReplyGivenBy casts threads c m reply
WasGiven casts threads m (Caller c, Noticed (Death a)) = WasDone threads m (Actor a) (DeathTold c)
WasGiven casts threads m (Actor a, CallTaken packet) = IsCallPosted casts threads a m packet
WasGiven casts threads m (Actor a, NoteTaken note) = IsNotePosted casts threads a m note
WasGiven casts threads m (Actor a, KillTaken asker note) = (c : ℕ) × WasDone threads m (Caller c) (KillAsked a)
WasGiven casts threads m deed = Unit {0}

-- each caller that a cast names and each actor of a cast did what it may do, in time, and what was taken was put before
pub record AreTraced (casts : List ActorSpec) (threads : Threads) : Type 0 where
  pub rise : NeverFall threads
  pub may : (site : Site) → MayDoAll casts site [] (steps_in (threads site))
  pub given : (site : Site) (m : ℕ) (action : Action) → Contains (threads site) (m, action) →
      WasGiven casts threads m (site, action)

-- whatever threads did so, some play does the same
abbrev pub TracedRunsArePlayed : Type 0
TracedRunsArePlayed = (casts : List ActorSpec) (threads : Threads) → SpecsFit casts → AreTraced casts threads →
    (events : List Event) × IsPlayOfRun casts (λ site. steps_in (threads site)) events
