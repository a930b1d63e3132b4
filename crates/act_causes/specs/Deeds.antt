-- What callers and actors did, one action after another, and what must stand before each.
use Rattle.std.specs.Prelude.{◌≡◌, ℕ, true, List, [], ◌∷◌, ◌++◌, length, slice_get, Some, Contains}
use Rattle.std.specs.List.{list_any}
use Rattle.act_types.specs.declared.call.Packet.{Packet}
use Rattle.act_types.specs.declared.call.ReleaseNote.{ReleaseNote}
use Rattle.act_types.specs.declared.call.Reply.{Reply}
use Rattle.act_types.specs.declared.call.Notice.TheVariants.{Answered, Death}
use Rattle.act_rules.specs.declared.history.RunItem.{RunItem}
use Rattle.act_rules.specs.Actions.{Site, Caller, Actor, Action, Sent, Noticed, KillAsked, CallTaken, NoteTaken, KillTaken, DeathTold, actions_of}
use Rattle.act_rules.specs.History.{ActorSpec, contains, actors_naming}
use Rattle.act_rules.specs.RunList.{answer_at}
use Rattle.act_rules.specs.Submissions.{calls_to}
use Rattle.act_handles.specs.Handles.{copies_in}
use Rattle.act_owner.specs.Owner.{OwnerView, opened_under, packet_at}
use Rattle.act_owner.specs.Life.{after_actions, CallerMayDo}
use Rattle.act_actor.specs.Life.{log_of, ActorMayDo}
use Rattle.act_plans.specs.Runs.{cast_at, limits_naming}

-- a caller as it was opened: with a handle of each actor whose cast names it, under that cast's limit
abbrev pub opened_of : ℕ → List ActorSpec → OwnerView
opened_of c casts = opened_under (limits_naming c casts) c (actors_naming c casts)

-- the caller as these actions leave it
abbrev pub left_by : List ActorSpec → ℕ → List Action → OwnerView
left_by casts c actions = after_actions (opened_of c casts) actions

-- the caller as its deeds leave it
abbrev pub owner_by : List ActorSpec → ℕ → List (Site × Action) → OwnerView
owner_by casts c deeds = left_by casts c (actions_of (Caller c) deeds)

-- ---- what stands before a deed

-- some cast names the caller
abbrev pub IsNamed : List ActorSpec → ℕ → Type 0
IsNamed casts c = list_any (λ cast. contains c cast.callers) casts ≡ true

-- the reply is that of a call which its actor ran for the caller
pub record IsReplyGiven (casts : List ActorSpec) (before : List (Site × Action)) (c : ℕ) (reply : Reply) : Type 0 where
  pub caller : reply.caller ≡ c
  pub item : RunItem
  pub ran : slice_get (log_of (actions_of (Actor reply.actor) before)) reply.place ≡ Some item
  pub for_caller : item.caller ≡ c
  pub future : item.future ≡ reply.future
  pub cast : ActorSpec
  pub at : cast_at reply.actor casts ≡ Some cast
  pub answered : answer_at cast.opening (log_of (actions_of (Actor reply.actor) before)) reply.place
      ≡ Some reply.answer

-- its caller sent the call, of which it makes this packet
pub record IsSentCall (casts : List ActorSpec) (before : List (Site × Action)) (a : ℕ) (packet : Packet) : Type 0 where
  pub to : packet.actor ≡ a
  pub sent : Contains before (Caller packet.caller, Sent packet.future)
  pub is : packet_at (owner_by casts packet.caller before) packet.future ≡ Some packet

-- the caller holds no handle of the actor any more, and the note counts its calls to it
pub record IsLastNote (casts : List ActorSpec) (before : List (Site × Action)) (a : ℕ) (note : ReleaseNote)
    : Type 0 where
  pub to : note.actor ≡ a
  pub named : IsNamed casts note.caller
  pub gone : copies_in a (owner_by casts note.caller before).handles ≡ Some 0
  pub counts : note.after ≡ length (calls_to a (owner_by casts note.caller before).calls)

-- what the caller collects was given to it, and what the actor takes was sent to it or asked of it
abbrev pub IsGiven : List ActorSpec → List (Site × Action) → Site × Action → Type 0
IsGiven casts before (Caller c, Noticed (Answered reply)) = IsReplyGiven casts before c reply
IsGiven casts before (Caller c, Noticed (Death a)) = Contains before (Actor a, DeathTold c)
IsGiven casts before (Actor a, CallTaken packet) = IsSentCall casts before a packet
IsGiven casts before (Actor a, NoteTaken note) = IsLastNote casts before a note
IsGiven casts before (Actor a, KillTaken asker note) = (c : ℕ) × Contains before (Caller c, KillAsked a)
IsGiven casts before deed = Unit {0}

-- a caller of the casts, or an actor of one, may do this after what it did before
abbrev pub MayDo : List ActorSpec → Site → List Action → Action → Type 0
MayDo casts (Caller c) before action = IsNamed casts c × CallerMayDo (left_by casts c before) action
MayDo casts (Actor a) before action = (cast : ActorSpec) × (cast_at a casts ≡ Some cast)
    × ActorMayDo a cast.callers before action

-- each of these actions is one that it may do after those before it
abbrev pub MayDoAll : List ActorSpec → Site → List Action → List Action → Type 0
MayDoAll casts site before [] = Unit {0}
MayDoAll casts site before (action ∷ actions) = MayDo casts site before action
    × MayDoAll casts site (before ++ action ∷ []) actions

-- it may do this, and what it takes was given to it
pub record IsCaused (casts : List ActorSpec) (before : List (Site × Action)) (deed : Site × Action) : Type 0 where
  pub may : MayDo casts deed.0 (actions_of deed.0 before) deed.1
  pub given : IsGiven casts before deed

-- each of the deeds is caused by those before it
abbrev pub AreCaused : List ActorSpec → List (Site × Action) → List (Site × Action) → Type 0
AreCaused casts before [] = Unit {0}
AreCaused casts before (deed ∷ deeds) = IsCaused casts before deed × AreCaused casts (before ++ deed ∷ []) deeds
