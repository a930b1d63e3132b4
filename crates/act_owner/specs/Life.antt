-- The life of one caller, and that a call's packet is the same through all of it.
use Rattle.std.specs.Prelude.{◌≡◌, ℕ, ◌≤◌, ◌++◌, Bool, true, false, List, [], ◌∷◌, slice_get, filter_map, Option, Some, None, Contains, IsTrue}
use Rattle.act_types.specs.declared.call.Notice.{Notice}
use Rattle.act_types.specs.declared.call.Notice.TheVariants.{Answered, Death}
use Rattle.act_types.specs.declared.call.Reply.{Reply}
use Rattle.act_rules.specs.Actions.{Action, Copied, Released, Submitted, Sent, Noticed, KillAsked}
use Rattle.act_rules.specs.RunList.{Answer}
use Rattle.act_rules.specs.Submissions.{handle_refusal, copy_refusal, kept_at}
use Rattle.act_handles.specs.Handles.{copies_in, with_copy, without_copy}
use Rattle.act_owner.specs.Owner.{OwnerView, opened_under, owner_limit, pending, refusal_to_submit, sending_refusal, with_handles, with_submission, with_sent}
use Rattle.act_owner.specs.Owner.{after_collect, is_known_call, packet_at, is_sent, is_known_dead, is_to, is_death}

-- the caller after an action; asking a kill leaves it as it is, and so does what an actor does
abbrev pub after_action : OwnerView → Action → OwnerView
after_action owner (Copied a) = with_handles owner (with_copy a owner.handles)
after_action owner (Released a) = with_handles owner (without_copy a owner.handles)
after_action owner (Submitted a method args) = with_submission owner a method args
after_action owner (Sent k) = with_sent owner k
after_action owner (Noticed notice) = after_collect owner notice
after_action owner action = owner

-- the caller after some actions
abbrev pub after_actions : OwnerView → List Action → OwnerView
after_actions owner [] = owner
after_actions owner (action ∷ actions) = after_actions (after_action owner action) actions

-- nothing refuses this to the caller; whether a notice was there, its line tells
abbrev pub CallerMayDo : OwnerView → Action → Type 0
CallerMayDo owner (Copied a) = copy_refusal (copies_in a owner.handles) ≡ None
CallerMayDo owner (Released a) = handle_refusal (copies_in a owner.handles) ≡ None
CallerMayDo owner (Submitted a method args) = refusal_to_submit owner a args ≡ None
CallerMayDo owner (Sent k) = sending_refusal owner k ≡ None
CallerMayDo owner (Noticed notice) = Unit {0}
CallerMayDo owner (KillAsked a) = handle_refusal (copies_in a owner.handles) ≡ None
CallerMayDo owner action = ⊥

-- each of these actions is one that the caller may do after those before it
abbrev pub CallerMayDoAll : OwnerView → List Action → Type 0
CallerMayDoAll owner [] = Unit {0}
CallerMayDoAll owner (action ∷ actions) = CallerMayDo owner action × CallerMayDoAll (after_action owner action) actions

-- actors with their limits
abbrev pub Limits : Type 0
Limits = List (ℕ × Option ℕ)

-- a caller of these actors, under these limits, after some actions since its opening
abbrev pub caller : Limits → ℕ → List ℕ → List Action → OwnerView
caller limits id actors actions = after_actions (opened_under limits id actors) actions

-- a submission is one that nothing refuses
abbrev pub IsAccepted : OwnerView → Action → Type 0
IsAccepted owner (Submitted a method args) = refusal_to_submit owner a args ≡ None
IsAccepted owner action = Unit {0}

-- each submission among these actions is one that nothing refuses at its time
abbrev pub AreAccepted : OwnerView → List Action → Type 0
AreAccepted owner [] = Unit {0}
AreAccepted owner (action ∷ actions) = IsAccepted owner action × AreAccepted (after_action owner action) actions

-- never are more calls of an actor pending than its limit says
abbrev pub NeverAboveTheLimit : Type 0
NeverAboveTheLimit = (limits : Limits) (id : ℕ) (actors : List ℕ) (actions : List Action) (a limit : ℕ) →
    AreAccepted (opened_under limits id actors) actions →
    owner_limit (caller limits id actors actions) a ≡ Some limit →
    pending (caller limits id actors actions) a ≤ limit

-- whether call k was submitted and all its future arguments have an answer
abbrev pub is_known_at : OwnerView → ℕ → Bool
is_known_at owner k = is_known_call owner (slice_get owner.calls k)

-- a call whose arguments have their answers stays so
abbrev pub KnownCallsStayKnown : Type 0
KnownCallsStayKnown = (limits : Limits) (id : ℕ) (actors : List ℕ) (actions later : List Action) (k : ℕ) →
    IsTrue (is_known_at (caller limits id actors actions) k) →
    IsTrue (is_known_at (caller limits id actors (actions ++ later)) k)

-- its packet is the same from then on
abbrev pub OnePacketForGood : Type 0
OnePacketForGood = (limits : Limits) (id : ℕ) (actors : List ℕ) (actions later : List Action) (k : ℕ) →
    IsTrue (is_known_at (caller limits id actors actions) k) →
    packet_at (caller limits id actors (actions ++ later)) k ≡ packet_at (caller limits id actors actions) k

-- a call that was sent stays so
abbrev pub SentStaysSent : Type 0
SentStaysSent = (limits : Limits) (id : ℕ) (actors : List ℕ) (actions later : List Action) (k : ℕ) →
    IsTrue (is_sent (caller limits id actors actions) k) →
    IsTrue (is_sent (caller limits id actors (actions ++ later)) k)

-- the notice that an action collects, if it collects one
abbrev pub notice_of : Action → Option Notice
notice_of (Noticed notice) = Some notice
notice_of action = None

-- the notices that these actions collect, in order
abbrev pub notices_in : List Action → List Notice
notices_in actions = filter_map notice_of actions

-- one of these notices is a reply with this caller, this future, its actor and this answer
pub record IsReplied (owner : OwnerView) (notices : List Notice) (k : ℕ) (answer : Answer) : Type 0 where
  pub reply : Reply
  pub heard : Contains notices (Answered reply)
  pub caller : reply.caller ≡ owner.id
  pub actor : is_to reply.actor (slice_get owner.calls k) ≡ true
  pub future : reply.future ≡ k
  pub answer_is : reply.answer ≡ answer

-- one of these notices is the death of this future's actor
pub record IsBereft (owner : OwnerView) (notices : List Notice) (k : ℕ) : Type 0 where
  pub actor : ℕ
  pub heard : Contains notices (Death actor)
  pub to : is_to actor (slice_get owner.calls k) ≡ true

-- where an answer comes from: a death where it says that the actor died, and else a reply
abbrev pub IsToldBy : Bool → OwnerView → List Notice → ℕ → Answer → Type 0
IsToldBy true owner notices k answer = IsBereft owner notices k
IsToldBy false owner notices k answer = IsReplied owner notices k answer

-- each answer that is kept, and each death that is known, comes from one of these notices
pub record Hears (owner : OwnerView) (notices : List Notice) : Type 0 where
  pub answers : (k : ℕ) (answer : Answer) → kept_at owner.kept k ≡ Some answer →
      IsToldBy (is_death answer) owner notices k answer
  pub deaths : (a : ℕ) → is_known_dead owner a ≡ true → Contains notices (Death a)

-- a caller keeps and knows only what it collected
abbrev pub AllIsHeard : Type 0
AllIsHeard = (limits : Limits) (id : ℕ) (actors : List ℕ) (actions : List Action) →
    Hears (caller limits id actors actions) (notices_in actions)
