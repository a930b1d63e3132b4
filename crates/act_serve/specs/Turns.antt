-- What the parts of an actor's turn stand on, and what they leave.
use Rattle.std.specs.Prelude.{◌≡◌, ◌≢◌, ℕ, ◌+◌, ◌<◌, ◌≤◌, ◌==◌, Bool, true, false, List, [], ◌∷◌, ◌++◌, length, map, position, slice_index_or, Some, is_some}
use Rattle.std.specs.Prelude.{All, AllPairs, Contains}
use Rattle.std.specs.List.{list_any}
use Rattle.atomic_table.specs.Seated.{TableId}
use Rattle.act_types.specs.KindState.{KindState}
use Rattle.act_types.specs.declared.call.Packet.{Packet}
use Rattle.act_types.specs.declared.call.Reply.{Reply}
use Rattle.act_types.specs.declared.call.Notice.TheVariants.{Answered, Death}
use Rattle.act_rules.specs.declared.history.RunItem.{RunItem}
use Rattle.act_rules.specs.RunList.{after_item, state_after, items_of, has_terminated, NothingFollowsAnEnd}
use Rattle.act_rules.specs.History.{contains}
use Rattle.act_inbox.specs.Inbox.{is_listed, handed_of, waiting_packet, waiting_after, note_of, note_after, IsOpened}
use Rattle.act_actor.specs.View.{LiveView}
use Rattle.act_actor.specs.Actor.{RunsAtOnce, arrival_at, note_arrival_at, next_call}
use Rattle.act_mailbox.specs.declared.mail.Letter.{Letter}
use Rattle.act_mailbox.specs.declared.mail.Letter.TheVariants.{Call, Note}
use Rattle.act_rules.specs.Consistent.{IsPrefix}
use Rattle.act_mailbox.specs.Controls.{ControlExecView, looked_after}
use Rattle.act_mailbox.specs.Notices.{RepliesView, ReplyExecView, IsNoDeath}
use Rattle.act_mailbox.specs.Traces.{steps_in}
use Rattle.act_mailbox.specs.declared.thread.Endpoint.{Endpoint}
use Rattle.act_serve.specs.declared.letter.Received.{Received}
use Rattle.act_serve.specs.declared.letter.Received.TheVariants.{Nothing, Held, Ran}
use Rattle.act_serve.specs.declared.turn.ExecLines.{ExecLines}
use Rattle.act_serve.specs.declared.turn.ExecPasses.{ExecPasses}
use Rattle.act_rules.specs.Actions.{Action}
use Rattle.act_actor.specs.Life.{is_kill_taken, is_retirement}
use Rattle.act_serve.specs.ActorTraces.{IsActorTrace}
use Rattle.act_serve.specs.Served.{IsLogOf, first_note, replies_to, caller_at, endpoint_callers, KillsOfDead, without_given}

-- a pass is of the line at its place, and gave only what this actor's log shows
pub record IsAtItsEndpoint (lines : List RepliesView) (actor : ℕ) (log : List RunItem)
    (endpoint : Endpoint ReplyExecView) : Type 0 where
  pub below : endpoint.place < length lines
  pub line : (d : RepliesView) → (slice_index_or lines endpoint.place d).line ≡ endpoint.pass.line
  pub actor_is : endpoint.pass.actor ≡ actor
  pub grown : IsPrefix endpoint.pass.seen log
  pub alive : All IsNoDeath endpoint.pass.given

-- no caller has two endpoints
abbrev pub EndpointsDiffer : List RepliesView → List (Endpoint ReplyExecView) → Type 0
EndpointsDiffer lines endpoints = AllPairs (λ one other. one ≢ other) (endpoint_callers lines endpoints)

-- the passes are of the lines at their places, for this actor, and no caller has two
pub record EndpointsFit {S : Type 0} (lines : List RepliesView) (actor : LiveView S) (passes : ExecPasses) : Type 0 where
  pub at_places : All (IsAtItsEndpoint lines actor.id actor.log) passes.notices.items
  pub differ : EndpointsDiffer lines passes.notices.items

-- the passes of the same lines fit the actor as it is now
pub record EndpointsStay {S : Type 0} (lines : List RepliesView) (actor : LiveView S) (before after : ExecPasses)
    : Type 0 where
  pub at_places : All (IsAtItsEndpoint lines actor.id actor.log) after.notices.items
  pub stay : map without_given after.notices.items ≡ map without_given before.notices.items

-- letters were taken, and no kill
pub record TakesLetters (before after : ExecPasses) : Type 0 where
  pub letters : after.letters ≡ record before.letters { taken = after.letters.taken; stamps = after.letters.stamps }
  pub kills : after.kills ≡ before.kills

-- the passes are of these lines, and an actor with this name and log may go on with them
pub record PassesFit (mail control : TableId) (replies : List RepliesView) (actor : ℕ) (log : List RunItem)
    (passes : ExecPasses) : Type 0 where
  pub mail_is : passes.letters.line ≡ mail
  pub control_is : passes.kills.line ≡ control
  pub actor_is : passes.kills.actor ≡ actor
  pub looked : length log ≤ passes.kills.looked
  pub endpoints : All (IsAtItsEndpoint replies actor log) passes.notices.items
  pub differ : EndpointsDiffer replies passes.notices.items

abbrev pub PassesOf : ExecLines → ℕ → List RunItem → ExecPasses → Type 0
PassesOf lines actor log passes = PassesFit lines.mail.now.line lines.control.now.line lines.replies.now actor log passes

-- passes for these callers with which nothing was done
pub record IsUnusedExec (lines : List RepliesView) (callers : List ℕ) (passes : ExecPasses) : Type 0 where
  pub callers_are : endpoint_callers lines passes.notices.items ≡ callers
  pub letters : passes.letters.taken ≡ []
  pub letter_stamps : passes.letters.stamps ≡ []
  pub kills : (passes.kills.taken ≡ []) × (passes.kills.lengths ≡ [])
  pub kill_stamps : passes.kills.stamps ≡ []
  pub given : All (λ endpoint. endpoint.pass.given ≡ []) passes.notices.items
  pub given_stamps : All (λ endpoint. endpoint.pass.stamps ≡ []) passes.notices.items

-- an actor that ran nothing, with such passes
pub record IsFreshExec {S : Type 0} (lines : List RepliesView) (actor : LiveView S) (passes : ExecPasses) : Type 0 where
  pub log : actor.log ≡ []
  pub inbox : IsOpened (endpoint_callers lines passes.notices.items) actor.inbox
  pub passes_fresh : IsUnusedExec lines (endpoint_callers lines passes.notices.items) passes

-- the actor holds what these letters brought, and ran nothing else
pub record IsFed {S : Type 0} (callers : List ℕ) (letters : List Letter) (actor : LiveView S) : Type 0 where
  pub listed : (c : ℕ) → is_listed actor.inbox c ≡ contains c callers
  pub handed : (c : ℕ) → handed_of actor.inbox c ≡ length (items_of c actor.log)
  pub waits : (c n : ℕ) (packet : Packet) → waiting_packet actor.inbox c n ≡ Some packet →
      Contains letters (Call packet) × (packet.actor ≡ actor.id)
  pub notes : (c : ℕ) → contains c callers ≡ true → note_of actor.inbox c ≡ first_note actor.id c letters
  pub log : IsLogOf actor.id callers letters actor.log

-- the letter is in the actor's inbox
abbrev pub IsIn : {S : Type 0} → Letter → LiveView S → LiveView S → Type 0
IsIn (Call packet) old new = (c n : ℕ) →
    waiting_packet new.inbox c n ≡ waiting_after (arrival_at old.id old.inbox packet) packet old.inbox c n
IsIn (Note note) old new = (c : ℕ) →
    note_of new.inbox c ≡ note_after (note_arrival_at old.id old.inbox note) note old.inbox c

-- no letter came and nothing changed, one more was taken into the actor's inbox, or it was a call that ran at once
abbrev pub HasCome : {S : Type 0} → Received → List Letter → List Letter → List (Endpoint ReplyExecView) →
    List (Endpoint ReplyExecView) → LiveView S → LiveView S → Type 0
HasCome Nothing before after endpoints given old new = (after ≡ before) × (given ≡ endpoints) × (new ≡ old)
HasCome Held before after endpoints given old new =
    ((letter : Letter) × (after ≡ before ++ letter ∷ []) × IsIn letter old new) × (given ≡ endpoints)
    × (new ≡ record old { inbox = new.inbox })
HasCome Ran before after endpoints given old new =
    ((packet : Packet) × (after ≡ before ++ Call packet ∷ []) × RunsAtOnce packet old.id old.log old.inbox)
    × (length new.log ≡ length old.log + 1)

-- the endpoint is the caller's
abbrev pub is_endpoint_of : List RepliesView → ℕ → Endpoint ReplyExecView → Bool
is_endpoint_of lines caller endpoint = caller_at lines endpoint.place == caller

-- the endpoint after a reply was given with this stamp
abbrev pub replied_to : List RunItem → Reply → ℕ → Endpoint ReplyExecView → Endpoint ReplyExecView
replied_to log reply stamp endpoint = record endpoint {
  pass = record endpoint.pass {
    given = endpoint.pass.given
        ++ Answered reply ∷ [];
    stamps = endpoint.pass.stamps ++ stamp ∷ [];
    seen = log;
  };
}

-- whether the next call of the endpoint's caller came, at an actor that did not terminate
abbrev pub has_next : {S : Type 0} → List RepliesView → LiveView S → Endpoint ReplyExecView → Bool
has_next lines actor endpoint = is_some (next_call actor.log actor.inbox (caller_at lines endpoint.place))

-- the endpoint's caller was given its replies
abbrev pub HasReplies : KindState → List RepliesView → ℕ → List RunItem → Endpoint ReplyExecView → Type 0
HasReplies opening lines a log endpoint = endpoint.pass.given
    ≡ replies_to opening a log (caller_at lines endpoint.place)

-- an actor of this opening state that serves these callers
pub record IsServing {S : Type 0} (read : S → KindState) (opening : KindState) (callers : List ℕ)
    (lines : List RepliesView) (letters : List Letter) (actor : LiveView S)
    (endpoints : List (Endpoint ReplyExecView)) : Type 0 where
  pub fed : IsFed callers letters actor
  pub follows : read actor.state ≡ state_after opening actor.log
  pub given : All (HasReplies opening lines actor.id actor.log) endpoints

-- whatever actor served these callers serves them after a turn
abbrev pub KeepsServing : {S : Type 0} → (S → KindState) → List RepliesView → LiveView S → LiveView S → ExecPasses →
    ExecPasses → Type 0
KeepsServing read lines old new before after = (opening : KindState) (callers : List ℕ) →
    IsServing read opening callers lines before.letters.taken old before.notices.items →
    IsServing read opening callers lines after.letters.taken new after.notices.items

-- the actor, which did not terminate, ran a call of the caller, and this is its reply
pub record HasReplied {S : Type 0} (read : S → KindState) (caller : ℕ) (reply : Reply) (old new : LiveView S)
    : Type 0 where
  pub lived : has_terminated old.log ≡ false
  pub item : RunItem
  pub log : new.log ≡ old.log ++ item ∷ []
  pub id : new.id ≡ old.id
  pub of_caller : item.caller ≡ caller
  pub reply_is : reply ≡ record {
    actor = old.id;
    caller = item.caller;
    future = item.future;
    place = length old.log;
    answer = (after_item (read old.state) item).1;
  }
  pub state : read new.state ≡ (after_item (read old.state) item).0
  pub fed : (callers : List ℕ) (letters : List Letter) → IsFed callers letters old → IsFed callers letters new

-- the same actor went on from there, by one call at most, and keeps what was promised
pub record ActorGoesOn {S : Type 0} (old new : LiveView S) : Type 0 where
  pub id : new.id ≡ old.id
  pub front : IsPrefix old.log new.log
  pub long : length new.log ≤ length old.log + 1
  pub last : NothingFollowsAnEnd old.log → NothingFollowsAnEnd new.log

-- one more call ran, or no endpoint's caller had one and nothing changed
abbrev pub HasGone : {S : Type 0} → Bool → List RepliesView → List (Endpoint ReplyExecView) → LiveView S →
    LiveView S → Type 0
HasGone true lines endpoints old new = length new.log ≡ length old.log + 1
HasGone false lines endpoints old new = (new ≡ old) × All (λ endpoint. has_next lines old endpoint ≡ false) endpoints

-- the call that ran is of the first endpoint whose caller had one
abbrev pub RanFirst : {S : Type 0} → List RepliesView → List (Endpoint ReplyExecView) → LiveView S → LiveView S →
    Type 0
RanFirst lines endpoints old new = (at : ℕ) × (position (has_next lines old) endpoints ≡ Some at) × (item : RunItem)
    × (new.log ≡ old.log ++ item ∷ [])
    × ((endpoint : Endpoint ReplyExecView) → item.caller ≡ caller_at lines (slice_index_or endpoints at endpoint).place)

-- why the actor died, or that it did not terminate and no kill was taken after a look
abbrev pub HasLooked : Bool → List RunItem → ControlExecView → ControlExecView → Type 0
HasLooked true log old new = KillsOfDead (has_terminated log) log new
HasLooked false log old new = (has_terminated log ≡ false)
    × (new ≡ record old { looked = looked_after old.looked (length log) })

-- the endpoint after a death was given with this stamp
abbrev pub with_death_given : ℕ → List RunItem → ℕ → Endpoint ReplyExecView → Endpoint ReplyExecView
with_death_given a log stamp endpoint = record endpoint {
  pass = record endpoint.pass {
    given = endpoint.pass.given
        ++ Death a ∷ [];
    stamps = endpoint.pass.stamps ++ stamp ∷ [];
    seen = log;
  };
}

-- an actor that goes on did some such steps, took no kill in them, and did not retire
pub record IsTracedSoFar (a : ℕ) (lines : List RepliesView) (log : List RunItem) (passes : ExecPasses) : Type 0 where
  pub trace : List (ℕ × Action)
  pub steps : IsActorTrace a lines log passes trace
  pub no_kill : list_any is_kill_taken (steps_in trace) ≡ false
  pub no_retirement : list_any is_retirement (steps_in trace) ≡ false

-- an actor that was traced so far is traced so far after it went on
abbrev pub KeepsTrace : {S : Type 0} → List RepliesView → LiveView S → LiveView S → ExecPasses → ExecPasses →
    Type 0
KeepsTrace lines old new before after = IsTracedSoFar old.id lines old.log before
    → IsTracedSoFar new.id lines new.log after

-- the same of an actor that served some callers and did not terminate
abbrev pub TracesTurn : {S : Type 0} → (S → KindState) → List RepliesView → LiveView S → LiveView S → ExecPasses →
    ExecPasses → Type 0
TracesTurn read lines old new before after = (opening : KindState) (callers : List ℕ) →
    IsServing read opening callers lines before.letters.taken old before.notices.items →
    has_terminated old.log ≡ false → KeepsTrace lines old new before after
