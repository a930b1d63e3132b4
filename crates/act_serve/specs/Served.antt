-- What an executor's thread leaves.
use Rattle.std.specs.Prelude.{◌≡◌, ℕ, ◌≤◌, ◌<◌, ◌==◌, ◌&&◌, Bool, true, false, List, [], ◌∷◌, ◌++◌, length, map, zip, filter, filter_map, slice_get, Option}
use Rattle.std.specs.Prelude.{Some, None, if◌then◌else◌, All, Contains}
use Rattle.std.specs.Option.{option_or}
use Rattle.std.specs.List.{enumerate_from, range_with_len}
use Rattle.act_types.specs.KindState.{KindState}
use Rattle.act_types.specs.declared.call.Notice.{Notice}
use Rattle.act_types.specs.declared.call.Reply.{Reply}
use Rattle.act_types.specs.declared.call.Notice.TheVariants.{Answered, Death}
use Rattle.act_rules.specs.declared.history.RunItem.{RunItem}
use Rattle.act_rules.specs.RunList.{Answer, state_after, answer_at, answers_from, items_of, has_terminated, NothingFollowsAnEnd}
use Rattle.act_rules.specs.History.{contains}
use Rattle.act_actor.specs.View.{RetiredView}
use Rattle.act_actor.specs.Actor.{packet_of_item}
use Rattle.act_mailbox.specs.declared.control.Asked.{Asked}
use Rattle.act_mailbox.specs.declared.mail.Letter.{Letter}
use Rattle.act_mailbox.specs.declared.mail.Letter.TheVariants.{Call, Note}
use Rattle.act_mailbox.specs.Controls.{ControlExecView}
use Rattle.act_mailbox.specs.Notices.{RepliesView, ReplyExecView}
use Rattle.act_mailbox.specs.declared.thread.Endpoint.{Endpoint}
use Rattle.act_serve.specs.declared.turn.ExecPasses.{ExecPasses}
pub use Rattle.act_serve.specs.Ends.{EndView, Killed, Retired, Starved, end_view, end_id, end_log, caller_at, endpoint_callers}
use Rattle.act_serve.specs.ActorTraces.{IsActorTraced}

-- the log's items are calls of letters, each of a listed caller, and each caller's are numbered from 0 on
pub record IsLogOf (a : ℕ) (callers : List ℕ) (letters : List Letter) (log : List RunItem) : Type 0 where
  pub taken : All (λ item. Contains letters (Call (packet_of_item a item))) log
  pub listed : All (λ item. contains item.caller callers ≡ true) log
  pub numbered : (c : ℕ) → map (λ item. item.number) (items_of c log) ≡ range_with_len 0 (length (items_of c log))

-- how many calls a letter says that a caller made to an actor, if it is that note
abbrev pub note_in : ℕ → ℕ → Letter → Option ℕ
note_in a c (Call packet) = None
note_in a c (Note note) = if (note.caller == c) && (note.actor == a) then Some note.after else None

-- what the first such note says
abbrev pub first_note : ℕ → ℕ → List Letter → Option ℕ
first_note a c [] = None
first_note a c (letter ∷ letters) = option_or (note_in a c letter) (first_note a c letters)

-- the notice of an item's answer, where the item stands at a place and is the caller's
abbrev pub reply_notice : ℕ → ℕ → (ℕ × RunItem) × Answer → Option Notice
reply_notice a c ran = if ran.0.1.caller == c
    then Some (Answered (record {
      actor = a;
      caller = ran.0.1.caller;
      future = ran.0.1.future;
      place = ran.0.0;
      answer = ran.1;
    })) else None

-- the replies at the places of a caller's items, in order
abbrev pub replies_to : KindState → ℕ → List RunItem → ℕ → List Notice
replies_to opening a log c = filter_map (reply_notice a c) (zip (enumerate_from 0 log) (answers_from opening log))

-- the notice is the actor's reply to this caller, of the item at its place, with the answer there
pub record IsAnswerOf (opening : KindState) (a c : ℕ) (log : List RunItem) (reply : Reply) : Type 0 where
  pub item : RunItem
  pub at : slice_get log reply.place ≡ Some item
  pub of_caller : item.caller ≡ c
  pub names : (reply.actor ≡ a) × (reply.caller ≡ item.caller) × (reply.future ≡ item.future)
  pub answered : answer_at opening log reply.place ≡ Some reply.answer

abbrev pub IsReplyOf : KindState → ℕ → ℕ → List RunItem → Notice → Type 0
IsReplyOf opening a c log (Answered reply) = IsAnswerOf opening a c log reply
IsReplyOf opening a c log (Death actor) = ⊥

-- the places of a caller's items, in order
abbrev pub places_of : ℕ → List RunItem → List ℕ
places_of c log = map (λ ran. ran.0) (filter (λ ran. ran.1.caller == c) (enumerate_from 0 log))

-- the place that a reply names
abbrev pub place_of : Notice → Option ℕ
place_of (Answered reply) = Some reply.place
place_of (Death actor) = None

-- the replies that are due stand for the places of the caller's items, one for each, in order, each with the answer
-- there
pub record AreReplies (opening : KindState) (a c : ℕ) (log : List RunItem) (notices : List Notice) : Type 0 where
  pub places : map place_of notices ≡ map (λ place. Some place) (places_of c log)
  pub answers : All (IsReplyOf opening a c log) notices

abbrev pub RepliesAreDue : Type 0
RepliesAreDue = (opening : KindState) (a c : ℕ) (log : List RunItem) →
    AreReplies opening a c log (replies_to opening a log c)

-- the notice of an actor's end
abbrev pub deaths : ℕ → EndView → List Notice
deaths a (Retired retired) = []
deaths a end = Death a ∷ []

-- no kill was taken
abbrev pub IsUntaken : ControlExecView → Type 0
IsUntaken kills = (kills.taken ≡ []) × (kills.lengths ≡ [])

-- one kill was taken, of an asker that has a pass, when the log was as it was in the end
abbrev pub IsTakenAt : List RunItem → ControlExecView → Type 0
IsTakenAt log kills = (kill : Asked) × (kills.taken ≡ kill ∷ []) × Contains kills.askers kill.asker
    × (kills.lengths ≡ length log ∷ [])

-- why an actor died: it took a kill, or it ran a `terminate` and took none
abbrev pub KillsOfDead : Bool → List RunItem → ControlExecView → Type 0
KillsOfDead true log kills = IsUntaken kills
KillsOfDead false log kills = IsTakenAt log kills

-- it was killed exactly where it took a kill or ran a `terminate`
abbrev pub KillsTaken : ControlExecView → EndView → Type 0
KillsTaken kills (Killed dead) = KillsOfDead (has_terminated dead.log) dead.log kills
KillsTaken kills (Retired retired) = IsUntaken kills × (has_terminated retired.log ≡ false)
KillsTaken kills (Starved dead) = IsUntaken kills × (has_terminated dead.log ≡ false)

-- where deaths were given, the log that was shown with them is the last
abbrev pub HasShownLog : EndView → List RunItem → Type 0
HasShownLog (Killed dead) seen = seen ≡ dead.log
HasShownLog (Retired retired) seen = Unit {0}
HasShownLog (Starved dead) seen = seen ≡ dead.log

-- a retired actor is in the state after its log, and ran of each caller as many calls as its first note says
pub record HasDrained (opening : KindState) (callers : List ℕ) (letters : List Letter)
    (retired : RetiredView) : Type 0 where
  pub state : retired.state ≡ state_after opening retired.log
  pub notes : (c : ℕ) → contains c callers ≡ true →
      first_note retired.id c letters ≡ Some (length (items_of c retired.log))

abbrev pub IfRetired : EndView → (RetiredView → Type 0) → Type 0
IfRetired (Killed dead) P = Unit {0}
IfRetired (Retired retired) P = P retired
IfRetired (Starved dead) P = Unit {0}

-- an endpoint without what was given there, and without its stamps
abbrev pub without_given : Endpoint ReplyExecView → Endpoint ReplyExecView
without_given endpoint = record endpoint { pass = record endpoint.pass { given = []; stamps = []; seen = [] } }

-- the passes are of the same lines, for the same actor, with those that put into them
pub record ExecPassesStay (old new : ExecPasses) : Type 0 where
  pub letters : new.letters ≡ record old.letters { taken = new.letters.taken; stamps = new.letters.stamps }
  pub kills : new.kills ≡ record old.kills {
    taken = new.kills.taken;
    stamps = new.kills.stamps;
    lengths = new.kills.lengths;
    looked = new.kills.looked;
  }
  pub endpoints : map without_given new.notices.items ≡ map without_given old.notices.items

-- what an actor of this opening state leaves, whose callers have these lines and these passes before
pub record HasServed (opening : KindState) (a : ℕ) (lines : List RepliesView) (before : ExecPasses) (end : EndView)
    (passes : ExecPasses) : Type 0 where
  pub id : end_id end ≡ a
  pub stay : ExecPassesStay before passes
  pub log : IsLogOf a (endpoint_callers lines before.notices.items) passes.letters.taken (end_log end)
  pub last : NothingFollowsAnEnd (end_log end)
  pub given : All (λ endpoint.
      endpoint.pass.given ≡ replies_to opening a (end_log end) (caller_at lines endpoint.place)
      ++ deaths a end) passes.notices.items
  pub shown : All (λ endpoint. HasShownLog end endpoint.pass.seen) passes.notices.items
  pub kills : KillsTaken passes.kills end
  pub looked : length (end_log end) ≤ passes.kills.looked
  pub last_look : IfRetired end (λ retired. length retired.log < passes.kills.looked)
  pub drained : IfRetired end (HasDrained opening (endpoint_callers lines before.notices.items) passes.letters.taken)
  pub traced : IsActorTraced a lines end passes
