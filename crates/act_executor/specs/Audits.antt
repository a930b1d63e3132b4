-- What the audits of the lines tell.
use Rattle.std.specs.Prelude.{◌≡◌, ℕ, ◌<◌, List, length, zip, slice_index_or, All}
use Rattle.atomic_table.specs.Seated.{TableId}
use Rattle.act_rules.specs.Consistent.{IsPrefix}
use Rattle.act_mailbox.specs.declared.mail.Letter.{Letter}
use Rattle.act_mailbox.specs.declared.control.Asked.{Asked}
use Rattle.act_mailbox.specs.Lines.{items_from}
use Rattle.act_mailbox.specs.Passes.{PutterView, TakerView}
use Rattle.act_mailbox.specs.Mails.{MailView, caller_of}
use Rattle.act_mailbox.specs.Controls.{ControlView, ControlExecView, asker_of}
use Rattle.act_mailbox.specs.Notices.{RepliesView, ReplyExecView, notice_actor}
use Rattle.act_mailbox.specs.declared.thread.Endpoint.{Endpoint}
use Rattle.act_serve.specs.declared.turn.Ended.{Ended}
use Rattle.act_serve.specs.declared.turn.Finished.{Finished}
use Rattle.act_drive.specs.declared.caller.Driven.{Driven}
use Rattle.act_executor.specs.declared.open.Lines.{Lines}

-- a pass is of the line at its place
abbrev pub SitsAt : {V P : Type 0} → (V → TableId) → (P → TableId) → List V → Endpoint P → Type 0
SitsAt {V} id pass_id lines endpoint = (endpoint.place < length lines)
    × ((v : V) → id (slice_index_or lines endpoint.place v) ≡ pass_id endpoint.pass)

abbrev pub SitsAtMail : List MailView → Endpoint (PutterView Letter Unit) → Type 0
SitsAtMail mails endpoint = SitsAt (λ mail. mail.line) (λ pass. pass.line) mails endpoint

abbrev pub SitsAtControl : List ControlView → Endpoint (PutterView Asked ℕ) → Type 0
SitsAtControl controls endpoint = SitsAt (λ control. control.line) (λ pass. pass.line) controls endpoint

abbrev pub SitsAtReplies : List RepliesView → Endpoint ReplyExecView → Type 0
SitsAtReplies replies endpoint = SitsAt (λ line. line.line) (λ pass. pass.line) replies endpoint

-- what was taken of this number is a prefix of what was put with its pass, and so it is with stamps
pub record IsTold {X : Type 0} (putter : X → ℕ) (number : ℕ) (put : List X) (put_at : List ℕ) (taken : List X)
    (taken_at : List ℕ) : Type 0 where
  pub front : IsPrefix (items_from putter number taken) put
  pub stamped : IsPrefix (items_from (λ x. putter x.0) number (zip taken taken_at)) (zip put put_at)

-- what an actor took of a caller's letters, of a caller's kills, and what a caller collected of an actor's notices
abbrev pub IsLetterTold : {K L : Type 0} → Finished K L → PutterView Letter Unit → Type 0
IsLetterTold actor pass = IsTold caller_of pass.number pass.put pass.stamps actor.passes.letters.taken
    actor.passes.letters.stamps

abbrev pub IsKillTold : {K L : Type 0} → Finished K L → PutterView Asked ℕ → Type 0
IsKillTold actor pass = IsTold asker_of pass.number pass.put pass.stamps actor.passes.kills.taken
    actor.passes.kills.stamps

abbrev pub IsNoticeTold : Driven → ReplyExecView → Type 0
IsNoticeTold caller pass = IsTold notice_actor pass.actor pass.given pass.stamps caller.passes.collects.taken
    caller.passes.collects.stamps

-- the same of who is at the pass's place
abbrev pub IsToldAt : {T P : Type 0} → (T → P → Type 0) → List T → Endpoint P → Type 0
IsToldAt {T} Told ends endpoint = (end : T) → Told (slice_index_or ends endpoint.place end) endpoint.pass

abbrev pub LetterTold : {K L : Type 0} → List (Finished K L) → Endpoint (PutterView Letter Unit) → Type 0
LetterTold actors endpoint = IsToldAt IsLetterTold actors endpoint

abbrev pub KillTold : {K L : Type 0} → List (Finished K L) → Endpoint (PutterView Asked ℕ) → Type 0
KillTold actors endpoint = IsToldAt IsKillTold actors endpoint

abbrev pub NoticeTold : List Driven → Endpoint ReplyExecView → Type 0
NoticeTold callers endpoint = IsToldAt IsNoticeTold callers endpoint

-- a caller's passes are of the lines at their places
pub record HasEndpoints (lines : Lines) (caller : Driven) : Type 0 where
  pub letters : All (SitsAtMail lines.mails.items) caller.passes.letters.items
  pub kills : All (SitsAtControl lines.controls.items) caller.passes.kills.items

-- what the actors took of a caller are prefixes of what it put
pub record CallerTold {K L : Type 0} (actors : List (Finished K L)) (caller : Driven) : Type 0 where
  pub letters : All (LetterTold actors) caller.passes.letters.items
  pub kills : All (KillTold actors) caller.passes.kills.items

-- what is left of an actor, without where its list of passes stands
pub record ActorLeft (K L : Type 0) : Type 0 where
  pub ended : Ended K L
  pub letters : TakerView Letter Unit
  pub kills : ControlExecView
  pub notices : List (Endpoint ReplyExecView)

abbrev pub left_of : {K L : Type 0} → Finished K L → ActorLeft K L
left_of finished = record {
  ended = finished.ended;
  letters = finished.passes.letters;
  kills = finished.passes.kills;
  notices = finished.passes.notices.items;
}
