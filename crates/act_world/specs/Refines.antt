-- How a world and the history that its events make belong together.
use Rattle.std.specs.Prelude.{◌≡◌, ℕ, ◌==◌, ◌&&◌, Bool, true, false, length, map, find, slice_get, nat_lt, Option, Some, None, option_map, option_and_then}
use Rattle.std.specs.Prelude.{unwrap_or, if◌then◌else◌}
use Rattle.std.specs.Option.{option_map_or}
use Rattle.std.specs.List.{list_any}
use Rattle.act_types.specs.declared.call.Packet.{Packet}
use Rattle.act_types.specs.declared.call.Reply.{Reply}
use Rattle.act_types.specs.declared.call.Notice.TheVariants.{Answered, Death}
use Rattle.act_rules.specs.declared.history.RunItem.{RunItem}
use Rattle.act_rules.specs.declared.history.Letter.{Letter}
use Rattle.act_rules.specs.declared.history.Letter.TheVariants.{Call as CallLetter, Note as NoteLetter}
use Rattle.act_rules.specs.declared.history.Post.{Post}
use Rattle.act_rules.specs.declared.history.Post.TheVariants.{Reply as ReplyPost, Death as DeathPost}
use Rattle.act_rules.specs.declared.history.Submission.{Submission}
use Rattle.act_rules.specs.RunList.{Answer, state_after}
use Rattle.act_rules.specs.Submissions.{calls_to, settle}
use Rattle.act_rules.specs.History.{ActorSpec, History, contains, cast_of, names, is_caller, calls_of, copies_of, limit_of, runs_of, ran_count, kept_of}
use Rattle.act_rules.specs.History.{answer_of, is_dead, is_retired, is_ended, has_letter}
use Rattle.act_rules.specs.Rules.{was_sent}
use Rattle.act_handles.specs.Handles.{copies_in, given_in}
use Rattle.act_inbox.specs.Inbox.{is_listed, handed_of, waiting_packet, note_of}
use Rattle.act_owner.specs.Owner.{OwnerView, owner_limit as limit_known, is_sent, is_known_dead as knows_dead}
use Rattle.act_actor.specs.View.{ActorView, DeadView, RetiredView}
use Rattle.act_world.specs.declared.network.CallKey.{CallKey}
use Rattle.act_world.specs.declared.network.MailEntry.{MailEntry}
use Rattle.act_world.specs.declared.network.MailEntry.TheVariants.{Call as CallEntry, Note as NoteEntry}
use Rattle.act_world.specs.declared.network.MailedNotice.{MailedNotice}
use Rattle.act_world.specs.View.{is_owner, SlotView, Runs, Died, Ended, Vacant, WorldView}

-- ---- a caller

-- whether a post is the actor's death, told to the caller
abbrev pub is_death_to : ℕ → ℕ → Post → Bool
is_death_to c a (ReplyPost d b place) = false
is_death_to c a (DeathPost d b) = (d == c) && (b == a)

-- the caller has what the history tells of it
pub record IsOwnerOf (h : History) (c : ℕ) (owner : OwnerView) : Type 0 where
  pub id : owner.id ≡ c
  pub copies : (a : ℕ) → copies_in a owner.handles ≡ copies_of c a h
  pub limits : (a : ℕ) → limit_known owner a ≡ limit_of c a h
  pub given : (a : ℕ) → given_in a owner.handles ≡ length (calls_to a (calls_of c h))
  pub calls : owner.calls ≡ calls_of c h
  pub marks : length owner.sent ≡ length (calls_of c h)
  pub sent : (k : ℕ) → is_sent owner k ≡ was_sent c k (slice_get (calls_of c h) k) h
  pub kept : owner.kept ≡ kept_of c h
  pub deaths : (a : ℕ) → knows_dead owner a ≡ list_any (is_death_to c a) h.collected

-- ---- what is on its way

-- a call's packet, with its arguments settled by the answers that are kept by now
abbrev pub packet_as : History → ℕ → ℕ → ℕ → ℕ × Submission → Packet
packet_as h c a n call = record {
  caller = c;
  actor = a;
  number = n;
  future = call.0;
  method = call.1.method;
  args = map (settle (kept_of c h)) call.1.args;
}

-- the packet of the caller's call to the actor by its number
abbrev pub packet_by_number : History → ℕ → ℕ → ℕ → Option Packet
packet_by_number h c a n = option_map (packet_as h c a n) (slice_get (calls_to a (calls_of c h)) n)

-- a call by its names
abbrev pub call_key : ℕ → ℕ → ℕ → ℕ × Submission → CallKey
call_key c a n call = record { caller = c; actor = a; number = n; future = call.0 }

-- what a letter carries
abbrev pub mail_entry : History → Letter → Option MailEntry
mail_entry h (CallLetter c a n) = option_map (λ call. CallEntry (call_key c a n call)) (slice_get (calls_to a (calls_of c h)) n)
mail_entry h (NoteLetter c a n) = Some (NoteEntry (record { caller = c; actor = a; after = n }))

-- the reply of the call at a place of the actor's run list
abbrev pub reply_as : ℕ → ℕ → ℕ → RunItem → Answer → Reply
reply_as c a place item answer = record { actor = a; caller = c; future = item.future; place = place; answer = answer }

abbrev pub reply_at : History → ℕ → ℕ → ℕ → Option RunItem → Option Reply
reply_at h c a place None = None
reply_at h c a place (Some item) = option_map (reply_as c a place item) (answer_of a place h)

-- what a post tells
abbrev pub posted_notice : History → Post → Option MailedNotice
posted_notice h (ReplyPost c a place) =
    option_map (λ reply. record { caller = c; notice = Answered reply }) (reply_at h c a place (slice_get (runs_of a h) place))
posted_notice h (DeathPost c a) = Some (record { caller = c; notice = Death a })

-- ---- an actor

-- the packet that the actor holds for a call: it has arrived, and wasn't run
abbrev pub held_packet : History → ℕ → ℕ → ℕ → Option Packet
held_packet h a c n =
    if nat_lt n (ran_count c a h)
    then None
    else (if has_letter (CallLetter c a n) h.arrived then packet_by_number h c a n else None)

-- whether a note is there that tells this number
abbrev pub is_note_of : ℕ → Option ℕ → Bool
is_note_of n note = option_map_or (λ m. m == n) note false

-- the running actor has what the history tells of it
pub record IsLive (h : History) (a : ℕ) (live : ActorView) : Type 0 where
  pub cast : ActorSpec
  pub cast_is : cast_of a h ≡ Some cast
  pub runs : is_ended a h ≡ false
  pub id : live.id ≡ a
  pub log : live.log ≡ runs_of a h
  pub state : live.state ≡ state_after cast.opening (runs_of a h)
  pub listed : (c : ℕ) → is_listed live.inbox c ≡ names c (cast_of a h)
  pub handed : (c : ℕ) → names c (cast_of a h) ≡ true → handed_of live.inbox c ≡ ran_count c a h
  pub waits : (c n : ℕ) → names c (cast_of a h) ≡ true → waiting_packet live.inbox c n ≡ held_packet h a c n
  pub notes : (c n : ℕ) → names c (cast_of a h) ≡ true → is_note_of n (note_of live.inbox c) ≡ has_letter (NoteLetter c a n) h.arrived

-- the dead actor keeps its run list
pub record IsDead (h : History) (a : ℕ) (dead : DeadView) : Type 0 where
  pub cast : ActorSpec
  pub cast_is : cast_of a h ≡ Some cast
  pub died : is_dead a h ≡ true
  pub id : dead.id ≡ a
  pub log : dead.log ≡ runs_of a h

-- the retired actor keeps its run list and its state
pub record IsRetired (h : History) (a : ℕ) (retired : RetiredView) : Type 0 where
  pub cast : ActorSpec
  pub cast_is : cast_of a h ≡ Some cast
  pub lived : is_dead a h ≡ false
  pub ended : is_retired a h ≡ true
  pub id : retired.id ≡ a
  pub log : retired.log ≡ runs_of a h
  pub state : retired.state ≡ state_after cast.opening (runs_of a h)

-- the actor is where the history says
abbrev pub IsStage : History → ℕ → Option SlotView → Type 0
IsStage h a None = cast_of a h ≡ None
IsStage h a (Some Vacant) = cast_of a h ≡ None
IsStage h a (Some (Runs live)) = IsLive h a live
IsStage h a (Some (Died dead)) = IsDead h a dead
IsStage h a (Some (Ended retired)) = IsRetired h a retired

-- ---- the world

-- the caller, if it is one of the world's
abbrev pub IsOwnerAt : History → ℕ → Option OwnerView → Type 0
IsOwnerAt h c None = is_caller c h ≡ false
IsOwnerAt h c (Some owner) = (is_caller c h ≡ true) × IsOwnerOf h c owner

-- each part of the world is what the history says
pub record Refines (h : History) (world : WorldView) : Type 0 where
  pub owners : (c : ℕ) → IsOwnerAt h c (find (is_owner c) world.network.owners)
  pub actors : (a : ℕ) → IsStage h a (slice_get world.slots a)
  pub mail : (i : ℕ) → slice_get world.network.mail i ≡ option_and_then (mail_entry h) (slice_get h.mail i)
  pub mail_count : length world.network.mail ≡ length h.mail
  pub replies : (j : ℕ) → slice_get world.network.replies j ≡ option_and_then (posted_notice h) (slice_get h.posts j)
  pub reply_count : length world.network.replies ≡ length h.posts
  pub asked : (a : ℕ) → unwrap_or (slice_get world.network.asked a) false ≡ contains a h.asked
