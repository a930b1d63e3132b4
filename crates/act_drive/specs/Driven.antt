-- What a caller's thread did so far.
use Rattle.std.specs.Prelude.{◌≡◌, ◌≢◌, ℕ, ◌<◌, ◌≤◌, ◌⊎◌, Bool, true, false, List, [], ◌∷◌, ◌++◌, length, map, filter_map, slice_get, slice_index_or}
use Rattle.std.specs.Prelude.{option_to_list, flat_map, Option, Some, None, is_some, All, AllPairs, Contains}
use Rattle.act_types.specs.declared.call.Notice.{Notice}
use Rattle.act_types.specs.declared.call.Notice.TheVariants.{Death}
use Rattle.act_rules.specs.declared.history.Submission.{Submission}
use Rattle.act_rules.specs.declared.script.Step.{Step}
use Rattle.act_rules.specs.declared.script.Step.TheVariants.{Kill}
use Rattle.act_rules.specs.Plans.{first_bad, planned, holds, done_by, nothing_done, is_refused, kills_to}
use Rattle.act_rules.specs.RunList.{Answer}
use Rattle.act_rules.specs.Submissions.{calls_to, copies_held, kept_at}
use Rattle.act_handles.specs.Handles.{copies_in, actors_in}
use Rattle.act_owner.specs.Owner.{OwnerView, opened_under, packet_at, is_sent}
use Rattle.act_owner.specs.Life.{is_known_at, Hears}
use Rattle.act_mailbox.specs.Mails.{MailView}
use Rattle.act_mailbox.specs.Controls.{ControlView}
use Rattle.act_mailbox.specs.Notices.{RepliesView}
use Rattle.act_mailbox.specs.Passes.{PutterView}
use Rattle.act_mailbox.specs.declared.mail.Letter.{Letter}
use Rattle.act_mailbox.specs.declared.mail.Letter.TheVariants.{Call, Note}
use Rattle.act_mailbox.specs.declared.control.Asked.{Asked}
use Rattle.act_mailbox.specs.declared.thread.Endpoint.{Endpoint}
use Rattle.act_drive.specs.declared.driver.CallerLines.{CallerLines}
use Rattle.act_drive.specs.declared.driver.Driver.{Driver}
use Rattle.act_drive.specs.declared.driver.CallerPasses.{CallerPasses}
use Rattle.act_drive.specs.declared.caller.Driven.{Driven}
use Rattle.act_drive.specs.PlanTraces.{HasDonePlan}

-- to whom a letter goes
abbrev pub actor_of_letter : Letter → ℕ
actor_of_letter (Call packet) = packet.actor
actor_of_letter (Note note) = note.actor

-- the future of a letter that carries a call
abbrev pub future_of_letter : Letter → Option ℕ
future_of_letter (Call packet) = Some packet.future
future_of_letter (Note note) = None

abbrev pub futures_in : List Letter → List ℕ
futures_in letters = filter_map future_of_letter letters

-- a letter to an actor is the packet of a call to it, or the note of its last handle, which tells the number of calls
-- to it
abbrev pub IsSent : OwnerView → ℕ → Letter → Type 0
IsSent owner a (Call packet) = (packet_at owner packet.future ≡ Some packet) × (is_known_at owner packet.future ≡ true)
    × (packet.actor ≡ a)
IsSent owner a (Note note) = (note ≡ record { caller = owner.id; actor = a; after = length (calls_to a owner.calls) })
    × (copies_held (copies_in a owner.handles) ≡ 0)

-- two letters carry two calls, or are the notes of two actors, or one carries a call and one is a note
abbrev pub AreTwo : Letter → Letter → Type 0
AreTwo (Call one) (Call other) = one.future ≢ other.future
AreTwo (Call packet) (Note note) = Unit {0}
AreTwo (Note note) (Call packet) = Unit {0}
AreTwo (Note one) (Note other) = one.actor ≢ other.actor

-- whether a letter is a note
abbrev pub is_note_letter : Letter → Bool
is_note_letter (Call packet) = false
is_note_letter (Note note) = true

-- what is in the outbox may be sent
abbrev pub MayBeSent : OwnerView → Option Letter → Type 0
MayBeSent owner None = Unit {0}
MayBeSent owner (Some letter) = IsSent owner (actor_of_letter letter) letter

-- what was put into an actor's mail line, and what is held beside: no call and no note twice, and each call is marked
-- sent
pub record IsPosting (owner : OwnerView) (a : ℕ) (held : List Letter) (put : List Letter) : Type 0 where
  pub sent : All (IsSent owner a) put
  pub distinct : AllPairs AreTwo (put ++ held)
  pub marked : All (λ k. is_sent owner k ≡ true) (futures_in (put ++ held))

-- a pass is of the mail line at its place
pub record IsEndpoint (mails : List MailView) (owner : OwnerView) (held : List Letter)
    (endpoint : Endpoint (PutterView Letter Unit)) : Type 0 where
  pub below : endpoint.place < length mails
  pub line : (d : MailView) → (slice_index_or mails endpoint.place d).line ≡ endpoint.pass.line
  pub number : endpoint.pass.number ≡ owner.id
  pub posting : (d : MailView) → IsPosting owner (slice_index_or mails endpoint.place d).actor held endpoint.pass.put

-- a pass is of the control line at its place
pub record IsKillEndpoint (controls : List ControlView) (endpoint : Endpoint (PutterView Asked ℕ)) : Type 0 where
  pub below : endpoint.place < length controls
  pub line : (d : ControlView) → (slice_index_or controls endpoint.place d).line ≡ endpoint.pass.line

-- these passes are of control lines, no two of the same actor
abbrev pub AreKillEndpoints : List ControlView → List (Endpoint (PutterView Asked ℕ)) → Type 0
AreKillEndpoints controls endpoints = All (IsKillEndpoint controls) endpoints
    × AllPairs (λ one other. (d : ControlView) →
    (slice_index_or controls one.place d).actor ≢ (slice_index_or controls other.place d).actor) endpoints

-- the endpoint at this place of the list is at the actor's control line, or an endpoint is at another's
abbrev pub IsAtKillEndpoint : List ControlView → List (Endpoint (PutterView Asked ℕ)) → ℕ → ℕ → Type 0
IsAtKillEndpoint controls endpoints at a = (s : Endpoint (PutterView Asked ℕ)) (d : ControlView) →
    (slice_index_or controls (slice_index_or endpoints at s).place d).actor ≡ a

abbrev pub IsElsewhere : List ControlView → ℕ → Endpoint (PutterView Asked ℕ) → Type 0
IsElsewhere controls a endpoint = (d : ControlView) → (slice_index_or controls endpoint.place d).actor ≢ a

-- the endpoint at this place of the list is at the actor's mail line
abbrev pub IsAtEndpoint : List MailView → List (Endpoint (PutterView Letter Unit)) → ℕ → ℕ → Type 0
IsAtEndpoint mails endpoints at a = (s : Endpoint (PutterView Letter Unit)) (d : MailView) →
    (slice_index_or mails (slice_index_or endpoints at s).place d).actor ≡ a

-- the note of the last handle of an actor
abbrev pub last_note : OwnerView → ℕ → Letter
last_note owner a = Note (record { caller = owner.id; actor = a; after = length (calls_to a owner.calls) })

-- a letter is due: the packet of a call that is marked sent, or the note of an actor of which each handle was let go
abbrev pub IsDue : OwnerView → Letter → Type 0
IsDue owner (Call packet) = (packet_at owner packet.future ≡ Some packet) × (is_sent owner packet.future ≡ true)
IsDue owner (Note note) = (Note note ≡ last_note owner note.actor) × (copies_in note.actor owner.handles ≡ Some 0)

-- all that was posted at these endpoints
abbrev pub posted_in : List (Endpoint (PutterView Letter Unit)) → List Letter
posted_in endpoints = flat_map (λ endpoint. endpoint.pass.put) endpoints

-- an endpoint is at another actor's mail line
abbrev pub IsApart : List MailView → ℕ → Endpoint (PutterView Letter Unit) → Type 0
IsApart mails a endpoint = (d : MailView) → (slice_index_or mails endpoint.place d).actor ≢ a

-- a letter to this actor need not be posted, since its death was collected, or no endpoint is at its line
abbrev pub IsIdle : List MailView → List Notice → List (Endpoint (PutterView Letter Unit)) → ℕ → Type 0
IsIdle mails collected endpoints a = Contains collected (Death a) ⊎ All (IsApart mails a) endpoints

-- no letter that is due is lost: it was posted, is held, or need not be posted
pub record IsKeeping (mails : List MailView) (owner : OwnerView) (collected : List Notice)
    (endpoints : List (Endpoint (PutterView Letter Unit))) (held : List Letter) : Type 0 where
  pub known : (k : ℕ) → is_sent owner k ≡ true → is_known_at owner k ≡ true
  pub due : (letter : Letter) → IsDue owner letter →
      Contains (posted_in endpoints ++ held) letter ⊎ IsIdle mails collected endpoints (actor_of_letter letter)

-- each kill that was asked at an endpoint names the caller and the actor of its line
abbrev pub HasNamed : List ControlView → ℕ → Endpoint (PutterView Asked ℕ) → Type 0
HasNamed controls id endpoint = (d : ControlView) →
    All (λ kill. kill.note ≡ record {
      caller = id;
      actor = (slice_index_or controls endpoint.place d).actor;
    }) endpoint.pass.put

-- the note of an actor's last handle was posted, and none of its handles is held
pub record IsNoted (owner : OwnerView) (endpoints : List (Endpoint (PutterView Letter Unit))) (a : ℕ) : Type 0 where
  pub posted : Contains (posted_in endpoints) (last_note owner a)
  pub ended : copies_held (copies_in a owner.handles) ≡ 0

-- the notes are posted of the actors whose flags are set
abbrev pub AreNoted : OwnerView → List (Endpoint (PutterView Letter Unit)) → List Bool → Type 0
AreNoted owner endpoints flags = (a : ℕ) → slice_index_or flags a false ≡ true → IsNoted owner endpoints a

-- a caller at work: what it keeps comes from the notices collected, and what it posted is its own
pub record IsCalling (lines : CallerLines) (driver : Driver) : Type 0 where
  pub places : length driver.owner.kept ≡ length driver.owner.calls
  pub flags : length driver.owner.sent ≡ length driver.owner.calls
  pub hears : Hears driver.owner driver.passes.collects.taken
  pub collects : driver.passes.collects.line ≡ lines.replies.now.line
  pub held : MayBeSent driver.owner driver.outbox
  pub letters : All (IsEndpoint lines.mails.now driver.owner (option_to_list driver.outbox)) driver.passes.letters.items
  pub kills : AreKillEndpoints lines.controls.now driver.passes.kills.items
  pub keeps : IsKeeping lines.mails.now driver.owner driver.passes.collects.taken driver.passes.letters.items
      (option_to_list driver.outbox)
  pub names : All (HasNamed lines.controls.now driver.owner.id) driver.passes.kills.items
  pub note_posted : AreNoted driver.owner driver.passes.letters.items driver.note_posted

-- an endpoint without what was put there, and without its stamps
abbrev pub bare_post : Endpoint (PutterView Letter Unit) → Endpoint (PutterView Letter Unit)
bare_post endpoint = record endpoint { pass = record endpoint.pass { put = []; stamps = [] } }

abbrev pub bare_ask : Endpoint (PutterView Asked ℕ) → Endpoint (PutterView Asked ℕ)
bare_ask endpoint = record endpoint { pass = record endpoint.pass { put = []; stamps = [] } }

-- the passes are of the same lines, for the same caller, at the same places
pub record CallerPassesStay (old new : CallerPasses) : Type 0 where
  pub letters : map bare_post new.letters.items ≡ map bare_post old.letters.items
  pub kills : map bare_ask new.kills.items ≡ map bare_ask old.kills.items
  pub collects : new.collects ≡ record old.collects { taken = new.collects.taken; stamps = new.collects.stamps }

-- an answer that was kept is kept on
abbrev pub KeptOn : List (Option Answer) → List (Option Answer) → Type 0
KeptOn before later = (k : ℕ) (answer : Answer) → kept_at before k ≡ Some answer → kept_at later k ≡ Some answer

-- it is the same caller, under the same limits, at the same lines, and forgets no answer
pub record Stays (old new : Driver) : Type 0 where
  pub id : new.owner.id ≡ old.owner.id
  pub kept : KeptOn old.owner.kept new.owner.kept
  pub limits : new.owner.limits ≡ old.owner.limits
  pub passes : CallerPassesStay old.passes new.passes

-- a turn submits, copies, releases and asks nothing, and forgets no notice
pub record Waits (old new : Driver) : Type 0 where
  pub stay : Stays old new
  pub calls : new.owner.calls ≡ old.owner.calls
  pub handles : new.owner.handles ≡ old.owner.handles
  pub kills : new.passes.kills.items ≡ old.passes.kills.items
  pub heard : (notice : Notice) → Contains old.passes.collects.taken notice → Contains new.passes.collects.taken notice

-- what was there of a caller stays
pub record OwnerGoesOn (owner later : OwnerView) : Type 0 where
  pub id : later.id ≡ owner.id
  pub packets : (k : ℕ) → is_known_at owner k ≡ true →
      (is_known_at later k ≡ true) × (packet_at later k ≡ packet_at owner k)
  pub sent : (k : ℕ) → is_sent owner k ≡ true → is_sent later k ≡ true
  pub ended : (a : ℕ) → copies_held (copies_in a owner.handles) ≡ 0 →
      (copies_held (copies_in a later.handles) ≡ 0)
      × (length (calls_to a later.calls) ≡ length (calls_to a owner.calls))

-- as many kills were asked as wanted, or fewer where the death was collected
abbrev pub AreAsked : List Notice → ℕ → ℕ → ℕ → Type 0
AreAsked collected a wanted asked = (asked ≡ wanted) ⊎ ((asked ≤ wanted) × Contains collected (Death a))

-- the kills asked at an endpoint are those of the steps
abbrev pub HasAsked : List ControlView → List Step → List Notice → Endpoint (PutterView Asked ℕ) → Type 0
HasAsked controls steps collected endpoint = (d : ControlView) →
    AreAsked collected (slice_index_or controls endpoint.place d).actor
    (kills_to (slice_index_or controls endpoint.place d).actor steps) (length endpoint.pass.put)

-- a caller of these actors did these steps
pub record FollowsSteps (lines : CallerLines) (actors : List ℕ) (steps : List Step) (driver : Driver) : Type 0 where
  pub calls : driver.owner.calls ≡ planned actors steps
  pub copies : (a : ℕ) → copies_in a driver.owner.handles ≡ holds a actors (done_by actors nothing_done steps)
  pub kills : All (HasAsked lines.controls.now steps driver.passes.collects.taken) driver.passes.kills.items

-- one step more is done, where it is not refused
abbrev pub FollowsBy : CallerLines → Step → Driver → Driver → Type 0
FollowsBy lines step old new = (actors : List ℕ) (steps : List Step) →
    is_refused actors (done_by actors nothing_done steps) step ≡ false → FollowsSteps lines actors steps old →
    FollowsSteps lines actors (steps ++ step ∷ []) new

-- one kill more was asked of the actor, and nothing else was done
pub record AsksMore (controls : List ControlView) (a : ℕ) (old new : Driver) : Type 0 where
  pub owner : new.owner ≡ old.owner
  pub collects : new.passes.collects ≡ old.passes.collects
  pub kills : (taken : List Notice) (steps : List Step) → All (HasAsked controls steps taken) old.passes.kills.items →
      All (HasAsked controls (steps ++ Kill a ∷ []) taken) new.passes.kills.items

-- nothing is submitted or asked, and no notice is forgotten
pub record OnlyReleases (old new : Driver) : Type 0 where
  pub stay : Stays old new
  pub calls : new.owner.calls ≡ old.owner.calls
  pub kills : new.passes.kills.items ≡ old.passes.kills.items
  pub heard : (notice : Notice) → Contains old.passes.collects.taken notice → Contains new.passes.collects.taken notice
  pub handles : (a : ℕ) → (is_some (copies_in a new.owner.handles) ≡ is_some (copies_in a old.owner.handles))
      × (copies_held (copies_in a new.owner.handles) ≤ copies_held (copies_in a old.owner.handles))

-- no two of these endpoints are at mail lines of the same actor
abbrev pub AreDistinct : List MailView → List (Endpoint (PutterView Letter Unit)) → Type 0
AreDistinct mails endpoints = AllPairs (λ one other. (d : MailView) →
    (slice_index_or mails one.place d).actor ≢ (slice_index_or mails other.place d).actor) endpoints

-- a pass that posted, or asked, nothing yet
pub record IsFreshEndpoint (mails : List MailView) (id : ℕ)
    (endpoint : Endpoint (PutterView Letter Unit)) : Type 0 where
  pub below : endpoint.place < length mails
  pub line : (d : MailView) → (slice_index_or mails endpoint.place d).line ≡ endpoint.pass.line
  pub number : endpoint.pass.number ≡ id
  pub put : endpoint.pass.put ≡ []
  pub stamps : endpoint.pass.stamps ≡ []

-- passes of a caller with which nothing was done, at lines of its actors and its own
pub record IsUnusedCaller (mails : List MailView) (controls : List ControlView) (replies : RepliesView) (id : ℕ)
    (passes : CallerPasses) : Type 0 where
  pub collects : passes.collects.line ≡ replies.line
  pub taken : passes.collects.taken ≡ []
  pub stamps : passes.collects.stamps ≡ []
  pub letters : All (IsFreshEndpoint mails id) passes.letters.items
  pub distinct : AreDistinct mails passes.letters.items
  pub kills : AreKillEndpoints controls passes.kills.items
  pub asked : All (λ endpoint. endpoint.pass.put ≡ []) passes.kills.items
  pub asked_stamps : All (λ endpoint. endpoint.pass.stamps ≡ []) passes.kills.items

-- the owner and the passes are as opened
pub record IsFreshCaller (lines : CallerLines) (owner : OwnerView) (passes : CallerPasses) : Type 0 where
  pub owner_is : owner ≡ opened_under owner.limits owner.id (actors_in owner.handles)
  pub unused : IsUnusedCaller lines.mails.now lines.controls.now lines.replies.now owner.id passes

-- the note of the last handle of an actor among these was posted at an endpoint, or its death was collected
abbrev pub HasNote : List ℕ → OwnerView → CallerPasses → ℕ → Type 0
HasNote actors owner passes a = Contains actors a →
    Contains (posted_in passes.letters.items) (last_note owner a) ⊎ Contains passes.collects.taken (Death a)

-- each call of a caller to an actor has an answer
abbrev pub AreAnswered : OwnerView → ℕ → Type 0
AreAnswered owner a = (k : ℕ) (call : Submission) → slice_get owner.calls k ≡ Some call → call.actor ≡ a →
    is_some (kept_at owner.kept k) ≡ true

-- a caller needs nothing more of an actor: its death was collected, or the note of its last handle was posted and each
-- call to it is answered
abbrev pub IsThrough : OwnerView → CallerPasses → ℕ → Type 0
IsThrough owner passes a = Contains passes.collects.taken (Death a)
    ⊎ (Contains (posted_in passes.letters.items) (last_note owner a) × AreAnswered owner a)

-- the same of the actor at whose control line an endpoint is
abbrev pub HasEndedAt : List ControlView → OwnerView → CallerPasses → Endpoint (PutterView Asked ℕ) → Type 0
HasEndedAt controls owner passes endpoint = (d : ControlView) →
    IsThrough owner passes (slice_index_or controls endpoint.place d).actor

-- the same of all the caller's actors
abbrev pub HaveEnded : CallerLines → OwnerView → CallerPasses → Type 0
HaveEnded lines owner passes = All (HasEndedAt lines.controls.now owner passes) passes.kills.items

-- a plan was done to its end, by a caller of these actors
pub record HasDone (lines : CallerLines) (actors : List ℕ) (plan : List Step) (owner : OwnerView)
    (passes : CallerPasses) : Type 0 where
  pub calls : owner.calls ≡ planned actors plan
  pub answered : (k : ℕ) → k < length owner.calls → is_some (kept_at owner.kept k) ≡ true
  pub kills : All (HasAsked lines.controls.now plan passes.collects.taken) passes.kills.items
  pub sent : (letter : Letter) → IsDue owner letter →
      Contains (posted_in passes.letters.items) letter
      ⊎ IsIdle lines.mails.now passes.collects.taken passes.letters.items (actor_of_letter letter)
  pub notes : All (λ endpoint. (d : MailView) →
      HasNote actors owner passes (slice_index_or lines.mails.now endpoint.place d).actor) passes.letters.items

-- a plan that fits some actors is done to its end, where no step was done before
abbrev pub DoesWhole : CallerLines → List Step → Driver → Driver → Type 0
DoesWhole lines plan old new = (actors : List ℕ) → first_bad actors plan ≡ None → FollowsSteps lines actors [] old →
    HasDone lines actors plan new.owner new.passes

-- whatever steps were done before, they are done to their end
abbrev pub EndsSteps : CallerLines → Driver → Driver → Type 0
EndsSteps lines old new = (actors : List ℕ) (steps : List Step) → FollowsSteps lines actors steps old →
    HasDone lines actors steps new.owner new.passes

-- the letters at an endpoint are the owner's, and no call is there twice, nor the note
abbrev pub HasPosted : List MailView → OwnerView → Endpoint (PutterView Letter Unit) → Type 0
HasPosted mails owner endpoint = (d : MailView) →
    All (IsSent owner (slice_index_or mails endpoint.place d).actor) endpoint.pass.put
    × AllPairs AreTwo endpoint.pass.put

-- what was posted among such endpoints was posted at the one of its actor
abbrev pub LettersStandAtTheirEndpoints : Type 0
LettersStandAtTheirEndpoints = (mails : List MailView) (owner : OwnerView)
    (endpoints : List (Endpoint (PutterView Letter Unit))) (letter : Letter) → AreDistinct mails endpoints →
    All (HasPosted mails owner) endpoints → Contains (posted_in endpoints) letter
    → All (λ endpoint. (d : MailView) → (slice_index_or mails endpoint.place d).actor ≡ actor_of_letter letter →
    Contains endpoint.pass.put letter) endpoints

-- no call was posted twice among these endpoints, be it to one actor or to two, and no actor's note
abbrev pub IsPostedOnce : List (Endpoint (PutterView Letter Unit)) → Type 0
IsPostedOnce endpoints = AllPairs AreTwo (posted_in endpoints)

-- what a caller's thread leaves, of the owner and the passes that it was given and its plan
pub record HasDriven (lines : CallerLines) (owner : OwnerView) (before : CallerPasses) (plan : List Step)
    (driven : Driven) : Type 0 where
  pub id : driven.owner.id ≡ owner.id
  pub limits : driven.owner.limits ≡ owner.limits
  pub stay : CallerPassesStay before driven.passes
  pub letters : All (HasPosted lines.mails.now driven.owner) driven.passes.letters.items
  pub once : IsPostedOnce driven.passes.letters.items
  pub hears : Hears driven.owner driven.passes.collects.taken
  pub names : All (HasNamed lines.controls.now driven.owner.id) driven.passes.kills.items
  pub done : driven.starved ≡ false → HasDone lines (actors_in owner.handles) plan driven.owner driven.passes
  pub ended : driven.starved ≡ true → HaveEnded lines driven.owner driven.passes
  pub traced : driven.starved ≡ false → HasDonePlan lines.controls.now owner driven.owner plan driven.passes
