-- What the threads of a run leave, once their lines were audited.
use Rattle.std.specs.Prelude.{◌≡◌, ◌≢◌, ℕ, ◌<◌, true, false, List, [], ◌∷◌, ◌++◌, length, map, zip, slice_get, slice_index_or, Some, is_some, All, AllPairs}
use Rattle.std.specs.Prelude.{Contains}
use Rattle.act_types.specs.declared.limits.TheConstants.{MAX_ACTORS, MAX_CALLERS}
use Rattle.act_rules.specs.declared.script.Step.{Step}
use Rattle.act_rules.specs.RunList.{NothingFollowsAnEnd}
use Rattle.act_rules.specs.Submissions.{kept_at}
use Rattle.act_rules.specs.Consistent.{IsPrefix}
use Rattle.act_rules.specs.History.{ActorSpec, contains, actors_naming}
use Rattle.act_rules.specs.Plans.{planned}
use Rattle.act_rules.specs.Report.{one_to}
use Rattle.act_owner.specs.Life.{Hears}
use Rattle.act_mailbox.specs.declared.mail.Letter.{Letter}
use Rattle.act_mailbox.specs.declared.control.Asked.{Asked}
use Rattle.act_mailbox.specs.Lines.{items_from}
use Rattle.act_mailbox.specs.Passes.{PutterView}
use Rattle.act_mailbox.specs.Mails.{MailView, caller_of}
use Rattle.act_mailbox.specs.Controls.{ControlView, asker_of, starter}
use Rattle.act_mailbox.specs.Notices.{RepliesView, ReplyExecView, notice_actor}
use Rattle.act_mailbox.specs.declared.thread.Endpoint.{Endpoint}
use Rattle.act_serve.specs.declared.turn.ExecPasses.{ExecPasses}
use Rattle.act_serve.specs.Served.{EndView, end_id, end_log, IsLogOf, replies_to, deaths, caller_at, endpoint_callers, KillsTaken, HasDrained, IfRetired}
use Rattle.act_drive.specs.declared.caller.Driven.{Driven}
use Rattle.act_drive.specs.Driven.{HasPosted, HasAsked}
use Rattle.act_plans.specs.Runs.{limits_naming, callers_of_casts, actors_of_casts, cast_at, plan_of}
use Rattle.act_executor.specs.Joined.{IsJoined, CallsThatDiedNeverRan, is_starved, kept_in, log_in}

-- an actor at its end, with its executor's passes
pub record ServedView : Type 0 where
  pub end : EndView
  pub passes : ExecPasses

-- the actor of a cast was served to its end
pub record IsServed (replies : List RepliesView) (cast : ActorSpec) (s : ServedView) : Type 0 where
  pub callers : List ℕ
  pub same_callers : (c : ℕ) → contains c callers ≡ contains c cast.callers
  pub endpoints : endpoint_callers replies s.passes.notices.items ≡ callers
  pub log : IsLogOf cast.actor callers s.passes.letters.taken (end_log s.end)
  pub last : NothingFollowsAnEnd (end_log s.end)
  pub given : All (λ endpoint.
      endpoint.pass.given ≡ replies_to cast.opening cast.actor (end_log s.end) (caller_at replies endpoint.place)
      ++ deaths cast.actor s.end) s.passes.notices.items
  pub kills : KillsTaken s.passes.kills s.end
  pub askers : s.passes.kills.askers ≡ starter ∷ cast.callers
  pub drained : IfRetired s.end (HasDrained cast.opening callers s.passes.letters.taken)

-- a caller of these actors did its plan to the end
pub record IsDriven (mails : List MailView) (controls : List ControlView) (actors : List ℕ) (plan : List Step)
    (d : Driven) : Type 0 where
  pub letters : All (HasPosted mails d.owner) d.passes.letters.items
  pub hears : Hears d.owner d.passes.collects.taken
  pub calls : d.owner.calls ≡ planned actors plan
  pub answered : (k : ℕ) → k < length d.owner.calls → is_some (kept_at d.owner.kept k) ≡ true
  pub kills : All (HasAsked controls plan d.passes.collects.taken) d.passes.kills.items

-- what was taken of the caller in the actor's mail line is a prefix of what it put there, and so it is with stamps
pub record LettersAudited (mails : List MailView) (a c : ℕ) (d : Driven) (s : ServedView) : Type 0 where
  pub endpoint : Endpoint (PutterView Letter Unit)
  pub sits : Contains d.passes.letters.items endpoint
  pub line : (m : MailView) → (slice_index_or mails endpoint.place m).actor ≡ a
  pub front : IsPrefix (items_from caller_of c s.passes.letters.taken) endpoint.pass.put
  pub stamped : IsPrefix (items_from (λ x. caller_of x.0) c (zip s.passes.letters.taken s.passes.letters.stamps))
      (zip endpoint.pass.put endpoint.pass.stamps)

-- the same of its kills in the actor's control line
pub record KillsAudited (controls : List ControlView) (a c : ℕ) (d : Driven) (s : ServedView) : Type 0 where
  pub endpoint : Endpoint (PutterView Asked ℕ)
  pub sits : Contains d.passes.kills.items endpoint
  pub line : (k : ControlView) → (slice_index_or controls endpoint.place k).actor ≡ a
  pub front : IsPrefix (items_from asker_of c s.passes.kills.taken) endpoint.pass.put
  pub stamped : IsPrefix (items_from (λ x. asker_of x.0) c (zip s.passes.kills.taken s.passes.kills.stamps))
      (zip endpoint.pass.put endpoint.pass.stamps)

-- what the caller collected of the actor is a prefix of what it was given, and so it is with stamps
pub record NoticesAudited (replies : List RepliesView) (a c : ℕ) (d : Driven) (s : ServedView) : Type 0 where
  pub endpoint : Endpoint ReplyExecView
  pub sits : Contains s.passes.notices.items endpoint
  pub line : caller_at replies endpoint.place ≡ c
  pub front : IsPrefix (items_from notice_actor a d.passes.collects.taken) endpoint.pass.given
  pub stamped : IsPrefix
      (items_from (λ x. notice_actor x.0) a (zip d.passes.collects.taken d.passes.collects.stamps))
      (zip endpoint.pass.given endpoint.pass.stamps)

-- the lines of a pair were audited
pub record AreAudited (mails : List MailView) (controls : List ControlView) (replies : List RepliesView) (a c : ℕ)
    (d : Driven) (s : ServedView) : Type 0 where
  pub letters : LettersAudited mails a c d s
  pub kills : KillsAudited controls a c d s
  pub notices : NoticesAudited replies a c d s

-- no actor has two casts, and the numbers are those of actors and callers
pub record AreCasts (casts : List ActorSpec) : Type 0 where
  pub differ : AllPairs (λ one other. one.actor ≢ other.actor) casts
  pub actors : All (λ cast. Contains (one_to MAX_ACTORS) cast.actor) casts
  pub callers : All (λ cast. All (λ c. Contains (one_to MAX_CALLERS) c) cast.callers) casts

-- each thread did its part, each caller with the limits of the casts; the lines of each pair of an actor and a caller
-- of its cast were audited, and those of the starter, which asked nothing
pub record AreJoined (mails : List MailView) (controls : List ControlView) (replies : List RepliesView)
    (casts : List ActorSpec) (plans : List (ℕ × List Step)) (driven : List Driven)
    (served : List ServedView) : Type 0 where
  pub casts_are : AreCasts casts
  pub callers : map (λ d. d.owner.id) driven ≡ callers_of_casts casts
  pub actors : map (λ s. end_id s.end) served ≡ actors_of_casts casts
  pub all_served : All (λ s. (cast : ActorSpec) → cast_at (end_id s.end) casts ≡ Some cast →
      IsServed replies cast s) served
  pub all_driven : All (λ d.
      IsDriven mails controls (actors_naming d.owner.id casts) (plan_of d.owner.id plans) d) driven
  pub limits : All (λ d. d.owner.limits ≡ limits_naming d.owner.id casts) driven
  pub audited : (i j : ℕ) (d : Driven) (s : ServedView) (cast : ActorSpec) → slice_get driven i ≡ Some d →
      slice_get served j ≡ Some s → cast_at (end_id s.end) casts ≡ Some cast →
      contains d.owner.id cast.callers ≡ true → AreAudited mails controls replies (end_id s.end) d.owner.id d s
  pub starter : All (λ s. items_from asker_of starter s.passes.kills.taken ≡ []) served
  pub fed : All (λ s. is_starved s.end ≡ false) served

-- what the threads leave, and the audits, make a run that the rules allow, where no call that died ran
abbrev pub JoinedRunsAreConsistent : Type 0
JoinedRunsAreConsistent = (mails : List MailView) (controls : List ControlView) (replies : List RepliesView)
    (casts : List ActorSpec) (plans : List (ℕ × List Step)) (driven : List Driven) (served : List ServedView) →
    AreJoined mails controls replies casts plans driven served →
    CallsThatDiedNeverRan (kept_in (map (λ d. d.owner) driven)) (log_in (map (λ s. s.end) served)) →
    IsJoined casts plans (map (λ d. d.owner) driven) (map (λ s. s.end) served)
