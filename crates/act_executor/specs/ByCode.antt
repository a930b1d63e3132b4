-- What the threads of a run leave where a caller may be code of its own.
use Rattle.std.specs.Prelude.{◌≡◌, ◌≢◌, ℕ, ◌==◌, true, false, List, [], map, find, slice_get, Option, Some, None, option_map, All, AllPairs}
use Rattle.std.specs.List.{list_any}
use Rattle.act_rules.specs.declared.script.Step.{Step}
use Rattle.act_rules.specs.History.{ActorSpec, contains, actors_naming}
use Rattle.act_owner.specs.Owner.{OwnerView}
use Rattle.act_mailbox.specs.Lines.{items_from}
use Rattle.act_mailbox.specs.Mails.{MailView}
use Rattle.act_mailbox.specs.Controls.{ControlView, asker_of, starter}
use Rattle.act_mailbox.specs.Notices.{RepliesView}
use Rattle.act_serve.specs.Served.{EndView, end_id}
use Rattle.act_drive.specs.declared.caller.Driven.{Driven}
use Rattle.act_drive.specs.Sessions.{SessionView}
use Rattle.act_drive.specs.Coded.{HasConcluded}
use Rattle.act_causes.specs.Deeds.{opened_of}
use Rattle.act_plans.specs.Runs.{limits_naming, callers_of_casts, actors_of_casts, cast_at, plan_of}
use Rattle.act_executor.specs.Joined.{IsJoined, CallsThatDiedNeverRan, is_starved, owner_of, kept_in, log_in}
use Rattle.act_executor.specs.PlanPlays.{IsPlayedAsPlanned}
use Rattle.act_executor.specs.Left.{ServedView, IsServed, IsDriven, AreAudited, AreCasts}

-- the code of a caller, where it is given one
abbrev pub code_of : {C : Type 0} → ℕ → List (ℕ × C) → Option C
code_of c codes = option_map (λ given. given.1) (find (λ given. given.0 == c) codes)

-- an owner is left of the caller that a code was given to, and what the code tells holds of the caller as it was opened
-- and as it is left, by the steps that it did
pub record HasTold {C : Type 0} (tells : C → SessionView → SessionView → Type 0) (casts : List ActorSpec)
    (steps : List (ℕ × List Step)) (owners : List OwnerView) (given : ℕ × C) : Type 0 where
  pub owner : OwnerView
  pub left : owner_of given.0 owners ≡ Some owner
  pub told : HasConcluded (tells given.1) (plan_of given.0 steps) (opened_of given.0 casts) owner

-- callers by plans and callers by code, in threads: some steps were run as any plans are; a caller without code did its
-- plan, and what each code tells holds
pub record IsJoinedBy {C : Type 0} (tells : C → SessionView → SessionView → Type 0) (casts : List ActorSpec)
    (plans : List (ℕ × List Step)) (codes : List (ℕ × C)) (owners : List OwnerView) (ends : List EndView) : Type 0 where
  pub steps : List (ℕ × List Step)
  pub joined : IsJoined casts steps owners ends
  pub planned : (c : ℕ) → code_of c codes ≡ None → plan_of c steps ≡ plan_of c plans
  pub told : All (HasTold tells casts steps owners) codes

-- and there is a play of the same steps
abbrev pub IsPlayedBy : {C : Type 0} → (C → SessionView → SessionView → Type 0) → List ActorSpec →
    List (ℕ × List Step) → List (ℕ × C) → List OwnerView → List EndView → Type 0
IsPlayedBy tells casts plans codes owners ends = (run : IsJoinedBy tells casts plans codes owners ends)
    × IsPlayedAsPlanned casts run.steps owners ends

-- a caller did some steps to the end: its plan where it has no code, and else what its code tells holds
pub record IsDrivenBy {C : Type 0} (tells : C → SessionView → SessionView → Type 0) (mails : List MailView)
    (controls : List ControlView) (casts : List ActorSpec) (plans : List (ℕ × List Step)) (codes : List (ℕ × C))
    (d : Driven) : Type 0 where
  pub steps : List Step
  pub did : IsDriven mails controls (actors_naming d.owner.id casts) steps d
  pub planned : code_of d.owner.id codes ≡ None → steps ≡ plan_of d.owner.id plans
  pub told : (code : C) → code_of d.owner.id codes ≡ Some code →
      HasConcluded (tells code) steps (opened_of d.owner.id casts) d.owner

-- as `AreJoined`, where each code is of another caller, which some cast names
pub record AreJoinedBy {C : Type 0} (tells : C → SessionView → SessionView → Type 0) (mails : List MailView)
    (controls : List ControlView) (replies : List RepliesView) (casts : List ActorSpec) (plans : List (ℕ × List Step))
    (codes : List (ℕ × C)) (driven : List Driven) (served : List ServedView) : Type 0 where
  pub casts_are : AreCasts casts
  pub callers : map (λ d. d.owner.id) driven ≡ callers_of_casts casts
  pub differ : AllPairs (λ one other. one.owner.id ≢ other.owner.id) driven
  pub actors : map (λ s. end_id s.end) served ≡ actors_of_casts casts
  pub all_served : All (λ s. (cast : ActorSpec) → cast_at (end_id s.end) casts ≡ Some cast →
      IsServed replies cast s) served
  pub all_driven : All (IsDrivenBy tells mails controls casts plans codes) driven
  pub limits : All (λ d. d.owner.limits ≡ limits_naming d.owner.id casts) driven
  pub audited : (i j : ℕ) (d : Driven) (s : ServedView) (cast : ActorSpec) → slice_get driven i ≡ Some d →
      slice_get served j ≡ Some s → cast_at (end_id s.end) casts ≡ Some cast →
      contains d.owner.id cast.callers ≡ true → AreAudited mails controls replies (end_id s.end) d.owner.id d s
  pub starter : All (λ s. items_from asker_of starter s.passes.kills.taken ≡ []) served
  pub fed : All (λ s. is_starved s.end ≡ false) served
  pub codes_differ : AllPairs (λ one other. one.0 ≢ other.0) codes
  pub codes_named : All (λ given. list_any (λ cast. contains given.0 cast.callers) casts ≡ true) codes

-- what the threads leave, and the audits, make a run that the rules allow, where no call that died ran
abbrev pub JoinedCallersAreConsistent : {C : Type 0} → (C → SessionView → SessionView → Type 0) → Type 0
JoinedCallersAreConsistent {C} tells = (mails : List MailView) (controls : List ControlView)
    (replies : List RepliesView) (casts : List ActorSpec) (plans : List (ℕ × List Step)) (codes : List (ℕ × C))
    (driven : List Driven) (served : List ServedView) →
    AreJoinedBy tells mails controls replies casts plans codes driven served →
    CallsThatDiedNeverRan (kept_in (map (λ d. d.owner) driven)) (log_in (map (λ s. s.end) served)) →
    IsJoinedBy tells casts plans codes (map (λ d. d.owner) driven) (map (λ s. s.end) served)
