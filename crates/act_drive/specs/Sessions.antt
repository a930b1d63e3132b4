-- What a caller's own code sees of its caller, and what contracts say of a session.
use Rattle.std.specs.Prelude.{◌≡◌, ℕ, ◌+◌, ◌==◌, nat_lt, if◌then◌else◌, Bool, not, ◌&&◌, List, [], ◌∷◌, ◌++◌, length, zip, count_by, find, position, take}
use Rattle.std.specs.Prelude.{replicate, slice_index_or, Option, option_and_then, is_some}
use Rattle.std.specs.List.{list_all}
use Rattle.std.specs.Option.{option_map_or}
use Rattle.act_types.specs.declared.call.Arg.{Arg}
use Rattle.act_rules.specs.declared.history.Submission.{Submission}
use Rattle.act_rules.specs.declared.outcome.SubmitRefusal.{SubmitRefusal}
use Rattle.act_rules.specs.declared.script.Step.{Step}
use Rattle.act_rules.specs.declared.outcome.HandleRefusal.{HandleRefusal}
use Rattle.act_rules.specs.RunList.{Answer}
use Rattle.act_rules.specs.Submissions.{submit_refusal, handle_refusal, kept_at}
use Rattle.act_handles.specs.declared.handles.Handle.{Handle}
use Rattle.act_handles.specs.Handles.{copies_in, without_copy}
use Rattle.act_owner.specs.Owner.{OwnerView, call_waits_for}
use Rattle.act_drive.specs.declared.refusals.KillRefusal.{KillRefusal}
use Rattle.act_drive.specs.declared.refusals.KillRefusal.TheVariants.{Handle as BadHandle, TooManyKills, NoMemory}
use Rattle.act_drive.specs.declared.session.TheConstants.{MAX_KILLS}
use Rattle.act_drive.specs.Driven.{KeptOn}

-- what code sees of its caller: its calls so far, the answers kept so far, its handles, and its limits; how many kills
-- it asked of each actor, by the actors' numbers; and the steps that it did, one after another, where a wait is an await
pub record SessionView : Type 0 where
  pub calls : List Submission
  pub kept : List (Option Answer)
  pub handles : List Handle
  pub limits : List (ℕ × Option ℕ)
  pub kills : List ℕ
  pub did : List Step

-- what code sees of a caller that did no step yet
abbrev pub session_view : OwnerView → SessionView
session_view owner = record {
  calls = owner.calls;
  kept = owner.kept;
  handles = owner.handles;
  limits = owner.limits;
  kills = replicate 9 0;
  did = [];
}

-- how many kills of an actor were asked
abbrev pub kills_of : SessionView → ℕ → ℕ
kills_of seen a = slice_index_or seen.kills a 0

-- how many calls of an actor have no answer yet
abbrev pub pending_of : SessionView → ℕ → ℕ
pending_of seen a = count_by (call_waits_for a) (zip seen.calls seen.kept)

-- how many may have none, where the caller was opened with a limit of it
abbrev pub session_limit : SessionView → ℕ → Option ℕ
session_limit seen a = option_and_then (λ limit. limit.1) (find (λ limit. limit.0 == a) seen.limits)

-- why a call is not submitted, memory apart: an actor's limit refuses none, since the caller waits
abbrev pub call_refusal : SessionView → ℕ → List Arg → Option SubmitRefusal
call_refusal seen a args = submit_refusal (copies_in a seen.handles) (length seen.calls) args

-- why a handle is not let go, or a kill not asked
abbrev pub use_refusal : SessionView → ℕ → Option HandleRefusal
use_refusal seen a = handle_refusal (copies_in a seen.handles)

-- why a kill is not asked, where one is refused
abbrev pub kill_refusal : SessionView → ℕ → KillRefusal
kill_refusal seen a = option_map_or BadHandle (use_refusal seen a)
    (if nat_lt (kills_of seen a) MAX_KILLS then NoMemory else TooManyKills)

-- each of these futures is of a call that was submitted
abbrev pub are_known : SessionView → List ℕ → Bool
are_known seen ks = list_all (λ k. nat_lt k (length seen.calls)) ks

-- one of these futures can be waited for: there are some, and each is known
abbrev pub may_wait_for : SessionView → List ℕ → Bool
may_wait_for seen ks = not (length ks == 0) && are_known seen ks

-- the first of these futures that has an answer
abbrev pub first_answered : SessionView → List ℕ → Option ℕ
first_answered seen ks = position (λ k. is_some (kept_at seen.kept k)) ks

-- it is the same caller, later: its limits are the same, and no answer is forgotten
pub record IsLater (old new : SessionView) : Type 0 where
  pub limits : new.limits ≡ old.limits
  pub kept : KeptOn old.kept new.kept

-- these steps are done after the others
abbrev pub DoesMore : List Step → SessionView → SessionView → Type 0
DoesMore steps old new = new.did ≡ old.did ++ steps

-- some of these steps are done after the others, from the first on
abbrev pub DoesSome : List Step → SessionView → SessionView → Type 0
DoesSome steps old new = (n : ℕ) × DoesMore (take n steps) old new

-- nothing is submitted, no handle changes, and no kill is asked
pub record OnlyHears (old new : SessionView) : Type 0 where
  pub calls : new.calls ≡ old.calls
  pub handles : new.handles ≡ old.handles
  pub kills : new.kills ≡ old.kills

-- this call is submitted after the others, no handle is copied or let go, and no kill is asked
pub record Submits (call : Submission) (old new : SessionView) : Type 0 where
  pub calls : new.calls ≡ old.calls ++ call ∷ []
  pub copies : (a : ℕ) → copies_in a new.handles ≡ copies_in a old.handles
  pub kills : new.kills ≡ old.kills

-- a copy of the actor's handle is let go, nothing is submitted, and no kill is asked
pub record LetsGo (a : ℕ) (old new : SessionView) : Type 0 where
  pub calls : new.calls ≡ old.calls
  pub handles : new.handles ≡ without_copy a old.handles
  pub kills : new.kills ≡ old.kills

-- one kill more is asked of the actor, nothing is submitted, and no handle changes
pub record AsksKill (a : ℕ) (old new : SessionView) : Type 0 where
  pub calls : new.calls ≡ old.calls
  pub handles : new.handles ≡ old.handles
  pub kills : (b : ℕ) → kills_of new b ≡ (if b == a then kills_of old b + 1 else kills_of old b)
