-- What a caller's code does while it is rehearsed.
use Rattle.std.specs.Prelude.{◌≡◌, List, Option}
use Rattle.act_rules.specs.declared.history.Submission.{Submission}
use Rattle.act_rules.specs.RunList.{Answer}
use Rattle.act_owner.specs.Owner.{OwnerView}
use Rattle.act_drive.specs.Driven.{KeptOn}
use Rattle.act_drive.specs.Sessions.{SessionView, session_view, IsLater, OnlyHears}

-- some notices are taken, and no step is done
pub record OnlyTakes (old new : SessionView) : Type 0 where
  pub hears : OnlyHears old new
  pub on : IsLater old new
  pub did : new.did ≡ old.did

-- the code of a caller that was opened so came to its end, and what it tells holds of what it saw there: these were
-- its calls, and these answers are those that it saw, or came later
pub record HasEnded (tells : SessionView → SessionView → Type 0) (opened : OwnerView) (calls : List Submission)
    (kept : List (Option Answer)) : Type 0 where
  pub last : SessionView
  pub told : tells (session_view opened) last
  pub calls_are : calls ≡ last.calls
  pub kept_on : KeptOn last.kept kept
