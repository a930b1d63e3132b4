-- What an end of codes is.
use Rattle.std.specs.Prelude.{◌≡◌, ℕ, ◌≤◌, true, List, map, filter, Option, is_some, IsOk, All}
use Rattle.std.specs.List.{list_all}
use Rattle.act_types.specs.declared.limits.TheConstants.{MAX_CALLERS}
use Rattle.act_rules.specs.declared.event.Event.{Event}
use Rattle.act_rules.specs.declared.history.Submission.{Submission}
use Rattle.act_rules.specs.RunList.{Answer}
use Rattle.act_rules.specs.History.{ActorSpec, History, opening, contains, is_caller, calls_of, kept_of}
use Rattle.act_rules.specs.Laws.{history}
use Rattle.act_rules.specs.Rules.{outcomes}
use Rattle.act_owner.specs.Owner.{OwnerView, opened_with}
use Rattle.act_world.specs.IsReachedBy.{IsReachedBy}
use Rattle.act_world.specs.View.{WorldView}
use Rattle.act_drive.specs.Sessions.{SessionView}
use Rattle.act_code_ends.specs.Rehearsals.{HasEnded}

-- a caller as it is opened: it holds a handle of each actor whose cast names it, under the limits of the casts
abbrev pub opened_of : ℕ → List ActorSpec → OwnerView
opened_of c casts = opened_with c (map (λ cast. (cast.actor, cast.pending)) (filter (λ cast. contains c cast.callers) casts))

-- a code that is made for a caller came to its end, with these calls and answers, and each call has an answer
pub record IsThrough {C : Type 0} (makes : C → Type 0) (tells : C → SessionView → SessionView → Type 0)
    (opened : OwnerView) (calls : List Submission) (kept : List (Option Answer)) : Type 0 where
  pub code : C
  pub made : makes code
  pub ended : HasEnded (tells code) opened calls kept
  pub answered : list_all is_some kept ≡ true

-- whatever events a world stands after: where a cast names the caller, its code came to its end with the calls and the
-- answers that these events leave
abbrev pub IsLeft : {C : Type 0} → (ℕ → C → Type 0) → (C → SessionView → SessionView → Type 0) → List ActorSpec → ℕ →
    WorldView → Type 0
IsLeft makes tells casts c world = (specs : List ActorSpec) (events : List Event) → IsReachedBy specs events world →
    is_caller c (history specs events) ≡ true → IsThrough (makes c) tells (opened_of c casts)
    (calls_of c (history specs events)) (kept_of c (history specs events))

-- whatever events a world stands after: this is said of their history
abbrev pub SaysAt : (History → Type 0) → WorldView → Type 0
SaysAt Says world = (casts : List ActorSpec) (events : List Event) → IsReachedBy casts events world →
    Says (history casts events)

-- the rules accept each of these events, the world stands after them, and the code of each caller came to its end with
-- the calls and the answers that they leave
pub record IsEnd {C : Type 0} (makes : ℕ → C → Type 0) (tells : C → SessionView → SessionView → Type 0)
    (casts : List ActorSpec) (events : List Event) (world : WorldView) : Type 0 where
  pub accepted : All IsOk (outcomes (opening casts) events)
  pub reached : IsReachedBy casts events world
  pub through : (c : ℕ) → 1 ≤ c → c ≤ MAX_CALLERS → is_caller c (history casts events) ≡ true →
      IsThrough (makes c) tells (opened_of c casts) (calls_of c (history casts events)) (kept_of c (history casts events))
