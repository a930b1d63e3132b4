-- What was read of a history, and what a walk that follows it decides.
use Rattle.std.specs.Prelude.{◌≡◌, ◌≤◌, ℕ, List, map, Some, None, IsTrue}
use Rattle.std.specs.List.{list_all}
use Rattle.act_types.specs.declared.limits.TheConstants.{MAX_CALLERS}
use Rattle.act_rules.specs.declared.event.Event.{Event}
use Rattle.act_rules.specs.declared.script.Role.{Role}
use Rattle.act_rules.specs.declared.script.Step.{Step}
use Rattle.act_rules.specs.History.{ActorSpec, actors_naming}
use Rattle.act_rules.specs.Laws.{history}
use Rattle.act_rules.specs.Plans.{first_bad}
use Rattle.act_rules.specs.Report.{summary}
use Rattle.act_rules.specs.Scripts.{actor_spec_of}
use Rattle.act_summaries.specs.Lines.{AreTold}
use Rattle.act_summaries.specs.Summaries.{is_sayable_role, is_sayable_event}
use Rattle.act_told_ends.specs.Told.{Told, Leaves}
use Rattle.act_told_ends.specs.Retiring.{RetiredAsTold}
use Rattle.act_walks.specs.declared.told.ToldEnd.{ToldEnd}
use Rattle.act_walks.specs.Eager.{SomeEnd}
use Rattle.act_walks.specs.Fits.{Fits, bound_of}
use Rattle.act_decisions.specs.Agreed.{AgreesWith}
use Rattle.act_decisions.specs.Fits.{AllFitRoles, AllFitSteps}
use Rattle.act_decisions.specs.Misplaced.{IsMisplaced}
use Rattle.act_decisions.specs.Placed.{RunsArePlaced, AllDecided, NoValueIsLost}
use Rattle.act_decisions.specs.Play.{EndsSo, HasCalls}
use Rattle.act_decisions.specs.Within.{IsOfNumbers}

-- no step of a bound caller is refused in every play
abbrev pub HasGoodPlans : ToldEnd → List Role → Type 0
HasGoodPlans end roles = (c : ℕ) (plan : List Step) → 1 ≤ c → c ≤ MAX_CALLERS → bound_of end c ≡ Some plan →
    first_bad (actors_naming c (map actor_spec_of roles)) plan ≡ None

-- what was read has the callers of the roles, and agrees with the lines
pub record IsLined (end : ToldEnd) (roles : List Role) (rest : List ℕ) : Type 0 where
  pub within : IsOfNumbers end
  pub callers : AllFitRoles end roles
  pub agreed : AgreesWith end rest

-- it fits plans and steps, too, and nothing of it has to be guessed
pub record IsRead (end : ToldEnd) (roles : List Role) (steps : List (ℕ × Step × ℕ)) (rest : List ℕ) : Type 0 where
  pub lined : IsLined end roles rest
  pub plans : HasGoodPlans end roles
  pub lines : AllFitSteps end steps
  pub placed : RunsArePlaced end
  pub decided : AllDecided (map actor_spec_of roles) end
  pub lost : NoValueIsLost (map actor_spec_of roles) end

-- the events leave what steps and lines tell
pub record Matches (casts : List ActorSpec) (steps : List (ℕ × Step × ℕ)) (rest : List ℕ)
    (events : List Event) : Type 0 where
  pub calls : (c : ℕ) → 1 ≤ c → c ≤ MAX_CALLERS → HasCalls c steps (history casts events)
  pub shown : AreTold rest (summary (history casts events))

-- a script can write these events
abbrev pub AreSayable : List Event → Type 0
AreSayable events = IsTrue (list_all is_sayable_event events)

-- a walk ends as is told, wherever some events do, and the data says what is told
abbrev pub FollowsTold : ToldEnd → List ActorSpec → List Event → Type 0
FollowsTold end casts walk = (told : Told) → SomeEnd casts (bound_of end) told → Fits end told →
    Leaves told (history casts walk) × RetiredAsTold told (history casts walk)

-- where some events end as steps and lines tell, such a walk after what was read matches them, too
abbrev pub WalksDecide : Type 0
WalksDecide = (roles : List Role) (steps : List (ℕ × Step × ℕ)) (rest : List ℕ) (end : ToldEnd)
    (events walk : List Event) →
    IsTrue (list_all is_sayable_role roles) → AreSayable events → AreSayable walk → IsRead end roles steps rest →
    EndsSo (map actor_spec_of roles) steps events rest → FollowsTold end (map actor_spec_of roles) walk →
    Matches (map actor_spec_of roles) steps rest walk

-- and no run is told that no events leave
abbrev pub NoRunIsMisplaced : Type 0
NoRunIsMisplaced = (roles : List Role) (steps : List (ℕ × Step × ℕ)) (rest : List ℕ) (end : ToldEnd)
    (events : List Event) →
    IsTrue (list_all is_sayable_role roles) → AreSayable events → IsLined end roles rest →
    EndsSo (map actor_spec_of roles) steps events rest → IsMisplaced end → ⊥
