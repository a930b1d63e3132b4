-- What moves in a play of plans, and where it stands.
use Rattle.std.specs.Prelude.{◌≡◌, ℕ, ◌<◌, true, false, List, [], slice_get, Some, All, IsOk}
use Rattle.act_types.specs.KindState.{KindState}
use Rattle.act_types.specs.declared.limits.TheConstants.{CALLER_NUMBERS}
use Rattle.act_rules.specs.declared.event.Event.{Event}
use Rattle.act_rules.specs.declared.event.Event.TheVariants.{Release as ReleaseEvent, Deliver}
use Rattle.act_rules.specs.declared.history.Letter.{Letter}
use Rattle.act_rules.specs.declared.outcome.Did.{Did}
use Rattle.act_rules.specs.declared.outcome.Did.TheVariants.{Mail}
use Rattle.act_rules.specs.declared.script.Step.{Step}
use Rattle.act_rules.specs.declared.script.Step.TheVariants.{Release}
use Rattle.act_rules.specs.History.{ActorSpec, History, opening, contains, is_ended, has_letter}
use Rattle.act_rules.specs.Laws.{history}
use Rattle.act_rules.specs.Rules.{did, add_event, after, outcomes, letter_actor}
use Rattle.act_world.specs.View.{WorldView, world_view}
use Rattle.act_world.specs.IsReachedBy.{IsReachedBy}
use Rattle.act_early.specs.Plays.{At, steps_of, after_step, IsPlay}
use Rattle.act_plan_plays.specs.declared.played.Played.{Played}

-- a world, the events that it stands after, how many steps each caller did, and the actors whose kill was asked
pub record Parts : Type 0 where
  pub world : WorldView
  pub events : List Event
  pub done : List ℕ
  pub asked : List ℕ

abbrev pub parts_of : {K : Type 0} → (K → KindState) → Played K → Parts
parts_of state played = record {
  world = world_view state played.world;
  events = played.events.items;
  done = played.done;
  asked = played.asked.items;
}

-- ---- where they stand

-- the world stands after these events, each of them accepted, and this is their history
pub record IsBehind (casts : List ActorSpec) (h : History) (world : WorldView) (events : List Event) : Type 0 where
  pub is : h ≡ history casts events
  pub reached : IsReachedBy casts events world
  pub accepted : All IsOk (outcomes (opening casts) events)

-- each caller did so many steps
abbrev pub HasSteps : At → List ℕ → Type 0
HasSteps at done = (c : ℕ) → c < CALLER_NUMBERS → slice_get done c ≡ Some (steps_of c at)

-- the kills of these actors were asked
abbrev pub HasAsked : History → List ℕ → Type 0
HasAsked h asked = (a : ℕ) → contains a asked ≡ contains a h.asked

-- each letter that was sent has arrived, if its actor lives
abbrev pub IsBrought : History → Type 0
IsBrought h = (letter : Letter) → has_letter letter h.mail ≡ true → is_ended (letter_actor letter) h ≡ false →
    has_letter letter h.arrived ≡ true

-- the parts stand where the play is
pub record Stands (casts : List ActorSpec) (plans : ℕ → List Step) (at : At) (parts : Parts) : Type 0 where
  pub play : IsPlay casts plans at
  pub live : at.history.retired ≡ []
  pub behind : IsBehind casts at.history parts.world parts.events
  pub steps : HasSteps at parts.done
  pub asked : HasAsked at.history parts.asked
  pub brought : IsBrought at.history

-- ---- how they go on

-- the history after the letter that is told was brought, if one is told
abbrev pub after_mail : Did → History → History
after_mail (Mail i) h = after h (Deliver i)
after_mail told h = h

-- and after an event and the letter that it tells
abbrev pub after_post : Event → History → History
after_post event h = after_mail (did h event) (add_event h event)

-- and after a step and the letter that it tells
abbrev pub after_move : ℕ → Step → History → History
after_move c (Release a) h = after_post (ReleaseEvent c a) h
after_move c step h = after_step c step h
