-- That what the threads did is a play.
use Rattle.std.specs.Prelude.{◌≡◌, ◌≢◌, ℕ, ◌≤◌, List, [], slice_get, Some, IsOk, All, AllPairs}
use Rattle.std.specs.List.{list_any, AllZip}
use Rattle.act_types.specs.declared.limits.TheConstants.{MAX_ACTORS, MAX_CALLERS}
use Rattle.act_types.specs.declared.call.Notice.TheVariants.{Answered, Death}
use Rattle.act_rules.specs.declared.event.Event.{Event}
use Rattle.act_rules.specs.declared.event.Event.TheVariants.{Submit, Copy, Release, Send, Deliver, Run, Collect, AskKill, TakeKill, Tell, Retire}
use Rattle.act_rules.specs.declared.history.Letter.{Letter}
use Rattle.act_rules.specs.declared.history.Letter.TheVariants.{Call as CallLetter, Note as NoteLetter}
use Rattle.act_rules.specs.declared.history.Post.{Post}
use Rattle.act_rules.specs.declared.history.Post.TheVariants.{Reply as ReplyPost, Death as DeathPost}
use Rattle.act_rules.specs.History.{ActorSpec, History, opening, calls_of, kept_of, runs_of, is_dead, is_retired}
use Rattle.act_rules.specs.Laws.{history}
use Rattle.act_rules.specs.Rules.{outcomes}
use Rattle.act_rules.specs.Actions.{Site, Caller, Actor, Action, Copied, Released, Submitted, Sent, Noticed, KillAsked, CallTaken, NoteTaken, CallRun}
use Rattle.act_rules.specs.Actions.{KillTaken, DeathTold, Retirement, actions_of}
use Rattle.act_actor.specs.Life.{is_retirement, log_of, has_died_in}
use Rattle.act_causes.specs.Deeds.{AreCaused, left_by}

-- no actor has two casts, no caller stands twice in one, and the numbers are those of actors and callers
pub record SpecsFit (casts : List ActorSpec) : Type 0 where
  pub actors_differ : AllPairs (λ one other. one.actor ≢ other.actor) casts
  pub callers_differ : All (λ cast. AllPairs (λ one other. one ≢ other) cast.callers) casts
  pub actors : All (λ cast. cast.actor ≤ MAX_ACTORS) casts
  pub callers : All (λ cast. All (λ c. (1 ≤ c) × (c ≤ MAX_CALLERS)) cast.callers) casts

-- the event brings this letter, which was sent
abbrev pub Brings : History → Letter → Event → Type 0
Brings h letter event = (i : ℕ) × (event ≡ Deliver i) × (slice_get h.mail i ≡ Some letter)

-- the event collects this notice, which was given
abbrev pub Collects : History → Post → Event → Type 0
Collects h post event = (j : ℕ) × (event ≡ Collect j) × (slice_get h.posts j ≡ Some post)

-- the event is the deed, in a play with this history
abbrev pub IsEventOf : History → Site × Action → Event → Type 0
IsEventOf h (Caller c, Copied a) event = event ≡ Copy c a
IsEventOf h (Caller c, Released a) event = event ≡ Release c a
IsEventOf h (Caller c, Submitted a method args) event = event ≡ Submit c a method args
IsEventOf h (Caller c, Sent k) event = event ≡ Send c k
IsEventOf h (Caller c, Noticed (Answered reply)) event = Collects h (ReplyPost c reply.actor reply.place) event
IsEventOf h (Caller c, Noticed (Death a)) event = Collects h (DeathPost c a) event
IsEventOf h (Caller c, KillAsked a) event = event ≡ AskKill c a
IsEventOf h (Actor a, CallTaken packet) event = Brings h (CallLetter packet.caller a packet.number) event
IsEventOf h (Actor a, NoteTaken note) event = Brings h (NoteLetter note.caller a note.after) event
IsEventOf h (Actor a, CallRun item) event = event ≡ Run a item.caller
IsEventOf h (Actor a, KillTaken asker note) event = event ≡ TakeKill a
IsEventOf h (Actor a, DeathTold c) event = event ≡ Tell a c
IsEventOf h (Actor a, Retirement) event = event ≡ Retire a
IsEventOf h deed event = ⊥

-- a play takes these events, and leaves each caller and each actor as what it did leaves it
pub record IsPlayOfRun (casts : List ActorSpec) (run : Site → List Action) (events : List Event) : Type 0 where
  pub accepted : All IsOk (outcomes (opening casts) events)
  pub calls : (c : ℕ) → calls_of c (history casts events) ≡ (left_by casts c (run (Caller c))).calls
  pub kept : (c : ℕ) → kept_of c (history casts events) ≡ (left_by casts c (run (Caller c))).kept
  pub runs : (a : ℕ) → runs_of a (history casts events) ≡ log_of (run (Actor a))
  pub dead : (a : ℕ) → is_dead a (history casts events) ≡ has_died_in (run (Actor a))
  pub retired : (a : ℕ) → is_retired a (history casts events) ≡ list_any is_retirement (run (Actor a))

-- these events are the deeds, one by one; a play takes them all, and leaves callers and actors as the deeds do
pub record IsPlayOfDeeds (casts : List ActorSpec) (deeds : List (Site × Action)) (events : List Event) : Type 0 where
  pub steps : AllZip (IsEventOf (history casts events)) deeds events
  pub leaves : IsPlayOfRun casts (λ site. actions_of site deeds) events

-- whatever was done, where each deed is caused by those before it: some play does the same
abbrev pub CausedDeedsArePlays : Type 0
CausedDeedsArePlays = (casts : List ActorSpec) (deeds : List (Site × Action)) →
    SpecsFit casts → AreCaused casts [] deeds → (events : List Event) × IsPlayOfDeeds casts deeds events
