-- Where a walk in a world stands, and how it goes on.
use Rattle.std.specs.Prelude.{◌≡◌, ℕ, ◌≤◌, ◌==◌, Bool, true, false, if◌then◌else◌, List, [], ◌∷◌, ◌++◌, length, slice_get, unwrap_or, Option, Some, None}
use Rattle.std.specs.Prelude.{is_some, Contains}
use Rattle.act_types.specs.KindState.{KindState}
use Rattle.act_types.specs.declared.limits.TheConstants.{MAX_ACTORS, MAX_CALLERS, MAX_CALLS}
use Rattle.act_rules.specs.declared.event.Event.{Event}
use Rattle.act_rules.specs.declared.event.Event.TheVariants as event
use Rattle.act_rules.specs.declared.history.Post.TheVariants.{Death as DeathPost}
use Rattle.act_rules.specs.declared.history.RunItem.{RunItem}
use Rattle.act_rules.specs.declared.history.Submission.{Submission}
use Rattle.act_rules.specs.declared.outcome.Did.{Did}
use Rattle.act_rules.specs.declared.script.Step.{Step}
use Rattle.act_rules.specs.History.{ActorSpec, History, calls_of, runs_of, next_item}
use Rattle.act_rules.specs.Laws.{history}
use Rattle.act_rules.specs.RunList.{Answer}
use Rattle.act_rules.specs.Rules.{refusal_of, did, add_event}
use Rattle.act_rules.specs.Submissions.{kept_at}
use Rattle.act_early.specs.Plays.{MayTake}
use Rattle.act_world.specs.View.{WorldView, world_view}
use Rattle.act_plan_plays.specs.Parts.{IsBehind, after_move, after_post}
use Rattle.act_told_ends.specs.Told.{Told}
use Rattle.act_told_ends.specs.Walks.{IsNextRun, MayHear, IsThrough}
use Rattle.act_walks.specs.declared.told.Left.{Left}
use Rattle.act_walks.specs.declared.told.Left.TheVariants.{Open, Reply, Death}
use Rattle.act_walks.specs.declared.told.ToldCall.{ToldCall}
use Rattle.act_walks.specs.declared.told.ToldEnd.{ToldEnd}
use Rattle.act_walks.specs.declared.played.Walked.{Walked}
use Rattle.act_walks.specs.Eager.{SomeEnd, IsEager, KillsAreAsked}
use Rattle.act_executor.specs.PlanPlays.{DoesStepIn}
use Rattle.act_walks.specs.Paced.{IsPaced}
use Rattle.act_walks.specs.Fits.{bound_of, call_of_item, Fits, FitsCasts}

-- a world, the events that it stands after, and how many steps each caller did
pub record Parts : Type 0 where
  pub world : WorldView
  pub events : List Event
  pub done : List ℕ

abbrev pub parts_of : {K : Type 0} → (K → KindState) → Walked K → Parts
parts_of state walk = record { world = world_view state walk.world; events = walk.events.items; done = walk.done }

-- how many of its steps the caller did
abbrev pub done_in : List ℕ → ℕ → ℕ
done_in done c = unwrap_or (slice_get done c) 0

-- ---- where it stands, whatever is told

-- the world stands after the events, each of them accepted, and each bound caller keeps to its steps in them
pub record Stands (end : ToldEnd) (casts : List ActorSpec) (walk : Parts) : Type 0 where
  pub behind : IsBehind casts (history casts walk.events) walk.world walk.events
  pub paced : IsPaced casts (bound_of end) (done_in walk.done) walk.events

-- ---- where it stands, where some events end as is told

-- some events end as is told, which the data says
pub record IsEndOf (end : ToldEnd) (casts : List ActorSpec) (told : Told) : Type 0 where
  pub some : SomeEnd casts (bound_of end) told
  pub fits : Fits end told
  pub cast : FitsCasts end casts

-- it did only what is told, and at once what needs no choice; the kills of those told dead were asked
pub record IsWalking (end : ToldEnd) (casts : List ActorSpec) (told : Told) (walk : Parts) : Type 0 where
  pub eager : IsEager casts (bound_of end) told (done_in walk.done) (history casts walk.events)
  pub asked : KillsAreAsked (bound_of end) told (history casts walk.events)

-- ---- how it goes on

-- a walk goes on to a walk
pub record GoesOn (end : ToldEnd) (old new : Parts) : Type 0 where
  pub stands : (casts : List ActorSpec) → Stands end casts old → Stands end casts new
  pub walks : (casts : List ActorSpec) (told : Told) → IsEndOf end casts told → Stands end casts old →
      IsWalking end casts told old → IsWalking end casts told new

-- it is as it was, where some events end as is told, and this can't be done of what is told
abbrev pub IsStill : ToldEnd → (Told → (ℕ → ℕ) → History → Type 0) → Parts → Parts → Type 0
IsStill end none old new = (casts : List ActorSpec) (told : Told) → IsEndOf end casts told → Stands end casts old →
    IsWalking end casts told old → (new ≡ old) × none told (done_in old.done) (history casts old.events)

-- it goes on, and this is whether it moved
pub record Moves (end : ToldEnd) (none : Told → (ℕ → ℕ) → History → Type 0) (old new : Parts)
    (moved : Bool) : Type 0 where
  pub goes : GoesOn end old new
  pub still : moved ≡ false → IsStill end none old new

-- ---- one event

-- the event was accepted, and it is all that happened
pub record DoesEvent (event : Event) (old new : Parts) : Type 0 where
  pub events : new.events ≡ old.events ++ event ∷ []
  pub done : new.done ≡ old.done
  pub behind : (casts : List ActorSpec) (h : History) → IsBehind casts h old.world old.events →
      (refusal_of h event ≡ None) × IsBehind casts (add_event h event) new.world new.events

-- the letter at this place is delivered, if one is told
abbrev pub bring : Option ℕ → List Event
bring None = []
bring (Some i) = event.Deliver i ∷ []

-- the event was accepted, and the letter that it told was brought, if it told one
pub record DoesPost (event : Event) (old new : Parts) : Type 0 where
  pub letter : Option ℕ
  pub events : new.events ≡ old.events ++ event ∷ bring letter
  pub done : new.done ≡ old.done
  pub behind : (casts : List ActorSpec) (h : History) → IsBehind casts h old.world old.events →
      (refusal_of h event ≡ None) × IsBehind casts (after_post event h) new.world new.events

-- it was refused, and nothing happened
pub record IsRefused (event : Event) (old new : Parts) : Type 0 where
  pub same : new ≡ old
  pub refused : (casts : List ActorSpec) (h : History) → IsBehind casts h old.world old.events →
      refusal_of h event ≡ None → ⊥

-- the event was tried, and this is whether it was done
abbrev pub Tries : Event → Parts → Parts → Bool → Type 0
Tries event old new true = DoesEvent event old new
Tries event old new false = IsRefused event old new

abbrev pub TriesPost : Event → Parts → Parts → Bool → Type 0
TriesPost event old new true = DoesPost event old new
TriesPost event old new false = IsRefused event old new

-- the event was done, and this was told of it
pub record Does (event : Event) (old new : Parts) (told : Did) : Type 0 where
  pub does : DoesEvent event old new
  pub says : (casts : List ActorSpec) (h : History) → IsBehind casts h old.world old.events → told ≡ did h event

-- ---- one step

-- the caller took the step, though it isn't counted yet
pub record DoesStep (c : ℕ) (step : Step) (old new : Parts) : Type 0 where
  pub own : List Event
  pub letter : Option ℕ
  pub events : new.events ≡ old.events ++ own ++ bring letter
  pub done : new.done ≡ old.done
  pub behind : (casts : List ActorSpec) (h : History) → IsBehind casts h old.world old.events →
      MayTake c step h × IsBehind casts (after_move c step h) new.world new.events
  pub does : (casts : List ActorSpec) → IsBehind casts (history casts old.events) old.world old.events →
      DoesStepIn casts c step old.events own

-- it may not take it, and nothing happened
pub record NeedsMore (c : ℕ) (step : Step) (old new : Parts) : Type 0 where
  pub same : new ≡ old
  pub needs : (casts : List ActorSpec) (h : History) → IsBehind casts h old.world old.events → MayTake c step h → ⊥

abbrev pub TriesStep : ℕ → Step → Parts → Parts → Bool → Type 0
TriesStep c step old new true = DoesStep c step old new
TriesStep c step old new false = NeedsMore c step old new

-- ---- what can't be done

-- the caller can't make its next call
abbrev pub NoCall : ToldEnd → ℕ → Told → (ℕ → ℕ) → History → Type 0
NoCall end c told done h = (call : Submission) → bound_of end c ≡ None →
    slice_get (told.calls c) (length (calls_of c h)) ≡ Some call →
    refusal_of h (event.Submit c call.actor call.method call.args) ≡ None → ⊥

-- nor take its next step
abbrev pub NoStep : ToldEnd → ℕ → Told → (ℕ → ℕ) → History → Type 0
NoStep end c told done h = (steps : List Step) (step : Step) → bound_of end c ≡ Some steps →
    slice_get steps (done c) ≡ Some step → MayTake c step h → ⊥

-- the call that the actor is told to run next can't be sent
abbrev pub NoSend : ℕ → Told → (ℕ → ℕ) → History → Type 0
NoSend a told done h = (item : RunItem) → IsNextRun told a h item →
    refusal_of h (event.Send item.caller item.future) ≡ None → ⊥

-- nor run
abbrev pub NoRun : ℕ → Told → (ℕ → ℕ) → History → Type 0
NoRun a told done h = (item : RunItem) → IsNextRun told a h item → next_item a item.caller h ≡ Some item →
    refusal_of h (event.Run a item.caller) ≡ None → ⊥

-- the actor can't take its kill after its last run
abbrev pub NoKill : ℕ → Told → (ℕ → ℕ) → History → Type 0
NoKill a told done h = told.dead a ≡ true → length (runs_of a h) ≡ length (told.runs a) →
    refusal_of h (event.TakeKill a) ≡ None → ⊥

-- its death can't be told to the caller
abbrev pub NoTell : ℕ → ℕ → Told → (ℕ → ℕ) → History → Type 0
NoTell c a told done h = MayHear told c a h → (Contains h.collected (DeathPost c a) → ⊥) →
    refusal_of h (event.Tell a c) ≡ None → ⊥

-- the caller can do nothing, and so of the callers up to this one
abbrev pub NoAct : ToldEnd → ℕ → Told → (ℕ → ℕ) → History → Type 0
NoAct end c told done h = NoCall end c told done h × NoStep end c told done h

abbrev pub NoActs : ToldEnd → ℕ → Told → (ℕ → ℕ) → History → Type 0
NoActs end last told done h = (c : ℕ) → 1 ≤ c → c ≤ last → NoAct end c told done h

-- the actor has nothing to run
abbrev pub NoRuns : ℕ → Told → (ℕ → ℕ) → History → Type 0
NoRuns a told done h = NoSend a told done h × NoRun a told done h

-- the actor can do nothing, and so of the actors up to this one
abbrev pub NoServing : ℕ → Told → (ℕ → ℕ) → History → Type 0
NoServing a told done h = NoRuns a told done h × NoKill a told done h

abbrev pub NoServings : ℕ → Told → (ℕ → ℕ) → History → Type 0
NoServings last told done h = (a : ℕ) → 1 ≤ a → a ≤ last → NoServing a told done h

-- none of the callers up to this one can be told the death, and so of the actors up to this one
abbrev pub NoTellsOf : ℕ → ℕ → Told → (ℕ → ℕ) → History → Type 0
NoTellsOf last a told done h = (c : ℕ) → 1 ≤ c → c ≤ last → NoTell c a told done h

abbrev pub NoTells : ℕ → Told → (ℕ → ℕ) → History → Type 0
NoTells last told done h = (a : ℕ) → 1 ≤ a → a ≤ last → NoTellsOf MAX_CALLERS a told done h

-- nothing can be done
pub record NoMove (end : ToldEnd) (told : Told) (done : ℕ → ℕ) (h : History) : Type 0 where
  pub acts : NoActs end MAX_CALLERS told done h
  pub servings : NoServings MAX_ACTORS told done h
  pub tells : NoTells MAX_ACTORS told done h

-- the walk went on, and where some events end as is told, it is through
pub record ComesThrough (end : ToldEnd) (old new : Parts) : Type 0 where
  pub goes : GoesOn end old new
  pub through : (casts : List ActorSpec) (told : Told) → IsEndOf end casts told → Stands end casts old →
      IsWalking end casts told old → IsThrough (bound_of end) told (done_in new.done) (history casts new.events)

-- ---- a run, and a death that is heard

-- the actor ran the call that it is told to run next, and its reply was collected where it is told
abbrev pub RunsNext : ToldEnd → ℕ → ℕ → ℕ → Parts → Parts → Type 0
RunsNext end a c k old new = ((casts : List ActorSpec) → Stands end casts old → Stands end casts new)
    × ((casts : List ActorSpec) (told : Told) → IsEndOf end casts told → Stands end casts old →
    IsWalking end casts told old → (item : RunItem) → IsNextRun told a (history casts old.events) item →
    call_of_item item ≡ (c, k) → IsWalking end casts told new)

-- the caller was told the death of the actor, and collected it
pub record HearsNow (c a : ℕ) (old new : Parts) : Type 0 where
  pub mid : Parts
  pub place : ℕ
  pub tells : DoesEvent (event.Tell a c) old mid
  pub collects : DoesEvent (event.Collect place) mid new
  pub last : (casts : List ActorSpec) (h : History) → IsBehind casts h old.world old.events → place ≡ length h.posts

-- whether an answer that is told of a call lets its caller hear of the death
abbrev pub answer_lets : Left → Option Answer → Bool
answer_lets Open answer = false
answer_lets Reply answer = is_some answer
answer_lets Death answer = true

-- whether the call lets its caller, who keeps these answers, hear of the actor's death
abbrev pub lets_hear : ℕ → List (Option Answer) → ℕ → ToldCall → Bool
lets_hear a kept k call = if call.actor == a then answer_lets call.left (kept_at kept k) else true

abbrev pub AllLetHear : ℕ → List (Option Answer) → List ToldCall → Type 0
AllLetHear a kept calls = (k : ℕ) (call : ToldCall) → slice_get calls k ≡ Some call → lets_hear a kept k call ≡ true

-- this is whether the dead actor may tell the caller its death, which the caller doesn't know yet
pub record Hears (end : ToldEnd) (c a : ℕ) (h : History) (may : Bool) : Type 0 where
  pub yes : may ≡ true → (told : Told) → Fits end told → length (told.calls c) ≤ MAX_CALLS →
      MayHear told c a h × (Contains h.collected (DeathPost c a) → ⊥)
  pub none : may ≡ false → (told : Told) → Fits end told → length (told.calls c) ≤ MAX_CALLS →
      NoTell c a told (λ d. 0) h
