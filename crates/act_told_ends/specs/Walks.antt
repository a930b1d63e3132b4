-- What a play that did only what is told may do next, and that it is never stuck.
use Rattle.std.specs.Prelude.{◌≡◌, ◌≢◌, AllPairs, ◌≤◌, ◌⊎◌, ℕ, true, false, List, length, slice_get, Option, Some, None, is_some, Contains}
use Rattle.act_rules.specs.declared.event.Event.{Event}
use Rattle.act_rules.specs.declared.event.Event.TheVariants as event
use Rattle.act_rules.specs.declared.history.Letter.{Letter}
use Rattle.act_rules.specs.declared.history.Letter.TheVariants.{Call as CallLetter}
use Rattle.act_rules.specs.declared.history.Post.TheVariants.{Reply as ReplyPost, Death as DeathPost}
use Rattle.act_rules.specs.declared.history.RunItem.{RunItem}
use Rattle.act_rules.specs.declared.history.Submission.{Submission}
use Rattle.act_rules.specs.declared.script.Step.{Step}
use Rattle.act_rules.specs.declared.script.Step.TheVariants.{Kill}
use Rattle.act_rules.specs.History.{ActorSpec, History, actors_naming, contains, calls_of, kept_of, runs_of, is_dead, has_letter, next_item}
use Rattle.act_rules.specs.Laws.{history}
use Rattle.act_rules.specs.Plans.{first_bad}
use Rattle.act_rules.specs.Rules.{refusal_of}
use Rattle.act_rules.specs.Submissions.{kept_at}
use Rattle.act_early.specs.Early.{is_reply}
use Rattle.act_early.specs.Plays.{MayTake}
use Rattle.act_told_ends.specs.Told.{Told, Leaves, EndsAsTold, IsWalk}

-- the item is the one that the actor is told to run next
abbrev pub IsNextRun : Told → ℕ → History → RunItem → Type 0
IsNextRun told a h item = slice_get (told.runs a) (length (runs_of a h)) ≡ Some item

-- the letter of its call
abbrev pub letter_of : ℕ → RunItem → Letter
letter_of a item = CallLetter item.caller a item.number

-- the actor's death may reach the caller: each of its calls to the actor is told answered, and if by a reply, it is kept
pub record MayHear (told : Told) (c a : ℕ) (h : History) : Type 0 where
  pub answered : (k : ℕ) (call : Submission) → slice_get (told.calls c) k ≡ Some call → call.actor ≡ a →
      is_some (kept_at (told.kept c) k) ≡ true
  pub heard : (k : ℕ) (call : Submission) → slice_get (told.calls c) k ≡ Some call → call.actor ≡ a →
      is_reply (kept_at (told.kept c) k) ≡ true → is_some (kept_at (kept_of c h) k) ≡ true

-- what may be done next that is told
pub data MayGoOn (bound : ℕ → Option (List Step)) (told : Told) (done : ℕ → ℕ) (h : History) : Type 0 where
  -- a caller that isn't bound makes its next call, or asks for the kill of an actor that is told dead
  Calls : (c : ℕ) (call : Submission) → bound c ≡ None →
      slice_get (told.calls c) (length (calls_of c h)) ≡ Some call →
      refusal_of h (event.Submit c call.actor call.method call.args) ≡ None → MayGoOn bound told done h
  Asks : (c a : ℕ) → bound c ≡ None → told.dead a ≡ true → contains a h.asked ≡ false →
      refusal_of h (event.AskKill c a) ≡ None → MayGoOn bound told done h
  -- a bound caller takes its next step; where it is the kill of a dead actor, it may do without
  Steps : (c : ℕ) (steps : List Step) (step : Step) → bound c ≡ Some steps → slice_get steps (done c) ≡ Some step →
      MayTake c step h → MayGoOn bound told done h
  DoesWithout : (c a : ℕ) (steps : List Step) → bound c ≡ Some steps → slice_get steps (done c) ≡ Some (Kill a) →
      is_dead a h ≡ true → MayGoOn bound told done h
  -- the call that an actor is told to run next is sent, its letter is delivered, or it runs
  Sends : (a : ℕ) (item : RunItem) → IsNextRun told a h item → has_letter (letter_of a item) h.mail ≡ false →
      refusal_of h (event.Send item.caller item.future) ≡ None → MayGoOn bound told done h
  Delivers : (a i : ℕ) (item : RunItem) → IsNextRun told a h item → has_letter (letter_of a item) h.arrived ≡ false →
      slice_get h.mail i ≡ Some (letter_of a item) → refusal_of h (event.Deliver i) ≡ None → MayGoOn bound told done h
  Runs : (a : ℕ) (item : RunItem) → IsNextRun told a h item → next_item a item.caller h ≡ Some item →
      refusal_of h (event.Run a item.caller) ≡ None → MayGoOn bound told done h
  -- a caller collects a reply that is told
  Collects : (j c a place : ℕ) (item : RunItem) → slice_get h.posts j ≡ Some (ReplyPost c a place) →
      slice_get (runs_of a h) place ≡ Some item → is_reply (kept_at (told.kept c) item.future) ≡ true →
      kept_at (kept_of c h) item.future ≡ None → MayGoOn bound told done h
  -- an actor that is told dead takes its kill, once it ran its run list
  TakesKill : (a : ℕ) → told.dead a ≡ true → runs_of a h ≡ told.runs a → refusal_of h (event.TakeKill a) ≡ None →
      MayGoOn bound told done h
  -- its death is told to a caller, or collected
  Tells : (c a : ℕ) → MayHear told c a h → (Contains h.posts (DeathPost c a) → ⊥) →
      refusal_of h (event.Tell a c) ≡ None → MayGoOn bound told done h
  Hears : (j c a : ℕ) → MayHear told c a h → (Contains h.collected (DeathPost c a) → ⊥) →
      slice_get h.posts j ≡ Some (DeathPost c a) → MayGoOn bound told done h

-- the play left what is told, and each bound caller did its steps
pub record IsThrough (bound : ℕ → Option (List Step)) (told : Told) (done : ℕ → ℕ) (h : History) : Type 0 where
  pub leaves : Leaves told h
  pub steps : (c : ℕ) (steps : List Step) → bound c ≡ Some steps → length steps ≤ done c

-- where some events end as is told, a play that did only what is told is through or may go on
abbrev pub NoWalkIsStuck : Type 0
NoWalkIsStuck = (casts : List ActorSpec) (bound : ℕ → Option (List Step)) (told : Told) (done : ℕ → ℕ)
    (events walk : List Event) →
    EndsAsTold casts bound told events → IsWalk bound told done (history casts walk) →
    IsThrough bound told done (history casts walk) ⊎ MayGoOn bound told done (history casts walk)

-- where no step of a bound caller's plan is refused, it can ask for the kill that is its next step, so that it need not
-- do without
abbrev pub KillsCanBeAsked : Type 0
KillsCanBeAsked = (casts : List ActorSpec) (bound : ℕ → Option (List Step)) (told : Told) (done : ℕ → ℕ) (h : History)
    (c a : ℕ) (steps : List Step) →
    AllPairs (λ one other. one.actor ≢ other.actor) casts → h.casts ≡ casts → IsWalk bound told done h →
    bound c ≡ Some steps → first_bad (actors_naming c casts) steps ≡ None →
    slice_get steps (done c) ≡ Some (Kill a) → refusal_of h (event.AskKill c a) ≡ None
