-- Early is enough: what a search comes to that does all as early as it can, but for the choices.
use Rattle.std.specs.Prelude.{◌≡◌, ℕ, ◌==◌, ◌||◌, Bool, true, false, if◌then◌else◌, List, [], ◌∷◌, ◌++◌, map, length, slice_get, Option, Some, None, is_some}
use Rattle.std.specs.Prelude.{Ok, Err, Contains}
use Rattle.std.specs.List.{list_all}
use Rattle.act_types.specs.declared.call.Fault.TheVariants.{ActorDied}
use Rattle.act_rules.specs.declared.event.Event.TheVariants.{Run, TakeKill, Retire}
use Rattle.act_rules.specs.declared.history.Letter.TheVariants.{Note as NoteLetter}
use Rattle.act_rules.specs.declared.history.Post.TheVariants.{Death as DeathPost}
use Rattle.act_rules.specs.declared.history.RunItem.{RunItem}
use Rattle.act_rules.specs.declared.history.Submission.{Submission}
use Rattle.act_rules.specs.declared.script.Step.{Step}
use Rattle.act_rules.specs.declared.script.Step.TheVariants.{Kill}
use Rattle.act_rules.specs.History.{ActorSpec, History, contains, cast_of, names, calls_of, copies_of, runs_of, kept_of, is_dead, is_retired, is_ended}
use Rattle.act_rules.specs.History.{has_letter, next_item}
use Rattle.act_rules.specs.RunList.{Answer}
use Rattle.act_rules.specs.Rules.{refusal_of, call_letter}
use Rattle.act_rules.specs.Submissions.{calls_to, kept_at, is_known}
use Rattle.act_early.specs.Plays.{At, next_step, MayTake, IsPlay}

-- ---- the choices

-- whether an answer is a reply, and no death
abbrev pub is_reply : Option Answer → Bool
is_reply None = false
is_reply (Some (Ok value)) = true
is_reply (Some (Err ActorDied)) = false
is_reply (Some (Err fault)) = true

-- whether the call's reply was kept; else it is lost to the death of its actor
abbrev pub is_heard : History → RunItem → Bool
is_heard h item = is_reply (kept_at (kept_of item.caller h) item.future)

-- the choices at an actor: whose calls it ran, in order, and of each whether its reply was kept
abbrev pub choices_of : ℕ → History → List (ℕ × Bool)
choices_of a h = map (λ item. (item.caller, is_heard h item)) (runs_of a h)

-- one choice more at an actor
abbrev pub HasRunMore : ℕ → ℕ → Bool → History → History → Type 0
HasRunMore a c heard h g =
    ((b : ℕ) → choices_of b g ≡ choices_of b h ++ (if a == b then (c, heard) ∷ [] else []))
    × ((b : ℕ) → contains b g.killed ≡ contains b h.killed)

-- one actor more that took a kill
abbrev pub HasTakenMore : ℕ → History → History → Type 0
HasTakenMore a h g =
    ((b : ℕ) → choices_of b g ≡ choices_of b h) × ((b : ℕ) → contains b g.killed ≡ (contains b h.killed || (a == b)))

-- ---- as early as can be

-- nothing is left to do that is no choice, and no actor retired
pub record IsQuiescent (plans : ℕ → List Step) (at : At) : Type 0 where
  -- no caller may take its next step, or leave it out
  pub waits : (c : ℕ) (step : Step) → next_step plans c at ≡ Some step → MayTake c step at.history → ⊥
  pub needs : (c a : ℕ) → next_step plans c at ≡ Some (Kill a) → names c (cast_of a at.history) ≡ true →
      is_dead a at.history ≡ false
  -- a caller whose plan is done holds no handle
  pub closed : (c a : ℕ) → next_step plans c at ≡ None → names c (cast_of a at.history) ≡ true →
      copies_of c a at.history ≡ Some 0
  -- the letter of a call that has no answer, and whose arguments are known, has arrived, if its actor lives
  pub sent : (c k : ℕ) (call : Submission) → slice_get (calls_of c at.history) k ≡ Some call →
      kept_at (kept_of c at.history) k ≡ None → list_all (is_known (kept_of c at.history)) call.args ≡ true →
      is_ended call.actor at.history ≡ false →
      has_letter (call_letter c k call at.history) at.history.arrived ≡ true
  -- so has the note of a caller that holds no handle any more
  pub noted : (c a : ℕ) → copies_of c a at.history ≡ Some 0 → is_ended a at.history ≡ false →
      has_letter (NoteLetter c a (length (calls_to a (calls_of c at.history)))) at.history.arrived ≡ true
  -- a death has been collected by each caller of the actor
  pub told : (c a : ℕ) → is_dead a at.history ≡ true → names c (cast_of a at.history) ≡ true →
      Contains at.history.collected (DeathPost c a)
  pub live : at.history.retired ≡ []

-- ---- a search

-- what a search that looks at each choice has looked at; may_lose says at which actors it tries to lose a reply
pub record IsWholeSearch (casts : List ActorSpec) (plans : ℕ → List Step) (may_lose : ℕ → Bool)
    (Seen : At → Type 0) : Type 0 where
  -- plays, each quiescent
  pub plays : (at : At) → Seen at → IsPlay casts plans at
  pub quiescent : (at : At) → Seen at → IsQuiescent plans at
  -- one has no choice made yet
  pub start : (at : At) × Seen at × ((a : ℕ) → runs_of a at.history ≡ []) × (at.history.killed ≡ [])
  -- whatever may run next, with its reply kept or lost: some play with the same choices and this one more was seen
  pub runs : (at : At) (a c : ℕ) (heard : Bool) → Seen at → refusal_of at.history (Run a c) ≡ None →
      is_some (next_item a c at.history) ≡ true → (heard || may_lose a) ≡ true →
      (next : At) × Seen next × HasRunMore a c heard at.history next.history
  -- and so with a kill that may be taken
  pub takes : (at : At) (a : ℕ) → Seen at → refusal_of at.history (TakeKill a) ≡ None →
      (next : At) × Seen next × HasTakenMore a at.history next.history

-- ---- its ends

-- each call has an answer, and each actor is dead or retired
pub record IsOver (h : History) : Type 0 where
  pub answered : (c k : ℕ) (call : Submission) → slice_get (calls_of c h) k ≡ Some call →
      is_some (kept_at (kept_of c h) k) ≡ true
  pub ended : (a : ℕ) → is_some (cast_of a h) ≡ true → is_ended a h ≡ true

-- a play is ended: each plan is done, and all is over
pub record IsEnded (plans : ℕ → List Step) (at : At) : Type 0 where
  pub done : (c : ℕ) → next_step plans c at ≡ None
  pub over : IsOver at.history

-- no actor lost a reply that may not
abbrev pub LosesOnly : (ℕ → Bool) → History → Type 0
LosesOnly may_lose h = (a place : ℕ) (item : RunItem) → slice_get (runs_of a h) place ≡ Some item →
    (is_heard h item || may_lose a) ≡ true

-- the play ends as this history does, once those of its actors retire that are not dead
pub record EndsAlike (plans : ℕ → List Step) (early : At) (late : History) : Type 0 where
  pub done : (c : ℕ) → next_step plans c early ≡ None
  pub calls : (c : ℕ) → calls_of c early.history ≡ calls_of c late
  pub kept : (c : ℕ) → kept_of c early.history ≡ kept_of c late
  pub runs : (a : ℕ) → runs_of a early.history ≡ runs_of a late
  pub dead : (a : ℕ) → is_dead a early.history ≡ is_dead a late
  pub retires : (a : ℕ) → is_retired a late ≡ true → refusal_of early.history (Retire a) ≡ None

-- early is enough: a search that looks at each choice, and does all else as early as it can, misses no end
abbrev pub EarlyIsEnough : Type 0
EarlyIsEnough = (casts : List ActorSpec) (plans : ℕ → List Step) (may_lose : ℕ → Bool) (seen : List At) (late : At) →
    IsWholeSearch casts plans may_lose (Contains seen) → IsPlay casts plans late → IsEnded plans late →
    LosesOnly may_lose late.history → (early : At) × Contains seen early × EndsAlike plans early late.history
