-- What a search has looked at, and what is left.
use Rattle.std.specs.Prelude.{◌≡◌, ◌⊎◌, ℕ, Bool, true, false, List, [], ◌∷◌, ◌++◌, map, None, is_some, All, Contains}
use Rattle.std.specs.BTreeSet.{contains_text}
use Rattle.act_rules.specs.declared.event.Event.{Event}
use Rattle.act_rules.specs.declared.event.Event.TheVariants as event
use Rattle.act_rules.specs.declared.script.Step.{Step}
use Rattle.act_rules.specs.History.{ActorSpec, next_item}
use Rattle.act_rules.specs.Rules.{refusal_of}
use Rattle.act_early.specs.Plays.{At, IsPlay}
use Rattle.act_early.specs.Early.{IsQuiescent, IsWholeSearch}
use Rattle.act_plan_plays.specs.declared.choice.Choice.{Choice}
use Rattle.act_plan_plays.specs.declared.choice.Choice.TheVariants.{Run, Take}
use Rattle.act_explore.specs.Ends.{IsDone, HasPassed}
use Rattle.act_explore.specs.Paths.{HasMade, HasNumber, key_of}
use Rattle.act_explore.specs.declared.search.Search.{Search}

-- the paths that wait to be looked at, and the keys of all paths that ever did
pub record Left : Type 0 where
  pub waiting : List (List Choice)
  pub known : List ℕ → Bool

abbrev pub left_of : Search → Left
left_of search = record {
  waiting = map (λ path. path.items) search.waiting.items;
  known = contains_text search.known;
}

-- one more path waits
abbrev pub with_path : List Choice → Left → Left
with_path path left = record { waiting = left.waiting ++ path ∷ []; known = left.known }

-- the path is one of actors, and its key is known
pub record IsKnown (left : Left) (path : List Choice) : Type 0 where
  pub numbers : All HasNumber path
  pub known : left.known (key_of path) ≡ true

-- a path with this key waits
pub record Waits (left : Left) (key : List ℕ) : Type 0 where
  pub path : List Choice
  pub numbers : All HasNumber path
  pub keyed : key_of path ≡ key
  pub waits : Contains left.waiting path

-- what is known waits, and so does the path without a choice
pub record IsOpened (left : Left) : Type 0 where
  pub first : left.known (key_of []) ≡ true
  pub waits : (key : List ℕ) → left.known key ≡ true → Waits left key

-- what was known and what waited still does; what is known anew waits
pub record Grows (old new : Left) : Type 0 where
  pub known : (key : List ℕ) → old.known key ≡ true → new.known key ≡ true
  pub waiting : (path : List Choice) → Contains old.waiting path → Contains new.waiting path
  pub fresh : (key : List ℕ) → new.known key ≡ true → (old.known key ≡ true) ⊎ Waits new key

-- the path was put there, where its key wasn't known
pub record HasPut (path : List Choice) (old new : Left) : Type 0 where
  pub grows : Grows old new
  pub put : IsKnown new path

-- each of the choices is known to go on from the path
pub record HasAdded (path : List Choice) (choices : List Choice) (old new : Left) : Type 0 where
  pub grows : Grows old new
  pub added : All (λ choice. IsKnown new (path ++ choice ∷ [])) choices

-- ---- a play that was looked at

-- the play is quiescent, and made the choices of the path and no other
pub record IsPlayAt (casts : List ActorSpec) (plans : ℕ → List Step) (path : List Choice) (at : At) : Type 0 where
  pub play : IsPlay casts plans at
  pub quiescent : IsQuiescent plans at
  pub made : HasMade path at.history

-- each choice that is possible there is known
pub record AreNextKnown (left : Left) (path : List Choice) (at : At) : Type 0 where
  pub runs : (a c : ℕ) → refusal_of at.history (event.Run a c) ≡ None → is_some (next_item a c at.history) ≡ true →
      IsKnown left (path ++ Run a c ∷ [])
  pub takes : (a : ℕ) → refusal_of at.history (event.TakeKill a) ≡ None → IsKnown left (path ++ Take a ∷ [])

-- the play stands where a path leads whose choices were looked at; if it is an end, it passed
pub record IsLookedAt (casts : List ActorSpec) (plans : ℕ → List Step) (Passed : List Event → Type 0) (left : Left)
    (at : At) : Type 0 where
  pub path : List Choice
  pub numbers : All HasNumber path
  pub stands : IsPlayAt casts plans path at
  pub next : AreNextKnown left path at
  pub passed : IsDone plans at → HasPassed casts Passed at.history

-- a play was looked at that made the choices of a path with this key
pub record IsSeen (seen : List At) (key : List ℕ) : Type 0 where
  pub at : At
  pub path : List Choice
  pub numbers : All HasNumber path
  pub keyed : key_of path ≡ key
  pub seen_at : Contains seen at
  pub made : HasMade path at.history

-- these plays were looked at; each key that is known is that of one of them, or of a path that waits
pub record HasSearched (casts : List ActorSpec) (plans : ℕ → List Step) (Passed : List Event → Type 0) (left : Left)
    (seen : List At) : Type 0 where
  pub looked : All (IsLookedAt casts plans Passed left) seen
  pub all : (key : List ℕ) → left.known key ≡ true → IsSeen seen key ⊎ Waits left key
  pub first : left.known (key_of []) ≡ true

-- a whole search looked at these plays, and those of them passed that are ends
pub record HasSearchedAll (casts : List ActorSpec) (plans : ℕ → List Step) (Passed : List Event → Type 0)
    (seen : List At) : Type 0 where
  pub whole : IsWholeSearch casts plans (λ a. false) (Contains seen)
  pub passed : All (λ at. IsDone plans at → HasPassed casts Passed at.history) seen
