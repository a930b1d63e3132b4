-- How the kill of each actor that is told dead is asked, before anything else is done.
use Rattle.std.specs.Prelude.{◌≡◌, ℕ, ◌<◌, ◌≤◌, true, List, [], None}
use Rattle.act_rules.specs.History.{ActorSpec, History, cast_of, contains, names}
use Rattle.act_rules.specs.Laws.{history}
use Rattle.act_told_ends.specs.Told.{Told}
use Rattle.act_walks.specs.declared.told.ToldEnd.{ToldEnd}
use Rattle.act_walks.specs.Eager.{IsEager}
use Rattle.act_walks.specs.Fits.{bound_of}
use Rattle.act_walks.specs.Walking.{Parts, done_in, Stands, IsEndOf, IsWalking}

-- of the actors below this number, the kill is asked of each that is told dead, where a caller that isn't bound could
-- ask for it; and of no other actor
pub record AreAsked (end : ToldEnd) (told : Told) (next : ℕ) (h : History) : Type 0 where
  pub asked : (c a : ℕ) → 1 ≤ a → a < next → bound_of end c ≡ None → told.dead a ≡ true →
      names c (cast_of a h) ≡ true → contains a h.asked ≡ true
  pub only : (a : ℕ) → contains a h.asked ≡ true → a < next

-- a walk that got so far
pub record IsAsking (end : ToldEnd) (casts : List ActorSpec) (told : Told) (next : ℕ) (walk : Parts) : Type 0 where
  pub eager : IsEager casts (bound_of end) told (done_in walk.done) (history casts walk.events)
  pub asked : AreAsked end told next (history casts walk.events)

-- it got from one number to another
pub record AsksFrom (end : ToldEnd) (first next : ℕ) (old new : Parts) : Type 0 where
  pub stands : (casts : List ActorSpec) → Stands end casts old → Stands end casts new
  pub asks : (casts : List ActorSpec) (told : Told) → IsEndOf end casts told → Stands end casts old →
      IsAsking end casts told first old → IsAsking end casts told next new

-- from a world in which nothing is done yet it goes on to a walk
pub record SetsOut (end : ToldEnd) (old new : Parts) : Type 0 where
  pub stands : (casts : List ActorSpec) → Stands end casts old → Stands end casts new
  pub walks : (casts : List ActorSpec) (told : Told) → IsEndOf end casts told → Stands end casts old →
      old.events ≡ [] → ((c : ℕ) → done_in old.done c ≡ 0) → IsWalking end casts told new
