-- Plays with the same choices, and plays that made some of them.
use Rattle.std.specs.Prelude.{◌≡◌, ℕ, Bool, true, false, List, length, slice_get, Some, None, is_some}
use Rattle.act_rules.specs.declared.event.Event.TheVariants.{Run, TakeKill}
use Rattle.act_rules.specs.declared.script.Step.{Step}
use Rattle.act_rules.specs.Consistent.{IsPrefix}
use Rattle.act_rules.specs.History.{ActorSpec, History, contains, calls_of, runs_of, kept_of, is_dead, next_item}
use Rattle.act_rules.specs.Rules.{refusal_of}
use Rattle.act_early.specs.Plays.{At, steps_of, IsPlay}
use Rattle.act_early.specs.Early.{choices_of, IsQuiescent, IsEnded, EndsAlike}

-- each actor made the same choices in both
pub record HaveSameChoices (h g : History) : Type 0 where
  pub choices : (a : ℕ) → choices_of a h ≡ choices_of a g
  pub killed : (a : ℕ) → contains a h.killed ≡ contains a g.killed

-- callers are as far, with the same answers, and actors ran the same
pub record AreAlike (one other : At) : Type 0 where
  pub steps : (c : ℕ) → steps_of c one ≡ steps_of c other
  pub calls : (c : ℕ) → calls_of c one.history ≡ calls_of c other.history
  pub kept : (c : ℕ) → kept_of c one.history ≡ kept_of c other.history
  pub runs : (a : ℕ) → runs_of a one.history ≡ runs_of a other.history
  pub dead : (a : ℕ) → is_dead a one.history ≡ is_dead a other.history

-- the choices tell a quiescent play apart: a search may look at one of those that made the same
abbrev pub ChoicesTellAll : Type 0
ChoicesTellAll = (casts : List ActorSpec) (plans : ℕ → List Step) (one other : At) →
    IsPlay casts plans one → IsPlay casts plans other → IsQuiescent plans one → IsQuiescent plans other →
    HaveSameChoices one.history other.history → AreAlike one other

-- a quiescent play with the choices of an ended one ends alike
abbrev pub SameChoicesEndAlike : Type 0
SameChoicesEndAlike = (casts : List ActorSpec) (plans : ℕ → List Step) (early late : At) →
    IsPlay casts plans early → IsQuiescent plans early → IsPlay casts plans late → IsEnded plans late →
    HaveSameChoices early.history late.history → EndsAlike plans early late.history

-- ---- some of the choices

-- at each actor the first made the first choices of the second; a kill that it took comes after all of them
pub record IsFrontOf (early late : History) : Type 0 where
  pub choices : (a : ℕ) → IsPrefix (choices_of a early) (choices_of a late)
  pub killed : (a : ℕ) → contains a early.killed ≡ true → contains a late.killed ≡ true
  pub all : (a : ℕ) → contains a early.killed ≡ true → choices_of a early ≡ choices_of a late

-- how a play may come nearer to another's choices
pub data Nearer (early late : History) : Type 0 where
  -- it made them all
  Whole : HaveSameChoices early late → Nearer early late
  -- an actor may run what comes next
  MayRun : (a c : ℕ) (heard : Bool) → slice_get (choices_of a late) (length (runs_of a early)) ≡ Some (c, heard) →
      refusal_of early (Run a c) ≡ None → is_some (next_item a c early) ≡ true → Nearer early late
  -- an actor that ran all may take its kill
  MayKill : (a : ℕ) → contains a late.killed ≡ true → contains a early.killed ≡ false →
      choices_of a early ≡ choices_of a late → refusal_of early (TakeKill a) ≡ None → Nearer early late

-- whoever follows the choices of a play, at any actor first, and does all else early, is never stuck
abbrev pub NoFrontIsStuck : Type 0
NoFrontIsStuck = (casts : List ActorSpec) (plans : ℕ → List Step) (early late : At) →
    IsPlay casts plans early → IsQuiescent plans early → IsPlay casts plans late →
    IsFrontOf early.history late.history → Nearer early.history late.history
