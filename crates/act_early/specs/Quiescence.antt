-- That a play can always be made quiescent, and that each choice leads on to a quiescent play.
use Rattle.std.specs.Prelude.{◌≡◌, ℕ, Bool, true, List, [], None, is_some}
use Rattle.act_rules.specs.declared.event.Event.TheVariants.{Run, TakeKill}
use Rattle.act_rules.specs.declared.script.Step.{Step}
use Rattle.act_rules.specs.History.{ActorSpec, History, calls_of, kept_of, runs_of, is_dead, is_retired, next_item}
use Rattle.act_rules.specs.Rules.{refusal_of}
use Rattle.act_early.specs.Plays.{At, IsPlay}
use Rattle.act_early.specs.Early.{HasRunMore, HasTakenMore, IsQuiescent, IsEnded, EndsAlike}
use Rattle.act_early.specs.Fronts.{HaveSameChoices}

-- while no actor retired, some play goes on from there without a choice, and is quiescent
abbrev pub QuiescenceCanBeReached : Type 0
QuiescenceCanBeReached = (casts : List ActorSpec) (plans : ℕ → List Step) (at : At) →
    IsPlay casts plans at → at.history.retired ≡ [] →
    (quiescent : At) × IsPlay casts plans quiescent × IsQuiescent plans quiescent
    × HaveSameChoices at.history quiescent.history

-- made of choices alone, and quiescent after each
pub data IsEarly (casts : List ActorSpec) (plans : ℕ → List Step) : At → Type 0 where
  Starts : (at : At) → IsPlay casts plans at → IsQuiescent plans at → ((a : ℕ) → runs_of a at.history ≡ []) →
      at.history.killed ≡ [] → IsEarly casts plans at
  -- an actor runs a caller's next call, whose reply is kept or lost
  RunsMore : (at next : At) (a c : ℕ) (heard : Bool) → IsEarly casts plans at →
      refusal_of at.history (Run a c) ≡ None → is_some (next_item a c at.history) ≡ true →
      HasRunMore a c heard at.history next.history → IsPlay casts plans next → IsQuiescent plans next →
      IsEarly casts plans next
  -- an actor takes a kill
  TakesMore : (at next : At) (a : ℕ) → IsEarly casts plans at → refusal_of at.history (TakeKill a) ≡ None →
      HasTakenMore a at.history next.history → IsPlay casts plans next → IsQuiescent plans next →
      IsEarly casts plans next

-- for each ended play there is one made of choices alone that ends alike
abbrev pub EarlyPlaysHaveAllEnds : Type 0
EarlyPlaysHaveAllEnds = (casts : List ActorSpec) (plans : ℕ → List Step) (late : At) →
    IsPlay casts plans late → IsEnded plans late →
    (early : At) × IsEarly casts plans early × EndsAlike plans early late.history

-- ---- the end itself

-- the same calls, answers and run lists, and the same actors dead and retired
pub record IsSameEnd (one other : History) : Type 0 where
  pub calls : (c : ℕ) → calls_of c one ≡ calls_of c other
  pub kept : (c : ℕ) → kept_of c one ≡ kept_of c other
  pub runs : (a : ℕ) → runs_of a one ≡ runs_of a other
  pub dead : (a : ℕ) → is_dead a one ≡ is_dead a other
  pub retired : (a : ℕ) → is_retired a one ≡ is_retired a other

-- where a quiescent play ends as an ended one did, some actors retire there, and it is the same end
abbrev pub ActorsCanRetire : Type 0
ActorsCanRetire = (casts : List ActorSpec) (plans : ℕ → List Step) (early late : At) →
    IsPlay casts plans early → IsQuiescent plans early → IsPlay casts plans late → IsEnded plans late →
    EndsAlike plans early late.history →
    (end : At) × IsPlay casts plans end × IsEnded plans end × IsSameEnd end.history late.history
