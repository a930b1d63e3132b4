-- Early plays have all ends.
use Rattle.act_early.proofs.Common.{◌≡◌, ℕ, Bool, true, false, List, [], Option, Some, None, refl, ap, sym, ◌∙◌, is_some, RunItem, Step, ActorSpec, History}
use Rattle.act_early.proofs.Common.{under, contains, runs_of, next_item, refusal_of, At, opened, IsPlay, Opens, choices_of, IsQuiescent, HasRunMore}
use Rattle.act_early.proofs.Common.{HasTakenMore, IsWholeSearch, IsEnded, EndsAlike, HaveSameChoices, IsEarly, Starts, RunsMore, TakesMore, or_right}
use Rattle.act_rules.specs.declared.event.Event.TheVariants as event
use Rattle.act_early.proofs.Ending.{enough}
use Rattle.act_early.proofs.Listed.{IsOpen}
use Rattle.act_early.proofs.Quiescent.{quiesce}
use Rattle.act_early.proofs.Choosing.{lost_play, heard_play, kill_play}

pub quiescent_play : (casts : List ActorSpec) (plans : ℕ → List Step) (at : At) → IsPlay casts plans at → at.history.retired ≡ []
    → (quiescent : At) × IsPlay casts plans quiescent × IsQuiescent plans quiescent × HaveSameChoices at.history quiescent.history
quiescent_play casts plans at play live =
    let done = quiesce casts plans at (record { play = play; live = live }) in (
      done.0,
      done.1.quiesces.play,
      done.1.quiescent,
      record { choices = λ a. sym (done.1.quiesces.choices a); killed = λ a. ap (contains a) (sym done.1.quiesces.killed) },
    )

-- ---- what an early play is

pub early_play : {casts : List ActorSpec} {plans : ℕ → List Step} {at : At} → IsEarly casts plans at → IsPlay casts plans at × IsQuiescent plans at
early_play (Starts _ play quiescent none alive) = (play, quiescent)
early_play (RunsMore before _ a c heard early may there more play quiescent) = (play, quiescent)
early_play (TakesMore before _ a early may more play quiescent) = (play, quiescent)

-- ---- each choice leads to an early play

run_more : (a c : ℕ) (heard : Bool) (h g k : History) → HasRunMore a c heard h g → ((b : ℕ) → choices_of b k ≡ choices_of b g) → k.killed ≡ g.killed
    → HasRunMore a c heard h k
run_more a c heard h g k more choices killed = ((λ b. choices b ∙ more.0 b), λ b. ap (contains b) killed ∙ more.1 b)

taken_more : (a : ℕ) (h g k : History) → HasTakenMore a h g → ((b : ℕ) → choices_of b k ≡ choices_of b g) → k.killed ≡ g.killed → HasTakenMore a h k
taken_more a h g k more choices killed = ((λ b. choices b ∙ more.0 b), λ b. ap (contains b) killed ∙ more.1 b)

early_run : (casts : List ActorSpec) (plans : ℕ → List Step) (at : At) (a c : ℕ) (heard : Bool) → IsEarly casts plans at → refusal_of at.history
    (event.Run a c) ≡ None → is_some (next_item a c at.history) ≡ true → (next : At) × IsEarly casts plans next × HasRunMore a c heard at.history next.history
early_run casts plans at a c heard early may there = go (next_item a c at.history) refl heard there
  where
    begun : IsOpen casts plans at
    begun = record { play = (early_play early).0; live = (early_play early).1.live }

    ends : (heard : Bool) → (q : At) × IsOpen casts plans q × HasRunMore a c heard at.history q.history
        → (next : At) × IsEarly casts plans next × HasRunMore a c heard at.history next.history
    ends heard q =
        let done = quiesce casts plans q.0 q.1 in
        let more = run_more a c heard at.history q.0.history done.0.history q.2 done.1.quiesces.choices done.1.quiesces.killed in
        (done.0, RunsMore at done.0 a c heard early may there more done.1.quiesces.play done.1.quiescent, more)

    go : (o : Option RunItem) → next_item a c at.history ≡ o → (heard : Bool) → is_some o ≡ true
        → (next : At) × IsEarly casts plans next × HasRunMore a c heard at.history next.history
    go None e heard some = cc
    go (Some item) e true some = ends true (heard_play casts plans a c at item begun may e)
    go (Some item) e false some = ends false (lost_play casts plans a c at item begun may e)

early_kill : (casts : List ActorSpec) (plans : ℕ → List Step) (at : At) (a : ℕ) → IsEarly casts plans at → refusal_of at.history (event.TakeKill a) ≡ None
    → (next : At) × IsEarly casts plans next × HasTakenMore a at.history next.history
early_kill casts plans at a early may =
    let is = early_play early in
    let q = kill_play casts plans a at (record { play = is.0; live = is.1.live }) may in
    let done = quiesce casts plans q.0 q.1 in
    let more = taken_more a at.history q.0.history done.0.history q.2 done.1.quiesces.choices done.1.quiesces.killed in
    (done.0, TakesMore at done.0 a early may more done.1.quiesces.play done.1.quiescent, more)

-- ---- all of them are a whole search

all_early : (casts : List ActorSpec) (plans : ℕ → List Step) → IsWholeSearch casts plans (λ a. true) (IsEarly casts plans)
all_early casts plans = record {
  plays = λ at early. (early_play early).0;
  quiescent = λ at early. (early_play early).1;
  start =
      let done = quiesce casts plans (opened casts) (record { play = Opens; live = refl }) in
      let none : (a : ℕ) → runs_of a done.0.history ≡ [] = λ a. ap (λ l. under a l) done.1.quiesces.ran in
      (done.0, Starts done.0 done.1.quiesces.play done.1.quiescent none done.1.quiesces.killed, none, done.1.quiesces.killed);
  runs = λ at a c heard early may there _. early_run casts plans at a c heard early may there;
  takes = λ at a early may. early_kill casts plans at a early may;
}

-- for each play that is ended there is one made of choices alone that ends alike
pub early_ends : (casts : List ActorSpec) (plans : ℕ → List Step) (late : At) → IsPlay casts plans late → IsEnded plans late
    → (early : At) × IsEarly casts plans early × EndsAlike plans early late.history
early_ends casts plans late play ended =
    enough casts plans (λ a. true) (IsEarly casts plans) late (all_early casts plans) play ended (λ a place item at. or_right _ true refl)
