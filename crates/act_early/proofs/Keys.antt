-- Quiescent plays with the same choices are alike.
use Rattle.act_early.proofs.Common.{◌≡◌, ℕ, List, length, Option, Some, None, refl, sym, ◌∙◌, arith, length-map, RunItem, Step, Answer, kept_at, ActorSpec}
use Rattle.act_early.proofs.Common.{History, runs_of, calls_of, kept_of, Extends, At, IsPlay, is_heard, choices_of, IsQuiescent, IsEnded, EndsAlike}
use Rattle.act_early.proofs.Common.{HaveSameChoices, AreAlike, front_whole}
use Rattle.act_early.proofs.Worlds.{world}
use Rattle.act_early.proofs.Counting.{take-past}
use Rattle.act_early.proofs.Progress.{follows}
use Rattle.act_early.proofs.Replies.{front_short}
use Rattle.act_early.proofs.Earlier.{earlier_same}
use Rattle.act_early.proofs.Ahead.{AreBoth}
use Rattle.act_early.proofs.Possible.{IsReached}
use Rattle.act_early.proofs.Searching.{Exactly, reached}
use Rattle.act_early.proofs.Ending.{same_kept, kept_long, ends_alike}

pub both_quiescent : {casts : List ActorSpec} {plans : ℕ → List Step} {early late : At} → IsPlay casts plans early → IsQuiescent plans early
    → IsPlay casts plans late → AreBoth casts plans early late
both_quiescent {casts} {plans} {early} {late} is quiescent goes = record {
  early = world casts plans early is;
  late = world casts plans late goes;
  goes = follows casts plans early is;
  quiescent = quiescent;
}

exactly : (early late : At) → HaveSameChoices early.history late.history → Exactly late early late.history
exactly early late same = record {
  choices = λ a.
      let long : length (choices_of a late.history) ≡ length (runs_of a late.history) =
      length-map (runs_of a late.history) (λ (i : RunItem). (i.caller, is_heard late.history i)) in
      same.choices a ∙ sym (take-past (choices_of a late.history) (length (runs_of a late.history)) (omega (arith, long)));
  killed = same.killed;
}

pub all_reached : {casts : List ActorSpec} {plans : ℕ → List Step} {early late : At} → IsPlay casts plans early → IsQuiescent plans early
    → IsPlay casts plans late → HaveSameChoices early.history late.history → (a : ℕ) → IsReached a late early
all_reached {casts} {plans} {early} {late} is quiescent goes same =
    reached casts plans late early late goes (both_quiescent is quiescent goes) (earlier_same late.history) (exactly early late same)

pub same_end : (casts : List ActorSpec) (plans : ℕ → List Step) (early late : At) → IsPlay casts plans early → IsQuiescent plans early
    → IsPlay casts plans late → IsEnded plans late → HaveSameChoices early.history late.history → EndsAlike plans early late.history
same_end casts plans early late is quiescent goes ended same =
    ends_alike plans late (both_quiescent is quiescent goes) (all_reached is quiescent goes same) ended
    (follows casts plans late goes)

turned : (h g : History) → HaveSameChoices h g → HaveSameChoices g h
turned h g same = record { choices = λ a. sym (same.choices a); killed = λ a. sym (same.killed a) }

-- two tables of which each keeps what the other does
both_keep : (xs ys : List (Option Answer)) → Extends xs ys → Extends ys xs → (k : ℕ) → kept_at xs k ≡ kept_at ys k
both_keep xs ys one two k = go (kept_at xs k) (kept_at ys k) refl refl
  where
    go : (o p : Option Answer) → kept_at xs k ≡ o → kept_at ys k ≡ p → kept_at xs k ≡ kept_at ys k
    go None None e f = e ∙ sym f
    go None (Some answer) e f = two k answer f ∙ sym f
    go (Some answer) p e f = e ∙ sym (one k answer e)

pub alike : (casts : List ActorSpec) (plans : ℕ → List Step) (one other : At) → IsPlay casts plans one → IsPlay casts plans other → IsQuiescent plans one
    → IsQuiescent plans other → HaveSameChoices one.history other.history → AreAlike one other
alike casts plans one other is goes quiescent rests same =
    -- the first is ahead of the second, and the second of the first
    let there : (a : ℕ) → IsReached a other one = all_reached is quiescent goes same in
    let back : (a : ℕ) → IsReached a one other = all_reached goes rests is (turned one.history other.history same) in
    let calls : (c : ℕ) → calls_of c one.history ≡ calls_of c other.history =
    λ c. front_whole (calls_of c one.history) (calls_of c other.history) ((back 0).calls c)
    (front_short (calls_of c other.history) (calls_of c one.history) ((there 0).calls c)) in
    record {
      steps = λ c. let le = (there 0).steps c in let ge = (back 0).steps c in omega (arith, le, ge);
      calls = calls;
      kept = λ c. same_kept (kept_of c one.history) (kept_of c other.history) (kept_long c one.history other.history (calls c))
          (both_keep (kept_of c one.history) (kept_of c other.history) ((back 0).kept c) ((there 0).kept c));
      runs = λ a. (there a).runs;
      dead = λ a. (there a).dead;
    }
