-- Where some events end as is told, a walk is through or may go on.
use Rattle.act_told_ends.proofs.Common.{◌≡◌, ℕ, ◌≤◌, true, List, [], length, Option, Some, None, inl, inr, ◌⊎◌, refl, ap, sym, ◌∙◌, subst, arith, Event, Step}
use Rattle.act_told_ends.proofs.Common.{Answer, kept_at, has_terminated, ActorSpec, History, opening, contains, calls_of, runs_of, kept_of, is_dead, refusal_of}
use Rattle.act_told_ends.proofs.Common.{add_event, history, after_all_keeps, At, steps_of, with_event, is_free, IsPlay, Opens, Takes, Skips, Closes, Happens}
use Rattle.act_told_ends.proofs.Common.{world_sound, world_retires, both_ways, past_none, same_kept, kept_long, front_short, IsWorld, world, either_of}
use Rattle.act_told_ends.proofs.Common.{world_step, or_right, Told, EndsAsTold, IsWalk, MayGoOn, IsThrough, front_whole}
use Rattle.act_rules.specs.declared.event.Event.TheVariants as event
use Rattle.act_told_ends.proofs.Bridge.{IsLate, late_play}
use Rattle.act_told_ends.proofs.Later.{IsLater, later_same, later_trans, later_event, later_step}
use Rattle.act_told_ends.proofs.Posted.{RunsPosted, all_posted}
use Rattle.act_told_ends.proofs.Covered.{IsSetting, IsCovered, calls_covered, runs_covered, kept_covered, dead_covered}
use Rattle.act_told_ends.proofs.Going.{Case, Here}
use Rattle.act_told_ends.proofs.Covers.{Near, idle, step_near, skip_near, run_near, kill_near}
use Rattle.act_told_ends.proofs.Collected.{collect_near}

-- ---- every event

event_near : (x : Case) (p : At) (other : Event) → Here x p → is_free other ≡ true → refusal_of p.history other ≡ None
    → IsLater (add_event p.history other) x.late.history → Near x (with_event other p)
event_near x p (event.Send c k) at free may later = inl (idle x p (add_event p.history (event.Send c k)) at.covered refl refl refl refl refl)
event_near x p (event.Deliver i) at free may later = inl (idle x p (add_event p.history (event.Deliver i)) at.covered refl refl refl refl refl)
event_near x p (event.Run b c) at free may later = run_near x p b c at may later
event_near x p (event.Collect j) at free may later = collect_near x p j at may later
event_near x p (event.TakeKill a) at free may later = kill_near x p a at may later
event_near x p (event.Tell a c) at free may later = inl (idle x p (add_event p.history (event.Tell a c)) at.covered refl refl refl refl refl)
event_near x p (event.Retire a) at free may later = inl (idle x p (add_event p.history (event.Retire a)) at.covered refl refl refl refl refl)
event_near x p other at free may later = cc

then_near : (x : Case) (p q : At) → Near x p → (IsCovered x.bound x.told x.done p x.g → Near x q) → Near x q
then_near x p q (inl cov) next = next cov
then_near x p q (inr goal) next = inr goal

opened_near : (x : Case) → IsCovered x.bound x.told x.done (record { history = opening x.casts; stepped = [] }) x.g
opened_near x = record {
  steps = λ c steps is. omega arith;
  calls = λ c free. omega arith;
  runs = λ a. omega arith;
  replies = λ i c a place item e. cc;
  deaths = λ i c a e. cc;
  killed = λ a e. cc;
  asked = λ a e. cc;
}

abbrev Setting : Case → Type 0
Setting x = IsSetting x.casts x.bound x.told x.done x.plans x.late x.g

comes_near : (x : Case) → Setting x → (q : At) → IsPlay x.casts x.plans q → IsLater q.history x.late.history → Near x q
comes_near x s q Opens later = inl (opened_near x)
comes_near x s q (Takes p c step play next may) later =
    let was = later_trans (later_step c step p.history (world x.casts x.plans p play).sound may) later in
    then_near x p q (comes_near x s p play was) (λ cov. step_near x p c step (record { setting = s; play = play; later = was; covered = cov }) next may later)
comes_near x s q (Skips p c a play next named dead) later =
    then_near x p q (comes_near x s p play later) (λ cov. skip_near x p c a (record { setting = s; play = play; later = later; covered = cov }) next dead)
comes_near x s q (Closes p c a play none may) later =
    let was = later_trans
    (later_event (event.Release c a) (world x.casts x.plans p play).sound may) later in
    then_near x p q (comes_near x s p play was) (λ cov. inl (idle x p (add_event p.history (event.Release c a)) cov refl refl refl refl refl))
comes_near x s q (Happens p other play free may) later =
    let was = later_trans (later_event other (world x.casts x.plans p play).sound may) later in
    then_near x p q (comes_near x s p play was) (λ cov. event_near x p other (record { setting = s; play = play; later = was; covered = cov }) free may later)

-- ---- at the end

through : (x : Case) → Here x x.late → IsThrough x.bound x.told x.done x.g
through x at = record {
  leaves = record { calls = calls; kept = kept; runs = runs; dead = dead };
  steps = λ c steps is.
      let past = past_none (x.plans c) (steps_of c x.late) (at.setting.end.done c) in
      let le = at.covered.steps c steps is in
      let own : length (x.plans c) ≡ length steps = ap (λ l. length l) (at.setting.end.own c steps is) in omega (arith, past, le, own);
}
  where
    g : History
    g = x.g

    late : History
    late = x.late.history

    calls : (c : ℕ) → calls_of c g ≡ x.told.calls c
    calls c = front_whole (calls_of c g) (x.told.calls c) (at.setting.walk.calls c) (subst (λ calls. length calls ≤ length (calls_of c g))
        (at.setting.end.leaves.calls c) (front_short (calls_of c late) (calls_of c g) (calls_covered g x.late c at)))

    runs : (a : ℕ) → runs_of a g ≡ x.told.runs a
    runs a = front_whole (runs_of a g) (x.told.runs a) (at.setting.walk.runs a)
        (subst (λ items. length items ≤ length (runs_of a g)) (at.setting.end.leaves.runs a) (front_short (runs_of a late) (runs_of a g) (runs_covered a at)))

    kept : (c : ℕ) → kept_of c g ≡ x.told.kept c
    kept c = same_kept (kept_of c g) (kept_of c late) (kept_long c g late (calls c ∙ sym (at.setting.end.leaves.calls c))) same ∙ at.setting.end.leaves.kept c
      where
        same : (k : ℕ) → kept_at (kept_of c g) k ≡ kept_at (kept_of c late) k
        same k = go (kept_at (kept_of c g) k) (kept_at (kept_of c late) k) refl refl
          where
            go : (o r : Option Answer) → kept_at (kept_of c g) k ≡ o → kept_at (kept_of c late) k ≡ r → kept_at (kept_of c g) k ≡ kept_at (kept_of c late) k
            go o (Some answer) e f = kept_covered x.late c at k answer f ∙ sym f
            go None None e f = e ∙ sym f
            go (Some answer) None e f =
                let there : kept_at (kept_of c late) k ≡ Some answer =
                ap (λ l. kept_at l k) (at.setting.end.leaves.kept c) ∙ at.setting.walk.kept c k answer e in
                let bad : Some answer ≡ None = sym there ∙ f in cc

    dead : (a : ℕ) → is_dead a g ≡ x.told.dead a
    dead a = both_ways (is_dead a g) (x.told.dead a) (λ e. either_of (contains a g.killed) (has_terminated (runs_of a g)) (x.told.dead a ≡ true) e
        (at.setting.walk.dead a) (λ ended. sym (at.setting.end.leaves.dead a) ∙ ended_late a ended))
        (λ e. dead_covered g x.late a at (at.setting.end.leaves.dead a ∙ e))
      where
        ended_late : (a : ℕ) → has_terminated (runs_of a g) ≡ true → is_dead a late ≡ true
        ended_late a ended = or_right (contains a late.killed) _ (ap has_terminated (at.setting.end.leaves.runs a ∙ sym (runs a)) ∙ ended)

-- ---- all of it

-- what any events leave is a world of the casts with which it was opened
pub world_of : (casts : List ActorSpec) (events : List Event) → IsWorld casts (history casts events)
world_of casts events = after_all_keeps (IsWorld casts) (world_step casts) (opening casts) events (record {
  sound = world_sound casts [];
  retires = world_retires casts [];
  follows = λ a place ends. cc;
  casts = refl;
  live = λ a e. cc;
  cast = λ a e. cc;
})

-- a walk is through or may go on
pub stuck_in : (casts : List ActorSpec) (bound : ℕ → Option (List Step)) (told : Told) (done : ℕ → ℕ) {plans : ℕ → List Step} {late : At} {g : History}
    → IsLate casts bound told plans late → IsWalk bound told done g → IsWorld casts g → RunsPosted g → IsThrough bound told done g ⊎ MayGoOn bound told done g
stuck_in casts bound told done {plans} {late} {g} l walk w posted = go (comes_near x s x.late s.end.play (later_same x.late.history))
  where
    x : Case
    x = record { casts = casts; bound = bound; told = told; done = done; plans = plans; late = late; g = g }

    s : Setting x
    s = record { end = l; walk = walk; world = w; posted = posted }

    go : Near x x.late → IsThrough bound told done g ⊎ MayGoOn bound told done g
    go (inr goal) = inr goal
    go (inl cov) = inl (through x (record { setting = s; play = s.end.play; later = later_same x.late.history; covered = cov }))

pub never_stuck : (casts : List ActorSpec) (bound : ℕ → Option (List Step)) (told : Told) (done : ℕ → ℕ) (events walk : List Event) → EndsAsTold casts bound
    told events → IsWalk bound told done (history casts walk) → IsThrough bound told done (history casts walk) ⊎ MayGoOn bound told done (history casts walk)
never_stuck casts bound told done events walk ends is =
    let found = late_play ends in stuck_in casts bound told done found.2 is (world_of casts walk) (all_posted casts walk)
