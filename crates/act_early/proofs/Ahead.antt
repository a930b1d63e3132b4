-- A quiescent play with the choices of the late one is ahead of it.
use Rattle.act_early.proofs.Common.{◌≡◌, ℕ, ◌+◌, ◌≤◌, Bool, true, false, cond, List, [], ◌∷◌, ◌++◌, length, Option, Some, None, refl, ap, sym, ◌∙◌, subst}
use Rattle.act_early.proofs.Common.{arith, ◌==◌, find, slice_get, eqb-true, append-nil, slice_get_within, Event, RunItem, Step, occurrences, ActorSpec, History}
use Rattle.act_early.proofs.Common.{names, cast_of, under, runs_of, next_item, add_event, after_run, IsPrefix, front_next, slice_get_front, element, under-push}
use Rattle.act_early.proofs.Common.{run_stands, next_item_caller, At, steps_of, IsPlay, Opens, Takes, Skips, Closes, Happens, IsQuiescent}
use Rattle.act_rules.specs.declared.event.Event.TheVariants as event
use Rattle.act_early.proofs.Worlds.{IsWorld, world}
use Rattle.act_early.proofs.Counting.{occurrences-push}
use Rattle.act_early.proofs.Progress.{Follows, follows}
use Rattle.act_early.proofs.Replies.{front_short}
use Rattle.act_early.proofs.Earlier.{IsEarlier, earlier_trans, earlier_event, earlier_step, step_runs}
use Rattle.act_early.proofs.Matching.{Matches, IsAhead, AreWorlds, calls_ahead, dead_ahead, same_choice, kept_ahead}
use Rattle.act_early.proofs.Waiting.{not_behind, not_behind_dead}
use Rattle.act_early.proofs.Items.{ready, same_item}

-- the early play and the late one
pub record AreBoth (specs : List ActorSpec) (plans : ℕ → List Step) (e l : At) : Type 0 where
  pub early : IsWorld specs e.history
  pub late : IsWorld specs l.history
  pub goes : (c : ℕ) → Follows plans c e
  pub quiescent : IsQuiescent plans e

-- a play of the plans is a world as the early one and the late one are, and follows the plans as the early one does
pub with_play : {specs : List ActorSpec} {plans : ℕ → List Step} {play early late : At} → AreBoth specs plans early late → IsPlay specs plans play
    → AreWorlds specs plans play early late
with_play {specs} {plans} {play} {early} {late} both is = record {
  play = world specs plans play is;
  early = both.early;
  late = both.late;
  moves = follows specs plans play is;
  goes = both.goes;
  quiescent = both.quiescent;
}

-- what matches a play matches each front of it
weaken : {before play early late : History} → IsEarlier before play → Matches play early late → Matches before early late
weaken {before} {play} {early} {late} e m = record {
  before = earlier_trans e m.before;
  choices = m.choices;
  reach = λ a. let short = front_short (runs_of a before) (runs_of a play) (e.runs a) in let reach = m.reach a in omega arith;
  killed = λ a killed. m.killed a (e.killed a killed);
  ended = λ a dead. subst (λ items. length (runs_of a early) ≤ length items) (e.last a dead) (m.ended a (e.dead a dead));
}

-- ---- one step

steps_more : (c : ℕ) (before early : At) → ((d : ℕ) → occurrences d before.stepped ≤ steps_of d early) → occurrences c before.stepped + 1 ≤ steps_of c early
    → (d : ℕ) → occurrences d (before.stepped ++ c ∷ []) ≤ steps_of d early
steps_more c before early le more d = subst (λ n. n ≤ steps_of d early) (sym (occurrences-push d c before.stepped)) (go (c == d) refl)
  where
    go : (same : Bool) → (c == d) ≡ same → occurrences d before.stepped + cond same 1 0 ≤ steps_of d early
    go true e = subst (λ x. occurrences x before.stepped + 1 ≤ steps_of x early) (eqb-true c d e) more
    go false e = let less = le d in omega arith

-- ---- one run

run_ahead : (specs : List ActorSpec) (plans : ℕ → List Step) (b c : ℕ) (before early late : At) → AreWorlds specs plans before early late →
    IsAhead before early → Matches before.history early.history late.history → Matches (add_event before.history (event.Run b c)) early.history late.history →
    (a : ℕ) → IsPrefix (runs_of a (add_event before.history (event.Run b c))) (runs_of a early.history)
run_ahead specs plans b c before early late w ahead was m a = go (next_item b c h) refl m
  where
    h : History
    h = before.history

    n : ℕ
    n = length (runs_of b h)

    -- the early play's item there is the same
    same : (item : RunItem) → next_item b c h ≡ Some item → Matches (after_run b c h (Some item)) early.history late.history
        → slice_get (runs_of b early.history) n ≡ Some item
    same item e m =
        let front_of : (xs : List RunItem) (k : ℕ) (x : RunItem) → slice_get xs k ≡ Some x → k + 1 ≤ length xs =
        λ xs k x at. let lt = slice_get_within xs k x at in omega arith in
        let stands = run_stands b h.ran item in
        let there : slice_get (runs_of b late.history) n ≡ Some item =
        slice_get_front (runs_of b (after_run b c h (Some item))) (runs_of b late.history) n (m.before.runs b) stands in
        let long = front_of (runs_of b (after_run b c h (Some item))) n item stands in
        let reach = m.reach b in
        let other = element (runs_of b early.history) n (omega (arith, long, reach)) in
        let caller : other.0.caller ≡ c = (same_choice early.history late.history b n (m.choices b) other.1 there).0
        ∙ next_item_caller b c h e in
        let is : other.0 ≡ item = same_item b c h early.history item other.0 w.early.sound (ready b c h item w.play.sound e) (ahead.runs b)
        (calls_ahead c (w.moves c) (w.goes c) (ahead.steps c)) (kept_ahead c w was ahead) other.1 caller in
        other.1 ∙ ap (λ i. Some i) is

    go : (o : Option RunItem) → next_item b c h ≡ o → Matches (after_run b c h o) early.history late.history
        → IsPrefix (runs_of a (after_run b c h o)) (runs_of a early.history)
    go None e m = ahead.runs a
    go (Some item) e m = subst (λ items. IsPrefix items (runs_of a early.history)) (sym (under-push a b h.ran item)) (at (b == a) refl)
      where
        at : (same_actor : Bool) → (b == a) ≡ same_actor → IsPrefix (runs_of a h ++ cond same_actor (item ∷ []) []) (runs_of a early.history)
        at false is = subst (λ items. IsPrefix items (runs_of a early.history)) (sym (append-nil (runs_of a h))) (ahead.runs a)
        at true is = subst (λ x. IsPrefix (runs_of x h ++ item ∷ []) (runs_of x early.history)) (eqb-true b a is)
            (front_next (runs_of b h) (runs_of b early.history) (ahead.runs b) (same item e m))

event_ahead : {specs : List ActorSpec} {plans : ℕ → List Step} (other : Event) {before early late : At} → AreWorlds specs plans before early late →
    IsAhead before early → Matches before.history early.history late.history → Matches (add_event before.history other) early.history late.history → (a : ℕ) →
    IsPrefix (runs_of a (add_event before.history other)) (runs_of a early.history)
event_ahead {specs} {plans} (event.Run b c) {before} {early} {late} w ahead was m a = run_ahead specs plans b c before early late w ahead was m a
event_ahead other w ahead was m a = ahead.runs a

-- ---- all of it

-- where a play of the plans matches the quiescent early play and the late one, the early one is ahead of it
pub ahead : {specs : List ActorSpec} {plans : ℕ → List Step} {early late : At} → AreBoth specs plans early late → (play : At) → IsPlay specs plans play
    → Matches play.history early.history late.history → IsAhead play early
ahead {early} both play Opens m = record { steps = λ c. omega arith; runs = λ a. (runs_of a early.history, refl) }
ahead {specs} {plans} {early} {late} both play (Takes before c step is next may) m =
    let w = with_play both is in let was = weaken (earlier_step c step w.play.sound may) m in let old = ahead both before is was in
    let more = not_behind specs plans c step before early w.play w.early (w.moves c) (w.goes c) both.quiescent
    (kept_ahead c w was old) next may (old.steps c) in
    record {
      steps = steps_more c before early old.steps more;
      runs = λ a. subst (λ ran. IsPrefix (under a ran) (runs_of a early.history)) (sym (step_runs c step before.history)) (old.runs a);
    }
ahead {specs} {plans} {early} {late} both play (Skips before c a is next named dead) m =
    let old = ahead both before is m in let w = with_play both is in
    let there : names c (cast_of a early.history) ≡ true =
    ap (λ l. names c (find (λ (cast : ActorSpec). cast.actor == a) l)) (w.early.casts ∙ sym w.play.casts) ∙ named in
    let more = not_behind_dead plans c a before early both.quiescent next there (dead_ahead a before early late m old dead) (old.steps c) in
    record { steps = steps_more c before early old.steps more; runs = old.runs }
ahead {specs} {plans} {early} {late} both play (Closes before c a is next may) m =
    let w = with_play both is in
    let was = weaken
    (earlier_event (event.Release c a) w.play.sound may) m in
    let old = ahead both before is was in record { steps = old.steps; runs = event_ahead (event.Release c a) w old was m }
ahead {specs} {plans} {early} {late} both play (Happens before other is free may) m =
    let w = with_play both is in let was = weaken (earlier_event other w.play.sound may) m in let old = ahead both before is was in
    record { steps = old.steps; runs = event_ahead other w old was m }
