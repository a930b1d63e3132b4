-- A quiescent play that made some of a late play's choices may make one more.
use Rattle.act_early.proofs.Common.{◌≡◌, ℕ, ◌<◌, ◌≤◌, Bool, true, false, cond, List, [], ◌∷◌, ◌++◌, length, Option, Some, None, inl, inr, ◌⊎◌, refl, ap, sym}
use Rattle.act_early.proofs.Common.{◌∙◌, subst, arith, ◌==◌, ◌||◌, slice_get, is_some, eqb-true, eq-eqb, cases_lt, slice_get_within, append-nil, length-map}
use Rattle.act_early.proofs.Common.{length_push, Event, RunItem, Step, has_terminated, ActorSpec, History, under, contains, runs_of, is_dead, next_item}
use Rattle.act_early.proofs.Common.{refusal_of, add_event, after_run, slice_get_front, under-push, run_needs, run_stands, next_item_caller, At, after_step}
use Rattle.act_early.proofs.Common.{IsPlay, Opens, Takes, Skips, Closes, Happens, is_heard, choices_of, IsQuiescent, IsFrontOf, Nearer, Whole, MayRun, MayKill}
use Rattle.act_early.proofs.Common.{front_whole, contains_push, or_right}
use Rattle.act_rules.specs.declared.event.Event.TheVariants as event
use Rattle.act_early.proofs.Worlds.{world, either_of, not_dead, take_needs}
use Rattle.act_early.proofs.Replies.{front_short}
use Rattle.act_early.proofs.Earlier.{IsEarlier, earlier_same, earlier_trans, earlier_event, earlier_step, step_runs, step_kills}
use Rattle.act_early.proofs.Matching.{Matches, IsAhead, AreWorlds, calls_ahead, choice_at, kept_ahead}
use Rattle.act_early.proofs.Ahead.{AreBoth, with_play, ahead}
use Rattle.act_early.proofs.Items.{ready}
use Rattle.act_early.proofs.Possible.{IsReached, may_run, runs_alike, may_kill}
use Rattle.act_early.proofs.Keys.{both_quiescent}

-- the early play made each choice of this front of the late one
record IsCovered (play early : History) : Type 0 where
  runs : (a : ℕ) → length (runs_of a play) ≤ length (runs_of a early)
  killed : (a : ℕ) → contains a play.killed ≡ true → contains a early.killed ≡ true

-- as many choices as runs
made : (a : ℕ) (h : History) → length (choices_of a h) ≡ length (runs_of a h)
made a h = length-map (runs_of a h) (λ (i : RunItem). (i.caller, is_heard h i))

fewer_runs : (a : ℕ) {early late : History} → IsFrontOf early late → length (runs_of a early) ≤ length (runs_of a late)
fewer_runs a {early} {late} f = let short = front_short (choices_of a early) (choices_of a late) (f.choices a) in let m = made a early in let n =
    made a late in omega (arith, short, m, n)

covered_matches : (play : History) {early late : History} → IsEarlier play late → IsFrontOf early late → IsCovered play early → Matches play early late
covered_matches play {early} {late} before f c = record {
  before = before;
  choices = f.choices;
  reach = c.runs;
  killed = c.killed;
  ended = λ a dead. subst (λ items. length (runs_of a early) ≤ length items) (before.last a dead) (fewer_runs a f);
}

-- ---- at one actor

-- where the early play ran no more than the late one, which isn't dead there, nor is the early one
at_actor : (casts : List ActorSpec) (plans : ℕ → List Step) (a : ℕ) {play : At} (early late : At) → AreWorlds casts plans play early late → IsAhead play early →
    Matches play.history early.history late.history → length (runs_of a early.history) ≤ length (runs_of a play.history) →
    contains a early.history.killed ≡ false → is_dead a play.history ≡ false → IsReached a play early
at_actor casts plans a {play} early late w front m short alive live =
    let runs : runs_of a play.history ≡ runs_of a early.history = front_whole (runs_of a play.history) (runs_of a early.history) (front.runs a) short in
    record {
      runs = sym runs;
      dead = ap (λ b. b || has_terminated (runs_of a early.history)) alive ∙ ap has_terminated (sym runs)
          ∙ neither (contains a play.history.killed) (has_terminated (runs_of a play.history)) live ∙ sym live;
      steps = front.steps;
      calls = λ c. calls_ahead c (w.moves c) (w.goes c) (front.steps c);
      kept = λ c. kept_ahead c w m front;
      casts = w.early.casts ∙ sym w.play.casts;
    }
  where
    neither : (x y : Bool) → (x || y) ≡ false → y ≡ false
    neither false y e = e
    neither true y e = cc

-- ---- one event of the late play

same_covered : {before : History} (play : History) {early : History} → play.ran ≡ before.ran → play.killed ≡ before.killed → IsCovered before early →
    IsCovered play early
same_covered play {early} ran killed c = record {
  runs = λ a. subst (λ l. length (under a l) ≤ length (runs_of a early)) (sym ran) (c.runs a);
  killed = λ a e. c.killed a (ap (contains a) (sym killed) ∙ e);
}

abbrev IsNear : History → At → At → Type 0
IsNear play early late = IsCovered play early.history ⊎ Nearer early.history late.history

run_near : (casts : List ActorSpec) (plans : ℕ → List Step) (b c : ℕ) (before early late : At) → AreBoth casts plans early late → IsPlay casts plans before →
    IsFrontOf early.history late.history → refusal_of before.history (event.Run b c) ≡ None → IsEarlier before.history late.history → IsEarlier (add_event
    before.history (event.Run b c)) late.history → IsCovered before.history early.history → IsNear (add_event before.history (event.Run b c)) early late
run_near casts plans b c before early late both is f may was later cov = go (next_item b c h) refl later
  where
    h : History
    h = before.history

    n : ℕ
    n = length (runs_of b h)

    go : (o : Option RunItem) → next_item b c h ≡ o → IsEarlier (after_run b c h o) late.history → IsNear (after_run b c h o) early late
    go None e later = inl cov
    go (Some item) e later = at (cases_lt n (length (runs_of b early.history)))
      where
        there : slice_get (runs_of b late.history) n ≡ Some item
        there = slice_get_front (runs_of b (after_run b c h (Some item))) (runs_of b late.history) n (later.runs b) (run_stands b h.ran item)

        more : (a : ℕ) (x : Bool) → (b == a) ≡ x → n < length (runs_of b early.history)
            → length (runs_of a h ++ cond x (item ∷ []) []) ≤ length (runs_of a early.history)
        more a false e lt = subst (λ l. length l ≤ length (runs_of a early.history)) (sym (append-nil (runs_of a h))) (cov.runs a)
        more a true e lt = subst (λ x. length (runs_of x h ++ item ∷ []) ≤ length (runs_of x early.history)) (eqb-true b a e)
            (let long = length_push (runs_of b h) item in omega (arith, long, lt))

        -- the early play took no kill there, since the late one runs more
        alive : length (runs_of b early.history) ≤ n → (x : Bool) → contains b early.history.killed ≡ x → contains b early.history.killed ≡ false
        alive short false e = e
        alive short true e =
            let same : length (choices_of b early.history) ≡ length (choices_of b late.history) = ap (λ l. length l) (f.all b e) in
            let m = made b early.history in let k = made b late.history in let lt = slice_get_within (runs_of b late.history) n item there in
            absurd (omega (arith, same, m, k, lt, short))

        at : (n < length (runs_of b early.history)) ⊎ (length (runs_of b early.history) ≤ n) → IsNear (after_run b c h (Some item)) early late
        at (inl lt) = inl (record {
          runs = λ a. subst (λ l. length l ≤ length (runs_of a early.history)) (sym (under-push a b h.ran item)) (more a (b == a) refl lt);
          killed = cov.killed;
        })
        at (inr short) =
            let m = covered_matches h was f cov in let w = with_play both is in let front = ahead both before is m in let needed = run_needs h b c may in
            let r = at_actor casts plans b early late w front m short (alive short (contains b early.history.killed) refl) (not_dead b h needed.2) in
            let possible = runs_alike plans b c both.early.sound r both.quiescent needed.2 (ready b c h item w.play.sound e) in
            let place : length (runs_of b early.history) ≡ n = ap (λ l. length l) r.runs in
            inr (MayRun b c (is_heard late.history item) (ap (slice_get (choices_of b late.history)) place ∙ choice_at late.history b n there ∙
            ap (λ d. Some (d, is_heard late.history item)) (next_item_caller b c h e)) (may_run plans b c before early r both.quiescent may)
            (ap (λ o. is_some o) possible))

kill_near : (casts : List ActorSpec) (plans : ℕ → List Step) (b : ℕ) (before early late : At) → AreBoth casts plans early late → IsPlay casts plans early →
    IsPlay casts plans before → IsFrontOf early.history late.history → refusal_of before.history (event.TakeKill b) ≡ None →
    IsEarlier before.history late.history → IsEarlier (add_event before.history (event.TakeKill b)) late.history → IsCovered before.history early.history →
    IsNear (add_event before.history (event.TakeKill b)) early late
kill_near casts plans b before early late both goes is f may was later cov = go (contains b early.history.killed) refl
  where
    h : History
    h = before.history

    taken_here : contains b (h.killed ++ b ∷ []) ≡ true
    taken_here = contains_push b b h.killed ∙ or_right (contains b h.killed) _ (eq-eqb b b refl)

    dead_after : (contains b (h.killed ++ b ∷ []) || has_terminated (runs_of b h)) ≡ true
    dead_after = ap (λ x. x || has_terminated (runs_of b h)) taken_here

    go : (x : Bool) → contains b early.history.killed ≡ x → IsNear (add_event h (event.TakeKill b)) early late
    go true e = inl (record {
      runs = cov.runs;
      killed = λ a k. either_of (contains a h.killed) (b == a) (contains a early.history.killed ≡ true) (sym (contains_push a b h.killed) ∙ k) (cov.killed a)
          (λ same. subst (λ y. contains y early.history.killed ≡ true) (eqb-true b a same) e);
    })
    go false e =
        let m = covered_matches h was f cov in let w = with_play both is in let front = ahead both before is m in
        let last : runs_of b late.history ≡ runs_of b h = later.last b dead_after in
        let most = fewer_runs b f in
        let short : length (runs_of b early.history) ≤ length (runs_of b h) =
        subst (λ l. length (runs_of b early.history) ≤ length l) last most in
        let r = at_actor casts plans b early late w front m short e (not_dead b h (take_needs h b may).1) in
        let one = made b early.history in let two = made b late.history in
        let same : length (runs_of b early.history) ≡ length (runs_of b late.history) = ap (λ l. length l) (r.runs ∙ sym last) in
        inr (MayKill b (later.killed b taken_here) e (front_whole (choices_of b early.history) (choices_of b late.history) (f.choices b)
        (omega (arith, one, two, same))) (may_kill casts plans b is goes r both.quiescent may))

event_near : {casts : List ActorSpec} {plans : ℕ → List Step} (other : Event) (before early late : At) → AreBoth casts plans early late → IsPlay casts plans
    early → IsPlay casts plans before → IsFrontOf early.history late.history → refusal_of before.history other ≡ None → IsEarlier before.history late.history →
    IsEarlier (add_event before.history other) late.history → IsCovered before.history early.history → IsNear (add_event before.history other) early late
event_near {casts} {plans} (event.Run b c) before early late both goes is f may was later cov =
    run_near casts plans b c before early late both is f may was later cov
event_near {casts} {plans} (event.TakeKill b) before early late both goes is f may was later cov =
    kill_near casts plans b before early late both goes is f may was later cov
event_near other before early late both goes is f may was later cov = inl (same_covered _ refl refl cov)

-- ---- all of it

or_near : (early late : At) {h : History} (g : History) → IsNear h early late → (IsCovered h early.history → IsNear g early late) → IsNear g early late
or_near early late g (inl cov) next = next cov
or_near early late g (inr near) next = inr near

comes_near : {casts : List ActorSpec} {plans : ℕ → List Step} {early late : At} → AreBoth casts plans early late → IsPlay casts plans early →
    IsFrontOf early.history late.history → (play : At) → IsPlay casts plans play → IsEarlier play.history late.history → IsNear play.history early late
comes_near both goes f play Opens later = inl (record { runs = λ a. omega arith; killed = λ a e. cc })
comes_near {casts} {plans} {early} {late} both goes f play (Takes before c step is next may) later =
    let was = earlier_trans
    (earlier_step c step (world casts plans before is).sound may) later in
    or_near early late (after_step c step before.history) (comes_near both goes f before is was)
    (λ cov. inl (same_covered (after_step c step before.history) (step_runs c step before.history) (step_kills c step before.history) cov))
comes_near {casts} {plans} {early} {late} both goes f play (Skips before c a is next named dead) later = comes_near both goes f before is later
comes_near {casts} {plans} {early} {late} both goes f play (Closes before c a is next may) later =
    let was = earlier_trans
    (earlier_event (event.Release c a) (world casts plans before is).sound may) later in
    or_near early late (add_event before.history (event.Release c a)) (comes_near both goes f before is was)
    (λ cov. event_near (event.Release c a) before early late both goes is f may was later cov)
comes_near {casts} {plans} {early} {late} both goes f play (Happens before other is free may) later =
    let was = earlier_trans
    (earlier_event other (world casts plans before is).sound may) later in
    or_near early late (add_event before.history other) (comes_near both goes f before is was)
    (λ cov. event_near other before early late both goes is f may was later cov)

pub no_front_is_stuck : (casts : List ActorSpec) (plans : ℕ → List Step) (early late : At) → IsPlay casts plans early → IsQuiescent plans early
    → IsPlay casts plans late → IsFrontOf early.history late.history → Nearer early.history late.history
no_front_is_stuck casts plans early late goes quiescent is f = go (comes_near (both_quiescent goes quiescent is) goes f late is (earlier_same late.history))
  where
    killed : (a : ℕ) → IsCovered late.history early.history → (x y : Bool) → contains a early.history.killed ≡ x → contains a late.history.killed ≡ y → x ≡ y
    killed a cov true y e k = sym (f.killed a e) ∙ k
    killed a cov false true e k = let yes = cov.killed a k in let bad : true ≡ false = sym yes ∙ e in cc
    killed a cov false false e k = refl

    go : IsNear late.history early late → Nearer early.history late.history
    go (inr near) = near
    go (inl cov) = Whole (record {
      choices = λ a. let m = made a early.history in let n = made a late.history in let reach =
          cov.runs a in front_whole (choices_of a early.history) (choices_of a late.history) (f.choices a) (omega (arith, m, n, reach));
      killed = λ a. killed a cov (contains a early.history.killed) (contains a late.history.killed) refl refl;
    })
