-- A whole search has a play with the choices of each front of the late play.
use Rattle.act_early.proofs.Common.{◌≡◌, ℕ, ◌≤◌, Bool, true, false, cond, List, [], ◌∷◌, ◌++◌, length, take, Option, Some, None, refl, ap, sym, ◌∙◌, subst}
use Rattle.act_early.proofs.Common.{arith, ◌==◌, ◌||◌, map, drop, slice_get, is_some, eqb-true, append-nil, length-map, length-take-le, length_push}
use Rattle.act_early.proofs.Common.{take-append-drop, Event, RunItem, Step, has_terminated, ActorSpec, History, under, contains, runs_of, next_item, refusal_of}
use Rattle.act_early.proofs.Common.{add_event, after_run, IsPrefix, slice_get_front, under-push, run_needs, run_stands, next_item_caller, At, taken, skipped}
use Rattle.act_early.proofs.Common.{with_event, IsPlay, Opens, Takes, Skips, Closes, Happens, is_heard, choices_of, HasRunMore, IsWholeSearch, LosesOnly}
use Rattle.act_early.proofs.Common.{front_whole, contains_push}
use Rattle.act_rules.specs.declared.event.Event.TheVariants as event
use Rattle.act_early.proofs.Worlds.{world}
use Rattle.act_early.proofs.Counting.{take-at}
use Rattle.act_early.proofs.Progress.{follows}
use Rattle.act_early.proofs.Replies.{front_short}
use Rattle.act_early.proofs.Earlier.{IsEarlier, earlier_trans, earlier_event, earlier_step, step_runs, step_kills}
use Rattle.act_early.proofs.Matching.{Matches, IsAhead, AreWorlds, calls_ahead, choice_at, kept_ahead}
use Rattle.act_early.proofs.Ahead.{AreBoth, with_play, ahead}
use Rattle.act_early.proofs.Items.{ready}
use Rattle.act_early.proofs.Possible.{IsReached, may_run, runs_alike, may_kill}

-- the early play made the choices of this front of the late one, and no other
pub record Exactly (play early : At) (late : History) : Type 0 where
  pub choices : (a : ℕ) → choices_of a early.history ≡ take (length (runs_of a play.history)) (choices_of a late)
  pub killed : (a : ℕ) → contains a early.history.killed ≡ contains a play.history.killed

as_long : (a : ℕ) {play early : At} {late : History} → IsEarlier play.history late → Exactly play early late
    → length (runs_of a early.history) ≡ length (runs_of a play.history)
as_long a {play} {early} {late} before x =
    let n = length (runs_of a play.history) in
    let short : n ≤ length (runs_of a late) = front_short (runs_of a play.history) (runs_of a late) (before.runs a) in
    let all : length (choices_of a late) ≡ length (runs_of a late) = length-map (runs_of a late) (λ (i : RunItem). (i.caller, is_heard late i)) in
    sym (length-map (runs_of a early.history) (λ (i : RunItem). (i.caller, is_heard early.history i))) ∙ ap (λ l. length l) (x.choices a)
    ∙ length-take-le n (choices_of a late) (omega (arith, short, all))

matches : (play early : At) (late : History) → IsEarlier play.history late → Exactly play early late → Matches play.history early.history late
matches play early late before x = record {
  before = before;
  choices = λ a. subst (λ l. IsPrefix l (choices_of a late)) (sym (x.choices a))
      (drop (length (runs_of a play.history)) (choices_of a late), take-append-drop (length (runs_of a play.history)) (choices_of a late));
  reach = λ a. let e = as_long a before x in omega (arith, e);
  killed = λ a e. x.killed a ∙ e;
  ended = λ a dead. let e = as_long a before x in omega (arith, e);
}

pub is_ahead : (specs : List ActorSpec) (plans : ℕ → List Step) (play early late : At) → IsPlay specs plans play → AreBoth specs plans early late
    → IsEarlier play.history late.history → Exactly play early late.history → IsAhead play early
is_ahead specs plans play early late is both before x = ahead both play is (matches play early late.history before x)

-- a quiescent play with exactly the choices of a front of the late one has reached that front at each actor
pub reached : (specs : List ActorSpec) (plans : ℕ → List Step) (play early late : At) → IsPlay specs plans play → AreBoth specs plans early late
    → IsEarlier play.history late.history → Exactly play early late.history → (a : ℕ) → IsReached a play early
reached specs plans play early late is both before x a =
    let w : AreWorlds specs plans play early late = with_play both is in
    let front : IsAhead play early = is_ahead specs plans play early late is both before x in
    let runs : runs_of a play.history ≡ runs_of a early.history =
    let e = as_long a before x in front_whole (runs_of a play.history) (runs_of a early.history) (front.runs a) (omega (arith, e)) in
    record {
      runs = sym runs;
      dead = ap (λ b. b || has_terminated (runs_of a early.history)) (x.killed a)
          ∙ ap (λ items. contains a play.history.killed || has_terminated items) (sym runs);
      steps = front.steps;
      calls = λ c. calls_ahead c (w.moves c) (w.goes c) (front.steps c);
      kept = λ c. kept_ahead c w (matches play early late.history before x) front;
      casts = both.early.casts ∙ sym w.play.casts;
    }

-- ---- a play that was seen

pub record IsSeen (Seen : At → Type 0) (play : At) (late : History) : Type 0 where
  pub early : At
  pub has : Seen early
  pub exactly : Exactly play early late

-- what changes no choice
same_seen : {Seen : At → Type 0} {before : At} (play : At) {late : History} → play.history.ran ≡ before.history.ran →
    play.history.killed ≡ before.history.killed → IsSeen Seen before late → IsSeen Seen play late
same_seen play {late} ran killed s = record {
  early = s.early;
  has = s.has;
  exactly = record {
    choices = λ a. s.exactly.choices a ∙ ap (λ l. take (length (under a l)) (choices_of a late)) (sym ran);
    killed = λ a. s.exactly.killed a ∙ ap (contains a) (sym killed);
  };
}

pub both_of : {casts : List ActorSpec} {plans : ℕ → List Step} (may_lose : ℕ → Bool) (Seen : At → Type 0) (early : At) {late : At}
    → IsWholeSearch casts plans may_lose Seen → Seen early → IsPlay casts plans late → AreBoth casts plans early late
both_of {casts} {plans} may_lose Seen early {late} search has is = record {
  early = world casts plans early (search.plays early has);
  late = world casts plans late is;
  goes = follows casts plans early (search.plays early has);
  quiescent = search.quiescent early has;
}

run_seen : (casts : List ActorSpec) (plans : ℕ → List Step) (may_lose : ℕ → Bool) (Seen : At → Type 0) (b c : ℕ) (before late : At) →
    IsWholeSearch casts plans may_lose Seen → IsPlay casts plans before → IsPlay casts plans late → LosesOnly may_lose late.history → refusal_of before.history
    (event.Run b c) ≡ None → IsEarlier before.history late.history → IsEarlier (add_event before.history (event.Run b c)) late.history →
    IsSeen Seen before late.history → IsSeen Seen (with_event (event.Run b c) before) late.history
run_seen casts plans may_lose Seen b c before late search is ends losing may was later s = go (next_item b c h) refl later
  where
    h : History
    h = before.history

    at_run : Option RunItem → At
    at_run o = record { history = after_run b c h o; stepped = before.stepped }

    both : AreBoth casts plans s.early late
    both = both_of may_lose Seen s.early search s.has ends

    r : IsReached b before s.early
    r = reached casts plans before s.early late is both was s.exactly b

    go : (o : Option RunItem) → next_item b c h ≡ o → IsEarlier (after_run b c h o) late.history → IsSeen Seen (at_run o) late.history
    go None e later = same_seen (at_run None) refl refl s
    go (Some item) e later =
        let possible : next_item b c s.early.history ≡ Some item =
        runs_alike plans b c both.early.sound r both.quiescent (run_needs h b c may).2
        (ready b c h item (world casts plans before is).sound e) in
        let next : (g : At) × Seen g × HasRunMore b c heard s.early.history g.history =
        search.runs s.early b c heard s.has (may_run plans b c before s.early r both.quiescent may) (ap (λ o. is_some o) possible)
        (losing b n item there) in
        record {
          early = next.0;
          has = next.1;
          exactly = record {
            choices = λ a. next.2.0 a ∙ ap (λ l. l ++ cond (b == a) ((c, heard) ∷ []) []) (s.exactly.choices a) ∙ grown a (b == a) refl
                ∙ ap (λ items. take (length items) (choices_of a late.history)) (sym (under-push a b h.ran item));
            killed = λ a. next.2.1 a ∙ s.exactly.killed a;
          };
        }
      where
        heard : Bool
        heard = is_heard late.history item

        n : ℕ
        n = length (runs_of b h)

        there : slice_get (runs_of b late.history) n ≡ Some item
        there = slice_get_front (runs_of b (after_run b c h (Some item))) (runs_of b late.history) n (later.runs b) (run_stands b h.ran item)

        choice : slice_get (choices_of b late.history) n ≡ Some (c, heard)
        choice = choice_at late.history b n there ∙ ap (λ d. Some (d, heard)) (next_item_caller b c h e)

        grown : (a : ℕ) (x : Bool) → (b == a) ≡ x → take (length (runs_of a h)) (choices_of a late.history) ++ cond x ((c, heard) ∷ []) [] ≡ take
            (length (runs_of a h ++ cond x (item ∷ []) [])) (choices_of a late.history)
        grown a false e = append-nil (take (length (runs_of a h)) (choices_of a late.history))
            ∙ ap (λ items. take (length items) (choices_of a late.history)) (sym (append-nil (runs_of a h)))
        grown a true e = subst (λ x. take (length (runs_of x h)) (choices_of x late.history) ++ (c, heard) ∷ [] ≡ take (length (runs_of x h ++ item ∷ []))
            (choices_of x late.history)) (eqb-true b a e)
            (sym (ap (λ m. take m (choices_of b late.history)) (length_push (runs_of b h) item) ∙ take-at (choices_of b late.history) n choice))

kill_seen : (casts : List ActorSpec) (plans : ℕ → List Step) (may_lose : ℕ → Bool) (Seen : At → Type 0) (b : ℕ) (before late : At) →
    IsWholeSearch casts plans may_lose Seen → IsPlay casts plans before → IsPlay casts plans late → refusal_of before.history (event.TakeKill b) ≡ None →
    IsEarlier before.history late.history → IsSeen Seen before late.history → IsSeen Seen (with_event (event.TakeKill b) before) late.history
kill_seen casts plans may_lose Seen b before late search is ends may was s =
    let both = both_of may_lose Seen s.early search s.has ends in
    let r = reached casts plans before s.early late is both was s.exactly b in
    let next = search.takes s.early b s.has (may_kill casts plans b is (search.plays s.early s.has) r both.quiescent may) in
    record {
      early = next.0;
      has = next.1;
      exactly = record {
        choices = λ a. next.2.0 a ∙ s.exactly.choices a;
        killed = λ a. next.2.1 a ∙ ap (λ x. x || (b == a)) (s.exactly.killed a) ∙ sym (contains_push a b before.history.killed);
      };
    }

event_seen : {casts : List ActorSpec} {plans : ℕ → List Step} (may_lose : ℕ → Bool) (Seen : At → Type 0) (other : Event) (before late : At)
    → IsWholeSearch casts plans may_lose Seen → IsPlay casts plans before → IsPlay casts plans late → LosesOnly may_lose late.history
    → refusal_of before.history other ≡ None → IsEarlier before.history late.history → IsEarlier (add_event before.history other) late.history
    → IsSeen Seen before late.history → IsSeen Seen (with_event other before) late.history
event_seen {casts} {plans} may_lose Seen (event.Run b c) before late search is ends losing may was later s =
    run_seen casts plans may_lose Seen b c before late search is ends losing may was later s
event_seen {casts} {plans} may_lose Seen (event.TakeKill b) before late search is ends losing may was later s =
    kill_seen casts plans may_lose Seen b before late search is ends may was s
event_seen may_lose Seen other before late search is ends losing may was later s = same_seen _ refl refl s

-- ---- all of it

pub is_seen : {casts : List ActorSpec} {plans : ℕ → List Step} (may_lose : ℕ → Bool) (Seen : At → Type 0) {late : At}
    → IsWholeSearch casts plans may_lose Seen → IsPlay casts plans late → LosesOnly may_lose late.history
    → (play : At) → IsPlay casts plans play → IsEarlier play.history late.history → IsSeen Seen play late.history
is_seen may_lose Seen search ends losing play Opens later = record {
  early = search.start.0;
  has = search.start.1;
  exactly = record {
    choices = λ a. ap (map (λ (i : RunItem). (i.caller, is_heard search.start.0.history i))) (search.start.2 a);
    killed = λ a. ap (contains a) search.start.3;
  };
}
is_seen {casts} {plans} may_lose Seen {late} search ends losing play (Takes before c step is next may) later =
    let was = earlier_trans
    (earlier_step c step (world casts plans before is).sound may) later in
    same_seen (taken c step before) (step_runs c step before.history) (step_kills c step before.history)
    (is_seen may_lose Seen search ends losing before is was)
is_seen {casts} {plans} may_lose Seen {late} search ends losing play (Skips before c a is next named dead) later =
    same_seen (skipped c before) refl refl (is_seen may_lose Seen search ends losing before is later)
is_seen {casts} {plans} may_lose Seen {late} search ends losing play (Closes before c a is next may) later =
    let was = earlier_trans
    (earlier_event (event.Release c a) (world casts plans before is).sound may) later in
    event_seen may_lose Seen (event.Release c a) before late search is ends losing may was later
    (is_seen may_lose Seen search ends losing before is was)
is_seen {casts} {plans} may_lose Seen {late} search ends losing play (Happens before other is free may) later =
    let was = earlier_trans
    (earlier_event other (world casts plans before is).sound may) later in
    event_seen may_lose Seen other before late search is ends losing may was later
    (is_seen may_lose Seen search ends losing before is was)
