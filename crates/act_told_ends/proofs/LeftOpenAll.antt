-- Where replies may stand for deaths that are told, some events end with them.
use Rattle.act_told_ends.proofs.Common.{◌≡◌, ℕ, Bool, true, false, cond, List, [], ◌∷◌, ◌++◌, length, map, Option, Some, None, inl, inr, refl, ap, sym, ◌∙◌}
use Rattle.act_told_ends.proofs.Common.{subst, append_assoc, append-nil, All, All-cons, All-nil, All-append, Contains, slice_get, is_some, IsOk, Event, RunItem}
use Rattle.act_told_ends.proofs.Common.{Step, Release, Kill, Await, Answer, kept_at, ActorSpec, History, opening, calls_of, runs_of, kept_of, is_dead}
use Rattle.act_told_ends.proofs.Common.{is_retired, next_item, refusal_of, add_event, outcomes, after, after_all, history, after_all-append, outcomes-append}
use Rattle.act_told_ends.proofs.Common.{IsSound, sound_step, world_sound, after_all_keeps, added_grows, is_step_by, AreOthers, DoesStepBy, Post, DeathPost}
use Rattle.act_told_ends.proofs.Common.{same_kept, kept_long, none_others, others_first, others_rest, Told, EndsAsTold, MayStandForKept, with_kept}
use Rattle.act_rules.specs.declared.event.Event.TheVariants as event
use Rattle.act_told_ends.proofs.Later.{IsLater, later_same, later_trans}
use Rattle.act_told_ends.proofs.Along.{first_ok, rest_ok, after_is, all_later, IsSplit, split_front, split_later, does_all}
use Rattle.act_told_ends.proofs.Sent.{none_sent}
use Rattle.act_told_ends.proofs.LeftOpen.{Open, is_replaced, replaced, unreplaced, more_none, with_collected, kept_unreplaced, kept_more}
use Rattle.act_told_ends.proofs.LeftOpenEvents.{IsBeside}
use Rattle.act_told_ends.proofs.LeftOpenRun.{extra, collect_then, Goes, event_goes}

-- the events, each with what is done then
abbrev put_all : Open → History → List Event → List Event
put_all x h [] = []
put_all x h (other ∷ events) = (other ∷ extra x h other) ++ put_all x (after h other) events

put_all-append : (x : Open) (h : History) (xs ys : List Event) → put_all x h (xs ++ ys) ≡ put_all x h xs ++ put_all x (after_all h xs) ys
put_all-append x h [] ys = refl
put_all-append x h (other ∷ xs) ys = ap (λ l. (other ∷ extra x h other) ++ l) (put_all-append x (after h other) xs ys)
    ∙ sym (append_assoc (other ∷ extra x h other) (put_all x (after h other) xs) (put_all x (after_all (after h other) xs) ys))

-- ---- all events

record IsAlong (x : Open) (h : History) (posts : List Post) (events : List Event) : Type 0 where
  ok : All IsOk (outcomes (with_collected h posts) (put_all x h events))
  next : List Post
  left : after_all (with_collected h posts) (put_all x h events) ≡ with_collected (after_all h events) next
  beside : IsBeside x (after_all h events) next

along : (x : Open) (h : History) (posts : List Post) (events : List Event) → IsBeside x h posts → All IsOk (outcomes h events)
    → IsLater (after_all h events) x.last → IsAlong x h posts events
along x h posts [] b ok later = record { ok = All-nil IsOk; next = posts; left = refl; beside = b }
along x h posts (other ∷ events) b ok later =
    let g = with_collected h posts in let own : List Event = other ∷ extra x h other in let may : refusal_of h other ≡ None = first_ok h other events ok in
    let is : after h other ≡ add_event h other = after_is h other may in
    let sound_next : IsSound (after h other) = subst (λ k. IsSound k) (sym is) (sound_step h other b.sound may) in
    let next_later : IsLater (add_event h other) x.last =
    subst (λ k. IsLater k x.last) is
    (later_trans (all_later (after h other) events sound_next (rest_ok h other events ok)) later) in
    let one : Goes x h posts other (extra x h other) (add_event h other) = event_goes x h posts other b may next_later in
    let there : after_all g own ≡ with_collected (after h other) one.after = one.left ∙ ap (λ k. with_collected k one.after) (sym is) in
    let beside_next : IsBeside x (after h other) one.after = subst (λ k. IsBeside x k one.after) (sym is) one.beside in
    let rest = along x (after h other) one.after events beside_next (rest_ok h other events ok) later in
    record {
      ok = subst (λ l. All IsOk l) (sym (outcomes-append g own (put_all x (after h other) events))) (All-append IsOk (outcomes g own) (outcomes (after_all g
          own) (put_all x (after h other) events)) one.ok (subst (λ k. All IsOk (outcomes k (put_all x (after h other) events))) (sym there) rest.ok));
      next = rest.next;
      left = after_all-append g own (put_all x (after h other) events) ∙ ap (λ k. after_all k (put_all x (after h other) events)) there ∙ rest.left;
      beside = rest.beside;
    }

-- ---- a bound caller's steps

extra_others : (x : Open) (c : ℕ) (h : History) (other : Event) → AreOthers c (extra x h other)
extra_others x c h (event.Run a d) = go (next_item a d h)
  where
    put : (b : Bool) → AreOthers c (cond b (event.Collect (length h.posts) ∷ []) [])
    put true = All-cons (λ o. is_step_by c o ≡ false) (event.Collect (length h.posts)) [] refl (none_others c)
    put false = none_others c

    go : (o : Option RunItem) → AreOthers c (collect_then x d h o)
    go None = none_others c
    go (Some item) = put (is_replaced x d item.future)
extra_others x c h other = none_others c

others_put : (x : Open) (c : ℕ) (h : History) (events : List Event) → AreOthers c events → AreOthers c (put_all x h events)
others_put x c h [] others = none_others c
others_put x c h (other ∷ events) others = All-append (λ o. is_step_by c o ≡ false) (other ∷ extra x h other) (put_all x (after h other) events)
    (All-cons (λ o. is_step_by c o ≡ false) other (extra x h other) (others_first c other events others) (extra_others x c h other))
    (others_put x c (after h other) events (others_rest c other events others))

-- what was done before, with what is done then
abbrev before_of : Open → List Event → List Event
before_of x before = put_all x (opening x.casts) before

opens_beside : (x : Open) → IsLater (opening x.casts) x.last → IsBeside x (opening x.casts) []
opens_beside x later = record {
  sound = world_sound x.casts [];
  sent = none_sent x.casts;
  opened = refl;
  later = later;
  other = world_sound x.casts [];
  more = more_none x;
  given = λ c k a place item put e. cc;
}

first_along : (x : Open) (before events : List Event) → IsSplit x.casts x.last before events → IsAlong x (opening x.casts) [] before
first_along x before events s =
    let ok : All IsOk (outcomes (opening x.casts) before) = split_front events s in
    let opens : IsLater (opening x.casts) x.last =
    later_trans (all_later (opening x.casts) before (world_sound x.casts []) ok)
    (split_later s) in
    along x (opening x.casts) [] before (opens_beside x opens) ok (split_later s)

-- one step of a bound caller
does_one : (x : Open) (c : ℕ) (step : Step) (before done : List Event) {events : List Event} → IsSplit x.casts x.last before events →
    DoesStepBy x.casts c step before done → DoesStepBy x.casts c step (before_of x before) (put_all x (history x.casts before) done)
does_one x c (Kill a) before done s (inl asked) = inl (ap (put_all x (history x.casts before)) asked)
does_one x c (Kill a) before done {events} s (inr dead) =
    let all = first_along x before events s in
    inr (
      ap (put_all x (history x.casts before)) dead.0,
      subst (λ (g : History). Contains g.collected (DeathPost c a)) (sym all.left) (all.beside.more.all (DeathPost c a) dead.1),
    )
does_one x c (Await k) before done {events} s does =
    let all = first_along x before events s in (
      ap (put_all x (history x.casts before)) does.0,
      subst (λ g. is_some (kept_at (kept_of c g) k) ≡ true) (sym all.left) (kept_more x (history x.casts before) c k all.beside.more does.1),
    )
does_one x c step before done s does = ap (put_all x (history x.casts before)) does

-- ---- the law

-- where some events end as is told, some end with any answers that may stand for those that are told
pub may_be_replies : (casts : List ActorSpec) {bound : ℕ → Option (List Step)} {told : Told} (kept : ℕ → List (Option Answer)) (events : List Event)
    → EndsAsTold casts bound told events → MayStandForKept casts told kept → (others : List Event) × EndsAsTold casts bound (with_kept kept told) others
may_be_replies casts {told} kept events ends stand =
    let whole : IsSplit casts h [] events = record { ok = ends.accepted; later = later_same h } in
    let long : (c : ℕ) → length (kept_of c g) ≡ length (kept c) =
    λ c. kept_long c g h refl ∙ ap (λ l. length l) (ends.leaves.kept c) ∙ sym (stand c).0 in (
      before_of x events,
      record {
        accepted = all.ok;
        leaves = record {
          calls = λ c. ap (calls_of c) all.left ∙ ends.leaves.calls c;
          kept = λ c. ap (kept_of c) all.left ∙ same_kept (kept_of c g) (kept c) (long c) (at c);
          runs = λ a. ap (runs_of a) all.left ∙ ends.leaves.runs a;
          dead = λ a. ap (is_dead a) all.left ∙ ends.leaves.dead a;
        };
        retired = λ a. ap (is_retired a) all.left ∙ ends.retired a;
        does = λ c steps is. (
          (ends.does c steps is).0,
          does_all casts h (put_all x) c (put_all-append x) (others_put x c) (λ step before done rest s does. does_one x c step before done s does)
              (steps ++ map (λ a. Release a) (ends.does c steps is).0) [] events whole (ends.does c steps is).1,
        );
      },
    )
  where
    h : History
    h = history casts events

    opened : h.casts ≡ casts
    opened = (after_all_keeps (λ (k : History). k.casts ≡ casts) (λ k other e may. (added_grows k other).casts ∙ e) (opening casts) events refl)

    x : Open
    x = record { casts = casts; told = told; kept = kept; last = h; opened = opened; sound = world_sound casts events; leaves = ends.leaves; stand = stand }

    all : IsAlong x (opening casts) [] events
    all = first_along x events [] (record {
      ok = subst (λ l. All IsOk (outcomes (opening casts) l)) (sym (append-nil events)) ends.accepted;
      later = subst (λ l. IsLater (history casts l) h) (sym (append-nil events)) (later_same h);
    })

    g : History
    g = with_collected h all.next

    at : (c k : ℕ) → kept_at (kept_of c g) k ≡ kept_at (kept c) k
    at c k = go (is_replaced x c k) refl
      where
        go : (b : Bool) → is_replaced x c k ≡ b → kept_at (kept_of c g) k ≡ kept_at (kept c) k
        go false is = kept_unreplaced x h c k (later_same h) all.beside.more is ∙ ap (λ l. kept_at l k) (ends.leaves.kept c) ∙ sym (unreplaced x c k is)
        go true is =
            let r = replaced x c k is in
            all.beside.given c k r.3.actor r.3.place r.3.item is (ap (λ l. slice_get l r.3.place) (ends.leaves.runs r.3.actor) ∙ r.3.at)
            r.3.caller r.3.future
