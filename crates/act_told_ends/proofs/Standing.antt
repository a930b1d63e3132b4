-- Where calls may stand for those that are told, some events end with them.
use Rattle.act_told_ends.proofs.Common.{◌≡◌, ℕ, false, List, [], ◌∷◌, ◌++◌, length, take, map, Option, Some, None, inl, inr, ◌⊎◌, refl, ap, sym, ◌∙◌, subst}
use Rattle.act_told_ends.proofs.Common.{arith, All, All-cons, All-nil, Contains, slice_get, is_some, IsOk, Event, Submission, Step, Submit, Release, Kill}
use Rattle.act_told_ends.proofs.Common.{Await, kept_at, ActorSpec, History, opening, calls_of, runs_of, kept_of, is_dead, is_retired, refusal_of, add_event}
use Rattle.act_told_ends.proofs.Common.{outcome_by, outcome_of, outcomes, after, after_all, history, IsPrefix, slice_get_front, slice_get_last, under-push}
use Rattle.act_told_ends.proofs.Common.{eq-eqb, cond, IsSound, sound_step, world_sound, is_step_by, AreOthers, DoesStepBy, At, DeathPost, take-past}
use Rattle.act_told_ends.proofs.Common.{none_others, others_first, others_rest, Told, EndsAsTold, MayStandFor, StandFor, with_calls}
use Rattle.act_rules.specs.declared.event.Event.TheVariants as event
use Rattle.act_told_ends.proofs.Bridge.{IsLate, late_found}
use Rattle.act_told_ends.proofs.Later.{IsLater, later_same, later_trans, later_event}
use Rattle.act_told_ends.proofs.Twins.{length_same}
use Rattle.act_told_ends.proofs.Swapped.{Stand, swap, by_call, with_subs, AreFirst, IsSwapped, event_swapped, stand_actors, same_actors, kept_as}
use Rattle.act_told_ends.proofs.Along.{first_ok, rest_ok, after_is, front_ok, all_later, history_more, IsSplit, split_front, split_rest, split_later}
use Rattle.act_told_ends.proofs.Along.{split_more, does_all}

-- the events, each with the call that stands for the one it makes
abbrev swap_all : (ℕ → List Submission) → History → List Event → List Event
swap_all calls h [] = []
swap_all calls h (other ∷ events) = swap calls h other ∷ swap_all calls (after h other) events

swap_all-append : (calls : ℕ → List Submission) (h : History) (xs ys : List Event)
    → swap_all calls h (xs ++ ys) ≡ swap_all calls h xs ++ swap_all calls (after_all h xs) ys
swap_all-append calls h [] ys = refl
swap_all-append calls h (x ∷ xs) ys = ap (λ l. swap calls h x ∷ l) (swap_all-append calls (after h x) xs ys)

-- ---- all events

-- the events with other calls, from a history with other calls
record IsAlong (x : Stand) (h : History) (subs : List (ℕ × Submission)) (events : List Event) : Type 0 where
  ok : All IsOk (outcomes (with_subs h subs) (swap_all x.calls h events))
  next : List (ℕ × Submission)
  left : after_all (with_subs h subs) (swap_all x.calls h events) ≡ with_subs (after_all h events) next
  first : AreFirst x.calls (after_all h events) next

along : (x : Stand) (h : History) (subs : List (ℕ × Submission)) (events : List Event) → IsSound h → All IsOk (outcomes h events)
    → IsLater (after_all h events) x.late.history → AreFirst x.calls h subs → IsAlong x h subs events
along x h subs [] sound ok later first = record { ok = All-nil IsOk; next = subs; left = refl; first = first }
along x h subs (other ∷ events) sound ok later first =
    let g = with_subs h subs in let may : refusal_of h other ≡ None = first_ok h other events ok in
    let is : after h other ≡ add_event h other = after_is h other may in
    let sound_next : IsSound (after h other) = subst (λ k. IsSound k) (sym is) (sound_step h other sound may) in
    let after_later : IsLater (after h other) x.late.history =
    later_trans
    (all_later (after h other) events sound_next (rest_ok h other events ok)) later in
    let next_later : IsLater (add_event h other) x.late.history = subst (λ k. IsLater k x.late.history) is after_later in
    let one : IsSwapped x h subs other =
    event_swapped x h subs other may (later_trans (later_event other sound may) next_later) next_later first in
    let there : after g (swap x.calls h other) ≡ with_subs (after h other) one.next =
    after_is g (swap x.calls h other) one.may ∙ one.left ∙ ap (λ k. with_subs k one.next) (sym is) in
    let first_next : AreFirst x.calls (after h other) one.next = subst (λ k. AreFirst x.calls k one.next) (sym is) one.first in
    let rest = along x (after h other) one.next events sound_next (rest_ok h other events ok) later first_next in
    record {
      ok = All-cons IsOk (outcome_of g (swap x.calls h other)) (outcomes (after g (swap x.calls h other)) (swap_all x.calls (after h other) events))
          (subst (λ o. IsOk (outcome_by g (swap x.calls h other) o)) (sym one.may) refl)
          (subst (λ k. All IsOk (outcomes k (swap_all x.calls (after h other) events))) (sym there) rest.ok);
      next = rest.next;
      left = ap (λ k. after_all k (swap_all x.calls (after h other) events)) there ∙ rest.left;
      first = rest.first;
    }

-- ---- a bound caller's steps

step_swapped : (calls : ℕ → List Submission) (c : ℕ) (h : History) (other : Event) → is_step_by c (swap calls h other) ≡ is_step_by c other
step_swapped calls c h (event.Submit d a method args) = go (slice_get (calls d) (length (calls_of d h)))
  where
    go : (o : Option Submission) → is_step_by c (by_call d a method args o) ≡ is_step_by c (event.Submit d a method args)
    go None = refl
    go (Some call) = refl
step_swapped calls c h other = refl

others_swapped : (calls : ℕ → List Submission) (c : ℕ) (h : History) (events : List Event) → AreOthers c events → AreOthers c (swap_all calls h events)
others_swapped calls c h [] others = none_others c
others_swapped calls c h (other ∷ events) others =
    All-cons (λ o. is_step_by c o ≡ false) (swap calls h other) (swap_all calls (after h other) events)
    (step_swapped calls c h other ∙ others_first c other events others) (others_swapped calls c (after h other) events (others_rest c other events others))

-- what was done before, with other calls
abbrev before_of : Stand → List Event → List Event
before_of x before = swap_all x.calls (opening x.casts) before

opens_first : (x : Stand) → AreFirst x.calls (opening x.casts) []
opens_first x c = refl

whole_along : (x : Stand) (before : List Event) → All IsOk (outcomes (opening x.casts) before) → IsLater (history x.casts before) x.late.history
    → IsAlong x (opening x.casts) [] before
whole_along x before ok later = along x (opening x.casts) [] before (world_sound x.casts []) ok later (opens_first x)

-- a bound caller's own calls are those told
own_call : (x : Stand) (c a : ℕ) (method : _) (args : _) (h : History) → x.calls c ≡ x.told.calls c → refusal_of h (event.Submit c a method args) ≡ None →
    IsLater (add_event h (event.Submit c a method args)) x.late.history → swap x.calls h (event.Submit c a method args) ≡ event.Submit c a method args
own_call x c a method args h own may later =
    let call : Submission = record { actor = a; method = method; args = args } in
    let told : slice_get (x.told.calls c) (length (calls_of c h)) ≡ Some call =
    slice_get_front (calls_of c (add_event h (event.Submit c a method args))) (x.told.calls c) (length (calls_of c h))
    (subst (λ calls. IsPrefix (calls_of c (add_event h (event.Submit c a method args))) calls) (x.is_late.leaves.calls c) (later.calls c))
    (ap (λ calls. slice_get calls (length (calls_of c h)))
    (under-push c c h.submitted call ∙ ap (λ b. calls_of c h ++ cond b (call ∷ []) []) (eq-eqb c c refl)) ∙ slice_get_last (calls_of c h) call) in
    ap (by_call c a method args) (ap (λ calls. slice_get calls (length (calls_of c h))) own ∙ told)

-- after the events with other calls, what the caller keeps and collected is the same
same_after : (x : Stand) (c : ℕ) {before rest : List Event} → IsSplit x.casts x.late.history before rest → (next : List (ℕ × Submission)) × (history x.casts
    (before_of x before) ≡ with_subs (history x.casts before) next) × (kept_of c (history x.casts (before_of x before)) ≡ kept_of c (history x.casts before))
same_after x c {before} {rest} s =
    let later = split_later s in
    let all = whole_along x before (split_front rest s) later in (
      all.next,
      all.left,
      ap (kept_of c) all.left ∙ kept_as c (history x.casts before) all.next (same_actors x (history x.casts before) all.next c later all.first),
    )

-- one step of a bound caller, with other calls
does_one : (x : Stand) (c : ℕ) (step : Step) (before done rest : List Event) → x.calls c ≡ x.told.calls c → IsSplit x.casts x.late.history before
    (done ++ rest) → DoesStepBy x.casts c step before done → DoesStepBy x.casts c step (before_of x before) (swap_all x.calls (history x.casts before) done)
does_one x c (Submit a method args) before done rest own s does =
    let h = history x.casts before in let late = x.late.history in
    let may : refusal_of h (event.Submit c a method args) ≡ None =
    first_ok h (event.Submit c a method args) [] (subst (λ l. All IsOk (outcomes h l)) does (front_ok h done rest (split_rest s)).0) in
    let made : IsLater (add_event h (event.Submit c a method args)) late =
    subst (λ g. IsLater g late)
    (history_more x.casts before done ∙ ap (after_all h) does ∙ after_is h (event.Submit c a method args) may)
    (split_later (split_more done rest s)) in
    ap (swap_all x.calls h) does ∙ ap (λ o. o ∷ []) (own_call x c a method args h own may made)
does_one x c (Kill a) before done rest own s (inl asked) = inl (ap (swap_all x.calls (history x.casts before)) asked)
does_one x c (Kill a) before done rest own s (inr dead) =
    let same = same_after x c s in
    inr (
      ap (swap_all x.calls (history x.casts before)) dead.0,
      subst (λ (g : History). Contains g.collected (DeathPost c a)) (sym same.1) dead.1,
    )
does_one x c (Await k) before done rest own s does =
    let same = same_after x c s in (ap (swap_all x.calls (history x.casts before)) does.0, ap (λ kept. is_some (kept_at kept k)) same.2 ∙ does.1)
does_one x c step before done rest own s does = ap (swap_all x.calls (history x.casts before)) does

-- ---- the law

-- where some events end as is told, some end with any calls that may stand for those that are told
pub may_stand : {casts : List ActorSpec} {bound : ℕ → Option (List Step)} {told : Told} (calls : ℕ → List Submission) {events : List Event}
    → EndsAsTold casts bound told events → MayStandFor bound told calls → (others : List Event) × EndsAsTold casts bound (with_calls calls told) others
may_stand {casts} {bound} {told} calls {events} ends stand =
    let found : (plans : ℕ → List Step) × (late : At) × IsLate casts bound told plans late × (late.history ≡ history casts events) =
    late_found casts bound told ends in
    let x : Stand = record { casts = casts; bound = bound; told = told; calls = calls; plans = found.0; late = found.1; is_late = found.2; stand = stand } in
    let h = history casts events in
    let later : IsLater h found.1.history = subst (λ g. IsLater g found.1.history) found.3 (later_same found.1.history) in
    let all : IsAlong x (opening casts) [] events = whole_along x events ends.accepted later in
    let long : (c : ℕ) → length (calls_of c h) ≡ length (calls c) =
    λ c. ap (λ l. length l) (ends.leaves.calls c) ∙ sym (length_same (calls c) (told.calls c) (stand_actors x c)) in
    let split : IsSplit casts found.1.history [] events = record { ok = ends.accepted; later = later } in (
      before_of x events,
      record {
        accepted = all.ok;
        leaves = record {
          calls = λ c. ap (calls_of c) all.left ∙ all.first c ∙ ap (λ n. take n (calls c)) (long c) ∙ take-past (calls c) (length (calls c)) (omega arith);
          kept = λ c. ap (kept_of c) all.left ∙ kept_as c h all.next (same_actors x h all.next c later all.first) ∙ ends.leaves.kept c;
          runs = λ a. ap (runs_of a) all.left ∙ ends.leaves.runs a;
          dead = λ a. ap (is_dead a) all.left ∙ ends.leaves.dead a;
        };
        retired = λ a. ap (is_retired a) all.left ∙ ends.retired a;
        does = λ c steps is. (
          (ends.does c steps is).0,
          does_all casts found.1.history (swap_all calls) c (swap_all-append calls) (others_swapped calls c) (λ step before done rest s does. does_one x c step
              before done rest (own c steps is) s does) (steps ++ map (λ a. Release a) (ends.does c steps is).0) [] events split (ends.does c steps is).1,
        );
      },
    )
  where
    own : (c : ℕ) (steps : List Step) → bound c ≡ Some steps → calls c ≡ told.calls c
    own c steps is = go (stand c)
      where
        go : (calls c ≡ told.calls c) ⊎ ((bound c ≡ None) × StandFor told c (calls c)) → calls c ≡ told.calls c
        go (inl same) = same
        go (inr stands) = let bad : None ≡ Some steps = sym stands.0 ∙ is in cc
