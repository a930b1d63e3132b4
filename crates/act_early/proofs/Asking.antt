-- The kills that are asked are those of the steps that callers are done with.
use Rattle.act_early.proofs.Common.{◌≡◌, ℕ, Bool, true, false, cond, List, [], ◌∷◌, Some, refl, ap, sym, ◌∙◌, subst, ◌==◌, ◌||◌, list_any, eqb-true, eq-eqb}
use Rattle.act_early.proofs.Common.{list_any-append, Event, Step, Kill, is_kill_of, ActorSpec, History, contains, is_dead, add_event, IsKept, contains_more}
use Rattle.act_early.proofs.Common.{dead_stays, At, next_step, after_step, taken, IsPlay, Opens, Takes, Skips, Closes, Happens, or_left, contains_push}
use Rattle.act_early.proofs.Common.{or_right}
use Rattle.act_rules.specs.declared.event.Event.TheVariants as event
use Rattle.act_early.proofs.Worlds.{step_keeps, either_of}
use Rattle.act_early.proofs.Counting.{done_steps, done-push}
use Rattle.act_early.proofs.Progress.{free_idle}

-- ---- asked or dead, for good

asked_stays : (a : ℕ) (h : History) (other : Event) → contains a h.asked ≡ true → contains a (add_event h other).asked ≡ true
asked_stays a h (event.Run b c) e = ap (contains a) (free_idle h (event.Run b c) refl).asked ∙ e
asked_stays a h (event.AskKill c b) e = contains_more a h.asked (b ∷ []) e
asked_stays a h other e = e

abbrev pub IsAskedOrDead : ℕ → History → Type 0
IsAskedOrDead a h = (contains a h.asked || is_dead a h) ≡ true

asked_or_dead_step : (a : ℕ) → IsKept (IsAskedOrDead a)
asked_or_dead_step a h other held accepted = either_of (contains a h.asked) (is_dead a h) (IsAskedOrDead a (add_event h other)) held
    (λ e. or_left (contains a (add_event h other).asked) (is_dead a (add_event h other)) (asked_stays a h other e))
    (λ e. or_right (contains a (add_event h other).asked) _ (dead_stays a h other accepted e))

-- ---- each kill of a step that is done was asked, or its actor is dead

abbrev pub AsksAll : (ℕ → List Step) → ℕ → At → Type 0
AsksAll plans a at = (c : ℕ) → list_any (is_kill_of a) (done_steps plans c at) ≡ true → IsAskedOrDead a at.history

-- a step asks what it says
step_asks : (c d a : ℕ) (step : Step) (h : History) → list_any (is_kill_of a) (cond (c == d) (step ∷ []) []) ≡ true
    → contains a (after_step c step h).asked ≡ true
step_asks c d a step h e = go (c == d) step e
  where
    go : (same : Bool) (step : Step) → list_any (is_kill_of a) (cond same (step ∷ []) []) ≡ true → contains a (after_step c step h).asked ≡ true
    go false step e = cc
    go true (Kill b) e = contains_push a b h.asked ∙ or_right (contains a h.asked) _ (either_of (b == a) false ((b == a) ≡ true) e (λ x. x) (λ x. cc))
    go true step e = cc

done_any : (plans : ℕ → List Step) (c d a : ℕ) {step : Step} (at : At) → next_step plans c at ≡ Some step → list_any (is_kill_of a)
    (done_steps plans d (taken c step at)) ≡ (list_any (is_kill_of a) (done_steps plans d at) || list_any (is_kill_of a) (cond (c == d) (step ∷ []) []))
done_any plans c d a {step} at is = ap (list_any (is_kill_of a)) (done-push plans c d at step is)
    ∙ list_any-append (is_kill_of a) (done_steps plans d at) (cond (c == d) (step ∷ []) [])

skip_dead : (c d a b : ℕ) (h : History) → list_any (is_kill_of a) (cond (c == d) (Kill b ∷ []) []) ≡ true → is_dead b h ≡ true → is_dead a h ≡ true
skip_dead c d a b h e dead = go (c == d) e
  where
    go : (same : Bool) → list_any (is_kill_of a) (cond same (Kill b ∷ []) []) ≡ true → is_dead a h ≡ true
    go false e = cc
    go true e = subst (λ x. is_dead x h ≡ true) (eqb-true b a (either_of (b == a) false ((b == a) ≡ true) e (λ x. x) (λ x. cc))) dead

pub asks_all : {casts : List ActorSpec} {plans : ℕ → List Step} (a : ℕ) (at : At) → IsPlay casts plans at → AsksAll plans a at
asks_all a at Opens d e = cc
asks_all {casts} {plans} a at (Takes before c step play is may) d e =
    either_of (list_any (is_kill_of a) (done_steps plans d before)) (list_any (is_kill_of a) (cond (c == d) (step ∷ []) []))
    (IsAskedOrDead a (after_step c step before.history)) (sym (done_any plans c d a before is) ∙ e)
    (λ old. step_keeps (IsAskedOrDead a) (asked_or_dead_step a) c step before.history (asks_all a before play d old) may)
    (λ new. or_left (contains a (after_step c step before.history).asked) (is_dead a (after_step c step before.history))
    (step_asks c d a step before.history new))
asks_all {casts} {plans} a at (Skips before c b play is named dead) d e =
    either_of (list_any (is_kill_of a) (done_steps plans d before)) (list_any (is_kill_of a) (cond (c == d) (Kill b ∷ []) []))
    (IsAskedOrDead a before.history) (sym (done_any plans c d a before is) ∙ e)
    (λ old. asks_all a before play d old)
    (λ new. or_right (contains a before.history.asked) _ (skip_dead c d a b before.history new dead))
asks_all {casts} {plans} a at (Closes before c b play none may) d e = asked_or_dead_step a before.history (event.Release c b) (asks_all a before play d e) may
asks_all {casts} {plans} a at (Happens before other play free may) d e = asked_or_dead_step a before.history other (asks_all a before play d e) may

-- ---- each kill that was asked is that of a step that is done

abbrev pub IsAskedBy : (ℕ → List Step) → ℕ → At → Type 0
IsAskedBy plans a at = (c : ℕ) × (list_any (is_kill_of a) (done_steps plans c at) ≡ true)

-- what a step asks, it says
step_asked : (c a : ℕ) (step : Step) (h : History) → contains a (after_step c step h).asked ≡ true → (contains a h.asked || is_kill_of a step) ≡ true
step_asked c a (Kill b) h e = sym (contains_push a b h.asked) ∙ e
step_asked c a step h e = or_left (contains a h.asked) false e

any_one : (same : Bool) (a : ℕ) (step : Step) → same ≡ true → is_kill_of a step ≡ true → list_any (is_kill_of a) (cond same (step ∷ []) []) ≡ true
any_one true a step e is = rw is refl
any_one false a step e is = cc

asked_more : (plans : ℕ → List Step) (c a : ℕ) {step : Step} (at : At) → next_step plans c at ≡ Some step → IsAskedBy plans a at
    → IsAskedBy plans a (taken c step at)
asked_more plans c a {step} at is by = (
  by.0,
  done_any plans c by.0 a at is ∙ or_left (list_any (is_kill_of a) (done_steps plans by.0 at)) (list_any (is_kill_of a) (cond (c == by.0) (step ∷ []) [])) by.1,
)

pub asked_by : (casts : List ActorSpec) (plans : ℕ → List Step) (a : ℕ) (at : At) → IsPlay casts plans at → contains a at.history.asked ≡ true
    → IsAskedBy plans a at
asked_by casts plans a at Opens e = cc
asked_by casts plans a at (Takes before c step play is may) e =
    either_of (contains a before.history.asked) (is_kill_of a step) (IsAskedBy plans a (taken c step before)) (step_asked c a step before.history e)
    (λ old. asked_more plans c a before is (asked_by casts plans a before play old))
    (λ new. (
      c,
      done_any plans c c a before is ∙ or_right (list_any (is_kill_of a) (done_steps plans c before)) _ (any_one (c == c) a step (eq-eqb c c refl) new),
    ))
asked_by casts plans a at (Skips before c b play is named dead) e = let more =
    asked_more plans c a before is (asked_by casts plans a before play e) in (more.0, more.1)
asked_by casts plans a at (Closes before c b play none may) e = let by = asked_by casts plans a before play e in (by.0, by.1)
asked_by casts plans a at (Happens before other play free may) e =
    let by = asked_by casts plans a before play (subst (λ xs. contains a xs ≡ true) (free_idle before.history other free).asked e) in (by.0, by.1)
