-- What stays while a play goes on.
use Rattle.act_early.proofs.Common.{◌≡◌, ℕ, true, List, None, refl, ◌∙◌, subst, Event, Step, Submit, Await, History, contains, runs_of, kept_of, is_dead}
use Rattle.act_early.proofs.Common.{is_retired, refusal_of, add_event, IsPrefix, whole_front, front_trans, added_grows, runs_grow, contains_more, ended_stays}
use Rattle.act_early.proofs.Common.{dead_stays, Extends, kept_extends, IsSound, after_step, MayTake, or_left}
use Rattle.act_early.proofs.Worlds.{event_of}

pub record IsEarlier (h g : History) : Type 0 where
  pub runs : (a : ℕ) → IsPrefix (runs_of a h) (runs_of a g)
  pub kept : (c : ℕ) → Extends (kept_of c h) (kept_of c g)
  pub killed : (a : ℕ) → contains a h.killed ≡ true → contains a g.killed ≡ true
  pub dead : (a : ℕ) → is_dead a h ≡ true → is_dead a g ≡ true
  -- nothing runs at the dead
  pub last : (a : ℕ) → is_dead a h ≡ true → runs_of a g ≡ runs_of a h

-- a history counts as earlier than itself
pub earlier_same : (h : History) → IsEarlier h h
earlier_same h = record { runs = λ a. whole_front (runs_of a h); kept = λ c j answer e. e; killed = λ a e. e; dead = λ a e. e; last = λ a e. refl }

-- if a first history is earlier than a second, and this than a third, the first is earlier than the third
pub earlier_trans : {f g h : History} → IsEarlier f g → IsEarlier g h → IsEarlier f h
earlier_trans {f} {g} {h} one two = record {
  runs = λ a. front_trans (runs_of a f) (runs_of a g) (runs_of a h) (one.runs a) (two.runs a);
  kept = λ c j answer e. two.kept c j answer (one.kept c j answer e);
  killed = λ a e. two.killed a (one.killed a e);
  dead = λ a e. two.dead a (one.dead a e);
  last = λ a e. two.last a (one.dead a e) ∙ one.last a e;
}

-- a sound history is earlier than the one that an accepted event makes of it
pub earlier_event : {h : History} (other : Event) → IsSound h → refusal_of h other ≡ None → IsEarlier h (add_event h other)
earlier_event {h} other sound accepted =
    let grows = added_grows h other in
    record {
      runs = λ a. runs_grow a grows;
      kept = λ c. kept_extends c grows sound.posts;
      killed = λ a e. subst (λ (xs : List ℕ). contains a xs ≡ true) grows.killed.1 (contains_more a h.killed grows.killed.0 e);
      dead = λ a e. dead_stays a h other accepted e;
      last = λ a e. (ended_stays a (runs_of a h) h other (record { ended = or_left (is_dead a h) (is_retired a h) e; same = refl }) accepted).same;
    }

-- a sound history is earlier than the one after a step that the caller may take
pub earlier_step : (c : ℕ) (step : Step) {h : History} → IsSound h → MayTake c step h → IsEarlier h (after_step c step h)
earlier_step c (Await k) {h} sound may = earlier_same h
earlier_step c step {h} sound may = earlier_event (event_of c step) sound may

-- a step runs nothing
pub step_runs : (c : ℕ) (step : Step) (h : History) → (after_step c step h).ran ≡ h.ran
step_runs c (Submit a method args) h = refl
step_runs c step h = refl

-- a caller's step adds none to the actors that took a kill
pub step_kills : (c : ℕ) (step : Step) (h : History) → (after_step c step h).killed ≡ h.killed
step_kills c (Submit a method args) h = refl
step_kills c step h = refl
