-- Going on without a choice.
use Rattle.act_early.proofs.Common.{◌≡◌, ℕ, Bool, true, false, List, [], ◌∷◌, ◌++◌, Some, None, refl, ap, sym, ◌∙◌, subst, ◌==◌, ◌||◌, find, slice_get, is_some}
use Rattle.act_early.proofs.Common.{Event, Step, Kill, Await, ActorSpec, History, under, contains, cast_of, names, runs_of, is_dead, refusal_of, add_event}
use Rattle.act_early.proofs.Common.{and_also, IsPrefix, has_terminated, whole_front, front_trans, added_grows, At, next_step, MayTake, taken, skipped}
use Rattle.act_early.proofs.Common.{with_event, IsPlay, Takes, Skips, Happens, choices_of, DeathPost}
use Rattle.act_rules.specs.declared.event.Event.TheVariants as event
use Rattle.act_early.proofs.Worlds.{world, event_of}
use Rattle.act_early.proofs.Choices.{choices_quiet, choices_same, heard_more, death_no_reply}

-- the second play goes on from the first, and made no choice more
pub record Quiesces (specs : List ActorSpec) (plans : ℕ → List Step) (p q : At) : Type 0 where
  pub play : IsPlay specs plans q
  pub live : q.history.retired ≡ []
  pub choices : (a : ℕ) → choices_of a q.history ≡ choices_of a p.history
  pub killed : q.history.killed ≡ p.history.killed
  pub ran : q.history.ran ≡ p.history.ran
  pub casts : q.history.casts ≡ p.history.casts
  pub collected : IsPrefix p.history.collected q.history.collected
  pub arrived : IsPrefix p.history.arrived q.history.arrived

-- a play in which no actor retired goes on to itself without a choice
pub quiesces_same : {specs : List ActorSpec} {plans : ℕ → List Step} {p : At} → IsPlay specs plans p → p.history.retired ≡ [] → Quiesces specs plans p p
quiesces_same {p} play live = record {
  play = play;
  live = live;
  choices = λ a. refl;
  killed = refl;
  ran = refl;
  casts = refl;
  collected = whole_front p.history.collected;
  arrived = whole_front p.history.arrived;
}

-- to go on without a choice, and then once more, is to go on without a choice
pub quiesces_trans : {specs : List ActorSpec} {plans : ℕ → List Step} {p q r : At} → Quiesces specs plans p q → Quiesces specs plans q r →
    Quiesces specs plans p r
quiesces_trans {p} {q} {r} one two = record {
  play = two.play;
  live = two.live;
  choices = λ a. two.choices a ∙ one.choices a;
  killed = two.killed ∙ one.killed;
  ran = two.ran ∙ one.ran;
  casts = two.casts ∙ one.casts;
  collected = front_trans p.history.collected q.history.collected r.history.collected one.collected two.collected;
  arrived = front_trans p.history.arrived q.history.arrived r.history.arrived one.arrived two.arrived;
}

-- ---- events

-- what an event leaves that is no choice, and collects nothing
abbrev pub is_quiet : Event → Bool
is_quiet (event.Run a c) = false
is_quiet (event.Collect j) = false
is_quiet (event.TakeKill a) = false
is_quiet (event.Retire a) = false
is_quiet other = true

record IsQuiet (h g : History) : Type 0 where
  ran : g.ran ≡ h.ran
  collected : g.collected ≡ h.collected
  killed : g.killed ≡ h.killed
  retired : g.retired ≡ h.retired

quiet : (h : History) (other : Event) → is_quiet other ≡ true → IsQuiet h (add_event h other)
quiet h (event.Run a c) e = cc
quiet h (event.Collect j) e = cc
quiet h (event.TakeKill a) e = cc
quiet h (event.Retire a) e = cc
quiet h other e = record { ran = refl; collected = refl; killed = refl; retired = refl }

-- a play of which only the history and the callers' places changed
pub quiet_quiesces : {specs : List ActorSpec} {plans : ℕ → List Step} (other : Event) {p q : At} → IsPlay specs plans p → p.history.retired ≡ []
    → is_quiet other ≡ true → q.history ≡ add_event p.history other → IsPlay specs plans q → Quiesces specs plans p q
quiet_quiesces {specs} {plans} other {p} {q} play live e is goes =
    let h = p.history in let calm = quiet h other e in let grows = added_grows h other in
    subst (λ g. Quiesces specs plans p (record { history = g; stepped = q.stepped })) (sym is) (record {
      play = subst (λ g. IsPlay specs plans (record { history = g; stepped = q.stepped })) is goes;
      live = calm.retired ∙ live;
      choices = λ a. choices_quiet h other a (world specs plans p play).sound calm.ran calm.collected;
      killed = calm.killed;
      ran = calm.ran;
      casts = grows.casts;
      collected = grows.collected;
      arrived = grows.arrived;
    })

-- while no actor retired, to take a plan's next step, where it may be taken, is to go on without a choice
pub step_quiesces : {specs : List ActorSpec} {plans : ℕ → List Step} (c : ℕ) (step : Step) (p : At) → IsPlay specs plans p → p.history.retired ≡ []
    → next_step plans c p ≡ Some step → MayTake c step p.history → Quiesces specs plans p (taken c step p)
step_quiesces c (Await k) p play live next may = record {
  play = Takes p c (Await k) play next may;
  live = live;
  choices = λ a. refl;
  killed = refl;
  ran = refl;
  casts = refl;
  collected = whole_front p.history.collected;
  arrived = whole_front p.history.arrived;
}
step_quiesces {specs} {plans} c step p play live next may = quiet_quiesces (event_of c step) play live refl refl (Takes p c step play next may)

-- while no actor retired, to leave out a next step that kills one's dead actor is to go on without a choice
pub skip_quiesces : {specs : List ActorSpec} {plans : ℕ → List Step} (c a : ℕ) (p : At) → IsPlay specs plans p → p.history.retired ≡ []
    → next_step plans c p ≡ Some (Kill a) → names c (cast_of a p.history) ≡ true → is_dead a p.history ≡ true → Quiesces specs plans p (skipped c p)
skip_quiesces c a p play live next named dead = record {
  play = Skips p c a play next named dead;
  live = live;
  choices = λ a. refl;
  killed = refl;
  ran = refl;
  casts = refl;
  collected = whole_front p.history.collected;
  arrived = whole_front p.history.arrived;
}

-- a collected death
pub death_quiesces : (specs : List ActorSpec) (plans : ℕ → List Step) (j c a : ℕ) (p : At) → IsPlay specs plans p → p.history.retired ≡ []
    → slice_get p.history.posts j ≡ Some (DeathPost c a) → Quiesces specs plans p (with_event (event.Collect j) p)
death_quiesces specs plans j c a p play live at =
    let h = p.history in
    let may : refusal_of h (event.Collect j) ≡ None =
    let some : is_some (slice_get h.posts j) ≡ true = ap (λ o. is_some o) at in rw some refl in
    let more : and_also h.collected (slice_get h.posts j) ≡ h.collected ++ DeathPost c a ∷ [] = ap (and_also h.collected) at in
    record {
      play = Happens p (event.Collect j) play refl may;
      live = live;
      choices = λ b. choices_same h (add_event h (event.Collect j)) b refl (λ place item there. heard_more h b place item (DeathPost c a) (added_grows h
          (event.Collect j)) (world specs plans p play).sound more there (λ d. death_no_reply (add_event h (event.Collect j)) item.caller item.future d c a));
      killed = refl;
      ran = refl;
      casts = refl;
      collected = (added_grows h (event.Collect j)).collected;
      arrived = whole_front h.arrived;
    }

-- ---- what stays

pub dead_same : {specs : List ActorSpec} {plans : ℕ → List Step} (p q : At) (a : ℕ) → Quiesces specs plans p q → is_dead a q.history ≡ is_dead a p.history
dead_same p q a s =
    ap (λ xs. contains a xs || has_terminated (runs_of a q.history)) s.killed
    ∙ ap (λ l. contains a p.history.killed || has_terminated (under a l)) s.ran

pub cast_same : {specs : List ActorSpec} {plans : ℕ → List Step} (p q : At) (a : ℕ) → Quiesces specs plans p q → cast_of a q.history ≡ cast_of a p.history
cast_same p q a s = ap (λ l. find (λ (cast : ActorSpec). cast.actor == a) l) s.casts
