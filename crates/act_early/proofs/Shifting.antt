-- An event that is none of a caller's steps passes it by.
use Rattle.act_early.proofs.Common.{◌≡◌, ℕ, suc, true, false, List, [], ◌∷◌, ◌++◌, Option, Some, None, inl, inr, refl, ap, sym, ◌∙◌, subst, arith, append_assoc}
use Rattle.act_early.proofs.Common.{Contains, is_some, eq-eqb, append-nil, Contains-append_left, Event, Post, Step, Kill, Await, Answer, kept_at, ActorSpec}
use Rattle.act_early.proofs.Common.{History, kept_of, history, after, IsPrefix, whole_front, after_keeps, after_all_keeps, added_grows, KeepsAnswer, kept_step}
use Rattle.act_early.proofs.Common.{world_sound, is_step_by, AreOthers, DoesStepBy, DoesStepsBy, history_more, DeathPost}
use Rattle.act_rules.specs.declared.event.Event.TheVariants as event
use Rattle.act_early.proofs.Worlds.{event_of}

-- ---- what stays after one event more

kept_after : (casts : List ActorSpec) (before : List Event) (other : Event) (c k : ℕ) → is_some (kept_at (kept_of c (history casts before)) k) ≡ true
    → is_some (kept_at (kept_of c (history casts (before ++ other ∷ []))) k) ≡ true
kept_after casts before other c k e = go (kept_at (kept_of c (history casts before)) k) refl e
  where
    go : (o : Option Answer) → kept_at (kept_of c (history casts before)) k ≡ o → is_some o ≡ true
        → is_some (kept_at (kept_of c (history casts (before ++ other ∷ []))) k) ≡ true
    go None is some = cc
    go (Some answer) is some =
        let stays = after_all_keeps (KeepsAnswer c k answer) (kept_step c k answer) (history casts before) (other ∷ [])
        (record { sound = (world_sound casts before).posts; kept = is }) in
        ap (λ h. is_some (kept_at (kept_of c h) k)) (history_more casts before other) ∙ ap (λ o. is_some o) stays.kept

collected_after : (casts : List ActorSpec) (before : List Event) (other : Event) (post : Post) → Contains (history casts before).collected post
    → Contains (history casts (before ++ other ∷ [])).collected post
collected_after casts before other post has =
    let h = history casts before in
    let front : IsPrefix h.collected (after h other).collected =
    after_keeps (λ g. IsPrefix h.collected g.collected) h other (whole_front h.collected) (λ _. (added_grows h other).collected) in
    subst (λ (g : History). Contains g.collected post) (sym (history_more casts before other))
    (subst (λ posts. Contains posts post) front.1 (Contains-append_left h.collected front.0 post has))

-- ---- lists

-- lists that are the same have the same first item
pub head_same : {A : Type 0} (x y : A) (xs ys : List A) → ◌≡◌ {A = List A} (x ∷ xs) (y ∷ ys) → x ≡ y
head_same x y xs ys e = cc

-- lists that are the same have the same items behind the first
pub tail_same : {A : Type 0} (x y : A) (xs ys : List A) → ◌≡◌ {A = List A} (x ∷ xs) (y ∷ ys) → xs ≡ ys
tail_same x y xs ys e = cc

-- where none of some events is a step of the caller's, none of those behind the first is
pub others_rest : (c : ℕ) (other : Event) (events : List Event) → AreOthers c (other ∷ events) → AreOthers c events
others_rest c other events all i d within = all (suc i) d (omega arith)

-- where none of some events is a step of the caller's, the first of them isn't
pub others_first : (c : ℕ) (other : Event) (events : List Event) → AreOthers c (other ∷ events) → is_step_by c other ≡ false
others_first c other events all = all 0 other (omega arith)

-- an empty list of events has none of a caller's steps
pub none_others : (c : ℕ) → AreOthers c []
none_others c i d within = absurd (omega arith)

-- an event of the caller's own is no other's
own_step : (c : ℕ) (other own : Event) → is_step_by c own ≡ true → other ≡ own → is_step_by c other ≡ false → ⊥
own_step c other own mine is none = let bad : true ≡ false = sym mine ∙ ap (is_step_by c) (sym is) ∙ none in cc

-- ---- one event

-- the caller's next step is done by no event, and not by the one that passes
pub record IsPassed (casts : List ActorSpec) (c : ℕ) (step : Step) (before : List Event) (other : Event) (events done later : List Event) : Type 0 where
  pub still : DoesStepBy casts c step (before ++ other ∷ []) []
  pub none : done ≡ []
  pub rest : later ≡ other ∷ events

passes : (casts : List ActorSpec) (c : ℕ) (step : Step) (before : List Event) (other : Event) (events done later : List Event) → is_step_by c other ≡ false →
    other ∷ events ≡ done ++ later → DoesStepBy casts c step before done → IsPassed casts c step before other events done later
passes casts c (Kill a) before other events done later none is (inl asked) =
    absurd (own_step c other (event.AskKill c a) (eq-eqb c c refl) (head_same _ _ _ _ (is ∙ ap (λ l. l ++ later) asked)) none)
passes casts c (Kill a) before other events done later none is (inr dead) = record {
  still = inr (refl, collected_after casts before other (DeathPost c a) dead.1);
  none = dead.0;
  rest = sym (is ∙ ap (λ l. l ++ later) dead.0);
}
passes casts c (Await k) before other events done later none is does = record {
  still = (refl, kept_after casts before other c k does.1);
  none = does.0;
  rest = sym (is ∙ ap (λ l. l ++ later) does.0);
}
passes casts c step before other events done later none is does =
    absurd (own_step c other (event_of c step) (eq-eqb c c refl) (head_same _ _ _ _ (is ∙ ap (λ l. l ++ later) does)) none)

pub shift : (casts : List ActorSpec) (c : ℕ) (steps : List Step) (before : List Event) (other : Event) (events : List Event) → is_step_by c other ≡ false
    → DoesStepsBy casts c steps before (other ∷ events) → DoesStepsBy casts c steps (before ++ other ∷ []) events
shift casts c [] before other events none does = others_rest c other events does
shift casts c (step ∷ steps) before other events none (x ∷ first, done, later, is, others, does, rest) =
    let same : x ≡ other = sym (head_same _ _ _ _ is) in
    let joined : (l : List Event) → before ++ x ∷ l ≡ (before ++ other ∷ []) ++ l =
    λ l. ap (λ y. before ++ y ∷ l) same ∙ sym (append_assoc before (other ∷ []) l) in (
      first,
      done,
      later,
      tail_same _ _ _ _ is,
      others_rest c x first others,
      subst (λ l. DoesStepBy casts c step l done) (joined first) does,
      subst (λ l. DoesStepsBy casts c steps l later) (ap (λ l. l ++ done) (joined first)) rest,
    )
shift casts c (step ∷ steps) before other events none ([], done, later, is, others, does, rest) =
    let passed = passes casts c step before other events done later none is
    (subst (λ l. DoesStepBy casts c step l done) (append-nil before) does) in
    let back : DoesStepsBy casts c steps before (other ∷ events)
    = subst (λ l. DoesStepsBy casts c steps before l) passed.rest
    (subst (λ l. DoesStepsBy casts c steps l later)
    (ap (λ l. (before ++ []) ++ l) passed.none ∙ append-nil (before ++ []) ∙ append-nil before) rest) in (
      [],
      [],
      events,
      refl,
      none_others c,
      subst (λ l. DoesStepBy casts c step l []) (sym (append-nil (before ++ other ∷ []))) passed.still,
      subst (λ l. DoesStepsBy casts c steps l events) (sym (append-nil ((before ++ other ∷ []) ++ []) ∙ append-nil (before ++ other ∷ [])))
          (shift casts c steps before other events none back),
    )
