-- Each caller can take its steps until it waits.
use Rattle.act_early.proofs.Common.{◌≡◌, ℕ, zero, suc, ◌+◌, ◌≤◌, Bool, true, false, cond, List, [], ◌∷◌, ◌++◌, length, Option, Some, None, inl, inr, ◌⊎◌, refl}
use Rattle.act_early.proofs.Common.{ap, sym, ◌∙◌, subst, arith, ◌==◌, map, find, filter, filter_map, is_some, AllByRecursion, enumerate_from, eqb-true, eq-eqb}
use Rattle.act_early.proofs.Common.{append-nil, slice_get_within, Step, Submit, Kill, Await, WorldRefusal, kept_at, occurrences, ActorSpec, History}
use Rattle.act_early.proofs.Common.{count_pairs, is_caller, names, cast_of, calls_of, kept_of, is_dead, first_answer, refusal_of, Grows, added_grows}
use Rattle.act_early.proofs.Common.{limit_of-same, IsSound, At, steps_of, next_step, after_step, MayTake, taken, skipped, first_answer-same}
use Rattle.act_early.proofs.Worlds.{world, event_of}
use Rattle.act_early.proofs.Counting.{occurrences-push, other_next}
use Rattle.act_early.proofs.Progress.{submission_in, is_copy_of, is_release_of, submitted_one, copied_one, released_one}
use Rattle.act_early.proofs.Waiting.{IsAlike, copies_from, may_take}
use Rattle.act_early.proofs.Choices.{map-same_at}
use Rattle.act_early.proofs.Quiesces.{Quiesces, quiesces_same, quiesces_trans, step_quiesces, skip_quiesces}
use Rattle.act_early.proofs.Listed.{all_callers, IsOpen, IsWay, Comes, for_each}

-- ---- what a step leaves of another caller

pub step_casts : (c : ℕ) (step : Step) (h : History) → (after_step c step h).casts ≡ h.casts
step_casts c (Submit a method args) h = refl
step_casts c step h = refl

calls_other : (c d : ℕ) (step : Step) (h : History) → (c == d) ≡ false → calls_of d (after_step c step h) ≡ calls_of d h
calls_other c d step h e = submitted_one c d step h ∙ ap (λ same. calls_of d h ++ filter_map submission_in (cond same (step ∷ []) [])) e
    ∙ append-nil (calls_of d h)

none_more : (n : ℕ) (p : Step → Bool) (step : Step) (same : Bool) → same ≡ false → n + length (filter p (cond same (step ∷ []) [])) ≡ n
none_more n p step false e = omega arith
none_more n p step true e = cc

-- the same answers
kept_by_calls : (d : ℕ) (h g : History) → Grows h g → IsSound h → g.collected ≡ h.collected → calls_of d g ≡ calls_of d h → kept_of d g ≡ kept_of d h
kept_by_calls d h g grows sound same calls =
    ap (λ l. map (first_answer g d) (enumerate_from 0 l)) calls
    ∙ map-same_at (first_answer g d) (first_answer h d) (enumerate_from 0 (calls_of d h)) (λ place call at. first_answer-same h g d call grows sound.posts same)

kept_other : (c d : ℕ) (step : Step) (h : History) → IsSound h → (c == d) ≡ false → kept_of d (after_step c step h) ≡ kept_of d h
kept_other c d (Await k) h sound e = refl
kept_other c d step h sound e = kept_by_calls d h _ (added_grows h (event_of c step)) sound refl (calls_other c d step h e)

alike_other : (c d : ℕ) (step : Step) (h : History) → (c == d) ≡ false → IsAlike d (after_step c step h) h
alike_other c d step h e = record {
  caller = caller c step h;
  calls = sym (calls_other c d step h e);
  copies = λ a. sym (
      ap (λ l. copies_from l d a (count_pairs d a (after_step c step h).copied) (count_pairs d a (after_step c step h).released))
      (step_casts c step h)
      ∙ ap (λ n. copies_from h.casts d a n (count_pairs d a (after_step c step h).released))
      (copied_one c d a step h ∙ none_more (count_pairs d a h.copied) (is_copy_of a) step (c == d) e)
      ∙ ap (λ n. copies_from h.casts d a (count_pairs d a h.copied) n)
      (released_one c d a step h ∙ none_more (count_pairs d a h.released) (is_release_of a) step (c == d) e));
  limit = λ a. limit_of-same (after_step c step h) h d a (sym (step_casts c step h));
}
  where
    caller : (c : ℕ) (step : Step) (h : History) → is_caller d h ≡ is_caller d (after_step c step h)
    caller c (Submit a method args) h = refl
    caller c step h = refl

-- so what it may do, it might do before
pub may_before : (c d : ℕ) (step later : Step) (h : History) → IsSound h → (c == d) ≡ false → MayTake d later (after_step c step h) → MayTake d later h
may_before c d step later h sound e may =
    may_take d later (after_step c step h) h (alike_other c d step h e)
    (λ j answer kept. subst (λ l. kept_at l j ≡ Some answer) (kept_other c d step h sound e) kept) may

-- ---- a caller that waits

pub record IsStuck (plans : ℕ → List Step) (c : ℕ) (p : At) : Type 0 where
  pub waits : (step : Step) → next_step plans c p ≡ Some step → MayTake c step p.history → ⊥
  pub needs : (a : ℕ) → next_step plans c p ≡ Some (Kill a) → names c (cast_of a p.history) ≡ true → is_dead a p.history ≡ false

-- going on, so that who waits goes on waiting
pub record GoesOn (specs : List ActorSpec) (plans : ℕ → List Step) (p q : At) : Type 0 where
  pub quiesces : Quiesces specs plans p q
  pub stuck : (c : ℕ) → IsStuck plans c p → IsStuck plans c q

pub going_on : (specs : List ActorSpec) (plans : ℕ → List Step) → IsWay specs plans (GoesOn specs plans)
going_on specs plans = record {
  stays = λ p begun. record { quiesces = quiesces_same begun.play begun.live; stuck = λ c s. s };
  joins = λ p q r one two. record { quiesces = quiesces_trans one.quiesces two.quiesces; stuck = λ c s. two.stuck c (one.stuck c s) };
  opens = λ p q s. record { play = s.quiesces.play; live = s.quiesces.live };
}

-- ---- one step

is_none_or : (o : Option WorldRefusal) → (o ≡ None) ⊎ (o ≡ None → ⊥)
is_none_or None = inl refl
is_none_or (Some refusal) = inr (λ e. cc)

true_or : (b : Bool) → (b ≡ true) ⊎ (b ≡ true → ⊥)
true_or true = inl refl
true_or false = inr (λ e. cc)

may_or_not : (c : ℕ) (step : Step) (h : History) → MayTake c step h ⊎ (MayTake c step h → ⊥)
may_or_not c (Await k) h = true_or (is_some (kept_at (kept_of c h) k))
may_or_not c step h = is_none_or (refusal_of h (event_of c step))

-- a step of a plan ends no actor
pub step_dead : (c a : ℕ) (step : Step) (h : History) → is_dead a (after_step c step h) ≡ is_dead a h
step_dead c a (Submit b method args) h = refl
step_dead c a step h = refl

-- another caller that waits goes on waiting
others_wait : (plans : ℕ → List Step) (c d : ℕ) (step : Step) (p : At) → IsSound p.history → (c == d) ≡ false → IsStuck plans d p
    → IsStuck plans d (taken c step p)
others_wait plans c d step p sound e s = record {
  waits = λ later next may. s.waits later (sym (other_next plans c d p e) ∙ next) (may_before c d step later p.history sound e may);
  needs = λ a next named. step_dead c a step p.history ∙ s.needs a (sym (other_next plans c d p e) ∙ next)
      (ap (λ l. names d (find (λ (cast : ActorSpec). cast.actor == a) l)) (sym (step_casts c step p.history)) ∙ named);
}

others_wait_on : (plans : ℕ → List Step) (c d : ℕ) (p : At) → (c == d) ≡ false → IsStuck plans d p → IsStuck plans d (skipped c p)
others_wait_on plans c d p e s = record {
  waits = λ later next may. s.waits later (sym (other_next plans c d p e) ∙ next) may;
  needs = λ a next named. s.needs a (sym (other_next plans c d p e) ∙ next) named;
}

-- a caller that may go on isn't one of those that wait
pub step_on : (specs : List ActorSpec) (plans : ℕ → List Step) (c : ℕ) (step : Step) (p : At) → IsOpen specs plans p → next_step plans c p ≡ Some step
    → MayTake c step p.history → GoesOn specs plans p (taken c step p)
step_on specs plans c step p begun next may = record { quiesces = step_quiesces c step p begun.play begun.live next may; stuck = λ d s. go d s (c == d) refl }
  where
    go : (d : ℕ) → IsStuck plans d p → (same : Bool) → (c == d) ≡ same → IsStuck plans d (taken c step p)
    go d s false e = others_wait plans c d step p (world specs plans p begun.play).sound e s
    go d s true e = let own : IsStuck plans c p = subst (λ x. IsStuck plans x p) (sym (eqb-true c d e)) s in absurd (own.waits step next may)

skip_on : (specs : List ActorSpec) (plans : ℕ → List Step) (c a : ℕ) (p : At) → IsOpen specs plans p → next_step plans c p ≡ Some (Kill a)
    → names c (cast_of a p.history) ≡ true → is_dead a p.history ≡ true → GoesOn specs plans p (skipped c p)
skip_on specs plans c a p begun next named dead = record {
  quiesces = skip_quiesces c a p begun.play begun.live next named dead;
  stuck = λ d s. go d s (c == d) refl;
}
  where
    go : (d : ℕ) → IsStuck plans d p → (same : Bool) → (c == d) ≡ same → IsStuck plans d (skipped c p)
    go d s false e = others_wait_on plans c d p e s
    go d s true e =
        let own : IsStuck plans c p = subst (λ x. IsStuck plans x p) (sym (eqb-true c d e)) s in
        let bad : true ≡ false = sym dead ∙ own.needs a next named in cc

-- ---- all steps of a caller

-- a caller goes on by a step, or waits
abbrev IsMoved : List ActorSpec → (ℕ → List Step) → ℕ → At → Type 0
IsMoved specs plans c p = (q : At) × GoesOn specs plans p q × (q.stepped ≡ p.stepped ++ c ∷ [])

moves_or_waits : (specs : List ActorSpec) (plans : ℕ → List Step) (c : ℕ) (p : At) → IsOpen specs plans p → IsMoved specs plans c p ⊎ IsStuck plans c p
moves_or_waits specs plans c p begun = go (next_step plans c p) refl
  where
    one : {step other : Step} → next_step plans c p ≡ Some step → next_step plans c p ≡ Some other → step ≡ other
    one {step} {other} e f = let same : Some step ≡ Some other = sym e ∙ f in cc

    -- no other way than by a kill of a dead actor
    or_skips : (step : Step) → next_step plans c p ≡ Some step → (MayTake c step p.history → ⊥) → IsMoved specs plans c p ⊎ IsStuck plans c p
    or_skips (Kill a) next not = dead (names c (cast_of a p.history)) (is_dead a p.history) refl refl
      where
        waits : (later : Step) → next_step plans c p ≡ Some later → MayTake c later p.history → ⊥
        waits later is may = not (subst (λ s. MayTake c s p.history) (one is next) may)

        dead : (x y : Bool) → names c (cast_of a p.history) ≡ x → is_dead a p.history ≡ y → IsMoved specs plans c p ⊎ IsStuck plans c p
        dead true true named is = inl (skipped c p, skip_on specs plans c a p begun next named is, refl)
        dead false y named is = inr (record {
          waits = waits;
          needs = λ b other yes.
              let same : b ≡ a = same_kill (one other next) in
              let bad : true ≡ false = sym (subst (λ x. names c (cast_of x p.history) ≡ true) same yes) ∙ named in cc;
        })
          where
            same_kill : {b : ℕ} → Kill b ≡ Kill a → b ≡ a
            same_kill e = cc
        dead true false named is = inr (record {
          waits = waits;
          needs = λ b other yes. subst (λ x. is_dead x p.history ≡ false) (sym (same_kill (one other next))) is;
        })
          where
            same_kill : {b : ℕ} → Kill b ≡ Kill a → b ≡ a
            same_kill e = cc
    or_skips step next not = inr (record {
      waits = λ later is may. not (subst (λ s. MayTake c s p.history) (one is next) may);
      needs = λ b other named. let bad : Kill b ≡ step = one other next in cc;
    })

    takes : (step : Step) → next_step plans c p ≡ Some step → MayTake c step p.history ⊎ (MayTake c step p.history → ⊥)
        → IsMoved specs plans c p ⊎ IsStuck plans c p
    takes step next (inl may) = inl (taken c step p, step_on specs plans c step p begun next may, refl)
    takes step next (inr not) = or_skips step next not

    go : (o : Option Step) → next_step plans c p ≡ o → IsMoved specs plans c p ⊎ IsStuck plans c p
    go None e = inr (record {
      waits = λ later is may. let bad : Some later ≡ None = sym is ∙ e in cc;
      needs = λ b is named. let bad : Some (Kill b) ≡ None = sym is ∙ e in cc;
    })
    go (Some step) e = takes step e (may_or_not c step p.history)

-- at most as many steps as its plan has left
steps_out : (specs : List ActorSpec) (plans : ℕ → List Step) (c left : ℕ) (p : At) → IsOpen specs plans p → length (plans c) ≤ steps_of c p + left
    → Comes (GoesOn specs plans) (IsStuck plans c) p
steps_out specs plans c zero p begun few = (
  p,
  (going_on specs plans).stays p begun,
  record {
    waits = λ step is may. let lt = slice_get_within (plans c) (steps_of c p) step is in absurd (omega arith);
    needs = λ a is named. let lt = slice_get_within (plans c) (steps_of c p) (Kill a) is in absurd (omega arith);
  },
)
steps_out specs plans c (suc left) p begun few = go (λ q. steps_out specs plans c left q) (moves_or_waits specs plans c p begun)
  where
    Rest : Type 0
    Rest = (q : At) → IsOpen specs plans q → length (plans c) ≤ steps_of c q + left → Comes (GoesOn specs plans) (IsStuck plans c) q

    go : Rest → IsMoved specs plans c p ⊎ IsStuck plans c p → Comes (GoesOn specs plans) (IsStuck plans c) p
    go next (inr stuck) = (p, (going_on specs plans).stays p begun, stuck)
    go next (inl moved) =
        let q = moved.0 in
        let one : ◌≡◌ {A = ℕ} (cond (c == c) 1 0) 1 = ap (λ b. cond {A = ℕ} b 1 0) (eq-eqb c c refl) in
        let more : steps_of c q ≡ steps_of c p + cond (c == c) 1 0 = ap (occurrences c) moved.2 ∙ occurrences-push c c p.stepped in
        let rest = next q ((going_on specs plans).opens p q moved.1) (omega (arith, few, more, one)) in
        (rest.0, (going_on specs plans).joins p q rest.0 moved.1 rest.1, rest.2)

-- all callers
pub step_all : (specs : List ActorSpec) (plans : ℕ → List Step) (p : At) → IsOpen specs plans p
    → Comes (GoesOn specs plans) (λ q. AllByRecursion (λ c. IsStuck plans c q) (all_callers specs)) p
step_all specs plans p begun =
    for_each (λ q c. IsStuck plans c q) (going_on specs plans) (λ p q goes c stuck. goes.stuck c stuck)
    (λ p begun c. steps_out specs plans c (length (plans c)) p begun (omega arith)) (all_callers specs) p begun
