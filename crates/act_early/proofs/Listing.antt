-- A list of events that keeps to plans is a play of them.
use Rattle.act_early.proofs.Common.{◌≡◌, ℕ, suc, Bool, true, false, List, [], ◌∷◌, ◌++◌, drop, Option, Some, None, inl, inr, refl, ap, sym, ◌∙◌, subst, arith}
use Rattle.act_early.proofs.Common.{append_assoc, All, Contains, ◌==◌, slice_get, is_some, IsOk, AllByRecursion, eqb-true, eq-eqb, append-nil, Event}
use Rattle.act_early.proofs.Common.{WorldRefusal, Step, Kill, Await, kept_at, ActorSpec, History, opening, contains, kept_of, history, refusal_of, outcome_by}
use Rattle.act_early.proofs.Common.{outcome_of, outcomes, after, At, opened, steps_of, next_step, taken, skipped, with_event, is_free, IsPlay, Opens, Happens}
use Rattle.act_early.proofs.Common.{is_step_by, DoesStepBy, DoesStepsBy, KeepsToPlans, DeathPost, history_more}
use Rattle.act_rules.specs.declared.event.Event.TheVariants as event
use Rattle.act_early.proofs.Worlds.{world}
use Rattle.act_early.proofs.Deaths.{collected_death}
use Rattle.act_early.proofs.Listed.{all_callers}
use Rattle.act_early.proofs.Quiescent.{may_listed, named_as_listed}
use Rattle.act_early.proofs.Shifting.{shift}
use Rattle.act_early.proofs.Owning.{drop_none, closings, Left, next_is, rest_is, awaits, leaves_out, after_one, IsOwn, does_own, IsSilent}
use Rattle.act_rules.proofs.Elements.{all_listed}

-- ---- after the last event

-- nothing is left of nothing
nothing : (first done later : List Event) → [] ≡ first ++ done ++ later → (first ≡ []) × (done ≡ []) × (later ≡ [])
nothing [] [] [] e = (refl, refl, refl)
nothing [] [] (x ∷ later) e = cc
nothing [] (x ∷ done) later e = cc
nothing (x ∷ first) done later e = cc

-- a step that is left is done by no event
record IsSilentStep (specs : List ActorSpec) (c : ℕ) (step : Step) (steps : List Step) (before : List Event) : Type 0 where
  does : DoesStepBy specs c step before []
  rest : DoesStepsBy specs c steps before []

silent_step : (specs : List ActorSpec) (c : ℕ) (step : Step) (steps : List Step) (before : List Event) → DoesStepsBy specs c (step ∷ steps) before []
    → IsSilentStep specs c step steps before
silent_step specs c step steps before (first, done, later, split, others, does, rest) =
    let none = nothing first done later split in
    let start : before ++ first ≡ before = ap (λ l. before ++ l) none.0 ∙ append-nil before in
    record {
      does = subst (λ l. DoesStepBy specs c step l []) start (subst (λ l. DoesStepBy specs c step (before ++ first) l) none.1 does);
      rest = subst (λ l. DoesStepsBy specs c steps l []) (ap (λ l. (before ++ first) ++ l) none.1 ∙ append-nil (before ++ first) ∙ start)
          (subst (λ l. DoesStepsBy specs c steps ((before ++ first) ++ done) l) none.2 rest);
    }

no_event : {x : Event} → ◌≡◌ {A = List Event} [] (x ∷ []) → ⊥
no_event e = cc

-- the caller's plan is done
record IsFinished (specs : List ActorSpec) (plans : ℕ → List Step) (c : ℕ) (before : List Event) (p q : At) : Type 0 where
  play : IsPlay specs plans q
  same : q.history ≡ p.history
  own : Left specs plans before [] q c
  done : next_step plans c q ≡ None
  others : (d : ℕ) → (c == d) ≡ false → steps_of d q ≡ steps_of d p

-- so it is after a step that no event does
later : (specs : List ActorSpec) (plans : ℕ → List Step) (c : ℕ) (before : List Event) (p q : At) → IsSilent specs plans c p q
    → (r : At) × IsFinished specs plans c before q r → (r : At) × IsFinished specs plans c before p r
later specs plans c before p q silent next =
    let n = next.1 in (
      next.0,
      record { play = n.play; same = n.same ∙ silent.same; own = n.own; done = n.done; others = λ d differ. n.others d differ ∙ silent.one.others d differ },
    )

finish : (specs : List ActorSpec) (plans : ℕ → List Step) (c : ℕ) (before : List Event) (steps : List Step) (closing : List ℕ) (p : At)
    → IsPlay specs plans p → p.history ≡ history specs before → steps ≡ drop (steps_of c p) (plans c)
    → DoesStepsBy specs c (steps ++ closings closing) before [] → (q : At) × IsFinished specs plans c before p q
finish specs plans c before [] closing p play is left does = (
  p,
  record {
    play = play;
    same = refl;
    own = record { steps = []; closing = closing; is = left; does = does };
    done = drop_none (plans c) (steps_of c p) left;
    others = λ d differ. refl;
  },
)
finish specs plans c before (Kill a ∷ steps) closing p play is left does =
    let s = silent_step specs c (Kill a) (steps ++ closings closing) before does in
    let silent = leaves_out specs plans c a before p play is (next_is plans c p left) (left_out s.does) in
    let q = skipped c p in
    later specs plans c before p q silent
    (finish specs plans c before steps closing q silent.play (silent.same ∙ is) (rest_is plans c p silent.one left) s.rest)
  where
    left_out : DoesStepBy specs c (Kill a) before [] → Contains (history specs before).collected (DeathPost c a)
    left_out (inl asked) = absurd (no_event asked)
    left_out (inr dead) = dead.1
finish specs plans c before (Await k ∷ steps) closing p play is left does =
    let s = silent_step specs c (Await k) (steps ++ closings closing) before does in
    let silent = awaits specs plans c k before p play is (next_is plans c p left) s.does.1 in
    let q = taken c (Await k) p in
    later specs plans c before p q silent
    (finish specs plans c before steps closing q silent.play (silent.same ∙ is) (rest_is plans c p silent.one left) s.rest)
finish specs plans c before (step ∷ steps) closing p play is left does = let s =
    silent_step specs c step (steps ++ closings closing) before does in absurd (no_event s.does)

-- what another caller still does stays
left_stays : {specs : List ActorSpec} (plans : ℕ → List Step) {before : List Event} (later : List Event) (p q : At) (d : ℕ) → steps_of d q ≡ steps_of d p
    → Left specs plans before later p d → Left specs plans before later q d
left_stays plans later p q d same l = record { steps = l.steps; closing = l.closing; is = l.is ∙ ap (λ n. drop n (plans d)) (sym same); does = l.does }

record AreFinished (specs : List ActorSpec) (plans : ℕ → List Step) (before : List Event) (cs : List ℕ) (p q : At) : Type 0 where
  play : IsPlay specs plans q
  same : q.history ≡ p.history
  left : (d : ℕ) → Left specs plans before [] q d
  done : AllByRecursion (λ c. next_step plans c q ≡ None) cs
  stay : (d : ℕ) → next_step plans d p ≡ None → next_step plans d q ≡ None

finish_all : {specs : List ActorSpec} {plans : ℕ → List Step} (before : List Event) (cs : List ℕ) (p : At) → IsPlay specs plans p
    → p.history ≡ history specs before → ((d : ℕ) → Left specs plans before [] p d) → (q : At) × AreFinished specs plans before cs p q
finish_all before [] p play is left = (p, record { play = play; same = refl; left = left; done = tt; stay = λ d e. e })
finish_all {specs} {plans} before (c ∷ cs) p play is left =
    let own = left c in
    let one = finish specs plans c before own.steps own.closing p play is own.is own.does in
    let q = one.0 in
    let rest = finish_all before cs q one.1.play (one.1.same ∙ is) (λ d. later q d (c == d) refl one.1) in (
      rest.0,
      record {
        play = rest.1.play;
        same = rest.1.same ∙ one.1.same;
        left = rest.1.left;
        done = (rest.1.stay c one.1.done, rest.1.done);
        stay = λ d none. rest.1.stay d (stays q d (c == d) refl one.1 none);
      },
    )
  where
    later : (q : At) (d : ℕ) (x : Bool) → (c == d) ≡ x → IsFinished specs plans c before p q → Left specs plans before [] q d
    later q d true e one = subst (λ n. Left specs plans before [] q n) (eqb-true c d e) one.own
    later q d false e one = left_stays plans [] p q d (one.others d e) (left d)

    stays : (q : At) (d : ℕ) (x : Bool) → (c == d) ≡ x → IsFinished specs plans c before p q → next_step plans d p ≡ None → next_step plans d q ≡ None
    stays q d true e one none = subst (λ n. next_step plans n q ≡ None) (eqb-true c d e) one.done
    stays q d false e one none = ap (λ n. slice_get (plans d) n) (one.others d e) ∙ none

-- ---- all plans are done

record IsWholePlay (specs : List ActorSpec) (plans : ℕ → List Step) (events : List Event) (q : At) : Type 0 where
  play : IsPlay specs plans q
  is : q.history ≡ history specs events
  done : (c : ℕ) → next_step plans c q ≡ None

-- who has a step left is listed
left_listed : (specs : List ActorSpec) (plans : ℕ → List Step) (before : List Event) (q : At) (d : ℕ) (step : Step) (steps : List Step)
    → IsPlay specs plans q → q.history ≡ history specs before → DoesStepsBy specs d (step ∷ steps) before [] → contains d (all_callers specs) ≡ true
left_listed specs plans before q d (Kill a) steps play is does = go (silent_step specs d (Kill a) steps before does).does
  where
    go : DoesStepBy specs d (Kill a) before [] → contains d (all_callers specs) ≡ true
    go (inl asked) = absurd (no_event asked)
    go (inr dead) =
        let named = (collected_death specs plans q d a play (subst (λ (h : History). Contains h.collected (DeathPost d a)) (sym is) dead.1)).0 in
        (named_as_listed q.history d a (world specs plans q play).casts named).0
left_listed specs plans before q d (Await k) steps play is does =
    let s = silent_step specs d (Await k) steps before does in
    may_listed specs d (Await k) (world specs plans q play) (ap (λ h. is_some (kept_at (kept_of d h) k)) is ∙ s.does.1)
left_listed specs plans before q d step steps play is does = let s = silent_step specs d step steps before does in absurd (no_event s.does)

whole : (specs : List ActorSpec) (plans : ℕ → List Step) (before : List Event) (p : At) → IsPlay specs plans p → p.history ≡ history specs before
    → ((d : ℕ) → Left specs plans before [] p d) → (q : At) × IsWholePlay specs plans before q
whole specs plans before p play is left =
    let all = finish_all before (all_callers specs) p play is left in (
      all.0,
      record {
        play = all.1.play;
        is = all.1.same ∙ is;
        done = λ d. done all.0 d all.1 (all.1.left d).steps (all.1.left d).closing (all.1.left d).is (all.1.left d).does;
      },
    )
  where
    done : (q : At) (d : ℕ) → AreFinished specs plans before (all_callers specs) p q → (steps : List Step) (closing : List ℕ)
        → steps ≡ drop (steps_of d q) (plans d) → DoesStepsBy specs d (steps ++ closings closing) before [] → next_step plans d q ≡ None
    done q d f [] closing e does = drop_none (plans d) (steps_of d q) e
    done q d f (step ∷ steps) closing e does =
        all_listed (λ c. next_step plans c q ≡ None) (all_callers specs) d f.done
        (left_listed specs plans before q d step (steps ++ closings closing) f.play (f.same ∙ is) does)

-- ---- one event after another

-- an event that is taken is not refused
pub accepted_none : (h : History) (other : Event) → IsOk (outcome_of h other) → refusal_of h other ≡ None
accepted_none h other ok = go (refusal_of h other) ok
  where
    go : (o : Option WorldRefusal) → IsOk (outcome_by h other o) → o ≡ None
    go None e = refl
    go (Some refusal) e = cc

record IsOneOn (specs : List ActorSpec) (plans : ℕ → List Step) (before : List Event) (other : Event) (events : List Event) (q : At) : Type 0 where
  play : IsPlay specs plans q
  is : q.history ≡ history specs (before ++ other ∷ [])
  left : (d : ℕ) → Left specs plans (before ++ other ∷ []) events q d

shifted : (specs : List ActorSpec) (plans : ℕ → List Step) {before : List Event} (other : Event) {events : List Event} (p q : At) (d : ℕ) →
    steps_of d q ≡ steps_of d p → is_step_by d other ≡ false → Left specs plans before (other ∷ events) p d → Left specs plans (before ++ other ∷ []) events q d
shifted specs plans {before} other {events} p q d same none l = record {
  steps = l.steps;
  closing = l.closing;
  is = l.is ∙ ap (λ n. drop n (plans d)) (sym same);
  does = shift specs d (l.steps ++ closings l.closing) before other events none l.does;
}

own_on : {specs : List ActorSpec} {plans : ℕ → List Step} (c : ℕ) (before : List Event) (other : Event) (events : List Event) (p : At) →
    ((d : ℕ) → is_step_by d other ≡ (c == d)) → IsPlay specs plans p → p.history ≡ history specs before → refusal_of (history specs before) other ≡ None →
    ((d : ℕ) → Left specs plans before (other ∷ events) p d) → (q : At) × IsOneOn specs plans before other events q
own_on {specs} {plans} c before other events p mine play is accepted left =
    let l = left c in
    let done = does_own specs plans c before other events (mine c ∙ eq-eqb c c refl) accepted l.steps l.closing p play is l.is l.does in
    (done.0, record { play = done.1.play; is = done.1.left; left = λ d. later done.0 done.1 d (c == d) refl })
  where
    later : (q : At) → IsOwn specs plans c before other events p q → (d : ℕ) (x : Bool) → (c == d) ≡ x → Left specs plans (before ++ other ∷ []) events q d
    later q o d true e = subst (λ n. Left specs plans (before ++ other ∷ []) events q n) (eqb-true c d e) o.own
    later q o d false e = shifted specs plans other p q d (o.others d e) (mine d ∙ e) (left d)

free_on : (specs : List ActorSpec) (plans : ℕ → List Step) (before : List Event) (other : Event) (events : List Event) (p : At) → is_free other ≡ true →
    ((d : ℕ) → is_step_by d other ≡ false) → IsPlay specs plans p → p.history ≡ history specs before → refusal_of (history specs before) other ≡ None →
    ((d : ℕ) → Left specs plans before (other ∷ events) p d) → (q : At) × IsOneOn specs plans before other events q
free_on specs plans before other events p free none play is accepted left = (
  with_event other p,
  record {
    play = Happens p other play free (ap (λ h. refusal_of h other) is ∙ accepted);
    is = after_one specs before other is accepted;
    left = λ d. shifted specs plans other p (with_event other p) d refl (none d) (left d);
  },
)

one_on : (specs : List ActorSpec) (plans : ℕ → List Step) (before : List Event) (other : Event) (events : List Event) (p : At) → IsPlay specs plans p →
    p.history ≡ history specs before → refusal_of (history specs before) other ≡ None → ((d : ℕ) → Left specs plans before (other ∷ events) p d) →
    (q : At) × IsOneOn specs plans before other events q
one_on specs plans before (event.Submit c a method args) events p play is accepted left =
    own_on c before (event.Submit c a method args) events p (λ d. refl) play is accepted left
one_on specs plans before (event.Copy c a) events p play is accepted left = own_on c before (event.Copy c a) events p (λ d. refl) play is accepted left
one_on specs plans before (event.Release c a) events p play is accepted left = own_on c before (event.Release c a) events p (λ d. refl) play is accepted left
one_on specs plans before (event.AskKill c a) events p play is accepted left = own_on c before (event.AskKill c a) events p (λ d. refl) play is accepted left
one_on specs plans before other events p play is accepted left = free_on specs plans before other events p refl (λ d. refl) play is accepted left

all_on : (specs : List ActorSpec) (plans : ℕ → List Step) (before events : List Event) (p : At) → IsPlay specs plans p → p.history ≡ history specs before →
    All IsOk (outcomes (history specs before) events) → ((d : ℕ) → Left specs plans before events p d) → (q : At) × IsWholePlay specs plans (before ++ events) q
all_on specs plans before [] p play is ok left = let done =
    whole specs plans before p play is left in
    (done.0, record { play = done.1.play; is = done.1.is ∙ ap (history specs) (sym (append-nil before)); done = done.1.done })
all_on specs plans before (other ∷ events) p play is ok left =
    let h = history specs before in
    let first : IsOk (outcome_of h other) = ok 0 (outcome_of h other) (omega arith) in
    let rest : All IsOk (outcomes (after h other) events) = λ i d within. ok (suc i) d (omega arith) in
    let one = one_on specs plans before other events p play is (accepted_none h other first) left in
    let next = all_on specs plans (before ++ other ∷ []) events one.0 one.1.play one.1.is
    (subst (λ g. All IsOk (outcomes g events)) (sym (history_more specs before other)) rest) one.1.left in
    (next.0, record { play = next.1.play; is = next.1.is ∙ ap (history specs) (append_assoc before (other ∷ []) events); done = next.1.done })

-- accepted events that keep to plans are a play of these plans, and each plan is done
pub list_play : (casts : List ActorSpec) (plans : ℕ → List Step) (events : List Event) → All IsOk (outcomes (opening casts) events) →
    KeepsToPlans casts plans events → (at : At) × IsPlay casts plans at × (at.history ≡ history casts events) × ((c : ℕ) → next_step plans c at ≡ None)
list_play casts plans events ok keeps =
    let done = all_on casts plans [] events (opened casts) Opens refl ok
    (λ c. let k = keeps c in record { steps = plans c; closing = k.0; is = refl; does = k.1 }) in
    (done.0, done.1.play, done.1.is, done.1.done)
