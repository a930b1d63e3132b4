-- What comes before what happens next: so what happened is a front of each caller's calls and of each actor's runs.
use Rattle.act_order_plays.proofs.Common.{◌≡◌, ◌≢◌, ℕ, zero, suc, ◌+◌, ◌-◌, ◌<◌, ◌≤◌, ◌⊎◌, inl, inr, Bool, true, false, cond, List, [], ◌∷◌, ◌++◌, length}
use Rattle.act_order_plays.proofs.Common.{filter, Some, slice_get, refl, sym, ap, subst, ◌∙◌, arith, eqb-true, eqb_tells, append-nil, filter-append}
use Rattle.act_order_plays.proofs.Common.{filter_map-append, slice_get_within, IsPrefix, element, Happening, Submitted, Ran, Answered, Died, Run, Told, call_of}
use Rattle.act_order_plays.proofs.Common.{SameCaller, RunsInTurn, Happened, RunsBefore, IsCause, calls_by, future_of, runs_by, IsIn, in_none}
use Rattle.act_order_plays.proofs.Premises.{Premises}
use Rattle.act_order_plays.proofs.Lists.{has_pushed, cases_le, front_grows, has_more}
use Rattle.act_order_plays.proofs.Fronts.{submits, rans, is_by, is_to, subs_of, rans_of, has_subs_of, subs_of_has, rans_of_has, has_rans_of, call_at}
use Rattle.act_order_plays.proofs.Fronts.{call_before, calls_differ, IsRunAt, run_at, rank, run_ranks, run_before, runs_differ}
use Rattle.act_orders.proofs.Lasting.{NoneOf}

-- each cause of what happened did
abbrev pub Closed : Told → List Happening → Type 0
Closed told before = (x cause : Happening) → IsIn before x → IsCause told cause x → IsIn before cause

-- what may happen next
pub record IsNext (told : Told) (before : List Happening) (x : Happening) : Type 0 where
  pub happened : Happened told x
  pub fresh : IsIn before x → ⊥
  pub causes : (cause : Happening) → IsCause told cause x → IsIn before cause

-- ---- chains of causes

-- each lower call of its caller was submitted before a call is
pub calls_chain : {told : Told} (before : List Happening) (d m n : ℕ) → Premises told → Closed told before → n < length told.calls → m + suc d ≡ n →
    SameCaller told m n → ((cause : Happening) → IsCause told cause (Submitted n) → IsIn before cause) → IsIn before (Submitted m)
calls_chain before zero m n fits closed lt e same causes = causes (Submitted m) (omega arith, same)
calls_chain {told} before (suc d) m n fits closed lt e same causes =
    let p : ℕ = m + suc d in let low = fits.callers m p (omega arith) (omega arith) in let high = fits.callers p n (omega arith) lt in
    let mid : SameCaller told p n = omega arith in let has = causes (Submitted p) (omega arith, mid) in
    calls_chain before d m p fits closed (omega arith) refl (same ∙ sym mid) (λ cause is. closed (Submitted p) cause has is)

pub earlier_submitted : {told : Told} (before : List Happening) (m n : ℕ) → Premises told → Closed told before → n < length told.calls → m < n →
    SameCaller told m n → ((cause : Happening) → IsCause told cause (Submitted n) → IsIn before cause) → IsIn before (Submitted m)
earlier_submitted {told} before m n fits closed lt less same causes = calls_chain before (n - suc m) m n fits closed lt (omega arith) same causes

-- each earlier run of its actor was before a run
pub runs_chain : (told : Told) (before : List Happening) (d i j : ℕ) (one next : Run) → Premises told → Closed told before → slice_get told.runs i ≡ Some one →
    slice_get told.runs j ≡ Some next → i + suc d ≡ j → one.actor ≡ next.actor →
    ((cause : Happening) → IsCause told cause (Ran next.call) → IsIn before cause) →
    IsIn before (Ran one.call)
runs_chain told before zero i j one next fits closed at there e same causes =
    let step : j ≡ i + 1 = omega arith in
    causes (Ran one.call) (
      i,
      one.actor,
      at,
      subst (λ k. slice_get told.runs k ≡ Some (record { actor = one.actor; call = next.call })) step
          (subst (λ a. slice_get told.runs j ≡ Some (record { actor = a; call = next.call })) (sym same) there),
    )
runs_chain told before (suc d) i j one next fits closed at there e same causes =
    let p : ℕ = i + suc d in let ends = slice_get_within told.runs j next there in let mid = element told.runs p (omega arith) in
    let low = fits.run_actors i p one mid.0 (omega arith) at mid.1 in let high = fits.run_actors p j mid.0 next (omega arith) mid.1 there in
    let actor : mid.0.actor ≡ next.actor = omega arith in let step : j ≡ p + 1 = omega arith in
    let has = causes (Ran mid.0.call) (
      p,
      mid.0.actor,
      mid.1,
      subst (λ k. slice_get told.runs k ≡ Some (record { actor = mid.0.actor; call = next.call })) step
          (subst (λ a. slice_get told.runs j ≡ Some (record { actor = a; call = next.call })) (sym actor) there),
    ) in
    runs_chain told before d i p one mid.0 fits closed at mid.1 refl (same ∙ sym actor) (λ cause is. closed (Ran mid.0.call) cause has is)

pub earlier_ran : {told : Told} (before : List Happening) {i : ℕ} (j : ℕ) {one next : Run} → Premises told → Closed told before →
    slice_get told.runs i ≡ Some one → slice_get told.runs j ≡ Some next → i < j → one.actor ≡ next.actor →
    ((cause : Happening) → IsCause told cause (Ran next.call) → IsIn before cause) → IsIn before (Ran one.call)
earlier_ran {told} before {i} j {one} {next} fits closed at there less same causes =
    runs_chain told before (j - suc i) i j one next fits closed at there (omega arith) same causes

-- ---- deaths

-- the last place of an actor's runs
record IsLastPlace (runs : List Run) (a p : ℕ) : Type 0 where
  run : Run
  at : slice_get runs p ≡ Some run
  actor : run.actor ≡ a
  last : (i : ℕ) (other : Run) → slice_get runs i ≡ Some other → other.actor ≡ a → i ≤ p

last_after : (x : Run) (xs : List Run) (a p : ℕ) → IsLastPlace xs a p → (i : ℕ) (other : Run) → slice_get (x ∷ xs) i ≡ Some other → other.actor ≡ a → i ≤ suc p
last_after x xs a p l zero other at is = omega arith
last_after x xs a p l (suc i) other at is = let le = l.last i other at is in omega arith

last_first : (x : Run) (xs : List Run) (a : ℕ) → NoneOf xs a → (i : ℕ) (other : Run) → slice_get (x ∷ xs) i ≡ Some other → other.actor ≡ a → i ≤ 0
last_first x xs a none zero other at is = omega arith
last_first x xs a none (suc i) other at is = absurd (none i other at is)

no_run : (x : Run) (xs : List Run) (a : ℕ) → x.actor ≢ a → NoneOf xs a → NoneOf (x ∷ xs) a
no_run x xs a differs none zero run at is = let same : x ≡ run = cc in differs (ap (λ (r : Run). r.actor) same ∙ is)
no_run x xs a differs none (suc i) run at is = none i run at is

last_place : (runs : List Run) (a : ℕ) → ((p : ℕ) × IsLastPlace runs a p) ⊎ NoneOf runs a
last_place [] a = inr (λ i run at is. cc)
last_place (x ∷ xs) a = elim (last_place xs a) [
  | inl l ↦ inl (suc l.0, record { run = l.1.run; at = l.1.at; actor = l.1.actor; last = last_after x xs a l.0 l.1 })
  | inr none ↦ elim (eqb_tells x.actor a) [
    | inl t ↦ inl (0, record { run = x; at = refl; actor = t.1; last = last_first x xs a none })
    | inr f ↦ inr (no_run x xs a f.1 none)
  ]
]

-- where a death was told, its actor ran all that it runs
pub died_ran : (told : Told) (before : List Happening) (m i : ℕ) (run : Run) → Premises told → Closed told before → IsIn before (Answered m) →
    (call_of told m).outcome ≡ Died → slice_get told.runs i ≡ Some run → run.actor ≡ (call_of told m).actor → IsIn before (Ran run.call)
died_ran told before m i run fits closed has died at is = go (last_place told.runs (call_of told m).actor)
  where
    go : (((p : ℕ) × IsLastPlace told.runs (call_of told m).actor p) ⊎ NoneOf told.runs (call_of told m).actor) → IsIn before (Ran run.call)
    go (inr none) = absurd (none i run at is)
    go (inl (p, l)) =
        let before_death : IsIn before (Ran l.run.call) =
        closed (Answered m) (Ran l.run.call) has
        (subst (λ outcome. RunsBefore told outcome l.run.call m) (sym died)
        (record { place = p; at = subst (λ a. slice_get told.runs p ≡ Some (record { actor = a; call = l.run.call })) l.actor l.at; last = l.last }))
        in
        let most = l.last i run at is in
        elim (cases_le p i) [
          | inl a ↦
              let place : i ≡ p = omega arith in
              let there : slice_get told.runs p ≡ Some run = subst (λ k. slice_get told.runs k ≡ Some run) place at in
              let at_last : slice_get told.runs p ≡ Some l.run = l.at in let same : l.run ≡ run = cc in
              subst (λ (r : Run). IsIn before (Ran r.call)) same before_death
          | inr b ↦ earlier_ran before p fits closed at l.at b (is ∙ sym l.actor) (λ cause c. closed (Ran l.run.call) cause before_death c)
        ]

-- ---- what happened so far

pub record Good (told : Told) (before : List Happening) : Type 0 where
  pub closed : Closed told before
  pub happened : (x : Happening) → IsIn before x → Happened told x
  pub calls : (c : ℕ) → IsPrefix (subs_of told before c) (calls_by told c)
  pub runs : (a : ℕ) → IsPrefix (rans_of told before a) (runs_by told a)

pub good_none : (told : Told) → Good told []
good_none told = record {
  closed = λ x cause has is. absurd (in_none has);
  happened = λ x has. absurd (in_none has);
  calls = λ c. (calls_by told c, refl);
  runs = λ a. (runs_by told a, refl);
}

-- one more happening adds its call to those that were submitted, if it is a submission
pub submits_more : (before : List Happening) (x : Happening) → submits (before ++ x ∷ []) ≡ submits before ++ submits (x ∷ [])
submits_more before x = filter_map-append _ before (x ∷ [])

-- one more happening adds its call to those that ran, if it is a run
pub rans_more : (before : List Happening) (x : Happening) → rans (before ++ x ∷ []) ≡ rans before ++ rans (x ∷ [])
rans_more before x = filter_map-append _ before (x ∷ [])

pub subs_of_more : (told : Told) (before : List Happening) (x : Happening) (c : ℕ) →
    subs_of told (before ++ x ∷ []) c ≡ subs_of told before c ++ subs_of told (x ∷ []) c
subs_of_more told before x c = ap (filter (is_by told c)) (submits_more before x) ∙ filter-append (is_by told c) (submits before) (submits (x ∷ []))

-- one more happening adds its call to those to an actor that ran, if it is the run of a call to that actor
pub rans_of_more : (told : Told) (before : List Happening) (x : Happening) (a : ℕ) →
    rans_of told (before ++ x ∷ []) a ≡ rans_of told before a ++ rans_of told (x ∷ []) a
rans_of_more told before x a = ap (filter (is_to told a)) (rans_more before x) ∙ filter-append (is_to told a) (rans before) (rans (x ∷ []))

next_call : (told : Told) (before : List Happening) (n c : ℕ) → Premises told → Good told before → IsNext told before (Submitted n) →
    IsPrefix (subs_of told before c ++ cond (is_by told c n) (n ∷ []) []) (calls_by told c)
next_call told before n c fits good next = go (is_by told c n) refl
  where
    go : (b : Bool) → is_by told c n ≡ b → IsPrefix (subs_of told before c ++ cond b (n ∷ []) []) (calls_by told c)
    go false e = rw (append-nil (subs_of told before c)) (good.calls c)
    go true e =
        let is : (call_of told n).caller ≡ c = eqb-true (call_of told n).caller c e in
        subst (λ c. IsPrefix (subs_of told before c ++ n ∷ []) (calls_by told c)) is
        (front_grows (subs_of told before (call_of told n).caller) (calls_by told (call_of told n).caller) (future_of told n) n
        (calls_differ told (call_of told n).caller) (good.calls (call_of told n).caller) (call_at told n next.happened) (λ has. next.fresh
        (has_subs_of told before n (call_of told n).caller has)) (λ j y less at. let low = call_before told n j y next.happened less at in
        subs_of_has told before y (earlier_submitted before y n fits good.closed next.happened low.0 low.1 next.causes) low.1))

next_run : (told : Told) (before : List Happening) (n a : ℕ) → Premises told → RunsInTurn told → Good told before → IsNext told before (Ran n) →
    IsPrefix (rans_of told before a ++ cond (is_to told a n) (n ∷ []) []) (runs_by told a)
next_run told before n a fits turn good next = go (is_to told a n) refl
  where
    place : (p : ℕ) × (run : Run) × IsRunAt told n p run
    place = run_at told n next.happened

    go : (b : Bool) → is_to told a n ≡ b → IsPrefix (rans_of told before a ++ cond b (n ∷ []) []) (runs_by told a)
    go false e = rw (append-nil (rans_of told before a)) (good.runs a)
    go true e =
        let p = place.0 in let run = place.1 in let at = place.2.at in
        let to : (call_of told n).actor ≡ a = eqb-true (call_of told n).actor a e in
        let here : run.actor ≡ a = sym (turn p run at).here ∙ ap (λ k. (call_of told k).actor) place.2.call ∙ to in
        let there : slice_get (runs_by told a) (rank told a p) ≡ Some n =
        subst (λ k. slice_get (runs_by told a) (rank told a p) ≡ Some k) place.2.call
        (subst (λ b. slice_get (runs_by told b) (rank told b p) ≡ Some run.call) here (run_ranks told p at)) in
        front_grows (rans_of told before a) (runs_by told a) (rank told a p) n (runs_differ told a turn) (good.runs a) there
        (λ has. next.fresh (has_rans_of told before n a has).0) (λ j y less at_y. let early = run_before told a p j y less at_y in let has =
        earlier_ran before p fits good.closed early.4.at at early.2 (early.3 ∙ sym here) (λ cause is. next.causes cause
        (subst (λ k. IsCause told cause (Ran k)) place.2.call is)) in rans_of_has told before y a (subst (λ k. IsIn before (Ran k)) early.4.call has)
        (sym (ap (λ k. (call_of told k).actor) early.4.call) ∙ (turn early.0 early.1 early.4.at).here ∙ early.3))

-- in a history that fits and whose runs are in turn, what is good so far stays so with what may happen next
pub good_more : {told : Told} {before : List Happening} {x : Happening} → Premises told → RunsInTurn told → Good told before → IsNext told before x →
    Good told (before ++ x ∷ [])
good_more {told} {before} {x} fits turn good next = record {
  closed = λ y cause has is. elim (has_pushed before x has) [
    | inl h ↦ has_more before (x ∷ []) (good.closed y cause h is)
    | inr e ↦ has_more before (x ∷ []) (next.causes cause (subst (λ z. IsCause told cause z) (sym e) is))
  ];
  happened = λ y has. elim (has_pushed before x has) [ inl h ↦ good.happened y h | inr e ↦ subst (Happened told) e next.happened ];
  calls = λ c. rw (subs_of_more told before x c) (calls x c next);
  runs = λ a. rw (rans_of_more told before x a) (runs x a next);
}
  where
    calls : (x : Happening) (c : ℕ) → IsNext told before x → IsPrefix (subs_of told before c ++ subs_of told (x ∷ []) c) (calls_by told c)
    calls (Submitted n) c next = next_call told before n c fits good next
    calls x c next = rw (append-nil (subs_of told before c)) (good.calls c)

    runs : (x : Happening) (a : ℕ) → IsNext told before x → IsPrefix (rans_of told before a ++ rans_of told (x ∷ []) a) (runs_by told a)
    runs (Ran n) a next = next_run told before n a fits turn good next
    runs x a next = rw (append-nil (rans_of told before a)) (good.runs a)
