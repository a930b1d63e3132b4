-- The circle is joined, and no list of events leaves it.
use Rattle.act_replay.proofs.Common.{◌≡◌, ◌≢◌, ℕ, zero, suc, ◌<◌, ◌==◌, cond, true, false, List, [], ◌∷◌, ◌++◌, length, Some, refl, sym, ap, ◌∙◌, subst, arith}
use Rattle.act_replay.proofs.Common.{ne_eqb, slice_get, map, is_some, Ok, Err, Option, None, pos, AllByRecursion, KindState, ActorDied, Int}
use Rattle.act_replay.proofs.Common.{RunItem, Submission, Answer, items_of, has_terminated, NothingFollowsAnEnd, kept_at, calls_to, IsPrefix, IsAsSubmitted}
use Rattle.act_replay.proofs.Common.{IsAnswerOfRun, History, opening, opening_of, actors_naming, history, planned, kills_to, All-two, OwnerView, IfRetired}
use Rattle.act_replay.proofs.Common.{limits_naming, plan_of, steps_of_plan, calls_in, kept_in, log_in, killed_in, is_starved, calls_of_owner, kept_of_owner}
use Rattle.act_replay.proofs.Common.{log_of_end, is_killed_end, RanAll, IsJoined, HasAllOf, IsUnplayed, IsNoPlay, circle_cast, circle_casts, five_arg}
use Rattle.act_replay.proofs.Common.{first_future, circle_plan, circle_plans, circle_push, circle_ran, circle_log, owner, circle_owners, circle_end}
use Rattle.act_replay.proofs.Common.{circle_ends}
use Rattle.act_replay.proofs.Unplayed.{IsCircle, nothing_at, unplayed}
use Rattle.act_rules.proofs.Order.{numbered, numbers}

abbrev answer : ℕ → Answer
answer n = Ok (Int (pos n))

-- ---- numbers that nobody has

one : (c : ℕ) → (1 == suc (suc (suc c))) ≡ false
one c = ne_eqb 1 (suc (suc (suc c))) (λ e. let bad : 1 ≡ suc (suc (suc c)) = e in absurd (omega (arith, bad)))

two : (c : ℕ) → (2 == suc (suc (suc c))) ≡ false
two c = ne_eqb 2 (suc (suc (suc c))) (λ e. let bad : 2 ≡ suc (suc (suc c)) = e in absurd (omega (arith, bad)))

no_calls : (c : ℕ) → calls_in circle_owners (suc (suc (suc c))) ≡ []
no_calls c = λ i. calls_of_owner (cond (one c i) (Some (owner 1 2)) (cond (two c i) (Some (owner 2 1)) None))

no_kept : (c : ℕ) → kept_in circle_owners (suc (suc (suc c))) ≡ []
no_kept c = λ i. kept_of_owner (cond (one c i) (Some (owner 1 2)) (cond (two c i) (Some (owner 2 1)) None))

no_log : (a : ℕ) → log_in circle_ends (suc (suc (suc a))) ≡ []
no_log a = λ i. log_of_end (cond (one a i) (Some (circle_end 1 2)) (cond (two a i) (Some (circle_end 2 1)) None))

not_killed : (a : ℕ) → killed_in circle_ends (suc (suc (suc a))) ≡ false
not_killed a = λ i. is_killed_end (cond (one a i) (Some (circle_end 1 2)) (cond (two a i) (Some (circle_end 2 1)) None))

no_plan : (c : ℕ) → plan_of (suc (suc (suc c))) circle_plans ≡ []
no_plan c = λ i. steps_of_plan (cond (one c i) (Some (1, circle_plan 1 2)) (cond (two c i) (Some (2, circle_plan 2 1)) None))

no_items_1 : (c : ℕ) → items_of (suc (suc (suc c))) (circle_log 1 2) ≡ []
no_items_1 c = λ i. cond (two c i) (circle_ran 2 1 2 ∷ cond (one c i) (circle_ran 1 0 5 ∷ []) []) (cond (one c i) (circle_ran 1 0 5 ∷ []) [])

no_items_2 : (c : ℕ) → items_of (suc (suc (suc c))) (circle_log 2 1) ≡ []
no_items_2 c = λ i. cond (one c i) (circle_ran 1 1 2 ∷ cond (two c i) (circle_ran 2 0 5 ∷ []) []) (cond (two c i) (circle_ran 2 0 5 ∷ []) [])

not_there : (a p : ℕ) (y : RunItem) → slice_get (log_in circle_ends (suc (suc (suc a)))) p ≡ Some y → ⊥
not_there a p y e = nothing_at p (sym (ap (λ l. slice_get l p) (no_log a)) ∙ e)

none_kept : (k : ℕ) (x : Answer) → kept_at [] k ≡ Some x → ⊥
none_kept k x e = cc

not_kept : (c k : ℕ) {x : Answer} → kept_at (kept_in circle_owners (suc (suc (suc c)))) k ≡ Some x → ⊥
not_kept c k {x} e = none_kept k x (sym (ap (λ l. kept_at l k) (no_kept c)) ∙ e)

no_way : false ≡ true → ⊥
no_way e = cc

last_none : NothingFollowsAnEnd []
last_none place e = cc

submitted : (c : ℕ) → calls_in circle_owners c ≡ planned (actors_naming c circle_casts) (plan_of c circle_plans)
submitted zero = refl
submitted (suc zero) = refl
submitted (suc (suc zero)) = refl
submitted (suc (suc (suc c))) = no_calls c ∙ sym (ap (planned (actors_naming (suc (suc (suc c))) circle_casts)) (no_plan c))

answered : (c k : ℕ) → k < length (calls_in circle_owners c) → is_some (kept_at (kept_in circle_owners c) k) ≡ true
answered zero k below = absurd (omega arith)
answered (suc zero) zero below = refl
answered (suc zero) (suc zero) below = refl
answered (suc zero) (suc (suc k)) below = absurd (omega arith)
answered (suc (suc zero)) zero below = refl
answered (suc (suc zero)) (suc zero) below = refl
answered (suc (suc zero)) (suc (suc k)) below = absurd (omega arith)
answered (suc (suc (suc c))) k below = let len : length (calls_in circle_owners (suc (suc (suc c)))) ≡ 0 = ap length (no_calls c) in
    absurd (omega (arith, below, len))

abbrev due : ℕ → ℕ → List (ℕ × ℕ)
due a c = numbers a (calls_in circle_owners c)

abbrev InOrder : ℕ → ℕ → Type 0
InOrder a c = IsPrefix (map numbered (items_of c (log_in circle_ends a))) (due a c)

in_order : (a c : ℕ) → InOrder a c
in_order zero c = (_, refl)
in_order (suc zero) zero = (_, refl)
in_order (suc zero) (suc zero) = ([], refl)
in_order (suc zero) (suc (suc zero)) = ([], refl)
in_order (suc zero) (suc (suc (suc c))) = (due 1 (suc (suc (suc c))), ap (λ l. map numbered l ++ due 1 (suc (suc (suc c)))) (no_items_1 c))
in_order (suc (suc zero)) zero = (_, refl)
in_order (suc (suc zero)) (suc zero) = ([], refl)
in_order (suc (suc zero)) (suc (suc zero)) = ([], refl)
in_order (suc (suc zero)) (suc (suc (suc c))) = (due 2 (suc (suc (suc c))), ap (λ l. map numbered l ++ due 2 (suc (suc (suc c)))) (no_items_2 c))
in_order (suc (suc (suc a))) c = (due (suc (suc (suc a))) c, ap (λ l. map numbered (items_of c l) ++ due (suc (suc (suc a))) c) (no_log a))

as_submitted : (a : ℕ) → AllByRecursion (IsAsSubmitted (calls_in circle_owners) (kept_in circle_owners)) (log_in circle_ends a)
as_submitted zero = tt
as_submitted (suc zero) = (
  record { call = circle_push 1 first_future; at = refl; method = refl; known = refl; args = refl },
  (record { call = circle_push 1 five_arg; at = refl; method = refl; known = refl; args = refl }, tt),
)
as_submitted (suc (suc zero)) = (
  record { call = circle_push 2 first_future; at = refl; method = refl; known = refl; args = refl },
  (record { call = circle_push 2 five_arg; at = refl; method = refl; known = refl; args = refl }, tt),
)
as_submitted (suc (suc (suc a))) = subst (λ l. AllByRecursion (IsAsSubmitted (calls_in circle_owners) (kept_in circle_owners)) l) (sym (no_log a)) tt

abbrev open_at : ℕ → Option KindState
open_at a = opening_of a (opening circle_casts)

-- an item of another caller, or of another call
other_caller : {x y : RunItem} {c : ℕ} → x ≡ y → y.caller ≡ c → x.caller ≡ c
other_caller same e = ap (λ (i : RunItem). i.caller) same ∙ e

other_future : (x y : RunItem) (k : ℕ) → x ≡ y → y.future ≡ k → x.future ≡ k
other_future x y k same e = ap (λ (i : RunItem). i.future) same ∙ e

only_10 : (a p : ℕ) (y : RunItem) → slice_get (log_in circle_ends a) p ≡ Some y → y.caller ≡ 1 → y.future ≡ 0 → (a ≡ 1) × (p ≡ 1)
only_10 zero p y e f g = cc
only_10 (suc zero) zero y e f g = let same : circle_ran 2 1 2 ≡ y = cc in let bad = other_caller same f in absurd (omega (arith, bad))
only_10 (suc zero) (suc zero) y e f g = (refl, refl)
only_10 (suc zero) (suc (suc p)) y e f g = cc
only_10 (suc (suc zero)) zero y e f g = let same : circle_ran 1 1 2 ≡ y = cc in let bad = other_future _ y 0 same g in absurd (omega (arith, bad))
only_10 (suc (suc zero)) (suc zero) y e f g = let same : circle_ran 2 0 5 ≡ y = cc in let bad = other_caller same f in absurd (omega (arith, bad))
only_10 (suc (suc zero)) (suc (suc p)) y e f g = cc
only_10 (suc (suc (suc a))) p y e f g = absurd (not_there a p y e)

only_11 : (a p : ℕ) (y : RunItem) → slice_get (log_in circle_ends a) p ≡ Some y → y.caller ≡ 1 → y.future ≡ 1 → (a ≡ 2) × (p ≡ 0)
only_11 zero p y e f g = cc
only_11 (suc zero) zero y e f g = let same : circle_ran 2 1 2 ≡ y = cc in let bad = other_caller same f in absurd (omega (arith, bad))
only_11 (suc zero) (suc zero) y e f g = let same : circle_ran 1 0 5 ≡ y = cc in let bad = other_future _ y 1 same g in absurd (omega (arith, bad))
only_11 (suc zero) (suc (suc p)) y e f g = cc
only_11 (suc (suc zero)) zero y e f g = (refl, refl)
only_11 (suc (suc zero)) (suc zero) y e f g = let same : circle_ran 2 0 5 ≡ y = cc in let bad = other_caller same f in absurd (omega (arith, bad))
only_11 (suc (suc zero)) (suc (suc p)) y e f g = cc
only_11 (suc (suc (suc a))) p y e f g = absurd (not_there a p y e)

only_20 : (a p : ℕ) (y : RunItem) → slice_get (log_in circle_ends a) p ≡ Some y → y.caller ≡ 2 → y.future ≡ 0 → (a ≡ 2) × (p ≡ 1)
only_20 zero p y e f g = cc
only_20 (suc zero) zero y e f g = let same : circle_ran 2 1 2 ≡ y = cc in let bad = other_future _ y 0 same g in absurd (omega (arith, bad))
only_20 (suc zero) (suc zero) y e f g = let same : circle_ran 1 0 5 ≡ y = cc in let bad = other_caller same f in absurd (omega (arith, bad))
only_20 (suc zero) (suc (suc p)) y e f g = cc
only_20 (suc (suc zero)) zero y e f g = let same : circle_ran 1 1 2 ≡ y = cc in let bad = other_caller same f in absurd (omega (arith, bad))
only_20 (suc (suc zero)) (suc zero) y e f g = (refl, refl)
only_20 (suc (suc zero)) (suc (suc p)) y e f g = cc
only_20 (suc (suc (suc a))) p y e f g = absurd (not_there a p y e)

only_21 : (a p : ℕ) (y : RunItem) → slice_get (log_in circle_ends a) p ≡ Some y → y.caller ≡ 2 → y.future ≡ 1 → (a ≡ 1) × (p ≡ 0)
only_21 zero p y e f g = cc
only_21 (suc zero) zero y e f g = (refl, refl)
only_21 (suc zero) (suc zero) y e f g = let same : circle_ran 1 0 5 ≡ y = cc in let bad = other_caller same f in absurd (omega (arith, bad))
only_21 (suc zero) (suc (suc p)) y e f g = cc
only_21 (suc (suc zero)) zero y e f g = let same : circle_ran 1 1 2 ≡ y = cc in let bad = other_caller same f in absurd (omega (arith, bad))
only_21 (suc (suc zero)) (suc zero) y e f g = let same : circle_ran 2 0 5 ≡ y = cc in let bad = other_future _ y 1 same g in absurd (omega (arith, bad))
only_21 (suc (suc zero)) (suc (suc p)) y e f g = cc
only_21 (suc (suc (suc a))) p y e f g = absurd (not_there a p y e)

abbrev IsRight : ℕ → ℕ → Answer → Type 0
IsRight c k x = IsAnswerOfRun open_at (log_in circle_ends) c k x

answers : (c k : ℕ) (x : Answer) → kept_at (kept_in circle_owners c) k ≡ Some x → x ≢ Err ActorDied → IsRight c k x
answers zero k x e alive = absurd (none_kept k x e)
answers (suc zero) zero x e alive = let same : answer 2 ≡ x = cc in
    subst (λ y. IsRight 1 0 y) same
    (record { actor = 1; place = 1; item = circle_ran 1 0 5; at = refl; caller = refl; future = refl; answered = refl; only = only_10 })
answers (suc zero) (suc zero) x e alive = let same : answer 1 ≡ x = cc in
    subst (λ y. IsRight 1 1 y) same
    (record { actor = 2; place = 0; item = circle_ran 1 1 2; at = refl; caller = refl; future = refl; answered = refl; only = only_11 })
answers (suc zero) (suc (suc k)) x e alive = cc
answers (suc (suc zero)) zero x e alive = let same : answer 2 ≡ x = cc in
    subst (λ y. IsRight 2 0 y) same
    (record { actor = 2; place = 1; item = circle_ran 2 0 5; at = refl; caller = refl; future = refl; answered = refl; only = only_20 })
answers (suc (suc zero)) (suc zero) x e alive = let same : answer 1 ≡ x = cc in
    subst (λ y. IsRight 2 1 y) same
    (record { actor = 1; place = 0; item = circle_ran 2 1 2; at = refl; caller = refl; future = refl; answered = refl; only = only_21 })
answers (suc (suc zero)) (suc (suc k)) x e alive = cc
answers (suc (suc (suc c))) k x e alive = absurd (not_kept c k e)

no_deaths : (c k : ℕ) → kept_at (kept_in circle_owners c) k ≡ Some (Err ActorDied) → ⊥
no_deaths zero k e = cc
no_deaths (suc zero) zero e = cc
no_deaths (suc zero) (suc zero) e = cc
no_deaths (suc zero) (suc (suc k)) e = cc
no_deaths (suc (suc zero)) zero e = cc
no_deaths (suc (suc zero)) (suc zero) e = cc
no_deaths (suc (suc zero)) (suc (suc k)) e = cc
no_deaths (suc (suc (suc c))) k e = not_kept c k e

killed : (a : ℕ) → killed_in circle_ends a ≡ true → has_terminated (log_in circle_ends a) ≡ false → (c : ℕ) × (0 < kills_to a (plan_of c circle_plans))
killed zero e f = cc
killed (suc zero) e f = cc
killed (suc (suc zero)) e f = cc
killed (suc (suc (suc a))) e f = absurd (no_way (sym (not_killed a) ∙ e))

terminated : (a : ℕ) → has_terminated (log_in circle_ends a) ≡ true → killed_in circle_ends a ≡ true
terminated zero e = cc
terminated (suc zero) e = cc
terminated (suc (suc zero)) e = cc
terminated (suc (suc (suc a))) e = absurd (no_way (sym (ap has_terminated (no_log a)) ∙ e))

last_of : (a o : ℕ) → NothingFollowsAnEnd (circle_log a o)
last_of a o zero e = cc
last_of a o (suc zero) e = cc
last_of a o (suc (suc place)) e = cc

last : (a : ℕ) → NothingFollowsAnEnd (log_in circle_ends a)
last zero = last_none
last (suc zero) = last_of 1 2
last (suc (suc zero)) = last_of 2 1
last (suc (suc (suc a))) = subst NothingFollowsAnEnd (sym (no_log a)) last_none

ran_1 : (c : ℕ) → map (λ (i : RunItem). i.future) (items_of c (circle_log 1 2)) ≡ map (λ (call : ℕ × Submission). call.0)
    (calls_to 1 (calls_in circle_owners c))
ran_1 zero = refl
ran_1 (suc zero) = refl
ran_1 (suc (suc zero)) = refl
ran_1 (suc (suc (suc c))) = ap (λ l. map (λ (i : RunItem). i.future) l) (no_items_1 c)
    ∙ sym (ap (λ l. map (λ (call : ℕ × Submission). call.0) (calls_to 1 l)) (no_calls c))

ran_2 : (c : ℕ) → map (λ (i : RunItem). i.future) (items_of c (circle_log 2 1)) ≡ map (λ (call : ℕ × Submission). call.0)
    (calls_to 2 (calls_in circle_owners c))
ran_2 zero = refl
ran_2 (suc zero) = refl
ran_2 (suc (suc zero)) = refl
ran_2 (suc (suc (suc c))) = ap (λ l. map (λ (i : RunItem). i.future) l) (no_items_2 c)
    ∙ sym (ap (λ l. map (λ (call : ℕ × Submission). call.0) (calls_to 2 l)) (no_calls c))

pub circle_joined : IsJoined circle_casts circle_plans circle_owners circle_ends
circle_joined = record {
  callers = refl;
  actors = refl;
  limits = All-two (λ (o : OwnerView). o.limits ≡ limits_naming o.id circle_casts) _ _ refl refl;
  submitted = submitted;
  answered = answered;
  consistent = record { in_order = in_order; as_submitted = as_submitted; answers = answers; deaths = λ c k e. absurd (no_deaths c k e) };
  killed = killed;
  terminated = terminated;
  last = last;
  retired = All-two (λ end. IfRetired end (RanAll circle_casts circle_owners)) _ _ (record { calls = ran_1; cast = circle_cast 1; at = refl; state = refl })
      (record { calls = ran_2; cast = circle_cast 2; at = refl; state = refl });
  fed = All-two (λ end. is_starved end ≡ false) _ _ refl refl;
  ran = λ c k e. absurd (no_deaths c k e);
}

-- ---- the circle is no play

-- what is said of all callers and actors, said of each
both : (h : History) → HasAllOf h circle_owners circle_ends → IsCircle h
both h has = record {
  calls_1 = sym (has.calls 0 (owner 1 2) (omega arith));
  calls_2 = sym (has.calls 1 (owner 1 2) (omega arith));
  runs_1 = sym (has.runs 0 (circle_end 1 2) (omega arith));
  runs_2 = sym (has.runs 1 (circle_end 1 2) (omega arith));
}

pub circle_unplayed : IsUnplayed circle_casts circle_owners circle_ends
circle_unplayed events has = unplayed circle_casts events (both (history circle_casts events) has)

-- a play has all calls and all run lists
pub circle_no_play : IsNoPlay circle_casts circle_owners circle_ends
circle_no_play played = circle_unplayed played.0 (record {
  calls = λ i d below. (played.1.callers i d below).calls;
  runs = λ i d below. (played.1.actors i d below).runs;
})
