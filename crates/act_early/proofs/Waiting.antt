-- A quiescent caller isn't behind: what the late play's caller may do next, it did already.
use Rattle.act_early.proofs.Common.{◌≡◌, ℕ, ◌+◌, ◌-◌, ◌<◌, ◌≤◌, true, false, cond, List, length, Option, Some, None, refl, ap, is_none, sym, ◌∙◌, subst, arith}
use Rattle.act_early.proofs.Common.{◌==◌, filter, filter_map, find, take, slice_get, option_map, is_some, nat_lt, list_any, ltb-true, nat_tests, Arg, Method}
use Rattle.act_early.proofs.Common.{Submission, Step, Submit, Copy, Release, Kill, Await, PendingLimit, Answer, kept_at, calls_to, submit_refusal}
use Rattle.act_early.proofs.Common.{limit_refusal, ActorSpec, History, contains, names, cast_of, is_caller, count_pairs, calls_of, copies_of, limit_of, kept_of}
use Rattle.act_early.proofs.Common.{is_dead, refusal_of, unanswered, submission_refusal, option_map-none, option_or-none, option_or-none_second, needs-none}
use Rattle.act_early.proofs.Common.{Extends, limit_of-same, At, steps_of, next_step, MayTake, IsQuiescent, fewer, SubmitRefused, NoCaller}
use Rattle.act_rules.specs.declared.event.Event.TheVariants as event
use Rattle.act_early.proofs.Worlds.{IsWorld}
use Rattle.act_early.proofs.Counting.{done_steps}
use Rattle.act_early.proofs.Progress.{Follows, submission_in, is_copy_of, is_release_of}

limit_less : (limit : Option ℕ) {m n : ℕ} → n ≤ m → limit_refusal limit m ≡ None → limit_refusal limit n ≡ None
limit_less None le e = refl
limit_less (Some limit) {m} {n} le e =
    let lt : m < limit = ltb-true m limit (needs-none (nat_lt m limit) PendingLimit None e).0 in
    let less : nat_lt n limit ≡ true = grind (arith, nat_tests) in rw less refl

-- ---- the same at both

-- what a refusal of a caller's step depends on
pub record IsAlike (c : ℕ) (h g : History) : Type 0 where
  pub caller : is_caller c g ≡ is_caller c h
  pub calls : calls_of c g ≡ calls_of c h
  pub copies : (a : ℕ) → copies_of c a g ≡ copies_of c a h
  pub limit : (a : ℕ) → limit_of c a g ≡ limit_of c a h

abbrev pub copies_from : List ActorSpec → ℕ → ℕ → ℕ → ℕ → Option ℕ
copies_from casts c a made gone = cond (names c (find (λ (cast : ActorSpec). cast.actor == a) casts)) (Some ((1 + made) - gone)) None

alike : (specs : List ActorSpec) (plans : ℕ → List Step) (c : ℕ) (step : Step) (play early : At) → IsWorld specs play.history → IsWorld specs early.history
    → Follows plans c play → Follows plans c early
    → steps_of c play ≡ steps_of c early → next_step plans c play ≡ Some step → IsAlike c play.history early.history
alike specs plans c step play early w v f g same next =
    let casts : early.history.casts ≡ play.history.casts = v.casts ∙ sym w.casts in
    let done : done_steps plans c early ≡ done_steps plans c play = ap (λ n. take n (plans c)) (sym same) in
    let here : next_step plans c early ≡ Some step = ap (λ n. slice_get (plans c) n) (sym same) ∙ next in
    record {
      caller = ap (λ l. list_any (λ (cast : ActorSpec). contains c cast.callers) l) casts;
      calls = g.calls ∙ ap (filter_map submission_in) done ∙ sym f.calls;
      copies = λ a. ap (λ l. copies_from l c a (count_pairs c a early.history.copied) (count_pairs c a early.history.released)) casts ∙ ap
          (λ n. copies_from play.history.casts c a n (count_pairs c a early.history.released)) (g.copied a ∙ ap (λ l. length (filter (is_copy_of a) l)) done ∙
          sym (f.copied a)) ∙ ap (λ n. copies_from play.history.casts c a (count_pairs c a play.history.copied) n)
          (g.released a step (here) ∙ ap (λ l. length (filter (is_release_of a) l)) done ∙ sym (f.released a step next));
      limit = λ a. limit_of-same play.history early.history c a casts;
    }

-- ---- what the play may do, the early one may

submit_alike : (c a : ℕ) (method : Method) (args : List Arg) (h g : History) → IsAlike c h g → Extends (kept_of c h) (kept_of c g)
    → refusal_of h (event.Submit c a method args) ≡ None → refusal_of g (event.Submit c a method args) ≡ None
submit_alike c a method args h g same extends e =
    let known = needs-none (is_caller c h) NoCaller (option_map SubmitRefused (submission_refusal c a args h)) e in
    let none = option_map-none SubmitRefused (submission_refusal c a args h) known.1 in
    let own = option_or-none (submit_refusal (copies_of c a h) (length (calls_of c h)) args) (limit_refusal (limit_of c a h) (unanswered c a h)) none in
    let limit = option_or-none_second (submit_refusal (copies_of c a h) (length (calls_of c h)) args)
    (limit_refusal (limit_of c a h) (unanswered c a h)) none in
    let few : unanswered c a g ≤ unanswered c a h =
    subst (λ calls. unanswered c a g ≤ length (filter (λ (call : ℕ × Submission). is_none (kept_at (kept_of c h) call.0)) (calls_to a calls)))
    same.calls (fewer (kept_of c h) (kept_of c g) (calls_to a (calls_of c g)) extends) in
    let first : is_caller c g ≡ true = same.caller ∙ known.0 in
    let second : submit_refusal (copies_of c a g) (length (calls_of c g)) args ≡ None = rw (same.copies a, same.calls) own in
    let third : limit_refusal (limit_of c a g) (unanswered c a g) ≡ None =
    rw (same.limit a) (limit_less (limit_of c a h) few limit) in
    rw (first, second, third) refl

-- a caller still may take a step where its calls, copies and limits are the same and its kept answers stay
pub may_take : (c : ℕ) (step : Step) (h g : History) → IsAlike c h g → Extends (kept_of c h) (kept_of c g) → MayTake c step h → MayTake c step g
may_take c (Submit a method args) h g same extends may = submit_alike c a method args h g same extends may
may_take c (Copy a) h g same extends may = rw (same.caller, same.copies a) may
may_take c (Release a) h g same extends may = rw (same.caller, same.copies a) may
may_take c (Kill a) h g same extends may = rw (same.caller, same.copies a) may
may_take c (Await k) h g same extends may = go (kept_at (kept_of c h) k) refl may
  where
    go : (o : Option Answer) → kept_at (kept_of c h) k ≡ o → is_some o ≡ true → is_some (kept_at (kept_of c g) k) ≡ true
    go None e some = cc
    go (Some answer) e some = ap (λ o. is_some o) (extends k answer e)

-- ---- a quiescent caller isn't behind

not_level : {m n : ℕ} → m ≤ n → (m ≡ n → ⊥) → m + 1 ≤ n
not_level le differ = omega arith

pub not_behind : (specs : List ActorSpec) (plans : ℕ → List Step) (c : ℕ) (step : Step) (play early : At) → IsWorld specs play.history → IsWorld specs
    early.history → Follows plans c play → Follows plans c early → IsQuiescent plans early → Extends (kept_of c play.history) (kept_of c early.history) →
    next_step plans c play ≡ Some step → MayTake c step play.history → steps_of c play ≤ steps_of c early → steps_of c play + 1 ≤ steps_of c early
not_behind specs plans c step play early w v f g quiescent extends next may le = not_level le (λ same. quiescent.waits c step (ap (λ n. slice_get (plans c) n)
    (sym same) ∙ next) (may_take c step play.history early.history (alike specs plans c step play early w v f g same next) extends may))

pub not_behind_dead : (plans : ℕ → List Step) (c a : ℕ) (play early : At) → IsQuiescent plans early → next_step plans c play ≡ Some (Kill a)
    → names c (cast_of a early.history) ≡ true → is_dead a early.history ≡ true → steps_of c play ≤ steps_of c early → steps_of c play + 1 ≤ steps_of c early
not_behind_dead plans c a play early quiescent next named dead le = not_level le
    (λ same. let no = quiescent.needs c a (ap (λ n. slice_get (plans c) n) (sym same) ∙ next) named in let bad : true ≡ false = sym dead ∙ no in cc)
