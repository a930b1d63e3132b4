-- Where the late play is ended, the one that was seen ends alike.
use Rattle.act_early.proofs.Common.{◌≡◌, ℕ, suc, ◌≤◌, Bool, true, false, List, [], ◌∷◌, length, Option, Some, None, refl, ap, sym, ◌∙◌, subst, arith, ◌==◌}
use Rattle.act_early.proofs.Common.{◌||◌, find, filter_map, slice_get, is_some, length-map, slice_get_past, RunItem, Submission, Step, Answer}
use Rattle.act_early.proofs.Common.{items_of, calls_to, kept_at, ActorSpec, History, contains, callers_in, cast_of, runs_of, calls_of, kept_of, is_retired}
use Rattle.act_early.proofs.Common.{is_ended, has_letter, ran_count, is_done, is_drained, refusal_of, kept_at_is, kept_by, ran_all, At, steps_of}
use Rattle.act_early.proofs.Common.{next_step, IsPlay, IsWholeSearch, IsEnded, LosesOnly, EndsAlike, all_from_each, NoteLetter}
use Rattle.act_rules.specs.declared.event.Event.TheVariants as event
use Rattle.act_early.proofs.Counting.{take-past}
use Rattle.act_lists.proofs.Lists.{past_none}
use Rattle.act_early.proofs.Progress.{Follows, follows, submission_in}
use Rattle.act_early.proofs.Earlier.{earlier_same}
use Rattle.act_early.proofs.Ahead.{AreBoth}
use Rattle.act_early.proofs.Possible.{IsReached}
use Rattle.act_early.proofs.Searching.{is_seen, both_of, reached}
use Rattle.act_rules.proofs.Kept.{kept_size}

-- ---- lists

-- lists of kept answers are the same where they are of one length and keep the same for each future
pub same_kept : (xs ys : List (Option Answer)) → length xs ≡ length ys → ((k : ℕ) → kept_at xs k ≡ kept_at ys k) → xs ≡ ys
same_kept [] [] long at = refl
same_kept [] (y ∷ ys) long at = absurd (omega (arith, long))
same_kept (x ∷ xs) [] long at = absurd (omega (arith, long))
same_kept (x ∷ xs) (y ∷ ys) long at =
    let first : x ≡ y = at 0 in let rest = same_kept xs ys (omega (arith, long)) (λ k. at (suc k)) in ap (λ z. z ∷ xs) first ∙ ap (λ l. y ∷ l) rest

-- where a caller made the same calls in two histories, its lists of kept answers are of one length
pub kept_long : (c : ℕ) (h g : History) → calls_of c h ≡ calls_of c g → length (kept_of c h) ≡ length (kept_of c g)
kept_long c h g same = kept_size c h ∙ ap (λ l. length l) same ∙ sym (kept_size c g)

-- ---- the same end

past_plan : (plans : ℕ → List Step) (c : ℕ) (late early : At) → next_step plans c late ≡ None → steps_of c late ≤ steps_of c early
    → length (plans c) ≤ steps_of c early
past_plan plans c late early done le = let past = past_none (plans c) (steps_of c late) done in omega arith

all_calls : (plans : ℕ → List Step) (c : ℕ) (at : At) → Follows plans c at → length (plans c) ≤ steps_of c at
    → calls_of c at.history ≡ filter_map submission_in (plans c)
all_calls plans c at f past = f.calls ∙ ap (filter_map submission_in) (take-past (plans c) (steps_of c at) past)

pub ends_alike : {casts : List ActorSpec} (plans : ℕ → List Step) {early : At} (late : At) → AreBoth casts plans early late → ((a : ℕ) → IsReached a late early)
    → IsEnded plans late → ((c : ℕ) → Follows plans c late) → EndsAlike plans early late.history
ends_alike plans {early} late both r ended f =
    let same_cast : (a : ℕ) → cast_of a early.history ≡ cast_of a late.history =
    λ a. ap (λ l. find (λ (cast : ActorSpec). cast.actor == a) l) (r 0).casts in
    let live : (a : ℕ) → is_retired a late.history ≡ true → is_ended a early.history ≡ false =
    λ a retired. ap (λ b. b || is_retired a early.history) ((r a).dead ∙ both.late.live a retired) ∙ ap (contains a) both.quiescent.live in
    -- an actor that retired ran all calls
    let count : (c a : ℕ) → is_retired a late.history ≡ true → ran_count c a early.history ≡ length (calls_to a (calls_of c early.history)) =
    λ c a retired. ap (λ items. length (items_of c items)) (r a).runs
    ∙ sym (length-map (items_of c (runs_of a late.history)) (λ (i : RunItem). i.future))
    ∙ ap (λ l. length l) (ran_all a c both.late.sound both.late.retires retired)
    ∙ length-map (calls_to a (calls_of c late.history)) (λ (call : ℕ × Submission). call.0)
    ∙ ap (λ l. length (calls_to a l)) (sym (calls c)) in
    let drained : (a : ℕ) → is_retired a late.history ≡ true → is_drained a early.history ≡ true =
    λ a retired. all_from_each (λ c. is_done c a early.history) (callers_in (cast_of a early.history)) (λ c named. subst (λ n. has_letter (NoteLetter c a n)
    early.history.arrived ≡ true) (sym (count c a retired)) (both.quiescent.noted c a (both.quiescent.closed c a (done c) named) (live a retired))) in
    let retires : (a : ℕ) → is_retired a late.history ≡ true → refusal_of early.history (event.Retire a) ≡ None =
    λ a retired. let cast : is_some (cast_of a early.history) ≡ true = ap (λ o. is_some o) (same_cast a) ∙ both.late.cast a retired in
    rw (cast, live a retired, drained a retired) refl in
    record {
      done = done;
      calls = calls;
      kept = λ c. same_kept (kept_of c early.history) (kept_of c late.history) (kept_long c early.history late.history (calls c)) (answers c);
      runs = λ a. (r a).runs;
      dead = λ a. (r a).dead;
      retires = retires;
    }
  where
    past : (c : ℕ) → length (plans c) ≤ steps_of c early
    past c = past_plan plans c late early (ended.done c) ((r 0).steps c)

    done : (c : ℕ) → next_step plans c early ≡ None
    done c = slice_get_past (plans c) (steps_of c early) (past c)

    calls : (c : ℕ) → calls_of c early.history ≡ calls_of c late.history
    calls c = all_calls plans c early (both.goes c) (past c) ∙ sym (all_calls plans c late (f c) (past_none (plans c) (steps_of c late) (ended.done c)))

    answers : (c k : ℕ) → kept_at (kept_of c early.history) k ≡ kept_at (kept_of c late.history) k
    answers c k = go (slice_get (calls_of c late.history) k) refl
      where
        some : (o : Option Answer) → kept_at (kept_of c late.history) k ≡ o → is_some o ≡ true
            → kept_at (kept_of c early.history) k ≡ kept_at (kept_of c late.history) k
        some None e is = cc
        some (Some answer) e is = (r 0).kept c k answer e ∙ sym e

        go : (o : Option Submission) → slice_get (calls_of c late.history) k ≡ o → kept_at (kept_of c early.history) k ≡ kept_at (kept_of c late.history) k
        go (Some call) at = some (kept_at (kept_of c late.history) k) refl (ended.over.answered c k call at)
        go None at =
            let there : slice_get (calls_of c early.history) k ≡ None = ap (λ l. slice_get l k) (calls c) ∙ at in
            kept_at_is early.history c k ∙ ap (kept_by early.history c k) there ∙ sym (kept_at_is late.history c k ∙ ap (kept_by late.history c k) at)

-- for each ended play that loses replies only where it may, a whole search has seen a play that ends alike
pub enough : (casts : List ActorSpec) (plans : ℕ → List Step) (may_lose : ℕ → Bool) (Seen : At → Type 0) (late : At) → IsWholeSearch casts plans may_lose Seen →
    IsPlay casts plans late → IsEnded plans late → LosesOnly may_lose late.history → (early : At) × Seen early × EndsAlike plans early late.history
enough casts plans may_lose Seen late search is ended losing =
    let s = is_seen may_lose Seen search is losing late is (earlier_same late.history) in
    let both = both_of may_lose Seen s.early search s.has is in
    let r = reached casts plans late s.early late is both (earlier_same late.history) s.exactly in
    (s.early, s.has, ends_alike plans late both r ended (follows casts plans late is))
