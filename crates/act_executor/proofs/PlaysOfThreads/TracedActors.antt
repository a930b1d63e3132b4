-- What each actor's thread did, as the rules see it.
use Rattle.act_executor.proofs.Common.{◌≡◌, ℕ, ◌≤◌, Bool, true, false, List, [], ◌∷◌, map, zip, Some, refl, ap, sym, ◌∙◌, subst, AllPairs, filter, filter_map}
use Rattle.act_executor.proofs.Common.{slice_get, AllZip, list_any, AllPairs-filter, Notice, Answered, Death, RunItem, has_terminated, ActorSpec, contains}
use Rattle.act_executor.proofs.Common.{filter-slice_get, Asked, Letter, Endpoint, caller_of, ControlExecView, RepliesView, ReplyExecView, steps_in, found_in}
use Rattle.act_executor.proofs.Common.{ExecPasses, EndView, Killed, Retired, Starved, end_id, end_log, caller_at, endpoint_callers, KillsOfDead, KillsTaken}
use Rattle.act_executor.proofs.Common.{cast_at, Action, CallRun, KillTaken, DeathTold, letter_taken, call_run, kill_taken, is_kill_taken, is_retirement, log_of}
use Rattle.act_executor.proofs.Common.{has_died_in, ActorMayDoAll, IsGivenAfter, IsActorTrace, IsActorTraced, is_killed, is_starved, ServedView, IsServed}
use Rattle.act_executor.proofs.Common.{all_from_places, ◌||◌, IsIn, in_from_contains, contains_from_in, all_in, in_filter, contains_is, found_alone}
use Rattle.act_executor.proofs.PlaysOfThreads.AsPlay.{has_retired}
use Rattle.act_executor.proofs.Lists.Stamped.{IsTakenFrom, mapped_at, found_step, found_taken, zipped}
use Rattle.act_executor.proofs.PlaysOfPlans.Letters.{letter_in_step, letter_from, letters_kept, letters_lost}
use Rattle.act_executor.proofs.Lists.Kept.{keep_stamped, kept_steps, kept_in}
use Rattle.act_executor.proofs.PlaysOfThreads.ActorWork.{is_of_these, kept_letter, lost_run, died_same, retired_same, RunsFor, may_all}

-- ---- how an actor ended

-- an actor that was refused no memory has a trace
trace_left : (a : ℕ) (lines : List RepliesView) (end : EndView) (passes : ExecPasses) → is_starved end ≡ false → IsActorTraced a lines end passes →
    (trace : List (ℕ × Action)) × IsActorTrace a lines (end_log end) passes trace × (list_any is_retirement (steps_in trace) ≡ has_retired end)
trace_left a lines (Starved dead) passes fed traced = cc
trace_left a lines end passes fed traced = (traced.0, traced.1, traced.2)

is_any : {X : Type 0} → List X → Bool
is_any [] = false
is_any (x ∷ xs) = true

any_kill : (steps : List Action) → list_any is_kill_taken steps ≡ is_any (filter_map kill_taken steps)
unfolding is_any
any_kill [] = refl
any_kill (KillTaken asker note ∷ steps) = refl
any_kill (step ∷ steps) = any_kill steps

why_dead : (b : Bool) (log : List RunItem) (kills : ControlExecView) → KillsOfDead b log kills → (is_any kills.taken || b) ≡ true
unfolding is_any
why_dead true log kills none = ap (λ l. is_any l || true) none.0
why_dead false log kills one = ap (λ l. is_any l || false) one.1

-- it is killed exactly where it took a kill or terminated
why_killed : (kills : ControlExecView) (end : EndView) → is_starved end ≡ false → KillsTaken kills end →
    (is_any kills.taken || has_terminated (end_log end)) ≡ is_killed end
unfolding is_any
why_killed kills (Killed dead) fed taken = why_dead (has_terminated dead.log) dead.log kills taken
why_killed kills (Retired retired) fed taken = λ i. is_any (taken.0.0 i) || taken.1 i
why_killed kills (Starved dead) fed taken = cc

-- ---- what its steps are

-- what the run needs of the steps of an actor's thread
pub record IsActorWork (casts : List ActorSpec) (replies : List RepliesView) (s : ServedView) (trace : List (ℕ × Action)) : Type 0 where
  pub cast : ActorSpec
  pub at : cast_at (end_id s.end) casts ≡ Some cast
  pub rising : AllPairs (λ one other. one.0 ≤ other.0) trace
  pub allowed : ActorMayDoAll (end_id s.end) cast.callers [] (steps_in trace)
  pub letters_taken : (c a : ℕ) → contains c cast.callers ≡ true →
      filter_map (letter_in_step c a) (steps_in trace) ≡ filter_map (letter_from c a) s.passes.letters.taken
  pub no_letters : (c a : ℕ) → contains c cast.callers ≡ false → filter_map (letter_in_step c a) (steps_in trace) ≡ []
  pub letters : (m : ℕ) (step : Action) (letter : Letter) → letter_taken step ≡ Some letter → IsIn {A = ℕ × Action} trace (m, step) →
      IsIn cast.callers (caller_of letter) × IsTakenFrom s.passes.letters.taken s.passes.letters.stamps letter m
  pub kills : (m : ℕ) (step : Action) (kill : Asked) → kill_taken step ≡ Some kill → IsIn {A = ℕ × Action} trace (m, step) →
      IsTakenFrom s.passes.kills.taken s.passes.kills.stamps kill m
  pub runs : map (λ x. x.1) (found_in call_run trace) ≡ end_log s.end
  pub given : (endpoint : Endpoint ReplyExecView) → IsIn s.passes.notices.items endpoint → (notice : Notice) (n : ℕ) →
      IsIn {A = Notice × ℕ} (zip endpoint.pass.given endpoint.pass.stamps) (notice, n) → IsGivenAfter trace (caller_at replies endpoint.place) notice n
  pub dead : has_died_in (steps_in trace) ≡ is_killed s.end
  pub retired : list_any is_retirement (steps_in trace) ≡ has_retired s.end

module _ (casts : List ActorSpec) (replies : List RepliesView) (s : ServedView) (cast : ActorSpec) (at : cast_at (end_id s.end) casts ≡ Some cast)
    (serving : IsServed replies cast s) (fed : is_starved s.end ≡ false) (t : List (ℕ × Action))
    (is : IsActorTrace (end_id s.end) replies (end_log s.end) s.passes t) (ended : list_any is_retirement (steps_in t) ≡ has_retired s.end) where
  abbrev keep : Action → Bool
  keep = is_of_these cast.callers

  -- without the letters of strangers
  abbrev f : List (ℕ × Action)
  f = filter (keep_stamped keep) t

  log_is : log_of (steps_in t) ≡ end_log s.end
  log_is = sym (found_alone call_run t) ∙ is.runs

  runs_for : (step : Action) → IsIn (steps_in t) step → RunsFor cast.callers step
  runs_for (CallRun item) i =
      let ran = mapped_at call_run (steps_in t) i.place item i.at refl in let logged = subst (λ log. IsIn log item) log_is ran in
      sym (serving.same_callers item.caller) ∙ all_in (λ (x : RunItem). contains x.caller serving.callers ≡ true) serving.log.listed logged
  runs_for step i = tt

  same_callers : (c : ℕ) → contains c (endpoint_callers replies s.passes.notices.items) ≡ contains c cast.callers
  same_callers c = ap (contains c) serving.endpoints ∙ serving.same_callers c

  allowed : ActorMayDoAll (end_id s.end) cast.callers [] (steps_in f)
  allowed =
      let all = all_from_places (RunsFor cast.callers) (steps_in t) (λ k step there. runs_for step (record { place = k; at = there })) in
      let may = may_all cast.callers (end_id s.end) (endpoint_callers replies s.passes.notices.items) same_callers [] (steps_in t) all is.allowed in
      subst (ActorMayDoAll (end_id s.end) cast.callers []) (sym (kept_steps keep t)) may

  letters : (m : ℕ) (step : Action) (letter : Letter) → letter_taken step ≡ Some letter → IsIn {A = ℕ × Action} f (m, step) →
      IsIn cast.callers (caller_of letter) × IsTakenFrom s.passes.letters.taken s.passes.letters.stamps letter m
  letters m step letter takes i =
      let from = filter-slice_get (keep_stamped keep) t i.place i.at in
      let there : IsIn {A = ℕ × Action} t (m, step) = record { place = from.place; at = from.at } in
      let mine : contains (caller_of letter) cast.callers ≡ true = sym (kept_letter cast.callers step takes) ∙ from.passes in (
        contains_is (caller_of letter) cast.callers mine,
        found_taken s.passes.letters.stamps m is.letters is.letters_later (found_step letter_taken t m letter takes there),
      )

  kills : (m : ℕ) (step : Action) (kill : Asked) → kill_taken step ≡ Some kill → IsIn {A = ℕ × Action} f (m, step) →
      IsTakenFrom s.passes.kills.taken s.passes.kills.stamps kill m
  kills m step kill takes i =
      let from = filter-slice_get (keep_stamped keep) t i.place i.at in
      let there : IsIn {A = ℕ × Action} t (m, step) = record { place = from.place; at = from.at } in
      found_taken s.passes.kills.stamps m is.kills is.kills_later (found_step kill_taken t m kill takes there)

  runs_same : found_in call_run f ≡ found_in call_run t
  runs_same = kept_in keep call_run (lost_run cast.callers) t

  still_given : (c : ℕ) (notice : Notice) (n : ℕ) → IsGivenAfter t c notice n → IsGivenAfter f c notice n
  still_given c (Answered reply) n given = (given.0, given.1, ap (λ l. slice_get l reply.place) runs_same ∙ given.2, given.3)
  still_given c (Death a) n given =
      let step : ℕ × Action = (given.0, DeathTold c) in
      (given.0, contains_from_in (in_filter (keep_stamped keep) (in_from_contains t step given.1) refl), given.2)

  given_at : (endpoint : Endpoint ReplyExecView) → IsIn s.passes.notices.items endpoint → (notice : Notice) (n : ℕ) →
      IsIn {A = Notice × ℕ} (zip endpoint.pass.given endpoint.pass.stamps) (notice, n) → IsGivenAfter f (caller_at replies endpoint.place) notice n
  given_at endpoint i notice n there =
      let c = caller_at replies endpoint.place in
      let each = all_in (λ (x : Endpoint ReplyExecView). AllZip (IsGivenAfter t (caller_at replies x.place)) x.pass.given x.pass.stamps) is.given i in
      still_given c notice n (zipped (IsGivenAfter t c) endpoint.pass.given endpoint.pass.stamps n each there)

  death_is : has_died_in (steps_in f) ≡ is_killed s.end
  death_is =
      let any : list_any is_kill_taken (steps_in t) ≡ is_any s.passes.kills.taken =
      any_kill (steps_in t) ∙ ap is_any (sym (found_alone kill_taken t) ∙ is.kills) in
      let whole : has_died_in (steps_in t) ≡ (is_any s.passes.kills.taken || has_terminated (end_log s.end)) = λ i. any i || has_terminated (log_is i) in
      ap has_died_in (kept_steps keep t) ∙ died_same cast.callers (steps_in t) ∙ whole ∙ why_killed s.passes.kills s.end fed serving.kills

  pub actor_work : IsActorWork casts replies s f
  actor_work = record {
    cast = cast;
    at = at;
    rising = AllPairs-filter (λ (one other : ℕ × Action). one.0 ≤ other.0) (keep_stamped keep) t is.timed.rising;
    allowed = allowed;
    letters_taken = λ c a listed. letters_kept c a cast.callers listed t is.letters;
    no_letters = λ c a none. letters_lost c a cast.callers none t;
    letters = letters;
    kills = kills;
    runs = ap (map (λ (x : ℕ × RunItem). x.1)) runs_same ∙ is.runs;
    given = given_at;
    dead = death_is;
    retired = ap (list_any is_retirement) (kept_steps keep t) ∙ retired_same cast.callers (steps_in t) ∙ ended;
  }

-- an actor that was served and refused no memory did such steps
pub actor_works : (casts : List ActorSpec) (replies : List RepliesView) (s : ServedView) (cast : ActorSpec) → cast_at (end_id s.end) casts ≡ Some cast →
    IsServed replies cast s → is_starved s.end ≡ false → IsActorTraced (end_id s.end) replies s.end s.passes →
    (trace : List (ℕ × Action)) × IsActorWork casts replies s trace
actor_works casts replies s cast at serving fed traced =
    let t = trace_left (end_id s.end) replies s.end s.passes fed traced in
    (filter (keep_stamped (is_of_these cast.callers)) t.0, actor_work casts replies s cast at serving fed t.0 t.1 t.2)
