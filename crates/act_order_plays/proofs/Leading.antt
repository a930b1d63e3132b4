-- What leads to what in a play: what happened before each call, each run and each answer.
use Rattle.act_order_plays.proofs.Common.{◌≡◌, ◌≢◌, ℕ, ◌+◌, ◌<◌, true, false, List, length, nat_lt, Some, None, Ok, Err, slice_get, refl, sym, ap, subst, ◌∙◌}
use Rattle.act_order_plays.proofs.Common.{arith, Option, is_some, list_any, Contains, ltb-true, lt-ltb, slice_get_within, Arg, ActorDied, Event, Answer}
use Rattle.act_order_plays.proofs.Common.{History, calls_of, runs_of, is_dead, is_retired, after, IsSound, kept_from, answers_are, deaths_are, Happening}
use Rattle.act_order_plays.proofs.Common.{Submitted, Ran, Answered, Outcome, Run, Told, call_of, calls_run, Happened, IsLastRun, RunsBefore, IsCause, IsWhole}
use Rattle.act_order_plays.proofs.Common.{kept_for, IsKeptFor, LeavesTold, future_of, or_left, any_in, any_is}
use Rattle.act_orders.specs.declared.told.Outcome.TheVariants as out
use Rattle.act_order_plays.proofs.Fronts.{rank, run_ranks, run_at}
use Rattle.act_order_plays.proofs.Left.{IsOf, ran_by, run_happened, stands, call_there, item_at, run_told, item_here}
use Rattle.act_order_plays.proofs.Turns.{here, future_less}
use Rattle.act_order_plays.proofs.Along.{Within, kept_along}
use Rattle.act_order_plays.proofs.Happenings.{is_item, has_call, has_run, has_answer, has_in, IsCaused}
use Rattle.act_order_plays.proofs.Moments.{one_call_more, is_of_item, item_is, RanCall, ran_call, run_submitted, run_takes, run_follows}
use Rattle.act_order_plays.proofs.Orders.{not_both}

module _ (told : Told) (last : History) (whole : IsWhole told) (sound : IsSound last) (leaves : LeavesTold told last) where
  -- ---- answers

  -- an answer comes after the call
  answered_submitted : (g : History) (n : ℕ) → Within g last → has_answer told g n ≡ true → has_call told g n ≡ true
  answered_submitted g n way has = go (kept_for told n g) refl has
    where
      go : (o : Option Answer) → kept_for told n g ≡ o → is_some o ≡ true → has_call told g n ≡ true
      go None e is = absurd (cc)
      go (Some answer) e is =
          let c = (call_of told n).caller in let kept = kept_from g c (future_of told n) way.sound.posts e in
          lt-ltb (future_of told n) (length (calls_of c g)) (slice_get_within (calls_of c g) (future_of told n) kept.call kept.at)

  -- an answer that is no death comes after the run
  alive_ran : (g : History) (n : ℕ) {answer : Answer} → Within g last → n < length told.calls → kept_for told n g ≡ Some answer → answer ≢ Err ActorDied →
      has_run told g n ≡ true
  alive_ran g n {answer} way lt e alive =
      let run = answers_are (call_of told n).caller (future_of told n) way.sound e alive in
      let is : IsOf told n run.item = record { caller = run.caller; future = run.future } in
      let actor = item_here told last whole sound leaves g run.actor run.place n way.grows way.sound lt run.at is in
      subst (λ b. list_any (is_item (call_of told n).caller (future_of told n)) (runs_of b g) ≡ true) (sym actor)
      (any_in (is_item (call_of told n).caller (future_of told n)) {xs = runs_of run.actor g} (record { place = run.place; at = run.at }) (item_is n is))

  -- each run that is told is in the run list of its actor
  run_left : (i a m : ℕ) → slice_get told.runs i ≡ Some (record { actor = a; call = m }) →
      list_any (is_item (call_of told m).caller (future_of told m)) (runs_of a last) ≡ true
  run_left i a m at =
      let run : Run = record { actor = a; call = m } in
      let item = item_at told last whole sound leaves a (rank told a i) m (run_ranks told i at) in
      any_in (is_item (call_of told m).caller (future_of told m)) (record { place = rank told a i; at = item.1 }) (item_is m item.2)

  -- a death comes after all that the actor ran
  died_ran : (g : History) (n m : ℕ) → Within g last → n < length told.calls → kept_for told n g ≡ Some (Err ActorDied) →
      IsLastRun told (call_of told n).actor m → has_run told g m ≡ true
  died_ran g n m way lt e run =
      let a = (call_of told n).actor in
      let death = deaths_are (call_of told n).caller (future_of told n) way.sound e in
      let key = call_there told last whole sound leaves n way.grows lt death.at in
      let dead : is_dead a g ≡ true = subst (λ b. is_dead b g ≡ true) (ap (λ (q : ℕ × List Arg). q.0) key) death.dead in
      let same = way.ended a (or_left (is_dead a g) (is_retired a g) dead) in
      let actor = here told last whole sound leaves run.place (record { actor = a; call = m }) run.at in
      subst (λ b. list_any (is_item (call_of told m).caller (future_of told m)) (runs_of b g) ≡ true) (sym actor)
      (subst (λ items. list_any (is_item (call_of told m).caller (future_of told m)) items ≡ true) same (run_left run.place a m run.at))

  -- what is kept at the end is what was kept
  kept_last : (g : History) (n : ℕ) {answer end : Answer} → Within g last → kept_for told n g ≡ Some answer → kept_for told n last ≡ Some end → answer ≡ end
  kept_last g n {answer} {end} way e is =
      let both : Some answer ≡ Some end = sym (kept_along g last (call_of told n).caller (future_of told n) way e) ∙ is in cc

  answered_ran : (g : History) (n m : ℕ) → Within g last → n < length told.calls → (call_of told n).outcome ≢ out.Open → has_answer told g n ≡ true →
      RunsBefore told (call_of told n).outcome m n → has_run told g m ≡ true
  answered_ran g n m way lt differs has before = go (kept_for told n g) refl has (call_of told n).outcome differs (leaves.answers n lt) before
    where
      some : (answer : Answer) → kept_for told n g ≡ Some answer → (o : Outcome) → o ≢ out.Open → IsKeptFor o (kept_for told n last) →
          RunsBefore told o m n → has_run told g m ≡ true
      some answer e out.Answered differs kept before =
          let same = kept_last g n way e kept in
          subst (λ k. has_run told g k ≡ true) (sym before)
          (alive_ran g n way lt e (λ died. let bad : Ok _ ≡ Err ActorDied = sym same ∙ died in cc))
      some answer e out.Failed differs kept before =
          let same = kept_last g n way e kept.1 in
          subst (λ k. has_run told g k ≡ true) (sym before)
          (alive_ran g n way lt e (λ died. let both : Err kept.0 ≡ Err ActorDied = sym same ∙ died in kept.2 (cc)))
      some answer e out.Died differs kept before = let same = kept_last g n way e kept in died_ran g n m way lt (e ∙ ap (λ x. Some x) same) before
      some answer e out.Open differs kept before = absurd (differs refl)

      go : (o : Option Answer) → kept_for told n g ≡ o → is_some o ≡ true → (outcome : Outcome) → outcome ≢ out.Open →
          IsKeptFor outcome (kept_for told n last) → RunsBefore told outcome m n → has_run told g m ≡ true
      go None e is outcome differs kept before = absurd (cc)
      go (Some answer) e is outcome differs kept before = some answer e outcome differs kept before

  -- ---- the end

  end_call : (n : ℕ) → n < length told.calls → has_call told last n ≡ true
  end_call n lt =
      let one = stands told last whole sound leaves n lt in
      lt-ltb (future_of told n) (length (calls_of (call_of told n).caller last))
      (slice_get_within (calls_of (call_of told n).caller last) (future_of told n) one.0 one.1)

  end_run : (n : ℕ) → Contains (calls_run told) n → has_run told last n ≡ true
  end_run n ran =
      let run = run_at told n ran in
      let at : slice_get told.runs run.0 ≡ Some (record { actor = run.1.actor; call = run.1.call }) = run.2.at in
      let actor = here told last whole sound leaves run.0 run.1 run.2.at in
      subst (λ k. has_run told last k ≡ true) run.2.call
      (subst (λ b. list_any (is_item (call_of told run.1.call).caller (future_of told run.1.call)) (runs_of b last) ≡ true) (sym actor)
      (run_left run.0 run.1.actor run.1.call at))

  end_answer : (n : ℕ) → n < length told.calls → (call_of told n).outcome ≢ out.Open → has_answer told last n ≡ true
  end_answer n lt differs = go (call_of told n).outcome differs (leaves.answers n lt)
    where
      go : (o : Outcome) → o ≢ out.Open → IsKeptFor o (kept_for told n last) → has_answer told last n ≡ true
      go out.Failed differs kept = ap (λ o. is_some o) kept.1
      go out.Open differs kept = absurd (differs refl)
      go outcome differs kept = ap (λ o. is_some o) kept

  pub at_the_end : (x : Happening) → Happened told x → has_in told (last, last) x ≡ true
  at_the_end (Submitted n) lt = end_call n lt
  at_the_end (Ran n) ran = end_run n ran
  at_the_end (Answered n) answered = end_answer n answered.0 answered.1

  -- a call that an actor ran is told to have run
  told_ran : (n : ℕ) → n < length told.calls → has_run told last n ≡ true → Contains (calls_run told) n
  told_ran n lt has =
      let a = (call_of told n).actor in
      let found = any_is (is_item (call_of told n).caller (future_of told n)) (runs_of a last) has in
      let at = run_told told last whole sound leaves a found.1.inside.place n found.0 lt found.1.inside.at (is_of_item told n found.0 found.1.passes) in
      let run = ran_by told a found.1.inside.place n at in run_happened told n run.0 run.3

  -- what ran before an answer is told
  pub ran_before : (n m : ℕ) → Within last last → n < length told.calls → (call_of told n).outcome ≢ out.Open → RunsBefore told (call_of told n).outcome m n →
      Contains (calls_run told) m
  ran_before n m way lt differs before = go (call_of told n).outcome before (answered_ran last n m way lt differs (end_answer n lt differs) before)
    where
      alive : m ≡ n → has_run told last m ≡ true → Contains (calls_run told) m
      alive same has = told_ran m (subst (λ k. k < length told.calls) (sym same) lt) has

      go : (o : Outcome) → RunsBefore told o m n → has_run told last m ≡ true → Contains (calls_run told) m
      go out.Died before has = run_happened told m before.place (record { at = before.at; call = refl })
      go o before has = alive before has

  -- ---- at each event

  -- a call comes after its caller's call before
  call_follows : (h : History) (event : Event) (m n : ℕ) → m + 1 ≡ n → (call_of told m).caller ≡ (call_of told n).caller → has_call told h n ≡ false →
      has_call told (after h event) n ≡ true → has_call told h m ≡ true
  call_follows h event m n next same f t =
      let c = (call_of told n).caller in let less = future_less told m n (omega arith) same in
      let long = ltb-true (future_of told n) (length (calls_of c (after h event))) t in
      let one = one_call_more h event c in
      subst (λ d. nat_lt (future_of told m) (length (calls_of d h)) ≡ true) (sym same)
      (lt-ltb (future_of told m) (length (calls_of c h)) (omega arith))

  pub submitted_caused : (h : History) (event : Event) (m n : ℕ) → IsCause told (Submitted m) (Submitted n) →
      IsCaused told (Submitted m) (Submitted n) h (after h event)
  submitted_caused h event m n cause = record { acts = λ f t. call_follows h event m n cause.0 cause.1 f t; answers = λ f t. not_both f t }

  pub ran_caused : (h : History) (event : Event) (y : Happening) (n : ℕ) → Within h last → Within (after h event) last → n < length told.calls →
      ((m : ℕ) → Contains (call_of told n).takes m → (call_of told m).caller ≡ (call_of told n).caller) → IsCause told y (Ran n) →
      IsCaused told y (Ran n) h (after h event)
  ran_caused h event y n way then lt mine cause = record { acts = λ f t. go y cause (ran_call told n h event f t); answers = λ f t. not_both f t }
    where
      go : (y : Happening) → IsCause told y (Ran n) → RanCall told n h (after h event) → has_in told (h, h) y ≡ true
      go (Submitted m) cause ran =
          subst (λ k. has_call told h k ≡ true) (sym cause) (run_submitted told last whole sound leaves h (after h event) way then n lt ran)
      go (Ran m) cause ran = run_follows told last whole sound leaves h (after h event) way then n lt ran m cause
      go (Answered m) cause ran = run_takes told last whole sound leaves h (after h event) way then n lt ran m cause (mine m cause)

  pub answered_caused : (h g : History) (y : Happening) (n : ℕ) → Within g last → n < length told.calls → (call_of told n).outcome ≢ out.Open →
      IsCause told y (Answered n) → IsCaused told y (Answered n) h g
  answered_caused h g y n then lt differs cause = record { acts = λ f t. not_both f t; answers = λ f t. go y cause t }
    where
      go : (y : Happening) → IsCause told y (Answered n) → has_answer told g n ≡ true → has_in told (g, h) y ≡ true
      go (Submitted m) cause has = subst (λ k. has_call told g k ≡ true) (sym cause) (answered_submitted g n then has)
      go (Ran m) cause has = answered_ran g n m then lt differs has cause
      go (Answered m) cause has = absurd cause
