-- A step in a walk, and all that may be done next.
use Rattle.act_told_ends.proofs.Common.{◌≡◌, ℕ, ◌+◌, ◌-◌, ◌<◌, ◌≤◌, Bool, true, false, cond, List, [], ◌∷◌, ◌++◌, length, take, Option, Some, None, inl, inr}
use Rattle.act_told_ends.proofs.Common.{◌⊎◌, refl, ap, sym, ◌∙◌, subst, arith, ◌==◌, ◌||◌, filter, filter_map, find, slice_get, list_any}
use Rattle.act_told_ends.proofs.Common.{filter_map-append, append-nil, eqb-true, eq-eqb, slice_get_within, Event, Submission, Step, Submit, Kill, Await, Answer}
use Rattle.act_told_ends.proofs.Common.{kept_at, ActorSpec, History, opening, under, names, contains, cast_of, count_pairs, calls_of, copies_of}
use Rattle.act_told_ends.proofs.Common.{kept_of, is_dead, refusal_of, add_event, under-push, IsPrefix, slice_get_front, front_next, Grows, added_grows}
use Rattle.act_told_ends.proofs.Common.{calls_grow, At, MayTake, after_step, is_kill_of, steps_of, take-at, take-past, past_none, take-prefix, step_runs}
use Rattle.act_told_ends.proofs.Common.{step_kills, IsPrefix-filter_map, follows, submission_in, is_copy_of, is_release_of, submitted_one, copied_one}
use Rattle.act_told_ends.proofs.Common.{released_one, counted, front_short, IsWorld, either_of, or_right, step_keeps, world_step, event_of}
use Rattle.act_told_ends.proofs.Common.{opened_none, Told, IsWalk, DidFirst, EndsAsTold, submission_of, copies, releases, MayGoOn, Calls, Asks, Steps}
use Rattle.act_told_ends.proofs.Common.{DoesWithout, Sends, Delivers, Runs, Collects, TakesKill, Tells, Hears, IsThrough, IsWalked, Begins, GoesOn, Mails}
use Rattle.act_told_ends.proofs.Common.{Brings, gone_on, one_step_more, filter_map_alike, front_whole, any_push}
use Rattle.act_rules.proofs.Growth.{after_run_grows}
use Rattle.act_rules.specs.declared.event.Event.TheVariants as event
use Rattle.act_told_ends.proofs.Bridge.{IsLate, late_play}
use Rattle.act_told_ends.proofs.Posted.{RunsPosted, CameBy, Replied, Died, came_by, posted_step, all_posted}
use Rattle.act_told_ends.proofs.Covered.{same_submission, same_copy, same_release}
use Rattle.act_told_ends.proofs.Covers.{step_collects, step_asks}
use Rattle.act_told_ends.proofs.Through.{world_of, stuck_in}
use Rattle.act_told_ends.proofs.Walked.{IsGoing, new_kept, old_reply, told_death, hear_more, still_killed, quiet_going, kill_going, run_going, reply_going}
use Rattle.act_told_ends.proofs.Walked.{death_going}
use Rattle.act_early.proofs.Stepping.{step_dead}
use Rattle.std.proofs.lemmas.List.Elements.{filter_agree}

-- ---- what a step leaves as it was

step_grows : (c : ℕ) (step : Step) (h : History) → Grows h (after_step c step h)
step_grows c (Await k) h = after_run_grows 0 0 h None
step_grows c step h = added_grows h (event_of c step)

step_retired : (c : ℕ) (step : Step) (h : History) → (after_step c step h).retired ≡ h.retired
step_retired c (Submit a method args) h = refl
step_retired c step h = refl

-- an asked kill stays asked, and the dead dead
still_asked : (c a : ℕ) (step : Step) (h : History) → (contains a h.asked ≡ true) ⊎ (is_dead a h ≡ true)
    → (contains a (after_step c step h).asked ≡ true) ⊎ (is_dead a (after_step c step h) ≡ true)
still_asked c a step h (inl asked) = inl (step_asks c a step h ∙ ap (λ y. y || is_kill_of a step) asked)
still_asked c a step h (inr dead) = inr (step_dead c a step h ∙ dead)

-- ---- what a bound caller did

-- another's step adds nothing
did_other : (c d : ℕ) {n : ℕ} (step : Step) {steps : List Step} (h : History) → (c == d) ≡ false → DidFirst d n steps h →
    DidFirst d n steps (after_step c step h)
did_other c d step h differ first =
    let no_more : (m : ℕ) → m + 0 ≡ m = λ m. omega arith in
    record {
      calls = submitted_one c d step h ∙ ap (λ y. calls_of d h ++ filter_map submission_in (cond y (step ∷ []) [])) differ
          ∙ append-nil (calls_of d h) ∙ first.calls;
      copied = λ a. copied_one c d a step h ∙ ap (λ y. count_pairs d a h.copied + length (filter (is_copy_of a) (cond y (step ∷ []) []))) differ ∙
          no_more (count_pairs d a h.copied) ∙ first.copied a;
      released = λ a lt. released_one c d a step h ∙ ap (λ y. count_pairs d a h.released + length (filter (is_release_of a) (cond y (step ∷ []) []))) differ ∙
          no_more (count_pairs d a h.released) ∙ first.released a lt;
      asked = λ a e. still_asked c a step h (first.asked a e);
    }

-- one's own adds what it says
did_own : (c n : ℕ) (step : Step) (steps : List Step) (h : History) → slice_get steps n ≡ Some step → DidFirst c n steps h
    → DidFirst c (n + 1) steps (after_step c step h)
did_own c n step steps h at first =
    let mine : (c == c) ≡ true = eq-eqb c c refl in
    let all : take (n + 1) steps ≡ take n steps ++ step ∷ [] = take-at steps n at in
    let within : n < length steps = slice_get_within steps n step at in
    let asked_by : (a : ℕ) → list_any (is_kill_of a) (take (n + 1) steps) ≡ (list_any (is_kill_of a) (take n steps) || is_kill_of a step) =
    λ a. ap (list_any (is_kill_of a)) all ∙ any_push (is_kill_of a) (take n steps) step in
    record {
      calls = submitted_one c c step h ∙ ap (λ y. calls_of c h ++ filter_map submission_in (cond y (step ∷ []) [])) mine ∙ ap (λ l. calls_of c h ++ l)
          (filter_map_alike submission_in submission_of (step ∷ []) same_submission) ∙ ap (λ l. l ++ filter_map submission_of (step ∷ [])) first.calls ∙
          sym (filter_map-append submission_of (take n steps) (step ∷ [])) ∙ ap (filter_map submission_of) (sym all);
      copied = λ a. copied_one c c a step h ∙ ap (λ y. count_pairs c a h.copied + length (filter (is_copy_of a) (cond y (step ∷ []) []))) mine ∙
          ap (λ l. count_pairs c a h.copied + length l) (filter_agree (is_copy_of a) (copies a) (same_copy a) (step ∷ [])) ∙
          counted (copies a) (take n steps) (step ∷ []) (take (n + 1) steps) (count_pairs c a h.copied) (first.copied a) all;
      released = λ a lt. released_one c c a step h ∙ ap (λ y. count_pairs c a h.released + length (filter (is_release_of a) (cond y (step ∷ []) []))) mine ∙
          ap (λ l. count_pairs c a h.released + length l) (filter_agree (is_release_of a) (releases a) (same_release a) (step ∷ [])) ∙
          counted (releases a) (take n steps) (step ∷ []) (take (n + 1) steps) (count_pairs c a h.released) (first.released a within) all;
      asked = λ a e. either_of (list_any (is_kill_of a) (take n steps)) (is_kill_of a step)
          ((contains a (after_step c step h).asked ≡ true) ⊎ (is_dead a (after_step c step h) ≡ true)) (sym (asked_by a) ∙ e)
          (λ old. still_asked c a step h (first.asked a old)) (λ new. inl (step_asks c a step h ∙ or_right (contains a h.asked) _ new));
    }

-- a kill of a dead actor that it does without adds nothing
did_without : (c n a : ℕ) (steps : List Step) (h : History) → slice_get steps n ≡ Some (Kill a) → is_dead a h ≡ true → DidFirst c n steps h
    → DidFirst c (n + 1) steps h
did_without c n a steps h at dead first =
    let all : take (n + 1) steps ≡ take n steps ++ Kill a ∷ [] = take-at steps n at in
    let no_more : (m : ℕ) → m ≡ m + 0 = λ m. omega arith in
    let asked_by : (b : ℕ) → list_any (is_kill_of b) (take (n + 1) steps) ≡ (list_any (is_kill_of b) (take n steps) || (a == b)) =
    λ b. ap (list_any (is_kill_of b)) all ∙ any_push (is_kill_of b) (take n steps) (Kill a) in
    record {
      calls = first.calls ∙ sym (append-nil (filter_map submission_of (take n steps))) ∙ sym (filter_map-append submission_of (take n steps) (Kill a ∷ []))
          ∙ ap (filter_map submission_of) (sym all);
      copied = λ b. no_more (count_pairs c b h.copied)
          ∙ counted (copies b) (take n steps) (Kill a ∷ []) (take (n + 1) steps) (count_pairs c b h.copied) (first.copied b) all;
      released = λ b lt. no_more (count_pairs c b h.released) ∙ counted (releases b) (take n steps) (Kill a ∷ []) (take (n + 1) steps)
          (count_pairs c b h.released) (first.released b (slice_get_within steps n (Kill a) at)) all;
      asked = λ b e. either_of (list_any (is_kill_of b) (take n steps)) (a == b) ((contains b h.asked ≡ true) ⊎ (is_dead b h ≡ true))
          (sym (asked_by b) ∙ e) (first.asked b) (λ same. inr (subst (λ m. is_dead m h ≡ true) (eqb-true a b same) dead));
    }

-- a bound caller is another one than one that isn't
unbound_differs : (bound : ℕ → Option (List Step)) (c d : ℕ) (steps : List Step) → bound c ≡ None → bound d ≡ Some steps → (c == d) ≡ false
unbound_differs bound c d steps free is = go (c == d) refl
  where
    go : (y : Bool) → (c == d) ≡ y → (c == d) ≡ false
    go false e = e
    go true e = let bad : None ≡ Some steps = sym free ∙ ap bound (eqb-true c d e) ∙ is in cc

-- ---- a step

-- what makes a step of the caller one of a walk, and how far it is then
record IsGood (bound : ℕ → Option (List Step)) (told : Told) (next_done : ℕ → ℕ) (c : ℕ) (step : Step) (h : History) : Type 0 where
  own : IsPrefix (calls_of c (after_step c step h)) (told.calls c)
  no_copy : bound c ≡ None → (a : ℕ) → is_copy_of a step ≡ false
  no_release : bound c ≡ None → (a : ℕ) → is_release_of a step ≡ false
  did : (d : ℕ) (steps : List Step) → bound d ≡ Some steps → DidFirst d (next_done d) steps (after_step c step h)

-- no copy or release is added to a caller that isn't bound
none_added : (bound : ℕ → Option (List Step)) (c d : ℕ) (p : Step → Bool) (step : Step) → bound d ≡ None → (bound c ≡ None → p step ≡ false)
    → length (filter p (cond (c == d) (step ∷ []) [])) ≡ 0
none_added bound c d p step free none = go (c == d) refl
  where
    go : (y : Bool) → (c == d) ≡ y → length (filter p (cond y (step ∷ []) [])) ≡ 0
    go false e = refl
    go true e = ap (λ y. length {A = Step} (cond y (step ∷ []) [])) (none (subst (λ n. bound n ≡ None) (sym (eqb-true c d e)) free))

copies_same_by : (d a : ℕ) (h g : History) → g.casts ≡ h.casts → count_pairs d a h.copied ≡ count_pairs d a g.copied
    → count_pairs d a h.released ≡ count_pairs d a g.released → copies_of d a h ≡ copies_of d a g
copies_same_by d a h g casts copied released =
    let copies_from : List ActorSpec → ℕ → ℕ → Option ℕ =
    λ l made gone. cond (names d (find (λ (cast : ActorSpec). cast.actor == a) l)) (Some ((1 + made) - gone)) None in
    ap (λ n. copies_from h.casts n (count_pairs d a h.released)) copied ∙ ap (copies_from h.casts (count_pairs d a g.copied)) released
    ∙ ap (λ l. copies_from l (count_pairs d a g.copied) (count_pairs d a g.released)) (sym casts)

step_going : {casts : List ActorSpec} {bound : ℕ → Option (List Step)} {told : Told} {done : ℕ → ℕ} (next_done : ℕ → ℕ) (h : History) (c : ℕ) (step : Step)
    → IsGoing casts bound told done h → MayTake c step h → IsGood bound told next_done c step h → IsGoing casts bound told next_done (after_step c step h)
step_going {casts} {bound} {told} {done} next_done h c step w may good =
    let grows : Grows h g = step_grows c step h in
    let v : IsWorld casts g = step_keeps (IsWorld casts) (world_step casts) c step h w.world may in
    -- who had made all calls has
    let whole : (d : ℕ) → calls_of d h ≡ told.calls d → calls_of d g ≡ told.calls d =
    λ d all. front_whole (calls_of d g) (told.calls d) (calls d)
    (subst (λ l. length l ≤ length (calls_of d g)) all (front_short (calls_of d h) (calls_of d g) (calls_grow d grows))) in
    let no_more : (m n : ℕ) → n ≡ 0 → m ≡ m + n = λ m n none. omega (arith, none) in
    let held : (d a : ℕ) → bound d ≡ None → copies_of d a h ≡ copies_of d a g =
    λ d a free. copies_same_by d a h g grows.casts
    (no_more (count_pairs d a h.copied) _ (none_added bound c d (is_copy_of a) step free (λ own. good.no_copy own a)) ∙ sym (copied_one c d a step h))
    (no_more (count_pairs d a h.released) _ (none_added bound c d (is_release_of a) step free (λ own. good.no_release own a))
    ∙ sym (released_one c d a step h)) in
    record {
      walk = record {
        calls = calls;
        runs = λ a. subst (λ l. IsPrefix (under a l) (told.runs a)) (sym (step_runs c step h)) (w.walk.runs a);
        kept = new_kept told h g w grows (λ d k answer none e. new d k none (came_by d k v.sound e));
        dead = λ a e. w.walk.dead a (ap (contains a) (sym (step_kills c step h)) ∙ e);
        last = λ a e. ap (λ l. under a l) (step_runs c step h) ∙ w.walk.last a (ap (contains a) (sym (step_kills c step h)) ∙ e);
        steps = good.did;
        holds = λ d a free gone. whole d (w.walk.holds d a free (held d a free ∙ gone));
        asks = λ d a free gone dead. step_asks c a step h ∙ ap (λ y. y || is_kill_of a step) (w.walk.asks d a free (held d a free ∙ gone) dead);
        live = step_retired c step h ∙ w.walk.live;
      };
      world = v;
      posted = step_keeps RunsPosted posted_step c step h w.posted may;
      heard = λ i d a at. hear_more d h grows w.world.sound (w.heard i d a (ap (λ l. slice_get l i) (sym (step_collects c step h)) ∙ at));
    }
  where
    g : History
    g = after_step c step h

    calls : (d : ℕ) → IsPrefix (calls_of d g) (told.calls d)
    calls d = go (c == d) refl
      where
        go : (y : Bool) → (c == d) ≡ y → IsPrefix (calls_of d g) (told.calls d)
        go true e = subst (λ n. IsPrefix (calls_of n g) (told.calls n)) (eqb-true c d e) good.own
        go false e = subst (λ l. IsPrefix l (told.calls d)) (sym (submitted_one c d step h ∙
            ap (λ y. calls_of d h ++ filter_map submission_in (cond y (step ∷ []) [])) e ∙ append-nil (calls_of d h))) (w.walk.calls d)

    new : (d k : ℕ) {answer : Answer} → kept_at (kept_of d h) k ≡ None → CameBy g d k answer → kept_at (told.kept d) k ≡ Some answer
    new d k none (Replied i a place item has at caller future reply) =
        absurd (old_reply h i d a place k item w (ap (λ l. slice_get l i) (sym (step_collects c step h)) ∙ has)
        (ap (λ l. slice_get (under a l) place) (sym (step_runs c step h)) ∙ at) caller future none)
    new d k none (Died i call has at died) =
        told_death told d k h call
        (w.heard i d call.actor (ap (λ l. slice_get l i) (sym (step_collects c step h)) ∙ has))
        (slice_get_front (calls_of d g) (told.calls d) k (calls d) at) refl none
        ∙ ap (λ x. Some x) (sym died)

-- ---- each thing

call_going : (casts : List ActorSpec) (bound : ℕ → Option (List Step)) (told : Told) (done : ℕ → ℕ) (h : History) (c : ℕ) (call : Submission) →
    IsGoing casts bound told done h → bound c ≡ None → slice_get (told.calls c) (length (calls_of c h)) ≡ Some call → refusal_of h
    (event.Submit c call.actor call.method call.args) ≡ None → IsGoing casts bound told done (add_event h (event.Submit c call.actor call.method call.args))
call_going casts bound told done h c call w free next may =
    let after : calls_of c (add_event h (event.Submit c call.actor call.method call.args)) ≡ calls_of c h ++ call ∷ [] =
    under-push c c h.submitted (record { actor = call.actor; method = call.method; args = call.args })
    ∙ ap (λ b. calls_of c h ++ cond b (call ∷ []) []) (eq-eqb c c refl) in
    step_going done h c (Submit call.actor call.method call.args) w may (record {
      own = subst (λ l. IsPrefix l (told.calls c)) (sym after) (front_next (calls_of c h) (told.calls c) (w.walk.calls c) next);
      no_copy = λ _ a. refl;
      no_release = λ _ a. refl;
      did = λ d steps is. did_other c d (Submit call.actor call.method call.args) h (unbound_differs bound c d steps free is) (w.walk.steps d steps is);
    })

ask_going : (casts : List ActorSpec) (bound : ℕ → Option (List Step)) (told : Told) (done : ℕ → ℕ) (h : History) (c a : ℕ) → IsGoing casts bound told done h →
    bound c ≡ None → refusal_of h (event.AskKill c a) ≡ None → IsGoing casts bound told done (add_event h (event.AskKill c a))
ask_going casts bound told done h c a w free may = step_going done h c (Kill a) w may (record {
  own = w.walk.calls c;
  no_copy = λ _ b. refl;
  no_release = λ _ b. refl;
  did = λ d steps is. did_other c d (Kill a) h (unbound_differs bound c d steps free is) (w.walk.steps d steps is);
})

-- what is told of a bound caller are its steps' calls
told_calls : (casts : List ActorSpec) {bound : ℕ → Option (List Step)} (told : Told) (plans : ℕ → List Step) (late : At) (c : ℕ) (steps : List Step)
    → IsLate casts bound told plans late → bound c ≡ Some steps → told.calls c ≡ filter_map submission_of steps
told_calls casts told plans late c steps l is =
    sym (l.leaves.calls c) ∙ (follows casts plans late l.play c).calls
    ∙ ap (filter_map submission_in) (take-past (plans c) (steps_of c late) (past_none (plans c) (steps_of c late) (l.done c)) ∙ l.own c steps is)
    ∙ filter_map_alike submission_in submission_of steps same_submission

-- how far each is once the caller is one further
further : (bound : ℕ → Option (List Step)) (told : Told) (done : ℕ → ℕ) (h g : History) (c : ℕ) (steps : List Step) → bound c ≡ Some steps →
    DidFirst c (done c + 1) steps g → ((d : ℕ) (other : List Step) → bound d ≡ Some other → (c == d) ≡ false → DidFirst d (done d) other g) →
    (d : ℕ) (other : List Step) → bound d ≡ Some other → DidFirst d (one_step_more c done d) other g
further bound told done h g c steps is own others d other has = go (c == d) refl
  where
    go : (y : Bool) → (c == d) ≡ y → DidFirst d (cond y (done d + 1) (done d)) other g
    go false e = others d other has e
    go true e =
        let there : bound c ≡ Some other = ap bound (eqb-true c d e) ∙ has in let both : Some steps ≡ Some other = sym is ∙ there in
        let same : steps ≡ other = cc in subst (λ n. DidFirst n (done n + 1) other g) (eqb-true c d e) (subst (λ l. DidFirst c (done c + 1) l g) same own)

take_going : (casts : List ActorSpec) (bound : ℕ → Option (List Step)) (told : Told) (plans : ℕ → List Step) (late : At) (done : ℕ → ℕ) (h : History)
    (c : ℕ) (steps : List Step) (step : Step) → IsLate casts bound told plans late → IsGoing casts bound told done h → bound c ≡ Some steps
    → slice_get steps (done c) ≡ Some step → MayTake c step h → IsGoing casts bound told (one_step_more c done) (after_step c step h)
take_going casts bound told plans late done h c steps step l w is at may =
    let g = after_step c step h in
    let own : DidFirst c (done c + 1) steps g = did_own c (done c) step steps h at (w.walk.steps c steps is) in
    let front : IsPrefix (take (done c + 1) steps) steps =
    let within = slice_get_within steps (done c) step at in
    subst (λ all. IsPrefix (take (done c + 1) steps) all) (take-past steps (length steps) (omega arith))
    (take-prefix steps (done c + 1) (length steps) (omega (arith, within))) in
    step_going (one_step_more c done) h c step w may (record {
      own = subst (λ calls. IsPrefix (calls_of c g) calls) (sym (told_calls casts told plans late c steps l is)) (subst (λ calls. IsPrefix calls
          (filter_map submission_of steps)) (sym own.calls) (IsPrefix-filter_map submission_of (take (done c + 1) steps) steps front));
      no_copy = λ free a. let bad : None ≡ Some steps = sym free ∙ is in cc;
      no_release = λ free a. let bad : None ≡ Some steps = sym free ∙ is in cc;
      did = further bound told done h g c steps is own (λ d other has differ. did_other c d step h differ (w.walk.steps d other has));
    })

without_going : {casts : List ActorSpec} (bound : ℕ → Option (List Step)) (told : Told) (done : ℕ → ℕ) (h : History) (c a : ℕ) (steps : List Step)
    → IsGoing casts bound told done h → bound c ≡ Some steps → slice_get steps (done c) ≡ Some (Kill a) → is_dead a h ≡ true
    → IsGoing casts bound told (one_step_more c done) h
without_going bound told done h c a steps w is at dead = record {
  walk = record {
    calls = w.walk.calls;
    runs = w.walk.runs;
    kept = w.walk.kept;
    dead = w.walk.dead;
    last = w.walk.last;
    steps = further bound told done h h c steps is (did_without c (done c) a steps h at dead (w.walk.steps c steps is))
        (λ d other has differ. w.walk.steps d other has);
    holds = w.walk.holds;
    asks = w.walk.asks;
    live = w.walk.live;
  };
  world = w.world;
  posted = w.posted;
  heard = w.heard;
}

going_on : (casts : List ActorSpec) (bound : ℕ → Option (List Step)) (told : Told) {plans : ℕ → List Step} {late : At} (done : ℕ → ℕ) (h : History)
    (thing : MayGoOn bound told done h) → IsLate casts bound told plans late → IsGoing casts bound told done h
    → IsGoing casts bound told (gone_on bound told done h thing).0 (gone_on bound told done h thing).1
going_on casts bound told done h (Calls c call free next may) l w = call_going casts bound told done h c call w free next may
going_on casts bound told done h (Asks c a free dead yet may) l w = ask_going casts bound told done h c a w free may
going_on casts bound told {plans} {late} done h (Steps c steps step is next may) l w =
    take_going casts bound told plans late done h c steps step l w is next may
going_on casts bound told done h (DoesWithout c a steps is next dead) l w = without_going bound told done h c a steps w is next dead
going_on casts bound told done h (Sends a item next unsent may) l w =
    quiet_going h (event.Send item.caller item.future) w refl may refl refl refl (still_killed w)
going_on casts bound told done h (Delivers a i item next yet at may) l w = quiet_going h (event.Deliver i) w refl may refl refl refl (still_killed w)
going_on casts bound told done h (Runs a item next is may) l w = run_going casts bound told done h a item.caller item w next is may
going_on casts bound told {plans} {late} done h (Collects j c a place item at there reply none) l w =
    reply_going casts bound told plans late done h j c a place item l w at there reply
going_on casts bound told done h (TakesKill a dead last may) l w = kill_going casts bound told done h a w dead last may
going_on casts bound told done h (Tells c a hears none may) l w = quiet_going h (event.Tell a c) w refl may refl refl refl (still_killed w)
going_on casts bound told done h (Hears j c a hears none at) l w = death_going casts bound told done h j c a w at hears

-- ---- from the start

begins : (casts : List ActorSpec) (bound : ℕ → Option (List Step)) (told : Told) → IsGoing casts bound told (λ c. 0) (opening casts)
begins casts bound told = record {
  walk = record {
    calls = λ c. (told.calls c, refl);
    runs = λ a. (told.runs a, refl);
    kept = λ c k answer e. cc;
    dead = λ a e. cc;
    last = λ a e. cc;
    steps = λ c steps is. record { calls = refl; copied = λ a. refl; released = λ a lt. refl; asked = λ a e. cc };
    holds = λ c a free gone. opened_none (names c (cast_of a (opening casts))) (calls_of c (opening casts) ≡ told.calls c) gone;
    asks = λ c a free gone dead. opened_none (names c (cast_of a (opening casts))) (contains a [] ≡ true) gone;
    live = refl;
  };
  world = world_of casts [];
  posted = all_posted casts [];
  heard = λ i c a e. cc;
}

pub going : (casts : List ActorSpec) (bound : ℕ → Option (List Step)) (told : Told) (plans : ℕ → List Step) (late : At) (done : ℕ → ℕ) (h : History)
    → IsLate casts bound told plans late → IsWalked casts bound told done h → IsGoing casts bound told done h
going casts bound told plans late done h l Begins = begins casts bound told
going casts bound told plans late done h l (GoesOn before g thing walked) =
    going_on casts bound told before g thing l (going casts bound told plans late before g l walked)
going casts bound told plans late done h l (Mails before g c k may walked) =
    let w = going casts bound told plans late before g l walked in quiet_going g (event.Send c k) w refl may refl refl refl (still_killed w)
going casts bound told plans late done h l (Brings before g i may walked) =
    let w = going casts bound told plans late before g l walked in quiet_going g (event.Deliver i) w refl may refl refl refl (still_killed w)

-- where some events end as is told, a walk of nothing but what may be done next, and letters, did only what is told
pub is_one : (casts : List ActorSpec) (bound : ℕ → Option (List Step)) (told : Told) (events : List Event) (done : ℕ → ℕ) (h : History)
    → EndsAsTold casts bound told events → IsWalked casts bound told done h → IsWalk bound told done h
is_one casts bound told events done h ends walked = let found = late_play ends in (going casts bound told found.0 found.1 done h found.2 walked).walk

-- where some events end as is told, a walk of nothing but what may be done next, and letters, is through or may go on
pub goes_on : (casts : List ActorSpec) (bound : ℕ → Option (List Step)) (told : Told) (events : List Event) (done : ℕ → ℕ) (h : History)
    → EndsAsTold casts bound told events → IsWalked casts bound told done h → IsThrough bound told done h ⊎ MayGoOn bound told done h
goes_on casts bound told events done h ends walked =
    let found = late_play ends in let w = going casts bound told found.0 found.1 done h found.2 walked in
    stuck_in casts bound told done found.2 w.walk w.world w.posted

-- where a walk of nothing but what may be done next, and letters, is stuck and not through, no events end as is told
pub refutes : (casts : List ActorSpec) (bound : ℕ → Option (List Step)) (told : Told) (done : ℕ → ℕ) (h : History) → IsWalked casts bound told done h
    → (IsThrough bound told done h → ⊥) → (MayGoOn bound told done h → ⊥) → (events : List Event) → EndsAsTold casts bound told events → ⊥
refutes casts bound told done h walked not_through stuck events ends = go (goes_on casts bound told events done h ends walked)
  where
    go : IsThrough bound told done h ⊎ MayGoOn bound told done h → ⊥
    go (inl through) = not_through through
    go (inr thing) = stuck thing
