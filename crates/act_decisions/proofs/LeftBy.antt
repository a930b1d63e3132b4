-- What lines tell of a history, as the data says it.
use Rattle.act_decisions.proofs.Common.{◌≡◌, ◌≢◌, ℕ, ◌≤◌, ◌==◌, ◌||◌, Bool, true, false, cond, List, [], ◌∷◌, ◌++◌, map, Option, Some, None, inl, inr, ◌⊎◌}
use Rattle.act_decisions.proofs.Common.{refl, ap, sym, ◌∙◌, subst, slice_get, is_some, Event, RunItem, Submission, Answer, Err, ActorDied, kept_at, under-push}
use Rattle.act_decisions.proofs.Common.{eqb-true, ActorSpec, History, opening, history, calls_of, runs_of, kept_of, cast_of, is_dead, is_retired, is_reply}
use Rattle.act_decisions.proofs.Common.{option_map, option_and_then, contains, names, next_item, after_run, has_terminated, run_needs, take_needs, retire_needs}
use Rattle.act_decisions.proofs.Common.{contains_push, IsKept, after_all_keeps, slice_get-map, AllZip, option_map_or, Left, ToldActor, ToldCall}
use Rattle.act_decisions.proofs.Common.{ToldCaller, ToldEnd, ToldRun, caller_in, calls_in, bound_of, actor_in, callers_of, rans_in, is_dead_in, is_retired_in}
use Rattle.act_decisions.proofs.Common.{FitsLeft, IsCallIn, IsRunIn, AllDecided, IsKeptSo, IsRanSo, IsActorSo, FitHistory, kept_told, call_told, calls_told}
use Rattle.act_decisions.proofs.Common.{ran_told, of_role, end_told, ends_told, IsLeftBy, IsSameRun, TellsLeft, IsOfNumbers, of_caller}
use Rattle.act_rules.specs.declared.event.Event.TheVariants as event
use Rattle.act_walks.specs.declared.told.Left.TheVariants as left
use Rattle.act_summaries.specs.Stems.{Call}
use Rattle.act_told_ends.proofs.Posted.{is_alive}

-- a caller that has a call is one of the data
pub own_caller : (end : ToldEnd) (c k : ℕ) (call : ToldCall) → IsCallIn end c k call → (caller : ToldCaller) × (caller_in end c ≡ Some caller)
    × (slice_get caller.calls.items k ≡ Some call)
own_caller end c k call at = go (caller_in end c) refl
  where
    go : (o : Option ToldCaller) → caller_in end c ≡ o → (caller : ToldCaller) × (caller_in end c ≡ Some caller) × (slice_get caller.calls.items k ≡ Some call)
    go None none = let empty : slice_get (calls_in end c) k ≡ None = rw none refl in let bad : None ≡ Some call = sym empty ∙ at in cc
    go (Some caller) there = (caller, there, ap (λ l. slice_get l k) (sym (of_caller end c caller there)) ∙ at)

-- ---- where no actor is, nothing ran or ended

record NoActor (a : ℕ) (h : History) : Type 0 where
  runs : runs_of a h ≡ []
  killed : contains a h.killed ≡ false
  retired : is_retired a h ≡ false

abbrev Uncast : History → Type 0
Uncast h = (a : ℕ) → cast_of a h ≡ None → NoActor a h

named_some : (c : ℕ) (o : Option ActorSpec) → names c o ≡ true → o ≢ None
named_some c o e none = let bad : false ≡ true = ap (λ o. names c o) (sym none) ∙ e in cc

some_not : (o : Option ActorSpec) → is_some o ≡ true → o ≢ None
some_not o e none = let bad : false ≡ true = ap (λ o. is_some o) (sym none) ∙ e in cc

not_pushed : (a b : ℕ) (xs : List ℕ) → contains a xs ≡ false → b ≢ a → contains a (xs ++ b ∷ []) ≡ false
not_pushed a b xs none other = contains_push a b xs ∙ ap (λ x. x || (b == a)) none ∙ differs (b == a) refl
  where
    differs : (x : Bool) → (b == a) ≡ x → (b == a) ≡ false
    differs false e = e
    differs true e = absurd (other (eqb-true b a e))

uncast_step : IsKept Uncast
uncast_step h (event.Run b c) u accepted a none = go (next_item b c h)
  where
    other : (b == a) ≡ false
    other = differs (b == a) refl
      where
        differs : (x : Bool) → (b == a) ≡ x → (b == a) ≡ false
        differs false e = e
        differs true e = absurd (named_some c (cast_of b h) (run_needs h b c accepted).1 (ap (λ n. cast_of n h) (eqb-true b a e)
            ∙ before (next_item b c h) none))
          where
            before : (o : Option RunItem) → cast_of a (after_run b c h o) ≡ None → cast_of a h ≡ None
            before None e = e
            before (Some item) e = e

    go : (o : Option RunItem) → NoActor a (after_run b c h o)
    go None = u a (was (next_item b c h) none)
      where
        was : (o : Option RunItem) → cast_of a (after_run b c h o) ≡ None → cast_of a h ≡ None
        was None e = e
        was (Some item) e = e
    go (Some item) =
        let is = u a (was (next_item b c h) none) in
        record {
          runs = under-push a b h.ran item ∙ ap (λ x. runs_of a h ++ cond x (item ∷ []) []) other ∙ ap (λ l. l ++ []) is.runs;
          killed = is.killed;
          retired = is.retired;
        }
      where
        was : (o : Option RunItem) → cast_of a (after_run b c h o) ≡ None → cast_of a h ≡ None
        was None e = e
        was (Some item) e = e
uncast_step h (event.TakeKill b) u accepted a none = record {
  runs = (u a none).runs;
  killed = not_pushed a b h.killed (u a none).killed (λ same. some_not (cast_of b h) (take_needs h b accepted).0 (ap (λ n. cast_of n h) same ∙ none));
  retired = (u a none).retired;
}
uncast_step h (event.Retire b) u accepted a none = record {
  runs = (u a none).runs;
  killed = (u a none).killed;
  retired = not_pushed a b h.retired (u a none).retired (λ same. some_not (cast_of b h) (retire_needs h b accepted).0 (ap (λ n. cast_of n h) same ∙ none));
}
uncast_step h other u accepted a none = record { runs = (u a none).runs; killed = (u a none).killed; retired = (u a none).retired }

pub uncast : (casts : List ActorSpec) (events : List Event) (a : ℕ) → cast_of a (history casts events) ≡ None
    → (runs_of a (history casts events) ≡ []) × (is_dead a (history casts events) ≡ false) × (is_retired a (history casts events) ≡ false)
uncast casts events a none =
    let is = after_all_keeps Uncast uncast_step (opening casts) events (λ a e. record { runs = refl; killed = refl; retired = refl }) a none in
    (is.runs, (λ i. is.killed i || has_terminated (is.runs i)), is.retired)

-- ---- one call, one run

reply_is : (o : Option Answer) → is_some o ≡ true → o ≢ Some (Err ActorDied) → is_reply o ≡ true
reply_is None some alive = cc
reply_is (Some answer) some alive = is_alive answer (λ died. alive (ap (λ a. Some a) died))

-- so much is kept
left_is : (l : Left) (o : Option Answer) → IsKeptSo (kept_told l false) o → FitsLeft l o
left_is left.Open o kept = kept
left_is left.Reply o kept = reply_is o kept.0 kept.1
left_is left.Death o kept = (ap (λ o. is_some o) kept, ap is_reply kept)

some_left : (l : Left) (o : Option Answer) → l ≢ left.Open → IsKeptSo (kept_told l true) o → is_some o ≡ true
some_left left.Open o closed kept = absurd (closed refl)
some_left l o closed kept = kept

tells_left : (call : ToldCall) (o : Option Answer) → (call.is_open ≡ true → call.left ≢ left.Open) → IsKeptSo (kept_told call.left call.is_open) o
    → TellsLeft call o
tells_left call o closed kept = (
  λ e. left_is call.left o (subst (λ b. IsKeptSo (kept_told call.left b) o) e kept),
  λ e. some_left call.left o (closed e) (subst (λ b. IsKeptSo (kept_told call.left b) o) e kept),
)

-- the items are the calls that are told
same_runs : (runs : List ToldRun) (items : List RunItem) → AllZip IsRanSo (map ran_told runs) items → AllZip IsSameRun runs items
same_runs [] [] all = tt
same_runs [] (item ∷ items) all = absurd all
same_runs (run ∷ runs) [] all = absurd all
same_runs (run ∷ runs) (item ∷ items) all = (
  record { caller = all.0.caller; future = all.0.future; method = all.0.words.0; args = all.0.words.1 },
  same_runs runs items all.1,
)

-- ---- all of it

map_calls : (xs : List ToldCall) → map (λ (call : ToldCall). call.actor) xs ≡ map (λ (call : Call). call.actor) (map call_told xs)
map_calls [] = refl
map_calls (x ∷ xs) = ap (λ l. x.actor ∷ l) (map_calls xs)

-- an actor as the data tells of it: nothing, or how it ended and what it ran
pub record ActorTold (end : ToldEnd) (a : ℕ) (h : History) : Type 0 where
  pub runs : AllZip IsSameRun (rans_in end a) (runs_of a h)
  pub dead : is_dead_in end a ≡ is_dead a h
  pub retired : is_retired_in end a ≡ is_retired a h
  pub cast : (p : ℕ) (run : ToldRun) → IsRunIn end a p run → is_some (cast_of a h) ≡ true

module _ (end : ToldEnd) (casts : List ActorSpec) (events : List Event) (within : IsOfNumbers end) where
  abbrev here : History
  here = history casts events

  -- of an actor that isn't there nothing is told
  nothing_told : (a : ℕ) → callers_of end a ≡ [] → cast_of a here ≡ None → ActorTold end a here
  nothing_told a none uncasted =
      let is = uncast casts events a uncasted in
      record {
        runs = subst (λ l. AllZip IsSameRun l (runs_of a here)) (sym (within.runs a none)) (subst (AllZip IsSameRun []) (sym is.0) tt);
        dead = within.dead a none ∙ sym is.1;
        retired = within.retired a none ∙ sym is.2;
        cast = λ p run at. let empty : slice_get (rans_in end a) p ≡ None = ap (λ l. slice_get l p) (within.runs a none) in
            let bad : None ≡ Some run = sym empty ∙ at in cc;
      }

  told_of_actor : (a : ℕ) (actor : ToldActor) → actor_in end a ≡ Some actor → IsActorSo a here (end_told actor) → ActorTold end a here
  told_of_actor a actor there so = go actor.callers.items refl so
    where
      none_here : actor.callers.items ≡ [] → callers_of end a ≡ []
      none_here e = ap (λ o. option_map_or (λ (x : ToldActor). x.callers.items) o []) there ∙ e

      go : (callers : List ℕ) → actor.callers.items ≡ callers → IsActorSo a here
          (of_role callers (record { dead = actor.is_dead; retired = actor.is_retired; runs = map ran_told actor.runs.items })) → ActorTold end a here
      go [] none is = nothing_told a (none_here none) is
      go (c ∷ callers) some is =
          let own : rans_in end a ≡ actor.runs.items = ap (λ o. option_map_or (λ (x : ToldActor). x.runs.items) o []) there in
          record {
            runs = subst (λ l. AllZip IsSameRun l (runs_of a here)) (sym own) (same_runs actor.runs.items (runs_of a here) is.runs);
            dead = ap (λ o. option_map_or (λ (x : ToldActor). x.is_dead) o false) there ∙ sym is.dead;
            retired = ap (λ o. option_map_or (λ (x : ToldActor). x.is_retired) o false) there ∙ sym is.retired;
            cast = λ p run at. is.cast;
          }

  pub actor_told : (a : ℕ) → (callers_of end a ≡ [] → cast_of a here ≡ None) → ((1 ≤ a) → (a ≤ 8) → IsActorSo a here (ends_told end a)) → ActorTold end a here
  actor_told a none so = go (within.actors a)
    where
      go : (1 ≤ a) × (a ≤ 8) ⊎ (callers_of end a ≡ []) → ActorTold end a here
      go (inr empty) = nothing_told a empty (none empty)
      go (inl (some, few)) = by (actor_in end a) refl
        where
          by : (o : Option ToldActor) → actor_in end a ≡ o → ActorTold end a here
          by None e = let empty : callers_of end a ≡ [] = ap (λ o. option_map_or (λ (x : ToldActor). x.callers.items) o []) e in
              nothing_told a empty (none empty)
          by (Some actor) e = told_of_actor a actor e (subst (λ o. IsActorSo a here (option_and_then end_told o)) e (so some few))

  pub calls_left : ((c : ℕ) → (1 ≤ c) × (c ≤ 16) ⊎ (calls_of c here ≡ [])) → FitHistory (calls_told end) (ends_told end) here
      → (c : ℕ) → map (λ (call : ToldCall). call.actor) (calls_in end c) ≡ map (λ (call : Submission). call.actor) (calls_of c here)
  calls_left numbered so c = go (within.callers c)
    where
      go : (1 ≤ c) × (c ≤ 16) ⊎ (calls_in end c ≡ []) × (bound_of end c ≡ None)
          → map (λ (call : ToldCall). call.actor) (calls_in end c) ≡ map (λ (call : Submission). call.actor) (calls_of c here)
      go (inl (some, few)) = map_calls (calls_in end c) ∙ sym (so.called c some few)
      go (inr (empty, free)) = by (numbered c)
        where
          by : (1 ≤ c) × (c ≤ 16) ⊎ (calls_of c here ≡ []) → map (λ (call : ToldCall). call.actor) (calls_in end c) ≡ map (λ (call : Submission). call.actor)
              (calls_of c here)
          by (inl (some, few)) = map_calls (calls_in end c) ∙ sym (so.called c some few)
          by (inr silent) = ap (map (λ (call : ToldCall). call.actor)) empty ∙ ap (map (λ (call : Submission). call.actor)) (sym silent)

  pub left_by : AllDecided casts end → ((a : ℕ) → callers_of end a ≡ [] → cast_of a here ≡ None) → ((c : ℕ) → (1 ≤ c) × (c ≤ 16) ⊎ (calls_of c here ≡ []))
      → FitHistory (calls_told end) (ends_told end) here → IsLeftBy end here
  left_by decided none numbered so = record {
    calls = calls_left numbered so;
    left = left;
    runs = λ a. (actor a).runs;
    cast = λ a. (actor a).cast;
    dead = λ a. (actor a).dead;
    retired = λ a. (actor a).retired;
  }
    where
      actor : (a : ℕ) → ActorTold end a here
      actor a = actor_told a (none a) (so.ended a)

      left : (c k : ℕ) (call : ToldCall) → IsCallIn end c k call → TellsLeft call (kept_at (kept_of c here) k)
      left c k call at = go (within.callers c)
        where
          own : (caller : ToldCaller) × (caller_in end c ≡ Some caller) × (slice_get caller.calls.items k ≡ Some call)
          own = own_caller end c k call at

          go : (1 ≤ c) × (c ≤ 16) ⊎ (calls_in end c ≡ []) × (bound_of end c ≡ None) → TellsLeft call (kept_at (kept_of c here) k)
          go (inr (empty, free)) = let past : slice_get (calls_in end c) k ≡ None = ap (λ l. slice_get l k) empty in
              let bad : None ≡ Some call = sym past ∙ at in cc
          go (inl (some, few)) = tells_left call (kept_at (kept_of c here) k) (decided c k own.0 call own.1 own.2).1.left
              (so.kept c k (call_told call) some few (slice_get-map call_told (calls_in end c) k ∙ ap (option_map call_told) at))
