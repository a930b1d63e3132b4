-- What a world shows grows by what is told.
use Rattle.act_world.proofs.Common.{◌≡◌, ℕ, zero, suc, ◌+◌, arith, Bool, true, false, cond, List, [], ◌∷◌, ◌++◌, length, take, drop, Some, None, refl, ap, sym}
use Rattle.act_world.proofs.Common.{◌∙◌, subst, append_assoc, zip, Option, ◌==◌, flat_map, Ok, Err, slice_get, find, drop-append_seam, drop-length, eqb-true}
use Rattle.act_world.proofs.Common.{map-append, Event, Submit, Run, Did, Future, WorldRefusal, RunItem, Submission, IsPrefix, ActorSpec, History, opening}
use Rattle.act_world.proofs.Common.{calls_of, runs_of, next_item, history, Outcome, refusal_of, add_event, after_run, did_run, outcome_by, outcome_of, outcomes}
use Rattle.act_world.proofs.Common.{after_by, after, after_all, enumerate_from-append, whole_front, front_trans, added_grows, runs_grow, under-push}
use Rattle.act_world.proofs.Common.{next_item_is, after_keeps, after_all-append, is_owner, WorldView, world_calls, world_log, IsReachedBy, FollowsRules}
use Rattle.act_world.proofs.Common.{HasPlayed, calls_told, runs_told, new_calls, new_runs, all_new, ShowsWhatIsTold, ShowsNothing, append-nil}
use Rattle.act_world.proofs.Lawful.{world_lawful}
use Rattle.act_world.proofs.Headline.{calls_are, logs_are}
use Rattle.act_world.proofs.Playing.{stands_next}

-- ---- one call more, and one run more

calls_push : (c : ℕ) (calls : List Submission) (call : Submission) →
    calls_told c (calls ++ call ∷ []) ≡ calls_told c calls ++ (Future c (length calls), call) ∷ []
calls_push c calls call = let place : 0 + length calls ≡ length calls = omega arith in rw (enumerate_from-append 0 calls (call ∷ []), map-append, place) refl

runs_push : (items : List RunItem) (item : RunItem) → runs_told (items ++ item ∷ []) ≡ runs_told items ++ (length items, item.caller) ∷ []
runs_push items item = let place : 0 + length items ≡ length items = omega arith in rw (enumerate_from-append 0 items (item ∷ []), map-append, place) refl

-- ---- one event

-- what is refused adds nothing
refused_calls : (c : ℕ) (event : Event) (refusal : WorldRefusal) → new_calls c event (Err refusal) ≡ []
refused_calls c (Submit d a method args) refusal = refl
refused_calls c event refusal = refl

refused_runs : (a : ℕ) (event : Event) (refusal : WorldRefusal) → new_runs a event (Err refusal) ≡ []
refused_runs a (Run b c) refusal = refl
refused_runs a event refusal = refl

added_calls : (c : ℕ) (h : History) (event : Event) →
    calls_told c (calls_of c (add_event h event)) ≡ calls_told c (calls_of c h) ++ new_calls c event (outcome_by h event None)
added_calls c h (Submit d a method args) =
    let call : Submission = record { actor = a; method = method; args = args } in ap (calls_told c) (under-push c d h.submitted call) ∙ go (d == c) refl
  where
    go : (mine : Bool) → (d == c) ≡ mine → calls_told c (calls_of c h ++ cond mine (record { actor = a; method = method; args = args } ∷ []) []) ≡ calls_told c
        (calls_of c h) ++ cond mine ((Future d (length (calls_of d h)), record { actor = a; method = method; args = args }) ∷ []) []
    go true is =
        let call : Submission = record { actor = a; method = method; args = args } in
        calls_push c (calls_of c h) call
        ∙ ap (λ e. calls_told c (calls_of c h) ++ (Future e (length (calls_of e h)), call) ∷ []) (sym (eqb-true d c is))
    go false is = ap (calls_told c) (append-nil (calls_of c h)) ∙ sym (append-nil (calls_told c (calls_of c h)))
added_calls c h (Run b d) = go (next_item b d h)
  where
    go : (o : Option RunItem) → calls_told c (calls_of c (after_run b d h o)) ≡ calls_told c (calls_of c h) ++ []
    go None = sym (append-nil (calls_told c (calls_of c h)))
    go (Some item) = sym (append-nil (calls_told c (calls_of c h)))
added_calls c h event = sym (append-nil (calls_told c (calls_of c h)))

added_runs : (a : ℕ) (h : History) (event : Event) →
    runs_told (runs_of a (add_event h event)) ≡ runs_told (runs_of a h) ++ new_runs a event (outcome_by h event None)
added_runs a h (Run b c) = go (next_item b c h) refl
  where
    more : (item : RunItem) (mine : Bool) → (b == a) ≡ mine → item.caller ≡ c →
        runs_told (runs_of a h ++ cond mine (item ∷ []) []) ≡ runs_told (runs_of a h) ++ cond mine ((length (runs_of b h), c) ∷ []) []
    more item true is caller =
        runs_push (runs_of a h) item
        ∙ ap (λ d. runs_told (runs_of a h) ++ (length (runs_of a h), d) ∷ []) caller
        ∙ ap (λ x. runs_told (runs_of a h) ++ (length (runs_of x h), c) ∷ []) (sym (eqb-true b a is))
    more item false is caller = ap runs_told (append-nil (runs_of a h)) ∙ sym (append-nil (runs_told (runs_of a h)))

    go : (o : Option RunItem) → next_item b c h ≡ o →
        runs_told (runs_of a (after_run b c h o)) ≡ runs_told (runs_of a h) ++ new_runs a (Run b c) (Ok (did_run b h o))
    go None next = sym (append-nil (runs_told (runs_of a h)))
    go (Some item) next =
        let caller : item.caller ≡ c = sym (ap (λ (i : RunItem). i.caller) (next_item_is b c h next).is) in
        ap runs_told (under-push a b h.ran item) ∙ more item (b == a) refl caller
added_runs a h event = sym (append-nil (runs_told (runs_of a h)))

next_calls : (c : ℕ) (h : History) (event : Event) (r : Option WorldRefusal) →
    calls_told c (calls_of c (after_by h event r)) ≡ calls_told c (calls_of c h) ++ new_calls c event (outcome_by h event r)
next_calls c h event None = added_calls c h event
next_calls c h event (Some refusal) = rw (refused_calls c event refusal) (sym (append-nil (calls_told c (calls_of c h))))

next_runs : (a : ℕ) (h : History) (event : Event) (r : Option WorldRefusal) →
    runs_told (runs_of a (after_by h event r)) ≡ runs_told (runs_of a h) ++ new_runs a event (outcome_by h event r)
next_runs a h event None = added_runs a h event
next_runs a h event (Some refusal) = rw (refused_runs a event refusal) (sym (append-nil (runs_told (runs_of a h))))

-- ---- all events

all_calls : (c : ℕ) (h : History) (events : List Event) →
    calls_told c (calls_of c (after_all h events)) ≡ calls_told c (calls_of c h) ++ all_new (new_calls c) events (outcomes h events)
all_calls c h [] = sym (append-nil (calls_told c (calls_of c h)))
all_calls c h (event ∷ events) =
    let new : List (Did × Submission) = new_calls c event (outcome_of h event) in
    let rest : List (Did × Submission) = all_new (new_calls c) events (outcomes (after h event) events) in
    all_calls c (after h event) events
    ∙ ap (λ l. l ++ rest) (next_calls c h event (refusal_of h event))
    ∙ append_assoc (calls_told c (calls_of c h)) new rest

all_runs : (a : ℕ) (h : History) (events : List Event) →
    runs_told (runs_of a (after_all h events)) ≡ runs_told (runs_of a h) ++ all_new (new_runs a) events (outcomes h events)
all_runs a h [] = sym (append-nil (runs_told (runs_of a h)))
all_runs a h (event ∷ events) =
    let new : List (ℕ × ℕ) = new_runs a event (outcome_of h event) in
    let rest : List (ℕ × ℕ) = all_new (new_runs a) events (outcomes (after h event) events) in
    all_runs a (after h event) events
    ∙ ap (λ l. l ++ rest) (next_runs a h event (refusal_of h event))
    ∙ append_assoc (runs_told (runs_of a h)) new rest

all_stay : (a : ℕ) (h : History) (events : List Event) → IsPrefix (runs_of a h) (runs_of a (after_all h events))
all_stay a h [] = whole_front (runs_of a h)
all_stay a h (event ∷ events) = front_trans (runs_of a h) (runs_of a (after h event)) (runs_of a (after_all (after h event) events)) (after_keeps (λ g. IsPrefix
    (runs_of a h) (runs_of a g)) h event (whole_front (runs_of a h)) (λ accepted. runs_grow a (added_grows h event))) (all_stay a (after h event) events)

-- ---- the world

-- the world shows the calls and the run lists of its history
shown_calls : (casts : List ActorSpec) (events : List Event) (world : WorldView) → IsReachedBy casts events world → (c : ℕ) →
    calls_of c (history casts events) ≡ world_calls world c
shown_calls casts events world refines c =
    calls_are (history casts events) c (find (is_owner c) world.network.owners) (world_lawful casts events) (refines.owners c)

shown_log : (casts : List ActorSpec) (events : List Event) (world : WorldView) → IsReachedBy casts events world → (a : ℕ) →
    runs_of a (history casts events) ≡ world_log world a
shown_log casts events world refines a = logs_are a (slice_get world.slots a) (world_lawful casts events) (refines.actors a)

pub shows : (casts : List ActorSpec) (before events : List Event) (told : List Outcome) (old new : WorldView) → IsReachedBy casts before old →
    IsReachedBy casts (before ++ events) new → told ≡ outcomes (history casts before) events → ShowsWhatIsTold events told old new
shows casts before events told old new reached after_it is =
    let h = history casts before in let g = history casts (before ++ events) in
    let joined : g ≡ after_all h events = after_all-append (opening casts) before events in
    record {
      submitted = λ c. ap (calls_told c) (sym (shown_calls casts (before ++ events) new after_it c) ∙ ap (calls_of c) joined) ∙ all_calls c h events ∙
          ap (λ l. calls_told c l ++ all_new (new_calls c) events (outcomes h events)) (shown_calls casts before old reached c) ∙
          ap (λ l. calls_told c (world_calls old c) ++ all_new (new_calls c) events l) (sym is);
      ran = λ a. ap runs_told (sym (shown_log casts (before ++ events) new after_it a) ∙ ap (runs_of a) joined) ∙ all_runs a h events ∙
          ap (λ l. runs_told l ++ all_new (new_runs a) events (outcomes h events)) (shown_log casts before old reached a) ∙
          ap (λ l. runs_told (world_log old a) ++ all_new (new_runs a) events l) (sym is);
      stays = λ a. subst (λ l. IsPrefix l (world_log new a)) (shown_log casts before old reached a)
          (subst (IsPrefix (runs_of a h)) (sym (ap (runs_of a) joined) ∙ shown_log casts (before ++ events) new after_it a) (all_stay a h events));
    }

-- one event, of which its outcome is told
pub one_shows : (event : Event) (old new : WorldView) (told : Outcome) → FollowsRules event old new told → (casts : List ActorSpec) (before : List Event) →
    IsReachedBy casts before old → ShowsWhatIsTold (event ∷ []) (told ∷ []) old new
one_shows event old new told follows casts before reached =
    let next = follows casts before reached in
    shows casts before (event ∷ []) (told ∷ []) old new reached (stands_next casts before event next.1) (ap (λ o. o ∷ []) next.0)

-- nothing is told, and nothing changed
pub nothing_shows : (events : List Event) (old new : WorldView) → new ≡ old → ShowsWhatIsTold events [] old new
nothing_shows events old new same = record {
  submitted = λ c. ap (λ w. calls_told c (world_calls w c)) same ∙ unchanged (new_calls c) events (calls_told c (world_calls old c));
  ran = λ a. ap (λ w. runs_told (world_log w a)) same ∙ unchanged (new_runs a) events (runs_told (world_log old a));
  stays = λ a. subst (λ w. IsPrefix (world_log old a) (world_log w a)) (sym same) (whole_front (world_log old a));
}
  where
    unchanged : {A : Type 0} (new : Event → Outcome → List A) (events : List Event) (xs : List A) → xs ≡ xs ++ all_new new events []
    unchanged new [] xs = sym (append-nil xs)
    unchanged new (event ∷ events) xs = sym (append-nil xs)

-- a refusal is told, and nothing changed
pub refused_shows : (event : Event) (refusal : WorldRefusal) (old new : WorldView) → new ≡ old → ShowsWhatIsTold (event ∷ []) (Err refusal ∷ []) old new
refused_shows event refusal old new same = record {
  submitted = λ c. (nothing_shows (event ∷ []) old new same).submitted c ∙
      ap (λ l. calls_told c (world_calls old c) ++ (l ++ [])) (sym (refused_calls c event refusal));
  ran = λ a. (nothing_shows (event ∷ []) old new same).ran a ∙ ap (λ l. runs_told (world_log old a) ++ (l ++ [])) (sym (refused_runs a event refusal));
  stays = (nothing_shows (event ∷ []) old new same).stays;
}

-- of the first events something is told, and of none after them
first_told : (h : History) (events : List Event) (i : ℕ) → zip (take i events) (outcomes h (take i events)) ≡ zip events (outcomes h (take i events))
first_told h [] zero = refl
first_told h [] (suc i) = refl
first_told h (event ∷ events) zero = refl
first_told h (event ∷ events) (suc i) = ap (λ l. (event, outcome_of h event) ∷ l) (first_told (after h event) events i)

-- the first of some events, of which what is told is added
pub played_shows : (events : List Event) (i : ℕ) (old new : WorldView) (told told_new : List Outcome) → HasPlayed (take i events) old new told told_new →
    (casts : List ActorSpec) (before : List Event) → IsReachedBy casts before old → ShowsWhatIsTold events (drop (length told) told_new) old new
played_shows events i old new told told_new played casts before reached =
    let h = history casts before in let all = played casts before reached in
    let added : drop (length told) told_new ≡ outcomes h (take i events) = ap (drop (length told)) all.1 ∙ drop-append_seam told (outcomes h (take i events)) in
    let first = shows casts before (take i events) (outcomes h (take i events)) old new reached all.0 refl in
    subst (λ l. ShowsWhatIsTold events l old new) (sym added)
    (record {
      submitted = λ c. first.submitted c ∙ ap (λ l. calls_told c (world_calls old c) ++ flat_map (λ done. new_calls c done.0 done.1) l) (first_told h events i);
      ran = λ a. first.ran a ∙ ap (λ l. runs_told (world_log old a) ++ flat_map (λ done. new_runs a done.0 done.1) l) (first_told h events i);
      stays = first.stays;
    })

-- it stopped at an event that changed nothing
pub stopped_shows : (events : List Event) (i : ℕ) (old : WorldView) {mid new : WorldView} (told told_new : List Outcome) →
    HasPlayed (take i events) old mid told told_new → new ≡ mid → (casts : List ActorSpec) (before : List Event) → IsReachedBy casts before old →
    ShowsWhatIsTold events (drop (length told) told_new) old new
stopped_shows events i old {mid} told told_new played same casts before reached =
    subst (ShowsWhatIsTold events (drop (length told) told_new) old) (sym same) (played_shows events i old mid told told_new played casts before reached)

-- it did nothing
pub unplayed_shows : (events : List Event) (world : WorldView) {told told_new : List Outcome} → told_new ≡ told →
    ShowsWhatIsTold events (drop (length told) told_new) world world
unplayed_shows events world {told} same =
    subst (λ l. ShowsWhatIsTold events l world world) (sym (ap (drop (length told)) same ∙ drop-length told)) (nothing_shows events world world refl)

-- ---- a world that is opened

pub opened_shows : (casts : List ActorSpec) (world : WorldView) → IsReachedBy casts [] world → ShowsNothing world
opened_shows casts world reached = record { calls = λ c. sym (shown_calls casts [] world reached c); runs = λ a. sym (shown_log casts [] world reached a) }
