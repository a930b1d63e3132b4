-- What an actor's thread did so far, as it takes letters and kills, runs calls, tells its death and retires.
use Rattle.act_serve.proofs.Common.{◌≡◌, ℕ, suc, ◌+◌, ◌<◌, ◌≤◌, Bool, true, false, cond, List, ◌∷◌, ◌++◌, map, length, length-append, get_or, Some, None, ◌⊎◌}
use Rattle.act_serve.proofs.Common.{inl, inr, refl, ap, sym, ◌∙◌, subst, arith, append-nil, append_assoc, All, ◌==◌, ◌&&◌, set, flat_map, slice_get, Contains}
use Rattle.act_serve.proofs.Common.{option_or, AllZip, list_any, range_with_len, eq-eqb, eqb-true, get_or-map, length-map, map-append, All-set, Contains-get_or}
use Rattle.act_serve.proofs.Common.{Contains-push, Contains-append_left, Contains-append_right, Contains-append_cases, filter_map-append, list_any-append}
use Rattle.act_serve.proofs.Common.{list_any_at, get_or-range_with_len, all_zipped_more, map-set_same, get_or-append_seam, Notice, Answered, Death, Reply}
use Rattle.act_serve.proofs.Common.{RunItem, contains, items_of, has_terminated, slice_get_more, slice_get_last, items_of-push, KindState, LiveView}
use Rattle.act_serve.proofs.Common.{packet_of_item, note_after_calls, Asked, Endpoint, Letter, Call, Note, ControlExecView, RepliesView, ReplyExecView}
use Rattle.act_serve.proofs.Common.{TakerView, steps_in, found_in, AreTakenLater, ExecPasses, Action, CallTaken, NoteTaken, taking, CallRun, KillTaken}
use Rattle.act_serve.proofs.Common.{DeathTold, Retirement, letter_taken, call_run, kill_taken, is_kill_taken, is_retirement, log_of, has_died_in, has_ended_in}
use Rattle.act_serve.proofs.Common.{ActorMayDo, ActorMayDoAll, exec_clock, IsGivenAfter, IsActorTrace, caller_at, endpoint_callers, IsLogOf, first_note}
use Rattle.act_serve.proofs.Common.{IsUntaken, KillsOfDead, HasReplied, IsFreshExec, IsTracedSoFar, replied_to, with_death_given, all_zip_weaker, found_alone}
use Rattle.act_serve.proofs.Common.{found_more, found_one, steps_more, timed_push, part_one, part_none, later_one, later_none, [], ◌||◌}
use Rattle.act_serve.proofs.Clocks.{contains_head, contains_map, all_zip_set, all_zip_map, flat_within, clock_taken, clock_within}
use Rattle.act_serve.proofs.Clocks.{contains_of_found, timed_all, found_nothing}
use Rattle.std.proofs.Math.Bool.{or-false, or-true}
use Rattle.act_lists.proofs.Lists.{contains_tail}

abbrev Trace : Type 0
Trace = List (ℕ × Action)

-- ---- what the actor may do

may_push : (a : ℕ) (callers : List ℕ) (before steps : List Action) (step : Action) → ActorMayDoAll a callers before steps →
    ActorMayDo a callers (before ++ steps) step → ActorMayDoAll a callers before (steps ++ step ∷ [])
may_push a callers before [] step h may = (subst (λ l. ActorMayDo a callers l step) (append-nil before) may, tt)
may_push a callers before (x ∷ steps) step h may =
    (h.0, may_push a callers (before ++ x ∷ []) steps step h.1 (subst (λ l. ActorMayDo a callers l step) (sym (append_assoc before (x ∷ []) steps)) may))

allowed_push : (a : ℕ) (callers : List ℕ) (trace : Trace) (n : ℕ) (step : Action) → ActorMayDoAll a callers [] (steps_in trace) →
    ActorMayDo a callers (steps_in trace) step → ActorMayDoAll a callers [] (steps_in (trace ++ (n, step) ∷ []))
allowed_push a callers trace n step h may =
    subst (λ l. ActorMayDoAll a callers [] l) (sym (steps_more trace ((n, step) ∷ []))) (may_push a callers [] (steps_in trace) step h may)

any_push : (p : Action → Bool) (trace : Trace) (n : ℕ) (step : Action) → p step ≡ false → list_any p (steps_in trace) ≡ false →
    list_any p (steps_in (trace ++ (n, step) ∷ [])) ≡ false
any_push p trace n step e was =
    ap (list_any p) (steps_more trace ((n, step) ∷ [])) ∙ list_any-append p (steps_in trace) (step ∷ []) ∙ (λ i. was i || (e i || false))

any_here : (p : Action → Bool) (trace : Trace) (n : ℕ) (step : Action) → p step ≡ true → list_any p (steps_in (trace ++ (n, step) ∷ [])) ≡ true
any_here p trace n step e = ap (list_any p) (steps_more trace ((n, step) ∷ [])) ∙ list_any-append p (steps_in trace) (step ∷ []) ∙
    (λ i. list_any p (steps_in trace) || (e i || false)) ∙ or-true (list_any p (steps_in trace))

module _ (a : ℕ) (lines : List RepliesView) (log : List RunItem) (passes : ExecPasses) where
  log_is : {trace : Trace} → IsActorTrace a lines log passes trace → log_of (steps_in trace) ≡ log
  log_is {trace} h = sym (found_alone call_run trace) ∙ h.runs

  ended_not : (t : IsTracedSoFar a lines log passes) → has_terminated log ≡ false → has_ended_in (steps_in t.trace) ≡ false
  ended_not t lives = let term : has_terminated (log_of (steps_in t.trace)) ≡ false = ap has_terminated (log_is t.steps) ∙ lives in
      λ i. (t.no_kill i || term i) || t.no_retirement i

  -- a letter that was taken is in the trace
  letter_there : {trace : Trace} (letter : Letter) → IsActorTrace a lines log passes trace → Contains passes.letters.taken letter →
      Contains (steps_in trace) (taking letter)
  letter_there {trace} letter h c =
      let one = contains_of_found letter_taken (steps_in trace) letter (subst (λ l. Contains l letter) (sym h.letters ∙ found_alone letter_taken trace) c) in
      subst (λ s. Contains (steps_in trace) s) (go one.0 one.2) one.1
    where
      go : (step : Action) → letter_taken step ≡ Some letter → step ≡ taking letter
      go (CallTaken packet) e = let same : Call packet ≡ letter = cc in ap taking same
      go (NoteTaken note) e = let same : Note note ≡ letter = cc in ap taking same
      go step e = absurd (cc)

-- ---- what was given

abbrev GivenAt : List RepliesView → Trace → Endpoint ReplyExecView → Type 0
GivenAt lines trace endpoint = AllZip (IsGivenAfter trace (caller_at lines endpoint.place)) endpoint.pass.given endpoint.pass.stamps

given_more : (trace more : Trace) (c : ℕ) (notice : Notice) (stamp : ℕ) → IsGivenAfter trace c notice stamp → IsGivenAfter (trace ++ more) c notice stamp
given_more trace more c (Answered reply) stamp h = (
  h.0,
  h.1,
  subst (λ l. slice_get l reply.place ≡ Some (h.0, h.1)) (sym (found_more call_run trace more))
      (slice_get_more (found_in call_run trace) (found_in call_run more) reply.place h.2),
  h.3,
)
given_more trace more c (Death a) stamp h = (h.0, Contains-append_left trace more (h.0, DeathTold c) h.1, h.2)

all_given_more : (lines : List RepliesView) (trace more : Trace) (endpoints : List (Endpoint ReplyExecView)) → All (GivenAt lines trace) endpoints →
    All (GivenAt lines (trace ++ more)) endpoints
all_given_more lines trace more endpoints h k d lt =
    let endpoint : Endpoint ReplyExecView = get_or endpoints k d in let c : ℕ = caller_at lines endpoint.place in
    all_zip_weaker (IsGivenAfter trace c) (IsGivenAfter (trace ++ more) c) endpoint.pass.given endpoint.pass.stamps
    (λ notice stamp. given_more trace more c notice stamp) (h k d lt)

-- ---- the clock

abbrev stamps_at : Endpoint ReplyExecView → List ℕ
stamps_at endpoint = endpoint.pass.stamps

clock_grows : (passes more : ExecPasses) → ((s : ℕ) → Contains (flat_map stamps_at passes.notices.items) s →
    Contains (flat_map stamps_at more.notices.items) s) → ((s : ℕ) → Contains passes.letters.stamps s → Contains more.letters.stamps s) →
    ((s : ℕ) → Contains passes.kills.stamps s → Contains more.kills.stamps s) → exec_clock passes ≤ exec_clock more
clock_grows passes more given letters kills =
    clock_within (flat_map stamps_at passes.notices.items) (flat_map stamps_at more.notices.items) (passes.letters.stamps ++ passes.kills.stamps)
    (more.letters.stamps ++ more.kills.stamps) given
    (λ s h. go s (Contains-append_cases passes.letters.stamps passes.kills.stamps s h))
  where
    go : (s : ℕ) → Contains passes.letters.stamps s ⊎ Contains passes.kills.stamps s → Contains (more.letters.stamps ++ more.kills.stamps) s
    go s (inl h) = Contains-append_left more.letters.stamps more.kills.stamps s (letters s h)
    go s (inr h) = Contains-append_right more.letters.stamps more.kills.stamps s (kills s h)

same_stamps : {old new : List ℕ} → new ≡ old → (s : ℕ) → Contains old s → Contains new s
same_stamps e s h = subst (λ l. Contains l s) (sym e) h

more_stamps : (old : List ℕ) {new : List ℕ} (n : ℕ) → new ≡ old ++ n ∷ [] → (s : ℕ) → Contains old s → Contains new s
more_stamps old n e s h = subst (λ l. Contains l s) (sym e) (Contains-append_left old (n ∷ []) s h)

-- ---- a letter is taken

-- what an actor does that takes the letter, and does nothing else
pub record Takes (letter : Letter) (action : Action) : Type 0 where
  pub takes_it : letter_taken action ≡ Some letter
  pub kill : kill_taken action ≡ None
  pub run : call_run action ≡ None
  pub no_kill : is_kill_taken action ≡ false
  pub no_retirement : is_retirement action ≡ false
  pub may : (a : ℕ) (callers : List ℕ) (before : List Action) → has_ended_in before ≡ false → ActorMayDo a callers before action

pub takes : (letter : Letter) → Takes letter (taking letter)
takes (Call packet) = record { takes_it = refl; kill = refl; run = refl; no_kill = refl; no_retirement = refl; may = λ a callers before on. on }
takes (Note note) = record { takes_it = refl; kill = refl; run = refl; no_kill = refl; no_retirement = refl; may = λ a callers before on. on }

pub traced_letter : {a : ℕ} (lines : List RepliesView) {log : List RunItem} {passes : ExecPasses} (more : ExecPasses) (letter : Letter) (stamp : ℕ) →
    more.letters.taken ≡ passes.letters.taken ++ letter ∷ [] → more.letters.stamps ≡ passes.letters.stamps ++ stamp ∷ [] → more.kills ≡ passes.kills →
    more.notices.items ≡ passes.notices.items → has_terminated log ≡ false → IsTracedSoFar a lines log passes → IsTracedSoFar a lines log more
traced_letter {a} lines {log} {passes} more letter stamp taken stamps kills items lives t = record {
  trace = trace;
  steps = record {
    timed = timed_push n step grows (omega arith) t.steps.timed;
    allowed =
        subst (λ l. ActorMayDoAll a (endpoint_callers lines l) [] (steps_in trace)) (sym items) (allowed_push a (endpoint_callers lines passes.notices.items)
        t.trace n step t.steps.allowed (does.may a (endpoint_callers lines passes.notices.items) (steps_in t.trace) (ended_not a lines log passes t lives)));
    letters = part_one letter_taken t.trace n step letter does.takes_it t.steps.letters taken;
    letters_later = later_one letter_taken t.trace n step letter passes.letters.stamps does.takes_it after t.steps.letters_later stamps;
    kills = part_none kill_taken t.trace n step more.kills.taken does.kill t.steps.kills (ap (λ (p : ControlExecView). p.taken) kills);
    kills_later =
        later_none kill_taken t.trace n step passes.kills.stamps more.kills.stamps does.kill t.steps.kills_later (ap (λ (p : ControlExecView). p.stamps) kills);
    runs = part_none call_run t.trace n step log does.run t.steps.runs refl;
    given = subst (λ l. All (GivenAt lines trace) l) (sym items) (all_given_more lines t.trace ((n, step) ∷ []) passes.notices.items t.steps.given);
  };
  no_kill = any_push is_kill_taken t.trace n step does.no_kill t.no_kill;
  no_retirement = any_push is_retirement t.trace n step does.no_retirement t.no_retirement;
}
  where
    n : ℕ
    n = exec_clock more

    step : Action
    step = taking letter

    does : Takes letter step
    does = takes letter

    trace : Trace
    trace = t.trace ++ (n, step) ∷ []

    grows : exec_clock passes ≤ n
    grows = clock_grows passes more (same_stamps (ap (flat_map stamps_at) items))
        (more_stamps passes.letters.stamps stamp stamps) (same_stamps (ap (λ (p : ControlExecView). p.stamps) kills))

    after : stamp < n
    after = clock_taken (flat_map stamps_at more.notices.items) (more.letters.stamps ++ more.kills.stamps) stamp (Contains-append_left more.letters.stamps
        more.kills.stamps stamp (subst (λ l. Contains l stamp) (sym stamps) (Contains-push passes.letters.stamps stamp)))

-- ---- a call runs, and its reply is given

-- the last of numbered items has the number after them
last_number : (xs : List RunItem) (item : RunItem) → map (λ (x : RunItem). x.number) (xs ++ item ∷ []) ≡ range_with_len 0 (length (xs ++ item ∷ [])) →
    item.number ≡ length xs
last_number xs item e =
    let numbers : List ℕ = map (λ (x : RunItem). x.number) xs in
    let long : length (xs ++ item ∷ []) ≡ length xs + 1 = length-append xs (item ∷ []) in
    let below : length xs < length (xs ++ item ∷ []) = omega (arith, long) in
    let zero_more : 0 + length xs ≡ length xs = omega arith in
    sym (get_or-append_seam numbers item.number [] 0)
    ∙ ap (λ k. get_or (numbers ++ item.number ∷ []) k 0) (length-map xs (λ (x : RunItem). x.number))
    ∙ ap (λ l. get_or l (length xs) 0) (sym (map-append (λ (x : RunItem). x.number) xs (item ∷ [])) ∙ e)
    ∙ get_or-range_with_len 0 (length (xs ++ item ∷ [])) (length xs) 0 below
    ∙ zero_more

item_next : (a : ℕ) {callers : List ℕ} {letters : List Letter} (log : List RunItem) (item : RunItem) → IsLogOf a callers letters (log ++ item ∷ []) →
    item.number ≡ length (items_of item.caller log)
item_next a log item h =
    let c : ℕ = item.caller in
    let mine : items_of c (log ++ item ∷ []) ≡ items_of c log ++ item ∷ [] =
    items_of-push c log item ∙ ap (λ x. items_of c log ++ cond x (item ∷ []) []) (eq-eqb c c refl) in
    last_number (items_of c log) item (subst (λ l. map (λ (x : RunItem). x.number) l ≡ range_with_len 0 (length l)) mine (h.numbered c))

item_sent : (a : ℕ) {callers : List ℕ} {letters : List Letter} (log : List RunItem) (item : RunItem) → IsLogOf a callers letters (log ++ item ∷ []) →
    Contains letters (Call (packet_of_item a item))
item_sent a {letters} log item h =
    let long : length (log ++ item ∷ []) ≡ length log + 1 = length-append log (item ∷ []) in
    subst (λ x. Contains letters (Call (packet_of_item a x))) (get_or-append_seam log item [] item) (h.taken (length log) item (omega (arith, long)))

module _ {S : Type 0} {read : S → KindState} (lines : List RepliesView) (callers : List ℕ) (letters : List Letter) (old new : LiveView S) (caller : ℕ)
    (reply : Reply) (ran : HasReplied read caller reply old new) (passes more : ExecPasses) (at : ℕ) (endpoint : Endpoint ReplyExecView)
    (here : (d : Endpoint ReplyExecView) → get_or passes.notices.items at d ≡ endpoint) (below : at < length passes.notices.items)
    (logged : IsLogOf new.id callers letters new.log) (shown : letters ≡ passes.letters.taken) (same_letters : more.letters ≡ passes.letters)
    (same_kills : more.kills ≡ passes.kills)
    (gave : more.notices.items ≡ set passes.notices.items at (replied_to new.log reply (exec_clock passes) endpoint)) where
  abbrev given_endpoint : Endpoint ReplyExecView
  given_endpoint = replied_to new.log reply (exec_clock passes) endpoint

  puts_grow : (s : ℕ) → Contains (flat_map stamps_at passes.notices.items) s → Contains (flat_map stamps_at more.notices.items) s
  puts_grow s h = subst (λ l. Contains (flat_map stamps_at l) s) (sym gave) (flat_within stamps_at passes.notices.items
      (set passes.notices.items at given_endpoint) (all_zip_set (λ (x : Endpoint ReplyExecView) (y : Endpoint ReplyExecView). (t : ℕ) →
      Contains x.pass.stamps t → Contains y.pass.stamps t) passes.notices.items at given_endpoint (λ x t c. c) (λ d lt t c. Contains-append_left
      endpoint.pass.stamps (exec_clock passes ∷ []) t (subst (λ (x : Endpoint ReplyExecView). Contains x.pass.stamps t) (here d) c))) s h)

  clock_on : exec_clock passes ≤ exec_clock more
  clock_on = clock_grows passes more puts_grow (same_stamps (ap (λ (p : TakerView Letter (Unit {0})). p.stamps) same_letters))
      (same_stamps (ap (λ (p : ControlExecView). p.stamps) same_kills))

  callers_on : endpoint_callers lines more.notices.items ≡ endpoint_callers lines passes.notices.items
  callers_on = ap (endpoint_callers lines) gave ∙ map-set_same (λ (x : Endpoint ReplyExecView). caller_at lines x.place) passes.notices.items at given_endpoint
      endpoint (ap (λ (x : Endpoint ReplyExecView). caller_at lines x.place) (sym (here endpoint)))

  logged_now : IsLogOf old.id callers passes.letters.taken (old.log ++ ran.item ∷ [])
  logged_now = subst (λ (y : ℕ × List Letter × List RunItem). IsLogOf y.0 callers y.1 y.2) (λ i. (ran.id i, shown i, ran.log i)) logged

  module _ (t : IsTracedSoFar old.id lines old.log passes) where
    may_run : ActorMayDo old.id (endpoint_callers lines passes.notices.items) (steps_in t.trace) (CallRun ran.item)
    may_run = (
      ended_not old.id lines old.log passes t ran.lived,
      letter_there old.id lines old.log passes (Call (packet_of_item old.id ran.item)) t.steps (item_sent old.id old.log ran.item logged_now),
      item_next old.id old.log ran.item logged_now ∙ ap (λ l. length (items_of ran.item.caller l)) (sym (log_is old.id lines old.log passes t.steps)),
    )

    -- the reply's place is that of its call among those that ran
    ran_there : slice_get (found_in call_run (t.trace ++ (exec_clock passes, CallRun ran.item) ∷ [])) reply.place ≡ Some (exec_clock passes, ran.item)
    ran_there =
        let found : List (ℕ × RunItem) = found_in call_run t.trace in
        let long : length found ≡ length old.log = sym (length-map found (λ (x : ℕ × RunItem). x.1)) ∙ ap (λ l. length l) t.steps.runs in
        let place : reply.place ≡ length found = ap (λ (r : Reply). r.place) ran.reply_is ∙ sym long in
        ap (λ l. slice_get l reply.place) (found_one call_run t.trace (exec_clock passes) (CallRun ran.item) ran.item refl)
        ∙ ap (slice_get (found ++ (exec_clock passes, ran.item) ∷ [])) place
        ∙ slice_get_last found (exec_clock passes, ran.item)

    given_on : All (GivenAt lines (t.trace ++ (exec_clock passes, CallRun ran.item) ∷ [])) more.notices.items
    given_on =
        let trace : List (ℕ × Action) = t.trace ++ (exec_clock passes, CallRun ran.item) ∷ [] in
        let before : All (GivenAt lines trace) passes.notices.items =
        all_given_more lines t.trace ((exec_clock passes, CallRun ran.item) ∷ []) passes.notices.items t.steps.given in
        let was : GivenAt lines trace endpoint = subst (GivenAt lines trace) (here endpoint) (before at endpoint below) in
        subst (λ l. All (GivenAt lines trace) l) (sym gave)
        (All-set (GivenAt lines trace) passes.notices.items at given_endpoint (all_zipped_more (IsGivenAfter trace (caller_at lines endpoint.place))
        endpoint.pass.given endpoint.pass.stamps (Answered reply) (exec_clock passes) was (exec_clock passes, ran.item, ran_there, omega arith)) before)

    ran_on : IsTracedSoFar old.id lines (old.log ++ ran.item ∷ []) more
    ran_on = record {
      trace = t.trace ++ (exec_clock passes, CallRun ran.item) ∷ [];
      steps = record {
        timed = timed_push (exec_clock more) (CallRun ran.item) (omega arith) clock_on t.steps.timed;
        allowed = subst (λ l. ActorMayDoAll old.id l [] (steps_in (t.trace ++ (exec_clock passes, CallRun ran.item) ∷ []))) (sym callers_on)
            (allowed_push old.id (endpoint_callers lines passes.notices.items) t.trace (exec_clock passes) (CallRun ran.item) t.steps.allowed may_run);
        letters = part_none letter_taken t.trace (exec_clock passes) (CallRun ran.item) more.letters.taken refl t.steps.letters
            (ap (λ (p : TakerView Letter (Unit {0})). p.taken) same_letters);
        letters_later = later_none letter_taken t.trace (exec_clock passes) (CallRun ran.item) passes.letters.stamps more.letters.stamps refl
            t.steps.letters_later (ap (λ (p : TakerView Letter (Unit {0})). p.stamps) same_letters);
        kills = part_none kill_taken t.trace (exec_clock passes) (CallRun ran.item) more.kills.taken refl t.steps.kills
            (ap (λ (p : ControlExecView). p.taken) same_kills);
        kills_later = later_none kill_taken t.trace (exec_clock passes) (CallRun ran.item) passes.kills.stamps more.kills.stamps refl t.steps.kills_later
            (ap (λ (p : ControlExecView). p.stamps) same_kills);
        runs = part_one call_run t.trace (exec_clock passes) (CallRun ran.item) ran.item {more = old.log ++ ran.item ∷ []} refl t.steps.runs refl;
        given = given_on;
      };
      no_kill = any_push is_kill_taken t.trace (exec_clock passes) (CallRun ran.item) refl t.no_kill;
      no_retirement = any_push is_retirement t.trace (exec_clock passes) (CallRun ran.item) refl t.no_retirement;
    }

    -- an actor that was traced so far still is once it ran one more call and its reply was given
    pub traced_run : IsTracedSoFar new.id lines new.log more
    traced_run = subst (λ (y : ℕ × List RunItem). IsTracedSoFar y.0 lines y.1 more) (λ i. (sym ran.id i, sym ran.log i)) ran_on

-- ---- an actor that died, before it tells its death

pub record IsTracedDead (a : ℕ) (lines : List RepliesView) (log : List RunItem) (passes : ExecPasses) : Type 0 where
  pub trace : List (ℕ × Action)
  pub steps : IsActorTrace a lines log passes trace
  pub died : has_died_in (steps_in trace) ≡ true
  pub no_retirement : list_any is_retirement (steps_in trace) ≡ false

module _ (a : ℕ) (lines : List RepliesView) (log : List RunItem) (passes more : ExecPasses) (t : IsTracedSoFar a lines log passes) where
  -- what it ran ended it, and no kill was looked for
  traced_terminated : has_terminated log ≡ true → more ≡ passes → IsTracedDead a lines log more
  traced_terminated ended same = record {
    trace = t.trace;
    steps = subst (λ p. IsActorTrace a lines log p t.trace) (sym same) t.steps;
    died = let term : has_terminated (log_of (steps_in t.trace)) ≡ true = ap has_terminated (log_is a lines log passes t.steps) ∙ ended in
        λ i. t.no_kill i || term i;
    no_retirement = t.no_retirement;
  }

  -- it took a kill
  module _ (kill : Asked) (stamp : ℕ) (letters : more.letters ≡ passes.letters) (taken : more.kills.taken ≡ passes.kills.taken ++ kill ∷ [])
      (stamps : more.kills.stamps ≡ passes.kills.stamps ++ stamp ∷ []) (items : more.notices.items ≡ passes.notices.items)
      (lives : has_terminated log ≡ false) where
    kill_grows : exec_clock passes ≤ exec_clock more
    kill_grows = clock_grows passes more (same_stamps (ap (flat_map stamps_at) items))
        (same_stamps (ap (λ (p : TakerView Letter (Unit {0})). p.stamps) letters)) (more_stamps passes.kills.stamps stamp stamps)

    kill_after : stamp < exec_clock more
    kill_after = clock_taken (flat_map stamps_at more.notices.items) (more.letters.stamps ++ more.kills.stamps) stamp (Contains-append_right more.letters.stamps
        more.kills.stamps stamp (subst (λ l. Contains l stamp) (sym stamps) (Contains-push passes.kills.stamps stamp)))

    traced_killed : IsTracedDead a lines log more
    traced_killed = record {
      trace = t.trace ++ (exec_clock more, KillTaken kill.asker kill.note) ∷ [];
      steps = record {
        timed = timed_push (exec_clock more) (KillTaken kill.asker kill.note) kill_grows (omega arith) t.steps.timed;
        allowed = subst (λ l. ActorMayDoAll a (endpoint_callers lines l) [] (steps_in (t.trace ++ (exec_clock more, KillTaken kill.asker kill.note) ∷ [])))
            (sym items) (allowed_push a (endpoint_callers lines passes.notices.items) t.trace (exec_clock more) (KillTaken kill.asker kill.note) t.steps.allowed
            (ended_not a lines log passes t lives));
        letters = part_none letter_taken t.trace (exec_clock more) (KillTaken kill.asker kill.note) more.letters.taken refl t.steps.letters
            (ap (λ (p : TakerView Letter (Unit {0})). p.taken) letters);
        letters_later = later_none letter_taken t.trace (exec_clock more) (KillTaken kill.asker kill.note) passes.letters.stamps more.letters.stamps refl
            t.steps.letters_later (ap (λ (p : TakerView Letter (Unit {0})). p.stamps) letters);
        kills = part_one kill_taken t.trace (exec_clock more) (KillTaken kill.asker kill.note) kill refl t.steps.kills taken;
        kills_later =
            later_one kill_taken t.trace (exec_clock more) (KillTaken kill.asker kill.note) kill passes.kills.stamps refl kill_after t.steps.kills_later stamps;
        runs = part_none call_run t.trace (exec_clock more) (KillTaken kill.asker kill.note) log refl t.steps.runs refl;
        given = subst (λ l. All (GivenAt lines (t.trace ++ (exec_clock more, KillTaken kill.asker kill.note) ∷ [])) l) (sym items)
            (all_given_more lines t.trace ((exec_clock more, KillTaken kill.asker kill.note) ∷ []) passes.notices.items t.steps.given);
      };
      died = ap (λ b. b || has_terminated (log_of (steps_in (t.trace ++ (exec_clock more, KillTaken kill.asker kill.note) ∷ []))))
          (any_here is_kill_taken t.trace (exec_clock more) (KillTaken kill.asker kill.note) refl);
      no_retirement = any_push is_retirement t.trace (exec_clock more) (KillTaken kill.asker kill.note) refl t.no_retirement;
    }

-- one of the two
pub traced_over : (a : ℕ) (lines : List RepliesView) (log : List RunItem) {passes : ExecPasses} (kills : ControlExecView) {told : Bool} → told ≡ true →
    KillsOfDead (has_terminated log) log kills → IsUntaken passes.kills → (has_terminated log ≡ true → kills ≡ passes.kills) →
    (has_terminated log ≡ false → told ≡ true → (n : ℕ) × (kills.stamps ≡ passes.kills.stamps ++ n ∷ [])) → IsTracedSoFar a lines log passes →
    IsTracedDead a lines log (record passes { kills = kills })
traced_over a lines log {passes} kills over why none still stamped t = go (has_terminated log) refl why
  where
    go : (b : Bool) → has_terminated log ≡ b → KillsOfDead b log kills → IsTracedDead a lines log (record passes { kills = kills })
    go true e w = traced_terminated a lines log passes (record passes { kills = kills }) t e (λ i. record passes { kills = still e i })
    go false e w =
        let one = stamped e over in
        traced_killed a lines log passes (record passes { kills = kills }) t w.0 one.0 (λ i. passes.letters) (w.1 ∙ ap (λ l. l ++ w.0 ∷ []) (sym none.0)) one.1
        (λ i. passes.notices.items) e

-- ---- it tells its death

abbrev death_to : List RepliesView → Endpoint ReplyExecView → Action
death_to lines endpoint = DeathTold (caller_at lines endpoint.place)

died_on : (before : List Action) (c : ℕ) → has_died_in before ≡ true → has_died_in (before ++ DeathTold c ∷ []) ≡ true
died_on before c died =
    let kills : list_any is_kill_taken (before ++ DeathTold c ∷ []) ≡ list_any is_kill_taken before =
    list_any-append is_kill_taken before (DeathTold c ∷ []) ∙ or-false (list_any is_kill_taken before) in
    let log : log_of (before ++ DeathTold c ∷ []) ≡ log_of before = filter_map-append call_run before (DeathTold c ∷ []) ∙ append-nil (log_of before) in
    (λ i. kills i || has_terminated (log i)) ∙ died

may_tell : (a : ℕ) (callers : List ℕ) (lines : List RepliesView) (n : ℕ) (endpoints : List (Endpoint ReplyExecView)) (trace : Trace) →
    All (λ (endpoint : Endpoint ReplyExecView). contains (caller_at lines endpoint.place) callers ≡ true) endpoints → has_died_in (steps_in trace) ≡ true →
    ActorMayDoAll a callers [] (steps_in trace) → ActorMayDoAll a callers [] (steps_in (trace ++ map (λ x. (n, death_to lines x)) endpoints))
may_tell a callers lines n [] trace listed died may = subst (λ l. ActorMayDoAll a callers [] (steps_in l)) (sym (append-nil trace)) may
may_tell a callers lines n (x ∷ endpoints) trace listed died may =
    let step : Action = death_to lines x in
    subst (λ l. ActorMayDoAll a callers [] (steps_in l)) (append_assoc trace ((n, step) ∷ []) (map (λ y. (n, death_to lines y)) endpoints))
    (may_tell a callers lines n endpoints (trace ++ (n, step) ∷ []) (λ k d lt. listed (suc k) d (omega (arith, lt))) (ap has_died_in (steps_more trace
    ((n, step) ∷ [])) ∙ died_on (steps_in trace) (caller_at lines x.place) died) (allowed_push a callers trace n step may (died, listed 0 x (omega arith))))

any_none : (p : Action → Bool) (lines : List RepliesView) (n : ℕ) (endpoints : List (Endpoint ReplyExecView)) (trace : Trace) → ((c : ℕ) →
    p (DeathTold c) ≡ false) → list_any p (steps_in trace) ≡ false → list_any p (steps_in (trace ++ map (λ x. (n, death_to lines x)) endpoints)) ≡ false
any_none p lines n [] trace none was = ap (λ l. list_any p (steps_in l)) (append-nil trace) ∙ was
any_none p lines n (x ∷ endpoints) trace none was =
    ap (λ l. list_any p (steps_in l)) (sym (append_assoc trace ((n, death_to lines x) ∷ []) (map (λ y. (n, death_to lines y)) endpoints)))
    ∙ any_none p lines n endpoints (trace ++ (n, death_to lines x) ∷ []) none (any_push p trace n (death_to lines x) (none (caller_at lines x.place)) was)

all_listed : (lines : List RepliesView) (endpoints : List (Endpoint ReplyExecView)) →
    All (λ (endpoint : Endpoint ReplyExecView). contains (caller_at lines endpoint.place) (endpoint_callers lines endpoints) ≡ true) endpoints
all_listed lines endpoints k d lt =
    let c : ℕ = caller_at lines (get_or endpoints k d).place in
    list_any_at (λ m. m == c) (endpoint_callers lines endpoints) k 0
    (omega (arith, lt, length-map endpoints (λ (x : Endpoint ReplyExecView). caller_at lines x.place)))
    (eq-eqb (get_or (endpoint_callers lines endpoints) k 0) c (get_or-map (λ (x : Endpoint ReplyExecView). caller_at lines x.place) endpoints k d 0 lt))

module _ (a : ℕ) (lines : List RepliesView) (log : List RunItem) (passes more : ExecPasses) (t : IsTracedDead a lines log passes)
    (same_letters : more.letters ≡ passes.letters) (same_kills : more.kills ≡ passes.kills)
    (gave : more.notices.items ≡ map (with_death_given a log (exec_clock passes)) passes.notices.items) where
  abbrev told_trace : List (ℕ × Action)
  told_trace = t.trace ++ map (λ x. (exec_clock passes, death_to lines x)) passes.notices.items

  told_grows : exec_clock passes ≤ exec_clock more
  told_grows = clock_grows passes more (λ s h. subst (λ l. Contains (flat_map stamps_at l) s) (sym gave)
      (flat_within stamps_at passes.notices.items (map (with_death_given a log (exec_clock passes)) passes.notices.items)
      (all_zip_map (λ (x : Endpoint ReplyExecView) (y : Endpoint ReplyExecView). (n : ℕ) → Contains x.pass.stamps n → Contains y.pass.stamps n)
      (with_death_given a log (exec_clock passes)) passes.notices.items (λ x n c. Contains-append_left x.pass.stamps (exec_clock passes ∷ []) n c)) s h))
      (same_stamps (ap (λ (p : TakerView Letter (Unit {0})). p.stamps) same_letters)) (same_stamps (ap (λ (p : ControlExecView). p.stamps) same_kills))

  told_callers : (endpoints : List (Endpoint ReplyExecView)) →
      endpoint_callers lines (map (with_death_given a log (exec_clock passes)) endpoints) ≡ endpoint_callers lines endpoints
  told_callers [] = refl
  told_callers (x ∷ endpoints) = ap (λ l. caller_at lines x.place ∷ l) (told_callers endpoints)

  told_given : All (GivenAt lines told_trace) (map (with_death_given a log (exec_clock passes)) passes.notices.items)
  told_given k d lt =
      let below : k < length passes.notices.items = omega (arith, lt, length-map passes.notices.items (with_death_given a log (exec_clock passes))) in
      let x : Endpoint ReplyExecView = get_or passes.notices.items k d in let c : ℕ = caller_at lines x.place in
      let there : Contains told_trace (exec_clock passes, DeathTold c) =
      Contains-append_right t.trace (map (λ y. (exec_clock passes, death_to lines y)) passes.notices.items) (exec_clock passes, DeathTold c)
      (contains_map (λ y. (exec_clock passes, death_to lines y)) passes.notices.items x (Contains-get_or passes.notices.items k d below)) in
      let was : GivenAt lines told_trace x =
      all_given_more lines t.trace (map (λ y. (exec_clock passes, death_to lines y)) passes.notices.items) passes.notices.items t.steps.given k d below in
      subst (GivenAt lines told_trace) (sym (get_or-map (with_death_given a log (exec_clock passes)) passes.notices.items k d d below))
      (all_zipped_more (IsGivenAfter told_trace c) x.pass.given x.pass.stamps (Death a) (exec_clock passes) was (exec_clock passes, there, omega arith))

  told_steps : IsActorTrace a lines log more told_trace
  told_steps = record {
    timed = timed_all (death_to lines) passes.notices.items (exec_clock passes) t.trace (omega arith) told_grows t.steps.timed;
    allowed = subst (λ l. ActorMayDoAll a l [] (steps_in told_trace)) (sym (ap (endpoint_callers lines) gave ∙ told_callers passes.notices.items))
        (may_tell a (endpoint_callers lines passes.notices.items) lines (exec_clock passes) passes.notices.items t.trace
        (all_listed lines passes.notices.items) t.died t.steps.allowed);
    letters = ap (map (λ (y : ℕ × Letter). y.1)) (found_nothing letter_taken (death_to lines) passes.notices.items (exec_clock passes) t.trace (λ x. refl)) ∙
        t.steps.letters ∙ sym (ap (λ (p : TakerView Letter (Unit {0})). p.taken) same_letters);
    letters_later = subst (λ (y : List (ℕ × Letter) × List ℕ). AreTakenLater y.0 y.1)
        (λ i. (
          sym (found_nothing letter_taken (death_to lines) passes.notices.items (exec_clock passes) t.trace (λ x. refl)) i,
          sym (ap (λ (p : TakerView Letter (Unit {0})). p.stamps) same_letters) i,
        )) t.steps.letters_later;
    kills = ap (map (λ (y : ℕ × Asked). y.1)) (found_nothing kill_taken (death_to lines) passes.notices.items (exec_clock passes) t.trace (λ x. refl)) ∙
        t.steps.kills ∙ sym (ap (λ (p : ControlExecView). p.taken) same_kills);
    kills_later = subst (λ (y : List (ℕ × Asked) × List ℕ). AreTakenLater y.0 y.1)
        (λ i. (
          sym (found_nothing kill_taken (death_to lines) passes.notices.items (exec_clock passes) t.trace (λ x. refl)) i,
          sym (ap (λ (p : ControlExecView). p.stamps) same_kills) i,
        )) t.steps.kills_later;
    runs = ap (map (λ (y : ℕ × RunItem). y.1)) (found_nothing call_run (death_to lines) passes.notices.items (exec_clock passes) t.trace (λ x. refl)) ∙
        t.steps.runs;
    given = subst (λ l. All (GivenAt lines told_trace) l) (sym gave) told_given;
  }

  pub traced_told : (trace : List (ℕ × Action)) × IsActorTrace a lines log more trace × (list_any is_retirement (steps_in trace) ≡ false)
  traced_told = (told_trace, told_steps, any_none is_retirement lines (exec_clock passes) passes.notices.items t.trace (λ c. refl) t.no_retirement)

-- ---- it retires

-- the first note of a caller is among the letters
note_there : (a c : ℕ) {n : ℕ} (letters : List Letter) → first_note a c letters ≡ Some n → Contains letters (Note (note_after_calls c a n))
note_there a c [] e = absurd (cc)
note_there a c {n} (Call packet ∷ letters) e = contains_tail (Call packet) (Note (note_after_calls c a n)) letters (note_there a c letters e)
note_there a c {n} (Note note ∷ letters) e = by (note.caller == c) refl (note.actor == a) refl e (note_there a c {n = n} letters)
  where
    by : (b : Bool) → (note.caller == c) ≡ b → (d : Bool) → (note.actor == a) ≡ d →
        option_or (cond (b && d) (Some note.after) None) (first_note a c letters) ≡ Some n →
        (first_note a c letters ≡ Some n → Contains letters (Note (note_after_calls c a n))) → Contains (Note note ∷ letters) (Note (note_after_calls c a n))
    by true is true at found later =
        let after : note.after ≡ n = cc in
        let whole : Note note ≡ Note (note_after_calls c a n) =
        λ i. Note (note_after_calls (eqb-true note.caller c is i) (eqb-true note.actor a at i) (after i)) in
        subst (λ x. Contains (Note note ∷ letters) x) whole (contains_head (Note note) letters)
    by true is false at found later = contains_tail (Note note) (Note (note_after_calls c a n)) letters (later found)
    by false is d at found later = contains_tail (Note note) (Note (note_after_calls c a n)) letters (later found)

pub traced_retired : (a : ℕ) (lines : List RepliesView) (log : List RunItem) (passes : ExecPasses) → IsTracedSoFar a lines log passes → has_terminated log ≡
    false → ((c : ℕ) → contains c (endpoint_callers lines passes.notices.items) ≡ true → first_note a c passes.letters.taken ≡ Some (length (items_of c log))) →
    (trace : List (ℕ × Action)) × IsActorTrace a lines log passes trace × (list_any is_retirement (steps_in trace) ≡ true)
traced_retired a lines log passes t lives notes = (
  t.trace ++ (exec_clock passes, Retirement) ∷ [],
  record {
    timed = timed_push {n = exec_clock passes} (exec_clock passes) Retirement (omega arith) (omega arith) t.steps.timed;
    allowed = allowed_push a (endpoint_callers lines passes.notices.items) t.trace (exec_clock passes) Retirement t.steps.allowed (
      ended_not a lines log passes t lives,
      λ c l. letter_there a lines log passes (Note (note_after_calls c a (length (items_of c (log_of (steps_in t.trace)))))) t.steps
          (note_there a c passes.letters.taken (notes c l ∙ ap (λ l. Some (length (items_of c l))) (sym (log_is a lines log passes t.steps)))),
    );
    letters = part_none letter_taken t.trace (exec_clock passes) Retirement passes.letters.taken refl t.steps.letters refl;
    letters_later = later_none letter_taken t.trace (exec_clock passes) Retirement passes.letters.stamps passes.letters.stamps refl t.steps.letters_later refl;
    kills = part_none kill_taken t.trace (exec_clock passes) Retirement passes.kills.taken refl t.steps.kills refl;
    kills_later = later_none kill_taken t.trace (exec_clock passes) Retirement passes.kills.stamps passes.kills.stamps refl t.steps.kills_later refl;
    runs = part_none call_run t.trace (exec_clock passes) Retirement log refl t.steps.runs refl;
    given = all_given_more lines t.trace ((exec_clock passes, Retirement) ∷ []) passes.notices.items t.steps.given;
  },
  any_here is_retirement t.trace (exec_clock passes) Retirement refl,
)

-- ---- it did nothing yet

pub traced_fresh : {S : Type 0} (lines : List RepliesView) (actor : LiveView S) {passes : ExecPasses} → IsFreshExec lines actor passes →
    IsTracedSoFar actor.id lines actor.log passes
traced_fresh lines actor {passes} f = record {
  trace = [];
  steps = record {
    timed = record { rising = λ i j d less below. absurd (omega (arith, below)); past = λ k d lt. absurd (omega (arith, lt)) };
    allowed = tt;
    letters = sym f.passes_fresh.letters;
    letters_later = subst (λ l. AreTakenLater {T = Letter} [] l) (sym f.passes_fresh.letter_stamps) tt;
    kills = sym f.passes_fresh.kills.0;
    kills_later = subst (λ l. AreTakenLater {T = Asked} [] l) (sym f.passes_fresh.kill_stamps) tt;
    runs = sym f.log;
    given = λ k d lt.
        let x : Endpoint ReplyExecView = get_or passes.notices.items k d in
        subst (λ (y : List Notice × List ℕ). AllZip (IsGivenAfter [] (caller_at lines x.place)) y.0 y.1)
        (λ i. (sym (f.passes_fresh.given k d lt) i, sym (f.passes_fresh.given_stamps k d lt) i)) tt;
  };
  no_kill = refl;
  no_retirement = refl;
}

-- ---- it looked for a kill, and there was none

pub traced_looked : {a : ℕ} {lines : List RepliesView} {log : List RunItem} {passes : ExecPasses} {kills : ControlExecView} →
    kills ≡ record passes.kills { looked = kills.looked } → IsTracedSoFar a lines log passes → IsTracedSoFar a lines log (record passes { kills = kills })
traced_looked {a} {lines} {log} {passes} {kills} same t = subst (λ k. IsTracedSoFar a lines log (record passes { kills = k })) (sym same) (record {
  trace = t.trace;
  steps = record {
    timed = t.steps.timed;
    allowed = t.steps.allowed;
    letters = t.steps.letters;
    letters_later = t.steps.letters_later;
    kills = t.steps.kills;
    kills_later = t.steps.kills_later;
    runs = t.steps.runs;
    given = t.steps.given;
  };
  no_kill = t.no_kill;
  no_retirement = t.no_retirement;
})
