-- What a caller's thread leaves goes on, step by step.
use Rattle.act_drive.proofs.Common.{◌≡◌, ℕ, suc, ◌-◌, ◌<◌, ◌≤◌, Bool, true, false, not, ◌&&◌, List, ◌∷◌, ◌++◌, length, get_or, set, Option, Some, None, is_some}
use Rattle.act_drive.proofs.Common.{refl, sym, ◌∙◌, ap, subst, arith, All, append_assoc, append-nil, inl, inr, map, option_map, slice_get, Result, Ok, Err}
use Rattle.act_drive.proofs.Common.{OnOk, OnErr, AllZip, flat_map, range_with_len, map-append, set-get_or, All-weaker, All-set, Contains-append_left}
use Rattle.act_drive.proofs.Common.{Contains-push, all_zipped_more, Notice, Packet, ReleaseNote, RunItem, Step, Release, Kill, Await, Submission, NotReady}
use Rattle.act_drive.proofs.Common.{needs, kept_at, copies_held, handle_refusal, send_refusal, copies_in, without_copy, copies-without_copy, OwnerView}
use Rattle.act_drive.proofs.Common.{sending_refusal, with_sent, with_handles, after_collect, is_known_call, is_sent, is_ready, first_ready, is_known_dead, Sent}
use Rattle.act_drive.proofs.Common.{Released, Noticed, after_action, greatest, steps_in, found_in, AreTakenLater, PutterView, TakerView, ControlView}
use Rattle.act_drive.proofs.Common.{Asked, Letter, Call, Note, Endpoint, CallerLines, CallerPasses, Driver, Action, KillAsked, notice_of, after_actions}
use Rattle.act_drive.proofs.Common.{CallerMayDo, CallerMayDoAll, caller_clock, IsPostedAfter, IsAskedAfter, IsCallerTrace, DoesStep, DoesPlan, HasDonePlan}
use Rattle.act_drive.proofs.Common.{IsTracing, IsTracingClosed, Traces, TracesStep, TracesClosing, IsFreshCaller, IsFreshEndpoint, all_zip_weaker, steps_more}
use Rattle.act_drive.proofs.Common.{timed_later, timed_push, part_one, part_none, later_one, later_none, [], after_all-append, ◌||◌, found_passes}
use Rattle.act_rules.specs.declared.outcome.SendRefusal.TheVariants.{Answered}
use Rattle.act_drive.proofs.PlanTraces.{meanwhile_more, plan_more}
use Rattle.act_drive.proofs.Clocks.{greatest_grows, greatest_pushed, greatest_set, clock_grows, clock_taken, timed_none, zip_none}

-- ---- the owner after steps

may_more : (start : OwnerView) (steps : List Action) (step : Action) → CallerMayDoAll start steps → CallerMayDo (after_actions start steps) step →
    CallerMayDoAll start (steps ++ step ∷ [])
may_more start [] step all mine = (mine, tt)
may_more start (one ∷ steps) step all mine = (all.0, may_more (after_action start one) steps step all.1 mine)

-- a step more that the caller may do, after which it is `new`
stepped : (start old new : OwnerView) (trace : List (ℕ × Action)) (n : ℕ) (step : Action) → CallerMayDo old step → new ≡ after_action old step →
    CallerMayDoAll start (steps_in trace) → old ≡ after_actions start (steps_in trace) →
    CallerMayDoAll start (steps_in (trace ++ (n, step) ∷ [])) × (new ≡ after_actions start (steps_in (trace ++ (n, step) ∷ [])))
stepped start old new trace n step may is allowed was =
    let more = steps_more trace ((n, step) ∷ []) in (
      subst (CallerMayDoAll start) (sym more) (may_more start (steps_in trace) step allowed (subst (λ o. CallerMayDo o step) was may)),
      is ∙ ap (λ o. after_action o step) was ∙ sym (after_all-append start (steps_in trace) (step ∷ [])) ∙ ap (after_actions start) (sym more),
    )

-- ---- causes stay

posted_on : (start : OwnerView) (trace more : List (ℕ × Action)) (letter : Letter) (stamp later : ℕ) → stamp ≤ later → IsPostedAfter start trace letter stamp →
    IsPostedAfter start (trace ++ more) letter later
posted_on start trace more (Call packet) stamp later on is =
    (is.0, Contains-append_left trace more (is.0, Sent packet.future) is.1, let below = is.2 in omega (arith, on, below))
posted_on start trace more (Note note) stamp later on is = (
  is.0,
  is.1 ++ more,
  ap (λ l. l ++ more) is.2 ∙ append_assoc is.0 is.1 more,
  All-weaker (λ (x : ℕ × Action). x.0 ≤ stamp) (λ (x : ℕ × Action). x.0 ≤ later) (λ x below. omega (arith, on, below)) is.0 is.3,
  is.4,
)

abbrev ArePosted : OwnerView → List (ℕ × Action) → Endpoint (PutterView Letter Unit) → Type 0
ArePosted start trace endpoint = AllZip (IsPostedAfter start trace) endpoint.pass.put endpoint.pass.stamps

abbrev AreAskedAt : List ControlView → List (ℕ × Action) → Endpoint (PutterView Asked ℕ) → Type 0
AreAskedAt controls trace endpoint = (d : ControlView) →
    AllZip (IsAskedAfter trace (get_or controls endpoint.place d).actor) endpoint.pass.put endpoint.pass.stamps

all_posted_on : (start : OwnerView) (trace more : List (ℕ × Action)) (endpoints : List (Endpoint (PutterView Letter Unit))) →
    All (ArePosted start trace) endpoints → All (ArePosted start (trace ++ more)) endpoints
all_posted_on start trace more endpoints all = All-weaker (ArePosted start trace) (ArePosted start (trace ++ more))
    (λ endpoint is. all_zip_weaker (IsPostedAfter start trace) (IsPostedAfter start (trace ++ more)) endpoint.pass.put endpoint.pass.stamps
    (λ letter stamp. posted_on start trace more letter stamp stamp (omega arith)) is) endpoints all

asked_on : (controls : List ControlView) (trace more : List (ℕ × Action)) (endpoint : Endpoint (PutterView Asked ℕ)) → AreAskedAt controls trace endpoint →
    AreAskedAt controls (trace ++ more) endpoint
asked_on controls trace more endpoint is d =
    let a = (get_or controls endpoint.place d).actor in
    all_zip_weaker (IsAskedAfter trace a) (IsAskedAfter (trace ++ more) a) endpoint.pass.put endpoint.pass.stamps
    (λ kill stamp was. (was.0, Contains-append_left trace more (was.0, KillAsked a) was.1, was.2)) (is d)

all_asked_on : (controls : List ControlView) (trace more : List (ℕ × Action)) (endpoints : List (Endpoint (PutterView Asked ℕ))) →
    All (AreAskedAt controls trace) endpoints → All (AreAskedAt controls (trace ++ more)) endpoints
all_asked_on controls trace more endpoints all =
    All-weaker (AreAskedAt controls trace) (AreAskedAt controls (trace ++ more)) (λ endpoint. asked_on controls trace more endpoint) endpoints all

-- ---- the clock goes on

abbrev post_stamps : CallerPasses → List ℕ
post_stamps passes = flat_map (λ endpoint. endpoint.pass.stamps) passes.letters.items

abbrev ask_stamps : CallerPasses → List ℕ
ask_stamps passes = flat_map (λ endpoint. endpoint.pass.stamps) passes.kills.items

clock_on : (old new : CallerPasses) → greatest (post_stamps old) ≤ greatest (post_stamps new) → greatest (ask_stamps old) ≤ greatest (ask_stamps new) →
    greatest (map suc old.collects.stamps) ≤ greatest (map suc new.collects.stamps) → caller_clock old ≤ caller_clock new
clock_on old new posts asks taken = clock_grows (post_stamps old ++ ask_stamps old) (post_stamps new ++ ask_stamps new) old.collects.stamps new.collects.stamps
    (greatest_grows (post_stamps old) (ask_stamps old) (post_stamps new) (ask_stamps new) posts asks) taken

-- an item more at an endpoint
more_at : {T N : Type 0} (endpoints : List (Endpoint (PutterView T N))) (at : ℕ) {endpoint : Endpoint (PutterView T N)} (next : Endpoint (PutterView T N))
    (stamp : ℕ) → at < length endpoints → endpoint ≡ get_or endpoints at endpoint → next.pass.stamps ≡ endpoint.pass.stamps ++ stamp ∷ [] →
    greatest (flat_map (λ (e : Endpoint (PutterView T N)). e.pass.stamps) endpoints) ≤ greatest
    (flat_map (λ (e : Endpoint (PutterView T N)). e.pass.stamps) (set endpoints at next))
more_at endpoints at {endpoint} next stamp below here more =
    let was : greatest endpoint.pass.stamps ≡ greatest (get_or endpoints at endpoint).pass.stamps =
    ap (λ (e : Endpoint (PutterView _ _)). greatest e.pass.stamps) here in
    let now : greatest next.pass.stamps ≡ greatest (endpoint.pass.stamps ++ stamp ∷ []) = ap greatest more in
    let pushed = (greatest_pushed endpoint.pass.stamps stamp).0 in
    greatest_set (λ (e : Endpoint (PutterView _ _)). e.pass.stamps) endpoints at endpoint next below (omega (arith, was, now, pushed))

-- ---- nothing was done

-- the trace is kept where owner, letters, kills and notices are as before, and no letter came into the outbox
pub traces_kept : (lines : CallerLines) (old new : Driver) → new.owner ≡ old.owner → new.passes.letters.items ≡ old.passes.letters.items →
    new.passes.kills.items ≡ old.passes.kills.items → new.passes.collects ≡ old.passes.collects →
    ((letter : Letter) → new.outbox ≡ Some letter → old.outbox ≡ Some letter) → Traces lines old new
traces_kept lines old new is letters kills collects outbox start done was =
    let controls = lines.controls.now in let trace = was.trace in let before = was.trace_is in
    let posts : greatest (post_stamps old.passes) ≡ greatest (post_stamps new.passes) = ap (λ l. greatest (flat_map (λ e. e.pass.stamps) l)) (sym letters) in
    let asks : greatest (ask_stamps old.passes) ≡ greatest (ask_stamps new.passes) = ap (λ l. greatest (flat_map (λ e. e.pass.stamps) l)) (sym kills) in
    let taken : greatest (map suc old.passes.collects.stamps) ≡ greatest (map suc new.passes.collects.stamps) =
    ap (λ (t : TakerView Notice RunItem). greatest (map suc t.stamps)) (sym collects) in
    let on : caller_clock old.passes ≤ caller_clock new.passes =
    clock_on old.passes new.passes (omega (arith, posts)) (omega (arith, asks)) (omega (arith, taken)) in
    record {
      trace = trace;
      trace_is = record {
        timed = timed_later on before.timed;
        allowed = before.allowed;
        owner_is = is ∙ before.owner_is;
        notices = before.notices ∙ ap (λ (t : TakerView Notice RunItem). t.taken) (sym collects);
        notices_later = subst (λ (t : TakerView Notice RunItem). AreTakenLater (found_in notice_of trace) t.stamps) (sym collects) before.notices_later;
        posted = subst (λ l. All (ArePosted start trace) l) (sym letters) before.posted;
        asked = subst (λ l. All (AreAskedAt controls trace) l) (sym kills) before.asked;
      };
      held = λ letter has. subst (λ l. IsPostedAfter start l letter (caller_clock new.passes)) (append-nil trace)
          (posted_on start trace [] letter (caller_clock old.passes) (caller_clock new.passes) on (was.held letter (outbox letter has)));
      does = was.does;
    }

-- the outbox is emptied
pub traces_dropped : (lines : CallerLines) (old new : Driver) → new.owner ≡ old.owner → new.passes ≡ old.passes → new.outbox ≡ None → Traces lines old new
traces_dropped lines old new is passes empty =
    traces_kept lines old new is (ap (λ (p : CallerPasses). p.letters.items) passes) (ap (λ (p : CallerPasses). p.kills.items) passes)
    (ap (λ (p : CallerPasses). p.collects) passes) (λ letter has. absurd (cc (has, empty)))

-- a full line hands the letter back
pub traces_back : (lines : CallerLines) (old new : Driver) (letter : Letter) {back : Letter} (at : ℕ) (endpoint : Endpoint (PutterView Letter Unit))
    (pass : PutterView Letter Unit) → old.outbox ≡ Some letter → endpoint ≡ get_or old.passes.letters.items at endpoint → pass ≡ endpoint.pass →
    new.owner ≡ old.owner → new.passes.letters.items ≡ set old.passes.letters.items at (record { place = endpoint.place; pass = pass }) →
    new.passes.kills ≡ old.passes.kills → new.passes.collects ≡ old.passes.collects → new.outbox ≡ Some back → back ≡ letter → Traces lines old new
traces_back lines old new letter at endpoint pass held here same is letters kills collects outbox handed =
    let items = old.passes.letters.items in
    let letters_same : new.passes.letters.items ≡ items =
    letters ∙ ap (λ p. set items at (record { place = endpoint.place; pass = p })) same ∙ ap (λ x. set items at x) here ∙ set-get_or items at endpoint in
    traces_kept lines old new is letters_same (ap (λ (v : _). v.items) kills) collects (λ other has. held ∙ ap Some (sym handed) ∙ sym outbox ∙ has)

-- ---- a step of the owner's

-- with the same passes
trace_step : {controls : List ControlView} {start old new : OwnerView} {passes : CallerPasses} {trace : List (ℕ × Action)} (step : Action) →
    notice_of step ≡ None → CallerMayDo old step → new ≡ after_action old step → IsCallerTrace controls start old passes trace →
    IsCallerTrace controls start new passes (trace ++ (caller_clock passes, step) ∷ [])
trace_step {controls} {start} {old} {new} {passes} {trace} step quiet may is was =
    let now = caller_clock passes in
    let after = stepped start old new trace now step may is was.allowed was.owner_is in
    record {
      timed = timed_push {n = now} now step (omega arith) (omega arith) was.timed;
      allowed = after.0;
      owner_is = after.1;
      notices = part_none notice_of trace now step passes.collects.taken quiet was.notices refl;
      notices_later = later_none notice_of trace now step passes.collects.stamps passes.collects.stamps quiet was.notices_later refl;
      posted = all_posted_on start trace ((now, step) ∷ []) passes.letters.items was.posted;
      asked = all_asked_on controls trace ((now, step) ∷ []) passes.kills.items was.asked;
    }

-- the same of a driver, where the letter in the outbox has its cause
tracing_step : {lines : CallerLines} {start : OwnerView} {done : List Step} (next : List Step) (old new : Driver) (step : Action) → notice_of step ≡ None →
    CallerMayDo old.owner step → new.owner ≡ after_action old.owner step → new.passes ≡ old.passes → (was : IsTracing start lines done old) →
    DoesPlan start next (steps_in was.trace ++ step ∷ []) → ((letter : Letter) → new.outbox ≡ Some letter →
    IsPostedAfter start (was.trace ++ (caller_clock old.passes, step) ∷ []) letter (caller_clock old.passes)) → IsTracing start lines next new
tracing_step {lines} {start} next old new step quiet may is passes was does held =
    let now = caller_clock old.passes in
    let clocks : caller_clock new.passes ≡ now = ap (λ p. caller_clock p) passes in
    record {
      trace = was.trace ++ (now, step) ∷ [];
      trace_is = subst (λ p. IsCallerTrace lines.controls.now start new.owner p (was.trace ++ (now, step) ∷ [])) (sym passes)
          (trace_step step quiet may is was.trace_is);
      held = λ letter has. subst (λ n. IsPostedAfter start (was.trace ++ (now, step) ∷ []) letter n) (sym clocks) (held letter has);
      does = subst (DoesPlan start next) (sym (steps_more was.trace ((now, step) ∷ []))) does;
    }

-- a plan's step is done in the trace by a step that the caller may do, collecting nothing, with the same passes
pub traces_step : (lines : CallerLines) (old new : Driver) (planned : Step) (step : Action) →
    ((owner : OwnerView) (before : List Action) → DoesStep owner planned before (before ++ step ∷ [])) → notice_of step ≡ None → CallerMayDo old.owner step →
    new.owner ≡ after_action old.owner step → new.passes ≡ old.passes → new.outbox ≡ old.outbox → TracesStep lines planned old new
traces_step lines old new planned step so quiet may is passes outbox start done was =
    let now = caller_clock old.passes in
    tracing_step (done ++ planned ∷ []) old new step quiet may is passes was (plan_more start done (steps_in was.trace) planned (step ∷ []) (λ o before same. so
    o before) was.does) (λ letter has. posted_on start was.trace ((now, step) ∷ []) letter now now (omega arith) (was.held letter (sym outbox ∙ has)))

free : (known sent answered : Bool) → (known && not sent && not answered) ≡ true → needs known NotReady (needs (sent || not answered) Answered None) ≡ None
free true false false is = refl
free true false true is = absurd (cc is)
free true true answered is = absurd (cc is)
free false sent answered is = absurd (cc is)

may_send : (owner : OwnerView) (k : ℕ) (sent : Bool) (found : Option Submission) →
    (is_known_call owner found && not sent && not (is_some (kept_at owner.kept k))) ≡ true → send_refusal owner.kept k sent found ≡ None
may_send owner k sent None ready = absurd (cc ready)
may_send owner k sent (Some call) ready = free (is_known_call owner (Some call)) sent (is_some (kept_at owner.kept k)) ready

-- nothing refuses the sending of a call that is ready
pub ready_sends : (owner : OwnerView) (k : ℕ) → first_ready owner ≡ Some k → sending_refusal owner k ≡ None
ready_sends owner k ready =
    may_send owner k (is_sent owner k) (slice_get owner.calls k) (found_passes (is_ready owner) (range_with_len 0 (length owner.calls)) ready)

-- a call is sent, and its packet is in the outbox
pub traces_taken : (lines : CallerLines) (old new : Driver) (packet : Packet) → sending_refusal old.owner packet.future ≡ None →
    new.owner ≡ with_sent old.owner packet.future → new.passes ≡ old.passes → new.outbox ≡ Some (Call packet) → Traces lines old new
traces_taken lines old new packet may is passes outbox start done was =
    let now = caller_clock old.passes in let step : Action = Sent packet.future in
    tracing_step done old new step refl may is passes was (meanwhile_more start done (steps_in was.trace) step tt was.does) (λ letter has.
    let same : Call packet ≡ letter = cc (has, outbox) in
    subst (λ l. IsPostedAfter start (was.trace ++ (now, step) ∷ []) l now) same (now, Contains-push was.trace (now, step), omega arith))

one_left : (copies : Option ℕ) → copies_held copies ≡ 1 → option_map (λ n. n - 1) copies ≡ Some 0
one_left None one = absurd (omega (arith, one))
one_left (Some n) one = ap (λ m. Some (m - 1)) one

-- the last handle is let go, and its note is in the outbox
pub traces_noted : (lines : CallerLines) (old new : Driver) (a : ℕ) {note : ReleaseNote} → handle_refusal (copies_in a old.owner.handles) ≡ None →
    copies_held (copies_in a old.owner.handles) ≡ 1 → note.actor ≡ a → new.owner ≡ with_handles old.owner (without_copy a old.owner.handles) →
    new.passes ≡ old.passes → new.outbox ≡ Some (Note note) → TracesStep lines (Release a) old new
traces_noted lines old new a {note} may one to is passes outbox start done was =
    let now = caller_clock old.passes in let step : Action = Released a in let trace : List (ℕ × Action) = was.trace ++ (now, step) ∷ [] in
    let next = trace_step step refl may is was.trace_is in
    let none : copies_in note.actor new.owner.handles ≡ Some 0 = ap (λ n. copies_in n new.owner.handles) to ∙ ap (λ (o : OwnerView). copies_in a o.handles) is ∙
    copies-without_copy a old.owner.handles ∙ one_left (copies_in a old.owner.handles) one in
    tracing_step (done ++ Release a ∷ []) old new step refl may is passes was (plan_more start done (steps_in was.trace) (Release a) (step ∷ [])
    (λ o before same. refl) was.does) (λ letter has. let same : Note note ≡ letter = cc (has, outbox) in subst (λ l. IsPostedAfter start trace l now) same
    (trace, [], sym (append-nil trace), next.timed.past, subst (λ (o : OwnerView). copies_in note.actor o.handles ≡ Some 0) next.owner_is none))

-- ---- a notice

pub traces_heard : (lines : CallerLines) (old new : Driver) (notice : Notice) (n : ℕ) → new.owner ≡ after_collect old.owner notice →
    new.passes.collects.taken ≡ old.passes.collects.taken ++ notice ∷ [] → new.passes.collects.stamps ≡ old.passes.collects.stamps ++ n ∷ [] →
    new.passes.letters ≡ old.passes.letters → new.passes.kills ≡ old.passes.kills → new.outbox ≡ old.outbox → Traces lines old new
traces_heard lines old new notice n is taken stamps letters kills outbox start done was =
    let controls = lines.controls.now in let trace = was.trace in let before = was.trace_is in let now = caller_clock new.passes in
    let step : Action = Noticed notice in
    let clocks : now ≡ caller_clock (record {
      letters = old.passes.letters;
      kills = old.passes.kills;
      collects = record old.passes.collects { stamps = old.passes.collects.stamps ++ n ∷ [] };
    }) =
    λ i. caller_clock (record { letters = letters i; kills = kills i; collects = record old.passes.collects { stamps = stamps i } }) in
    let takes = clock_taken (post_stamps old.passes ++ ask_stamps old.passes) old.passes.collects.stamps n in
    let on : caller_clock old.passes ≤ now = omega (arith, clocks, takes.0) in
    let later : n < now = omega (arith, clocks, takes.1) in
    let after = stepped start old.owner new.owner trace now step tt is before.allowed before.owner_is in
    record {
      trace = trace ++ (now, step) ∷ [];
      trace_is = record {
        timed = timed_push now step on (omega arith) before.timed;
        allowed = after.0;
        owner_is = after.1;
        notices = part_one notice_of trace now step notice refl before.notices taken;
        notices_later = later_one notice_of trace now step notice old.passes.collects.stamps refl later before.notices_later stamps;
        posted = subst (λ (v : _). All (ArePosted start (trace ++ (now, step) ∷ [])) v.items) (sym letters)
            (all_posted_on start trace ((now, step) ∷ []) old.passes.letters.items before.posted);
        asked = subst (λ (v : _). All (AreAskedAt controls (trace ++ (now, step) ∷ [])) v.items) (sym kills)
            (all_asked_on controls trace ((now, step) ∷ []) old.passes.kills.items before.asked);
      };
      held = λ letter has. posted_on start trace ((now, step) ∷ []) letter (caller_clock old.passes) now on (was.held letter (sym outbox ∙ has));
      does = subst (DoesPlan start done) (sym (steps_more trace ((now, step) ∷ []))) (meanwhile_more start done (steps_in trace) step tt was.does);
    }

-- ---- a letter is posted

pub traces_posted : (lines : CallerLines) (old new : Driver) (letter : Letter) (at : ℕ) (endpoint : Endpoint (PutterView Letter Unit)) (pass : PutterView Letter
    Unit) {stamp : ℕ} → stamp ≡ caller_clock old.passes → old.outbox ≡ Some letter → at < length old.passes.letters.items → endpoint ≡ get_or
    old.passes.letters.items at endpoint → pass ≡ record endpoint.pass { put = endpoint.pass.put ++ letter ∷ []; stamps = endpoint.pass.stamps ++ stamp ∷ [] } →
    new.owner ≡ old.owner → new.passes.letters.items ≡ set old.passes.letters.items at (record { place = endpoint.place; pass = pass }) →
    new.passes.kills ≡ old.passes.kills → new.passes.collects ≡ old.passes.collects → new.outbox ≡ None → Traces lines old new
traces_posted lines old new letter at endpoint pass {stamp} now held below here put is letters kills collects empty start done was =
    let controls = lines.controls.now in let trace = was.trace in let before = was.trace_is in
    let next : Endpoint (PutterView Letter Unit) = record { place = endpoint.place; pass = pass } in
    let more = more_at old.passes.letters.items at next stamp below here (ap (λ (p : PutterView Letter Unit). p.stamps) put) in
    let posts : greatest (post_stamps new.passes) ≡ greatest (flat_map (λ (e : Endpoint (PutterView Letter Unit)). e.pass.stamps)
    (set old.passes.letters.items at next)) = ap (λ l. greatest (flat_map (λ e. e.pass.stamps) l)) letters in
    let asks : greatest (ask_stamps old.passes) ≡ greatest (ask_stamps new.passes) =
    ap (λ (v : _). greatest (flat_map (λ e. e.pass.stamps) v.items)) (sym kills) in
    let taken : greatest (map suc old.passes.collects.stamps) ≡ greatest (map suc new.passes.collects.stamps) =
    ap (λ (t : TakerView Notice RunItem). greatest (map suc t.stamps)) (sym collects) in
    let on : caller_clock old.passes ≤ caller_clock new.passes =
    clock_on old.passes new.passes (omega (arith, posts, more)) (omega (arith, asks)) (omega (arith, taken)) in
    let there : ArePosted start trace endpoint = subst (ArePosted start trace) (sym here) (before.posted at endpoint below) in
    let one : ArePosted start trace (record {
      place = endpoint.place;
      pass = record endpoint.pass { put = endpoint.pass.put ++ letter ∷ []; stamps = endpoint.pass.stamps ++ stamp ∷ [] };
    }) =
    all_zipped_more (IsPostedAfter start trace) endpoint.pass.put endpoint.pass.stamps letter stamp there
    (subst (λ n. IsPostedAfter start trace letter n) (sym now) (was.held letter held)) in
    let one : ArePosted start trace next = subst (λ p. ArePosted start trace (record { place = endpoint.place; pass = p })) (sym put) one in
    record {
      trace = trace;
      trace_is = record {
        timed = timed_later on before.timed;
        allowed = before.allowed;
        owner_is = is ∙ before.owner_is;
        notices = before.notices ∙ ap (λ (t : TakerView Notice RunItem). t.taken) (sym collects);
        notices_later = subst (λ (t : TakerView Notice RunItem). AreTakenLater (found_in notice_of trace) t.stamps) (sym collects) before.notices_later;
        posted = subst (λ l. All (ArePosted start trace) l) (sym letters) (All-set (ArePosted start trace) old.passes.letters.items at next one before.posted);
        asked = subst (λ (v : _). All (AreAskedAt controls trace) v.items) (sym kills) before.asked;
      };
      held = λ other has. absurd (cc (has, empty));
      does = was.does;
    }

-- ---- a kill is asked

pub traces_asked : (lines : CallerLines) (old new : Driver) (a at : ℕ) (endpoint : Endpoint (PutterView Asked ℕ)) {pass : PutterView Asked ℕ} (kill : Asked)
    {stamp : ℕ} → stamp ≡ caller_clock old.passes → handle_refusal (copies_in a old.owner.handles) ≡ None → at < length old.passes.kills.items →
    endpoint ≡ get_or old.passes.kills.items at endpoint → ((d : ControlView) → (get_or lines.controls.now endpoint.place d).actor ≡ a) →
    pass ≡ record endpoint.pass { put = endpoint.pass.put ++ kill ∷ []; stamps = endpoint.pass.stamps ++ stamp ∷ [] } → new.owner ≡ old.owner →
    new.passes.kills.items ≡ set old.passes.kills.items at (record { place = endpoint.place; pass = pass }) → new.passes.letters ≡ old.passes.letters →
    new.passes.collects ≡ old.passes.collects → new.outbox ≡ old.outbox → TracesStep lines (Kill a) old new
traces_asked lines old new a at endpoint {pass} kill {stamp} now may below here there put is kills letters collects outbox start done was =
    let controls = lines.controls.now in let clock = caller_clock old.passes in let step : Action = KillAsked a in
    let trace : List (ℕ × Action) = was.trace ++ (clock, step) ∷ [] in let before = trace_step step refl may is was.trace_is in
    let next : Endpoint (PutterView Asked ℕ) = record { place = endpoint.place; pass = pass } in
    let more = more_at old.passes.kills.items at next stamp below here (ap (λ (p : PutterView Asked ℕ). p.stamps) put) in
    let asks : greatest (ask_stamps new.passes) ≡ greatest (flat_map (λ (e : Endpoint (PutterView Asked ℕ)). e.pass.stamps)
    (set old.passes.kills.items at next)) = ap (λ l. greatest (flat_map (λ e. e.pass.stamps) l)) kills in
    let posts : greatest (post_stamps old.passes) ≡ greatest (post_stamps new.passes) =
    ap (λ (v : _). greatest (flat_map (λ e. e.pass.stamps) v.items)) (sym letters) in
    let taken : greatest (map suc old.passes.collects.stamps) ≡ greatest (map suc new.passes.collects.stamps) =
    ap (λ (t : TakerView Notice RunItem). greatest (map suc t.stamps)) (sym collects) in
    let on : clock ≤ caller_clock new.passes = clock_on old.passes new.passes (omega (arith, posts)) (omega (arith, asks, more)) (omega (arith, taken)) in
    let here_was : AreAskedAt controls trace endpoint = subst (AreAskedAt controls trace) (sym here) (before.asked at endpoint below) in
    let one : AreAskedAt controls trace
    (record { place = endpoint.place; pass = record endpoint.pass { put = endpoint.pass.put ++ kill ∷ []; stamps = endpoint.pass.stamps ++ stamp ∷ [] } }) =
    λ d. all_zipped_more (IsAskedAfter trace (get_or controls endpoint.place d).actor) endpoint.pass.put endpoint.pass.stamps kill stamp (here_was d)
    (subst (λ n. IsAskedAfter trace n kill stamp) (sym (there d)) (clock, Contains-push was.trace (clock, step), omega (arith, now))) in
    let one : AreAskedAt controls trace next = subst (λ p. AreAskedAt controls trace (record { place = endpoint.place; pass = p })) (sym put) one in
    record {
      trace = trace;
      trace_is = record {
        timed = timed_later on before.timed;
        allowed = before.allowed;
        owner_is = before.owner_is;
        notices = before.notices ∙ ap (λ (t : TakerView Notice RunItem). t.taken) (sym collects);
        notices_later = subst (λ (t : TakerView Notice RunItem). AreTakenLater (found_in notice_of trace) t.stamps) (sym collects) before.notices_later;
        posted = subst (λ (v : _). All (ArePosted start trace) v.items) (sym letters) before.posted;
        asked =
            subst (λ l. All (AreAskedAt controls trace) l) (sym kills) (All-set (AreAskedAt controls trace) old.passes.kills.items at next one before.asked);
      };
      held = λ letter has. posted_on start was.trace ((clock, step) ∷ []) letter clock (caller_clock new.passes) on (was.held letter (sym outbox ∙ has));
      does = subst (DoesPlan start (done ++ Kill a ∷ [])) (sym (steps_more was.trace ((clock, step) ∷ [])))
          (plan_more start done (steps_in was.trace) (Kill a) (step ∷ []) (λ o before same. inr refl) was.does);
    }

-- ---- a step that leaves no step in the trace

unstepped : (start : OwnerView) {lines : CallerLines} (done : List Step) {driver : Driver} (step : Step) →
    ((o : OwnerView) (before : List Action) → after_actions o before ≡ driver.owner → DoesStep o step before before) → IsTracing start lines done driver →
    IsTracing start lines (done ++ step ∷ []) driver
unstepped start done step so was = record {
  trace = was.trace;
  trace_is = was.trace_is;
  held = was.held;
  does = subst (DoesPlan start (done ++ step ∷ [])) (append-nil (steps_in was.trace)) (plan_more start done (steps_in was.trace) step []
      (λ o before same. subst (DoesStep o step before) (sym (append-nil before)) (so o before (same ∙ sym was.trace_is.owner_is))) was.does);
}

-- a kill that needn't be asked
pub traces_spared : (lines : CallerLines) (old new : Driver) (a : ℕ) → Traces lines old new → is_known_dead new.owner a ≡ true →
    TracesStep lines (Kill a) old new
traces_spared lines old new a waits dead start done was =
    unstepped start done (Kill a) (λ o before same. inl (refl, ap (λ owner. is_known_dead owner a) same ∙ dead)) (waits start done was)

-- a future that is answered now
pub traces_awaited : (lines : CallerLines) (old new : Driver) (k : ℕ) → Traces lines old new → is_some (kept_at new.owner.kept k) ≡ true →
    TracesStep lines (Await k) old new
traces_awaited lines old new k waits answered start done was =
    unstepped start done (Await k) (λ o before same. (refl, ap (λ (v : OwnerView). is_some (kept_at v.kept k)) same ∙ answered)) (waits start done was)

-- ---- handles let go

closed_steps : (done : List Step) (closing more : List ℕ) →
    (done ++ map (λ a. Release a) closing) ++ map (λ a. Release a) more ≡ done ++ map (λ a. Release a) (closing ++ more)
closed_steps done closing more =
    append_assoc done (map (λ a. Release a) closing) (map (λ a. Release a) more) ∙ ap (λ l. done ++ l) (sym (map-append (λ a. Release a) closing more))

-- a trace that goes on with some handles let go, and then with more, goes on with all of them let go
pub closing_trans : (lines : CallerLines) (old mid new : Driver) → TracesClosing lines old mid → TracesClosing lines mid new → TracesClosing lines old new
closing_trans lines old mid new one two start done was =
    let first = one start done was in let then = two start (done ++ map (λ a. Release a) first.0) first.1 in
    (first.0 ++ then.0, subst (λ l. IsTracing start lines l new) (closed_steps done first.0 then.0) then.1)

pub closing_step : (lines : CallerLines) (old new : Driver) (a : ℕ) → TracesStep lines (Release a) old new → TracesClosing lines old new
closing_step lines old new a step start done was = (a ∷ [], step start done was)

-- ---- results

-- a step that is done for all lines
pub traced_step_of : {E : Type 0} (result : Result Unit E) (lines : CallerLines) {step other : Step} (old new : Driver) → step ≡ other →
    OnOk result ((l : CallerLines) → TracesStep l other old new) → OnOk result (TracesStep lines step old new)
traced_step_of (Ok x) lines old new is all = subst (λ s. TracesStep lines s old new) (sym is) (all lines)
traced_step_of (Err e) lines old new is all = tt

-- a step that is done after a wait
pub traced_waited : {E : Type 0} (result : Result Unit E) (lines : CallerLines) (step : Step) (old between new : Driver) → Traces lines old between →
    OnOk result ((l : CallerLines) → TracesStep l step between new) → OnOk result (TracesStep lines step old new)
traced_waited (Ok x) lines step old between new waits all = λ start done is. all lines start done (waits start done is)
traced_waited (Err e) lines step old between new waits all = tt

-- a refusal after a wait
pub unchanged_waited : {A E : Type 0} (result : Result A E) (lines : CallerLines) (old between new : Driver) → Traces lines old between →
    OnErr result (new ≡ between) → OnErr result (Traces lines old new)
unchanged_waited (Ok x) lines old between new waits same = tt
unchanged_waited (Err e) lines old between new waits same = subst (λ d. Traces lines old d) (sym same) waits

pub unchanged : {A E : Type 0} (result : Result A E) (lines : CallerLines) (old new : Driver) → OnErr result (new ≡ old) → OnErr result (Traces lines old new)
unchanged result lines old new same = unchanged_waited result lines old old new (λ start done is. is) same

-- ---- the opening

-- a caller as it was opened, with an empty outbox, has a trace in which no step of a plan was done
pub fresh_tracing : {lines : CallerLines} (driver : Driver) → IsFreshCaller lines driver.owner driver.passes → driver.outbox ≡ None →
    IsTracing driver.owner lines [] driver
fresh_tracing {lines} driver fresh empty =
    let unused = fresh.unused in
    record {
      trace = [];
      trace_is = record {
        timed = timed_none (caller_clock driver.passes) [] refl;
        allowed = tt;
        owner_is = refl;
        notices = sym unused.taken;
        notices_later = zip_none (λ (x : ℕ × Notice) stamp. stamp < x.0) {xs = []} refl unused.stamps;
        posted = λ k e below.
            let s : IsFreshEndpoint lines.mails.now driver.owner.id (get_or driver.passes.letters.items k e) = unused.letters k e below in
            zip_none (IsPostedAfter driver.owner []) s.put s.stamps;
        asked = λ k e below d.
            let pass : PutterView Asked ℕ = (get_or driver.passes.kills.items k e).pass in
            zip_none (IsAskedAfter [] (get_or lines.controls.now (get_or driver.passes.kills.items k e).place d).actor) (unused.asked k e below)
            (unused.asked_stamps k e below);
      };
      held = λ letter has. absurd (cc (has, empty));
      does = λ k e below. absurd (omega (arith, below));
    }

-- what a trace of a driver says of the caller
pub traced_of : (lines : CallerLines) (start : OwnerView) (plan : List Step) (driver : Driver) → IsTracingClosed start lines plan driver →
    HasDonePlan lines.controls.now start driver.owner plan driver.passes
traced_of lines start plan driver is = (is.1.trace, is.1.trace_is, (is.0, is.1.does))
