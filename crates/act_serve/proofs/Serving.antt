-- What an executor keeps from turn to turn.
use Rattle.act_serve.proofs.Common.{◌≡◌, ◌≢◌, ℕ, ◌+◌, ◌<◌, ◌≤◌, Bool, true, false, cond, List, [], ◌∷◌, ◌++◌, Option, Some, None, Result, Ok, Err, IfOk, OnOk}
use Rattle.act_serve.proofs.Common.{IfSome, IfNone, inl, inr, ◌⊎◌, length, get_or, map, refl, ap, sym, ◌∙◌, subst, arith, append-nil, All, ◌==◌}
use Rattle.act_serve.proofs.Common.{AllPairs, set, take, drop, is_some, eq-eqb, ne_eqb, cases_lt, get_or-map, get_or-set_other, length-map, length-set}
use Rattle.act_serve.proofs.Common.{get_or-set_at, map_over_more, TableId, KindState, Packet, Reply, Answered, Death, RunItem, after_item, state_after}
use Rattle.act_serve.proofs.Common.{items_of, has_terminated, NothingFollowsAnEnd, state_after-push, contains, next_of, LiveView, DeadView, RetiredView}
use Rattle.act_serve.proofs.Common.{live_view, item_of, reply_of_run, next_call, MayRetire, HasRunCall, HasRunFrom, Letter, ControlExecView, looked_after}
use Rattle.act_serve.proofs.Common.{TakerView, RepliesView, ReplyExecView, ExecPasses, Endpoint, Killed, Retired, Starved, IsLogOf, first_note, replies_to}
use Rattle.act_serve.proofs.Common.{caller_at, endpoint_callers, without_given, IsUntaken, KillsOfDead, ExecPassesStay, HasServed, IsActorTraced, IsTracedSoFar}
use Rattle.act_serve.proofs.Common.{EndpointsDiffer, IsFreshExec, IsFed, IsServing, HasReplies, HasReplied, IsAtItsEndpoint, PassesFit, with_death_given}
use Rattle.std.specs.Option.{option_map}
use Rattle.std.proofs.lemmas.Simd.{map-map}
use Rattle.act_serve.proofs.Traces.{traced_retired}
use Rattle.act_serve.proofs.Logs.{Tells, same, other, tells, last_reply, replies_more, fed_run}

-- ---- one call

-- a call that is to run is the next of its caller's, at an actor that did not terminate
lives : (b : Bool) (next : Option Packet) (packet : Packet) → cond b None next ≡ Some packet → (b ≡ false) × (next ≡ Some packet)
lives true next packet e = cc
lives false next packet e = (refl, e)

replied_next : {S : Type 0} (read : S → KindState) (caller : ℕ) (before after : LiveView S) (next : Option Packet) {reply : Option Reply} →
    next_call before.log before.inbox caller ≡ next → reply ≡ option_map (reply_of_run (live_view read before)) next →
    IfSome next (λ packet. HasRunCall caller packet (live_view read before) (live_view read after)) → IfSome reply (λ r. HasReplied read caller r before after)
replied_next read caller before after None e is ran = rw is tt
replied_next read caller before after (Some packet) e is ran = let on = lives (has_terminated before.log) (next_of before.inbox caller) packet e in
    rw is (record {
      lived = on.0;
      item = item_of packet;
      log = ran.log;
      id = ran.id;
      of_caller = ran.taken.of_caller;
      reply_is = refl;
      state = ran.state;
      fed = fed_run read before after on.1 ran;
    })

pub replied : {E S : Type 0} (read : S → KindState) (caller : ℕ) (before after : LiveView S) (result : Result (Option Reply) E)
    → IfOk result (λ reply. reply ≡ option_map (reply_of_run (live_view read before)) (next_call before.log before.inbox caller))
    → OnOk result (IfSome (next_call before.log before.inbox caller) (λ packet. HasRunCall caller packet (live_view read before) (live_view read after)))
    → IfOk result (λ reply. IfSome reply (λ r. HasReplied read caller r before after))
replied read caller before after (Ok reply) is ran = replied_next read caller before after (next_call before.log before.inbox caller) refl is ran
replied read caller before after (Err error) is ran = tt

-- ---- replies

differ_at : (xs : List ℕ) (i j e : ℕ) → AllPairs (λ x y. x ≢ y) xs → i ≢ j → i < length xs → j < length xs → get_or xs i e ≢ get_or xs j e
differ_at xs i j e apart ne below under = go (cases_lt i j)
  where
    go : (i < j) ⊎ (j ≤ i) → get_or xs i e ≢ get_or xs j e
    go (inl lt) = apart i j e lt under
    go (inr le) = let lt : j < i = omega (arith, le, ne) in λ f. apart j i e lt below (sym f)

module _ {S : Type 0} {read : S → KindState} (opening : KindState) (lines : List RepliesView) (caller : ℕ) (reply : Reply) (before after : LiveView S)
    (ran : HasReplied read caller reply before after) (from : HasRunFrom opening (live_view read before)) where
  -- what is due to a caller now
  due : (c : ℕ) → replies_to opening after.id after.log c ≡ replies_to opening before.id before.log c ++ cond (ran.item.caller == c) (Answered reply ∷ []) []
  due c =
      (λ i. replies_to opening (ran.id i) (ran.log i) c)
      ∙ replies_more opening before.id c before.log ran.item
      ∙ ap (λ state. replies_to opening before.id before.log c ++ last_reply before.id c ran.item (length before.log) (after_item state ran.item).1) (sym from)
      ∙ ap (λ r. replies_to opening before.id before.log c ++ cond (ran.item.caller == c) (Answered r ∷ []) []) (sym ran.reply_is)

  follows_on : HasRunFrom opening (live_view read after)
  follows_on =
      ran.state ∙ ap (λ state. (after_item state ran.item).0) from ∙ sym (state_after-push opening before.log ran.item) ∙ ap (state_after opening) (sym ran.log)

  due_here : (endpoint : Endpoint ReplyExecView) (pass : ReplyExecView) → caller ≡ caller_at lines endpoint.place →
      pass.given ≡ endpoint.pass.given ++ Answered reply ∷ [] → HasReplies opening lines before.id before.log endpoint →
      HasReplies opening lines after.id after.log (record { place = endpoint.place; pass = pass })
  due_here endpoint pass mine is had =
      is ∙ ap (λ l. l ++ Answered reply ∷ []) had
      ∙ ap (λ b. replies_to opening before.id before.log (caller_at lines endpoint.place) ++ cond b (Answered reply ∷ []) [])
      (sym (eq-eqb ran.item.caller (caller_at lines endpoint.place) (ran.of_caller ∙ mine)))
      ∙ sym (due (caller_at lines endpoint.place))

  due_there : (endpoint : Endpoint ReplyExecView) → caller ≢ caller_at lines endpoint.place → HasReplies opening lines before.id before.log endpoint →
      HasReplies opening lines after.id after.log endpoint
  due_there endpoint apart had =
      had
      ∙ sym (append-nil (replies_to opening before.id before.log (caller_at lines endpoint.place)))
      ∙ ap (λ b. replies_to opening before.id before.log (caller_at lines endpoint.place) ++ cond b (Answered reply ∷ []) [])
      (sym (ne_eqb ran.item.caller (caller_at lines endpoint.place) (λ e. apart (sym ran.of_caller ∙ e))))
      ∙ sym (due (caller_at lines endpoint.place))

  due_all : (endpoints : List (Endpoint ReplyExecView)) (at : ℕ) (endpoint : Endpoint ReplyExecView) (pass : ReplyExecView) → at < length endpoints →
      ((d : Endpoint ReplyExecView) → get_or endpoints at d ≡ endpoint) → caller ≡ caller_at lines endpoint.place → pass.given ≡ endpoint.pass.given ++ Answered
      reply ∷ [] → EndpointsDiffer lines endpoints → All (HasReplies opening lines before.id before.log) endpoints → (k : ℕ) (d : Endpoint ReplyExecView) →
      k < length endpoints → HasReplies opening lines after.id after.log (get_or (set endpoints at (record { place = endpoint.place; pass = pass })) k d)
  due_all endpoints at endpoint pass below here mine is differ had k d lt = go (tells k at)
    where
      given : Endpoint ReplyExecView
      given = record { place = endpoint.place; pass = pass }

      caller_of : Endpoint ReplyExecView → ℕ
      caller_of s = caller_at lines s.place

      long : length (endpoint_callers lines endpoints) ≡ length endpoints
      long = length-map endpoints (λ (s : Endpoint ReplyExecView). caller_at lines s.place)

      go : Tells k at → HasReplies opening lines after.id after.log (get_or (set endpoints at given) k d)
      go (same b e) =
          subst (HasReplies opening lines after.id after.log) (sym (get_or-set_at endpoints at k given d e below))
          (due_here endpoint pass mine is (subst (HasReplies opening lines before.id before.log) (here d) (had at d below)))
      go (other b ne) =
          let apart = differ_at (endpoint_callers lines endpoints) at k 0 differ (λ e. ne (sym e)) (omega (arith, long, below)) (omega (arith, long, lt)) in
          let one : get_or (endpoint_callers lines endpoints) at 0 ≡ caller = get_or-map (λ (s : Endpoint ReplyExecView). caller_at lines s.place) endpoints at
          d 0 below ∙ ap (λ (s : Endpoint ReplyExecView). caller_at lines s.place) (here d) ∙ sym mine in
          let two : get_or (endpoint_callers lines endpoints) k 0 ≡ caller_at lines (get_or endpoints k d).place =
          get_or-map (λ (s : Endpoint ReplyExecView). caller_at lines s.place) endpoints k d 0 lt in
          subst (HasReplies opening lines after.id after.log) (sym (get_or-set_other endpoints at k given d ne))
          (due_there (get_or endpoints k d) (λ e. apart (one ∙ e ∙ sym two)) (had k d lt))

pub serving_run : {S : Type 0} {read : S → KindState} (opening : KindState) (callers : List ℕ) (lines : List RepliesView) (letters : List Letter) (caller : ℕ)
    (reply : Reply) (before after : LiveView S) (endpoints : List (Endpoint ReplyExecView)) (at : ℕ) (endpoint : Endpoint ReplyExecView)
    (pass : ReplyExecView) → HasReplied read caller reply before after → at < length endpoints →
    ((d : Endpoint ReplyExecView) → get_or endpoints at d ≡ endpoint) → caller ≡ caller_at lines endpoint.place →
    pass.given ≡ endpoint.pass.given ++ Answered reply ∷ [] → EndpointsDiffer lines endpoints → IsServing read opening callers lines letters before endpoints →
    IsServing read opening callers lines letters after (set endpoints at (record { place = endpoint.place; pass = pass }))
serving_run opening callers lines letters caller reply before after endpoints at endpoint pass ran below here mine is differ h = record {
  fed = ran.fed callers letters h.fed;
  follows = follows_on opening lines caller reply before after ran h.follows;
  given = λ k d lt. due_all opening lines caller reply before after ran h.follows endpoints at endpoint pass below here mine is differ h.given k d
      (omega (arith, lt, length-set endpoints at (record { place = endpoint.place; pass = pass })));
}

-- the caller of the line at a place is the place's caller
pub caller_here : (lines : List RepliesView) {place : ℕ} {line : RepliesView} → place < length lines → line ≡ get_or lines place line →
    line.caller ≡ caller_at lines place
caller_here lines {place} {line} below is = ap (λ (l : RepliesView). l.caller) is ∙ sym (get_or-map (λ (l : RepliesView). l.caller) lines place line 0 below)

-- ---- deaths

pub told_next : {a id : ℕ} (stamp : ℕ) {log shown : List RunItem} (xs : List (Endpoint ReplyExecView)) {ys : List (Endpoint ReplyExecView)} (i : ℕ)
    {x : Endpoint ReplyExecView} {pass : ReplyExecView} → i < length xs → ys ≡ map (with_death_given a log stamp) (take i xs) ++ drop i xs → x ≡ get_or ys i x →
    id ≡ a → shown ≡ log → pass ≡ record (get_or ys i x).pass
    { given = (get_or ys i x).pass.given ++ Death id ∷ []; stamps = (get_or ys i x).pass.stamps ++ stamp ∷ []; seen = shown } →
    set ys i (record { place = (get_or ys i x).place; pass = pass }) ≡ map (with_death_given a log stamp) (take (i + 1) xs) ++ drop (i + 1) xs
told_next {a} stamp {log} xs {ys} i {x} {pass} lt so is named seen gave =
    let whole : record { place = (get_or ys i x).place; pass = pass } ≡ with_death_given a log stamp x =
    ap (λ p. record { place = (get_or ys i x).place; pass = p }) gave ∙ (λ j. with_death_given (named j) (seen j) stamp (sym is j)) in
    ap (set ys i) whole ∙ map_over_more (with_death_given a log stamp) xs ys i x lt so is

told_at : (a stamp : ℕ) (log : List RunItem) (endpoints : List (Endpoint ReplyExecView)) (P : Endpoint ReplyExecView → Type 0) → ((k : ℕ) (d : Endpoint
    ReplyExecView) → k < length endpoints → P (with_death_given a log stamp (get_or endpoints k d))) → All P (map (with_death_given a log stamp) endpoints)
told_at a stamp log endpoints P h k d lt =
    let below : k < length endpoints = omega (arith, lt, length-map endpoints (with_death_given a log stamp)) in
    subst P (sym (get_or-map (with_death_given a log stamp) endpoints k d d below)) (h k d below)

told_bare : (a stamp : ℕ) (log : List RunItem) (endpoints : List (Endpoint ReplyExecView)) →
    map without_given (map (with_death_given a log stamp) endpoints) ≡ map without_given endpoints
told_bare a stamp log [] = refl
told_bare a stamp log (x ∷ endpoints) = ap (λ l. without_given x ∷ l) (told_bare a stamp log endpoints)

-- endpoints at the same places are those of the same callers
pub callers_stay : (lines : List RepliesView) (old new : List (Endpoint ReplyExecView)) → map without_given new ≡ map without_given old →
    endpoint_callers lines new ≡ endpoint_callers lines old
callers_stay lines old new e =
    let at : Endpoint ReplyExecView → ℕ = λ endpoint. caller_at lines endpoint.place in
    sym (map-map at without_given new) ∙ ap (map at) e ∙ map-map at without_given old

-- ---- letters

-- an actor of which only the inbox changed still serves, with the letters that now feed it
pub serving_in : {S : Type 0} {read : S → KindState} {opening : KindState} {callers : List ℕ} {lines : List RepliesView} {letters : List Letter}
    (more : List Letter) {before after : LiveView S} {endpoints : List (Endpoint ReplyExecView)} → after ≡ record before { inbox = after.inbox } →
    ((who : List ℕ) → IsFed who letters before → IsFed who more after) → IsServing read opening callers lines letters before endpoints →
    IsServing read opening callers lines more after endpoints
serving_in {S} {read} {opening} {callers} {lines} more {endpoints} is fed h = record {
  fed = fed callers h.fed;
  follows = subst (λ s. HasRunFrom opening (live_view read s)) (sym is) h.follows;
  given = subst (λ (s : LiveView S). All (HasReplies opening lines s.id s.log) endpoints) (sym is) h.given;
}

-- ---- ends

pub none_of : {X : Type 0} (o : Option X) (P : Type 0) → IfNone o P → is_some o ≡ false → P
none_of None P h e = h
none_of (Some x) P h e = cc

pub looked_on : {looked now long more : ℕ} → now ≡ looked_after looked long → long ≤ looked → more ≤ long + 1 → more ≤ now
looked_on {looked} {now} {long} {more} is below within = go (tells looked long)
  where
    go : Tells looked long → more ≤ now
    go (same b e) = let n : now ≡ looked + 1 = is ∙ ap (λ x. cond x (looked + 1) looked) b in omega (arith, n, e, within)
    go (other b ne) = let n : now ≡ looked = is ∙ ap (λ x. cond x (looked + 1) looked) b in omega (arith, n, ne, below, within)

pub looked_past : {looked now long : ℕ} → now ≡ looked_after looked long → long ≤ looked → long < now
looked_past {looked} {now} {long} is below = go (tells looked long)
  where
    go : Tells looked long → long < now
    go (same b e) = let n : now ≡ looked + 1 = is ∙ ap (λ x. cond x (looked + 1) looked) b in omega (arith, n, e)
    go (other b ne) = let n : now ≡ looked = is ∙ ap (λ x. cond x (looked + 1) looked) b in omega (arith, n, ne, below)

-- what an executor leaves whose actor ended so
module _ {S : Type 0} {read : S → KindState} (opening : KindState) (lines : List RepliesView) (before : ExecPasses) (actor : LiveView S)
    (endpoints : List (Endpoint ReplyExecView)) (passes : ExecPasses)
    (h : IsServing read opening (endpoint_callers lines before.notices.items) lines passes.letters.taken actor endpoints)
    (letters : passes.letters ≡ record before.letters { taken = passes.letters.taken; stamps = passes.letters.stamps })
    (kept : passes.kills ≡ record before.kills
    { taken = passes.kills.taken; stamps = passes.kills.stamps; lengths = passes.kills.lengths; looked = passes.kills.looked })
    (stay : map without_given endpoints ≡ map without_given before.notices.items) (looked : length actor.log ≤ passes.kills.looked)
    (last : NothingFollowsAnEnd actor.log) where
  abbrev pub dead_of : DeadView
  dead_of = record { id = actor.id; log = actor.log }

  given_all : (stamp : ℕ) → All (λ (endpoint : Endpoint ReplyExecView). endpoint.pass.given ≡ replies_to opening actor.id actor.log
      (caller_at lines endpoint.place) ++ Death actor.id ∷ []) (map (with_death_given actor.id actor.log stamp) endpoints)
  given_all stamp = told_at actor.id stamp actor.log endpoints (λ (endpoint : Endpoint ReplyExecView). endpoint.pass.given ≡ replies_to opening actor.id
      actor.log (caller_at lines endpoint.place) ++ Death actor.id ∷ []) (λ k d lt. ap (λ l. l ++ Death actor.id ∷ []) (h.given k d lt))

  pub killed_served : {a : ℕ} (stamp : ℕ) {dead : DeadView} → actor.id ≡ a → dead ≡ dead_of →
      passes.notices.items ≡ map (with_death_given dead.id dead.log stamp) endpoints → KillsOfDead (has_terminated actor.log) actor.log passes.kills →
      IsActorTraced actor.id lines (Killed dead_of) passes → HasServed opening a lines before (Killed dead) passes
  killed_served stamp {dead} named is told_is kills traced =
      subst (λ x. HasServed opening x lines before (Killed dead) passes) named
      (subst (λ d. HasServed opening actor.id lines before (Killed d) passes) (sym is) (record {
        id = refl;
        log = h.fed.log;
        last = last;
        stay = record { letters = letters; kills = kept; endpoints = ap (map without_given) all_told ∙ told_bare actor.id stamp actor.log endpoints ∙ stay };
        given = subst (λ l. All (λ (endpoint : Endpoint ReplyExecView). endpoint.pass.given ≡ replies_to opening actor.id actor.log
            (caller_at lines endpoint.place) ++ Death actor.id ∷ []) l) (sym all_told) (given_all stamp);
        shown = subst (λ l. All (λ (endpoint : Endpoint ReplyExecView). endpoint.pass.seen ≡ actor.log) l) (sym all_told)
            (told_at actor.id stamp actor.log endpoints (λ (endpoint : Endpoint ReplyExecView). endpoint.pass.seen ≡ actor.log) (λ k d lt. refl));
        kills = kills;
        looked = looked;
        last_look = tt;
        drained = tt;
        traced = traced;
      }))
    where
      all_told : passes.notices.items ≡ map (with_death_given actor.id actor.log stamp) endpoints
      all_told = told_is ∙ (λ i. map (with_death_given (is i).id (is i).log stamp) endpoints)

  pub starved_served : {a : ℕ} (stamp : ℕ) {dead : DeadView} → actor.id ≡ a → dead ≡ dead_of → passes.notices.items ≡ map (with_death_given dead.id dead.log
      stamp) endpoints → IsUntaken passes.kills → has_terminated actor.log ≡ false → HasServed opening a lines before (Starved dead) passes
  starved_served stamp {dead} named is told_is none lived =
      subst (λ x. HasServed opening x lines before (Starved dead) passes) named
      (subst (λ d. HasServed opening actor.id lines before (Starved d) passes) (sym is) (record {
        id = refl;
        log = h.fed.log;
        last = last;
        stay = record { letters = letters; kills = kept; endpoints = ap (map without_given) all_told ∙ told_bare actor.id stamp actor.log endpoints ∙ stay };
        given = subst (λ l. All (λ (endpoint : Endpoint ReplyExecView). endpoint.pass.given ≡ replies_to opening actor.id actor.log
            (caller_at lines endpoint.place) ++ Death actor.id ∷ []) l) (sym all_told) (given_all stamp);
        shown = subst (λ l. All (λ (endpoint : Endpoint ReplyExecView). endpoint.pass.seen ≡ actor.log) l) (sym all_told)
            (told_at actor.id stamp actor.log endpoints (λ (endpoint : Endpoint ReplyExecView). endpoint.pass.seen ≡ actor.log) (λ k d lt. refl));
        kills = (none, lived);
        looked = looked;
        last_look = tt;
        drained = tt;
        traced = tt;
      }))
    where
      all_told : passes.notices.items ≡ map (with_death_given actor.id actor.log stamp) endpoints
      all_told = told_is ∙ (λ i. map (with_death_given (is i).id (is i).log stamp) endpoints)

  pub retired_served : {a : ℕ} {retired : RetiredView} → actor.id ≡ a → retired ≡ record { id = actor.id; log = actor.log; state = read actor.state } →
      MayRetire actor.log actor.inbox → passes.notices.items ≡ endpoints → IsUntaken passes.kills → length actor.log < passes.kills.looked →
      IsTracedSoFar actor.id lines actor.log passes → HasServed opening a lines before (Retired retired) passes
  retired_served {retired} named is may same_endpoints none past so_far =
      subst (λ x. HasServed opening x lines before (Retired retired) passes) named
      (subst (λ r. HasServed opening actor.id lines before (Retired r) passes) (sym is) (record {
        id = refl;
        log = h.fed.log;
        last = last;
        stay = record { letters = letters; kills = kept; endpoints = ap (map without_given) same_endpoints ∙ stay };
        given = subst (λ l. All (λ (endpoint : Endpoint ReplyExecView). endpoint.pass.given ≡ replies_to opening actor.id actor.log
            (caller_at lines endpoint.place) ++ []) l) (sym same_endpoints) (λ k d lt. h.given k d lt ∙ sym (append-nil _));
        shown = λ k d lt. tt;
        kills = (none, may.lives);
        looked = looked;
        last_look = past;
        drained = record { state = h.follows; notes = notes };
        traced = traced_retired actor.id lines actor.log passes so_far may.lives (λ c l. notes c (ap (contains c) (sym callers) ∙ l));
      }))
    where
      callers : endpoint_callers lines passes.notices.items ≡ endpoint_callers lines before.notices.items
      callers = callers_stay lines before.notices.items passes.notices.items (ap (map without_given) same_endpoints ∙ stay)

      notes : (c : ℕ) → contains c (endpoint_callers lines before.notices.items) ≡ true →
          first_note actor.id c passes.letters.taken ≡ Some (length (items_of c actor.log))
      notes c l = sym (h.fed.notes c l) ∙ may.drained c (h.fed.listed c ∙ l) ∙ ap (λ n. Some n) (h.fed.handed c)

-- the passes after a turn
pub step_fit : {mail control : TableId} {replies : List RepliesView} {a b : ℕ} {log : List RunItem} (more : List RunItem) {old : ExecPasses}
    (new : ExecPasses) → PassesFit mail control replies a log old →
    new.letters ≡ record old.letters { taken = new.letters.taken; stamps = new.letters.stamps } → new.kills ≡ record old.kills { looked = new.kills.looked } →
    new.kills.looked ≡ looked_after old.kills.looked (length log) → b ≡ a → length more ≤ length log + 1 → All (IsAtItsEndpoint replies b more)
    new.notices.items → map without_given new.notices.items ≡ map without_given old.notices.items → PassesFit mail control replies b more new
step_fit {replies} {log} more {old} new fit letters kills looked named within endpoints stay = record {
  mail_is = ap (λ p. p.line) letters ∙ fit.mail_is;
  control_is = ap (λ (p : ControlExecView). p.line) kills ∙ fit.control_is;
  actor_is = ap (λ (p : ControlExecView). p.actor) kills ∙ fit.actor_is ∙ sym named;
  looked = looked_on looked fit.looked within;
  endpoints = endpoints;
  differ = subst (λ l. AllPairs (λ x y. x ≢ y) l) (sym (callers_stay replies old.notices.items new.notices.items stay)) fit.differ;
}

-- a look alone
pub look_on : (old : ControlExecView) {new : ControlExecView} (looked : ℕ) → new ≡ record old { looked = looked } →
    (new ≡ record old { looked = new.looked }) × (new.looked ≡ looked)
look_on old {new} looked e = let is : new.looked ≡ looked = ap (λ (p : ControlExecView). p.looked) e in (e ∙ ap (λ n. record old { looked = n }) (sym is), is)

pub still_untaken : (old : ControlExecView) {new : ControlExecView} → new ≡ record old { looked = new.looked } → IsUntaken old → IsUntaken new
still_untaken old e none = (ap (λ (p : ControlExecView). p.taken) e ∙ none.0, ap (λ (p : ControlExecView). p.lengths) e ∙ none.1)

pub kept_kills : (old : ControlExecView) {new : ControlExecView} → new ≡ record old { looked = new.looked } →
    new ≡ record old { taken = new.taken; stamps = new.stamps; lengths = new.lengths; looked = new.looked }
kept_kills old {new} e = ap (λ (p : ControlExecView). record p { taken = new.taken; stamps = new.stamps; lengths = new.lengths; looked = new.looked }) e

pub stay_on : {first old : ExecPasses} (new : ExecPasses) → ExecPassesStay first old →
    new.letters ≡ record old.letters { taken = new.letters.taken; stamps = new.letters.stamps } →
    new.kills ≡ record old.kills { taken = new.kills.taken; stamps = new.kills.stamps; lengths = new.kills.lengths; looked = new.kills.looked } →
    map without_given new.notices.items ≡ map without_given old.notices.items → ExecPassesStay first new
stay_on new s letters kills endpoints = record {
  letters = letters ∙ ap (λ (p : TakerView Letter (Unit {0})). record p { taken = new.letters.taken; stamps = new.letters.stamps }) s.letters;
  kills = kills ∙ ap (λ (p : ControlExecView). record p
      { taken = new.kills.taken; stamps = new.kills.stamps; lengths = new.kills.lengths; looked = new.kills.looked }) s.kills;
  endpoints = endpoints ∙ s.endpoints;
}

-- an actor that ran nothing
pub fresh_serving : {S : Type 0} (read : S → KindState) (lines : List RepliesView) (actor : LiveView S) {passes : ExecPasses} → IsFreshExec lines actor passes
    → IsServing read (read actor.state) (endpoint_callers lines passes.notices.items) lines passes.letters.taken actor passes.notices.items
fresh_serving read lines actor {passes} f = record {
  fed = record {
    listed = f.inbox.listed;
    handed = λ c. f.inbox.handed c ∙ ap (λ l. length (items_of c l)) (sym f.log);
    waits = λ c n p e. let no : None ≡ Some p = sym (f.inbox.waits c n) ∙ e in cc;
    notes = λ c l. f.inbox.notes c ∙ ap (first_note actor.id c) (sym f.passes_fresh.letters);
    log = subst (λ l. IsLogOf actor.id (endpoint_callers lines passes.notices.items) passes.letters.taken l) (sym f.log) (record {
      taken = λ k d lt. absurd (omega arith);
      listed = λ k d lt. absurd (omega arith);
      numbered = λ c. refl;
    });
  };
  follows = ap (state_after (read actor.state)) (sym f.log);
  given = λ k d lt. f.passes_fresh.given k d lt ∙
      ap (λ l. replies_to (read actor.state) actor.id l (caller_at lines (get_or passes.notices.items k d).place)) (sym f.log);
}
