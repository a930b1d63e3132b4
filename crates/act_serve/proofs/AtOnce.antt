-- A call that runs at once, seen as one that arrives and then runs.
use Rattle.act_serve.proofs.Common.{◌≡◌, ℕ, zero, suc, ◌+◌, ◌<◌, Bool, true, false, cond, List, [], ◌∷◌, ◌++◌, Option, Some, None, Result, Ok, Err, IfOk, OnOk}
use Rattle.act_serve.proofs.Common.{length, length-append, get_or, map, refl, ap, sym, ◌∙◌, subst, arith, find, position, All, ◌==◌, set, is_some, le-ltb}
use Rattle.act_serve.proofs.Common.{eqb-true, get_or_default, All-set, position-Some, map-set_same, KindState, Packet, Reply, Answered, RunItem, Arrival, New}
use Rattle.act_serve.proofs.Common.{Stranger, has_terminated, NothingFollowsAnEnd, nothing_follows-push, is_packet_of, is_listed, handed_of, was_handed}
use Rattle.act_serve.proofs.Common.{next_of, arrival_of, with_held, HoldsNone, new_listed, waits_holding, LiveView, live_view, item_of, reply_of_run}
use Rattle.act_serve.proofs.Common.{with_packet, RunsAtOnce, HasRunCall, Letter, Call, RepliesView, ReplyExecView, Endpoint, without_given, caller_at, IsFed}
use Rattle.act_serve.proofs.Common.{IsAtItsEndpoint, IsServing, EndpointsDiffer, ExecPasses, exec_clock, HasReplied, ActorGoesOn, has_next, is_endpoint_of}
use Rattle.act_serve.proofs.Common.{replied_to}
use Rattle.std.proofs.Common.{eq-eqb}
use Rattle.act_serve.proofs.Logs.{fed_arrive, fed_run}
use Rattle.act_serve.proofs.Endpoints.{endpoint_on, endpoint_given}
use Rattle.act_serve.specs.Turns.{EndpointsFit, EndpointsStay, KeepsTrace}
use Rattle.act_serve.proofs.Serving.{serving_run, caller_here}
use Rattle.act_serve.proofs.Traces.{traced_run}

-- ---- an actor that holds no call

under : (b c d : Bool) (o : Option Packet) → o ≡ None → cond b None (cond c (cond d None o) None) ≡ None
under true c d o none = refl
under false true true o none = refl
under false true false o none = none
under false false d o none = refl

-- it has no next call
pub none_next : {S : Type 0} (lines : List RepliesView) (actor : LiveView S) (endpoint : Endpoint ReplyExecView) → HoldsNone actor.inbox →
    has_next lines actor endpoint ≡ false
none_next lines actor endpoint none =
    let caller = caller_at lines endpoint.place in let count = handed_of actor.inbox caller in
    ap is_some (under (has_terminated actor.log) (is_listed actor.inbox caller) (was_handed actor.inbox caller count)
    (find (is_packet_of caller count) actor.inbox.held) (ap (find (is_packet_of caller count)) none))

-- ---- a call that runs at once

at_actor : (b : Bool) (arrival : Arrival) → cond b arrival Stranger ≡ New → arrival ≡ New
at_actor true arrival e = e
at_actor false arrival e = absurd (cc)

module _ {S : Type 0} (packet : Packet) (before : LiveView S) (may : RunsAtOnce packet before.id before.log before.inbox) where
  is_new : arrival_of before.inbox packet ≡ New
  is_new = at_actor (packet.actor == before.id) (arrival_of before.inbox packet) may.is_new

  -- once it arrived, it is its caller's next
  next_held : next_of (with_held packet before.inbox) packet.caller ≡ Some packet
  next_held =
      rw (
        new_listed before.inbox packet is_new,
        le-ltb (handed_of before.inbox packet.caller) (handed_of before.inbox packet.caller) (omega arith),
        eq-eqb packet.caller packet.caller refl,
        eq-eqb packet.number (handed_of before.inbox packet.caller) may.numbered,
      ) refl

  fed_held : (callers : List ℕ) (letters : List Letter) → IsFed callers letters before → IsFed callers (letters ++ Call packet ∷ []) (with_packet packet before)
  fed_held callers letters h =
      fed_arrive packet (with_held packet before.inbox) (Ok New) refl (λ _. refl) (sym may.is_new)
      (λ caller number. waits_holding before.inbox packet is_new caller number) tt h

  pub serving_held : {read : S → KindState} {opening : KindState} {callers : List ℕ} {lines : List RepliesView} {letters : List Letter}
      {endpoints : List (Endpoint ReplyExecView)} → IsServing read opening callers lines letters before endpoints →
      IsServing read opening callers lines (letters ++ Call packet ∷ []) (with_packet packet before) endpoints
  serving_held {callers} {letters} h = record { fed = fed_held callers letters h.fed; follows = h.follows; given = h.given }

  pub replied_now : {E : Type 0} (read : S → KindState) (after : LiveView S) (result : Result Reply E) → IfOk result (λ reply. reply ≡ reply_of_run
      (with_packet packet (live_view read before)) packet) → OnOk result (HasRunCall packet.caller packet (with_packet packet (live_view read before))
      (live_view read after)) → IfOk result (λ reply. HasReplied read packet.caller reply (with_packet packet before) after)
  replied_now read after (Err error) is ran = tt
  replied_now read after (Ok reply) is ran = record {
    lived = may.lives;
    item = item_of packet;
    log = ran.log;
    id = ran.id;
    of_caller = refl;
    reply_is = is;
    state = ran.state;
    fed = fed_run read (with_packet packet before) after next_held ran;
  }

-- a call for which memory was refused came, and waits no more
pub serving_refused : {S : Type 0} {read : S → KindState} (opening : KindState) (callers : List ℕ) {lines : List RepliesView} (letters : List Letter)
    (packet : Packet) {before after : LiveView S} {endpoints : List (Endpoint ReplyExecView)} → after ≡ before →
    IsServing read opening callers lines letters before endpoints → IsServing read opening callers lines (letters ++ Call packet ∷ []) after endpoints
serving_refused {S} {read} opening callers {lines} letters packet {before} {endpoints} same h =
    subst (λ actor. IsServing read opening callers lines (letters ++ Call packet ∷ []) actor endpoints) (sym same) (record {
      fed = fed_arrive packet before.inbox (Err packet) refl (λ _. refl) tt tt refl h.fed;
      follows = h.follows;
      given = h.given;
    })

-- ---- an actor that replied

-- an actor that ran a call, and has its reply, went on from where it was by one call at most
pub goes_on : {S : Type 0} {read : S → KindState} (caller : ℕ) (reply : Reply) (before after : LiveView S) → HasReplied read caller reply before after →
    ActorGoesOn before after
goes_on caller reply before after ran = record {
  id = ran.id;
  front = (ran.item ∷ [], sym ran.log);
  long = let one : length after.log ≡ length before.log + 1 = ap (λ l. length l) ran.log ∙ length-append before.log (ran.item ∷ []) in omega (arith, one);
  last = λ before_it. subst NothingFollowsAnEnd (sym ran.log) (nothing_follows-push before.log ran.item before_it ran.lived);
}

-- a call that was replied to is one more in the log
pub one_longer : {S : Type 0} {read : S → KindState} {caller : ℕ} {reply : Reply} {before after : LiveView S} → HasReplied read caller reply before after →
    length after.log ≡ length before.log + 1
one_longer {before} ran = ap (λ l. length l) ran.log ∙ length-append before.log (ran.item ∷ [])

-- each endpoint's pass is still of its line, and gave only what the log shows, once the actor ran one more call
pub endpoints_on : {S : Type 0} {read : S → KindState} (lines : List RepliesView) {caller : ℕ} {reply : Reply} {before after : LiveView S}
    (endpoints : List (Endpoint ReplyExecView)) → HasReplied read caller reply before after → All (IsAtItsEndpoint lines before.id before.log) endpoints →
    All (IsAtItsEndpoint lines after.id after.log) endpoints
endpoints_on lines {before} {after} endpoints ran all k d lt = endpoint_on after.id before.log after.log ran.id (ran.item ∷ [], sym ran.log) (all k d lt)

-- ---- a reply that was given

module _ (lines : List RepliesView) (endpoints : List (Endpoint ReplyExecView)) (at : ℕ) (endpoint : Endpoint ReplyExecView)
    (here : (d : Endpoint ReplyExecView) → get_or endpoints at d ≡ endpoint) (reply : Reply) (stamp : ℕ) where
  -- once a reply was given at one, each endpoint's pass is still of its line, and gave only what the log shows
  pub endpoints_given : (id : ℕ) (log : List RunItem) → All (IsAtItsEndpoint lines id log) endpoints → at < length endpoints →
      All (IsAtItsEndpoint lines id log) (set endpoints at (replied_to log reply stamp endpoint))
  endpoints_given id log all below =
      All-set (IsAtItsEndpoint lines id log) endpoints at (replied_to log reply stamp endpoint)
      (endpoint_given id id log log endpoint.place endpoint.pass (replied_to log reply stamp endpoint).pass (Answered reply)
      (replied_to log reply stamp endpoint).pass.stamps refl tt (subst (IsAtItsEndpoint lines id log) (here endpoint) (all at endpoint below)) refl) all

  -- once a reply was given at one of them, the endpoints are as before, but for what was given there
  pub bare_given : (log : List RunItem) → map without_given (set endpoints at (replied_to log reply stamp endpoint)) ≡ map without_given endpoints
  bare_given log = map-set_same without_given endpoints at (replied_to log reply stamp endpoint) endpoint (ap without_given (sym (here endpoint)))

  -- an actor that ran a call still serves once the reply is given at its caller's endpoint, where no caller has two
  pub serving_given : {S : Type 0} {read : S → KindState} (opening : KindState) (callers : List ℕ) (letters : List Letter) (caller : ℕ)
      (before after : LiveView S) → HasReplied read caller reply before after → at < length endpoints → caller ≡ caller_at lines endpoint.place →
      EndpointsDiffer lines endpoints → IsServing read opening callers lines letters before endpoints →
      IsServing read opening callers lines letters after (set endpoints at (replied_to after.log reply stamp endpoint))
  serving_given opening callers letters caller before after ran below mine differ h =
      serving_run opening callers lines letters caller reply before after endpoints at endpoint
      (replied_to after.log reply stamp endpoint).pass ran below here mine refl differ h

-- ---- the caller's endpoint

pub endpoint_is : (lines : List RepliesView) (caller : ℕ) (endpoints : List (Endpoint ReplyExecView)) (k : ℕ) (d endpoint : Endpoint ReplyExecView)
    {line : RepliesView} {named : ℕ} (b : Bool) → k < length endpoints → endpoint ≡ get_or endpoints k endpoint → endpoint.place < length lines →
    line ≡ get_or lines endpoint.place line → named ≡ line.caller → (named == caller) ≡ b → is_endpoint_of lines caller (get_or endpoints k d) ≡ b
endpoint_is lines caller endpoints k d endpoint {line} b lt here below is name so =
    ap (is_endpoint_of lines caller) (get_or_default endpoints k d endpoint lt ∙ sym here)
    ∙ ap (λ c. c == caller) (sym (name ∙ caller_here lines below is))
    ∙ so

-- what stands at a place
there : {X : Type 0} (xs : List X) (at : ℕ) → at < length xs → (x : X) × ((d : X) → get_or xs at d ≡ x)
there [] at below = absurd (omega (arith, below))
there (x ∷ xs) zero below = (x, λ d. refl)
there (x ∷ xs) (suc at) below = there xs at (omega (arith, below))

found_below : {X : Type 0} (p : X → Bool) (xs : List X) (at : ℕ) → position p xs ≡ Some at → at < length xs
found_below p [] at found = absurd (cc)
found_below p (x ∷ xs) at found = (position-Some p (x ∷ xs) at x found).0

-- the caller's endpoint, where it was found
pub record IsFound (lines : List RepliesView) (caller at : ℕ) (endpoints : List (Endpoint ReplyExecView)) : Type 0 where
  pub endpoint : Endpoint ReplyExecView
  pub here : (d : Endpoint ReplyExecView) → get_or endpoints at d ≡ endpoint
  pub below : at < length endpoints
  pub mine : caller ≡ caller_at lines endpoint.place

pub found : (lines : List RepliesView) (caller at : ℕ) (endpoints shown : List (Endpoint ReplyExecView)) → shown ≡ endpoints →
    position (is_endpoint_of lines caller) shown ≡ Some at → IsFound lines caller at endpoints
found lines caller at endpoints shown same is =
    let at_it : position (is_endpoint_of lines caller) endpoints ≡ Some at = subst (λ l. position (is_endpoint_of lines caller) l ≡ Some at) same is in
    let below = found_below (is_endpoint_of lines caller) endpoints at at_it in
    let one = there endpoints at below in
    let passes : is_endpoint_of lines caller (get_or endpoints at one.0) ≡ true = (position-Some (is_endpoint_of lines caller) endpoints at one.0 at_it).1 in
    let mine : is_endpoint_of lines caller one.0 ≡ true = subst (λ endpoint. is_endpoint_of lines caller endpoint ≡ true) (one.1 one.0) passes in
    record { endpoint = one.0; here = one.1; below = below; mine = sym (eqb-true _ _ mine) }

-- ---- a call that ran, with its reply

-- what is left once a call ran and its reply was given
pub record HasGiven {S : Type 0} (read : S → KindState) (lines : List RepliesView) (before after : LiveView S) (passes more : ExecPasses) : Type 0 where
  pub endpoints : EndpointsStay lines after passes more
  pub serving : (opening : KindState) (callers : List ℕ) (letters : List Letter) → IsServing read opening callers lines letters before passes.notices.items →
      IsServing read opening callers lines letters after more.notices.items
  pub traced : (opening : KindState) (callers : List ℕ) (letters : List Letter) → letters ≡ passes.letters.taken →
      IsServing read opening callers lines letters before passes.notices.items → KeepsTrace lines before after passes more

-- the reply was given at the endpoint of the call's caller
pub has_given : {S : Type 0} {read : S → KindState} {lines : List RepliesView} {caller : ℕ} {reply : Reply} {before : LiveView S} (after : LiveView S) →
    HasReplied read caller reply before after → (passes more : ExecPasses) {at : ℕ} (one : IsFound lines caller at passes.notices.items) →
    EndpointsFit lines before passes → (more.letters ≡ passes.letters) × (more.kills ≡ passes.kills) → more.notices.items ≡ set passes.notices.items at
    (replied_to after.log reply (exec_clock passes) one.endpoint) → HasGiven read lines before after passes more
has_given {S} {read} {lines} {caller} {reply} {before} after ran passes more {at} one fit taken gave = record {
  endpoints = record {
    at_places = subst (λ l. All (IsAtItsEndpoint lines after.id after.log) l) (sym gave) (endpoints_given lines endpoints at one.endpoint one.here reply
        (exec_clock passes) after.id after.log (endpoints_on lines endpoints ran fit.at_places) one.below);
    stay = ap (map without_given) gave ∙ bare_given lines endpoints at one.endpoint one.here reply (exec_clock passes) after.log;
  };
  serving = serving;
  traced = λ opening callers letters shown h. traced_run lines callers letters before after caller reply ran passes more at one.endpoint one.here one.below
      (serving opening callers letters h).fed.log shown taken.0 taken.1 gave;
}
  where
    endpoints : List (Endpoint ReplyExecView)
    endpoints = passes.notices.items

    serving : (opening : KindState) (callers : List ℕ) (letters : List Letter) → IsServing read opening callers lines letters before endpoints →
        IsServing read opening callers lines letters after more.notices.items
    serving opening callers letters h =
        subst (λ l. IsServing read opening callers lines letters after l) (sym gave)
        (serving_given lines endpoints at one.endpoint one.here reply
        (exec_clock passes) opening callers letters caller before after ran one.below one.mine fit.differ h)
