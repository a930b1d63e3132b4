-- What stays while a caller goes on.
use Rattle.act_drive.proofs.Common.{◌≡◌, ℕ, zero, suc, ◌+◌, ◌<◌, Bool, true, false, if◌then◌else◌, not, ◌&&◌, List, ◌∷◌, ◌++◌, length, get_or, set, Option}
use Rattle.act_drive.proofs.Common.{Some, None, is_some, refl, sym, ◌∙◌, ap, subst, arith, All, AllPairs, Contains, append-nil, option_to_list, length-append}
use Rattle.act_drive.proofs.Common.{slice_get_within, map-set_same, TakerView, map, slice_get, slice_set, unwrap_or, option_map, range_with_len, All-nil}
use Rattle.act_drive.proofs.Common.{All-cons, All-head, All-tail, All-push, All-set, All-weaker, Contains-append_left, filter_map-append, all_pairs_push}
use Rattle.act_drive.proofs.Common.{get_or_append_left, length-set, Packet, Reply, Notice, Answered, Death, Submission, RunItem, calls_to, copies_held, kept_at}
use Rattle.act_drive.proofs.Common.{copies_in, First, Late, Stray, OwnerView, packet_at, packet_for, is_sent, is_of_call, after_reply_that, with_death}
use Rattle.act_drive.proofs.Common.{after_collect, with_sent, is_ready, first_ready, is_known_call, Action, Sent, Noticed, after_action, is_known_at, Hears}
use Rattle.act_drive.proofs.Common.{step, packet_stays, found_passes, sent_stays, hears_step, reply_sent, death_sent, MailView, PutterView, Letter, Call, Note}
use Rattle.act_drive.proofs.Common.{Endpoint, CallerLines, Driver, CallerPasses, actor_of_letter, future_of_letter, futures_in, AreTwo, IsSent, MayBeSent}
use Rattle.act_drive.proofs.Common.{IsPosting, IsEndpoint, AreKillEndpoints, IsCalling, Stays, Waits, OwnerGoesOn, bare_post, bare_ask, IsIdle, IsKeeping}
use Rattle.act_drive.proofs.Common.{is_note_letter, AreNoted, OnlyWaits, []}
use Rattle.act_drive.proofs.Keeps.{keeps_on, same_returns, keeps_taken, keeps_dropped, keeps_posted}
use Rattle.act_drive.proofs.Noted.{noted_on, noted_same, noted_posted}

-- ---- the owner goes on

pub sent_on : {owner later : OwnerView} (a : ℕ) (letter : Letter) → OwnerGoesOn owner later → IsSent owner a letter → IsSent later a letter
sent_on a (Call packet) on is = let now = on.packets packet.future is.1 in (now.1 ∙ is.0, now.0, is.2)
sent_on {owner} {later} a (Note note) on is =
    let now = on.ended a is.1 in (
      is.0 ∙ ap (λ n. record { caller = n; actor = a; after = length (calls_to a owner.calls) }) (sym on.id) ∙
          ap (λ n. record { caller = later.id; actor = a; after = n }) (sym now.1),
      now.0,
    )

pub held_on : {owner : OwnerView} (later : OwnerView) (outbox : Option Letter) → OwnerGoesOn owner later → MayBeSent owner outbox → MayBeSent later outbox
held_on later None on is = tt
held_on {owner} later (Some letter) on is = sent_on (actor_of_letter letter) letter on is

pub posting_on : {owner later : OwnerView} (a : ℕ) (held : List Letter) {put : List Letter} → OwnerGoesOn owner later → IsPosting owner a held put →
    IsPosting later a held put
posting_on {owner} {later} a held {put} on is = record {
  sent = All-weaker (IsSent owner a) (IsSent later a) (λ letter. sent_on a letter on) put is.sent;
  distinct = is.distinct;
  marked = All-weaker (λ k. is_sent owner k ≡ true) (λ k. is_sent later k ≡ true) on.sent (futures_in (put ++ held)) is.marked;
}

pub endpoint_on : (mails : List MailView) (owner later : OwnerView) (held : List Letter) (endpoint : Endpoint (PutterView Letter Unit)) →
    OwnerGoesOn owner later → IsEndpoint mails owner held endpoint → IsEndpoint mails later held endpoint
endpoint_on mails owner later held endpoint on is = record {
  below = is.below;
  line = is.line;
  number = is.number ∙ sym on.id;
  posting = λ d. posting_on _ held on (is.posting d);
}

pub endpoints_on : (mails : List MailView) {owner : OwnerView} (later : OwnerView) (held : List Letter) (endpoints : List (Endpoint (PutterView Letter Unit))) →
    OwnerGoesOn owner later → All (IsEndpoint mails owner held) endpoints → All (IsEndpoint mails later held) endpoints
endpoints_on mails {owner} later held endpoints on is =
    All-weaker (IsEndpoint mails owner held) (IsEndpoint mails later held) (λ endpoint. endpoint_on mails owner later held endpoint on) endpoints is

-- ---- a notice, and a call that is sent

reply_keeps : (owner : OwnerView) (reply : Reply) (mine known : Bool) → let later =
    after_reply_that (if mine then (if known then Late reply.future else First reply.future) else Stray) owner reply in
    (later.id ≡ owner.id) × (later.calls ≡ owner.calls) × (later.handles ≡ owner.handles) × (later.limits ≡ owner.limits)
reply_keeps owner reply false known = (refl, refl, refl, refl)
reply_keeps owner reply true true = (refl, refl, refl, refl)
reply_keeps owner reply true false = (refl, refl, refl, refl)

death_keeps : (owner : OwnerView) (a : ℕ) (listed : Bool) → let later = (if listed then with_death owner a else owner) in
    (later.id ≡ owner.id) × (later.calls ≡ owner.calls) × (later.handles ≡ owner.handles) × (later.limits ≡ owner.limits)
death_keeps owner a false = (refl, refl, refl, refl)
death_keeps owner a true = (refl, refl, refl, refl)

-- a caller that collects a notice keeps its number, its calls, its handles and its limits
pub notice_keeps : (owner : OwnerView) (notice : Notice) → ((after_collect owner notice).id ≡ owner.id) × ((after_collect owner notice).calls ≡ owner.calls) ×
    ((after_collect owner notice).handles ≡ owner.handles) × ((after_collect owner notice).limits ≡ owner.limits)
notice_keeps owner (Answered reply) = reply_keeps owner reply (is_of_call owner reply) (is_some (kept_at owner.kept reply.future))
notice_keeps owner (Death a) = death_keeps owner a (is_some (copies_in a owner.handles))

-- what was there of a caller stays over a change that adds no copy and no call at actors of which it holds none
pub change_on : (owner : OwnerView) (change : Action) → length owner.kept ≡ length owner.calls →
    ((a : ℕ) → copies_held (copies_in a owner.handles) ≡ 0 → (copies_held (copies_in a (after_action owner change).handles) ≡ 0) ×
    (length (calls_to a (after_action owner change).calls) ≡ length (calls_to a owner.calls))) → OwnerGoesOn owner (after_action owner change)
change_on owner change places ended =
    let grown = step owner change places in
    record { id = grown.id; packets = λ k known. packet_stays owner k grown known; sent = λ k is. sent_stays owner change k is; ended = ended }

pub notice_on : (owner : OwnerView) (notice : Notice) → length owner.kept ≡ length owner.calls → OwnerGoesOn owner (after_collect owner notice)
notice_on owner notice places =
    let keeps = notice_keeps owner notice in
    change_on owner (Noticed notice) places (λ a none. (ap (λ h. copies_held (copies_in a h)) keeps.2 ∙ none, ap (λ c. length (calls_to a c)) keeps.1))

notice_sent : (owner : OwnerView) (notice : Notice) → (after_collect owner notice).sent ≡ owner.sent
notice_sent owner (Answered reply) = reply_sent owner reply (is_of_call owner reply) (is_some (kept_at owner.kept reply.future))
notice_sent owner (Death a) = death_sent owner a (is_some (copies_in a owner.handles))

notice_flags : (owner : OwnerView) (notice : Notice) → length owner.sent ≡ length owner.calls →
    length (after_collect owner notice).sent ≡ length (after_collect owner notice).calls
notice_flags owner notice flags = ap (λ l. length l) (notice_sent owner notice) ∙ flags ∙ ap (λ l. length l) (sym (notice_keeps owner notice).1)

-- a caller after a notice
pub calling_heard : {lines : CallerLines} {old : Driver} (new : Driver) (notice : Notice) → new.owner ≡ after_collect old.owner notice →
    new.passes.collects ≡ record old.passes.collects { taken = old.passes.collects.taken ++ notice ∷ []; stamps = new.passes.collects.stamps } →
    new.passes.letters ≡ old.passes.letters → new.passes.kills ≡ old.passes.kills → new.outbox ≡ old.outbox → new.note_posted ≡ old.note_posted →
    IsCalling lines old → IsCalling lines new × Waits old new
calling_heard {lines} {old} new notice is collects letters kills outbox flags calling =
    let on = notice_on old.owner notice calling.places in let keeps = notice_keeps old.owner notice in
    let taken : new.passes.collects.taken ≡ old.passes.collects.taken ++ notice ∷ [] = ap (λ (t : _). t.taken) collects in (
      record {
        places = subst (λ (o : OwnerView). length o.kept ≡ length o.calls) (sym is) (step old.owner (Noticed notice) calling.places).places;
        flags = subst (λ (o : OwnerView). length o.sent ≡ length o.calls) (sym is) (notice_flags old.owner notice calling.flags);
        hears = subst (λ o. Hears o new.passes.collects.taken) (sym is)
            (subst (Hears (after_collect old.owner notice)) (sym taken) (hears_step (Noticed notice) calling.places calling.hears));
        collects = ap (λ (t : _). t.line) collects ∙ calling.collects;
        held = subst (λ o. MayBeSent o new.outbox) (sym is)
            (subst (MayBeSent (after_collect old.owner notice)) (sym outbox) (held_on _ old.outbox on calling.held));
        letters = subst (λ o. All (IsEndpoint lines.mails.now o (option_to_list new.outbox)) new.passes.letters.items) (sym is)
            (subst (λ h. All (IsEndpoint lines.mails.now (after_collect old.owner notice) (option_to_list h)) new.passes.letters.items) (sym outbox)
            (subst (λ (l : _). All (IsEndpoint lines.mails.now (after_collect old.owner notice) (option_to_list old.outbox)) l.items) (sym letters)
            (endpoints_on lines.mails.now _ (option_to_list old.outbox) old.passes.letters.items on calling.letters)));
        kills = subst (λ (l : _). AreKillEndpoints lines.controls.now l.items) (sym kills) calling.kills;
        keeps =
            let heard : (n : Notice) → Contains old.passes.collects.taken n → Contains (old.passes.collects.taken ++ notice ∷ []) n =
            λ n has. Contains-append_left old.passes.collects.taken (notice ∷ []) n has in
            let kept : IsKeeping lines.mails.now (after_collect old.owner notice) (old.passes.collects.taken ++ notice ∷ []) old.passes.letters.items
            (option_to_list old.outbox) =
            keeps_on _ _ on (same_returns old.owner _ (notice_sent old.owner notice) keeps.2) heard calling.keeps in
            rw (is, taken, letters, outbox) kept;
        names = rw (is, keeps.0, kills) calling.names;
        note_posted = rw (is, letters) (noted_on old.passes.letters.items on flags calling.note_posted);
      },
      record {
        stay = record {
          id = ap (λ (o : OwnerView). o.id) is ∙ keeps.0;
          kept = λ k answer has. subst (λ (o : OwnerView). kept_at o.kept k ≡ Some answer) (sym is)
              ((step old.owner (Noticed notice) calling.places).kept k (ap is_some has) ∙ has);
          limits = ap (λ (o : OwnerView). o.limits) is ∙ keeps.3;
          passes = record {
            letters = ap (λ (v : _). map bare_post v.items) letters;
            kills = ap (λ (v : _). map bare_ask v.items) kills;
            collects = collects ∙ sym (ap (λ l. record old.passes.collects { taken = l; stamps = new.passes.collects.stamps }) taken);
          };
        };
        calls = ap (λ (o : OwnerView). o.calls) is ∙ keeps.1;
        handles = ap (λ (o : OwnerView). o.handles) is ∙ keeps.2;
        kills = ap (λ (v : _). v.items) kills;
        heard = λ n has. subst (λ l. Contains l n) (sym taken) (Contains-append_left old.passes.collects.taken (notice ∷ []) n has);
      },
    )

-- a driver with this owner, these passes and this outbox is the one made of them and of its own flags
pub driver_same : (new : Driver) (o : OwnerView) (p : CallerPasses) (h : Option Letter) → new.owner ≡ o → new.passes ≡ p → new.outbox ≡ h →
    new ≡ record { owner = o; passes = p; outbox = h; note_posted = new.note_posted }
driver_same new o p h a b c =
    ap (λ x. record { owner = x; passes = new.passes; outbox = new.outbox; note_posted = new.note_posted }) a ∙
    ap (λ x. record { owner = o; passes = x; outbox = new.outbox; note_posted = new.note_posted }) b ∙
    ap (λ x. record { owner = o; passes = p; outbox = x; note_posted = new.note_posted }) c

-- with the same number, kept answers, limits and passes it is the same caller, and forgets no answer
pub stays_same : (old new : Driver) → new.owner.id ≡ old.owner.id → new.owner.kept ≡ old.owner.kept → new.owner.limits ≡ old.owner.limits →
    new.passes ≡ old.passes → Stays old new
stays_same old new id kept limits passes = record {
  id = id;
  kept = λ k answer has. ap (λ l. kept_at l k) kept ∙ has;
  limits = limits;
  passes = record {
    letters = ap (λ (p : CallerPasses). map bare_post p.letters.items) passes;
    kills = ap (λ (p : CallerPasses). map bare_ask p.kills.items) passes;
    collects = ap (λ (p : CallerPasses). p.collects) passes ∙
        sym (ap (λ (p : CallerPasses). record old.passes.collects { taken = p.collects.taken; stamps = p.collects.stamps }) passes);
  };
}

-- a caller that is the same after one change, and after the next, is so after both, and forgets no answer
pub stays_trans : {one two three : Driver} → Stays one two → Stays two three → Stays one three
stays_trans {three} a b = record {
  id = b.id ∙ a.id;
  kept = λ k answer has. b.kept k answer (a.kept k answer has);
  limits = b.limits ∙ a.limits;
  passes = record {
    letters = b.passes.letters ∙ a.passes.letters;
    kills = b.passes.kills ∙ a.passes.kills;
    collects = b.passes.collects ∙
        ap (λ (t : TakerView Notice RunItem). record t { taken = three.passes.collects.taken; stamps = three.passes.collects.stamps }) a.passes.collects;
  };
}

-- a caller that doesn't change waits
pub waits_same : (driver : Driver) → Waits driver driver
waits_same driver = record { stay = stays_same driver driver refl refl refl refl; calls = refl; handles = refl; kills = refl; heard = λ notice has. has }

-- a caller that waits, and then again, waits in all
pub waits_trans : (one : Driver) {two three : Driver} → Waits one two → Waits two three → Waits one three
waits_trans one {two} {three} a b = record {
  stay = stays_trans a.stay b.stay;
  calls = b.calls ∙ a.calls;
  handles = b.handles ∙ a.handles;
  kills = b.kills ∙ a.kills;
  heard = λ notice has. b.heard notice (a.heard notice has);
}

-- a caller at work that only waits, and then again, only waits in all
pub only_waits_trans : {lines : CallerLines} {one two three : Driver} → OnlyWaits lines one two → OnlyWaits lines two three → OnlyWaits lines one three
only_waits_trans {one} {two} {three} a b = record {
  calling = b.calling;
  waits = waits_trans one a.waits b.waits;
  traced = λ start done is. b.traced start done (a.traced start done is);
}

-- a letter more, or none, at an endpoint
pub posted_waits : (old new : Driver) (at : ℕ) (endpoint : Endpoint (PutterView Letter Unit)) (pass : PutterView Letter Unit) →
    endpoint ≡ get_or old.passes.letters.items at endpoint → bare_post (record { place = endpoint.place; pass = pass }) ≡ bare_post endpoint →
    new.owner ≡ old.owner → new.passes.letters.items ≡ set old.passes.letters.items at (record { place = endpoint.place; pass = pass }) →
    new.passes.kills ≡ old.passes.kills → new.passes.collects ≡ old.passes.collects → Waits old new
posted_waits old new at endpoint pass here same is letters kills collects = record {
  stay = record {
    id = ap (λ (o : OwnerView). o.id) is;
    kept = λ k answer has. ap (λ (o : OwnerView). kept_at o.kept k) is ∙ has;
    limits = ap (λ (o : OwnerView). o.limits) is;
    passes = record {
      letters = ap (λ l. map bare_post l) letters ∙
          map-set_same bare_post old.passes.letters.items at (record { place = endpoint.place; pass = pass }) endpoint (same ∙ ap bare_post here);
      kills = ap (λ (v : _). map bare_ask v.items) kills;
      collects = collects ∙ sym (ap (λ (t : TakerView Notice RunItem). record old.passes.collects { taken = t.taken; stamps = t.stamps }) collects);
    };
  };
  calls = ap (λ (o : OwnerView). o.calls) is;
  handles = ap (λ (o : OwnerView). o.handles) is;
  kills = ap (λ (v : _). v.items) kills;
  heard = λ n has. subst (λ (t : TakerView Notice RunItem). Contains t.taken n) (sym collects) has;
}

-- ---- a call taken in the outbox

three : (a b c : Bool) → (a && not b && not c) ≡ true → (a ≡ true) × (b ≡ false)
three true false false is = (refl, refl)
three true false true is = absurd (cc is)
three true true c is = absurd (cc is)
three false b c is = absurd (cc is)

packet_parts : (owner : OwnerView) (k : ℕ) (found : Option Submission) {packet : Packet} → option_map (packet_for owner k) found ≡ Some packet →
    (packet.future ≡ k) × (packet.caller ≡ owner.id)
packet_parts owner k None is = absurd (cc is)
packet_parts owner k (Some call) {packet} is =
    let same : packet_for owner k call ≡ packet = cc is in (ap (λ (p : Packet). p.future) (sym same), ap (λ (p : Packet). p.caller) (sym same))

set_true : (flags : List Bool) (k : ℕ) → k < length flags → unwrap_or (slice_get (slice_set flags k true) k) false ≡ true
set_true [] k below = absurd (omega arith)
set_true (b ∷ flags) zero below = refl
set_true (b ∷ flags) (suc k) below = set_true flags k (omega arith)

known_call : (owner : OwnerView) (k : ℕ) (found : Option Submission) → slice_get owner.calls k ≡ found → is_known_call owner found ≡ true →
    k < length owner.calls
known_call owner k None is known = absurd (cc known)
known_call owner k (Some call) is known = slice_get_within owner.calls k call is

-- a call that isn't marked sent is in no letter that was put
unmarked : (owner : OwnerView) (packet : Packet) → is_sent owner packet.future ≡ false → (put : List Letter) →
    All (λ k. is_sent owner k ≡ true) (futures_in put) → All (λ letter. AreTwo letter (Call packet)) put
unmarked owner packet fresh [] marked = All-nil (λ letter. AreTwo letter (Call packet))
unmarked owner packet fresh (Call other ∷ put) marked =
    let first : is_sent owner other.future ≡ true = All-head (λ k. is_sent owner k ≡ true) other.future (futures_in put) marked in
    All-cons (λ letter. AreTwo letter (Call packet)) (Call other) put (λ same. cc (first, fresh, ap (is_sent owner) same))
    (unmarked owner packet fresh put (All-tail (λ k. is_sent owner k ≡ true) other.future (futures_in put) marked))
unmarked owner packet fresh (Note note ∷ put) marked =
    All-cons (λ letter. AreTwo letter (Call packet)) (Note note) put tt (unmarked owner packet fresh put marked)

-- a letter more is held
posting_held : (owner later : OwnerView) (a : ℕ) {put : List Letter} (packet : Packet) → OwnerGoesOn owner later → is_sent owner packet.future ≡ false →
    is_sent later packet.future ≡ true → IsPosting owner a [] put → IsPosting later a (Call packet ∷ []) put
posting_held owner later a {put} packet on fresh now is =
    let before = posting_on a [] on is in
    let all : futures_in (put ++ Call packet ∷ []) ≡ futures_in (put ++ []) ++ packet.future ∷ [] =
    filter_map-append future_of_letter put (Call packet ∷ []) ∙ ap (λ l. futures_in l ++ packet.future ∷ []) (sym (append-nil put)) in
    let marked : All (λ k. is_sent owner k ≡ true) (futures_in put) =
    subst (λ l. All (λ k. is_sent owner k ≡ true) (futures_in l)) (append-nil put) is.marked in
    record {
      sent = before.sent;
      distinct = all_pairs_push AreTwo put (Call packet) (subst (AllPairs AreTwo) (append-nil put) is.distinct) (unmarked owner packet fresh put marked);
      marked = subst (λ l. All (λ k. is_sent later k ≡ true) l) (sym all)
          (All-push (λ k. is_sent later k ≡ true) (futures_in (put ++ [])) packet.future before.marked now);
    }

pub calling_taken : {lines : CallerLines} {old : Driver} (new : Driver) (k : ℕ) (packet : Packet) → first_ready old.owner ≡ Some k →
    packet_at old.owner k ≡ Some packet → old.outbox ≡ None → new.owner ≡ with_sent old.owner k → new.passes ≡ old.passes → new.outbox ≡ Some (Call packet) →
    new.note_posted ≡ old.note_posted → IsCalling lines old → IsCalling lines new
calling_taken {lines} {old} new k packet ready at empty is passes outbox flags calling =
    let owner = old.owner in let sent : OwnerView = with_sent owner k in
    let tells = three (is_known_call owner (slice_get owner.calls k)) (is_sent owner k) (is_some (kept_at owner.kept k))
    (found_passes (is_ready owner) (range_with_len 0 (length owner.calls)) ready) in
    let parts = packet_parts owner k (slice_get owner.calls k) at in
    let on : OwnerGoesOn owner sent = change_on owner (Sent k) calling.places (λ a none. (none, refl)) in
    let below : k < length owner.sent = omega (arith, calling.flags, known_call owner k (slice_get owner.calls k) refl tells.0) in
    let fresh : is_sent owner packet.future ≡ false = ap (is_sent owner) parts.0 ∙ tells.1 in
    let now : is_sent sent packet.future ≡ true = ap (is_sent sent) parts.0 ∙ set_true owner.sent k below in
    let mine : IsSent owner packet.actor (Call packet) = (ap (packet_at owner) parts.0 ∙ at, ap (is_known_at owner) parts.0 ∙ tells.0, refl) in
    let endpoints : All (IsEndpoint lines.mails.now owner []) old.passes.letters.items =
    subst (λ h. All (IsEndpoint lines.mails.now owner (option_to_list h)) old.passes.letters.items) empty calling.letters in
    let next : Driver = record { owner = sent; passes = old.passes; outbox = Some (Call packet); note_posted = new.note_posted } in
    let good : IsCalling lines next = record {
      places = calling.places;
      flags = length-set owner.sent k true ∙ calling.flags;
      hears = subst (Hears sent) (append-nil old.passes.collects.taken) (hears_step (Sent k) calling.places calling.hears);
      collects = calling.collects;
      held = sent_on packet.actor (Call packet) on mine;
      letters = All-weaker (IsEndpoint lines.mails.now owner []) (IsEndpoint lines.mails.now sent (Call packet ∷ [])) (λ endpoint s. record {
        below = s.below;
        line = s.line;
        number = s.number;
        posting = λ d. posting_held owner sent _ packet on fresh now (s.posting d);
      }) old.passes.letters.items endpoints;
      kills = calling.kills;
      keeps = keeps_taken owner k packet at tells.0
          (subst (λ h. IsKeeping lines.mails.now owner old.passes.collects.taken old.passes.letters.items (option_to_list h)) empty calling.keeps);
      names = calling.names;
      note_posted = noted_on old.passes.letters.items on flags calling.note_posted;
    } in
    subst (IsCalling lines) (sym (driver_same new _ _ _ is passes outbox)) good

-- ---- a letter that is posted, or dropped

pairs_front : (xs ys : List Letter) → AllPairs AreTwo (xs ++ ys) → AllPairs AreTwo xs
pairs_front xs ys all i j d lt below =
    let long : length (xs ++ ys) ≡ length xs + length ys = length-append xs ys in
    let one = get_or_append_left xs ys d i (omega (arith, lt, below)) in let other = get_or_append_left xs ys d j below in
    subst (λ l. AreTwo l (get_or xs j d)) one (subst (AreTwo (get_or (xs ++ ys) i d)) other (all i j d lt (omega (arith, below, long))))

all_front : (P : ℕ → Type 0) (xs ys : List ℕ) → All P (xs ++ ys) → All P xs
all_front P xs ys all k d below =
    let long : length (xs ++ ys) ≡ length xs + length ys = length-append xs ys in
    subst P (get_or_append_left xs ys d k below) (all k d (omega (arith, below, long)))

pub posting_less : {owner : OwnerView} (a : ℕ) {held put : List Letter} → IsPosting owner a held put → IsPosting owner a [] put
posting_less {owner} a {held} {put} is =
    let all : futures_in (put ++ held) ≡ futures_in (put ++ []) ++ futures_in held =
    filter_map-append future_of_letter put held ∙ ap (λ l. futures_in l ++ futures_in held) (sym (append-nil put)) in
    record {
      sent = is.sent;
      distinct = subst (AllPairs AreTwo) (sym (append-nil put)) (pairs_front put held is.distinct);
      marked =
          all_front (λ k. is_sent owner k ≡ true) (futures_in (put ++ [])) (futures_in held) (subst (λ l. All (λ k. is_sent owner k ≡ true) l) all is.marked);
    }

posting_put : (owner : OwnerView) (a : ℕ) {put : List Letter} (letter : Letter) → IsSent owner a letter → IsPosting owner a (letter ∷ []) put →
    IsPosting owner a [] (put ++ letter ∷ [])
posting_put owner a {put} letter mine is = record {
  sent = All-push (IsSent owner a) put letter is.sent mine;
  distinct = subst (AllPairs AreTwo) (sym (append-nil (put ++ letter ∷ []))) is.distinct;
  marked = subst (λ l. All (λ k. is_sent owner k ≡ true) (futures_in l)) (sym (append-nil (put ++ letter ∷ []))) is.marked;
}

endpoints_less : (mails : List MailView) (owner : OwnerView) (held : List Letter) (endpoints : List (Endpoint (PutterView Letter Unit))) →
    All (IsEndpoint mails owner held) endpoints → All (IsEndpoint mails owner []) endpoints
endpoints_less mails owner held endpoints is = All-weaker (IsEndpoint mails owner held) (IsEndpoint mails owner [])
    (λ endpoint s. record { below = s.below; line = s.line; number = s.number; posting = λ d. posting_less _ (s.posting d) }) endpoints is

-- the letter in the outbox is let go, which need not be posted
pub calling_dropped : {lines : CallerLines} {old : Driver} (new : Driver) (letter : Letter) → old.outbox ≡ Some letter →
    IsIdle lines.mails.now old.passes.collects.taken old.passes.letters.items (actor_of_letter letter) → new.owner ≡ old.owner → new.passes ≡ old.passes →
    new.outbox ≡ None → new.note_posted ≡ old.note_posted → IsCalling lines old → IsCalling lines new
calling_dropped {lines} {old} new letter held idle is passes outbox flags calling =
    let next : Driver = record { owner = old.owner; passes = old.passes; outbox = None; note_posted = new.note_posted } in
    let good : IsCalling lines next = record {
      places = calling.places;
      flags = calling.flags;
      hears = calling.hears;
      collects = calling.collects;
      held = tt;
      letters = endpoints_less lines.mails.now old.owner (option_to_list old.outbox) old.passes.letters.items calling.letters;
      kills = calling.kills;
      keeps = keeps_dropped letter idle
          (subst (λ h. IsKeeping lines.mails.now old.owner old.passes.collects.taken old.passes.letters.items (option_to_list h)) held calling.keeps);
      names = calling.names;
      note_posted = noted_same old.owner old.passes.letters.items flags calling.note_posted;
    } in
    subst (IsCalling lines) (sym (driver_same new _ _ _ is passes outbox)) good

-- the letter in the outbox stands in its line
pub calling_posted : {lines : CallerLines} {old : Driver} (new : Driver) (letter : Letter) (at : ℕ) (endpoint : Endpoint (PutterView Letter Unit))
    (pass : PutterView Letter Unit) (stamps : List ℕ) → old.outbox ≡ Some letter → at < length old.passes.letters.items →
    endpoint ≡ get_or old.passes.letters.items at endpoint → ((d : MailView) → (get_or lines.mails.now endpoint.place d).actor ≡ actor_of_letter letter) →
    pass ≡ record endpoint.pass { put = endpoint.pass.put ++ letter ∷ []; stamps = stamps } → new.owner ≡ old.owner →
    new.passes.letters.items ≡ set old.passes.letters.items at (record { place = endpoint.place; pass = pass }) → new.passes.kills ≡ old.passes.kills →
    new.passes.collects ≡ old.passes.collects → new.outbox ≡ None → new.note_posted ≡
    (if is_note_letter letter then set old.note_posted (actor_of_letter letter) true else old.note_posted) → IsCalling lines old → IsCalling lines new
calling_posted {lines} {old} new letter at endpoint pass stamps outbox below here there put is letters kills collects empty marked calling =
    let owner = old.owner in let mails = lines.mails.now in
    let was : IsEndpoint mails owner (option_to_list old.outbox) endpoint =
    subst (IsEndpoint mails owner (option_to_list old.outbox)) (sym here) (calling.letters at endpoint below) in
    let was : IsEndpoint mails owner (letter ∷ []) endpoint = subst (λ h. IsEndpoint mails owner (option_to_list h) endpoint) outbox was in
    let mine : IsSent owner (actor_of_letter letter) letter = subst (MayBeSent owner) outbox calling.held in
    let next : Endpoint (PutterView Letter Unit) =
    record { place = endpoint.place; pass = record endpoint.pass { put = endpoint.pass.put ++ letter ∷ []; stamps = stamps } } in
    let one : IsEndpoint mails owner [] next = record {
      below = was.below;
      line = was.line;
      number = was.number;
      posting = λ d. posting_put owner _ letter (subst (λ a. IsSent owner a letter) (sym (there d)) mine) (was.posting d);
    } in
    let one : IsEndpoint mails owner [] (record { place = endpoint.place; pass = pass }) =
    subst (λ p. IsEndpoint mails owner [] (record { place = endpoint.place; pass = p })) (sym put) one in
    let all : All (IsEndpoint mails owner []) new.passes.letters.items = subst (λ l. All (IsEndpoint mails owner []) l) (sym letters)
    (All-set (IsEndpoint mails owner []) old.passes.letters.items at _ one
    (endpoints_less mails owner (option_to_list old.outbox) old.passes.letters.items calling.letters)) in
    let kept : IsKeeping mails owner old.passes.collects.taken (set old.passes.letters.items at (record { place = endpoint.place; pass = pass })) [] =
    keeps_posted mails at endpoint pass letter below here (ap (λ (p : PutterView Letter Unit). p.put) put)
    (subst (λ h. IsKeeping mails owner old.passes.collects.taken old.passes.letters.items (option_to_list h)) outbox calling.keeps) in
    let note_posted : AreNoted owner (set old.passes.letters.items at (record { place = endpoint.place; pass = pass })) new.note_posted =
    noted_posted owner old.passes.letters.items at endpoint pass letter old.note_posted below here
    (ap (λ (p : PutterView Letter Unit). p.put) put) mine marked calling.note_posted in
    record {
      places = rw is calling.places;
      flags = rw is calling.flags;
      hears = rw (is, collects) calling.hears;
      collects = rw collects calling.collects;
      held = rw empty tt;
      letters = rw (is, empty) all;
      kills = rw kills calling.kills;
      keeps = rw (is, collects, letters, empty) kept;
      names = rw (is, kills) calling.names;
      note_posted = rw (is, letters) note_posted;
    }
