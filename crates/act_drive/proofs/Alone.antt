-- What the tests stand on: the passes of a caller with one actor as they are opened, and what an actor's run leaves.
use Rattle.act_drive.proofs.Common.{◌≡◌, ◌≢◌, ℕ, zero, suc, ◌<◌, List, [], ◌∷◌, ◌++◌, length, get_or, refl, sym, ap, ◌∙◌, subst, arith, All, AllPairs, Option}
use Rattle.act_drive.proofs.Common.{Some, None, Ok, Err, Result, append-nil, slice_get, option_map, IfOk, OnOk, OnErr, IfSome, IfNone, Packet, Reply, Notice}
use Rattle.act_drive.proofs.Common.{Answered, RunItem, IsPrefix, All-two, KindState, LiveView, ActorView, live_view, item_of, reply_of_run, next_call}
use Rattle.act_drive.proofs.Common.{HasRunCall, All-push, all_pairs_push, MailView, ControlView, RepliesView, ReplyExecView, IsNoDeath, NamesPlace, PutterView}
use Rattle.act_drive.proofs.Common.{new_putter, new_taker, Asked, Letter, Endpoint, CallerPasses, IsFreshEndpoint, IsKillEndpoint, AreKillEndpoints}
use Rattle.act_drive.proofs.Common.{IsUnusedCaller}
use Rattle.act_rules.proofs.Common.{slice_get_last}

one_kill : (control : ControlView) (c : ℕ) (pass : PutterView Asked ℕ) → pass ≡ new_putter control.line c →
    AreKillEndpoints (control ∷ []) (record { place = 0; pass = pass } ∷ [])
one_kill control c pass is = (
  All-push (IsKillEndpoint (control ∷ [])) [] (record { place = 0; pass = pass }) (λ k d below. absurd (omega arith))
      (record { below = omega arith; line = λ d. sym (ap (λ (p : PutterView Asked ℕ). p.line) is) }),
  λ i j d lt below. absurd (omega arith),
)

-- ---- the same with two actors

at_one : {X : Type 0} (x d : X) (j : ℕ) → j < length (x ∷ []) → get_or (x ∷ []) j d ≡ x
at_one x d zero below = refl
at_one x d (suc j) below = absurd (omega (arith, below))

pub unused_pair : (passes : CallerPasses) (c : ℕ) (mail mail2 : MailView) (control control2 : ControlView) (replies : RepliesView)
    {post post2 : PutterView Letter Unit} {ask ask2 : PutterView Asked ℕ} (actors : List ℕ) → post ≡ new_putter mail.line c → post2 ≡ new_putter mail2.line c →
    ask ≡ new_putter control.line c → ask2 ≡ new_putter control2.line c → mail.actor ≢ mail2.actor → control.actor ≢ control2.actor →
    passes.letters.items ≡ record { place = 0; pass = post } ∷ record { place = 1; pass = post2 } ∷ [] →
    passes.kills.items ≡ record { place = 0; pass = ask } ∷ record { place = 1; pass = ask2 } ∷ [] → passes.collects ≡ new_taker replies.line actors →
    IsUnusedCaller (mail ∷ mail2 ∷ []) (control ∷ control2 ∷ []) replies c passes
unused_pair passes c mail mail2 control control2 replies {post} {post2} {ask}
    {ask2} actors posted posted2 asked asked2 mails_apart apart letters kills collects =
    let controls : List ControlView = control ∷ control2 ∷ [] in
    let one : Endpoint (PutterView Asked ℕ) = record { place = 0; pass = ask } in
    let two : Endpoint (PutterView Asked ℕ) = record { place = 1; pass = ask2 } in
    let P : Endpoint (PutterView Asked ℕ) → Endpoint (PutterView Asked ℕ) → Type 0 = λ s t. (d : ControlView) →
    (get_or controls s.place d).actor ≢ (get_or controls t.place d).actor in
    let differ : AllPairs P (one ∷ two ∷ []) = all_pairs_push P (one ∷ []) two (λ i j d lt below. absurd (omega (arith, lt, below)))
    (λ j d below. subst (λ s. P s two) (sym (at_one one d j below)) (λ d. apart)) in
    let mails : List MailView = mail ∷ mail2 ∷ [] in
    let first : Endpoint (PutterView Letter Unit) = record { place = 0; pass = post } in
    let second : Endpoint (PutterView Letter Unit) = record { place = 1; pass = post2 } in
    let Q : Endpoint (PutterView Letter Unit) → Endpoint (PutterView Letter Unit) → Type 0 = λ s t. (d : MailView) →
    (get_or mails s.place d).actor ≢ (get_or mails t.place d).actor in
    let distinct : AllPairs Q (first ∷ second ∷ []) = all_pairs_push Q (first ∷ []) second (λ i j d lt below. absurd (omega (arith, lt, below)))
    (λ j d below. subst (λ s. Q s second) (sym (at_one first d j below)) (λ d. mails_apart)) in
    record {
      collects = ap (λ (t : _). t.line) collects;
      taken = ap (λ (t : _). t.taken) collects;
      stamps = ap (λ (t : _). t.stamps) collects;
      distinct = rw letters distinct;
      letters = rw letters (All-two (IsFreshEndpoint (mail ∷ mail2 ∷ []) c) (record { place = 0; pass = post }) (record { place = 1; pass = post2 })
          (record {
            below = omega arith;
            line = λ d. sym (ap (λ (p : PutterView Letter Unit). p.line) posted);
            number = ap (λ (p : PutterView Letter Unit). p.number) posted;
            put = ap (λ (p : PutterView Letter Unit). p.put) posted;
            stamps = ap (λ (p : PutterView Letter Unit). p.stamps) posted;
          }) (record {
            below = omega arith;
            line = λ d. sym (ap (λ (p : PutterView Letter Unit). p.line) posted2);
            number = ap (λ (p : PutterView Letter Unit). p.number) posted2;
            put = ap (λ (p : PutterView Letter Unit). p.put) posted2;
            stamps = ap (λ (p : PutterView Letter Unit). p.stamps) posted2;
          }));
      kills = rw kills (
        All-two (IsKillEndpoint controls) one two (record { below = omega arith; line = λ d. sym (ap (λ (p : PutterView Asked ℕ). p.line) asked) })
            (record { below = omega arith; line = λ d. sym (ap (λ (p : PutterView Asked ℕ). p.line) asked2) }),
        differ,
      );
      asked = rw kills (All-two (λ (s : Endpoint (PutterView Asked ℕ)). s.pass.put ≡ []) one two (ap (λ (p : PutterView Asked ℕ). p.put) asked)
          (ap (λ (p : PutterView Asked ℕ). p.put) asked2));
      asked_stamps = rw kills (All-two (λ (s : Endpoint (PutterView Asked ℕ)). s.pass.stamps ≡ []) one two (ap (λ (p : PutterView Asked ℕ). p.stamps) asked)
          (ap (λ (p : PutterView Asked ℕ). p.stamps) asked2));
    }

-- ---- an actor's run, and what is given

named : (caller : ℕ) (before after : ActorView) (next : Option Packet) (reply : Reply) → Some reply ≡ option_map (reply_of_run before) next →
    IfSome next (λ packet. HasRunCall caller packet before after) →
    (after.id ≡ before.id) × IsPrefix before.log after.log × ((reply.actor ≡ before.id) × NamesPlace after.log (Answered reply))
named caller before after None reply is ran = absurd (cc is)
named caller before after (Some packet) reply is ran =
    let same : reply ≡ reply_of_run before packet = cc is in
    let at : slice_get after.log reply.place ≡ Some (item_of packet) = subst (λ l. slice_get l reply.place ≡ Some (item_of packet)) (sym ran.log)
    (subst (λ n. slice_get (before.log ++ item_of packet ∷ []) n ≡ Some (item_of packet)) (sym (ap (λ (r : Reply). r.place) same))
    (slice_get_last before.log (item_of packet))) in (
      ran.id,
      (item_of packet ∷ [], sym ran.log),
      (ap (λ (r : Reply). r.actor) same, (item_of packet, at, ap (λ (r : Reply). r.caller) same, ap (λ (r : Reply). r.future) same)),
    )

same_front : {S : Type 0} {before after : LiveView S} → after ≡ before → IsPrefix before.log after.log
same_front {before} same = ([], append-nil before.log ∙ sym (ap (λ a. a.log) same))

pub run_named : {E S : Type 0} (read : S → KindState) (caller : ℕ) (before after : LiveView S) (result : Result (Option Reply) E) →
    IfOk result (λ reply. reply ≡ option_map (reply_of_run (live_view read before)) (next_call before.log before.inbox caller)) →
    OnOk result (IfSome (next_call before.log before.inbox caller) (λ packet. HasRunCall caller packet (live_view read before) (live_view read after))) →
    IfOk result (λ reply. IfNone reply (after ≡ before)) → OnErr result (after ≡ before) → (after.id ≡ before.id) × IsPrefix before.log after.log × IfOk result
    (λ ran. IfSome ran (λ reply. (reply.actor ≡ before.id) × NamesPlace after.log (Answered reply)))
run_named read caller before after (Err e) told ran gap same = (ap (λ a. a.id) same, same_front same, tt)
run_named read caller before after (Ok None) told ran gap same = (ap (λ a. a.id) gap, same_front gap, tt)
run_named read caller before after (Ok (Some reply)) told ran gap same =
    named caller (live_view read before) (live_view read after) (next_call before.log before.inbox caller) reply told ran

pub given_on : (result : Result Unit Notice) (old new : ReplyExecView) (log : List RunItem) (reply : Reply) →
    OnOk result (new ≡ record old { given = old.given ++ Answered reply ∷ []; seen = log }) → OnErr result (new ≡ old) → IsPrefix old.seen log →
    All IsNoDeath old.given → (new.line ≡ old.line) × (new.actor ≡ old.actor) × IsPrefix new.seen log × All IsNoDeath new.given
given_on (Ok x) old new log reply ok err front alive = (
  ap (λ (p : ReplyExecView). p.line) ok,
  ap (λ (p : ReplyExecView). p.actor) ok,
  ([], append-nil new.seen ∙ ap (λ (p : ReplyExecView). p.seen) ok),
  subst (λ (p : ReplyExecView). All IsNoDeath p.given) (sym ok) (All-push IsNoDeath old.given (Answered reply) alive tt),
)
given_on (Err e) old new log reply ok err front alive = (
  ap (λ (p : ReplyExecView). p.line) err,
  ap (λ (p : ReplyExecView). p.actor) err,
  subst (λ (p : ReplyExecView). IsPrefix p.seen log) (sym err) front,
  subst (λ (p : ReplyExecView). All IsNoDeath p.given) (sym err) alive,
)
