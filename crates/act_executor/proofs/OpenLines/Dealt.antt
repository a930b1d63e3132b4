-- What follows of lines whose passes were dealt by the casts and the parts.
use Rattle.act_executor.proofs.Common.{◌≡◌, ◌≢◌, ℕ, ◌<◌, true, List, [], ◌∷◌, Some, All, Contains, length, map, get_or, refl, ap, sym, ◌∙◌, subst, arith, ◌==◌}
use Rattle.act_executor.proofs.Common.{◌&&◌, slice_get, AllPairs, list_any, length-map, get_or-map, All-nil, All-contains, slice_get_within}
use Rattle.act_executor.proofs.Common.{get_or_from_slice_get, slice_get-get_or, TableId, contains, map-slice_get, CallersDiffer, Cast, PutterView, new_putter}
use Rattle.act_executor.proofs.Common.{MailView, ControlView, starter, RepliesView, ReplyExecView, new_exec, IsNoDeath, Letter, Asked, Endpoint, ExecPasses}
use Rattle.act_executor.proofs.Common.{caller_at, endpoint_callers, IsAtItsEndpoint, EndpointsDiffer, CallerPasses, IsFreshEndpoint, AreDistinct}
use Rattle.act_executor.proofs.Common.{IsKillEndpoint, AreKillEndpoints, CallerSetup, AreMatched, Opened, group_of, endpoints_from, IsExec, IsCaller, ArePaired}
use Rattle.act_executor.proofs.Common.{AreLines, AreAtLines, AreOpened, both_ways, contains_map, at_both, at_other, as_long, all_at, map_apart, pairs_weaker}
use Rattle.act_executor.proofs.Common.{apart_at, has_contains, contains_name, all_names}
use Rattle.act_executor.proofs.OpenLines.Endpoints.{each_of, has_of, rising_of}
use Rattle.act_executor.proofs.Lists.Places.{each_at, only_cast}
use Rattle.act_executor.proofs.Lists.Pairs.{place_is}

abbrev line_of_mail : MailView → TableId
line_of_mail mail = mail.line

abbrev line_of_control : ControlView → TableId
line_of_control control = control.line

abbrev line_of_replies : RepliesView → TableId
line_of_replies line = line.line

abbrev actors_of : CallerSetup → List ℕ
actors_of setup = setup.actors.items

-- the endpoints of a caller's letters, of its kills, and of an actor's notices
abbrev pub letters_of : {K : Type 0} → List (Cast K) → List MailView → ℕ → List (Endpoint (PutterView Letter Unit))
letters_of casts mails c = group_of (λ pass. pass.number) c (endpoints_from new_putter 0 (map (λ mail. mail.line) mails) (map (λ cast. cast.callers) casts))

abbrev pub kills_of : {K : Type 0} → List (Cast K) → List ControlView → ℕ → List (Endpoint (PutterView Asked ℕ))
kills_of casts controls c =
    group_of (λ pass. pass.number) c (endpoints_from new_putter 0 (map (λ control. control.line) controls) (map (λ cast. cast.callers) casts))

abbrev pub notices_of : List CallerSetup → List RepliesView → ℕ → List (Endpoint ReplyExecView)
notices_of setups replies a =
    group_of (λ pass. pass.actor) a (endpoints_from new_exec 0 (map (λ line. line.line) replies) (map (λ setup. setup.actors.items) setups))

-- the passes stand as their lines do, with the endpoints that these deal
pub record AreDealt {K : Type 0} (casts : List (Cast K)) (setups : List CallerSetup) (opened : Opened) : Type 0 where
  pub lines : AreLines casts setups opened.lines
  pub at_lines : AreAtLines opened
  pub actors : map (λ exec. exec.pass.kills.actor) opened.execs.items ≡ map (λ cast. cast.actor) casts
  pub askers : map (λ exec. exec.pass.kills.askers) opened.execs.items ≡ map (λ cast. starter ∷ cast.callers) casts
  pub unread : All (λ exec. (exec.pass.letters.taken ≡ []) × (exec.pass.letters.stamps ≡ [])) opened.execs.items
  pub unasked : All (λ exec. (exec.pass.kills.taken ≡ []) × (exec.pass.kills.stamps ≡ []) × (exec.pass.kills.lengths ≡ [])) opened.execs.items
  pub uncollected : All (λ caller. (caller.pass.collects.taken ≡ []) × (caller.pass.collects.stamps ≡ [])) opened.callers.items
  pub notices : map (λ exec. exec.pass.notices.items) opened.execs.items ≡ map (λ cast. notices_of setups opened.lines.replies.items cast.actor) casts
  pub letters : map (λ caller. caller.pass.letters.items) opened.callers.items ≡ map (λ setup. letters_of casts opened.lines.mails.items setup.caller) setups
  pub kills : map (λ caller. caller.pass.kills.items) opened.callers.items ≡ map (λ setup. kills_of casts opened.lines.controls.items setup.caller) setups

-- endpoints at rising places are of lines whose owners differ
lines_apart : {V P : Type 0} (owner : V → ℕ) (lines : List V) (endpoints : List (Endpoint P)) → CallersDiffer (map owner lines) →
    All (λ endpoint. endpoint.place < length lines) endpoints → AllPairs (λ one other. one.place < other.place) endpoints →
    AllPairs (λ one other. (d : V) → owner (get_or lines one.place d) ≢ owner (get_or lines other.place d)) endpoints
lines_apart {V} owner lines endpoints differ below rising = pairs_weaker (λ endpoint. endpoint.place < length lines) (λ one other. one.place < other.place)
    (λ one other. (d : V) → owner (get_or lines one.place d) ≢ owner (get_or lines other.place d))
    (λ one other first within less d same. let long = length-map lines owner in apart_at (map owner lines) differ less (omega (arith, long, within)) 0 0
    (get_or-map owner lines one.place d 0 first ∙ same ∙ sym (get_or-map owner lines other.place d 0 within))) endpoints below rising

-- ---- an executor's notices

module _ {K : Type 0} (casts : List (Cast K)) (setups : List CallerSetup) (matched : AreMatched casts setups) (replies : List RepliesView)
    (callers : map (λ (line : RepliesView). line.caller) replies ≡ map (λ (setup : CallerSetup). setup.caller) setups) where
  each_notice : (a : ℕ) (Q : Endpoint ReplyExecView → Type 0) → ((i : ℕ) (r : RepliesView) (setup : CallerSetup) → slice_get replies i ≡ Some r → slice_get
      setups i ≡ Some setup → contains a setup.actors.items ≡ true → Q (record { place = i; pass = new_exec r.line a })) → All Q (notices_of setups replies a)
  each_notice a Q each =
      each_of new_exec (λ (pass : ReplyExecView). pass.actor) (λ line c. refl) line_of_replies actors_of replies setups matched.own_differ a Q each

  at_caller : (i : ℕ) {setup : CallerSetup} → slice_get setups i ≡ Some setup → caller_at replies i ≡ setup.caller
  at_caller i {setup} at =
      let r = at_other (λ (line : RepliesView). line.caller) (λ (setup : CallerSetup). setup.caller) replies setups callers i at in
      get_or-map (λ (line : RepliesView). line.caller) replies i r.0 0 (slice_get_within replies i r.0 r.1) ∙
      ap (λ (line : RepliesView). line.caller) (get_or_from_slice_get replies i r.0 r.0 r.1) ∙ r.2

  endpoints_at : (a : ℕ) → All (IsAtItsEndpoint replies a []) (notices_of setups replies a)
  endpoints_at a = each_notice a (IsAtItsEndpoint replies a []) (λ i r setup at there named. record {
    below = slice_get_within replies i r at;
    line = λ d. ap line_of_replies (get_or_from_slice_get replies i r d at);
    actor_is = refl;
    grown = ([], refl);
    alive = All-nil IsNoDeath;
  })

  callers_apart : CallersDiffer (map (λ (line : RepliesView). line.caller) replies)
  callers_apart = subst CallersDiffer (sym callers) (map_apart (λ (setup : CallerSetup). setup.caller) setups matched.setups_differ)

  differ : (a : ℕ) → EndpointsDiffer replies (notices_of setups replies a)
  differ a = map_apart (λ (endpoint : Endpoint ReplyExecView). caller_at replies endpoint.place) (notices_of setups replies a) (pairs_weaker
      (IsAtItsEndpoint replies a []) (λ one other. one.place < other.place) (λ one other. caller_at replies one.place ≢ caller_at replies other.place)
      (λ one other is is' below. let within = is'.below in let long = length-map replies (λ (line : RepliesView). line.caller) in
      apart_at (map (λ (line : RepliesView). line.caller) replies) callers_apart below (omega arith) 0 0) (notices_of setups replies a) (endpoints_at a)
      (rising_of new_exec (λ (pass : ReplyExecView). pass.actor) (λ line c. refl) line_of_replies actors_of replies setups matched.own_differ a))

  -- a part knows an actor whose cast names its caller
  knows : (i j : ℕ) (cast : Cast K) (setup : CallerSetup) → slice_get casts j ≡ Some cast → slice_get setups i ≡ Some setup →
      contains cast.actor setup.actors.items ≡ contains setup.caller cast.callers
  knows i j cast setup at there =
      let known : (a : ℕ) → contains a setup.actors.items ≡ list_any (λ (cast : Cast K). (cast.actor == a) && contains setup.caller cast.callers) casts =
      all_at (λ (setup : CallerSetup). (a : ℕ) → contains a setup.actors.items ≡ list_any
      (λ (cast : Cast K). (cast.actor == a) && contains setup.caller cast.callers) casts) setups i matched.known there in
      known cast.actor ∙ only_cast (λ (cast : Cast K). contains setup.caller cast.callers) casts j cast matched.actors_differ at

  -- an actor has an endpoint at the line of each caller that its cast names
  has_notice : (i j : ℕ) (cast : Cast K) {setup : CallerSetup} (r : RepliesView) → slice_get casts j ≡ Some cast → slice_get setups i ≡ Some setup →
      slice_get replies i ≡ Some r → contains setup.caller cast.callers ≡ true →
      Contains (notices_of setups replies cast.actor) (record { place = i; pass = new_exec r.line cast.actor })
  has_notice i j cast {setup} r at there line named = has_of new_exec (λ (pass : ReplyExecView). pass.actor)
      (λ line c. refl) line_of_replies actors_of replies setups matched.own_differ cast.actor i line there (knows i j cast setup at there ∙ named)

  its_callers : (j : ℕ) (cast : Cast K) → slice_get casts j ≡ Some cast → (c : ℕ) →
      contains c (endpoint_callers replies (notices_of setups replies cast.actor)) ≡ contains c cast.callers
  its_callers j cast at c = both_ways (contains c (endpoint_callers replies (notices_of setups replies cast.actor))) (contains c cast.callers) there back
    where
      there : contains c (endpoint_callers replies (notices_of setups replies cast.actor)) ≡ true → contains c cast.callers ≡ true
      there named = all_names (λ (endpoint : Endpoint ReplyExecView). caller_at replies endpoint.place) (λ d. contains d cast.callers ≡ true) (notices_of setups
          replies cast.actor) c (each_notice cast.actor (λ (endpoint : Endpoint ReplyExecView). contains (caller_at replies endpoint.place) cast.callers ≡ true)
          (λ i r setup line is knows_it. ap (λ d. contains d cast.callers) (at_caller i is) ∙ sym (knows i j cast setup at is) ∙ knows_it)) named

      back : contains c cast.callers ≡ true → contains c (endpoint_callers replies (notices_of setups replies cast.actor)) ≡ true
      back named =
          let takes : Contains (map (λ (setup : CallerSetup). setup.caller) setups) c =
          All-contains (Contains (map (λ (setup : CallerSetup). setup.caller) setups)) cast.callers c (all_at (λ (cast : Cast K). All (Contains
          (map (λ (setup : CallerSetup). setup.caller) setups)) cast.callers) casts j matched.taking_setup at) (has_contains c cast.callers named) in
          let i = takes.0 in
          let here : slice_get (map (λ (setup : CallerSetup). setup.caller) setups) i ≡ Some c =
          slice_get-get_or (map (λ (setup : CallerSetup). setup.caller) setups) i c takes.1 ∙ ap (λ d. Some d) takes.2 in
          let setup = map-slice_get (λ (setup : CallerSetup). setup.caller) setups i here in
          let r = at_other (λ (line : RepliesView). line.caller) (λ (setup : CallerSetup). setup.caller) replies setups callers i setup.1 in
          let has = has_notice i j cast r.0 at setup.1 r.1 (ap (λ d. contains d cast.callers) setup.2 ∙ named) in
          contains_name (λ (endpoint : Endpoint ReplyExecView). caller_at replies endpoint.place) (notices_of setups replies cast.actor) has.0 c has.1 has.2
          (at_caller i setup.1 ∙ setup.2)

-- ---- a caller's letters and kills

module _ {K : Type 0} (casts : List (Cast K)) (setups : List CallerSetup) (matched : AreMatched casts setups) where
  abbrev callers_in : Cast K → List ℕ
  callers_in cast = cast.callers

  -- lines of the casts are of actors that differ
  own_apart : (owners : List ℕ) → owners ≡ map (λ (cast : Cast K). cast.actor) casts → CallersDiffer owners
  own_apart owners are = subst CallersDiffer (sym are) (map_apart (λ (cast : Cast K). cast.actor) casts matched.actors_differ)

  module _ (mails : List MailView) (actors : map (λ (mail : MailView). mail.actor) mails ≡ map (λ (cast : Cast K). cast.actor) casts) where
    fresh_letters : (c : ℕ) → All (IsFreshEndpoint mails c) (letters_of casts mails c)
    fresh_letters c = each_of new_putter (λ (pass : PutterView Letter Unit). pass.number)
        (λ line d. refl) line_of_mail callers_in mails casts matched.callers_differ c (IsFreshEndpoint mails c) (λ i mail cast at there named. record {
          below = slice_get_within mails i mail at;
          line = λ d. ap line_of_mail (get_or_from_slice_get mails i mail d at);
          number = refl;
          put = refl;
          stamps = refl;
        })

    letters_apart : (c : ℕ) → AreDistinct mails (letters_of casts mails c)
    letters_apart c =
        lines_apart (λ (mail : MailView). mail.actor) mails (letters_of casts mails c) (own_apart _ actors) (λ k d lt. (fresh_letters c k d lt).below)
        (rising_of new_putter (λ (pass : PutterView Letter Unit). pass.number) (λ line d. refl) line_of_mail callers_in mails casts matched.callers_differ c)

    has_letter : (j c : ℕ) (cast : Cast K) → slice_get casts j ≡ Some cast → contains c cast.callers ≡ true →
        Contains (map (λ (endpoint : Endpoint (PutterView Letter Unit)). endpoint.place) (letters_of casts mails c)) j
    has_letter j c cast at named =
        let mail = at_other (λ (mail : MailView). mail.actor) (λ (cast : Cast K). cast.actor) mails casts actors j at in
        let has = has_of new_putter (λ (pass : PutterView Letter Unit). pass.number)
        (λ line d. refl) line_of_mail callers_in mails casts matched.callers_differ c j mail.1 at named in
        contains_map (λ (endpoint : Endpoint (PutterView Letter Unit)). endpoint.place) (letters_of casts mails c)
        (record { place = j; pass = new_putter mail.0.line c }) has

  module _ (controls : List ControlView) (actors : map (λ (control : ControlView). control.actor) controls ≡ map (λ (cast : Cast K). cast.actor) casts) where
    each_kill : (c : ℕ) (Q : Endpoint (PutterView Asked ℕ) → Type 0) → ((i : ℕ) (control : ControlView) (cast : Cast K) → slice_get controls i ≡ Some control →
        slice_get casts i ≡ Some cast → contains c cast.callers ≡ true → Q (record { place = i; pass = new_putter control.line c })) →
        All Q (kills_of casts controls c)
    each_kill c Q each = each_of new_putter (λ (pass : PutterView Asked ℕ). pass.number)
        (λ line d. refl) line_of_control callers_in controls casts matched.callers_differ c Q each

    kill_endpoints : (c : ℕ) → All (IsKillEndpoint controls) (kills_of casts controls c)
    kill_endpoints c = each_kill c (IsKillEndpoint controls) (λ i control cast at there named. record {
      below = slice_get_within controls i control at;
      line = λ d. ap line_of_control (get_or_from_slice_get controls i control d at);
    })

    kills_apart : (c : ℕ) → AllPairs (λ (one other : Endpoint (PutterView Asked ℕ)). (d : ControlView) →
        (get_or controls one.place d).actor ≢ (get_or controls other.place d).actor) (kills_of casts controls c)
    kills_apart c = lines_apart (λ (control : ControlView). control.actor) controls (kills_of casts controls c) (own_apart _ actors)
        (λ k d lt. (kill_endpoints c k d lt).below)
        (rising_of new_putter (λ (pass : PutterView Asked ℕ). pass.number) (λ line d. refl) line_of_control callers_in controls casts matched.callers_differ c)

    has_kill : (j c : ℕ) (cast : Cast K) → slice_get casts j ≡ Some cast → contains c cast.callers ≡ true →
        Contains {X = ℕ × ℕ} (map (λ (endpoint : Endpoint (PutterView Asked ℕ)). (endpoint.place, endpoint.pass.number)) (kills_of casts controls c)) (j, c)
    has_kill j c cast at named =
        let control = at_other (λ (control : ControlView). control.actor) (λ (cast : Cast K). cast.actor) controls casts actors j at in
        let has = has_of new_putter (λ (pass : PutterView Asked ℕ). pass.number)
        (λ line d. refl) line_of_control callers_in controls casts matched.callers_differ c j control.1 at named in
        contains_map {B = ℕ × ℕ} (λ (endpoint : Endpoint (PutterView Asked ℕ)). (endpoint.place, endpoint.pass.number)) (kills_of casts controls c)
        (record { place = j; pass = new_putter control.0.line c }) has

-- ---- all together

module _ {K : Type 0} (casts : List (Cast K)) (setups : List CallerSetup) (matched : AreMatched casts setups) (opened : Opened)
    (dealt : AreDealt casts setups opened) where
  abbrev mails : List MailView
  mails = opened.lines.mails.items

  abbrev controls : List ControlView
  controls = opened.lines.controls.items

  abbrev replies : List RepliesView
  replies = opened.lines.replies.items

  abbrev execs : List (Endpoint ExecPasses)
  execs = opened.execs.items

  abbrev callers : List (Endpoint CallerPasses)
  callers = opened.callers.items

  is_exec : (j : ℕ) (cast : Cast K) (exec : Endpoint ExecPasses) → slice_get casts j ≡ Some cast → slice_get execs j ≡ Some exec → IsExec opened.lines cast exec
  is_exec j cast exec at there =
      let place = place_is execs dealt.at_lines.exec_places j exec there in
      let mail =
      at_other (λ (mail : MailView). mail.line) (λ (exec : Endpoint ExecPasses). exec.pass.letters.line) mails execs (sym dealt.at_lines.mails) j there in
      let control = at_other (λ (control : ControlView). control.line) (λ (exec : Endpoint ExecPasses). exec.pass.kills.line) controls execs
      (sym dealt.at_lines.controls) j there in
      let notices : exec.pass.notices.items ≡ notices_of setups replies cast.actor = at_both (λ (exec : Endpoint ExecPasses). exec.pass.notices.items)
      (λ (cast : Cast K). notices_of setups replies cast.actor) execs casts dealt.notices j there at in
      let actor : exec.pass.kills.actor ≡ cast.actor =
      at_both (λ (exec : Endpoint ExecPasses). exec.pass.kills.actor) (λ (cast : Cast K). cast.actor) execs casts dealt.actors j there at in
      let bare = all_at (λ (exec : Endpoint ExecPasses). (exec.pass.kills.taken ≡ []) × (exec.pass.kills.stamps ≡ []) × (exec.pass.kills.lengths ≡ [])) execs j
      dealt.unasked there in
      let unread = all_at (λ (exec : Endpoint ExecPasses). (exec.pass.letters.taken ≡ []) × (exec.pass.letters.stamps ≡ [])) execs j dealt.unread there in
      record {
        fit = λ m k. record {
          mail_is = sym mail.2 ∙ ap line_of_mail (sym (get_or_from_slice_get mails j mail.0 m mail.1) ∙ ap (λ i. get_or mails i m) (sym place));
          control_is =
              sym control.2 ∙ ap line_of_control (sym (get_or_from_slice_get controls j control.0 k control.1) ∙ ap (λ i. get_or controls i k) (sym place));
          actor_is = actor;
          looked = omega arith;
          endpoints = subst (λ l. All (IsAtItsEndpoint replies cast.actor []) l) (sym notices)
              (endpoints_at casts setups matched replies dealt.lines.replies cast.actor);
          differ = subst (λ l. EndpointsDiffer replies l) (sym notices) (differ casts setups matched replies dealt.lines.replies cast.actor);
        };
        unused = record {
          callers_are = refl;
          letters = unread.0;
          letter_stamps = unread.1;
          kills = (bare.0, bare.2);
          kill_stamps = bare.1;
          given = subst (λ l. All (λ (endpoint : Endpoint ReplyExecView). endpoint.pass.given ≡ []) l) (sym notices) (each_notice casts setups matched replies
              dealt.lines.replies cast.actor (λ (endpoint : Endpoint ReplyExecView). endpoint.pass.given ≡ []) (λ i r setup is line named. refl));
          given_stamps = subst (λ l. All (λ (endpoint : Endpoint ReplyExecView). endpoint.pass.stamps ≡ []) l) (sym notices) (each_notice casts setups matched
              replies dealt.lines.replies cast.actor (λ (endpoint : Endpoint ReplyExecView). endpoint.pass.stamps ≡ []) (λ i r setup is line named. refl));
        };
        callers = λ c. ap (λ l. contains c (endpoint_callers replies l)) notices ∙ its_callers casts setups matched replies dealt.lines.replies j cast at c;
        askers =
            at_both (λ (exec : Endpoint ExecPasses). exec.pass.kills.askers) (λ (cast : Cast K). starter ∷ cast.callers) execs casts dealt.askers j there at;
      }

  is_caller : (i : ℕ) (setup : CallerSetup) (caller : Endpoint CallerPasses) → slice_get setups i ≡ Some setup → slice_get callers i ≡ Some caller →
      IsCaller opened.lines setup caller
  is_caller i setup caller at there r =
      let kills : caller.pass.kills.items ≡ kills_of casts controls setup.caller = at_both (λ (caller : Endpoint CallerPasses). caller.pass.kills.items)
      (λ (setup : CallerSetup). kills_of casts controls setup.caller) callers setups dealt.kills i there at in
      let place = place_is callers dealt.at_lines.caller_places i caller there in
      let line = at_other (λ (line : RepliesView). line.line) (λ (caller : Endpoint CallerPasses). caller.pass.collects.line) replies callers
      (sym dealt.at_lines.replies) i there in
      let letters : caller.pass.letters.items ≡ letters_of casts mails setup.caller = at_both (λ (caller : Endpoint CallerPasses). caller.pass.letters.items)
      (λ (setup : CallerSetup). letters_of casts mails setup.caller) callers setups dealt.letters i there at in
      let uncollected = all_at
      (λ (caller : Endpoint CallerPasses). (caller.pass.collects.taken ≡ []) × (caller.pass.collects.stamps ≡ [])) callers i dealt.uncollected there in
      record {
        collects = sym line.2 ∙ ap line_of_replies (sym (get_or_from_slice_get replies i line.0 r line.1) ∙ ap (λ k. get_or replies k r) (sym place));
        taken = uncollected.0;
        stamps = uncollected.1;
        letters =
            subst (λ l. All (IsFreshEndpoint mails setup.caller) l) (sym letters) (fresh_letters casts setups matched mails dealt.lines.mails setup.caller);
        distinct = subst (AreDistinct mails) (sym letters) (letters_apart casts setups matched mails dealt.lines.mails setup.caller);
        kills = subst (λ l. AreKillEndpoints controls l) (sym kills) (
          kill_endpoints casts setups matched controls dealt.lines.controls setup.caller,
          kills_apart casts setups matched controls dealt.lines.controls setup.caller,
        );
        asked = subst (All (λ (endpoint : Endpoint (PutterView Asked ℕ)). endpoint.pass.put ≡ [])) (sym kills) (each_kill casts setups matched controls
            dealt.lines.controls setup.caller (λ (endpoint : Endpoint (PutterView Asked ℕ)). endpoint.pass.put ≡ []) (λ k control cast is line named. refl));
        asked_stamps =
            subst (All (λ (endpoint : Endpoint (PutterView Asked ℕ)). endpoint.pass.stamps ≡ [])) (sym kills) (each_kill casts setups matched controls
            dealt.lines.controls setup.caller (λ (endpoint : Endpoint (PutterView Asked ℕ)). endpoint.pass.stamps ≡ []) (λ k control cast is line named. refl));
      }

  are_paired : ArePaired casts setups execs callers
  are_paired i j cast setup exec caller at there of_exec of_caller named =
      let letters : caller.pass.letters.items ≡ letters_of casts mails setup.caller = at_both (λ (caller : Endpoint CallerPasses). caller.pass.letters.items)
      (λ (setup : CallerSetup). letters_of casts mails setup.caller) callers setups dealt.letters i of_caller there in
      let kills : caller.pass.kills.items ≡ kills_of casts controls setup.caller = at_both (λ (caller : Endpoint CallerPasses). caller.pass.kills.items)
      (λ (setup : CallerSetup). kills_of casts controls setup.caller) callers setups dealt.kills i of_caller there in
      let notices : exec.pass.notices.items ≡ notices_of setups replies cast.actor = at_both (λ (exec : Endpoint ExecPasses). exec.pass.notices.items)
      (λ (cast : Cast K). notices_of setups replies cast.actor) execs casts dealt.notices j of_exec at in
      let r = at_other (λ (line : RepliesView). line.caller) (λ (setup : CallerSetup). setup.caller) replies setups dealt.lines.replies i there in
      let notice = has_notice casts setups matched replies dealt.lines.replies i j cast r.0 at there r.1 named in
      record {
        letters = subst (λ l. Contains (map (λ (endpoint : Endpoint (PutterView Letter Unit)). endpoint.place) l) j) (sym letters)
            (has_letter casts setups matched mails dealt.lines.mails j setup.caller cast at named);
        kills = subst (λ l. Contains {X = ℕ × ℕ} (map (λ (endpoint : Endpoint (PutterView Asked ℕ)). (endpoint.place, endpoint.pass.number)) l)
            (j, setup.caller)) (sym kills) (has_kill casts setups matched controls dealt.lines.controls j setup.caller cast at named);
        notices = subst (λ l. Contains (map (λ (endpoint : Endpoint ReplyExecView). endpoint.place) l) i) (sym notices) (contains_map (λ (endpoint : Endpoint
            ReplyExecView). endpoint.place) (notices_of setups replies cast.actor) (record { place = i; pass = new_exec r.0.line cast.actor }) notice);
      }

  pub are_opened : AreOpened casts setups opened
  are_opened = record {
    lines = dealt.lines;
    at_lines = dealt.at_lines;
    execs = each_at (IsExec opened.lines) casts execs
        (as_long (λ (exec : Endpoint ExecPasses). exec.pass.kills.actor) (λ (cast : Cast K). cast.actor) execs casts dealt.actors) is_exec;
    callers = each_at (IsCaller opened.lines) setups callers (as_long (λ (caller : Endpoint CallerPasses). caller.pass.letters.items)
        (λ (setup : CallerSetup). letters_of casts mails setup.caller) callers setups dealt.letters) is_caller;
    paired = are_paired;
  }
