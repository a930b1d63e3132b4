-- Kills: what was asked of each actor, at its endpoint.
use Rattle.act_drive.proofs.Common.{◌≡◌, ◌≢◌, ℕ, suc, ◌+◌, ◌<◌, ◌≤◌, ◌==◌, true, if◌then◌else◌, List, [], ◌∷◌, ◌++◌, length, get_or, set, sym, ◌∙◌, ap, subst}
use Rattle.act_drive.proofs.Common.{arith, rules, All, AllPairs, Contains, inl, inr, map, map-set_same, TakerView, set-get_or, length-map, get_or_default}
use Rattle.act_drive.proofs.Common.{get_or-set_same, get_or-set_other, length-set, ne_eqb, eqb_tells, leb_tells, All-push, All-set, Notice, Death, kept_at}
use Rattle.act_drive.proofs.Common.{RunItem, Step, Kill, Progress, holds, nothing_done, kills_to, copies_in, OwnerView, PutterView, ControlView, Asked}
use Rattle.act_drive.proofs.Common.{Endpoint, CallerLines, Driver, IsCalling, Stays, Waits, bare_post, bare_ask, FollowsBy, HasAsked, AreAsked}
use Rattle.act_drive.proofs.Common.{AreKillEndpoints, IsKillEndpoint, HasNamed}
use Rattle.act_drive.proofs.Noted.{noted_same}
use Rattle.act_drive.proofs.PlanSteps.{done_more, kills_more, no_kill, follows_waits}

-- ---- kills

one_kill : (a : ℕ) (steps : List Step) → kills_to a (steps ++ Kill a ∷ []) ≡ kills_to a steps + 1
one_kill a steps =
    kills_more a steps (Kill a) ∙ ap (λ t. kills_to a steps + length (if t then Kill a ∷ [] else [])) (let same : (a == a) ≡ true = search rules in same)

other_kill : (a b : ℕ) (steps : List Step) → a ≢ b → kills_to b steps ≡ kills_to b (steps ++ Kill a ∷ [])
other_kill a b steps apart = no_kill b steps (Kill a) (ne_eqb a b apart)

asked_dead : (taken : List Notice) (a b asked : ℕ) (steps : List Step) → Contains taken (Death a) → AreAsked taken b (kills_to b steps) asked →
    AreAsked taken b (kills_to b (steps ++ Kill a ∷ [])) asked
asked_dead taken a b asked steps dead is =
    elim (eqb_tells a b) [
      | inl t ↦ inr (fewer is (kills_more b steps (Kill a)), subst (λ n. Contains taken (Death n)) t.1 dead)
      | inr f ↦ subst (λ n. AreAsked taken b n asked) (other_kill a b steps f.1) is
    ]
  where
    fewer : AreAsked taken b (kills_to b steps) asked → kills_to b (steps ++ Kill a ∷ []) ≡ kills_to b steps + kills_to b (Kill a ∷ []) →
        asked ≤ kills_to b (steps ++ Kill a ∷ [])
    fewer (inl t) more = omega (arith, t, more)
    fewer (inr f) more = omega (arith, f.0, more)

asked_more : (taken : List Notice) (a : ℕ) {asked more : ℕ} (steps : List Step) → more ≡ asked + 1 → AreAsked taken a (kills_to a steps) asked →
    AreAsked taken a (kills_to a (steps ++ Kill a ∷ [])) more
asked_more taken a steps one (inl t) = inl (omega (arith, t, one, one_kill a steps))
asked_more taken a steps one (inr f) = inr (omega (arith, f.0, one, one_kill a steps), f.1)

pub kill_follows : (lines : CallerLines) {old between : Driver} (new : Driver) (a : ℕ) → Waits old between → new.owner ≡ between.owner → new.passes.collects ≡
    between.passes.collects → ((steps : List Step) → All (HasAsked lines.controls.now steps between.passes.collects.taken) between.passes.kills.items →
    All (HasAsked lines.controls.now (steps ++ Kill a ∷ []) between.passes.collects.taken) new.passes.kills.items) → FollowsBy lines (Kill a) old new
kill_follows lines {old} {between} new a waits is collects endpoints actors steps fine before =
    let f = follows_waits waits before in let more = done_more actors nothing_done steps (Kill a) fine in
    record {
      calls = ap (λ (o : OwnerView). o.calls) is ∙ f.calls ∙ sym (ap (λ (q : Progress). q.submitted) more);
      copies = λ b. ap (λ (o : OwnerView). copies_in b o.handles) is ∙ f.copies b ∙ sym (ap (holds b actors) more);
      kills = rw collects (endpoints steps f.kills);
    }

pub kills_dead : (controls : List ControlView) (taken : List Notice) (endpoints : List (Endpoint (PutterView Asked ℕ))) (a : ℕ) → Contains taken (Death a) →
    (steps : List Step) → All (HasAsked controls steps taken) endpoints → All (HasAsked controls (steps ++ Kill a ∷ []) taken) endpoints
kills_dead controls taken endpoints a dead steps all k s below d = asked_dead taken a _ _ steps dead (all k s below d)

-- the endpoints are at lines of different actors
other_endpoint : (controls : List ControlView) (endpoints : List (Endpoint (PutterView Asked ℕ))) (a at k : ℕ) (endpoint s : Endpoint (PutterView Asked ℕ))
    (d : ControlView) → AllPairs (λ one other. (e : ControlView) → (get_or controls one.place e).actor ≢ (get_or controls other.place e).actor) endpoints →
    at < length endpoints → k < length endpoints → k ≢ at → endpoint ≡ get_or endpoints at endpoint →
    ((e : ControlView) → (get_or controls endpoint.place e).actor ≡ a) → a ≢ (get_or controls (get_or endpoints k s).place d).actor
other_endpoint controls endpoints a at k endpoint s d apart below long ne here there same =
    let here2 : get_or endpoints at s ≡ endpoint = get_or_default endpoints at s endpoint below ∙ sym here in
    let eq : (get_or controls (get_or endpoints at s).place d).actor ≡ (get_or controls (get_or endpoints k s).place d).actor =
    ap (λ (x : Endpoint (PutterView Asked ℕ)). (get_or controls x.place d).actor) here2 ∙ there d ∙ same in
    elim (leb_tells (suc k) at) [
      | inl t ↦ apart k at s t.1 below d (sym eq)
      | inr f ↦ apart at k s (omega (arith, f.1, ne)) long d eq
    ]

-- one kill more at its endpoint
pub kills_asked : (controls : List ControlView) (taken : List Notice) (endpoints : List (Endpoint (PutterView Asked ℕ))) (a at : ℕ) (endpoint : Endpoint
    (PutterView Asked ℕ)) (pass : PutterView Asked ℕ) → AreKillEndpoints controls endpoints → at < length endpoints → endpoint ≡ get_or endpoints at endpoint →
    ((d : ControlView) → (get_or controls endpoint.place d).actor ≡ a) → length pass.put ≡ length endpoint.pass.put + 1 → (steps : List Step) → All (HasAsked
    controls steps taken) endpoints → All (HasAsked controls (steps ++ Kill a ∷ []) taken) (set endpoints at (record { place = endpoint.place; pass = pass }))
kills_asked controls taken endpoints a at endpoint pass good below here there one steps all k s inside d =
    let next : Endpoint (PutterView Asked ℕ) = record { place = endpoint.place; pass = pass } in
    let long : k < length endpoints = omega (arith, inside, length-set endpoints at next) in
    elim (eqb_tells k at) [
      | inl t ↦
          let now : get_or (set endpoints at next) k s ≡ next = ap (λ n. get_or (set endpoints at next) n s) t.1 ∙ get_or-set_same endpoints at next s below in
          let was : HasAsked controls steps taken endpoint = subst (HasAsked controls steps taken) (sym here) (all at endpoint below) in
          let mine : AreAsked taken a (kills_to a (steps ++ Kill a ∷ [])) (length pass.put) =
          asked_more taken a steps one (subst (λ n. AreAsked taken n (kills_to n steps) (length endpoint.pass.put)) (there d) (was d)) in
          subst (λ (x : Endpoint (PutterView Asked ℕ)). AreAsked taken (get_or controls x.place d).actor
          (kills_to (get_or controls x.place d).actor (steps ++ Kill a ∷ [])) (length x.pass.put)) (sym now)
          (subst (λ n. AreAsked taken n (kills_to n (steps ++ Kill a ∷ [])) (length pass.put)) (sym (there d)) mine)
      | inr f ↦
          let now : get_or (set endpoints at next) k s ≡ get_or endpoints k s = get_or-set_other endpoints at k next s f.1 in
          let apart : a ≢ (get_or controls (get_or endpoints k s).place d).actor =
          λ same. other_endpoint controls endpoints a at k endpoint s d good.1 below long f.1 here there same in
          subst (λ (x : Endpoint (PutterView Asked ℕ)). AreAsked taken (get_or controls x.place d).actor
          (kills_to (get_or controls x.place d).actor (steps ++ Kill a ∷ [])) (length x.pass.put)) (sym now)
          (subst (λ n. AreAsked taken (get_or controls (get_or endpoints k s).place d).actor n (length (get_or endpoints k s).pass.put))
          (other_kill a _ steps apart) (all k s long d))
    ]

set_place : (endpoints : List (Endpoint (PutterView Asked ℕ))) (at i : ℕ) {endpoint : Endpoint (PutterView Asked ℕ)} (s : Endpoint (PutterView Asked ℕ))
    (pass : PutterView Asked ℕ) → at < length endpoints → endpoint ≡ get_or endpoints at endpoint →
    (get_or (set endpoints at (record { place = endpoint.place; pass = pass })) i s).place ≡ (get_or endpoints i s).place
set_place endpoints at i {endpoint} s pass below here =
    let next : Endpoint (PutterView Asked ℕ) = record { place = endpoint.place; pass = pass } in
    elim (eqb_tells i at) [
      | inl t ↦ subst (λ n. (get_or (set endpoints at next) n s).place ≡ (get_or endpoints n s).place) (sym t.1)
          (ap (λ (x : Endpoint (PutterView Asked ℕ)). x.place) (get_or-set_same endpoints at next s below) ∙
          ap (λ (x : Endpoint (PutterView Asked ℕ)). x.place) (here ∙ get_or_default endpoints at endpoint s below))
      | inr f ↦ ap (λ (x : Endpoint (PutterView Asked ℕ)). x.place) (get_or-set_other endpoints at i next s f.1)
    ]

-- a caller after a kill is asked
pub calling_asked : {lines : CallerLines} {old : Driver} (new : Driver) (at : ℕ) (endpoint : Endpoint (PutterView Asked ℕ)) (pass : PutterView Asked ℕ) →
    at < length old.passes.kills.items → endpoint ≡ get_or old.passes.kills.items at endpoint → pass.line ≡ endpoint.pass.line →
    HasNamed lines.controls.now old.owner.id (record { place = endpoint.place; pass = pass }) → new.owner ≡ old.owner → new.outbox ≡ old.outbox →
    new.note_posted ≡ old.note_posted → new.passes.letters ≡ old.passes.letters → new.passes.collects ≡ old.passes.collects →
    new.passes.kills.items ≡ set old.passes.kills.items at (record { place = endpoint.place; pass = pass }) → IsCalling lines old → IsCalling lines new
calling_asked {lines} {old} new at endpoint pass below here line named is outbox flags letters collects kills calling =
    let endpoints = old.passes.kills.items in let controls = lines.controls.now in
    let next : Endpoint (PutterView Asked ℕ) = record { place = endpoint.place; pass = pass } in
    let was : IsKillEndpoint controls endpoint = subst (IsKillEndpoint controls) (sym here) (calling.kills.0 at endpoint below) in
    let one : IsKillEndpoint controls next = record { below = was.below; line = λ d. was.line d ∙ sym line } in
    let apart : AllPairs (λ one other. (e : ControlView) → (get_or controls one.place e).actor ≢ (get_or controls other.place e).actor)
    (set endpoints at next) = λ i j d lt inside e same.
    calling.kills.1 i j d lt (omega (arith, inside, length-set endpoints at next)) e
    (ap (λ n. (get_or controls n e).actor) (sym (set_place endpoints at i d pass below here)) ∙ same ∙
    ap (λ n. (get_or controls n e).actor) (set_place endpoints at j d pass below here)) in
    let good : AreKillEndpoints controls (set endpoints at next) = (All-set (IsKillEndpoint controls) endpoints at next one calling.kills.0, apart) in
    record {
      places = rw is calling.places;
      flags = rw is calling.flags;
      hears = rw (is, collects) calling.hears;
      collects = rw collects calling.collects;
      held = rw (is, outbox) calling.held;
      letters = rw (is, outbox, letters) calling.letters;
      kills = rw kills good;
      keeps = rw (is, outbox, letters, collects) calling.keeps;
      names = rw (is, kills) (All-set (HasNamed controls old.owner.id) endpoints at next named calling.names);
      note_posted = rw (is, letters) (noted_same old.owner old.passes.letters.items flags calling.note_posted);
    }

-- a kill more that names the actor of its line
pub named_more : (controls : List ControlView) (id a : ℕ) (endpoint : Endpoint (PutterView Asked ℕ)) (pass : PutterView Asked ℕ) (kill : Asked) →
    ((d : ControlView) → (get_or controls endpoint.place d).actor ≡ a) → kill.note ≡ record { caller = id; actor = a } →
    pass.put ≡ endpoint.pass.put ++ kill ∷ [] → HasNamed controls id endpoint → HasNamed controls id (record { place = endpoint.place; pass = pass })
named_more controls id a endpoint pass kill there note put named d =
    let one : kill.note ≡ record { caller = id; actor = (get_or controls endpoint.place d).actor } =
    note ∙ ap (λ n. record { caller = id; actor = n }) (sym (there d)) in
    subst (λ l. All (λ k. k.note ≡ record { caller = id; actor = (get_or controls endpoint.place d).actor }) l) (sym put)
    (All-push (λ (k : Asked). k.note ≡ record { caller = id; actor = (get_or controls endpoint.place d).actor }) endpoint.pass.put kill (named d) one)

-- ---- a kill that was refused

-- a kill more, or none, at an endpoint
pub asked_stays : (old new : Driver) (at : ℕ) {endpoint : Endpoint (PutterView Asked ℕ)} (pass : PutterView Asked ℕ) →
    endpoint ≡ get_or old.passes.kills.items at endpoint → bare_ask (record { place = endpoint.place; pass = pass }) ≡ bare_ask endpoint →
    new.owner ≡ old.owner → new.passes.kills.items ≡ set old.passes.kills.items at (record { place = endpoint.place; pass = pass }) →
    new.passes.letters ≡ old.passes.letters → new.passes.collects ≡ old.passes.collects → Stays old new
asked_stays old new at {endpoint} pass here same is kills letters collects = record {
  id = ap (λ (o : OwnerView). o.id) is;
  kept = λ k answer has. ap (λ (o : OwnerView). kept_at o.kept k) is ∙ has;
  limits = ap (λ (o : OwnerView). o.limits) is;
  passes = record {
    letters = ap (λ (v : _). map bare_post v.items) letters;
    kills = ap (λ l. map bare_ask l) kills ∙
        map-set_same bare_ask old.passes.kills.items at (record { place = endpoint.place; pass = pass }) endpoint (same ∙ ap bare_ask here);
    collects = collects ∙ sym (ap (λ (t : TakerView Notice RunItem). record old.passes.collects { taken = t.taken; stamps = t.stamps }) collects);
  };
}

-- the list of endpoints is as long as before
pub kills_long : (old new : Driver) → Stays old new → length new.passes.kills.items ≡ length old.passes.kills.items
kills_long old new stay = sym (length-map new.passes.kills.items bare_ask) ∙ ap (λ l. length l) stay.passes.kills ∙ length-map old.passes.kills.items bare_ask

pub ask_refused : (endpoints : List (Endpoint (PutterView Asked ℕ))) (at : ℕ) {endpoint : Endpoint (PutterView Asked ℕ)} {pass : PutterView Asked ℕ} →
    endpoint ≡ get_or endpoints at endpoint → pass ≡ endpoint.pass → set endpoints at (record { place = endpoint.place; pass = pass }) ≡ endpoints
ask_refused endpoints at {endpoint} {pass} here same =
    ap (λ p. set endpoints at (record { place = endpoint.place; pass = p })) same ∙ ap (λ x. set endpoints at x) here ∙ set-get_or endpoints at endpoint
